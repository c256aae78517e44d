-- What the log says of the window: a group delivered m windows ago, no reset since, has the base m windows past its own window, and is
-- marked where m is 0. So at most 32 windows later it is passed over, and it is taken again only 64 windows later.
-- The argument: sums and remainders; at m = 0 the mark, from 1 to 32 the distance.
use Prim.Native.Nat.{ℕ, ◌+◌, ◌*◌, ◌/◌, ◌%◌, ◌≤◌, ◌<◌}
use mathlib.Core.Path.{◌≡◌, refl, ap, sym, ◌∙◌}
use mathlib.Core.Bool.{Bool, true, false}
use mathlib.Core.List.{List, [], ◌∷◌}
use native.Mathlib.Nat.{add_comm}
use native.Mathlib.Omega.{arith}
use lib.Dec.{ltb, eqb}
use lib.ListN.{length, get_or, length-set, length-replicate}
use borrow.Author.Tests.{ltb-true, ltb-false, le-leb, eqb-true, eqb-false, eq-eqb}
use Rattle.numbers.specs.Pick.{pick}
use Rattle.numbers.specs.Answers.{Answer, done, numbers_of}
use Rattle.window.specs.Window.{first, distant, marked, marking, cleared, by_tests, base_after, words_after, answer_after, windows_moved}
use Rattle.window.proofs.Marks.{marked_after, marked_same}
use Rattle.window.proofs.Moves.{taken_near, taken_base, taken_by}
use Rattle.peer.specs.declared.Peer.{Peer}
use Rattle.peer.specs.Outcome.{State}
use Rattle.promises.specs.History.{Event, since, windows}
use Rattle.promises.proofs.Picks.{tested}

pub record Window : Type 0 where
  pub base : ℕ
  pub words : List ℕ

abbrev pub window_in : Peer → Window
window_in p = record { base = p.unsequenced.incoming.0; words = p.unsequenced.words }

abbrev pub window_of : State → Window
window_of x = window_in x.peer

-- how far the base moved between two windows
abbrev pub apart : Window → Window → ℕ
apart w v = windows_moved w.base v.base

-- all its words, and a base that is the first group of a window
pub record Regular (w : Window) : Type 0 where
  pub full : length w.words ≡ 32
  pub small : w.base < 65536
  pub even : w.base % 1024 ≡ 0

-- of a group delivered m windows ago
pub record Known (w : Window) (g m : ℕ) : Type 0 where
  pub fits : g < 65536
  pub place : w.base ≡ (first g + 1024 * m) % 65536
  pub marks : m ≡ 0 → marked w.words g ≡ true

-- what holds of the window and the log, from a reset on
pub record Holds (w : Window) (log : List Event) : Type 0 where
  pub regular : Regular w
  pub known : (g m : ℕ) → since g log ≡ windows m → Known w g m

-- a group that the window took: base and words then, the group marked or not
pub record Took (w v : Window) (g : ℕ) (marks : Bool) : Type 0 where
  pub fits : g < 65536
  pub taken : answer_after w.base w.words g ≡ done (1 ∷ [])
  pub base : v.base ≡ base_after w.base w.words g
  pub words : v.words ≡ pick marks (marking (words_after w.base w.words g) g) (words_after w.base w.words g)

pub length-marking : (words : List ℕ) (g : ℕ) → length (marking words g) ≡ length words
unfolding marking
length-marking words g = length-set words (g % 1024 / 32) _

-- what a window that took a group looks like then
module _ {w v : Window} {g : ℕ} {marks : Bool} (t : Took w v g marks) (r : Regular w) where
  -- the base is the first group of g's window, so many windows on
  pub took_base : v.base ≡ first g
  took_base = t.base ∙ taken_base w.base w.words g t.taken

  pub took_by : v.base ≡ (w.base + 1024 * apart w v) % 65536
  took_by = rw t.base (taken_by w.base w.words g t.taken r.even r.small t.fits)

  after_full : length (words_after w.base w.words g) ≡ 32
  after_full =
      tested w.base w.words g (λ (l : List ℕ). length l ≡ 32) w.words cleared w.words w.words r.full
      (λ n e. length-replicate {A = ℕ} 32 0) r.full (λ n e m. r.full)

  pub took_regular : Regular v
  took_regular =
      let fits = t.fits in
      let base = took_base in
      record { full = rw t.words (go marks); small = omega arith; even = omega arith }
    where
      go : (b : Bool) → length (pick b (marking (words_after w.base w.words g) g) (words_after w.base w.words g)) ≡ 32
      go true = length-marking (words_after w.base w.words g) g ∙ after_full
      go false = after_full

  pub took_marked : marks ≡ true → marked v.words g ≡ true
  took_marked m = rw (t.words, m) (marked_same (words_after w.base w.words g) g after_full)

  -- where the base did not move, nothing was cleared
  module _ (still : apart w v ≡ 0) where
    home : first g ≡ w.base
    home = let small = r.small in let by = took_by in let base = took_base in omega arith

    words_kept : words_after w.base w.words g ≡ w.words
    words_kept = simp (taken_near w.base w.words g t.taken, eq-eqb (first g) w.base home) (go (marked w.words g))
      where
        go : (b : Bool) → pick b w.words w.words ≡ w.words
        go true = refl
        go false = refl

    pub marks_kept : (h : ℕ) → marked w.words h ≡ true → marked v.words h ≡ true
    marks_kept h m = rw (t.words, words_kept) (go marks)
      where
        go : (b : Bool) → marked (pick b (marking w.words g) w.words) h ≡ true
        go true = marked_after w.words g h r.full ∙ rw m (by_place (eqb (h % 1024) (g % 1024)))
          where
            by_place : (e : Bool) → pick e true true ≡ true
            by_place true = refl
            by_place false = refl
        go false = m

-- a base that went past 65,535 since g's window, and stands at or below g, is 32,768 below it
behind : (base f g m : ℕ) → 1 ≤ m → m ≤ 32 → f < 65536 → f ≤ g → g < f + 1024 → base ≡ (f + 1024 * m) % 65536 → base ≤ g
    → base + 32768 ≤ g
behind base f g m low high small le near place under = go (ltb (f + 1024 * m) 65536) refl
  where
    go : (b : Bool) → ltb (f + 1024 * m) 65536 ≡ b → base + 32768 ≤ g
    go true t = let l = ltb-true (f + 1024 * m) 65536 t in omega arith
    go false t = let l = ltb-false (f + 1024 * m) 65536 t in omega arith

-- two moves of a base are one
pub place_after : (base after f n m : ℕ) → after ≡ (base + 1024 * n) % 65536 → base ≡ (f + 1024 * m) % 65536
    → after ≡ (f + 1024 * (n + m)) % 65536
place_after base after f n m p q = omega arith

-- a base that moved and is back where it was went round: 64 windows or more
turned : (f n : ℕ) → f ≡ (f + 1024 * n) % 65536 → (n ≡ 0 → ⊥) → 64 ≤ n
turned f n back some = go (ltb (f + 1024 * n) 65536) refl
  where
    go : (b : Bool) → ltb (f + 1024 * n) 65536 ≡ b → 64 ≤ n
    go true t = let l = ltb-true (f + 1024 * n) 65536 t in omega arith
    go false t = let l = ltb-false (f + 1024 * n) 65536 t in omega arith

module _ {w : Window} {g m : ℕ} (k : Known w g m) where
  far_off : 1 ≤ m → m ≤ 32 → distant w.base g ≡ true
  far_off low high = go (ltb g w.base) refl
    where
      go : (b : Bool) → ltb g w.base ≡ b → distant w.base g ≡ true
      go true t =
          let fits = k.fits in
          let place = k.place in
          let l = ltb-true g w.base t in
          simp t (le-leb (w.base + 32768) (g + 65536) (omega arith))
      go false t =
          let fits = k.fits in
          let l = ltb-false g w.base t in
          simp t
          (le-leb (w.base + 32768) g
          (behind w.base (first g) g m low high (omega arith) (omega arith) (omega arith) k.place l))

  at_home : m ≡ 0 → first g ≡ w.base
  at_home z = let fits = k.fits in let place = k.place in omega arith

  -- whatever would come of it: it is passed over
  pub passes : {A : Type 0} (pass move fresh : A) → m ≤ 32 → by_tests w.base w.words g pass move pass fresh ≡ pass
  passes pass move fresh high = go (eqb m 0) refl
    where
      home : m ≡ 0 → (d : Bool) → distant w.base g ≡ d → by_tests w.base w.words g pass move pass fresh ≡ pass
      home z true d = simp d
      home z false d = simp (d, eq-eqb (first g) w.base (at_home z), k.marks z)

      go : (b : Bool) → eqb m 0 ≡ b → by_tests w.base w.words g pass move pass fresh ≡ pass
      go true t = home (eqb-true m 0 t) (distant w.base g) refl
      go false t = let n = eqb-false m 0 t in simp (far_off (omega arith) high)

  -- taken again, its own move counted
  pub taken_again : {v : Window} {marks : Bool} → Took w v g marks → Regular w → 64 ≤ m + apart w v
  taken_again {v} {marks} t r = rw (add_comm m (apart w v)) (turned (first g) (apart w v + m) back some)
    where
      back : first g ≡ (first g + 1024 * (apart w v + m)) % 65536
      back = sym (took_base t r) ∙ place_after w.base v.base (first g) (apart w v) m (took_by t r) k.place

      -- at m = 0 it is marked, and a marked group of the base's window is passed over
      some : apart w v + m ≡ 0 → ⊥
      some z =
          let none : m ≡ 0 = omega arith in
          let marked_still = k.marks none in
          let near = taken_near w.base w.words g t.taken in
          let here = eq-eqb (first g) w.base (at_home none) in
          omega (arith, ap (λ (a : Answer). get_or (numbers_of a) 0 0) (simp (near, here, marked_still) at t.taken))
