-- What a channel holds, by distance: laws on numbers and on lists of slots alone. Each slot takes as many numbers as it has pieces, a packet one.
-- The argument: a number is next exactly at distance 1; a dispatch moves the last number by as many as the slot takes and so brings all the others that much nearer;
-- all but the first of a list in order lie past distance 1, so that nothing follows once the first does not.
use Prim.Native.Nat.{ℕ, suc, ◌+◌, ◌-◌, ◌%◌, ◌≤◌, ◌<◌}
use mathlib.Core.Path.{◌≡◌, refl, ap, sym, subst, ◌∙◌}
use mathlib.Core.Bool.{Bool, true, false}
use mathlib.Core.List.{List, [], ◌∷◌, ◌++◌}
use mathlib.Core.Logic.{◌⊎◌, inl, inr, ⊎_elim}
use native.Mathlib.Omega.{arith}
use lib.Dec.{eqb, leb, ltb}
use lib.ListN.{length, take, drop, get_or, set}
use lib.Seq.{get_or-set_same, get_or-set_other}
use borrow.Author.Tests.{eqb-true, eqb-false, eq-eqb, ltb-true, ltb-false, lt-ltb, leb-true}
use Rattle.numbers.specs.Pick.{pick}
use Rattle.numbers.specs.Counters.{step}
use Rattle.numbers.proofs.BoolLaws.{both_left, both_right}
use Rattle.record.proofs.Keeps.{one, times}
use Rattle.record.specs.Fresh.{no_incoming}
use Rattle.record.specs.Damage.{all}
use Rattle.record.specs.declared.groups.Incoming.{Incoming}
use Rattle.dispatch.specs.Dispatching.{follows, number_after, ready_count, ready_last}
use Rattle.arrive_reliable.specs.Holding.{number_distance, number_at, place_of}
use Rattle.promises.specs.Held.{span_at, Rising, is_apart}
use Rattle.promises.proofs.Reporting.{follows-number}

-- the first of two tests, of which none is so
pub neither_first : (a b : Bool) → pick a true b ≡ false → a ≡ false
neither_first true b e = e
neither_first false b e = refl

-- ---- numbers below 65,536
pub next_near : (last : ℕ) → last < 65536 → number_distance last (step last) ≡ 1
next_near last h = omega (arith, h)

pub near_next : (last n : ℕ) → last < 65536 → n < 65536 → number_distance last n ≡ 1 → n ≡ step last
near_next last n h k e = omega (arith, h, k, e)

-- what is more than m away is m nearer once the last number moved by m
nearer : (last n m : ℕ) → last < 65536 → n < 65536 → m < number_distance last n → number_distance ((last + m) % 65536) n + m ≡ number_distance last n
nearer last n m h k e = go (ltb (last + m) 65536) refl
  where
    below : (next : ℕ) → next < 65536 → next ≡ last + m → number_distance next n + m ≡ number_distance last n
    below next l z = omega (arith, h, k, e, l, z)

    above : (next : ℕ) → next + 65536 ≡ last + m → number_distance next n + m ≡ number_distance last n
    above next z = omega (arith, h, k, e, z)

    go : (b : Bool) → ltb (last + m) 65536 ≡ b → number_distance ((last + m) % 65536) n + m ≡ number_distance last n
    go true t = let l = ltb-true (last + m) 65536 t in below ((last + m) % 65536) (omega arith) (omega (arith, l))
    go false t = let l = ltb-false (last + m) 65536 t in above ((last + m) % 65536) (omega (arith, l, h, e))

-- ---- how many numbers a slot takes
abbrev pub span_of : Incoming → ℕ
span_of i = pick (eqb i.fragments 0) 1 i.fragments

pub span_some : (i : Incoming) → 1 ≤ span_of i
span_some i = go (eqb i.fragments 0) refl
  where
    go : (b : Bool) → eqb i.fragments 0 ≡ b → 1 ≤ pick b 1 i.fragments
    go true e = omega arith
    go false e = omega (arith, eqb-false i.fragments 0 e)

-- the number that it leaves as the last, if it is next
after_next : (last : ℕ) (i : Incoming) → i.number.0 ≡ step last → number_after i ≡ (last + span_of i) % 65536
after_next last i e = go (eqb i.fragments 0) refl
  where
    go : (b : Bool) → eqb i.fragments 0 ≡ b
        → pick b i.number.0 ((i.number.0 + (i.fragments - 1)) % 65536) ≡ (last + pick b 1 i.fragments) % 65536
    go true t = e
    go false t = let some = eqb-false i.fragments 0 t in by i.number.0 i.fragments e some
      where
        by : (n k : ℕ) → n ≡ step last → (k ≡ 0 → ⊥) → (n + (k - 1)) % 65536 ≡ (last + k) % 65536
        by n k e some = omega (arith, e, some)

-- ---- what is held stands past k, each past the last number of the one before
-- a number of 16 bits, past k
pub record Past (last k n : ℕ) : Type 0 where
  pub low : n < 65536
  pub past : k < number_distance last n

abbrev pub Climbs : List Incoming → ℕ → ℕ → List ℕ → Type 0
Climbs slots last k [] = Unit {0}
Climbs slots last k (s ∷ ss) =
    Past last k (number_at slots s) × Climbs slots last (number_distance last (number_at slots s) + (span_at slots s - 1)) ss

-- of a channel with this last number
pub record Stands (slots : List Incoming) (last : ℕ) (ss : List ℕ) : Type 0 where
  pub low : last < 65536
  pub climbs : Climbs slots last 0 ss

-- and nothing is complete and next
pub record Rests (slots : List Incoming) (last : ℕ) (ss : List ℕ) : Type 0 where
  pub stands : Stands slots last ss
  pub waits : (s : ℕ) → 0 < times ss s → follows last (get_or slots s no_incoming) ≡ false

pub climbs_rising : (slots : List Incoming) (last k : ℕ) (ss : List ℕ) → Climbs slots last k ss → Rising slots last k ss
unfolding Rising
climbs_rising slots last k [] c = tt
climbs_rising slots last k (s ∷ ss) c =
    (c.0.past, climbs_rising slots last (number_distance last (number_at slots s) + (span_at slots s - 1)) ss c.1)

-- the first of a list is named, and so is what the rest names
pub named_first : (s : ℕ) (ss : List ℕ) → 0 < times (s ∷ ss) s
named_first s ss = let w : one s s ≡ 1 = rw (eq-eqb s s refl) in omega (arith, w)

pub named_rest : (s n : ℕ) (ss : List ℕ) → 0 < times ss n → 0 < times (s ∷ ss) n
named_rest s n ss h = omega (arith, h)

-- ---- slots alike: the same number and as many pieces
pub record Alike (i j : Incoming) : Type 0 where
  pub number : i.number.0 ≡ j.number.0
  pub fragments : i.fragments ≡ j.fragments

pub same_alike : (i j : Incoming) → i ≡ j → Alike i j
same_alike i j e = record { number = ap (λ (k : Incoming). k.number.0) e; fragments = ap (λ (k : Incoming). k.fragments) e }

module _ (slots now : List Incoming) (last : ℕ) where
  pub climbs_alike : (k : ℕ) (ss : List ℕ) → ((s : ℕ) → 0 < times ss s → Alike (get_or now s no_incoming) (get_or slots s no_incoming))
      → Climbs slots last k ss → Climbs now last k ss
  climbs_alike k [] e c = tt
  climbs_alike k (s ∷ ss) e c =
      let is = e s (named_first s ss) in
      let same =
      ap (λ (n : ℕ). number_distance last n + (span_at now s - 1)) is.number
      ∙ ap (λ (f : ℕ). number_distance last (number_at slots s) + (pick (eqb f 0) 1 f - 1)) is.fragments in (
        subst (Past last k) (sym is.number) c.0,
        subst (λ (m : ℕ). Climbs now last m ss) (sym same)
            (climbs_alike (number_distance last (number_at slots s) + (span_at slots s - 1)) ss (λ n h. e n (named_rest s n ss h)) c.1),
      )

  pub stands_alike : (ss : List ℕ) → ((s : ℕ) → 0 < times ss s → Alike (get_or now s no_incoming) (get_or slots s no_incoming))
      → Stands slots last ss → Stands now last ss
  stands_alike ss e c = record { low = c.low; climbs = climbs_alike 0 ss e c.climbs }

-- the same slots, as far as the list names them
pub rests_with : (slots now : List Incoming) (last : ℕ) (ss : List ℕ) → ((s : ℕ) → 0 < times ss s → get_or now s no_incoming ≡ get_or slots s no_incoming)
    → Rests slots last ss → Rests now last ss
rests_with slots now last ss e r =
    record {
      stands = stands_alike slots now last ss (λ s h. same_alike _ _ (e s h)) r.stands;
      waits = λ s h. ap (follows last) (e s h) ∙ r.waits s h;
    }

-- ---- a dispatch
module _ (slots : List Incoming) where
  abbrev at : ℕ → Incoming
  at s = get_or slots s no_incoming

  -- the last number moves by m
  moved : (last m j k : ℕ) (ss : List ℕ) → last < 65536 → k + m ≡ j → Climbs slots last j ss → Climbs slots ((last + m) % 65536) k ss
  moved last m j k [] h e c = tt
  moved last m j k (s ∷ ss) h e c =
      let n = number_at slots s in
      let far = c.0.past in
      let less = nearer last n m h c.0.low (omega (arith, far, e)) in (
        record { low = c.0.low; past = omega (arith, far, e, less) },
        moved last m (number_distance last n + (span_at slots s - 1)) (number_distance ((last + m) % 65536) n + (span_at slots s - 1)) ss h (omega (arith, less))
            c.1,
      )

  -- what is past distance 1 does not follow
  far_waits : (last : ℕ) (i : Incoming) → last < 65536 → 1 < number_distance last i.number.0 → follows last i ≡ false
  far_waits last i h far = go (follows last i) refl
    where
      go : (b : Bool) → follows last i ≡ b → b ≡ false
      go true e = absurd (omega (arith, far, ap (number_distance last) (follows-number last i e), next_near last h))
      go false e = refl

  rest_waits : (last k : ℕ) (ss : List ℕ) → last < 65536 → 1 ≤ k → Climbs slots last k ss → (s : ℕ) → 0 < times ss s → follows last (at s) ≡ false
  rest_waits last k [] h l c s z = absurd (omega (arith, z))
  rest_waits last k (x ∷ xs) h l c s z =
      let far = c.0.past in
      go (rest_waits last (number_distance last (number_at slots x) + (span_at slots x - 1)) xs h (omega (arith, far, l)) c.1 s) (eqb x s) refl z
    where
      go : (0 < times xs s → follows last (at s) ≡ false) → (b : Bool) → eqb x s ≡ b → 0 < pick b 1 0 + times xs s → follows last (at s) ≡ false
      go rest true e z =
          let far = c.0.past in
          subst (λ (n : ℕ). follows last (at n) ≡ false) (eqb-true x s e) (far_waits last (at x) h (omega (arith, far, l)))
      go rest false e z = rest (omega (arith, z))

  -- the first does not follow
  first_waits : (last s : ℕ) (ss : List ℕ) → Stands slots last (s ∷ ss) → follows last (at s) ≡ false → Rests slots last (s ∷ ss)
  first_waits last s ss c e = record { stands = c; waits = λ n z. go n (eqb s n) refl z }
    where
      go : (n : ℕ) (b : Bool) → eqb s n ≡ b → 0 < pick b 1 0 + times ss n → follows last (at n) ≡ false
      go n true t z = subst (λ (m : ℕ). follows last (at m) ≡ false) (eqb-true s n t) e
      go n false t z =
          let far = c.climbs.0.past in
          rest_waits last (number_distance last (number_at slots s) + (span_at slots s - 1)) ss c.low (omega (arith, far)) c.climbs.1 n (omega (arith, z))

  pub left_rests : (ss : List ℕ) (last : ℕ) → Stands slots last ss → Rests slots (ready_last slots ss last) (drop (ready_count slots ss last) ss)
  unfolding ready_count ready_last
  left_rests [] last c = record { stands = c; waits = λ s z. absurd (omega (arith, z)) }
  left_rests (s ∷ ss) last c = go (follows last (at s)) refl (left_rests ss (number_after (at s)))
    where
      m : ℕ
      m = number_after (at s)

      go : (b : Bool) → follows last (at s) ≡ b
          → (Stands slots m ss → Rests slots (ready_last slots ss m) (drop (ready_count slots ss m) ss))
          → Rests slots (pick b (ready_last slots ss m) last) (drop (pick b (suc (ready_count slots ss m)) 0) (s ∷ ss))
      go true e rest =
          let is = follows-number last (at s) e in
          let one_past = ap (number_distance last) is ∙ next_near last c.low in
          let some = span_some (at s) in
          let k = span_of (at s) in
          rest
          (subst (λ (n : ℕ). Stands slots n ss) (sym (after_next last (at s) is))
          (record {
            low = omega arith;
            climbs = moved last k (number_distance last (number_at slots s) + (k - 1)) 0 ss c.low (omega (arith, one_past, some)) c.climbs.1;
          }))
      go false e rest = first_waits last s ss c e

-- ---- a slot written that the list does not name, and then named in its place
pub apart_ways : (d k e j : ℕ) → is_apart d k e j ≡ true → (d + k ≤ e) ⊎ (e + j ≤ d)
apart_ways d k e j = go (leb (d + k) e) refl
  where
    go : (b : Bool) → leb (d + k) e ≡ b → pick b true (leb (e + j) d) ≡ true → (d + k ≤ e) ⊎ (e + j ≤ d)
    go true t z = inl (leb-true (d + k) e t)
    go false t z = inr (leb-true (e + j) d z)

-- what is no farther than all that is held stands before it
pub nearest : (slots : List Incoming) (last k : ℕ) (ss : List ℕ) → Climbs slots last k ss → place_of slots ss last k ≡ 0
unfolding place_of
nearest slots last k [] c = refl
nearest slots last k (s ∷ ss) c = rw (lt-ltb k (number_distance last (number_at slots s)) c.0.past)

module _ (slots : List Incoming) (n : ℕ) (i : Incoming) where
  abbrev with : List Incoming
  with = set slots n i

  pub unnamed_same : (ss : List ℕ) → times ss n ≡ 0 → (s : ℕ) → 0 < times ss s → get_or with s no_incoming ≡ get_or slots s no_incoming
  unnamed_same ss e s h = get_or-set_other slots n s i no_incoming (λ z. let w = ap (times ss) z in omega (arith, e, h, w))

  module _ (last : ℕ) (here : n < length slots) (low : i.number.0 < 65536) where
    abbrev d : ℕ
    d = number_distance last i.number.0

    abbrev apart : ℕ → Bool
    apart s = is_apart d (span_of i) (number_distance last (number_at slots s)) (span_at slots s)

    own : get_or with n no_incoming ≡ i
    own = get_or-set_same slots n i no_incoming here

    abbrev place : List ℕ → ℕ
    place ss = place_of slots ss last d

    abbrev Placed : ℕ → List ℕ → Type 0
    Placed k ss = Climbs with last k (take (place ss) ss ++ (n ∷ drop (place ss) ss))

    -- it stands first of what follows it
    foremost : (k : ℕ) (ss : List ℕ) → k < d → Climbs with last (d + (span_of i - 1)) ss → Climbs with last k (n ∷ ss)
    foremost k ss z c =
        subst (λ (j : Incoming). Past last k j.number.0 × Climbs with last (number_distance last j.number.0 + (span_of j - 1)) ss) (sym own)
        (record { low = low; past = z }, c)

    pub placed_climbs : (k : ℕ) (ss : List ℕ) → times ss n ≡ 0 → all apart ss ≡ true → k < d → Climbs slots last k ss → Placed k ss
    unfolding place_of all
    placed_climbs k [] e f z c = foremost k [] z tt
    placed_climbs k (s ∷ ss) e f z c =
        go (ltb d (number_distance last m)) refl
        (λ near. placed_climbs (number_distance last m + (j - 1)) ss (omega (arith, e)) (both_right (apart s) (all apart ss) f) near c.1)
      where
        m : ℕ
        m = number_at slots s

        j : ℕ
        j = span_at slots s

        ways : (d + span_of i ≤ number_distance last m) ⊎ (number_distance last m + j ≤ d)
        ways = apart_ways d (span_of i) (number_distance last m) j (both_left (apart s) (all apart ss) f)

        go : (b : Bool) → ltb d (number_distance last m) ≡ b
            → (number_distance last m + (j - 1) < d → Placed (number_distance last m + (j - 1)) ss)
            → let at = pick b 0 (suc (place ss)) in Climbs with last k (take at (s ∷ ss) ++ (n ∷ drop at (s ∷ ss)))
        go true t rest =
            let near = ltb-true d (number_distance last m) t in
            let some = span_some i in
            let past : d + (span_of i - 1) < number_distance last m =
            ⊎_elim (λ w. omega (arith, some, w)) (λ w. absurd (omega (arith, near, w))) ways in
            foremost k (s ∷ ss) z
            (climbs_alike slots with last (d + (span_of i - 1)) (s ∷ ss) (λ x h. same_alike _ _ (unnamed_same (s ∷ ss) e x h))
            (record { low = c.0.low; past = past }, c.1))
        go false t rest =
            let far = ltb-false d (number_distance last m) t in
            let some = span_some i in
            let own_some = span_some (get_or slots s no_incoming) in
            let before : number_distance last m + (j - 1) < d =
            ⊎_elim (λ w. absurd (omega (arith, far, some, w))) (λ w. omega (arith, own_some, w)) ways in
            subst (λ (x : Incoming). Past last k x.number.0 × Placed (number_distance last x.number.0 + (span_of x - 1)) ss)
            (sym (unnamed_same (s ∷ ss) e s (named_first s ss))) (c.0, rest before)
