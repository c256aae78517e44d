-- The walk over the incoming slots: a turn of `size`, `put` and `lay`, and the end. The argument: what all slots make is what those that are left make, once those before
-- are done; a slot's bytes lie inside its store, so there are as many as its length says.
use Prim.Native.Nat.{ℕ, ◌+◌, ◌*◌, ◌≤◌, ◌<◌, min}
use mathlib.Core.Path.{◌≡◌, refl, ap, sym, ◌∙◌}
use mathlib.Core.Bool.{Bool, true, false}
use mathlib.Core.List.{List, [], ◌∷◌, ◌++◌}
use native.Mathlib.Omega.{arith}
use lib.ListN.{length, take, drop, get_or, length-drop, length-append}
use lib.Seq.{paste, sets, sets-eq, drop-drop, length-take-le}
use Rattle.numbers.specs.Pick.{pick}
use Rattle.command.proofs.ByteLaws.{sets_append}
use Rattle.cells.proofs.Views.{rest_step, rest_end}
use Rattle.record.specs.Blocks.{is_block}
use Rattle.record.specs.Fresh.{no_incoming}
use Rattle.record.specs.declared.groups.Incoming.{Incoming}
use Rattle.peer.specs.declared.Peer.{Peer}
use Rattle.order.specs.Table.{used_incoming}
use Rattle.snapshot_parts.specs.Stored.{stored_length, stored_bytes, stored_total, stored_from, Stores, stores, laid_one, laid_from}
use Rattle.snapshot_parts.specs.CodeStored.{used_at}

-- ---- a copy sets the bytes that it takes
pub paste_sets : (d s : List ℕ) (at n : ℕ) → at + n ≤ length d → n ≤ length s → paste d at s n ≡ sets d at (take n s)
paste_sets d s at n h k =
    let l : length (take n s) ≡ n = length-take-le n s k in
    ap (λ (m : ℕ). take at d ++ take n s ++ drop (at + m) d) (sym l) ∙ sym (sets-eq (take n s) d at (rw l h))

-- ---- one slot
pub length_most : (i : Incoming) → stored_length i ≤ 32768
length_most i = go (is_block i)
  where
    go : (b : Bool) → min i.length (pick b 32768 4096) ≤ 32768
    go true = omega arith
    go false = omega arith

-- its bytes lie inside its store
module _ (i : Incoming) (s : ℕ) where
  pub block_inside : is_block i ≡ true → stored_length i ≤ 32768
  block_inside b = length_most i

  pub cell_inside : is_block i ≡ false → s < 12 → s * 4096 + stored_length i ≤ 49152
  cell_inside b h =
      let n : stored_length i ≡ min i.length 4096 = ap (λ (t : Bool). min i.length (pick t 32768 4096)) b in
      omega (arith, n)

module _ (store second : List ℕ) (l : length store ≡ 49152) (m : length second ≡ 32768) where
  slot_length : (i : Incoming) (s : ℕ) → s < 12 → length (stored_bytes store second s i) ≡ stored_length i
  slot_length i s h = go (is_block i) refl
    where
      go : (b : Bool) → is_block i ≡ b → length (take (stored_length i) (pick b second (drop (s * 4096) store))) ≡ stored_length i
      go true e = length-take-le (stored_length i) second (omega (arith, block_inside i s e, m))
      go false e = length-take-le (stored_length i) (drop (s * 4096) store) (rw length-drop (omega (arith, cell_inside i s e h, l)))

  -- and all slots' bytes are as many as they say
  pub stored_length_lem : (used : ℕ → Bool) (s : ℕ) (is : List Incoming) → s + length is ≤ 12 → length (stored_from used store second s is) ≡ stored_total used s is
  unfolding stored_from stored_total
  stored_length_lem used s [] h = refl
  stored_length_lem used s (i ∷ is) h =
      length-append (pick (used s) (stored_bytes store second s i) []) (stored_from used store second (s + 1) is)
      ∙ ap (λ (n : ℕ). length (pick (used s) (stored_bytes store second s i) []) + n) (stored_length_lem used (s + 1) is (omega arith))
      ∙ ap (λ (n : ℕ). n + stored_total used (s + 1) is) (go (used s))
    where
      go : (b : Bool) → length (pick b (stored_bytes store second s i) []) ≡ pick b (stored_length i) 0
      go true = slot_length i s (omega arith)
      go false = refl

-- at most a store's a slot
pub total_few : (used : ℕ → Bool) (s : ℕ) (is : List Incoming) → stored_total used s is ≤ 32768 * length is
unfolding stored_total
total_few used s [] = omega arith
total_few used s (i ∷ is) = omega (arith, go (used s), total_few used (s + 1) is)
  where
    go : (b : Bool) → pick b (stored_length i) 0 ≤ 32768
    go true = length_most i
    go false = omega arith

-- the cases of the code: a block, or a cell
module _ (i : Incoming) (n s at : ℕ) (is : n ≡ stored_length i) where
  pub put_block : (store second b c : List ℕ) → is_block i ≡ true → at + n ≤ length b → n ≤ length second → c ≡ paste b at (drop 0 second) n → c ≡ sets b at (stored_bytes store second s i)
  put_block store second b c e h k q =
      q
      ∙ paste_sets b second at n h k
      ∙ ap (λ (m : ℕ). sets b at (take m second)) is
      ∙ ap (λ (t : Bool). sets b at (take (stored_length i) (pick t second (drop (s * 4096) store)))) (sym e)

  pub put_cell : (store second b c : List ℕ) → is_block i ≡ false → at + n ≤ length b → s * 4096 + n ≤ length store → c ≡ paste b at (drop (s * 4096) store) n → c ≡ sets b at (stored_bytes store second s i)
  put_cell store second b c e h k q =
      q
      ∙ paste_sets b (drop (s * 4096) store) at n h (rw (length-drop (s * 4096) store) (omega arith))
      ∙ ap (λ (m : ℕ). sets b at (take m (drop (s * 4096) store))) is
      ∙ ap (λ (t : Bool). sets b at (take (stored_length i) (pick t second (drop (s * 4096) store)))) (sym e)

  abbrev chosen : Bool → List ℕ → List ℕ → List ℕ → Stores
  chosen b store second bs = pick b (stores store (sets second 0 bs)) (stores (sets store (s * 4096) bs) second)

  pub lay_block : (store second bytes t : List ℕ) → is_block i ≡ true → n ≤ length second → at + n ≤ length bytes → t ≡ paste second 0 (drop at bytes) n
      → stores store t ≡ laid_one s i (take (stored_length i) (drop at bytes)) (stores store second)
  lay_block store second bytes t e h k q =
      ap (stores store) (q ∙ paste_sets second (drop at bytes) 0 n (omega arith) (rw (length-drop at bytes) (omega arith)) ∙ ap (λ (m : ℕ). sets second 0 (take m (drop at bytes))) is)
      ∙ ap (λ (b : Bool). chosen b store second (take (stored_length i) (drop at bytes))) (sym e)

  pub lay_cell : (store second bytes t : List ℕ) → is_block i ≡ false → s * 4096 + n ≤ length store → at + n ≤ length bytes → t ≡ paste store (s * 4096) (drop at bytes) n
      → stores t second ≡ laid_one s i (take (stored_length i) (drop at bytes)) (stores store second)
  lay_cell store second bytes t e h k q =
      ap (λ (u : List ℕ). stores u second) (q ∙ paste_sets store (drop at bytes) (s * 4096) n h (rw (length-drop at bytes) (omega arith)) ∙ ap (λ (m : ℕ). sets store (s * 4096) (take m (drop at bytes))) is)
      ∙ ap (λ (b : Bool). chosen b store second (take (stored_length i) (drop at bytes))) (sym e)

-- ---- the slots from slot k on
module _ (p : Peer) where
  abbrev used : ℕ → Bool
  used = used_incoming p

  abbrev pub total_left : ℕ → ℕ
  total_left k = stored_total used k (drop k p.incoming)

  abbrev pub bytes_left : List ℕ → List ℕ → ℕ → List ℕ
  bytes_left store second k = stored_from used store second k (drop k p.incoming)

  abbrev pub laid_left : ℕ → List ℕ → Stores → Stores
  laid_left k bs y = laid_from used k (drop k p.incoming) bs y

  module _ (k : ℕ) (h : length p.incoming ≤ k) where
    none : drop k p.incoming ≡ []
    none = rest_end p.incoming k h

    total_end : total_left k ≡ 0
    unfolding stored_total
    total_end = ap (stored_total used k) none

    bytes_end : (store second : List ℕ) → bytes_left store second k ≡ []
    unfolding stored_from
    bytes_end store second = ap (stored_from used store second k) none

    laid_end : (bs : List ℕ) (y : Stores) → laid_left k bs y ≡ y
    unfolding laid_from
    laid_end bs y = ap (λ (is : List Incoming). laid_from used k is bs y) none

  module _ (k : ℕ) (h : k < length p.incoming) where
    some : drop k p.incoming ≡ get_or p.incoming k no_incoming ∷ drop (k + 1) p.incoming
    some = rest_step p.incoming k no_incoming h

    total_step : total_left k ≡ stored_length (used_at p k) + total_left (k + 1)
    unfolding stored_total no_incoming
    total_step = ap (stored_total used k) some ∙ go (used k)
      where
        go : (b : Bool)
            → pick b (stored_length (get_or p.incoming k no_incoming)) 0 + total_left (k + 1)
            ≡ stored_length (pick b (get_or p.incoming k no_incoming) no_incoming) + total_left (k + 1)
        go true = refl
        go false = refl

    bytes_step : (store second : List ℕ) → bytes_left store second k ≡ stored_bytes store second k (used_at p k) ++ bytes_left store second (k + 1)
    unfolding stored_from no_incoming
    bytes_step store second = ap (stored_from used store second k) some ∙ go (used k)
      where
        go : (b : Bool)
            → pick b (stored_bytes store second k (get_or p.incoming k no_incoming)) [] ++ bytes_left store second (k + 1)
            ≡ stored_bytes store second k (pick b (get_or p.incoming k no_incoming) no_incoming) ++ bytes_left store second (k + 1)
        go true = refl
        go false = refl

    laid_step : (bytes : List ℕ) (at : ℕ) (y : Stores)
        → laid_left k (drop at bytes) y
        ≡ laid_left (k + 1) (drop (at + stored_length (used_at p k)) bytes) (laid_one k (used_at p k) (take (stored_length (used_at p k)) (drop at bytes)) y)
    unfolding laid_from no_incoming
    laid_step bytes at y = ap (λ (is : List Incoming). laid_from used k is (drop at bytes) y) some ∙ go (used k)
      where
        go : (b : Bool)
            → pick b (laid_left (k + 1) (drop (stored_length (get_or p.incoming k no_incoming)) (drop at bytes)) (laid_one k (get_or p.incoming k no_incoming) (take (stored_length (get_or p.incoming k no_incoming)) (drop at bytes)) y)) (laid_left (k + 1) (drop at bytes) y)
            ≡ laid_left (k + 1) (drop (at + stored_length (pick b (get_or p.incoming k no_incoming) no_incoming)) bytes)
            (laid_one k (pick b (get_or p.incoming k no_incoming) no_incoming) (take (stored_length (pick b (get_or p.incoming k no_incoming) no_incoming)) (drop at bytes)) y)
        go true = ap (λ (bs : List ℕ). laid_left (k + 1) bs (laid_one k (get_or p.incoming k no_incoming) (take (stored_length (get_or p.incoming k no_incoming)) (drop at bytes)) y)) (drop-drop (stored_length (get_or p.incoming k no_incoming)) at bytes)
        go false = let z : at ≡ at + 0 = omega arith in ap (λ (n : ℕ). laid_left (k + 1) (drop n bytes) y) z

-- ---- how many bytes
pub record Sizing (p : Peer) (total k : ℕ) : Type 0 where
  pub few : total ≤ 32768 * k
  pub all : total + total_left p k ≡ total_left p 0

module _ (p : Peer) (l : length p.incoming ≡ 12) (total k : ℕ) (s : Sizing p total k) where
  pub size_end : 12 ≤ k → total ≡ total_left p 0
  size_end h = omega (arith, s.all, total_end p k (omega arith))

  module _ (i : Incoming) (here : i ≡ used_at p k) (n : ℕ) (is : n ≡ stored_length i) where
    size_few : n ≤ 32768
    size_few = omega (arith, is, length_most i)

    pub size_turn : k < 12 → Sizing p (total + n) (k + 1)
    size_turn h =
        record {
          few = omega (arith, s.few, size_few);
          all = omega (arith, s.all, total_step p k (omega arith), is, ap (λ (j : Incoming). stored_length j) here);
        }

-- ---- written
pub record Putting (p : Peer) (store second b₀ : List ℕ) (at : ℕ) (b : List ℕ) (end k : ℕ) : Type 0 where
  pub size : length b ≡ length b₀
  pub all : end + total_left p k ≡ at + total_left p 0
  pub same : sets b₀ at (bytes_left p store second 0) ≡ sets b end (bytes_left p store second k)

module _ (p : Peer) (l : length p.incoming ≡ 12) (store second b₀ : List ℕ) (at : ℕ) (b : List ℕ) (end k : ℕ)
    (w : Putting p store second b₀ at b end k) where
  pub put-end : 12 ≤ k → end ≡ at + total_left p 0
  put-end h = omega (arith, w.all, total_end p k (omega arith))

  pub put_same : 12 ≤ k → b ≡ sets b₀ at (bytes_left p store second 0)
  put_same h = sym (w.same ∙ ap (sets b end) (bytes_end p k (omega arith) store second))

  module _ (i : Incoming) (here : i ≡ used_at p k) (h : k < 12) where
    pub put_room : at + total_left p 0 ≤ length b₀ → end + stored_length i ≤ length b
    put_room r = omega (arith, w.all, w.size, total_step p k (omega arith), ap (λ (j : Incoming). stored_length j) here)

    pub put_turn : length store ≡ 49152 → length second ≡ 32768 → (b₁ : List ℕ) (n : ℕ)
        → length b₁ ≡ length b → b₁ ≡ sets b end (stored_bytes store second k i) → n ≡ stored_length i
        → Putting p store second b₀ at b₁ (end + n) (k + 1)
    put_turn ls lt b₁ n lb is e =
        let there : k < length p.incoming = omega arith in
        let long : end + length (stored_bytes store second k i) ≡ end + n = ap (λ (m : ℕ). end + m) (slot_length store second ls lt i k h ∙ sym e) in
        record {
          size = lb ∙ w.size;
          all = omega (arith, w.all, e, total_step p k there, ap (λ (j : Incoming). stored_length j) here);
          same =
              w.same
              ∙ ap (sets b end) (bytes_step p k there store second)
              ∙ ap (λ (j : Incoming). sets b end (stored_bytes store second k j ++ bytes_left p store second (k + 1))) (sym here)
              ∙ sets_append (stored_bytes store second k i) (bytes_left p store second (k + 1)) b end
              ∙ ap (λ (c : List ℕ). sets c (end + length (stored_bytes store second k i)) (bytes_left p store second (k + 1))) (sym is)
              ∙ ap (λ (m : ℕ). sets b₁ m (bytes_left p store second (k + 1))) long;
        }

-- ---- laid back
pub record Laying (p : Peer) (bytes : List ℕ) (at : ℕ) (y₀ : Stores) (y : Stores) (end k : ℕ) : Type 0 where
  pub store_size : length y.store ≡ length y₀.store
  pub second_size : length y.second ≡ length y₀.second
  pub all : end + total_left p k ≡ at + total_left p 0
  pub same : laid_left p 0 (drop at bytes) y₀ ≡ laid_left p k (drop end bytes) y

module _ (p : Peer) (l : length p.incoming ≡ 12) (bytes : List ℕ) (at : ℕ) (y₀ y : Stores) (end k : ℕ) (w : Laying p bytes at y₀ y end k) where
  pub lay_end : 12 ≤ k → y ≡ laid_left p 0 (drop at bytes) y₀
  lay_end h = sym (w.same ∙ laid_end p k (omega arith) (drop end bytes) y)

  module _ (i : Incoming) (here : i ≡ used_at p k) (h : k < 12) where
    pub lay_room : at + total_left p 0 ≤ length bytes → end + stored_length i ≤ length bytes
    lay_room r = omega (arith, w.all, total_step p k (omega arith), ap (λ (j : Incoming). stored_length j) here)

    pub lay_turn : (z : Stores) (n : ℕ) → length z.store ≡ length y.store → length z.second ≡ length y.second
        → z ≡ laid_one k i (take (stored_length i) (drop end bytes)) y → n ≡ stored_length i
        → Laying p bytes at y₀ z (end + n) (k + 1)
    lay_turn z n ls lt is e =
        let there : k < length p.incoming = omega arith in
        record {
          store_size = ls ∙ w.store_size;
          second_size = lt ∙ w.second_size;
          all = omega (arith, w.all, e, total_step p k there, ap (λ (j : Incoming). stored_length j) here);
          same =
              w.same
              ∙ laid_step p k there bytes end y
              ∙ ap (λ (j : Incoming). laid_left p (k + 1) (drop (end + stored_length j) bytes) (laid_one k j (take (stored_length j) (drop end bytes)) y)) (sym here)
              ∙ ap (λ (v : Stores). laid_left p (k + 1) (drop (end + stored_length i) bytes) v) (sym is)
              ∙ ap (λ (m : ℕ). laid_left p (k + 1) (drop (end + m) bytes) z) (sym e);
        }
