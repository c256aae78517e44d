-- Stored bytes laid back: the bytes of the used slots are then those that were laid, slot by slot; so what was stored and is laid back is stored as before.
-- The argument: a slot's bytes lie in its cell, or a block's in the second store; what is laid after it goes into later cells, and into the second store only for another
-- block, which a sound record has not.
use Prim.Native.Nat.{ℕ, zero, suc, ◌+◌, ◌*◌, ◌≤◌, ◌<◌, min}
use mathlib.Core.Path.{◌≡◌, refl, ap, sym, subst, ◌∙◌}
use mathlib.Core.Bool.{Bool, true, false}
use mathlib.Core.List.{List, [], ◌∷◌, ◌++◌, append_assoc}
use native.Mathlib.Nat.{zero-add}
use native.Mathlib.Omega.{arith}
use lib.Dec.{eqb}
use lib.ListN.{length, get_or, take, drop, set, length-append, length-drop}
use lib.Seq.{sets, sets-eq, length-sets, take-set-le, take-take, take-add, take-nil, take_at, drop_at, length-take-le}
use borrow.Author.Tests.{eqb-true, eqb-false}
use Rattle.numbers.specs.Pick.{pick, both}
use Rattle.numbers.proofs.BoolLaws.{both_right}
use Rattle.cells.specs.Free.{exist, once}
use Rattle.record.specs.Blocks.{is_block}
use Rattle.record.specs.Fresh.{no_incoming}
use Rattle.record.specs.Lists.{incoming}
use Rattle.record.specs.Damage.{below, used_in, all, in_fit, own, lengths, blocks, one_block}
use Rattle.record.specs.declared.groups.Incoming.{Incoming}
use Rattle.record.specs.declared.groups.Marks.{Marks}
use Rattle.record.proofs.Keeps.{times, times_some}
use Rattle.peer.specs.Damage.{sound}
use Rattle.peer.specs.declared.Peer.{Peer}
use Rattle.peer.proofs.Clauses.{sound_clauses}
use Rattle.order.specs.Table.{used_incoming}
use Rattle.snapshot_parts.specs.Stored.{stored_length, stored_bytes, stored_total, stored_from, Stores, stores, laid_one, laid_from}
use Rattle.snapshot_parts.proofs.StoredLaws.{length_most}

-- ---- runs of a list
take-drop : (k n m : ℕ) (xs : List ℕ) → m ≡ k + n → take n (drop k xs) ≡ drop k (take m xs)
take-drop zero n m xs e = let z : n ≡ m = omega arith in ap (λ (j : ℕ). take j xs) z
take-drop (suc k) n zero xs e = absurd (omega arith)
take-drop (suc k) n (suc m) [] e = take-nil n
take-drop (suc k) n (suc m) (x ∷ xs) e = take-drop k n m xs (omega arith)

-- the same up to m, then in any run below it
run_same : (xs ys : List ℕ) (k n m : ℕ) → k + n ≤ m → take m xs ≡ take m ys → take n (drop k xs) ≡ take n (drop k ys)
run_same xs ys k n m h e =
    take-drop k n (k + n) xs refl
    ∙ ap (drop k) (sym (take-take (k + n) m xs h) ∙ ap (take (k + n)) e ∙ take-take (k + n) m ys h)
    ∙ sym (take-drop k n (k + n) ys refl)

sets_before : (vs l : List ℕ) (n k : ℕ) → n ≤ k → take n (sets l k vs) ≡ take n l
sets_before [] l n k h = refl
sets_before (v ∷ vs) l n k h = sets_before vs (set l k v) n (suc k) (omega arith) ∙ take-set-le n l k v h

-- what was set is there
sets_there : (vs l : List ℕ) (k n : ℕ) → length vs ≡ n → k + n ≤ length l → take n (drop k (sets l k vs)) ≡ vs
sets_there vs l k n e h =
    let rest = drop (k + length vs) l in
    ap (λ (xs : List ℕ). take n (drop k xs)) (sets-eq vs l k (omega arith) ∙ append_assoc (take k l) vs rest)
    ∙ ap (take n) (drop_at (take k l) (vs ++ rest) k (length-take-le k l (omega arith)))
    ∙ take_at vs rest n e

-- ---- at most one used slot is a block
abbrev pub Single : (ℕ → Bool) → ℕ → List Incoming → Type 0
Single used s is =
    (a b : ℕ) → a < length is → b < length is → used (s + a) ≡ true → used (s + b) ≡ true
    → is_block (get_or is a no_incoming) ≡ true → is_block (get_or is b no_incoming) ≡ true → a ≡ b

-- none is
abbrev NoBlock : (ℕ → Bool) → ℕ → List Incoming → Type 0
NoBlock used s is = (a : ℕ) → a < length is → used (s + a) ≡ true → is_block (get_or is a no_incoming) ≡ true → ⊥

module _ (used : ℕ → Bool) (s : ℕ) (i : Incoming) (is : List Incoming) where
  behind : (a : ℕ) → used (s + 1 + a) ≡ true → used (s + suc a) ≡ true
  behind a u = let e : s + 1 + a ≡ s + suc a = omega arith in subst (λ (n : ℕ). used n ≡ true) e u

  single_rest : Single used s (i ∷ is) → Single used (s + 1) is
  single_rest h a b p q u v c d =
      let e : suc a ≡ suc b = h (suc a) (suc b) (omega arith) (omega arith) (behind a u) (behind b v) c d in
      omega arith

  none_rest : NoBlock used s (i ∷ is) → NoBlock used (s + 1) is
  none_rest h a p u c = h (suc a) (omega arith) (behind a u) c

  first_block : used s ≡ true → is_block i ≡ true → Single used s (i ∷ is) → NoBlock used (s + 1) is
  first_block w b h a p u c =
      let z : s ≡ s + 0 = omega arith in
      let e : zero ≡ suc a = h 0 (suc a) (omega arith) (omega arith) (subst (λ (n : ℕ). used n ≡ true) z w) (behind a u) b c in
      omega arith

-- ---- one slot laid
module _ (s : ℕ) (i : Incoming) (cs : List ℕ) (y : Stores) where
  abbrev chosen : Bool → Stores
  chosen b = pick b (stores y.store (sets y.second 0 cs)) (stores (sets y.store (s * 4096) cs) y.second)

  one_store_length : length (laid_one s i cs y).store ≡ length y.store
  one_store_length = go (is_block i)
    where
      go : (b : Bool) → length (chosen b).store ≡ length y.store
      go true = refl
      go false = length-sets y.store (s * 4096) cs

  one_second_length : length (laid_one s i cs y).second ≡ length y.second
  one_second_length = go (is_block i)
    where
      go : (b : Bool) → length (chosen b).second ≡ length y.second
      go true = length-sets y.second 0 cs
      go false = refl

  one_before : take (s * 4096) (laid_one s i cs y).store ≡ take (s * 4096) y.store
  one_before = go (is_block i)
    where
      go : (b : Bool) → take (s * 4096) (chosen b).store ≡ take (s * 4096) y.store
      go true = refl
      go false = sets_before cs y.store (s * 4096) (s * 4096) (omega arith)

  one_block_second : is_block i ≡ true → (laid_one s i cs y).second ≡ sets y.second 0 cs
  one_block_second e = ap (λ (b : Bool). (chosen b).second) e

  one_cell_second : is_block i ≡ false → (laid_one s i cs y).second ≡ y.second
  one_cell_second e = ap (λ (b : Bool). (chosen b).second) e

  one_cell_store : is_block i ≡ false → (laid_one s i cs y).store ≡ sets y.store (s * 4096) cs
  one_cell_store e = ap (λ (b : Bool). (chosen b).store) e

-- ---- what slots from s on leave as it was
fewer : (s : ℕ) (xs ys : List ℕ) → take ((s + 1) * 4096) xs ≡ take ((s + 1) * 4096) ys → take (s * 4096) xs ≡ take (s * 4096) ys
fewer s xs ys e =
    sym (take-take (s * 4096) ((s + 1) * 4096) xs (omega arith)) ∙ ap (take (s * 4096)) e ∙ take-take (s * 4096) ((s + 1) * 4096) ys (omega arith)

stay_store : (used : ℕ → Bool) (is : List Incoming) (s : ℕ) (bs : List ℕ) (y : Stores) → take (s * 4096) (laid_from used s is bs y).store ≡ take (s * 4096) y.store
unfolding laid_from
stay_store used [] s bs y = refl
stay_store used (i ∷ is) s bs y = go (used s) (λ cs z. stay_store used is (s + 1) cs z)
  where
    go : (b : Bool) → ((cs : List ℕ) (z : Stores) → take ((s + 1) * 4096) (laid_from used (s + 1) is cs z).store ≡ take ((s + 1) * 4096) z.store)
        → take (s * 4096) (pick b (laid_from used (s + 1) is (drop (stored_length i) bs) (laid_one s i (take (stored_length i) bs) y)) (laid_from used (s + 1) is bs y)).store ≡ take (s * 4096) y.store
    go true r =
        let z = laid_one s i (take (stored_length i) bs) y in
        fewer s (laid_from used (s + 1) is (drop (stored_length i) bs) z).store z.store (r (drop (stored_length i) bs) z) ∙ one_before s i (take (stored_length i) bs) y
    go false r = fewer s (laid_from used (s + 1) is bs y).store y.store (r bs y)

stay_second : (used : ℕ → Bool) (is : List Incoming) (s : ℕ) (bs : List ℕ) (y : Stores) → NoBlock used s is → (laid_from used s is bs y).second ≡ y.second
unfolding laid_from
stay_second used [] s bs y h = refl
stay_second used (i ∷ is) s bs y h = go (used s) refl (λ cs z. stay_second used is (s + 1) cs z (none_rest used s i is h))
  where
    go : (b : Bool) → used s ≡ b → ((cs : List ℕ) (z : Stores) → (laid_from used (s + 1) is cs z).second ≡ z.second)
        → (pick b (laid_from used (s + 1) is (drop (stored_length i) bs) (laid_one s i (take (stored_length i) bs) y)) (laid_from used (s + 1) is bs y)).second ≡ y.second
    go false w r = r bs y
    go true w r = r (drop (stored_length i) bs) (laid_one s i (take (stored_length i) bs) y) ∙ kind (is_block i) refl
      where
        kind : (t : Bool) → is_block i ≡ t → (laid_one s i (take (stored_length i) bs) y).second ≡ y.second
        kind false e = one_cell_second s i (take (stored_length i) bs) y e
        kind true e =
            let z : s ≡ s + 0 = omega arith in
            absurd (h 0 (omega arith) (subst (λ (n : ℕ). used n ≡ true) z w) e)

-- ---- both stores keep their lengths
pub laid_store_length : (used : ℕ → Bool) (s : ℕ) (is : List Incoming) (bs : List ℕ) (y : Stores) → length (laid_from used s is bs y).store ≡ length y.store
unfolding laid_from
laid_store_length used s [] bs y = refl
laid_store_length used s (i ∷ is) bs y = go (used s) (λ cs z. laid_store_length used (s + 1) is cs z)
  where
    go : (b : Bool) → ((cs : List ℕ) (z : Stores) → length (laid_from used (s + 1) is cs z).store ≡ length z.store)
        → length (pick b (laid_from used (s + 1) is (drop (stored_length i) bs) (laid_one s i (take (stored_length i) bs) y)) (laid_from used (s + 1) is bs y)).store ≡ length y.store
    go true r = r (drop (stored_length i) bs) (laid_one s i (take (stored_length i) bs) y) ∙ one_store_length s i (take (stored_length i) bs) y
    go false r = r bs y

pub laid_second_length : (used : ℕ → Bool) (s : ℕ) (is : List Incoming) (bs : List ℕ) (y : Stores) → length (laid_from used s is bs y).second ≡ length y.second
unfolding laid_from
laid_second_length used s [] bs y = refl
laid_second_length used s (i ∷ is) bs y = go (used s) (λ cs z. laid_second_length used (s + 1) is cs z)
  where
    go : (b : Bool) → ((cs : List ℕ) (z : Stores) → length (laid_from used (s + 1) is cs z).second ≡ length z.second)
        → length (pick b (laid_from used (s + 1) is (drop (stored_length i) bs) (laid_one s i (take (stored_length i) bs) y)) (laid_from used (s + 1) is bs y)).second ≡ length y.second
    go true r = r (drop (stored_length i) bs) (laid_one s i (take (stored_length i) bs) y) ∙ one_second_length s i (take (stored_length i) bs) y
    go false r = r bs y

-- ---- how many bytes
cell_most : (i : Incoming) → is_block i ≡ false → stored_length i ≤ 4096
cell_most i e =
    let n : stored_length i ≡ min i.length 4096 = ap (λ (t : Bool). min i.length (pick t 32768 4096)) e in
    omega (arith, n)

bytes_length : (store second : List ℕ) (s : ℕ) (i : Incoming) → (s + 1) * 4096 ≤ length store → 32768 ≤ length second → length (stored_bytes store second s i) ≡ stored_length i
bytes_length store second s i h k = go (is_block i) refl
  where
    go : (b : Bool) → is_block i ≡ b → length (take (stored_length i) (pick b second (drop (s * 4096) store))) ≡ stored_length i
    go true e = length-take-le (stored_length i) second (omega (arith, length_most i))
    go false e = length-take-le (stored_length i) (drop (s * 4096) store) (omega (arith, cell_most i e, length-drop (s * 4096) store))

pub stored_length_lem : (used : ℕ → Bool) (store second : List ℕ) (s : ℕ) (is : List Incoming) → (s + length is) * 4096 ≤ length store → 32768 ≤ length second
    → length (stored_from used store second s is) ≡ stored_total used s is
unfolding stored_from stored_total
stored_length_lem used store second s [] h k = refl
stored_length_lem used store second s (i ∷ is) h k = go (used s) (stored_length_lem used store second (s + 1) is (omega arith) k)
  where
    go : (b : Bool) → length (stored_from used store second (s + 1) is) ≡ stored_total used (s + 1) is
        → length (pick b (stored_bytes store second s i) [] ++ stored_from used store second (s + 1) is) ≡ pick b (stored_length i) 0 + stored_total used (s + 1) is
    go true r =
        length-append (stored_bytes store second s i) (stored_from used store second (s + 1) is) ∙ omega (arith, r, bytes_length store second s i (omega arith) k)
    go false r = r ∙ sym (zero-add (stored_total used (s + 1) is))

-- ---- laid, then stored
-- slot s, once it and those behind it are laid
module _ (used : ℕ → Bool) (s : ℕ) (i : Incoming) (is : List Incoming) (bs : List ℕ) (y : Stores) (h : (s + 1) * 4096 ≤ length y.store) (k : 32768 ≤ length y.second)
    (w : used s ≡ true) (one : Single used s (i ∷ is)) (enough : stored_length i ≤ length bs) where
  abbrev n : ℕ
  n = stored_length i

  abbrev cs : List ℕ
  cs = take n bs

  abbrev z : Stores
  z = laid_one s i cs y

  abbrev after : Stores
  after = laid_from used (s + 1) is (drop n bs) z

  slot_block : is_block i ≡ true → take n after.second ≡ cs
  slot_block e =
      ap (take n) (stay_second used is (s + 1) (drop n bs) z (first_block used s i is w e one) ∙ one_block_second s i cs y e)
      ∙ sets_there cs y.second 0 n (length-take-le n bs enough) (omega (arith, length_most i))

  slot_cell : is_block i ≡ false → take n (drop (s * 4096) after.store) ≡ cs
  slot_cell e =
      run_same after.store z.store (s * 4096) n ((s + 1) * 4096) (omega (arith, cell_most i e)) (stay_store used is (s + 1) (drop n bs) z)
      ∙ ap (λ (xs : List ℕ). take n (drop (s * 4096) xs)) (one_cell_store s i cs y e)
      ∙ sets_there cs y.store (s * 4096) n (length-take-le n bs enough) (omega (arith, cell_most i e))

  slot_laid : stored_bytes after.store after.second s i ≡ cs
  slot_laid = go (is_block i) refl
    where
      go : (b : Bool) → is_block i ≡ b → take n (pick b after.second (drop (s * 4096) after.store)) ≡ cs
      go true e = slot_block e
      go false e = slot_cell e

pub laid_stored_from : (used : ℕ → Bool) (s : ℕ) (is : List Incoming) (bs : List ℕ) (y : Stores) → (s + length is) * 4096 ≤ length y.store → 32768 ≤ length y.second
    → Single used s is → stored_total used s is ≤ length bs
    → stored_from used (laid_from used s is bs y).store (laid_from used s is bs y).second s is ≡ take (stored_total used s is) bs
unfolding stored_from stored_total laid_from
laid_stored_from used s [] bs y h k one enough = refl
laid_stored_from used s (i ∷ is) bs y h k one enough =
    go (used s) refl (λ cs z a b c. laid_stored_from used (s + 1) is cs z a b (single_rest used s i is one) c) enough
  where
    total : ℕ
    total = stored_total used (s + 1) is

    after : Bool → Stores
    after b = pick b (laid_from used (s + 1) is (drop (stored_length i) bs) (laid_one s i (take (stored_length i) bs) y)) (laid_from used (s + 1) is bs y)

    go : (b : Bool) → used s ≡ b
        → ((cs : List ℕ) (z : Stores) → (s + 1 + length is) * 4096 ≤ length z.store → 32768 ≤ length z.second → total ≤ length cs
        → stored_from used (laid_from used (s + 1) is cs z).store (laid_from used (s + 1) is cs z).second (s + 1) is ≡ take total cs)
        → pick b (stored_length i) 0 + total ≤ length bs
        → pick b (stored_bytes (after b).store (after b).second s i) [] ++ stored_from used (after b).store (after b).second (s + 1) is ≡ take (pick b (stored_length i) 0 + total) bs
    go false w r m = r bs y (omega arith) k (omega arith) ∙ ap (λ (t : ℕ). take t bs) (sym (zero-add total))
    go true w r m =
        let n = stored_length i in
        let z = laid_one s i (take n bs) y in
        let rest = stored_from used (after true).store (after true).second (s + 1) is in
        ap (λ (xs : List ℕ). xs ++ rest) (slot_laid used s i is bs y (omega arith) k w one (omega arith))
        ∙ ap (λ (xs : List ℕ). take n bs ++ xs)
        (r (drop n bs) z (omega (arith, one_store_length s i (take n bs) y)) (omega (arith, one_second_length s i (take n bs) y)) (omega (arith, length-drop n bs)))
        ∙ sym (take-add n total bs)

-- ---- a sound record has one block at most
module _ (slots : List Incoming) where
  abbrev counted : ℕ → ℕ
  counted s = pick (is_block (get_or slots s no_incoming)) 1 0

  counts : (x s : ℕ) → x ≡ s → is_block (get_or slots s no_incoming) ≡ true → counted x ≡ 1
  counts x s e b = ap (λ (t : ℕ). counted t) e ∙ ap (λ (t : Bool). pick t 1 0) b

  one_counted : (xs : List ℕ) (s : ℕ) → 0 < times xs s → is_block (get_or slots s no_incoming) ≡ true → 1 ≤ blocks slots xs
  unfolding blocks
  one_counted [] s h b = absurd (omega arith)
  one_counted (x ∷ xs) s h b = go (eqb x s) refl h (λ p. one_counted xs s p b)
    where
      go : (t : Bool) → eqb x s ≡ t → 0 < pick t 1 0 + times xs s → (0 < times xs s → 1 ≤ blocks slots xs) → 1 ≤ counted x + blocks slots xs
      go true e p r = omega (arith, counts x s (eqb-true x s e) b)
      go false e p r = omega (arith, r (omega arith))

  two_counted : (xs : List ℕ) (s t : ℕ) → (s ≡ t → ⊥) → 0 < times xs s → 0 < times xs t → is_block (get_or slots s no_incoming) ≡ true → is_block (get_or slots t no_incoming) ≡ true → 2 ≤ blocks slots xs
  unfolding blocks
  two_counted [] s t d h k b c = absurd (omega arith)
  two_counted (x ∷ xs) s t d h k b c = go (eqb x s) refl h (eqb x t) refl k (λ p q. two_counted xs s t d p q b c)
    where
      go : (u : Bool) → eqb x s ≡ u → 0 < pick u 1 0 + times xs s → (v : Bool) → eqb x t ≡ v → 0 < pick v 1 0 + times xs t
          → (0 < times xs s → 0 < times xs t → 2 ≤ blocks slots xs) → 2 ≤ counted x + blocks slots xs
      go true e p true f q r = absurd (d (sym (eqb-true x s e) ∙ eqb-true x t f))
      go true e p false f q r = omega (arith, counts x s (eqb-true x s e) b, one_counted xs t (omega arith) c)
      go false e p true f q r = omega (arith, counts x t (eqb-true x t f) c, one_counted xs s (omega arith) b)
      go false e p false f q r = omega (arith, r (omega arith) (omega arith))

one_most : (m : Marks) (n : ℕ) → one_block m n ≡ true → n ≤ 1
one_most m n e = go (eqb n 0) refl e
  where
    go : (t : Bool) → eqb n 0 ≡ t → pick t (both (eqb m.low 0) (eqb m.high 0)) (eqb n 1) ≡ true → n ≤ 1
    go true z q = omega (arith, eqb-true n 0 z)
    go false z q = omega (arith, eqb-true n 1 q)

in_one : (a b c d f g : Bool) → both (both a b) (both c (both d (both f g))) ≡ true → g ≡ true
in_one a b c d f g e =
    both_right f g (both_right d (both f g) (both_right c (both d (both f g)) (both_right (both a b) (both c (both d (both f g))) e)))

pub sound_single : (p : Peer) → sound p ≡ true → Single (used_incoming p) 0 p.incoming
sound_single p e a b h k u v c d =
    let now = below p.channels p.standing.channels in
    let xs = used_in p.lists now in
    let few : blocks p.incoming xs ≤ 1 =
    one_most p.marks (blocks p.incoming xs)
    (in_one (exist incoming xs) (once xs) (all (in_fit p.marks p.incoming p.standing.channels) xs) (own p.incoming 0 now) (eqb p.waiting.total (lengths p.incoming xs)) (one_block p.marks (blocks p.incoming xs))
    (sound_clauses p e).arrived)
    in
    let s : used_incoming p a ≡ true = subst (λ (n : ℕ). used_incoming p n ≡ true) (zero-add a) u in
    let t : used_incoming p b ≡ true = subst (λ (n : ℕ). used_incoming p n ≡ true) (zero-add b) v in
    go (eqb a b) refl few (times_some xs a s) (times_some xs b t)
  where
    go : (r : Bool) → eqb a b ≡ r → blocks p.incoming (used_in p.lists (below p.channels p.standing.channels)) ≤ 1
        → 0 < times (used_in p.lists (below p.channels p.standing.channels)) a → 0 < times (used_in p.lists (below p.channels p.standing.channels)) b → a ≡ b
    go true z few s t = eqb-true a b z
    go false z few s t =
        absurd (omega (arith, few, two_counted p.incoming (used_in p.lists (below p.channels p.standing.channels)) a b (eqb-false a b z) s t c d))

-- ---- the record's twelve slots and its two stores, of any bytes before
module _ (used : ℕ → Bool) (is : List Incoming) (y : Stores) (l : length is ≡ 12) (m : length y.store ≡ 49152) (n : length y.second ≡ 32768) (one : Single used 0 is) where
  pub laid_stored : (bs : List ℕ) → stored_total used 0 is ≤ length bs
      → stored_from used (laid_from used 0 is bs y).store (laid_from used 0 is bs y).second 0 is ≡ take (stored_total used 0 is) bs
  laid_stored bs enough = laid_stored_from used 0 is bs y (omega arith) (omega arith) one enough

  pub stored_laid : (store second more : List ℕ) → length store ≡ 49152 → length second ≡ 32768
      → stored_from used (laid_from used 0 is (stored_from used store second 0 is ++ more) y).store (laid_from used 0 is (stored_from used store second 0 is ++ more) y).second 0 is
      ≡ stored_from used store second 0 is
  stored_laid store second more a b =
      let xs = stored_from used store second 0 is in
      let e : length xs ≡ stored_total used 0 is = stored_length_lem used store second 0 is (omega arith) (omega arith) in
      laid_stored (xs ++ more) (omega (arith, e, length-append xs more)) ∙ take_at xs more (stored_total used 0 is) e

-- ---- slot by slot: the same bytes of all used slots are the same bytes of each
module _ (used : ℕ → Bool) (a b c d : List ℕ) (k : 32768 ≤ length b) (n : 32768 ≤ length d) where
  -- two lists in two parts, the first of one length
  parts_same : (xs ys us vs : List ℕ) (m : ℕ) → length xs ≡ m → length ys ≡ m → xs ++ us ≡ ys ++ vs → (xs ≡ ys) × (us ≡ vs)
  parts_same xs ys us vs m p q e =
      (sym (take_at xs us m p) ∙ ap (take m) e ∙ take_at ys vs m q, sym (drop_at xs us m p) ∙ ap (drop m) e ∙ drop_at ys vs m q)

  pub each_slot : (s : ℕ) (is : List Incoming) → (s + length is) * 4096 ≤ length a → (s + length is) * 4096 ≤ length c
      → stored_from used a b s is ≡ stored_from used c d s is → (j : ℕ) → j < length is → used (s + j) ≡ true
      → stored_bytes a b (s + j) (get_or is j no_incoming) ≡ stored_bytes c d (s + j) (get_or is j no_incoming)
  unfolding stored_from
  each_slot s [] h m e j q u = absurd (omega arith)
  each_slot s (i ∷ is) h m e j q u = go (used s) refl e j q u (λ f t r v. each_slot (s + 1) is (omega arith) (omega arith) f t r v)
    where
      go : (t : Bool) → used s ≡ t
          → pick t (stored_bytes a b s i) [] ++ stored_from used a b (s + 1) is ≡ pick t (stored_bytes c d s i) [] ++ stored_from used c d (s + 1) is
          → (j : ℕ) → j < length (i ∷ is) → used (s + j) ≡ true
          → (stored_from used a b (s + 1) is ≡ stored_from used c d (s + 1) is → (r : ℕ) → r < length is → used (s + 1 + r) ≡ true
          → stored_bytes a b (s + 1 + r) (get_or is r no_incoming) ≡ stored_bytes c d (s + 1 + r) (get_or is r no_incoming))
          → stored_bytes a b (s + j) (get_or (i ∷ is) j no_incoming) ≡ stored_bytes c d (s + j) (get_or (i ∷ is) j no_incoming)
      go false w f zero r v more =
          let z : s + 0 ≡ s = omega arith in
          let y : false ≡ true = sym w ∙ ap used (sym z) ∙ v in
          absurd (let x : ◌≡◌ {A = ℕ} 0 1 = cc in omega arith)
      go false w f (suc t) r v more =
          let z : s + 1 + t ≡ s + suc t = omega arith in
          subst (λ (x : ℕ). stored_bytes a b x (get_or is t no_incoming) ≡ stored_bytes c d x (get_or is t no_incoming)) z (more f t (omega arith) (ap used z ∙ v))
      go true w f zero r v more =
          let z : s ≡ s + 0 = omega arith in
          let p = bytes_length a b s i (omega arith) k in
          let y = bytes_length c d s i (omega arith) n in
          subst (λ (x : ℕ). stored_bytes a b x i ≡ stored_bytes c d x i) z
          (parts_same (stored_bytes a b s i) (stored_bytes c d s i) (stored_from used a b (s + 1) is) (stored_from used c d (s + 1) is) (stored_length i) p y f).0
      go true w f (suc t) r v more =
          let z : s + 1 + t ≡ s + suc t = omega arith in
          let p = bytes_length a b s i (omega arith) k in
          let y = bytes_length c d s i (omega arith) n in
          let g = (parts_same (stored_bytes a b s i) (stored_bytes c d s i) (stored_from used a b (s + 1) is) (stored_from used c d (s + 1) is) (stored_length i) p y f).1 in
          subst (λ (x : ℕ). stored_bytes a b x (get_or is t no_incoming) ≡ stored_bytes c d x (get_or is t no_incoming)) z (more g t (omega arith) (ap used z ∙ v))
