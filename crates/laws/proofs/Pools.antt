-- A slot that joins the incoming pool at a free place: the pool's clauses of soundness hold with it, wherever a list names it once.
-- The argument: no list named the slot before, so tests and sums over what they named are as before; the total grows by its length alone, the number of blocks
-- by one where it is a block.
use Rattle.std.specs.Prelude.{Some}
use Prim.Native.Nat.{ℕ, ◌+◌, ◌≤◌, ◌<◌}
use mathlib.Core.Path.{◌≡◌, refl, ap, sym, ◌∙◌}
use mathlib.Core.List.{List, [], ◌∷◌}
use mathlib.Core.Bool.{Bool, true, false}
use native.Mathlib.Omega.{arith}
use lib.Dec.{ltb, eqb}
use lib.ListN.{length, get_or, set}
use lib.Seq.{get_or-set_same, get_or-set_other}
use borrow.Author.Tests.{eqb-true, eqb-false, eq-eqb, lt-ltb}
use Rattle.numbers.specs.Pick.{pick, both}
use Rattle.numbers.specs.Modulo.{sum}
use Rattle.numbers.proofs.BoolLaws.{both_left, both_right, both_true}
use Rattle.record.specs.Lists.{incoming, in_items}
use Rattle.cells.specs.Free.{lowest}
use Rattle.record.proofs.Keeps.{one, times, times_append, times_none, none_times, once_more, exist_more}
use Rattle.cells.proofs.Lowest.{lowest_exists, lowest_free, free_and_named}
use Rattle.record.specs.Blocks.{is_block}
use Rattle.record.proofs.KindLaws.{kind_low}
use Rattle.record.specs.Fresh.{no_incoming}
use Rattle.record.specs.Damage.{all, held, kind_fit, in_fit, own, lengths, blocks, one_block, used_in}
use Rattle.record.specs.declared.groups.Lists.{Lists}
use Rattle.record.specs.declared.groups.Channel.{Channel}
use Rattle.record.specs.declared.groups.Incoming.{Incoming}
use Rattle.record.specs.declared.groups.Marks.{Marks}
use Rattle.peer.proofs.Clauses.{all_at, at_all}
use Rattle.peer.proofs.InClauses.{InClauses, total_low}

-- a slot that a list does not name is none of its slots
not_there : (x s : ℕ) (xs : List ℕ) → times (x ∷ xs) s ≡ 0 → (x ≡ s → ⊥)
not_there x s xs e z = let w : one x s ≡ 1 = rw (eq-eqb x s z) in omega (arith, e, w)

not_further : (x s : ℕ) (xs : List ℕ) → times (x ∷ xs) s ≡ 0 → times xs s ≡ 0
not_further x s xs e = omega (arith, e)

-- a slot that is free in a sound pool: it exists, no list names it, and the lists have room for it
module _ (marks : Marks) (slots : List Incoming) (l : Lists) (cs : List Channel) (count total : ℕ) (w : InClauses marks slots l cs count total)
    (n : ℕ) (free : lowest incoming (used_in l cs) ≡ Some n) where
  pub free_exists : n < incoming
  free_exists = lowest_exists incoming (used_in l cs) n free

  pub free_unnamed : times (used_in l cs) n ≡ 0
  free_unnamed = times_none (used_in l cs) n (lowest_free incoming (used_in l cs) n free)

  pub free_room : length (used_in l cs) < incoming
  free_room =
      let used = used_in l cs in
      let more : (k : ℕ) → times (n ∷ used) k ≤ one n k + times used k = λ k. omega arith in
      let all = free_and_named incoming (n ∷ used) (exist_more used (n ∷ used) n more incoming free_exists w.exists)
      (once_more used (n ∷ used) n more (lowest_free incoming used n free) w.single) in
      omega (arith, all)

module _ (slots : List Incoming) (s : ℕ) (i : Incoming) (here : s < length slots) where
  abbrev pub with : List Incoming
  with = set slots s i

  pub lengths_unnamed : (xs : List ℕ) → times xs s ≡ 0 → lengths with xs ≡ lengths slots xs
  unfolding lengths
  lengths_unnamed [] e = refl
  lengths_unnamed (x ∷ xs) e =
      rw (
        get_or-set_other slots s x i no_incoming (not_there x s xs e),
        lengths_unnamed xs (not_further x s xs e),
      )

  pub blocks_unnamed : (xs : List ℕ) → times xs s ≡ 0 → blocks with xs ≡ blocks slots xs
  unfolding blocks
  blocks_unnamed [] e = refl
  blocks_unnamed (x ∷ xs) e =
      rw (
        get_or-set_other slots s x i no_incoming (not_there x s xs e),
        blocks_unnamed xs (not_further x s xs e),
      )

  -- the slot's own length
  pub lengths_own : lengths with (s ∷ []) ≡ i.length
  unfolding lengths
  lengths_own = rw (get_or-set_same slots s i no_incoming here) (omega arith)

  pub blocks_own : blocks with (s ∷ []) ≡ pick (is_block i) 1 0
  unfolding blocks
  blocks_own = rw (get_or-set_same slots s i no_incoming here) (omega arith)

  pub own_unnamed : (k : ℕ) (cs : List Channel) → times (held cs) s ≡ 0 → own slots k cs ≡ true → own with k cs ≡ true
  unfolding own held
  own_unnamed k [] e o = refl
  own_unnamed k (c ∷ cs) e o =
      let f : ℕ → Bool = λ x. eqb (get_or slots x no_incoming).channel k in
      let g : ℕ → Bool = λ x. eqb (get_or with x no_incoming).channel k in
      let xs = in_items c.held in
      let sum = times_append xs (held cs) s in
      both_true (all g xs) (own with (k + 1) cs)
      (at_all g xs (λ x h. same_channel k xs (omega (arith, e, sum)) x h ∙ all_at f xs (both_left (all f xs) (own slots (k + 1) cs) o) x h))
      (own_unnamed (k + 1) cs (omega (arith, e, sum)) (both_right (all f xs) (own slots (k + 1) cs) o))
    where
      same_channel : (k : ℕ) (xs : List ℕ) → times xs s ≡ 0 → (x : ℕ) → 0 < times xs x
          → eqb (get_or with x no_incoming).channel k ≡ eqb (get_or slots x no_incoming).channel k
      same_channel k xs none x h = go (eqb s x) refl
        where
          go : (b : Bool) → eqb s x ≡ b → eqb (get_or with x no_incoming).channel k ≡ eqb (get_or slots x no_incoming).channel k
          go true t = absurd (let z : s ≡ x = eqb-true s x t in let y : times xs x ≡ 0 = rw z at none in omega (arith, h, y))
          go false t = ap (λ (j : Incoming). eqb j.channel k) (get_or-set_other slots s x i no_incoming (λ z. eqb-false s x t (sym z)))

  module _ (marks : Marks) (l m : Lists) (cs ds : List Channel) (count total : ℕ) (w : InClauses marks slots l cs count total)
      (free : times (used_in l cs) s ≡ 0) (exists : s < incoming) (kind : kind_fit marks i ≡ true) (on : i.channel < count)
      (more : (k : ℕ) → times (used_in m ds) k ≡ one s k + times (used_in l cs) k)
      (theirs : own with 0 ds ≡ true)
      (grown : lengths with (used_in m ds) ≡ i.length + lengths with (used_in l cs))
      (gained : blocks with (used_in m ds) ≡ blocks with (s ∷ []) + blocks with (used_in l cs))
      (single : one_block marks (pick (is_block i) 1 0 + blocks slots (used_in l cs)) ≡ true) where
    abbrev before : List ℕ
    before = used_in l cs

    abbrev after : List ℕ
    after = used_in m ds

    fit_now : (k : ℕ) → 0 < times after k → in_fit marks with count k ≡ true
    fit_now k h = go (eqb s k) refl
      where
        go : (b : Bool) → eqb s k ≡ b → in_fit marks with count k ≡ true
        go true t =
            ap (λ (j : Incoming). both (kind_fit marks j) (ltb j.channel count))
            (ap (λ (x : ℕ). get_or with x no_incoming) (sym (eqb-true s k t)) ∙ get_or-set_same slots s i no_incoming here)
            ∙ both_true (kind_fit marks i) (ltb i.channel count) kind (lt-ltb i.channel count on)
        go false t =
            let none : one s k ≡ 0 = rw t in
            ap (λ (j : Incoming). both (kind_fit marks j) (ltb j.channel count))
            (get_or-set_other slots s k i no_incoming (λ z. eqb-false s k t (sym z)))
            ∙ all_at (in_fit marks slots count) before w.fit k (omega (arith, h, more k, none))

    at_most : (k : ℕ) → times after k ≤ one s k + times before k
    at_most k = omega (arith, more k)

    pub joined_clauses : InClauses marks with m ds count (sum 32 total i.length)
    joined_clauses =
        let low = total_low marks slots l cs count total w in
        let short = kind_low marks i kind in
        let plain : sum 32 total i.length ≡ total + i.length = omega arith in
        let counted : blocks with after ≡ pick (is_block i) 1 0 + blocks slots before = omega (arith, gained, blocks_own, blocks_unnamed before free) in
        record {
          exists = exist_more before after s at_most incoming exists w.exists;
          single = once_more before after s at_most (none_times before s free) w.single;
          fit = at_all (in_fit marks with count) after fit_now;
          own = theirs;
          total = omega (arith, plain, grown, w.total, lengths_unnamed before free);
          block = ap (one_block marks) counted ∙ single;
        }
