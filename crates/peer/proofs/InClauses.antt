-- The incoming pool of a sound record clause by clause, over any parts of a record; the head of dispatched exists, and the total is low.
-- The argument: `in_sound` is a conjunction, taken apart and put together; at most 12 slots are named, each at most 32,768 long.
use Prim.Native.Nat.{ℕ, ◌*◌, ◌≤◌, ◌<◌}
use mathlib.Core.Path.{◌≡◌, ap, ◌∙◌}
use mathlib.Core.List.{List, [], ◌∷◌, ◌++◌}
use mathlib.Core.Bool.{true}
use native.Mathlib.Omega.{arith}
use lib.Dec.{ltb, eqb}
use lib.ListN.{length, get_or}
use borrow.Author.Tests.{eqb-true, eq-eqb}
use Rattle.numbers.specs.Pick.{both}
use Rattle.numbers.proofs.BoolLaws.{both_left, both_right, both_true}
use Rattle.record.specs.Lists.{incoming, in_items}
use Rattle.cells.specs.Runs.{without}
use Rattle.cells.specs.Free.{exist, once}
use Rattle.record.specs.declared.incoming.InList.{InList}
use Rattle.record.proofs.Keeps.{times, once_less, exist_less}
use Rattle.record.proofs.Views.{in_items_keep}
use Rattle.cells.proofs.Lowest.{free_and_named}
use Rattle.record.specs.Blocks.{most_bytes}
use Rattle.record.proofs.KindLaws.{kind_low}
use Rattle.record.specs.Fresh.{no_incoming}
use Rattle.record.specs.Damage.{below, all, held, kind_fit, in_fit, own, lengths, blocks, one_block, in_sound, used_in}
use Rattle.record.specs.Updates.{in_shorter}
use Rattle.record.specs.declared.groups.Lists.{Lists}
use Rattle.record.specs.declared.groups.Channel.{Channel}
use Rattle.record.specs.declared.groups.Incoming.{Incoming}
use Rattle.record.specs.declared.groups.Marks.{Marks}
use Rattle.peer.specs.Damage.{sound}
use Rattle.peer.specs.declared.Peer.{Peer}
use Rattle.peer.proofs.Clauses.{sound_clauses, all_at, at_all}

-- a list without its head
pub shorter_items : (l : InList) (s : ℕ) (rest : List ℕ) → in_items l ≡ s ∷ rest → in_items (in_shorter l) ≡ rest
shorter_items l s rest e = in_items_keep l (without (in_items l) 0) ∙ ap (λ (xs : List ℕ). without xs 0) e

-- what is named, where dispatched is known
pub used_from : (l : Lists) (cs : List Channel) (xs : List ℕ) → in_items l.dispatched ≡ xs → used_in l cs ≡ xs ++ held cs
used_from l cs xs e = ap (λ (ys : List ℕ). ys ++ held cs) e

-- each slot at most 32,768 long
pub lengths_low : (m : Marks) (slots : List Incoming) (count : ℕ) (xs : List ℕ) → all (in_fit m slots count) xs ≡ true
    → lengths slots xs ≤ most_bytes * length xs
unfolding all lengths
lengths_low m slots count [] e = omega arith
lengths_low m slots count (x ∷ xs) e =
    let i = get_or slots x no_incoming in
    let fit = both_left (in_fit m slots count x) (all (in_fit m slots count) xs) e in
    let low = kind_low m i (both_left (kind_fit m i) (ltb i.channel count) fit) in
    omega (arith, low, lengths_low m slots count xs (both_right (in_fit m slots count x) (all (in_fit m slots count) xs) e))

module _ (m : Marks) (slots : List Incoming) (l : Lists) (cs : List Channel) (count sum : ℕ) where
  pub record InClauses : Type 0 where
    pub exists : exist incoming (used_in l cs) ≡ true
    pub single : once (used_in l cs) ≡ true
    pub fit : all (in_fit m slots count) (used_in l cs) ≡ true
    pub own : own slots 0 cs ≡ true
    pub total : sum ≡ lengths slots (used_in l cs)
    pub block : one_block m (blocks slots (used_in l cs)) ≡ true

  pub in_clauses : in_sound m slots l cs count sum ≡ true → InClauses
  in_clauses h =
      let used = used_in l cs in
      let named = both (exist incoming used) (once used) in
      let fit = all (in_fit m slots count) used in
      let theirs = own slots 0 cs in
      let total = eqb sum (lengths slots used) in
      let block = one_block m (blocks slots used) in
      let two = both_left named (both fit (both theirs (both total block))) h in
      let three = both_right named (both fit (both theirs (both total block))) h in
      let four = both_right fit (both theirs (both total block)) three in
      let last = both_right theirs (both total block) four in
      record {
        exists = both_left (exist incoming used) (once used) two;
        single = both_right (exist incoming used) (once used) two;
        fit = both_left fit (both theirs (both total block)) three;
        own = both_left theirs (both total block) four;
        total = eqb-true sum (lengths slots used) (both_left total block last);
        block = both_right total block last;
      }

  pub clauses_in : InClauses → in_sound m slots l cs count sum ≡ true
  clauses_in w =
      let used = used_in l cs in
      let named = both (exist incoming used) (once used) in
      let fit = all (in_fit m slots count) used in
      let theirs = own slots 0 cs in
      let total = eqb sum (lengths slots used) in
      let block = one_block m (blocks slots used) in
      both_true named (both fit (both theirs (both total block))) (both_true (exist incoming used) (once used) w.exists w.single)
      (both_true fit (both theirs (both total block)) w.fit
      (both_true theirs (both total block) w.own (both_true total block (eq-eqb sum (lengths slots used) w.total) w.block)))

-- of a sound record
pub incoming_clauses : (p : Peer) → sound p ≡ true
    → InClauses p.marks p.incoming p.lists (below p.channels p.standing.channels) p.standing.channels p.waiting.total
incoming_clauses p h =
    in_clauses p.marks p.incoming p.lists (below p.channels p.standing.channels) p.standing.channels p.waiting.total
    (sound_clauses p h).arrived

module _ (m : Marks) (slots : List Incoming) (l : Lists) (cs : List Channel) (count sum : ℕ) (w : InClauses m slots l cs count sum) where
  abbrev used : List ℕ
  used = used_in l cs

  -- at most 12 slots of at most 32,768
  pub total_low : sum ≤ most_bytes * incoming
  total_low =
      omega (arith, w.total, lengths_low m slots count used w.fit, free_and_named incoming used w.exists w.single)

  -- other lists that name no slot more often
  pub clauses_less : (o : Marks) (n : Lists) (new : ℕ) → ((k : ℕ) → times (used_in n cs) k ≤ times used k)
      → ((k : ℕ) → 0 < times (used_in n cs) k → in_fit m slots count k ≡ true → in_fit o slots count k ≡ true)
      → new ≡ lengths slots (used_in n cs) → one_block o (blocks slots (used_in n cs)) ≡ true → InClauses o slots n cs count new
  clauses_less o n new fewer fits e b =
      record {
        exists = exist_less used (used_in n cs) fewer incoming w.exists;
        single = once_less used (used_in n cs) fewer w.single;
        fit =
            at_all (in_fit o slots count) (used_in n cs) (λ k h. fits k h (all_at (in_fit m slots count) used w.fit k (omega (arith, fewer k, h))));
        own = w.own;
        total = e;
        block = b;
      }
