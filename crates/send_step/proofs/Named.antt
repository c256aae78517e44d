-- In a sound record the slot at the head of either list exists, and its command is named; so is then the command that a step answers.
-- The argument: the head stands in its list, the list is one of those that soundness is about, and an attempt keeps the command.
use Rattle.std.specs.Prelude.{Some}
use Rattle.std.proofs.Common.{◌≡◌, ℕ, ◌+◌, ◌<◌, true, List, [], ◌∷◌, ◌++◌, get_or, arith, eq-eqb}
use Rattle.numbers.proofs.BoolLaws.{both_left}
use Rattle.command.specs.Rows.{names_fields}
use Rattle.record.specs.Lists.{outgoing, out_items}
use Rattle.cells.specs.Runs.{first}
use Rattle.record.proofs.Keeps.{times, times_append}
use Rattle.record.specs.Fresh.{no_outgoing}
use Rattle.record.specs.Damage.{out_fit, used_out}
use Rattle.peer.specs.Damage.{sound}
use Rattle.peer.specs.declared.Peer.{Peer}
use Rattle.record.specs.declared.groups.Lists.{Lists}
use Rattle.peer.proofs.Clauses.{sound_clauses, all_at}
use Rattle.send_step.specs.Steps.{list_of, head}
use Rattle.send_step.specs.declared.heads.Queue.{Queue}
use Rattle.send_step.specs.declared.heads.Queue.TheVariants as queue

-- a list has its head
first-times : (xs : List ℕ) (s : ℕ) → first xs ≡ Some s → 0 < times xs s
first-times [] s e = let z : ◌≡◌ {A = ℕ} 0 1 = cc in absurd (omega arith)
first-times (x ∷ xs) s e = let z : x ≡ s = cc in rw (eq-eqb x s z) (omega arith)

module _ (p : Peer) (h : sound p ≡ true) where
  abbrev named : List ℕ
  named = used_out p.lists

  module _ (q : Queue) (s : ℕ) (e : first (out_items (list_of q p.lists)) ≡ Some s) where
    stands : 0 < times named s
    stands = go q e
      where
        l : Lists
        l = p.lists

        sum : times named s ≡ times (out_items l.sent) s + (times (out_items l.send_reliable) s + times (out_items l.outgoing) s)
        sum =
            rw (
              times_append (out_items l.sent) (out_items l.send_reliable ++ out_items l.outgoing) s,
              times_append (out_items l.send_reliable) (out_items l.outgoing) s,
            )

        go : (q : Queue) → first (out_items (list_of q l)) ≡ Some s → 0 < times named s
        go queue.Outgoing e = omega (arith, first-times (out_items l.outgoing) s e, sum)
        go queue.Reliable e = omega (arith, first-times (out_items l.send_reliable) s e, sum)

    pub head_named : (time : ℕ) → names_fields (head p s time).command ≡ true
    head_named time =
        both_left (names_fields (get_or p.outgoing s no_outgoing).command) _
        (all_at (out_fit p.outgoing p.standing.channels) named (sound_clauses p h).fit s stands)
