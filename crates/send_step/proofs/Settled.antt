-- A step's contract settles its result: two results, reply and record, that it allows for one input are the same.
-- The argument: the record is the rule's, and a reply is made again of its answer; the kind of a named command is in its byte.
use Rattle.std.specs.Prelude.{Result, Ok, Err, Option, Some, None}
use Rattle.std.proofs.Common.{◌≡◌, ℕ, ◌%◌, Bool, true, false, eqb, List, ◌∷◌, get_or, drop, sym, refl, ap, ◌∙◌, arith, eqb-true}
use Rattle.numbers.specs.Pick.{pick}
use Rattle.numbers.specs.Answers.{Answer, numbers_of}
use Rattle.numbers.proofs.Settled.{refused_apart, refused_not_done, done_apart}
use Rattle.numbers.specs.declared.refusals.Refusal.{Refusal}
use Rattle.command.specs.Rows.{names_fields, row_of, kind_of}
use Rattle.command.specs.declared.fields.Command.{Command}
use Rattle.command.proofs.Settled.{command_from, command_back}
use Rattle.record.specs.declared.groups.Outgoing.{Outgoing}
use Rattle.peer.specs.Outcome.{Came}
use Rattle.peer.specs.declared.settings.Settings.{Settings}
use Rattle.peer.specs.declared.Peer.{Peer}
use Rattle.peer.proofs.Settled.{Settles}
use Rattle.record.specs.Rows.{slot_row}
use Rattle.send_step.specs.Calls.{answer_of, steps, Named}
use Rattle.send_step.specs.declared.heads.Queue.{Queue}

abbrev slot_from : List ℕ → Bool → Command → Outgoing
slot_from ys packet command =
    record {
      reliable = record { 0 = get_or ys 0 0 };
      unreliable = record { 0 = get_or ys 1 0 };
      sent = get_or ys 2 0;
      timeout = get_or ys 3 0;
      queued = get_or ys 4 0;
      offset = get_or ys 5 0;
      length = get_or ys 6 0;
      attempts = get_or ys 7 0;
      packet = packet;
      command = command;
    }

abbrev slot_of : List ℕ → Outgoing
slot_of ys = slot_from ys (eqb (get_or ys 8 0) 1) (command_from (get_or ys 9 0 % 16 ∷ drop 9 ys))

bool_back : (b : Bool) → eqb (pick b 1 0) 1 ≡ b
bool_back true = refl
bool_back false = refl

named_back : (c : Command) → names_fields c ≡ true → command_from (c.byte % 16 ∷ row_of c) ≡ c
named_back c n = ap (λ (k : ℕ). command_from (k ∷ row_of c)) (eqb-true (c.byte % 16) (kind_of c.fields) n) ∙ command_back c

slot_back : (o : Outgoing) → names_fields o.command ≡ true → slot_of (slot_row o) ≡ o
slot_back o n =
    ap (λ (b : Bool). slot_from (slot_row o) b (command_from (o.command.byte % 16 ∷ row_of o.command))) (bool_back o.packet)
    ∙ ap (slot_from (slot_row o) o.packet) (named_back o.command n)

abbrev number_in : Answer → ℕ
number_in a = a.number

abbrev kind_in : Answer → ℕ
kind_in a = get_or (numbers_of a) 0 0

pub replies_apart : (a b : Result (Option Outgoing) Refusal) → Named a → Named b → answer_of a ≡ answer_of b → a ≡ b
replies_apart (Ok None) (Ok None) m n e = refl
replies_apart (Ok None) (Ok (Some o)) m n e = absurd (omega (arith, ap kind_in e))
replies_apart (Ok None) (Err r) m n e = absurd (refused_not_done r (sym (ap number_in e)))
replies_apart (Ok (Some o)) (Ok None) m n e = absurd (omega (arith, ap kind_in e))
replies_apart (Ok (Some o)) (Ok (Some u)) m n e = ap (λ (o : Outgoing). Ok (Some o)) (sym (slot_back o m) ∙ ap (λ (l : List ℕ). slot_of (drop 1 l)) (done_apart (1 ∷ slot_row o) (1 ∷ slot_row u) e) ∙ slot_back u n)
replies_apart (Ok (Some o)) (Err r) m n e = absurd (refused_not_done r (sym (ap number_in e)))
replies_apart (Err r) (Ok None) m n e = absurd (refused_not_done r (ap number_in e))
replies_apart (Err r) (Ok (Some o)) m n e = absurd (refused_not_done r (ap number_in e))
replies_apart (Err r) (Err w) m n e = ap Err (refused_apart r w e)

pub step_settled : (s : Settings) (q : Queue) (time : ℕ) (p : Peer) (a b : Result (Option Outgoing) Refusal) (x y : Peer)
    → Came answer_of (steps s q time p) a x → Named a → Came answer_of (steps s q time p) b y → Named b → Settles a b x y
step_settled s q time p a b x y c m d n =
    record { reply = replies_apart a b m n (c.answer ∙ sym d.answer); after = c.after ∙ sym d.after }
