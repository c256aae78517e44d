-- What receive takes and keeps: a packet or a block replied is dispatched's head, which leaves, a block with its marks; slots, channels, groups and
-- outgoing pool stay. The argument: behind the gate the answer names the head by cases on the list, and no case changes another group.
use Rattle.std.specs.Prelude.{⊤, Result, Ok, Some, Option, None}
use Rattle.std.proofs.Common.{◌≡◌, ℕ, Bool, true, false, List, [], ◌∷◌, get_or, sym, refl, ap, ◌∙◌, arith}
use lib.ListN as ln
use Rattle.numbers.specs.Pick.{pick}
use Rattle.numbers.specs.Answers.{Answer, numbers_of, done}
use Rattle.numbers.proofs.Settled.{refused_not_done}
use Rattle.numbers.specs.declared.refusals.Refusal.{Refusal}
use Rattle.record.specs.Lists.{in_items}
use Rattle.cells.specs.Runs.{first}
use Rattle.record.specs.Fresh.{no_incoming}
use Rattle.record.specs.Blocks.{is_block}
use Rattle.record.specs.declared.groups.Incoming.{Incoming}
use Rattle.peer.specs.Damage.{sound}
use Rattle.peer.specs.Outcome.{Outcome}
use Rattle.peer.specs.Gate.{fits, gate_of}
use Rattle.peer.specs.declared.settings.Settings.{Settings}
use Rattle.peer.specs.declared.Peer.{Peer}
use Rattle.peer.specs.declared.gate.Lent.TheVariants as lent
use Rattle.peer.proofs.Gates.{behind_has}
use Rattle.receive.specs.Calls.{answer_of, reply_of, cleared_by, receives_from, receives_sound, receives}
use Rattle.receive.specs.declared.Received.TheVariants as vr
use Rattle.peer.proofs.InClauses.{shorter_items}

abbrev gate : Settings → Peer → Result ⊤ Refusal
gate s p = gate_of (fits s lent.Nothing) (sound p)

-- the first number of a reply: 1 for a packet, 2 for a block
abbrev pub kind_of : Incoming → ℕ
kind_of i = pick (is_block i) 2 1

-- a reply's numbers
pub reply_numbers : (i : Incoming) (s : ℕ) → answer_of (reply_of i s) ≡ done (kind_of i ∷ i.channel ∷ s ∷ i.length ∷ [])
reply_numbers i s = go (is_block i)
  where
    go : (b : Bool) → answer_of (Ok (Some (pick b (vr.Block i.channel s i.length) (vr.Packet i.channel s i.length))))
        ≡ done (pick b 2 1 ∷ i.channel ∷ s ∷ i.length ∷ [])
    go true = refl
    go false = refl

-- ---- what it takes: the cell is the head of dispatched, and dispatched then is the rest
pub record Takes (p after : Peer) (sort on cell long : ℕ) : Type 0 where
  pub head : in_items p.lists.dispatched ≡ cell ∷ in_items after.lists.dispatched
  pub kind : sort ≡ kind_of (get_or p.incoming cell no_incoming)
  pub channel : on ≡ (get_or p.incoming cell no_incoming).channel
  pub length : long ≡ (get_or p.incoming cell no_incoming).length
  pub marks : after.marks ≡ cleared_by (get_or p.incoming cell no_incoming) p.marks

abbrev number_in : Answer → ℕ
number_in a = a.number

abbrev value : ℕ → Answer → ℕ
value i a = get_or (numbers_of a) i 0

-- 1 and 2 alike: nothing there has one number only
module _ (s : Settings) (p : Peer) (kind channel cell length : ℕ) where
  abbrev given : Answer
  given = done (kind ∷ channel ∷ cell ∷ length ∷ [])

  takes : (xs : List ℕ) → in_items p.lists.dispatched ≡ xs → (receives_from (first xs) p).answer ≡ given
      → Takes p (receives_from (first xs) p).after kind channel cell length
  takes [] e a = absurd (omega (arith, ap (λ (y : Answer). ln.length (numbers_of y)) a))
  takes (x ∷ rest) e b =
      let a = sym (reply_numbers (get_or p.incoming x no_incoming) x) ∙ b in
      let i : x ≡ cell = ap (value 2) a in
      let after : in_items (receives_from (Some x) p).after.lists.dispatched ≡ rest = shorter_items p.lists.dispatched x rest e in
      record {
        head = e ∙ ap (λ (k : ℕ). k ∷ rest) i ∙ ap (λ (ys : List ℕ). cell ∷ ys) (sym after);
        kind = sym (ap (value 0) a) ∙ ap (λ (k : ℕ). kind_of (get_or p.incoming k no_incoming)) i;
        channel = sym (ap (value 1) a) ∙ ap (λ (k : ℕ). (get_or p.incoming k no_incoming).channel) i;
        length = sym (ap (value 3) a) ∙ ap (λ (k : ℕ). (get_or p.incoming k no_incoming).length) i;
        marks = ap (λ (k : ℕ). cleared_by (get_or p.incoming k no_incoming) p.marks) i;
      }

  pub receive_head : (receives s p).answer ≡ given → Takes p (receives s p).after kind channel cell length
  receive_head =
      behind_has (gate s p) p (receives_sound p)
      (λ (o : Outcome Peer). o.answer ≡ given → Takes p o.after kind channel cell length)
      (λ why a. absurd (refused_not_done why (ap number_in a))) (λ e. takes (in_items p.lists.dispatched) refl)

-- done, where dispatched has a head
module _ (s : Settings) (p : Peer) (n : ℕ) (others : List ℕ) (e : in_items p.lists.dispatched ≡ n ∷ others) where
  pub record Gives (o : Outcome Peer) : Type 0 where
    pub answer : o.answer ≡ answer_of (reply_of (get_or p.incoming n no_incoming) n)
    pub rest : in_items o.after.lists.dispatched ≡ others

  pub receive_rest : (receives s p).answer.number ≡ 0 → Gives (receives s p)
  receive_rest =
      behind_has (gate s p) p (receives_sound p) (λ (o : Outcome Peer). o.answer.number ≡ 0 → Gives o)
      (λ why a. absurd (refused_not_done why a)) (λ g a. goes (in_items p.lists.dispatched) e)
    where
      goes : (xs : List ℕ) → xs ≡ n ∷ others → Gives (receives_from (first xs) p)
      goes xs is = rw is (record { answer = refl; rest = shorter_items p.lists.dispatched n others e })

-- ---- what it keeps, whatever the answer: not the marks, which a block takes with it
pub record Keeps (p after : Peer) : Type 0 where
  pub incoming : after.incoming ≡ p.incoming
  pub channels : after.channels ≡ p.channels
  pub unsequenced : after.unsequenced ≡ p.unsequenced
  pub outgoing : after.outgoing ≡ p.outgoing

pub receive_keeps : (s : Settings) (p : Peer) → Keeps p (receives s p).after
receive_keeps s p =
    behind_has (gate s p) p (receives_sound p) (λ (o : Outcome Peer). Keeps p o.after) (λ why. same)
    (λ e. goes (first (in_items p.lists.dispatched)))
  where
    same : Keeps p p
    same = record { incoming = refl; channels = refl; unsequenced = refl; outgoing = refl }

    goes : (f : Option ℕ) → Keeps p (receives_from f p).after
    goes None = same
    goes (Some n) = record { incoming = refl; channels = refl; unsequenced = refl; outgoing = refl }
