-- Setting up on an outbox and storing what it then holds is setting up on the record: for one piece, and for one more of several.
-- The argument: the definitions say the same of each group; the marks tell the lowest free slot; a channel that is there gives back the
-- numbers that it was given, so that groups stored once at the end are those stored after each piece.
use Rattle.std.specs.Prelude.{None, Option, Some}
use Prim.Native.Nat.{ℕ, zero, suc, ◌≤◌, ◌<◌}
use mathlib.Core.Path.{◌≡◌, refl, ap, sym, subst, ◌∙◌}
use mathlib.Core.Bool.{true}
use mathlib.Core.List.{List, [], ◌∷◌}
use native.Mathlib.Omega.{arith}
use lib.Dec.{eqb}
use lib.ListN.{length, set, replicate, length-set, length-replicate}
use lib.Seq.{get_or-set_same, set-get_or}
use Rattle.numbers.specs.Pick.{pick}
use Rattle.record.specs.Lists.{outgoing}
use Rattle.cells.specs.Runs.{has}
use Rattle.cells.specs.Free.{is_marked, marked_all, first_from, lowest}
use Rattle.cells.proofs.Lowest.{lowest_exists}
use Rattle.cells.proofs.Scans.{first_same, set_mark_past}
use Rattle.cells.proofs.Marked.{marked_length, marked_says}
use Rattle.record.specs.Fresh.{no_channel}
use Rattle.record.specs.Damage.{used_out}
use Rattle.record.specs.Updates.{with_outgoing_total, with_reliable, with_outgoing_group, with_queued, with_numbers}
use Rattle.record.specs.declared.groups.Channel.{Channel}
use Rattle.record.specs.declared.groups.Outgoing.{Outgoing}
use Rattle.peer.specs.Updates.{renewed}
use Rattle.peer.specs.declared.Peer.{Peer}
use Rattle.outbox.specs.Counting.{channel_at, counters_at, numbered}
use Rattle.outbox.specs.CodeOutboxes.{stamp_in, slot_in, placed_in, queueing_in, queueing, outbox_of}
use Rattle.outbox.specs.declared.counting.Counters.{Counters}
use Rattle.outbox.specs.declared.pieces.Piece.{Piece}
use Rattle.outbox.specs.CodeOutboxes.{Outbox}
use Rattle.outbox.specs.CodeOutboxes.{Queued}
use Rattle.setup.specs.Queueing.{room, queued_at, queued}
use Rattle.setup.specs.Taking.{Ready}
use Rattle.setup.proofs.Taking.{none_left, queued_at_lem, queued_names, step}

-- the outbox of a record, with other marks
abbrev pub opened : Peer → ℕ → List ℕ → Outbox
opened p channel marks =
    record {
      total = p.totals.outgoing;
      queued = p.waiting.queued;
      counters = counters_at p.flow.own_number p.channels channel p.unsequenced.outgoing;
      lists = p.lists;
      marks = marks;
    }

-- the record with an outbox's numbers and lists, and another pool
abbrev pub stored : Peer → ℕ → Outbox → List Outgoing → Peer
stored p channel o pool =
    renewed p p.standing (with_outgoing_total p.totals o.total) p.times p.loss (with_reliable p.flow o.counters.own) o.lists
    (with_outgoing_group p.unsequenced o.counters.group) (with_queued p.waiting o.queued) (numbered p.channels channel o.counters) pool

-- the marks, one a slot, say which slots are named
pub record Says (marks xs : List ℕ) : Type 0 where
  pub all : length marks ≡ outgoing
  pub each : (k : ℕ) → k < outgoing → is_marked marks k ≡ has xs k

says_lowest : (marks xs : List ℕ) → Says marks xs → first_from (is_marked marks) outgoing 0 ≡ lowest outgoing xs
says_lowest marks xs h = first_same (is_marked marks) (has xs) outgoing 0 (λ j q. h.each j (omega arith))

pub says_first : (xs : List ℕ) → Says (marked_all (replicate outgoing 0) xs) xs
says_first xs =
    record {
      all = marked_length (replicate outgoing 0) xs ∙ length-replicate {A = ℕ} outgoing 0;
      each = λ k b. marked_says outgoing xs k b;
    }

-- where there is room, a slot is free
pub record Slot (xs : List ℕ) : Type 0 where
  pub slot : ℕ
  pub low : lowest outgoing xs ≡ Some slot

pub room_slot : (p : Peer) → 1 ≤ room p → Slot (used_out p.lists)
room_slot p h = go (lowest outgoing (used_out p.lists)) refl
  where
    go : (f : Option ℕ) → lowest outgoing (used_out p.lists) ≡ f → Slot (used_out p.lists)
    go (Some s) e = record { slot = s; low = e }
    go None e = absurd (omega (arith, h, none_left (has (used_out p.lists)) outgoing 0 e))

-- ---- one piece
module _ (x : Piece) (p : Peer) (marks : List ℕ) (says : Says marks (used_out p.lists)) (s : ℕ)
    (low : lowest outgoing (used_out p.lists) ≡ Some s) (q : Queued) (e : q ≡ queueing (opened p x.command.channel marks) x) where
  abbrev o : Outbox
  o = opened p x.command.channel marks

  queue_is : q ≡ record { outbox = placed_in o x s (stamp_in o x).counters; at = s; slot = slot_in o x }
  queue_is = e ∙ ap (λ (f : Option ℕ). queueing_in f o x) (says_lowest marks (used_out p.lists) says ∙ low)

  pub queue_at : q.at ≡ s
  queue_at = ap (λ (q : Queued). q.at) queue_is

  pub queue_exists : q.at < outgoing
  queue_exists = rw queue_at (lowest_exists outgoing (used_out p.lists) s low)

  pub queue_stored : queued x p ≡ stored p x.command.channel q.outbox (set p.outgoing q.at q.slot)
  unfolding queued_at
  queue_stored =
      queued_at_lem x p s low
      ∙ ap (λ (q : Queued). stored p x.command.channel q.outbox (set p.outgoing q.at q.slot)) (sym queue_is)

-- from the record itself, where there is room
module _ (x : Piece) (p : Peer) (h : 1 ≤ room p) (o : Outbox)
    (oe : o ≡ outbox_of p.totals p.waiting p.flow p.unsequenced p.channels x.command.channel p.lists) (q : Queued) (e : q ≡ queueing o x) where
  abbrev marks₀ : List ℕ
  marks₀ = marked_all (replicate outgoing 0) (used_out p.lists)

  says₀ : Says marks₀ (used_out p.lists)
  says₀ = says_first (used_out p.lists)

  pub one_stored : queued x p ≡ stored p x.command.channel q.outbox (set p.outgoing q.at q.slot)
  one_stored = let f = room_slot p h in queue_stored x p marks₀ says₀ f.slot f.low q (e ∙ ap (λ (o : Outbox). queueing o x) oe)

-- ---- several on one channel
set_twice : {A : Type 0} (xs : List A) (i : ℕ) (a b : A) → set (set xs i a) i b ≡ set xs i b
set_twice [] i a b = refl
set_twice (x ∷ xs) zero a b = refl
set_twice (x ∷ xs) (suc i) a b = ap (λ (l : List _). x ∷ l) (set_twice xs i a b)

module _ (cs : List Channel) (channel : ℕ) (here : channel < length cs) (k : Counters) where
  channel_back : channel_at (numbered cs channel k) channel ≡ with_numbers (channel_at cs channel) k.reliable k.unreliable
  channel_back = get_or-set_same cs channel (with_numbers (channel_at cs channel) k.reliable k.unreliable) no_channel here

  counters_back : counters_at k.own (numbered cs channel k) channel k.group ≡ k
  counters_back = rw channel_back

  numbered_twice : (j : Counters) → numbered (numbered cs channel k) channel j ≡ numbered cs channel j
  numbered_twice j = rw channel_back (set_twice cs channel _ _)

module _ (p : Peer) (channel : ℕ) (here : channel < length p.channels) where
  -- opening and storing at once changes nothing
  pub stored_first : (marks : List ℕ) → stored p channel (opened p channel marks) p.outgoing ≡ p
  stored_first marks = rw (set-get_or p.channels channel no_channel)

  module _ (o : Outbox) (pool : List Outgoing) where
    pub opened_back : opened (stored p channel o pool) channel o.marks ≡ o
    opened_back = rw (counters_back p.channels channel here o.counters)

    pub stored_twice : (o' : Outbox) (pool' : List Outgoing) → stored (stored p channel o pool) channel o' pool' ≡ stored p channel o' pool'
    stored_twice o' pool' = rw (numbered_twice p.channels channel here o.counters o'.counters)

-- ---- one more of several: what is in order stays so
pub record Turned (x : Piece) (xs : List Piece) (p : Peer) (channel : ℕ) (o : Outbox) (q : Queued) : Type 0 where
  pub exists : q.at < outgoing
  pub next :
      queued x (stored p channel o p.outgoing) ≡ stored p channel q.outbox (set p.outgoing q.at q.slot)
  pub says : Says q.outbox.marks (used_out q.outbox.lists)
  pub ready : Ready xs (stored p channel q.outbox (set p.outgoing q.at q.slot))

module _ (x : Piece) (xs : List Piece) (p : Peer) (here : x.command.channel < length p.channels) (o : Outbox) where
  abbrev channel : ℕ
  channel = x.command.channel

  abbrev r : Peer
  r = stored p channel o p.outgoing

  pub turn : Says o.marks (used_out o.lists) → Ready (x ∷ xs) r → (q : Queued) → q ≡ queueing o x → Turned x xs p channel o q
  turn says ready q e =
      let t = step x xs r ready in
      let e₁ : q ≡ queueing (opened r channel o.marks) x = e ∙ ap (λ (o : Outbox). queueing o x) (sym (opened_back p channel here o p.outgoing)) in
      let n : queued x r ≡ stored p channel q.outbox (set p.outgoing q.at q.slot) =
      queue_stored x r o.marks says t.slot t.low q e₁ ∙ stored_twice p channel here o p.outgoing q.outbox (set p.outgoing q.at q.slot) in
      record {
        exists = queue_exists x r o.marks says t.slot t.low q e₁;
        next = n;
        says = says_on t.slot t.low q n e₁;
        ready = rw n at t.next;
      }
    where
      says_on : (s : ℕ) (low : lowest outgoing (used_out o.lists) ≡ Some s) (q : Queued)
          → queued x r ≡ stored p channel q.outbox (set p.outgoing q.at q.slot) → q ≡ queueing (opened r channel o.marks) x
          → Says q.outbox.marks (used_out q.outbox.lists)
      says_on s low q n e =
          let m : q.outbox.marks ≡ set o.marks s 1 = ap (λ (q : Queued). q.outbox.marks) (queue_is x r o.marks says s low q e) in
          record {
            all = ap length m ∙ length-set o.marks s 1 ∙ says.all;
            each = λ k b.
                ap (λ (l : List ℕ). is_marked l k) m
                ∙ set_mark_past o.marks s k (omega (arith, says.all))
                ∙ ap (pick (eqb s k) true) (says.each k b)
                ∙ sym (queued_names x r s low ready.good k)
                ∙ ap (λ (p : Peer). has (used_out p.lists) k) n;
          }

-- the same, of a channel that is the piece's
pub turn_on : (x : Piece) (xs : List Piece) (p : Peer) (channel : ℕ) → x.command.channel ≡ channel → channel < length p.channels → (o : Outbox)
    → Says o.marks (used_out o.lists) → Ready (x ∷ xs) (stored p channel o p.outgoing) → (q : Queued) → q ≡ queueing o x → Turned x xs p channel o q
turn_on x xs p channel ce here o =
    subst
    (λ (c : ℕ).
    c < length p.channels → Says o.marks (used_out o.lists) → Ready (x ∷ xs) (stored p c o p.outgoing) → (q : Queued) → q ≡ queueing o x
    → Turned x xs p c o q) ce (λ there. turn x xs p there o) here
