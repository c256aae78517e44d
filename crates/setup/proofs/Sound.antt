-- Setting up keeps a record sound, one piece or many, and so does the call.
-- The argument: the slot taken is free and exists, so that every slot named before holds what it held; the new one holds the piece's
-- command, with its byte and its channel; of a channel two numbers change, which soundness does not read.
use Rattle.std.specs.Prelude.{None, Option, Some}
use Prim.Native.Nat.{ℕ, zero, suc, ◌+◌, ◌%◌, ◌<◌}
use mathlib.Core.Path.{◌≡◌, refl, ap, sym, ◌∙◌}
use mathlib.Core.List.{List, [], ◌∷◌, ◌++◌}
use mathlib.Core.Bool.{Bool, true, false}
use native.Mathlib.Omega.{arith}
use lib.Dec.{leb, ltb, eqb}
use lib.ListN.{length, get_or, take, set, length-set}
use lib.Seq.{get_or-set_same, get_or-set_other}
use borrow.Author.Tests.{eqb-true, eqb-false, le-leb}
use Rattle.std.specs.Prelude.{⊤, Result, Ok, Err}
use Rattle.numbers.specs.Pick.{pick, both}
use Rattle.numbers.specs.declared.counters.Unreliable.{Unreliable}
use Rattle.numbers.specs.declared.counters.Group.{Group}
use Rattle.numbers.proofs.BoolLaws.{both_left, both_right, both_true}
use Rattle.command.specs.Rows.{kind_of, names_fields}
use Rattle.command.specs.declared.fields.Fields.{Fields}
use Rattle.command.specs.declared.fields.Fields.TheVariants as vr
use Rattle.record.specs.Channels.{on_channel}
use Rattle.record.specs.Lists.{outgoing, incoming, out_items, in_items}
use Rattle.cells.specs.Free.{lowest, exist, once}
use Rattle.record.specs.declared.outgoing.OutList.{OutList}
use Rattle.record.specs.declared.incoming.InList.{InList}
use Rattle.record.proofs.Keeps.{times, times_append, times_none}
use Rattle.cells.proofs.Lengths.{pushed_fits}
use Rattle.record.specs.Fresh.{no_channel, no_outgoing, no_incoming}
use Rattle.record.specs.Damage.{lists_fit, held_fit, held, below, all, own, lengths, blocks, one_block, out_fit, tried, in_fit, in_sound, used_out, used_in}
use Rattle.peer.specs.Damage.{sound}
use Rattle.numbers.specs.declared.refusals.Refusal.{Refusal}
use Rattle.numbers.specs.declared.refusals.Refusal.TheVariants.{InvalidChannel, FailedToQueue, BadCommand}
use Rattle.peer.specs.Outcome.{Outcome, finished}
use Rattle.peer.specs.Sounds.{Whole, Sounds}
use Rattle.peer.specs.declared.settings.Settings.{Settings}
use Rattle.peer.specs.declared.Peer.{Peer}
use Rattle.record.specs.declared.groups.Lists.{Lists}
use Rattle.record.specs.declared.groups.Standing.{Standing}
use Rattle.record.specs.declared.groups.Channel.{Channel}
use Rattle.record.specs.declared.groups.Outgoing.{Outgoing}
use Rattle.record.specs.declared.groups.Incoming.{Incoming}
use Rattle.record.specs.declared.groups.Marks.{Marks}
use Rattle.peer.proofs.Gates.{openness, behind_has}
use Rattle.peer.proofs.Sound.{gated_sounds}
use Rattle.peer.proofs.Clauses.{Clauses, sound_clauses, clauses_sound, all_at, at_all}
use Rattle.outbox.specs.Counting.{channel_at, numbered}
use Rattle.outbox.specs.Pieces.{fields_now, to_reliable, lists_with}
use Rattle.record.specs.Sizes.{itself}
use Rattle.record.specs.Updates.{longer, with_numbers}
use Rattle.setup.specs.Queueing.{room, stamp_of, made, queued_at, queued_in, queued, queued_all}
use Rattle.setup.specs.Calls.{setup_gate, sets_up, sets_up_sound}
use Rattle.setup.specs.Taking.{all_fit}
use Rattle.outbox.specs.declared.counting.Counters.{Counters}
use Rattle.outbox.specs.declared.pieces.Piece.{Piece}
use Rattle.setup.proofs.Joining.{joined_sent, joined_dispatched, first_room, last_room, to_first, to_last, slot_free, slot_exists, slot_room, after-times, after-exist, after-once}

-- a channel's other numbers are not read
module _ (c : Channel) where
  held-set : (n : ℕ) (cs : List Channel) (i : ℕ) → c.held ≡ (get_or cs i no_channel).held → held (take n (set cs i c)) ≡ held (take n cs)
  unfolding held
  held-set zero cs i e = refl
  held-set (suc n) [] i e = refl
  held-set (suc n) (d ∷ cs) zero e = ap (λ (m : InList). in_items m ++ held (take n cs)) e
  held-set (suc n) (d ∷ cs) (suc i) e = ap (λ (m : List ℕ). in_items d.held ++ m) (held-set n cs i e)

  fit_set : (n : ℕ) (cs : List Channel) (i : ℕ) → c.held ≡ (get_or cs i no_channel).held → held_fit (take n (set cs i c)) ≡ held_fit (take n cs)
  unfolding held_fit
  fit_set zero cs i e = refl
  fit_set (suc n) [] i e = refl
  fit_set (suc n) (d ∷ cs) zero e = ap (λ (m : InList). both (leb m.len incoming) (held_fit (take n cs))) e
  fit_set (suc n) (d ∷ cs) (suc i) e = ap (λ (b : Bool). both (leb d.held.len incoming) b) (fit_set n cs i e)

  own-set : (slots : List Incoming) (k n : ℕ) (cs : List Channel) (i : ℕ) → c.held ≡ (get_or cs i no_channel).held
      → own slots k (take n (set cs i c)) ≡ own slots k (take n cs)
  unfolding own
  own-set slots k zero cs i e = refl
  own-set slots k (suc n) [] i e = refl
  own-set slots k (suc n) (d ∷ cs) zero e =
      ap (λ (m : InList). both (all (λ (s : ℕ). eqb (get_or slots s no_incoming).channel k) (in_items m)) (own slots (k + 1) (take n cs))) e
  own-set slots k (suc n) (d ∷ cs) (suc i) e =
      ap (λ (b : Bool). both (all (λ (s : ℕ). eqb (get_or slots s no_incoming).channel k) (in_items d.held)) b) (own-set slots (k + 1) n cs i e)

-- the arrivals' clauses, by the slots named and whether each stands in its own channel
abbrev arrivals_fit : Marks → List Incoming → ℕ → ℕ → List ℕ → Bool → Bool
arrivals_fit m slots count total xs mine =
    both (both (exist incoming xs) (once xs))
    (both (all (in_fit m slots count) xs) (both mine (both (eqb total (lengths slots xs)) (one_block m (blocks slots xs)))))

-- the channel that a piece leaves
abbrev renumbered : List Channel → ℕ → Counters → Channel
renumbered cs channel k = with_numbers (channel_at cs channel) k.reliable k.unreliable

module _ (slots : List Incoming) (l : Lists) (x : Piece) (s : ℕ) (cs : List Channel) (channel : ℕ) (k : Counters) (count total : ℕ) where
  pub named : used_in (lists_with l x s) (below (numbered cs channel k) count) ≡ used_in l (below cs count)
  named =
      ap (λ (m : InList). in_items m ++ held (below (numbered cs channel k) count)) (joined_dispatched l s x)
      ∙ ap (λ (m : List ℕ). in_items l.dispatched ++ m) (held-set (renumbered cs channel k) count cs channel refl)

  in_same : (m : Marks) → in_sound m slots (lists_with l x s) (below (numbered cs channel k) count) count total ≡ in_sound m slots l (below cs count) count total
  in_same m =
      ap (λ (xs : List ℕ). arrivals_fit m slots count total xs (own slots 0 (below (numbered cs channel k) count))) named
      ∙ ap (λ (b : Bool). arrivals_fit m slots count total (used_in l (below cs count)) b)
      (own-set (renumbered cs channel k) slots 0 count cs channel refl)

-- a command keeps its kind
kind_now : (u : Unreliable) (g : Group) (f : Fields) → kind_of (fields_now u g f) ≡ kind_of f
kind_now u g (vr.SendUnreliable n l) = refl
kind_now u g (vr.SendUnsequenced old l) = refl
kind_now u g (vr.Acknowledge n t) = refl
kind_now u g (vr.Connect c d) = refl
kind_now u g (vr.VerifyConnect c) = refl
kind_now u g (vr.Disconnect d) = refl
kind_now u g vr.Ping = refl
kind_now u g (vr.SendReliable l) = refl
kind_now u g (vr.SendFragment n f) = refl
kind_now u g (vr.BandwidthLimit i o) = refl
kind_now u g (vr.ThrottleConfigure i a d) = refl
kind_now u g (vr.SendUnreliableFragment n f) = refl

-- both lists that a piece may join test for room
longer_fits : (l : OutList) (s : ℕ) → length (out_items l) < outgoing → leb (longer l s).len outgoing ≡ true
longer_fits l s h = le-leb (longer l s).len outgoing (pushed_fits outgoing (out_items l) (omega arith) s)

second : (a b b' c : Bool) → b' ≡ true → both a (both b c) ≡ true → both a (both b' c) ≡ true
second a b b' c e h = both_true a (both b' c) (both_left a (both b c) h) (both_true b' c e (both_right b c (both_right a (both b c) h)))

lists_after : (l : Lists) (x : Piece) (s : ℕ) → length (used_out l) < outgoing → lists_fit l ≡ true → lists_fit (lists_with l x s) ≡ true
lists_after l x s space h = go (to_reliable x)
  where
    go : (b : Bool) → lists_fit (pick b (to_first l s) (to_last l s)) ≡ true
    go true =
        second (leb l.sent.len outgoing) (leb l.send_reliable.len outgoing) (leb (longer l.send_reliable s).len outgoing)
        (both (leb l.outgoing.len outgoing) (leb l.dispatched.len incoming)) (longer_fits l.send_reliable s (first_room l s x space)) h
    go false =
        let a = leb l.sent.len outgoing in
        let b = leb l.send_reliable.len outgoing in
        let c = leb l.outgoing.len outgoing in
        let c' = leb (longer l.outgoing s).len outgoing in
        let d = leb l.dispatched.len incoming in
        both_true a (both b (both c' d)) (both_left a (both b (both c d)) h)
        (second b c c' d (longer_fits l.outgoing s (last_room l s x space)) (both_right a (both b (both c d)) h))

-- a command's test, apart from its slot
abbrev command_fit : ℕ → Outgoing → Bool
command_fit count o =
    both (names_fields o.command) (pick (ltb o.command.channel count) true (eqb o.command.channel itself))

abbrev attempts : Outgoing → Bool
attempts o = leb 1 o.attempts

module _ (x : Piece) (p : Peer) (s : ℕ) (low : lowest outgoing (used_out p.lists) ≡ Some s) (w : Clauses p) (whole : Whole p)
    (on : on_channel x.command.channel p.standing.channels ≡ true) (names : names_fields x.command ≡ true) where
  abbrev used : List ℕ
  used = used_out p.lists

  abbrev after : List ℕ
  after = used_out (lists_with p.lists x s)

  abbrev sent : List ℕ
  sent = out_items p.lists.sent

  abbrev slots : List Outgoing
  slots = set p.outgoing s (made x p)

  abbrev count : ℕ
  count = p.standing.channels

  others : (k : ℕ) → eqb s k ≡ false → get_or slots k no_outgoing ≡ get_or p.outgoing k no_outgoing
  others k t = get_or-set_other p.outgoing s k (made x p) no_outgoing (λ e. eqb-false s k t (sym e))

  new : get_or slots s no_outgoing ≡ made x p
  new = get_or-set_same p.outgoing s (made x p) no_outgoing (omega (arith, slot_exists x p s low w, whole.outgoing))

  new_fit : command_fit count (made x p) ≡ true
  new_fit = both_true (names_fields (made x p).command) (on_channel x.command.channel count) kind on
    where
      kind : names_fields (made x p).command ≡ true
      kind =
          ap (λ (k : ℕ). eqb (x.command.byte % 16) k) (kind_now (stamp_of x p).unreliable (stamp_of x p).counters.group x.command.fields)
          ∙ names

  fit_after : all (out_fit slots count) after ≡ true
  fit_after = at_all (out_fit slots count) after (λ k q. at k q (eqb s k) refl)
    where
      at : (k : ℕ) → 0 < times after k → (b : Bool) → eqb s k ≡ b → out_fit slots count k ≡ true
      at k q true t = rw (← eqb-true s k t) (ap (command_fit count) new ∙ new_fit)
      at k q false t =
          let u : times after k ≡ 0 + times used k = rw t at (after-times x p s low w k) in
          ap (command_fit count) (others k t) ∙ all_at (out_fit p.outgoing count) used w.fit k (omega arith)

  tried_after : all (tried slots) (out_items (lists_with p.lists x s).sent) ≡ true
  tried_after =
      ap (λ (l : OutList). all (tried slots) (out_items l)) (joined_sent p.lists s x)
      ∙ at_all (tried slots) sent (λ k q. at k q (eqb s k) refl)
    where
      at : (k : ℕ) → 0 < times sent k → (b : Bool) → eqb s k ≡ b → tried slots k ≡ true
      at k q true t =
          let z : s ≡ k = eqb-true s k t in
          let none : times used k ≡ 0 = rw z at (times_none used s (slot_free x p s low w)) in
          absurd (omega (arith, times_append sent (out_items p.lists.send_reliable ++ out_items p.lists.outgoing) k))
      at k q false t = ap attempts (others k t) ∙ all_at (tried p.outgoing) sent w.sent k q

  at_sound : sound (queued_at s x p) ≡ true
  unfolding queued_at
  at_sound =
      let k = (stamp_of x p).counters in
      let channel = x.command.channel in
      clauses_sound (queued_at s x p)
      (record {
        range = w.range;
        lists = lists_after p.lists x s (slot_room x p s low w) w.lists;
        held = fit_set (renumbered p.channels channel k) count p.channels channel refl ∙ w.held;
        exists = after-exist x p s low w;
        single = after-once x p s low w;
        fit = fit_after;
        sent = tried_after;
        arrived = in_same p.incoming p.lists x s p.channels channel k count p.waiting.total p.marks ∙ w.arrived;
      })

pub queued-sound : (x : Piece) (p : Peer) → Whole p → sound p ≡ true → on_channel x.command.channel p.standing.channels ≡ true
    → names_fields x.command ≡ true → sound (queued x p) ≡ true
unfolding queued
queued-sound x p whole h on names = go (lowest outgoing (used_out p.lists)) refl
  where
    go : (f : Option ℕ) → lowest outgoing (used_out p.lists) ≡ f → sound (queued_in f x p) ≡ true
    go (Some s) e = at_sound x p s e (sound_clauses p h) whole on names
    go None e = h

-- the lengths and the count stay
pub queued_whole : (x : Piece) (p : Peer) → Whole p → Whole (queued x p)
unfolding queued queued_at
queued_whole x p w = go (lowest outgoing (used_out p.lists))
  where
    go : (f : Option ℕ) → Whole (queued_in f x p)
    go (Some s) =
        record {
          channels = length-set p.channels x.command.channel _ ∙ w.channels;
          outgoing = length-set p.outgoing s (made x p) ∙ w.outgoing;
          incoming = w.incoming;
        }
    go None = w

pub queued-standing : (x : Piece) (p : Peer) → (queued x p).standing ≡ p.standing
unfolding queued queued_at
queued-standing x p = go (lowest outgoing (used_out p.lists))
  where
    go : (f : Option ℕ) → (queued_in f x p).standing ≡ p.standing
    go (Some s) = refl
    go None = refl

-- pieces one after another
module _ (x : Piece) (xs : List Piece) (p : Peer) (fit : all_fit p.standing.channels (x ∷ xs) ≡ true) where
  abbrev is_on : Bool
  is_on = on_channel x.command.channel p.standing.channels

  abbrev is_named : Bool
  is_named = names_fields x.command

  pub fit_on : is_on ≡ true
  unfolding all_fit
  fit_on = both_left is_on is_named (both_left (both is_on is_named) (all_fit p.standing.channels xs) fit)

  pub fit_names : is_named ≡ true
  unfolding all_fit
  fit_names = both_right is_on is_named (both_left (both is_on is_named) (all_fit p.standing.channels xs) fit)

  pub fit_rest : all_fit (queued x p).standing.channels xs ≡ true
  unfolding all_fit
  fit_rest =
      ap (λ (s : Standing). all_fit s.channels xs) (queued-standing x p)
      ∙ both_right (both is_on is_named) (all_fit p.standing.channels xs) fit

  pub fit_sound : Whole p → sound p ≡ true → sound (queued x p) ≡ true
  fit_sound whole h = queued-sound x p whole h fit_on fit_names

pub queued_all_whole : (xs : List Piece) (p : Peer) → Whole p → Whole (queued_all xs p)
unfolding queued_all
queued_all_whole [] p w = w
queued_all_whole (x ∷ xs) p w = queued_all_whole xs (queued x p) (queued_whole x p w)

pub queued_all-standing : (xs : List Piece) (p : Peer) → (queued_all xs p).standing ≡ p.standing
unfolding queued_all
queued_all-standing [] p = refl
queued_all-standing (x ∷ xs) p = queued_all-standing xs (queued x p) ∙ queued-standing x p

pub queued_all-sound : (xs : List Piece) (p : Peer) → Whole p → sound p ≡ true → all_fit p.standing.channels xs ≡ true → sound (queued_all xs p) ≡ true
unfolding queued_all
queued_all-sound [] p whole h fit = h
queued_all-sound (x ∷ xs) p whole h fit =
    queued_all-sound xs (queued x p) (queued_whole x p whole) (fit_sound x xs p fit whole h) (fit_rest x xs p fit)

-- the gate of a setup tells that its command is fit
module _ (x : Piece) (p : Peer) where
  abbrev gate : Bool → Bool → Bool → Result ⊤ Refusal
  gate on free named = pick on (pick free (pick named (Ok tt) (Err BadCommand)) (Err FailedToQueue)) (Err InvalidChannel)

  gate_fit : (a b c : Bool) → gate a b c ≡ Ok tt → (a ≡ true) × (b ≡ true) × (c ≡ true)
  gate_fit true true true e = (refl, refl, refl)
  gate_fit true true false e = absurd (omega (arith, ap openness e))
  gate_fit true false c e = absurd (omega (arith, ap openness e))
  gate_fit false b c e = absurd (omega (arith, ap openness e))

  pub setup_open : setup_gate x p.standing.channels (room p) ≡ Ok tt
      → (on_channel x.command.channel p.standing.channels ≡ true) × (leb 1 (room p) ≡ true) × (names_fields x.command ≡ true)
  setup_open = gate_fit (on_channel x.command.channel p.standing.channels) (leb 1 (room p)) (names_fields x.command)

setup_keeps : (x : Piece) (p : Peer) → Whole p → sound p ≡ true → sound (sets_up_sound x p).after ≡ true
setup_keeps x p whole h =
    behind_has (setup_gate x p.standing.channels (room p)) p (finished (queued x p)) (λ (o : Outcome Peer). sound o.after ≡ true) (λ why. h)
    (λ e. let f = setup_open x p e in queued-sound x p whole h f.0 f.2)

setup_whole : (x : Piece) (p : Peer) → Whole p → Whole (sets_up_sound x p).after
setup_whole x p whole =
    behind_has (setup_gate x p.standing.channels (room p)) p (finished (queued x p)) (λ (o : Outcome Peer). Whole o.after) (λ why. whole)
    (λ e. queued_whole x p whole)

pub setup_sounds : (s : Settings) (x : Piece) → Sounds (sets_up s x)
setup_sounds s x = gated_sounds s (sets_up_sound x) (setup_keeps x) (setup_whole x)
