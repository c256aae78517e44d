-- Soundness through reset, begin and set state: done, the record is sound, and a sound one stays so.
-- The argument: nothing is held after a reset; begin keeps soundness since with no channel nothing is held, and every outgoing command is the
-- peer's own; the state is not looked at.
use mathlib.Core.Path.{◌≡◌, refl, ◌∙◌}
use mathlib.Core.Bool.{Bool, true, false}
use mathlib.Core.List.{List, [], ◌∷◌, ◌++◌}
use Prim.Native.Nat.{ℕ, zero, suc, ◌+◌}
use native.Mathlib.Omega.{arith}
use lib.Dec.{leb, ltb, eqb}
use lib.ListN.{get_or, take, replicate, length-replicate}
use borrow.Author.Tests.{ltb-true, eqb-true, le-ltb}
use Rattle.numbers.specs.Pick.{pick, both}
use Rattle.numbers.proofs.BoolLaws.{both_left, both_right, both_true}
use Rattle.command.specs.Rows.{names_fields}
use Rattle.command.specs.declared.fields.Command.{Command}
use Rattle.record.specs.Lists.{outgoing, incoming, out_items, in_items}
use Rattle.cells.specs.Free.{exist, once}
use Rattle.peer.specs.States.{last_state}
use Rattle.peer.specs.Settings.{fit_settings}
use Rattle.numbers.specs.Limits.{mtu_fits}
use Rattle.numbers.specs.declared.refusals.Refusal.TheVariants.{OutOfRange}
use Rattle.record.specs.Sizes.{channels}
use Rattle.record.specs.Channels.{is_itself, on_channel}
use Rattle.record.specs.Fresh.{no_lists, no_channel, no_outgoing, no_incoming}
use Rattle.peer.specs.Fresh.{fresh_peer}
use Rattle.record.specs.Damage.{ranged, lists_fit, held_fit, held, below, all, own, lengths, blocks, one_block, out_fit, kind_fit, in_fit, tried, out_sound, in_sound, used_out}
use Rattle.peer.specs.Damage.{sound}
use Rattle.peer.specs.Outcome.{unchanged, finished}
use Rattle.peer.specs.Sounds.{Whole, Sounds}
use Rattle.lifecycle.specs.Calls.{kept, resets, begins, begins_sound, begun, begin_fits, sets_state, sets_state_sound, stated}
use Rattle.peer.proofs.Sound.{gated_sounds}
use Rattle.peer.specs.declared.settings.Settings.{Settings}
use Rattle.peer.specs.declared.Peer.{Peer}
use Rattle.record.specs.declared.groups.Channel.{Channel}
use Rattle.record.specs.declared.groups.Outgoing.{Outgoing}
use Rattle.record.specs.declared.groups.Incoming.{Incoming}
use Rattle.record.specs.declared.groups.Marks.{Marks}
use Rattle.peer.specs.declared.defaults.Kept.{Kept}

-- set state: soundness does not look at the state
state_same : (state : ℕ) (p : Peer) → sound (stated state p) ≡ sound p
unfolding sound
state_same state p = refl

state_keeps : (state : ℕ) (p : Peer) → Whole p → sound p ≡ true → sound (sets_state_sound state p).after ≡ true
state_keeps state p l h = go (leb state last_state)
  where
    go : (b : Bool) → sound (pick b (finished (stated state p)) (unchanged OutOfRange p)).after ≡ true
    go true = state_same state p ∙ h
    go false = h

state_whole : (state : ℕ) (p : Peer) → Whole p → Whole (sets_state_sound state p).after
state_whole state p l = go (leb state last_state)
  where
    go : (b : Bool) → Whole (pick b (finished (stated state p)) (unchanged OutOfRange p)).after
    go true = record { channels = l.channels; outgoing = l.outgoing; incoming = l.incoming }
    go false = l

pub state_sounds : (s : Settings) (state : ℕ) → Sounds (sets_state s state)
state_sounds s state = gated_sounds s (sets_state_sound state) (state_keeps state) (state_whole state)

-- reset: nothing is held
fresh_sound : (mtu : ℕ) (k : Kept) → mtu_fits mtu ≡ true → sound (fresh_peer mtu k) ≡ true
unfolding sound fresh_peer no_lists held_fit held all own lengths blocks exist once
fresh_sound mtu k fit = rw fit

fresh_whole : (mtu : ℕ) (k : Kept) → Whole (fresh_peer mtu k)
unfolding fresh_peer
fresh_whole mtu k =
    record {
      channels = length-replicate channels no_channel;
      outgoing = length-replicate outgoing no_outgoing;
      incoming = length-replicate incoming no_incoming;
    }

mtu_fit : (s : Settings) → fit_settings s ≡ true → mtu_fits s.mtu ≡ true
mtu_fit s e = both_left (mtu_fits s.mtu) _ e

pub reset_sounds : (s : Settings) → Sounds (resets s)
reset_sounds s =
    record {
      done = λ p l n. after p (fit_settings s) refl n;
      keeps = λ p l h. keeps p (fit_settings s) refl h;
      whole = λ p l. whole p l (fit_settings s);
    }
  where
    after : (p : Peer) (f : Bool) → fit_settings s ≡ f
        → (pick f (finished (fresh_peer s.mtu (kept p))) (unchanged OutOfRange p)).answer.number ≡ 0
        → sound (pick f (finished (fresh_peer s.mtu (kept p))) (unchanged OutOfRange p)).after ≡ true
    after p true e n = fresh_sound s.mtu (kept p) (mtu_fit s e)
    after p false e n = absurd (omega arith)

    keeps : (p : Peer) (f : Bool) → fit_settings s ≡ f → sound p ≡ true
        → sound (pick f (finished (fresh_peer s.mtu (kept p))) (unchanged OutOfRange p)).after ≡ true
    keeps p true e h = fresh_sound s.mtu (kept p) (mtu_fit s e)
    keeps p false e h = h

    whole : (p : Peer) → Whole p → (f : Bool) → Whole (pick f (finished (fresh_peer s.mtu (kept p))) (unchanged OutOfRange p)).after
    whole p l true = fresh_whole s.mtu (kept p)
    whole p l false = l

-- begin: with no channel nothing is held, and every outgoing command is the peer's own
all_more : (f g : ℕ → Bool) (xs : List ℕ) → ((x : ℕ) → f x ≡ true → g x ≡ true) → all f xs ≡ true → all g xs ≡ true
unfolding all
all_more f g [] h e = refl
all_more f g (x ∷ xs) h e =
    both_true (g x) (all g xs) (h x (both_left (f x) (all f xs) e)) (all_more f g xs h (both_right (f x) (all f xs) e))

none_below : (x : ℕ) → ltb x 0 ≡ false
none_below x = le-ltb x 0 (omega arith)

out_more : (slots : List Outgoing) (count s : ℕ) → out_fit slots 0 s ≡ true → out_fit slots count s ≡ true
out_more slots count s e = both_true (names_fields c) _ (both_left (names_fields c) _ e) (go (ltb c.channel count))
  where
    c : Command
    c = (get_or slots s no_outgoing).command

    own_channel : is_itself c.channel ≡ true
    own_channel = simp (none_below c.channel) at (both_right (names_fields c) (on_channel c.channel 0) e)

    go : (b : Bool) → pick b true (is_itself c.channel) ≡ true
    go true = refl
    go false = own_channel

in_more : (m : Marks) (slots : List Incoming) (count s : ℕ) → in_fit m slots 0 s ≡ true → in_fit m slots count s ≡ true
in_more m slots count s e =
    let l = kind_fit m (get_or slots s no_incoming) in
    let z : ltb (get_or slots s no_incoming).channel 0 ≡ true = both_right l _ e in
    absurd (omega (arith, ltb-true (get_or slots s no_incoming).channel 0 z))

-- channels as made new hold nothing
module _ (slots : List Incoming) where
  pub held_none : (n k : ℕ) → held (take k (replicate n no_channel)) ≡ []
  unfolding held no_channel
  held_none n zero = refl
  held_none zero (suc k) = refl
  held_none (suc n) (suc k) = held_none n k

  fit_none : (n k : ℕ) → held_fit (take k (replicate n no_channel)) ≡ true
  unfolding held_fit no_channel
  fit_none n zero = refl
  fit_none zero (suc k) = refl
  fit_none (suc n) (suc k) = fit_none n k

  own_none : (n k j : ℕ) → own slots j (take k (replicate n no_channel)) ≡ true
  unfolding own all no_channel
  own_none n zero j = refl
  own_none zero (suc k) j = refl
  own_none (suc n) (suc k) j = own_none n k (j + 1)

module _ (mtu count : ℕ) (p : Peer) (h : sound p ≡ true) (none : p.standing.channels ≡ 0)
    (fit : mtu_fits mtu ≡ true) (few : leb count channels ≡ true) where
  -- what the record's soundness says, with no channel
  was : both (ranged p.flow.mtu 0)
      (both (both (lists_fit p.lists) true)
      (both (out_sound p.outgoing p.lists 0) (in_sound p.marks p.incoming p.lists [] 0 p.waiting.total))) ≡ true
  unfolding sound held_fit
  was = rw none at h

  was_lists : both (both (lists_fit p.lists) true)
      (both (out_sound p.outgoing p.lists 0) (in_sound p.marks p.incoming p.lists [] 0 p.waiting.total)) ≡ true
  was_lists = both_right (ranged p.flow.mtu 0) _ was

  was_pools : both (out_sound p.outgoing p.lists 0) (in_sound p.marks p.incoming p.lists [] 0 p.waiting.total) ≡ true
  was_pools = both_right (both (lists_fit p.lists) true) _ was_lists

  lists : lists_fit p.lists ≡ true
  lists = both_left (lists_fit p.lists) true (both_left (both (lists_fit p.lists) true) _ was_lists)

  out : out_sound p.outgoing p.lists count ≡ true
  out =
      let w = both_left (out_sound p.outgoing p.lists 0) _ was_pools in
      let named = both (exist outgoing (used_out p.lists)) (once (used_out p.lists)) in
      let fit = all (out_fit p.outgoing 0) (used_out p.lists) in
      let sent = all (tried p.outgoing) (out_items p.lists.sent) in
      both_true named _ (both_left named (both fit sent) w)
      (both_true _ sent
      (all_more (out_fit p.outgoing 0) (out_fit p.outgoing count) (used_out p.lists) (out_more p.outgoing count) (both_left fit sent (both_right named (both fit sent) w)))
      (both_right fit sent (both_right named (both fit sent) w)))

  now_held : List Channel
  now_held = below (replicate channels no_channel) count

  inn : in_sound p.marks p.incoming p.lists now_held count p.waiting.total ≡ true
  unfolding now_held held
  inn =
      rw (held_none p.incoming channels count)
      (let w = both_right (out_sound p.outgoing p.lists 0) _ was_pools in
      let xs = in_items p.lists.dispatched ++ [] in
      let named = both (exist incoming xs) (once xs) in
      let fit = all (in_fit p.marks p.incoming 0) xs in
      let rest = both (eqb p.waiting.total (lengths p.incoming xs)) (one_block p.marks (blocks p.incoming xs)) in
      both_true named _ (both_left named _ w)
      (both_true _ _ (all_more (in_fit p.marks p.incoming 0) (in_fit p.marks p.incoming count) xs (in_more p.marks p.incoming count) (both_left fit _ (both_right named _ w)))
      (both_true _ rest (own_none p.incoming channels count 0)
      (both_right (own p.incoming 0 []) rest (both_right fit (both (own p.incoming 0 []) rest) (both_right named _ w))))))

  begun-sound : sound (begun mtu count p) ≡ true
  unfolding sound now_held
  begun-sound =
      both_true (ranged mtu count) _ (both_true (mtu_fits mtu) _ fit few)
      (both_true (both (lists_fit p.lists) (held_fit now_held)) _ (both_true (lists_fit p.lists) (held_fit now_held) lists (fit_none p.incoming channels count))
      (both_true (out_sound p.outgoing p.lists count) (in_sound p.marks p.incoming p.lists now_held count p.waiting.total) out inn))

begin_keeps : (mtu count : ℕ) (p : Peer) → Whole p → sound p ≡ true → sound (begins_sound mtu count p).after ≡ true
begin_keeps mtu count p l h = go (begin_fits mtu count p.standing.channels) refl
  where
    go : (b : Bool) → begin_fits mtu count p.standing.channels ≡ b → sound (pick b (finished (begun mtu count p)) (unchanged OutOfRange p)).after ≡ true
    go true e =
        let rest = both_right (leb 1 count) _ (both_right (mtu_fits mtu) _ e) in
        begun-sound mtu count p h (eqb-true p.standing.channels 0 (both_right (leb count channels) _ rest)) (both_left (mtu_fits mtu) _ e)
        (both_left (leb count channels) _ rest)
    go false e = h

begin_whole : (mtu count : ℕ) (p : Peer) → Whole p → Whole (begins_sound mtu count p).after
begin_whole mtu count p l = go (begin_fits mtu count p.standing.channels)
  where
    go : (b : Bool) → Whole (pick b (finished (begun mtu count p)) (unchanged OutOfRange p)).after
    go true = record { channels = length-replicate channels no_channel; outgoing = l.outgoing; incoming = l.incoming }
    go false = l

pub begin_sounds : (s : Settings) (mtu count : ℕ) → Sounds (begins s mtu count)
begin_sounds s mtu count = gated_sounds s (begins_sound mtu count) (begin_keeps mtu count) (begin_whole mtu count)
