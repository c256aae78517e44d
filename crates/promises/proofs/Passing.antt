-- The calls that let packets pass: dispatch, receive and the arrivals of packets (of pieces: Piecing, Fragments).
-- The argument: dispatch names each slot as often as before; receive takes dispatched's head, which is complete; an arrival that is stored adds one slot, free before, to
-- what is named, at the end of dispatched or in its channel's list.
use Rattle.std.specs.Prelude.{Option, Some}
use Prim.Native.Nat.{ℕ, ◌+◌, ◌*◌, ◌<◌}
use mathlib.Core.Path.{◌≡◌, refl, ap, ◌∙◌}
use mathlib.Core.Bool.{Bool, true, false}
use mathlib.Core.List.{List, [], ◌∷◌, ◌++◌}
use lib.ListN.{length, take, drop, get_or}
use lib.Seq.{take-set-lt}
use Rattle.std.specs.Prelude.{Ok, Some}
use Rattle.numbers.specs.Pick.{pick}
use Rattle.numbers.specs.Answers.{refused}
use Rattle.numbers.specs.declared.counters.Group.{Group}
use Rattle.numbers.specs.declared.refusals.Refusal.{Refusal}
use Rattle.record.specs.Lists.{in_items}
use Rattle.cells.specs.Runs.{first}
use Rattle.record.proofs.Keeps.{times}
use Rattle.record.specs.Sizes.{cell}
use Rattle.record.specs.Fresh.{no_incoming}
use Rattle.record.specs.Blocks.{is_block}
use Rattle.record.specs.Damage.{below, held, used_in}
use Rattle.record.specs.declared.groups.Channel.{Channel}
use Rattle.record.specs.declared.groups.Incoming.{Incoming}
use Rattle.peer.specs.Damage.{sound}
use Rattle.peer.specs.Gate.{fits, gate_of}
use Rattle.peer.specs.Outcome.{State, Outcome, finished, unchanged}
use Rattle.peer.specs.Sounds.{Whole}
use Rattle.peer.specs.Updates.{with_unsequenced}
use Rattle.peer.specs.declared.settings.Settings.{Settings}
use Rattle.peer.specs.declared.Peer.{Peer}
use Rattle.peer.specs.declared.gate.Lent.TheVariants as lent
use Rattle.peer.proofs.Gates.{sound_open, behind_has}
use Rattle.peer.proofs.InClauses.{shorter_items, used_from}
use Rattle.arrival.specs.Storing.{free_slot, delivered}
use Rattle.dispatch.specs.Calls.{dispatch_gate, dispatched_on, dispatches_sound, dispatches}
use Rattle.dispatch.proofs.Calling.{ready as ready_in, last, gone, dispatched_has}
use Rattle.dispatch.proofs.Sums.{used_same}
use Rattle.dispatch.proofs.Sound.{moves, below_count}
use Rattle.dispatch.proofs.Moving.{dispatch_order}
use Rattle.arrival.specs.Arrivals.{stored, stored_at}
use Rattle.arrival.specs.declared.Arrival.{Arrival}
use Rattle.arrival.specs.declared.Fate.TheVariants as fate
use Rattle.arrival.proofs.Admitted.{Admitted}
use Rattle.arrive_unsequenced.specs.Calls.{regrouped, judged_on, arrives_unsequenced}
use Rattle.arrive_reliable.specs.Calls.{reliable_after, arrives_reliable}
use Rattle.laws.specs.Stores.{Arrives, leaves, stores, Adds}
use Rattle.laws.proofs.Stores.{unsequenced_stores, unsequenced_adds, reliable_stores, reliable_adds}
use Rattle.laws.proofs.Unsequenced.{unsequenced_has, stored_free, more_by as delivered-by}
use Rattle.laws.proofs.Reliable.{reliable_has, held_free, between, between_whole, between-sound, left_dispatched, more_by as held_by}
use Rattle.receive.specs.Calls.{answer_of, reply_of, without_first, taken, receives_from, receives_sound, receives}
use Rattle.receive.specs.declared.Received.TheVariants as vr
use Rattle.link_in.specs.Steps.{beside}
use Rattle.link.specs.Runs.{says_one, says_two, Packet, handed}
use Rattle.promises.specs.Packets.{packet_at, is_complete, payload}
use Rattle.promises.proofs.Answers.{refused_one, refused_two}
use Rattle.promises.proofs.Presence.{named, Sums, first_named, Passes, still, still_passes, joins_passes, takes_passes, stored_passes}

-- ---- dispatch: any sum over what is named is as it was
module _ (channel : ℕ) (p : Peer) (whole : Whole p) (good : sound p ≡ true) (h : channel < p.standing.channels) where
  abbrev cs : List Channel
  cs = below p.channels p.standing.channels

  pub dispatched_same : (g : List ℕ → ℕ) → Sums g → g (named (dispatched_on channel p)) ≡ g (named p)
  dispatched_same g adds =
      dispatched_has channel p (λ (q : Peer). g (named q) ≡ g (named p)) (λ none. refl)
      (ap (λ (ds : List Channel). g (used_in (gone channel p).lists ds)) (take-set-lt p.standing.channels p.channels channel (gone channel p).channel h)
      ∙ used_same g adds p.lists cs channel (ready_in channel p) (gone channel p).lists (gone channel p).channel
      (moves channel p whole good h (ready_in channel p) (last channel p)))

pub dispatch_passes : (s : Settings) (channel : ℕ) (x : State) → Whole x.peer
    → Passes x (beside x (dispatches s channel x.peer)).after [] []
dispatch_passes s channel x whole =
    let p = x.peer in
    let same : Passes x x [] [] = still_passes x p (still p) in
    let P : Outcome Peer → Type 0 = λ o. Passes x (record { peer = o.after; store = x.store; second = x.second }) [] [] in
    behind_has (gate_of (fits s lent.Nothing) (sound p)) p (dispatches_sound channel p) P (λ why. same)
    (λ e. behind_has (dispatch_gate channel p.standing) p (finished (dispatched_on channel p)) P (λ why. same)
    (λ own.
    let good = sound_open (fits s lent.Nothing) (sound p) e in
    let h = below_count channel p.standing own in
    joins_passes x (dispatched_on channel p) _ refl (dispatch_order channel p whole good h).joined (dispatched_same channel p whole good h)))

-- ---- receive: the head comes out, a packet or a block, or nothing
refused_none : (why : Refusal) (x : State) → handed (refused why) x ≡ []
refused_none why x = neither (says_one (refused why)) (says_two (refused why)) _ _ (refused_one why) (refused_two why)
  where
    neither : (b c : Bool) (ks ls : List Packet) → b ≡ false → c ≡ false → pick b ks (pick c ls []) ≡ []
    neither b c ks ls d e = rw (d, e)

handed_head : (x : State) (n : ℕ) → handed (answer_of (reply_of (get_or x.peer.incoming n no_incoming) n)) x ≡ packet_at x n ∷ []
handed_head x n = go (is_block i)
  where
    i : Incoming
    i = get_or x.peer.incoming n no_incoming

    go : (b : Bool) → handed (answer_of (Ok (Some (pick b (vr.Block i.channel n i.length) (vr.Packet i.channel n i.length))))) x
        ≡ record {
          channel = i.channel;
          byte = i.byte;
          number = i.number.0;
          fragments = i.fragments;
          bytes = pick b (take i.length x.second) (take i.length (drop (n * cell) x.store));
        } ∷ []
    go true = refl
    go false = refl

-- what stands in dispatched is complete
pub receive_passes : (s : Settings) (x : State) → ((n : ℕ) → 0 < times (in_items x.peer.lists.dispatched) n → is_complete x n ≡ true)
    → let o = beside x (receives s x.peer) in Passes x o.after [] (handed o.answer x)
receive_passes s x done =
    behind_has (gate_of (fits s lent.Nothing) (sound x.peer)) x.peer (receives_sound x.peer)
    (λ (o : Outcome Peer). Passes x (record { peer = o.after; store = x.store; second = x.second }) [] (handed o.answer x))
    (λ why. rw (refused_none why x) (still_passes x x.peer (still x.peer)))
    (λ e. go (in_items x.peer.lists.dispatched) refl)
  where
    go : (xs : List ℕ) → in_items x.peer.lists.dispatched ≡ xs
        → let o = beside x (receives_from (first xs) x.peer) in Passes x o.after [] (handed o.answer x)
    go [] e = still_passes x x.peer (still x.peer)
    go (n ∷ rest) e =
        let l = x.peer.lists in
        let cs = below x.peer.channels x.peer.standing.channels in
        let left = shorter_items l.dispatched n rest e in
        let here : 0 < times (in_items l.dispatched) n = rw e (first_named n rest) in
        rw (handed_head x n)
        (takes_passes x (taken n x.peer) n rest (rest ++ held cs) refl e left (used_from l cs (n ∷ rest) e) (used_from (without_first l) cs rest left) (done n here))

-- ---- an arrival
abbrev Comes : Arrival → List ℕ → State → Outcome State → Type 0
Comes a datagram x o =
    Arrives a datagram x o → Adds x.peer o.after.peer → Passes x o.after (pick (says_one o.answer) (payload a datagram ∷ []) []) []

-- one more slot is named
abbrev More : State → State → ℕ → Type 0
More x y n = (g : List ℕ → ℕ) → Sums g → g (named y.peer) ≡ g (n ∷ []) + g (named x.peer)

pub same_slot : {f : Option ℕ} (n k : ℕ) → f ≡ Some n → f ≡ Some k → n ≡ k
same_slot n k d e = cc

module _ (a : Arrival) (datagram : List ℕ) (x : State) where
  refused_comes : (why : Refusal) → Comes a datagram x (unchanged why x)
  refused_comes why k js = rw (refused_one why) (still_passes x x.peer (still x.peer))

  module _ (n : ℕ) (y : State) (good : sound x.peer ≡ true) (may : Admitted a x.peer.standing (length datagram))
      (free : free_slot x.peer.lists x.peer.channels x.peer.standing.channels ≡ Some n) (more : More x y n) where
    stored_comes : Comes a datagram x (record { answer = stored; after = y })
    stored_comes (leaves l not) js = absurd (not refl)
    stored_comes (stores k is) js =
        stored_passes a datagram x y k good may.short js.joined js.is
        (λ g adds. more g adds ∙ ap (λ (m : ℕ). g (m ∷ []) + g (named x.peer)) (same_slot n k.slot free k.free))

  module _ (n : ℕ) (whole : Whole x.peer) (good : sound x.peer ≡ true) (may : Admitted a x.peer.standing (length datagram))
      (free : free_slot x.peer.lists x.peer.channels x.peer.standing.channels ≡ Some n) where
    -- in its channel's list, and some of that list then in dispatched
    held_more : More x (reliable_after (fate.Stored n) a datagram x) n
    held_more g adds =
        let q = between a datagram x n whole good may free in
        ap (λ (r : Peer). g (named r)) (left_dispatched a datagram x n whole good may free)
        ∙ dispatched_same a.channel q (between_whole a datagram x n whole good may free) (between-sound a datagram x n whole good may free) may.on g adds
        ∙ ap (λ (ds : List Channel). g (used_in x.peer.lists ds))
        (take-set-lt x.peer.standing.channels x.peer.channels a.channel _ may.on)
        ∙ held_by a datagram x n whole good may free g adds

pub unsequenced_passes : (s : Settings) (a : Arrival) (group : Group) (datagram : List ℕ) (x : State) → Whole x.peer
    → let o = arrives_unsequenced s a group datagram x in Passes x o.after (pick (says_one o.answer) (payload a datagram ∷ []) []) []
unsequenced_passes s a group datagram x whole =
    let gs = (judged_on s group x.peer).unsequenced in
    let same : Passes x (regrouped x gs) [] [] = still_passes x (with_unsequenced x.peer gs) (record { slots = refl; items = refl; names = refl }) in
    unsequenced_has s a group datagram x (Comes a datagram x) (refused_comes a datagram x) (λ good e k js. same) (λ good e k js. same)
    (λ n good long may e.
    let free = stored_free s a group datagram x n e in
    stored_comes a datagram x n (stored_at n a datagram x (delivered x.peer.lists n) gs x.peer.channels) good may free
    (delivered-by a datagram x gs n whole good may free))
    (unsequenced_stores s a group datagram x whole) (unsequenced_adds s a group datagram x whole)

pub reliable_passes : (s : Settings) (a : Arrival) (datagram : List ℕ) (x : State) → Whole x.peer
    → let o = arrives_reliable s a datagram x in Passes x o.after (pick (says_one o.answer) (payload a datagram ∷ []) []) []
reliable_passes s a datagram x whole =
    reliable_has s a datagram x (Comes a datagram x) (refused_comes a datagram x) (λ good e k js. still_passes x x.peer (still x.peer))
    (λ n good long may e.
    let free = held_free s a datagram x n e in
    stored_comes a datagram x n (reliable_after (fate.Stored n) a datagram x) good may free (held_more a datagram x n whole good may free))
    (reliable_stores s a datagram x whole) (reliable_adds s a datagram x whole)
