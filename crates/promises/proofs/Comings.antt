-- What comes out is what went in, each packet once, in the order in which they joined dispatched; each is reliable or unsequenced, and on each channel
-- the reliable ones take the numbers 1, 2, 3 and so on. The argument: every call lets packets pass as Presence says, whatever it answers; a run is one
-- call after another, and a reset that is done begins with nothing. A channel's reliable ones that joined are those that `reports` tells of, and what
-- came out is the front of what joined.
use Prim.Native.Nat.{ℕ, ◌≤◌}
use mathlib.Core.Path.{◌≡◌, refl, ap, ap₂, sym, ◌∙◌}
use mathlib.Core.Bool.{Bool, true, false}
use mathlib.Core.List.{List, [], ◌∷◌, ◌++◌, append-nil}
use native.Mathlib.Omega.{arith}
use lib.Dec.{eqb}
use lib.ListN.{length, length-append}
use borrow.Author.Tests.{eqb-true, eq-eqb}
use Rattle.numbers.specs.Pick.{pick}
use Rattle.numbers.specs.declared.refusals.Refusal.TheVariants.{OutOfRange}
use Rattle.record.specs.Fresh.{no_lists}
use Rattle.record.specs.Damage.{held}
use Rattle.peer.specs.Settings.{fit_settings}
use Rattle.peer.specs.Fresh.{fresh_peer}
use Rattle.peer.specs.Outcome.{State, Outcome, finished, unchanged}
use Rattle.peer.specs.Sounds.{Whole}
use Rattle.peer.specs.declared.settings.Settings.{Settings}
use Rattle.peer.specs.declared.Peer.{Peer}
use Rattle.peer.specs.declared.defaults.Kept.{Kept}
use Rattle.lifecycle.specs.Calls.{kept, begins, sets_state}
use Rattle.dispatch.specs.Calls.{dispatches}
use Rattle.receive.specs.Calls.{receives}
use Rattle.arrive_unsequenced.specs.Calls.{arrives_unsequenced}
use Rattle.arrive_reliable.specs.Calls.{arrives_reliable}
use Rattle.arrive_fragment.specs.Calls.{arrives_fragment}
use Rattle.link_out.specs.Steps.{calls_out}
use Rattle.link_in.specs.Steps.{beside}
use Rattle.link.specs.Steps.{calls}
use Rattle.link.specs.Runs.{Asked, comes_to, Packet, handed, run, reset_state}
use Rattle.link_in.specs.declared.calls.Call.TheVariants as inw
use Rattle.link.specs.declared.calls.Call.{Call}
use Rattle.link.specs.declared.calls.Call.TheVariants as call
use Rattle.promises.specs.Counts.{count, those}
use Rattle.promises.specs.Reports.{numbers_joined, is_on, is_anew, reports, series}
use Rattle.promises.specs.Packets.{ready, present, Building, builds, put_in, Ledger, fresh_ledger, newly, is_reset, writes, ledger, reliable_on, is_either, all_taken, ComesOut}
use Rattle.promises.proofs.Sounding.{fresh_whole, call_sounds}
use Rattle.promises.proofs.Presence.{count_append, count_none, still, still_passes, Booked, with, passed}
use Rattle.promises.proofs.Building.{slot_of, Stock, ready_there}
use Rattle.promises.proofs.Fragments.{Blocked, blocked_grows, fragment_pieced}
use Rattle.promises.proofs.Stocks.{written, fresh_stock, GrowsBy, call_stock}
use Rattle.promises.proofs.Reporting.{counts_once}
use Rattle.promises.proofs.Quiet.{begin_still, state_still, outward_still}
use Rattle.promises.proofs.Passing.{dispatch_passes, receive_passes, unsequenced_passes, reliable_passes}
use Rattle.promises.proofs.Sorts.{all_kinds, unsequenced_known, reliable_known, other, reliable_put, unsequenced_put}
use Rattle.promises.proofs.Sorts.{those-on, numbers_on, numbers_append, numbers_newly, series_front}
use Rattle.promises.proofs.Sorts.{Unbegun, Joined, dispatch_joined, reliable_joined, unsequenced_enters}
use Rattle.promises.proofs.Sorts.{Before, state_before, outward_before, begin_at, still_newly, receive_shorter}

-- nothing is there after a reset
fresh_holds : (mtu : ℕ) (k : Kept) (store second : List ℕ) → Booked fresh_ledger (reset_state mtu k store second)
unfolding fresh_peer no_lists held count those
fresh_holds mtu k store second = record { once = λ f. refl; order = refl }

abbrev Holds : Settings → Call → List ℕ → State → Ledger → Type 0
Holds s c datagram x l = let o = calls s c datagram x in Booked (written c datagram x o l) o.after

reset_holds : (s : Settings) (datagram : List ℕ) (x : State) (l : Ledger) → Booked l x → Holds s call.Reset datagram x l
reset_holds s datagram x l h = go (fit_settings s)
  where
    go : (b : Bool) → let o = beside x (pick b (finished (fresh_peer s.mtu (kept x.peer))) (unchanged OutOfRange x.peer)) in
        Booked (pick (is_reset call.Reset o.answer) fresh_ledger (with l x o.after [] [] l.building)) o.after
    go true = fresh_holds s.mtu (kept x.peer) x.store x.second
    go false = passed l l.building h (still_passes x x.peer (still x.peer))

call_holds : (c : Call) (s : Settings) (datagram : List ℕ) (x : State) (l : Ledger) → Whole x.peer → Stock (Blocked l.building) x → Booked l x
    → Holds s c datagram x l
call_holds call.Reset s datagram x l w k h = reset_holds s datagram x l h
call_holds (call.Begin mtu channels) s datagram x l w k h = passed l l.building h (still_passes x (begins s mtu channels x.peer).after (begin_still s mtu channels x.peer))
call_holds (call.SetState state) s datagram x l w k h = passed l l.building h (still_passes x (sets_state s state x.peer).after (state_still s state x.peer))
call_holds (call.Outward c) s datagram x l w k h = passed l l.building h (still_passes x (calls_out s c x.peer).after (outward_still s c x.peer))
call_holds (call.Inward (inw.UnsequencedArrival a group)) s datagram x l w k h = passed l l.building h (unsequenced_passes s a group datagram x w)
call_holds (call.Inward (inw.ReliableArrival a)) s datagram x l w k h = passed l l.building h (reliable_passes s a datagram x w)
call_holds (call.Inward (inw.FragmentArrival a)) s datagram x l w k h =
    passed l _ h (fragment_pieced Blocked (λ b m second i j. j) s a datagram x l.building w (blocked_grows s.packet a datagram l.building) k).passes
call_holds (call.Inward (inw.Dispatch channel)) s datagram x l w k h = passed l l.building h (dispatch_passes s channel x w)
call_holds (call.Inward inw.Receive) s datagram x l w k h = passed l l.building h (receive_passes s x (λ n e. eq-eqb (slot_of x n).remaining 0 (k.out n e)))

-- ---- what stands along a run: what is stored is of either kind; what of it is not reliable has joined; nothing joined before begin
record Sorted (l : Ledger) (x : State) : Type 0 where
  pub known : count is_either l.stored ≡ length l.stored
  pub early : count other l.stored ≤ count other l.joined
  pub none : Unbegun x.peer → l.joined ≡ []

fresh_sorted : (x : State) → Sorted fresh_ledger x
unfolding count
fresh_sorted x = record { known = refl; early = omega arith; none = λ z. refl }

sorted_on : (l : Ledger) (x y : State) (put out : List Packet) (d : Building) → Sorted l x → count is_either put ≡ length put → count other put ≤ count other (newly x y)
    → (Unbegun x.peer → newly x y ≡ []) → Before x.peer y.peer → Sorted (with l x y put out d) y
sorted_on l x y put out d h known early none before =
    record {
      known = omega (arith, h.known, known, count_append is_either l.stored put, length-append l.stored put);
      early = omega (arith, h.early, early, count_append other l.stored put, count_append other l.joined (newly x y));
      none = λ z. ap₂ (λ (ks ls : List Packet). ks ++ ls) (h.none (before z)) (none (before z));
    }

-- nothing put in
sorted_none : (l : Ledger) (x y : State) (out : List Packet) → Sorted l x → (Unbegun x.peer → newly x y ≡ []) → Before x.peer y.peer
    → Sorted (with l x y [] out l.building) y
sorted_none l x y out h none before =
    sorted_on l x y [] out l.building h (count_none is_either) (omega (arith, count_none other)) none before

-- what joins is reliable, if what was put in is: else more of the others had joined than went in
late_reliable : (l : Ledger) (x y : State) (put out : List Packet) (d : Building) → Sorted l x → Booked (with l x y put out d) y
    → count other (ready y) ≤ count other (present y) → count other put ≡ 0 → count other (newly x y) ≡ 0
late_reliable l x y put out d h b within none =
    omega (
      arith,
      none,
      within,
      h.early,
      b.once other,
      ap (count other) b.order,
      count_append other (l.received ++ out) (ready y),
      count_append other l.stored put,
      count_append other l.joined (newly x y),
    )

none_taken : all_taken [] ≡ []
unfolding all_taken
none_taken = refl

-- ---- the log of a channel, beside the ledger: nothing joins; an unsequenced one does; reliable ones of one channel do
none_log : (channel : ℕ) (ks ls : List Packet) → ls ≡ [] → numbers_on channel ks ≡ numbers_on channel (ks ++ ls)
none_log channel ks ls e = ap (numbers_on channel) (sym (append-nil ks) ∙ ap (λ (ms : List Packet). ks ++ ms) (sym e))

unsequenced_log : (channel : ℕ) (ks ls put : List Packet) → ls ≡ put → those (reliable_on channel) put ≡ []
    → numbers_on channel ks ≡ numbers_on channel (ks ++ ls)
unsequenced_log channel ks ls put is none =
    sym (append-nil (numbers_on channel ks))
    ∙ ap (λ (ns : List ℕ). numbers_on channel ks ++ ns) (sym (ap all_taken (ap (those (reliable_on channel)) is ∙ none) ∙ none_taken))
    ∙ sym (numbers_append channel ks ls)

joined_log : (channel on : ℕ) (x y : State) (ks : List Packet) → Joined on x y → count other (newly x y) ≡ 0
    → pick (eqb on channel) (numbers_on channel ks ++ numbers_joined x y) (numbers_on channel ks) ≡ numbers_on channel (ks ++ newly x y)
joined_log channel on x y ks j none =
    go (eqb on channel) (those-on channel on (newly x y) j.of none) ∙ sym (numbers_append channel ks (newly x y))
  where
    go : (b : Bool) → those (reliable_on channel) (newly x y) ≡ pick b (newly x y) []
        → pick b (numbers_on channel ks ++ numbers_joined x y) (numbers_on channel ks) ≡ numbers_on channel ks ++ numbers_on channel (newly x y)
    go true e = ap (λ (ns : List ℕ). numbers_on channel ks ++ ns) (sym (numbers_newly x y) ∙ sym (ap all_taken e))
    go false e = sym (append-nil (numbers_on channel ks)) ∙ ap (λ (ns : List ℕ). numbers_on channel ks ++ ns) (sym (ap all_taken e ∙ none_taken))

-- ---- each call: the ledger after it is sorted, and the log of each channel goes on beside it
record Next (c : Call) (datagram : List ℕ) (x : State) (o : Outcome State) (l : Ledger) : Type 0 where
  pub sorted : Sorted (written c datagram x o l) o.after
  pub logs : (channel : ℕ) → let log = numbers_on channel l.joined in
      pick (is_anew c o.answer) [] (pick (is_on channel c) (log ++ numbers_joined x o.after) log) ≡ numbers_on channel (written c datagram x o l).joined

none_numbers : (channel : ℕ) → [] ≡ numbers_on channel []
unfolding those all_taken
none_numbers channel = refl

reset_next : (s : Settings) (datagram : List ℕ) (x : State) (l : Ledger) → Sorted l x
    → Next call.Reset datagram x (calls s call.Reset datagram x) l
reset_next s datagram x l h = go (fit_settings s)
  where
    go : (b : Bool) → Next call.Reset datagram x (beside x (pick b (finished (fresh_peer s.mtu (kept x.peer))) (unchanged OutOfRange x.peer))) l
    go true = record { sorted = fresh_sorted (reset_state s.mtu (kept x.peer) x.store x.second); logs = none_numbers }
    go false =
        let none = still_newly x x.peer (still x.peer) in
        record { sorted = sorted_none l x x [] h (λ z. none) (λ z. z); logs = λ channel. none_log channel l.joined (newly x x) none }

begin_next : (s : Settings) (mtu count : ℕ) (datagram : List ℕ) (x : State) (l : Ledger) → Sorted l x
    → Next (call.Begin mtu count) datagram x (calls s (call.Begin mtu count) datagram x) l
begin_next s mtu count datagram x l h =
    record {
      sorted = sorted_none l x y [] h (λ z. none) (begin_at s mtu count x.peer).before;
      logs = λ channel. go channel (eqb o.answer.number 0) refl ∙ none_log channel l.joined (newly x y) none;
    }
  where
    o : Outcome Peer
    o = begins s mtu count x.peer

    y : State
    y = record { peer = o.after; store = x.store; second = x.second }

    none : newly x y ≡ []
    none = still_newly x o.after (begin_still s mtu count x.peer)

    go : (channel : ℕ) (b : Bool) → eqb o.answer.number 0 ≡ b → pick b [] (numbers_on channel l.joined) ≡ numbers_on channel l.joined
    go channel true e =
        none_numbers channel ∙ ap (numbers_on channel) (sym (h.none ((begin_at s mtu count x.peer).at (eqb-true o.answer.number 0 e))))
    go channel false e = refl

call_next : (c : Call) (s : Settings) (datagram : List ℕ) (x : State) (l : Ledger) → Whole x.peer → Stock (Blocked l.building) x
    → Stock (Blocked (written c datagram x (calls s c datagram x) l).building) (calls s c datagram x).after
    → Sorted l x → Holds s c datagram x l → Next c datagram x (calls s c datagram x) l
call_next call.Reset s datagram x l w k v h b = reset_next s datagram x l h
call_next (call.Begin mtu channels) s datagram x l w k v h b = begin_next s mtu channels datagram x l h
call_next (call.SetState state) s datagram x l w k v h b =
    let q = (sets_state s state x.peer).after in
    let none = still_newly x q (state_still s state x.peer) in
    record {
      sorted = sorted_none l x (record { peer = q; store = x.store; second = x.second }) [] h (λ z. none) (state_before s state x.peer);
      logs = λ channel. none_log channel l.joined _ none;
    }
call_next (call.Outward c) s datagram x l w k v h b =
    let q = (calls_out s c x.peer).after in
    let none = still_newly x q (outward_still s c x.peer) in
    record {
      sorted = sorted_none l x (record { peer = q; store = x.store; second = x.second }) [] h (λ z. none) (outward_before s c x.peer);
      logs = λ channel. none_log channel l.joined _ none;
    }
call_next (call.Inward (inw.UnsequencedArrival a group)) s datagram x l w k v h b =
    let y = (arrives_unsequenced s a group datagram x).after in
    let put = put_in (call.Inward (inw.UnsequencedArrival a group)) (arrives_unsequenced s a group datagram x).answer datagram l.building in
    let e = unsequenced_enters s a group datagram x w in
    record {
      sorted =
          sorted_on l x y put [] l.building h (unsequenced_known s a datagram x group) (omega (arith, ap (count other) e.is)) e.none e.same;
      logs = λ channel. unsequenced_log channel l.joined (newly x y) put e.is (unsequenced_put s a datagram x group channel);
    }
call_next (call.Inward (inw.ReliableArrival a)) s datagram x l w k v h b =
    let y = (arrives_reliable s a datagram x).after in
    let put = put_in (call.Inward (inw.ReliableArrival a)) (arrives_reliable s a datagram x).answer datagram l.building in
    let j = reliable_joined s a datagram x w in
    let none = reliable_put s a datagram x in
    record {
      sorted = sorted_on l x y put [] l.building h (reliable_known s a datagram x) (omega (arith, none)) j.none j.same;
      logs = λ channel. joined_log channel a.channel x y l.joined j (late_reliable l x y put [] l.building h b (ready_there y v other) none);
    }
call_next (call.Inward (inw.FragmentArrival a)) s datagram x l w k v h b =
    let o = arrives_fragment s a datagram x in
    let y = o.after in
    let d = builds (call.Inward (inw.FragmentArrival a)) datagram x o.answer l.building in
    let put = put_in (call.Inward (inw.FragmentArrival a)) o.answer datagram d in
    let e = fragment_pieced Blocked (λ b m second i j. j) s a datagram x l.building w (blocked_grows s.packet a datagram l.building) k in
    let j = e.joined in
    record {
      sorted = sorted_on l x y put [] d h e.known (omega (arith, e.late)) j.none j.same;
      logs = λ channel. joined_log channel a.channel x y l.joined j (late_reliable l x y put [] d h b (ready_there y v other) e.late);
    }
call_next (call.Inward (inw.Dispatch on)) s datagram x l w k v h b =
    let y = (beside x (dispatches s on x.peer)).after in
    let j = dispatch_joined s on x w in
    record {
      sorted = sorted_none l x y [] h j.none j.same;
      logs = λ channel. joined_log channel on x y l.joined j (late_reliable l x y [] [] l.building h b (ready_there y v other) (count_none other));
    }
call_next (call.Inward inw.Receive) s datagram x l w k v h b =
    let o = beside x (receives s x.peer) in
    let r = receive_shorter s x in
    record {
      sorted = sorted_none l x o.after (handed o.answer x) h (λ z. r.none) r.same;
      logs = λ channel. none_log channel l.joined (newly x o.after) r.none;
    }

-- ---- a run
record Stands (l : Ledger) (x : State) : Type 0 where
  pub whole : Whole x.peer
  pub stock : Stock (Blocked l.building) x
  pub booked : Booked l x
  pub sorted : Sorted l x

-- each piece goes on with what is known of the block
grows_by : (c : Call) (s : Settings) (datagram : List ℕ) (b : Building) → GrowsBy Blocked s c datagram b
grows_by call.Reset s datagram b = tt
grows_by (call.Begin mtu channels) s datagram b = tt
grows_by (call.SetState state) s datagram b = tt
grows_by (call.Outward c) s datagram b = tt
grows_by (call.Inward (inw.UnsequencedArrival a group)) s datagram b = tt
grows_by (call.Inward (inw.ReliableArrival a)) s datagram b = tt
grows_by (call.Inward (inw.FragmentArrival a)) s datagram b = blocked_grows s.packet a datagram b
grows_by (call.Inward (inw.Dispatch channel)) s datagram b = tt
grows_by (call.Inward inw.Receive) s datagram b = tt

module _ (a : Asked) (x : State) (l : Ledger) (k : Stands l x) where
  asked_stock : Stock (Blocked (writes a x l).building) (comes_to a x).after
  asked_stock =
      call_stock Blocked (λ b m second i j. j) a.call a.settings a.datagram x l k.whole (grows_by a.call a.settings a.datagram l.building)
      k.stock

  asked_booked : Booked (writes a x l) (comes_to a x).after
  asked_booked = call_holds a.call a.settings a.datagram x l k.whole k.stock k.booked

  asked_next : Next a.call a.datagram x (comes_to a x) l
  asked_next = call_next a.call a.settings a.datagram x l k.whole k.stock asked_stock k.sorted asked_booked

  asked_stands : Stands (writes a x l) (comes_to a x).after
  asked_stands =
      record {
        whole = (call_sounds a.settings a.call a.datagram x.store x.second).whole x.peer k.whole;
        stock = asked_stock;
        booked = asked_booked;
        sorted = asked_next.sorted;
      }

run_stands : (calls : List Asked) (x : State) (l : Ledger) → Stands l x → Stands (ledger calls x l) (run calls x).end
unfolding run ledger
run_stands [] x l k = k
run_stands (a ∷ rest) x l k = run_stands rest (comes_to a x).after (writes a x l) (asked_stands a x l k)

-- the reliable ones of a channel that joined are those that `reports` tells of
run_logs : (channel : ℕ) (calls : List Asked) (x : State) (l : Ledger) → Stands l x
    → reports channel calls x (numbers_on channel l.joined) ≡ numbers_on channel (ledger calls x l).joined
unfolding reports ledger
run_logs channel [] x l k = refl
run_logs channel (a ∷ rest) x l k =
    ap (reports channel rest (comes_to a x).after) ((asked_next a x l k).logs channel)
    ∙ run_logs channel rest (comes_to a x).after (writes a x l) (asked_stands a x l k)

module _ (mtu : ℕ) (kept : Kept) (store second : List ℕ) (calls : List Asked) where
  abbrev start : State
  start = reset_state mtu kept store second

  abbrev book : Ledger
  book = ledger calls start fresh_ledger

  fresh_stands : Stands fresh_ledger start
  fresh_stands =
      record {
        whole = fresh_whole mtu kept;
        stock = fresh_stock mtu kept store second;
        booked = fresh_holds mtu kept store second;
        sorted = fresh_sorted start;
      }

  abbrev ending : Stands book (run calls start).end
  ending = run_stands calls start fresh_ledger fresh_stands

  numbered : (channel : ℕ) → numbers_on channel book.received ≡ series 0 (length (numbers_on channel book.received))
  numbered channel =
      let y = (run calls start).end in
      let log = reports channel calls start [] in
      let told : log ≡ numbers_on channel book.joined =
      ap (reports channel calls start) (none_numbers channel) ∙ run_logs channel calls start fresh_ledger fresh_stands in
      series_front 0 (numbers_on channel book.received) (numbers_on channel (ready y)) (length log)
      (sym (numbers_append channel book.received (ready y)) ∙ ap (numbers_on channel) ending.booked.order
      ∙ sym told ∙ counts_once mtu kept store second calls channel)

  -- what joined was put in
  pub joined-stored : (f : Packet → Bool) → count f book.joined ≤ count f book.stored
  joined-stored f =
      let y = (run calls start).end in
      omega (
        arith,
        ap (count f) ending.booked.order,
        count_append f book.received (ready y),
        ready_there y ending.stock f,
        ending.booked.once f,
      )

pub comes_out : ComesOut
comes_out mtu kept store second calls =
    let k = ending mtu kept store second calls in
    let l = book mtu kept store second calls in
    record {
      once = k.booked.once;
      order = k.booked.order;
      numbers = numbered mtu kept store second calls;
      kinds = all_kinds l.received (present (run calls (reset_state mtu kept store second)).end) l.stored k.booked.once k.sorted.known;
    }
