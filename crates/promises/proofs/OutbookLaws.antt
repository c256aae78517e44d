-- Along every run from a reset every command that was queued is in exactly one place: in one of the three lists, removed by an acknowledgement that
-- named its number and channel, or freed by a send step that needed no answer; and on each channel the reliable numbers of what was queued are
-- 1, 2, 3 and so on. The argument: setup, ping and send add to the lists what joins at their ends; a send step and an acknowledgement take from them
-- what is gone; a timeout check moves it; no other call touches it; and a reset that is done begins with nothing.
use Prim.Native.Nat.{ℕ, ◌+◌}
use mathlib.Core.Path.{◌≡◌, refl, ap, ap₂, sym, subst, ◌∙◌}
use mathlib.Core.Bool.{Bool, true, false}
use mathlib.Core.List.{List, [], ◌∷◌, ◌++◌, map, map-append, append-nil}
use native.Mathlib.Omega.{arith}
use lib.ListN.{length, length-map, length-append}
use lib.Seq.{drop-length}
use Rattle.numbers.specs.Pick.{pick}
use Rattle.numbers.specs.declared.refusals.Refusal.TheVariants.{OutOfRange}
use Rattle.record.specs.Lists.{out_items}
use Rattle.record.specs.Fresh.{no_lists}
use Rattle.peer.specs.Fresh.{fresh_peer}
use Rattle.peer.specs.Settings.{fit_settings}
use Rattle.peer.specs.Sounds.{Whole}
use Rattle.peer.specs.Outcome.{State, finished, unchanged}
use Rattle.peer.specs.declared.settings.Settings.{Settings}
use Rattle.peer.specs.declared.Peer.{Peer}
use Rattle.peer.specs.declared.defaults.Kept.{Kept}
use Rattle.lifecycle.specs.Calls.{kept, begins, sets_state}
use Rattle.setup.specs.Queueing.{queued_all}
use Rattle.link_out.specs.Steps.{calls_out}
use Rattle.link_out.specs.declared.calls.Call.{Call as Outward}
use Rattle.link_out.specs.declared.calls.Call.TheVariants as out
use Rattle.link_in.specs.Steps.{beside}
use Rattle.link_in.specs.declared.calls.Call.TheVariants as inw
use Rattle.link.specs.Steps.{calls}
use Rattle.link.specs.Runs.{Asked, comes_to, run, reset_state}
use Rattle.link.specs.declared.calls.Call.{Call}
use Rattle.link.specs.declared.calls.Call.TheVariants as call
use Rattle.promises.specs.Counts.{count, those}
use Rattle.promises.specs.Packets.{is_reset}
use Rattle.promises.specs.Reports.{series}
use Rattle.promises.specs.Outbook.{Item, items_at, waiting, joined_out, gone, Removed, heard, is_named, Outbook, items_of, fresh_outbook, queues, enters, booked, writes_out, outbook, numbered_on, NoneLost}
use Rattle.promises.proofs.Reporting.{rises_series}
use Rattle.promises.proofs.Sounding.{fresh_whole, call_sounds}
use Rattle.promises.proofs.OutCounts.{count_append, count_map}
use Rattle.promises.proofs.OutQueues.{news, joined_news, queues_once}
use Rattle.promises.proofs.OutSetting.{Queues, none, some, setup_queues, ping_queues, send_queues}
use Rattle.promises.proofs.OutLeaving.{asks, Leaves, Hears, step_leaves, acknowledge_hears, check_keeps}
use Rattle.promises.proofs.PieceAside.{fragment_aside}
use Rattle.promises.proofs.OutAside.{begin_leaves, Uncounted, Aside, aside_waiting, state_aside, throttle_aside, receive_aside, dispatch_aside, unsequenced_aside, reliable_aside}
use Rattle.promises.proofs.OutNumbers.{Counted, uncounted_counted, pieces_counted, fresh_counted, begin_counted, step_uncounted, acknowledge_uncounted, check_uncounted}

-- what stands along a run
record Books (b : Outbook) (p : Peer) : Type 0 where
  once : (f : Item → Bool) → count f b.queued ≡ count f (waiting p) + count f (items_of b.removed) + count f b.freed
  named : count is_named b.removed ≡ length b.removed
  plain : count asks b.freed ≡ 0
  numbers : (c : ℕ) → Counted c b.queued p

-- ---- a call that leaves the commands in the lists
kept_books : (b : Outbook) (p q : Peer) → ((f : Item → Bool) → count f (waiting q) ≡ count f (waiting p)) → Uncounted p q → Books b p → Books b q
kept_books b p q same u k =
    record {
      once = λ f. omega (arith, k.once f, same f);
      named = k.named;
      plain = k.plain;
      numbers = λ c. uncounted_counted c b.queued p q u (k.numbers c);
    }

aside_books : (b : Outbook) (p q : Peer) → Aside p q → Books b p → Books b q
aside_books b p q a k = kept_books b p q (λ f. ap (count f) (aside_waiting p q a.slots a.names)) a.counters k

-- ---- a call that queues
none_joined : (p : Peer) → joined_out p p ≡ []
none_joined p =
    ap₂ (λ (ys zs : List ℕ). items_at p ys ++ items_at p zs) (drop-length (out_items p.lists.outgoing)) (drop-length (out_items p.lists.send_reliable))

queued_books : (b : Outbook) (p q : Peer) → Queues p q → Books b p → Books (queues (joined_out p q) b) q
queued_books b p q (none e) k =
    subst (λ (r : Peer). Books (queues (joined_out p r) b) r) (sym e)
    (subst (λ (is : List Item). Books (record { queued = is; removed = b.removed; freed = b.freed }) p)
    (sym (append-nil b.queued) ∙ ap (λ (js : List Item). b.queued ++ js) (sym (none_joined p))) k)
queued_books b p q (some s) k =
    let xs = s.pieces in
    let is = news xs p s.ready in
    let done : Books (queues is b) (queued_all xs p) =
    record {
      once = λ f. omega (arith, k.once f, queues_once xs p s.ready s.to s.ends f, count_append f b.queued is);
      named = k.named;
      plain = k.plain;
      numbers = λ c. pieces_counted c xs b.queued p s.ready (k.numbers c);
    } in
    subst (λ (r : Peer). Books (queues (joined_out p r) b) r) (sym s.is)
    (subst (λ (js : List Item). Books (queues js b) (queued_all xs p)) (sym (joined_news xs p s.ready s.to s.ends)) done)

-- ---- a call that takes some off the lists
freed_books : (b : Outbook) (p q : Peer) → Leaves p q → count asks (gone p q) ≡ 0 → Uncounted p q → Books b p
    → Books (record { queued = b.queued; removed = b.removed; freed = b.freed ++ gone p q }) q
freed_books b p q leaves plain u k =
    record {
      once = λ f. omega (arith, k.once f, leaves f, count_append f b.freed (gone p q));
      named = k.named;
      plain = omega (arith, k.plain, plain, count_append asks b.freed (gone p q));
      numbers = λ c. uncounted_counted c b.queued p q u (k.numbers c);
    }

-- what was removed, without what was named
heard_items : (number channel : ℕ) (is : List Item) → items_of (map (heard number channel) is) ≡ is
heard_items number channel [] = refl
heard_items number channel (i ∷ is) = ap (λ (js : List Item). i ∷ js) (heard_items number channel is)

removed_books : (number channel : ℕ) (b : Outbook) (p q : Peer) → Hears number channel p q → Uncounted p q → Books b p
    → Books (record { queued = b.queued; removed = b.removed ++ map (heard number channel) (gone p q); freed = b.freed }) q
removed_books number channel b p q h u k =
    let rs = map (heard number channel) (gone p q) in
    let items : items_of (b.removed ++ rs) ≡ items_of b.removed ++ gone p q =
    map-append (λ (r : Removed). r.item) b.removed rs
    ∙ ap (λ (is : List Item). items_of b.removed ++ is) (heard_items number channel (gone p q)) in
    record {
      once = λ f. omega (arith, k.once f, h.leaves f, ap (count f) items ∙ count_append f (items_of b.removed) (gone p q));
      named =
          count_append is_named b.removed rs
          ∙ ap₂ (λ (m n : ℕ). m + n) k.named
          (count_map is_named (heard number channel) (gone p q) ∙ h.named ∙ sym (length-map (gone p q) (heard number channel)))
          ∙ sym (length-append b.removed rs);
      plain = k.plain;
      numbers = λ c. uncounted_counted c b.queued p q u (k.numbers c);
    }

-- ---- each call
outward_books : (a : Outward) (s : Settings) (p : Peer) (b : Outbook) → Whole p → Books b p → let q = (calls_out s a p).after in Books (enters a p q b) q
outward_books out.Ping s p b w k = queued_books b p (calls_out s out.Ping p).after (ping_queues s p w) k
outward_books (out.Send channel long flags) s p b w k =
    queued_books b p (calls_out s (out.Send channel long flags) p).after (send_queues s channel long flags p w) k
outward_books (out.Setup x) s p b w k = queued_books b p (calls_out s (out.Setup x) p).after (setup_queues s x p w) k
outward_books (out.SendStep queue time) s p b w k =
    let j = step_leaves s queue time p in
    freed_books b p (calls_out s (out.SendStep queue time) p).after j.leaves j.plain (step_uncounted s queue time p) k
outward_books (out.Acknowledgement channel number sent clock) s p b w k =
    removed_books number.0 channel b p (calls_out s (out.Acknowledgement channel number sent clock) p).after
    (acknowledge_hears s channel number.0 sent clock p) (acknowledge_uncounted s channel number.0 sent clock p) k
outward_books (out.TimeoutCheck clock) s p b w k =
    kept_books b p (calls_out s (out.TimeoutCheck clock) p).after (check_keeps s clock p w) (check_uncounted s clock p) k
outward_books (out.Throttle sample) s p b w k = aside_books b p (calls_out s (out.Throttle sample) p).after (throttle_aside s sample p) k

fresh_books : (mtu : ℕ) (k : Kept) → Books fresh_outbook (fresh_peer mtu k)
unfolding fresh_peer no_lists count
fresh_books mtu k = record { once = λ f. refl; named = refl; plain = refl; numbers = λ c. fresh_counted c mtu k }

begin_books : (s : Settings) (mtu many : ℕ) (p : Peer) (b : Outbook) → Books b p → Books b (begins s mtu many p).after
begin_books s mtu many p b k =
    let same = begin_leaves s mtu many p in
    record {
      once = λ f. omega (arith, k.once f, ap (count f) same);
      named = k.named;
      plain = k.plain;
      numbers = λ c. begin_counted s mtu many p c b.queued (k.numbers c);
    }

abbrev After : Settings → Call → List ℕ → State → Outbook → Type 0
After s c datagram x b =
    let o = calls s c datagram x in
    Books (pick (is_reset c o.answer) fresh_outbook (booked c x.peer o.after.peer b)) o.after.peer

reset_books : (s : Settings) (datagram : List ℕ) (x : State) (b : Outbook) → Books b x.peer → After s call.Reset datagram x b
reset_books s datagram x b k = go (fit_settings s)
  where
    go : (c : Bool) → let o = beside x (pick c (finished (fresh_peer s.mtu (kept x.peer))) (unchanged OutOfRange x.peer)) in
        Books (pick (is_reset call.Reset o.answer) fresh_outbook b) o.after.peer
    go true = fresh_books s.mtu (kept x.peer)
    go false = k

call_books : (c : Call) (s : Settings) (datagram : List ℕ) (x : State) (b : Outbook) → Whole x.peer → Books b x.peer → After s c datagram x b
call_books call.Reset s datagram x b w k = reset_books s datagram x b k
call_books (call.Begin mtu many) s datagram x b w k = begin_books s mtu many x.peer b k
call_books (call.SetState state) s datagram x b w k = aside_books b x.peer (sets_state s state x.peer).after (state_aside s state x.peer) k
call_books (call.Outward a) s datagram x b w k = outward_books a s x.peer b w k
call_books (call.Inward (inw.UnsequencedArrival a group)) s datagram x b w k =
    aside_books b x.peer (calls s (call.Inward (inw.UnsequencedArrival a group)) datagram x).after.peer (unsequenced_aside s a datagram x group) k
call_books (call.Inward (inw.ReliableArrival a)) s datagram x b w k =
    aside_books b x.peer (calls s (call.Inward (inw.ReliableArrival a)) datagram x).after.peer (reliable_aside s a datagram x) k
call_books (call.Inward (inw.FragmentArrival a)) s datagram x b w k =
    aside_books b x.peer (calls s (call.Inward (inw.FragmentArrival a)) datagram x).after.peer (fragment_aside s a datagram x) k
call_books (call.Inward (inw.Dispatch channel)) s datagram x b w k =
    aside_books b x.peer (calls s (call.Inward (inw.Dispatch channel)) datagram x).after.peer (dispatch_aside s channel x.peer) k
call_books (call.Inward inw.Receive) s datagram x b w k =
    aside_books b x.peer (calls s (call.Inward inw.Receive) datagram x).after.peer (receive_aside s x.peer) k

-- ---- a run
run_books : (calls : List Asked) (x : State) (b : Outbook) → Whole x.peer → Books b x.peer → Books (outbook calls x b) (run calls x).end.peer
unfolding run outbook
run_books [] x b w k = k
run_books (a ∷ rest) x b w k =
    run_books rest (comes_to a x).after (writes_out a x b) ((call_sounds a.settings a.call a.datagram x.store x.second).whole x.peer w)
    (call_books a.call a.settings a.datagram x b w k)

pub none_lost : NoneLost
none_lost mtu kept store second calls =
    let x = reset_state mtu kept store second in
    let k = run_books calls x fresh_outbook (fresh_whole mtu kept) (fresh_books mtu kept) in
    let b = outbook calls x fresh_outbook in
    record {
      once = k.once;
      named = k.named;
      plain = k.plain;
      numbers =
          λ channel.
          let is = those (numbered_on channel) b.queued in
          rises_series 0 (map (λ (i : Item). i.reliable) is) (k.numbers channel).rises ∙ ap (series 0) (length-map is (λ (i : Item). i.reliable));
    }
