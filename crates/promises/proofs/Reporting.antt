-- A reliable report counts once and none is skipped: on each channel, what joins dispatched since begin bears the numbers 1, 2, 3 and so on.
-- A block of k pieces takes k of them.
-- The argument: along a run a channel's last number is the last of its log; what a dispatch takes follows it number by number, a block's too; reset and
-- begin start both anew, and no other call changes a channel's last number.
use Rattle.std.specs.Prelude.{Some}
use Prim.Native.Nat.{ℕ, zero, suc, ◌+◌, ◌-◌, ◌%◌, ◌<◌}
use mathlib.Core.Path.{◌≡◌, refl, ap, sym, subst, ◌∙◌}
use mathlib.Core.Bool.{Bool, true, false}
use mathlib.Core.List.{List, [], ◌∷◌, ◌++◌, append-nil}
use lib.Dec.{eqb}
use lib.ListN.{length, take, drop, get_or, replicate}
use lib.Seq.{drop-length, drop-append_seam, get_or-set_same, get_or-set_other}
use native.Mathlib.Omega.{arith}
use borrow.Author.Tests.{eqb-true, eqb-false, ne_eqb}
use Rattle.std.specs.Prelude.{⊤, Result}
use Rattle.numbers.specs.Pick.{pick}
use Rattle.numbers.specs.Answers.{number_of}
use Rattle.numbers.specs.Counters as counters
use Rattle.numbers.specs.declared.counters.Group.{Group}
use Rattle.numbers.specs.declared.counters.Reliable.{Reliable}
use Rattle.numbers.specs.declared.refusals.Refusal.{Refusal}
use Rattle.numbers.specs.declared.refusals.Refusal.TheVariants.{OutOfRange}
use Rattle.numbers.proofs.BoolLaws.{both_right}
use Rattle.numbers.proofs.Settled.{refused_not_done}
use Rattle.record.specs.Lists.{in_items}
use Rattle.record.specs.declared.incoming.InList.{InList}
use Rattle.record.specs.Sizes.{channels}
use Rattle.record.specs.Fresh.{no_channel, no_incoming}
use Rattle.record.specs.declared.groups.Channel.{Channel}
use Rattle.record.specs.declared.groups.Incoming.{Incoming}
use Rattle.peer.specs.Damage.{sound}
use Rattle.peer.specs.Gate.{fits, gate_of}
use Rattle.peer.specs.Sounds.{Whole}
use Rattle.peer.specs.Settings.{fit_settings}
use Rattle.peer.specs.Fresh.{fresh_peer}
use Rattle.peer.specs.Outcome.{State, Outcome, finished, unchanged}
use Rattle.peer.specs.declared.settings.Settings.{Settings}
use Rattle.peer.specs.declared.Peer.{Peer}
use Rattle.peer.specs.declared.defaults.Kept.{Kept}
use Rattle.peer.specs.declared.gate.Lent.TheVariants as lent
use Rattle.peer.proofs.Gates.{sound_open, behind_has}
use Rattle.peer.proofs.Ranges.{count_high}
use Rattle.lifecycle.specs.Calls.{kept, begin_fits, begun, begins_sound, begins, sets_state, resets}
use Rattle.dispatch.specs.Dispatching.{follows, number_after, ready_count, ready_last}
use Rattle.dispatch.specs.Calls.{dispatch_gate, dispatched_on, dispatches_sound, dispatches}
use Rattle.dispatch.proofs.Calling.{chosen, ready, gone, dispatched_has}
use Rattle.dispatch.proofs.Sound.{below_count}
use Rattle.dispatch.proofs.Moving.{dispatch_keeps, dispatch_order}
use Rattle.receive.specs.Calls.{receives}
use Rattle.arrival.specs.declared.Arrival.{Arrival}
use Rattle.arrival.specs.declared.Fate.TheVariants as fate
use Rattle.arrival.proofs.Admitted.{Admitted}
use Rattle.arrival.specs.Storing.{free_slot}
use Rattle.arrive_unsequenced.specs.Calls.{arrives_unsequenced}
use Rattle.arrive_reliable.specs.Calls.{reliable_after, arrives_reliable}
use Rattle.arrive_fragment.specs.Calls.{opened_on, pieced_on, finished_on, arrives_fragment}
use Rattle.arrive_fragment.specs.declared.Piece.{Piece}
use Rattle.laws.proofs.Unsequenced.{unsequenced_has}
use Rattle.laws.proofs.Reliable.{reliable_has, held_free, between, between_whole, between-sound, left_dispatched}
use Rattle.laws.proofs.Fates.{first_piece, later_piece}
use Rattle.laws.proofs.Fragments.{fragment_has, finished_has, opened_pieced_whole, opened_pieced_sound, pieced_whole, pieced_sound}
use Rattle.laws.proofs.Carrying.{same_all}
use Rattle.link_out.specs.Steps.{calls_out}
use Rattle.link.specs.Steps.{calls}
use Rattle.link.specs.Runs.{Asked, comes_to, reset_state}
use Rattle.link_in.specs.declared.calls.Call.TheVariants as inw
use Rattle.link.specs.declared.calls.Call.{Call}
use Rattle.link.specs.declared.calls.Call.TheVariants as call
use Rattle.promises.specs.Reports.{is_anew, is_on, numbers_taken, taken_by, numbers_joined, reported, reports, series, CountsOnce}
use Rattle.promises.proofs.Picks.{picked}
use Rattle.promises.proofs.Sounding.{fresh_whole, call_sounds}
use Rattle.promises.proofs.Unreported.{part_set, number_on, Unreported, state_unreported, outward_unreported, receive_unreported}

abbrev gate : Settings → Peer → Result ⊤ Refusal
gate s p = gate_of (fits s lent.Nothing) (sound p)

-- ---- numbers one after another
-- each is the step of the one before, the first that of n
abbrev pub Rises : ℕ → List ℕ → Type 0
Rises n [] = Unit {0}
Rises n (x ∷ xs) = (x ≡ counters.step n) × Rises x xs

-- the last of them, n where there is none
abbrev pub last_from : ℕ → List ℕ → ℕ
last_from n [] = n
last_from n (x ∷ xs) = last_from x xs

pub rises_on : (n : ℕ) (xs ys : List ℕ) → Rises n xs → Rises (last_from n xs) ys → Rises n (xs ++ ys)
rises_on n [] ys r t = t
rises_on n (x ∷ xs) ys r t = (r.0, rises_on x xs ys r.1 t)

pub last_on_lem : (n : ℕ) (xs ys : List ℕ) → last_from n (xs ++ ys) ≡ last_from (last_from n xs) ys
last_on_lem n [] ys = refl
last_on_lem n (x ∷ xs) ys = last_on_lem x xs ys

pub rises_series : (n : ℕ) (xs : List ℕ) → Rises n xs → xs ≡ series n (length xs)
unfolding series
rises_series n [] r = refl
rises_series n (x ∷ xs) r =
    ap (λ (ys : List ℕ). x ∷ ys) (rises_series x xs r.1) ∙ ap (λ (m : ℕ). m ∷ series m (length xs)) r.0

-- ---- a series: it rises, and the last of k is k past the number before them
pub series_rises : (k n : ℕ) → Rises n (series n k)
unfolding series
series_rises zero n = tt
series_rises (suc k) n = (refl, series_rises k (counters.step n))

pub series_long : (k n : ℕ) → length (series n k) ≡ k
unfolding series
series_long zero n = refl
series_long (suc k) n = ap (λ (m : ℕ). suc m) (series_long k (counters.step n))

pub last_steps : (m : ℕ) (xs : List ℕ) → m < 65536 → Rises m xs → last_from m xs ≡ (m + length xs) % 65536
last_steps m [] l r = omega arith
last_steps m (x ∷ xs) l r =
    let e : x ≡ counters.step m = r.0 in
    last_steps x xs (omega arith) r.1 ∙ omega arith

-- ---- what is ready: the numbers that it takes
-- those of one slot, and the last of them
abbrev pub taken_in : Incoming → List ℕ
taken_in i = numbers_taken i.number.0 i.fragments

pub taken_rises : (n : ℕ) (i : Incoming) → i.number.0 ≡ counters.step n → Rises n (taken_in i)
taken_rises n i e = (e, series_rises (i.fragments - 1) i.number.0)

pub taken_last : (n : ℕ) (i : Incoming) → i.number.0 ≡ counters.step n → number_after i ≡ last_from n (taken_in i)
unfolding series
taken_last n i e = go (eqb i.fragments 0) refl
  where
    m : ℕ
    m = i.number.0

    far : last_from m (series m (i.fragments - 1)) ≡ (m + (i.fragments - 1)) % 65536
    far =
        last_steps m (series m (i.fragments - 1)) (omega (arith, e)) (series_rises (i.fragments - 1) m)
        ∙ ap (λ (k : ℕ). (m + k) % 65536) (series_long (i.fragments - 1) m)

    go : (b : Bool) → eqb i.fragments 0 ≡ b → pick b m ((m + (i.fragments - 1)) % 65536) ≡ last_from m (series m (i.fragments - 1))
    go true z = let none : i.fragments ≡ 0 = eqb-true i.fragments 0 z in rw none
    go false z = sym far

pub follows-number : (n : ℕ) (i : Incoming) → follows n i ≡ true → i.number.0 ≡ counters.step n
follows-number n i e =
    eqb-true i.number.0 (counters.step n) (both_right (eqb i.remaining 0) (eqb i.number.0 (counters.step n)) e)

module _ (slots : List Incoming) where
  abbrev at : ℕ → Incoming
  at s = get_or slots s no_incoming

  -- the first of a list goes, and then what is so of the rest; or it stays, and none goes
  pub ready_rises : (ss : List ℕ) (n : ℕ) → Rises n (taken_by slots (take (ready_count slots ss n) ss))
  unfolding ready_count taken_by
  ready_rises [] n = tt
  ready_rises (s ∷ ss) n = go (follows n (at s)) refl (ready_rises ss (number_after (at s)))
    where
      go : (b : Bool) → follows n (at s) ≡ b
          → Rises (number_after (at s)) (taken_by slots (take (ready_count slots ss (number_after (at s))) ss))
          → Rises n (taken_by slots (take (pick b (suc (ready_count slots ss (number_after (at s)))) 0) (s ∷ ss)))
      go true e r =
          let next = follows-number n (at s) e in
          let rest = taken_by slots (take (ready_count slots ss (number_after (at s))) ss) in
          rises_on n (taken_in (at s)) rest (taken_rises n (at s) next) (subst (λ (m : ℕ). Rises m rest) (taken_last n (at s) next) r)
      go false e r = tt

  pub ready_last_lem : (ss : List ℕ) (n : ℕ) → ready_last slots ss n ≡ last_from n (taken_by slots (take (ready_count slots ss n) ss))
  unfolding ready_count ready_last taken_by
  ready_last_lem [] n = refl
  ready_last_lem (s ∷ ss) n = go (follows n (at s)) refl (ready_last_lem ss (number_after (at s)))
    where
      go : (b : Bool) → follows n (at s) ≡ b
          → ready_last slots ss (number_after (at s)) ≡ last_from (number_after (at s)) (taken_by slots (take (ready_count slots ss (number_after (at s))) ss))
          → pick b (ready_last slots ss (number_after (at s))) n
          ≡ last_from n (taken_by slots (take (pick b (suc (ready_count slots ss (number_after (at s)))) 0) (s ∷ ss)))
      go true e r =
          let next = follows-number n (at s) e in
          let rest = taken_by slots (take (ready_count slots ss (number_after (at s))) ss) in
          r ∙ ap (λ (m : ℕ). last_from m rest) (taken_last n (at s) next) ∙ sym (last_on_lem n (taken_in (at s)) rest)
      go false e r = refl

-- ---- what stands along a run, on one channel
module _ (channel : ℕ) where
  abbrev pub last_on : Peer → ℕ
  last_on p = (number_on (get_or p.channels channel no_channel)).0

  pub record Counted (p : Peer) (log : List ℕ) : Type 0 where
    pub rises : Rises 0 log
    pub last : last_on p ≡ last_from 0 log

  same_counted : (p q : Peer) (log : List ℕ) → number_on (get_or q.channels channel no_channel) ≡ number_on (get_or p.channels channel no_channel)
      → Counted p log → Counted q log
  same_counted p q log e c = record { rises = c.rises; last = ap (λ (n : Reliable). n.0) e ∙ c.last }

  unreported_counted : (p q : Peer) (log : List ℕ) → Unreported channel p q → Counted p log → Counted q log
  unreported_counted p q log s c = same_counted p q log s.last c

  -- the numbers that joined
  abbrev pub joined : Peer → Peer → List ℕ
  joined p q = taken_by q.incoming (drop (length (in_items p.lists.dispatched)) (in_items q.lists.dispatched))

  none_joined : (p : Peer) (log : List ℕ) → Counted p log → Counted p (log ++ joined p p)
  unfolding taken_by
  none_joined p log c = rw (drop-length (in_items p.lists.dispatched), append-nil log) c

  -- ---- a dispatch on the channel
  module _ (p : Peer) (whole : Whole p) (good : sound p ≡ true) (on : channel < p.standing.channels) where
    abbrev pub more : List ℕ
    more = taken_by p.incoming (take (ready channel p) (in_items (chosen channel p).held))

    pub now_last : last_on (dispatched_on channel p) ≡ last_from (last_on p) more
    unfolding taken_by
    now_last =
        dispatched_has channel p (λ (q : Peer). last_on q ≡ last_from (last_on p) more) (λ z. rw z)
        (ap (λ (d : Channel). (number_on d).0)
        (get_or-set_same p.channels channel (gone channel p).channel no_channel (omega (arith, on, count_high p good, whole.channels)))
        ∙ ready_last_lem p.incoming (in_items (chosen channel p).held) (last_on p))

    pub is_more : joined p (dispatched_on channel p) ≡ more
    is_more =
        ap (λ (ss : List ℕ). taken_by p.incoming (drop (length (in_items p.lists.dispatched)) ss))
        (dispatch_order channel p whole good on).joined
        ∙ ap (taken_by p.incoming) (drop-append_seam (in_items p.lists.dispatched) _)

    dispatched_counted : (log : List ℕ) → Counted p log → Counted (dispatched_on channel p) (log ++ joined p (dispatched_on channel p))
    dispatched_counted log c =
        let rises = ready_rises p.incoming (in_items (chosen channel p).held) (last_on p) in
        rw is_more
        (record {
          rises = rises_on 0 log more c.rises (subst (λ (n : ℕ). Rises n more) c.last rises);
          last = now_last ∙ ap (λ (n : ℕ). last_from n more) c.last ∙ sym (last_on_lem 0 log more);
        })

  -- a dispatch on any channel of a record that has the same dispatched as one before it, and none
  module _ (p q : Peer) (i : ℕ) (log : List ℕ) (same : q.lists.dispatched ≡ p.lists.dispatched) (c : Counted q log) where
    abbrev pub Since : Peer → Type 0
    Since r = Counted r (pick (eqb i channel) (log ++ joined p r) log)

    -- all that joined since p joined since q
    since : (r : Peer) → Counted r (log ++ joined q r) → Counted r (log ++ joined p r)
    since r k =
        subst (λ (l : InList). Counted r (log ++ taken_by r.incoming (drop (length (in_items l)) (in_items r.lists.dispatched)))) same k

    pub settled : Whole q → sound q ≡ true → i < q.standing.channels → Since (dispatched_on i q)
    settled w good on = go (eqb i channel) refl
      where
        go : (b : Bool) → eqb i channel ≡ b → let r = dispatched_on i q in Counted r (pick b (log ++ joined p r) log)
        go true e =
            let is : i ≡ channel = eqb-true i channel e in
            subst (λ (j : ℕ). Counted (dispatched_on j q) (log ++ joined p (dispatched_on j q))) (sym is)
            (since (dispatched_on channel q) (dispatched_counted q w good (subst (λ (j : ℕ). j < q.standing.channels) is on) log c))
        go false e =
            same_counted q (dispatched_on i q) log
            (ap number_on (get_or-set_other q.channels i channel _ no_channel (λ z. eqb-false i channel e (sym z)))) c

    pub unsettled : Since q
    unsettled = go (eqb i channel)
      where
        go : (b : Bool) → Counted q (pick b (log ++ joined p q) log)
        go true = since q (none_joined q log c)
        go false = c

  own_dispatch : (s : Settings) (p : Peer) (log : List ℕ) → Whole p → Counted p log
      → Counted (dispatches s channel p).after (log ++ joined p (dispatches s channel p).after)
  own_dispatch s p log w c =
      behind_has (gate s p) p (dispatches_sound channel p) Done shut
      (λ e. behind_has (dispatch_gate channel p.standing) p (finished (dispatched_on channel p)) Done shut
      (λ own. dispatched_counted p w (sound_open (fits s lent.Nothing) (sound p) e) (below_count channel p.standing own) log c))
    where
      Done : Outcome Peer → Type 0
      Done o = Counted o.after (log ++ joined p o.after)

      shut : (why : Refusal) → Done (unchanged why p)
      shut why = none_joined p log c

  dispatch_counted : (s : Settings) (on : ℕ) (p : Peer) (log : List ℕ) → Whole p → Counted p log
      → let q = (dispatches s on p).after in Counted q (pick (eqb on channel) (log ++ joined p q) log)
  dispatch_counted s on p log w c = go (eqb on channel) refl
    where
      go : (b : Bool) → eqb on channel ≡ b → let q = (dispatches s on p).after in Counted q (pick b (log ++ joined p q) log)
      go true e =
          subst (λ (n : ℕ). Counted (dispatches s n p).after (log ++ joined p (dispatches s n p).after)) (sym (eqb-true on channel e))
          (own_dispatch s p log w c)
      go false e =
          let k = dispatch_keeps on p s in
          same_counted p (dispatches s on p).after log (ap number_on (k.others channel (λ i. eqb-false on channel e (sym i)))) c

  -- ---- arrivals: a slot is written; a reliable one that is stored is a dispatch on the record that holds it
  module _ (s : Settings) (a : Arrival) (datagram : List ℕ) (x : State) (log : List ℕ) (w : Whole x.peer) (c : Counted x.peer log) where
    unsequenced_counted : (group : Group) → Counted (arrives_unsequenced s a group datagram x).after.peer log
    unsequenced_counted group =
        unsequenced_has s a group datagram x (λ (o : Outcome State). Counted o.after.peer log)
        (λ why. c)
        (λ good e. record { rises = c.rises; last = c.last })
        (λ good e. record { rises = c.rises; last = c.last })
        (λ n good long may e. record { rises = c.rises; last = c.last })

    abbrev After : State → Type 0
    After y = Since x.peer x.peer a.channel log refl c y.peer

    not_arrived : After x
    not_arrived = unsettled x.peer x.peer a.channel log refl c

    held : (n : ℕ) → sound x.peer ≡ true → Admitted a x.peer.standing (length datagram)
        → free_slot x.peer.lists x.peer.channels x.peer.standing.channels ≡ Some n
        → After (reliable_after (fate.Stored n) a datagram x)
    held n good may free =
        let q = between a datagram x n w good may free in
        let last = part_set number_on x.peer.channels a.channel _ no_channel channel refl in
        subst (Since x.peer x.peer a.channel log refl c) (sym (left_dispatched a datagram x n w good may free))
        (settled x.peer q a.channel log refl (same_counted x.peer q log last c) (between_whole a datagram x n w good may free)
        (between-sound a datagram x n w good may free) may.on)

    reliable_counted : After (arrives_reliable s a datagram x).after
    reliable_counted =
        reliable_has s a datagram x (λ (o : Outcome State). After o.after) (λ why. not_arrived) (λ good e. not_arrived)
        (λ n good long may e. held n good may (held_free s a datagram x n e))

  -- ---- a piece: where none remains, a dispatch on the record that holds it; else nothing joins
  module _ (s : Settings) (a : Piece) (datagram : List ℕ) (x : State) (log : List ℕ) (w : Whole x.peer) (c : Counted x.peer log) where
    abbrev p : Peer
    p = x.peer

    abbrev Now : Peer → Type 0
    Now = Since p p a.channel log refl c

    pieced : (n : ℕ) (q : Peer) → q.lists.dispatched ≡ p.lists.dispatched
        → number_on (get_or q.channels channel no_channel) ≡ number_on (get_or p.channels channel no_channel)
        → Whole q → sound q ≡ true → a.channel < q.standing.channels → Now (finished_on n a q)
    pieced n q same last whole good on =
        let k = same_counted p q log last c in
        finished_has n a q Now (λ none. settled p q a.channel log same k whole good on) (λ some. unsettled p q a.channel log same k)

    fragment_counted : Now (arrives_fragment s a datagram x).after.peer
    fragment_counted =
        fragment_has s a datagram x (λ (o : Outcome State). Now o.after.peer) (λ why. none) (λ k e. none)
        (λ n k e.
        let f = first_piece s a p n e in
        let on = k.may.on in
        pieced n (pieced_on n a (opened_on n a p)) refl (part_set number_on p.channels a.channel _ no_channel channel refl)
        (opened_pieced_whole s a p n w k.good on f) (opened_pieced_sound s a p n w k.good on f) on)
        (λ n k e.
        let f = later_piece s a p n e in
        let on = k.may.on in
        pieced n (pieced_on n a p) refl refl (pieced_whole s a p n w k.good on f) (pieced_sound s a p n w k.good on f) on)
      where
        none : Now p
        none = unsettled p p a.channel log refl c

  -- ---- reset and begin: done, both start anew; refused, nothing changes
  anew_last : (number_on (get_or (replicate channels no_channel) channel no_channel)).0 ≡ 0
  unfolding no_channel
  anew_last = ap (λ (c : Channel). (number_on c).0) (same_all channels channel no_channel)

  pub fresh_counted : (mtu : ℕ) (k : Kept) → Counted (fresh_peer mtu k) []
  unfolding fresh_peer
  fresh_counted mtu k = record { rises = tt; last = anew_last }

  -- the log of a call that may begin the channels anew, by its answer
  abbrev Anew : List ℕ → Outcome Peer → Type 0
  Anew log o = Counted o.after (pick (eqb o.answer.number 0) [] log)

  refused_counted : (p : Peer) (log : List ℕ) → Counted p log → (why : Refusal) → Anew log (unchanged why p)
  refused_counted p log c why = rw (ne_eqb (number_of why) 0 (refused_not_done why)) c

  reset_counted : (s : Settings) (p : Peer) (log : List ℕ) → Counted p log → Anew log (resets s p)
  reset_counted s p log c =
      picked (Anew log) (fit_settings s) (finished (fresh_peer s.mtu (kept p))) (unchanged OutOfRange p) (fresh_counted s.mtu (kept p)) c

  begin_counted : (s : Settings) (mtu count : ℕ) (p : Peer) (log : List ℕ) → Counted p log → Anew log (begins s mtu count p)
  begin_counted s mtu count p log c =
      behind_has (gate s p) p (begins_sound mtu count p) (Anew log) (refused_counted p log c)
      (λ e. picked (Anew log) (begin_fits mtu count p.standing.channels) (finished (begun mtu count p)) (unchanged OutOfRange p)
      (record { rises = tt; last = anew_last }) c)

  -- ---- each call, and a run
  pub call_counted : (a : Call) (s : Settings) (datagram : List ℕ) (x : State) (log : List ℕ) → Whole x.peer → Counted x.peer log
      → let o = calls s a datagram x in
      Counted o.after.peer (pick (is_anew a o.answer) [] (pick (is_on channel a) (log ++ numbers_joined x o.after) log))
  call_counted call.Reset s datagram x log w c = reset_counted s x.peer log c
  call_counted (call.Begin mtu count) s datagram x log w c = begin_counted s mtu count x.peer log c
  call_counted (call.SetState state) s datagram x log w c =
      unreported_counted x.peer (sets_state s state x.peer).after log (state_unreported channel s state x.peer) c
  call_counted (call.Outward a) s datagram x log w c = unreported_counted x.peer (calls_out s a x.peer).after log (outward_unreported channel s a x.peer) c
  call_counted (call.Inward (inw.UnsequencedArrival a group)) s datagram x log w c = unsequenced_counted s a datagram x log w c group
  call_counted (call.Inward (inw.ReliableArrival a)) s datagram x log w c = reliable_counted s a datagram x log w c
  call_counted (call.Inward (inw.FragmentArrival a)) s datagram x log w c = fragment_counted s a datagram x log w c
  call_counted (call.Inward (inw.Dispatch on)) s datagram x log w c = dispatch_counted s on x.peer log w c
  call_counted (call.Inward inw.Receive) s datagram x log w c =
      unreported_counted x.peer (receives s x.peer).after log (receive_unreported channel s x.peer) c

  run_rises : (calls : List Asked) (x : State) (log : List ℕ) → Whole x.peer → Counted x.peer log → Rises 0 (reports channel calls x log)
  unfolding reports
  run_rises [] x log w c = c.rises
  run_rises (a ∷ rest) x log w c =
      run_rises rest (comes_to a x).after (reported channel a x log)
      ((call_sounds a.settings a.call a.datagram x.store x.second).whole x.peer w)
      (call_counted a.call a.settings a.datagram x log w c)

pub counts_once : CountsOnce
counts_once mtu kept store second calls channel =
    let x = reset_state mtu kept store second in
    rises_series 0 (reports channel calls x [])
    (run_rises channel calls x [] (fresh_whole mtu kept) (fresh_counted channel mtu kept))
