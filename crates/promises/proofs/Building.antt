-- What stands in the slots along a run, carried through the calls that bring no piece: a slot that is named and no block has nothing remaining; what stands in
-- dispatched has nothing remaining; of a block, whatever is known by its slot, the marks and the second store. The argument: such a call names what was named, as
-- it was, or a packet that came whole; dispatch takes only what is complete; receive takes the marks only with the one block.
use Rattle.std.specs.Prelude.{Some}
use Prim.Native.Nat.{ℕ, zero, suc, ◌+◌, ◌≤◌, ◌<◌}
use mathlib.Core.Path.{◌≡◌, refl, ap, sym, subst, ◌∙◌}
use mathlib.Core.Bool.{Bool, true, false}
use mathlib.Core.List.{List, [], ◌∷◌, ◌++◌, map}
use native.Mathlib.Omega.{arith}
use lib.Dec.{eqb}
use lib.ListN.{length, take, get_or, set}
use lib.Seq.{get_or-set_same, get_or-set_other}
use borrow.Author.Tests.{eqb-true, eqb-false, eq-eqb}
use Rattle.numbers.specs.Pick.{pick}
use Rattle.numbers.specs.declared.counters.Group.{Group}
use Rattle.numbers.proofs.BoolLaws.{both_left}
use Rattle.record.specs.Lists.{in_items}
use Rattle.record.proofs.Keeps.{one, times, times_append, once_at_most}
use Rattle.cells.specs.Runs.{first}
use Rattle.record.specs.Fresh.{no_incoming}
use Rattle.record.specs.Marks.{no_marks}
use Rattle.record.specs.Blocks.{is_block}
use Rattle.record.specs.Damage.{below, held, used_in}
use Rattle.record.specs.declared.groups.Channel.{Channel}
use Rattle.record.specs.declared.groups.Incoming.{Incoming}
use Rattle.record.specs.declared.groups.Marks.{Marks}
use Rattle.record.specs.declared.groups.Unsequenced.{Unsequenced}
use Rattle.peer.specs.Damage.{sound}
use Rattle.peer.specs.Gate.{fits, gate_of}
use Rattle.peer.specs.Outcome.{State, Outcome, finished}
use Rattle.peer.specs.Sounds.{Whole}
use Rattle.peer.specs.Updates.{with_unsequenced}
use Rattle.peer.specs.declared.settings.Settings.{Settings}
use Rattle.peer.specs.declared.Peer.{Peer}
use Rattle.peer.specs.declared.gate.Lent.TheVariants as lent
use Rattle.peer.proofs.Gates.{sound_open, behind_has}
use Rattle.peer.proofs.InClauses.{incoming_clauses, shorter_items, used_from}
use Rattle.arrival.specs.Storing.{free_slot, delivered}
use Rattle.arrival.specs.Arrivals.{arrived_slot, stored_at}
use Rattle.arrival.specs.declared.Arrival.{Arrival}
use Rattle.arrival.specs.declared.Fate.TheVariants as fate
use Rattle.arrival.proofs.Admitted.{Admitted}
use Rattle.arrive_unsequenced.specs.Calls.{regrouped, judged_on, arrives_unsequenced}
use Rattle.arrive_reliable.specs.Calls.{reliable_after, arrives_reliable}
use Rattle.dispatch.specs.Dispatching.{follows, number_after, ready_count}
use Rattle.dispatch.specs.Calls.{dispatch_gate, dispatched_on, dispatches_sound, dispatches}
use Rattle.dispatch.proofs.Calling.{chosen, ready as ready_in}
use Rattle.dispatch.proofs.Sound.{below_count}
use Rattle.dispatch.proofs.Moving.{dispatch_order}
use Rattle.receive.specs.Calls.{without_first, cleared_by, taken, receives_from, receives_sound, receives}
use Rattle.laws.proofs.Holding.{in_pool, now, joined_by}
use Rattle.laws.proofs.Pieced.{the_block, other_packet}
use Rattle.laws.proofs.Unsequenced.{unsequenced_has, stored_free, joins, more_by as delivered-by}
use Rattle.laws.proofs.Reliable.{reliable_has, held_free, between, between_whole, between-sound, left_dispatched}
use Rattle.link_in.specs.Steps.{beside}
use Rattle.link.specs.Runs.{Packet}
use Rattle.promises.specs.Counts.{count, those}
use Rattle.promises.specs.Reports.{dispatched_in}
use Rattle.promises.specs.Packets.{packet_at, ready, is_complete, present}
use Rattle.promises.proofs.Presence.{named, first_named, passing_adds, Still}
use Rattle.promises.proofs.Passing.{dispatched_same}

abbrev pub slot_of : State → ℕ → Incoming
slot_of x s = get_or x.peer.incoming s no_incoming

-- what is known of a block
abbrev pub OfBlock : Type 1
OfBlock = Marks → List ℕ → Incoming → Type 0

pub record Stock (B : OfBlock) (x : State) : Type 0 where
  pub packet : (s : ℕ) → 0 < times (named x.peer) s → is_block (slot_of x s) ≡ false → (slot_of x s).remaining ≡ 0
  pub block : (s : ℕ) → 0 < times (named x.peer) s → is_block (slot_of x s) ≡ true → B x.peer.marks x.second (slot_of x s)
  pub out : (s : ℕ) → 0 < times (dispatched_in x) s → (slot_of x s).remaining ≡ 0

-- all that is in dispatched is there
those_all : (f : ℕ → Bool) (xs : List ℕ) → ((s : ℕ) → 0 < times xs s → f s ≡ true) → those f xs ≡ xs
unfolding those
those_all f [] h = refl
those_all f (x ∷ xs) h =
    ap (λ (b : Bool). pick b (x ∷ those f xs) (those f xs)) (h x (first_named x xs))
    ∙ ap (λ (ys : List ℕ). x ∷ ys) (those_all f xs (λ s p. h s (omega (arith, p))))

pub ready_there : {B : OfBlock} (x : State) → Stock B x → (f : Packet → Bool) → count f (ready x) ≤ count f (present x)
ready_there x k f =
    omega (
      arith,
      passing_adds f x (dispatched_in x) (held (below x.peer.channels x.peer.standing.channels)),
      ap (λ (ss : List ℕ). count f (map (packet_at x) ss))
          (those_all (is_complete x) (dispatched_in x) (λ s h. eq-eqb (slot_of x s).remaining 0 (k.out s h))),
    )

-- ---- slot s after a call: as it was, a block with its marks; or a packet that came whole
pub data From (x y : State) (s : ℕ) : Type 0 where
  old : 0 < times (named x.peer) s → slot_of y s ≡ slot_of x s → (is_block (slot_of x s) ≡ true → y.peer.marks ≡ x.peer.marks) → From x y s
  new : is_block (slot_of y s) ≡ false → (slot_of y s).remaining ≡ 0 → From x y s

pub differ : {A : Type 0} {b : Bool} → b ≡ true → b ≡ false → A
differ t f = let z : ◌≡◌ {A = ℕ} 0 1 = cc in absurd (omega arith)

pub stock_from : {B : OfBlock} (x y : State) → Stock B x → y.second ≡ x.second → ((s : ℕ) → 0 < times (named y.peer) s → From x y s)
    → ((s : ℕ) → 0 < times (dispatched_in y) s → (slot_of y s).remaining ≡ 0) → Stock B y
stock_from {B} x y k second from out =
    record { packet = λ s h. packets s (from s h); block = λ s h. blocked s (from s h); out = out }
  where
    packets : (s : ℕ) → From x y s → is_block (slot_of y s) ≡ false → (slot_of y s).remaining ≡ 0
    packets s (old h e m) f = ap (λ (i : Incoming). i.remaining) e ∙ k.packet s h (sym (ap is_block e) ∙ f)
    packets s (new f z) g = z

    blocked : (s : ℕ) → From x y s → is_block (slot_of y s) ≡ true → B y.peer.marks y.second (slot_of y s)
    blocked s (old h e m) t =
        let was = sym (ap is_block e) ∙ t in
        rw (m was, second, e) (k.block s h was)
    blocked s (new f z) t = differ t f

-- ---- a call that leaves all of it
pub still_stock : {B : OfBlock} (x : State) (q : Peer) → Still x.peer q → q.marks ≡ x.peer.marks → Stock B x
    → Stock B (record { peer = q; store = x.store; second = x.second })
still_stock x q k marks c =
    stock_from x (record { peer = q; store = x.store; second = x.second }) c refl
    (λ s h. old (rw (← k.names) h) (ap (λ (is : List Incoming). get_or is s no_incoming) k.slots) (λ t. marks))
    (λ s h. ap (λ (is : List Incoming). (get_or is s no_incoming).remaining) k.slots ∙ c.out s (rw (← k.items) h))

-- ---- dispatch
-- what is ready is complete
ready_whole : (slots : List Incoming) (ss : List ℕ) (n s : ℕ) → 0 < times (take (ready_count slots ss n) ss) s → (get_or slots s no_incoming).remaining ≡ 0
unfolding ready_count
ready_whole slots [] n s h = absurd (omega (arith, h))
ready_whole slots (t ∷ ss) n s h =
    go (follows n i) refl (ready_whole slots ss (number_after i) s) h
  where
    i : Incoming
    i = get_or slots t no_incoming

    go : (b : Bool) → follows n i ≡ b
        → (0 < times (take (ready_count slots ss (number_after i)) ss) s → (get_or slots s no_incoming).remaining ≡ 0)
        → 0 < times (take (pick b (suc (ready_count slots ss (number_after i))) 0) (t ∷ ss)) s → (get_or slots s no_incoming).remaining ≡ 0
    go true f rest h = at (eqb t s) refl h
      where
        at : (b : Bool) → eqb t s ≡ b → 0 < pick b 1 0 + times (take (ready_count slots ss (number_after i)) ss) s → (get_or slots s no_incoming).remaining ≡ 0
        at true e h =
            ap (λ (k : ℕ). (get_or slots k no_incoming).remaining) (sym (eqb-true t s e))
            ∙ eqb-true i.remaining 0 (both_left (eqb i.remaining 0) _ f)
        at false e h = rest (omega (arith, h))
    go false f rest h = absurd (omega (arith, h))

module _ (x : State) (channel : ℕ) (whole : Whole x.peer) (good : sound x.peer ≡ true) (h : channel < x.peer.standing.channels) where
  abbrev p : Peer
  p = x.peer

  pub dispatched_stock : {B : OfBlock} → Stock B x → Stock B (record { peer = dispatched_on channel p; store = x.store; second = x.second })
  dispatched_stock {B} k =
      stock_from x (record { peer = dispatched_on channel p; store = x.store; second = x.second }) k refl
      (λ s n. old (omega (arith, n, dispatched_same channel p whole good h (λ (xs : List ℕ). times xs s) (λ xs ys. times_append xs ys s))) refl (λ t. refl))
      (λ s n. out s (rw (dispatch_order channel p whole good h).joined at n))
    where
      goes : List ℕ
      goes = take (ready_in channel p) (in_items (chosen channel p).held)

      out : (s : ℕ) → 0 < times (dispatched_in x ++ goes) s → (slot_of x s).remaining ≡ 0
      out s n = go (times goes s) refl
        where
          go : (m : ℕ) → times goes s ≡ m → (slot_of x s).remaining ≡ 0
          go zero e = k.out s (omega (arith, n, e, times_append (dispatched_in x) goes s))
          go (suc m) e =
              ready_whole p.incoming (in_items (chosen channel p).held) (chosen channel p).incoming_reliable.0 s (omega (arith, e))

pub dispatch_stock : {B : OfBlock} (s : Settings) (channel : ℕ) (x : State) → Whole x.peer → Stock B x
    → Stock B (beside x (dispatches s channel x.peer)).after
dispatch_stock {B} s channel x whole k =
    let p = x.peer in
    let P : Outcome Peer → Type 0 = λ o. Stock B (record { peer = o.after; store = x.store; second = x.second }) in
    behind_has (gate_of (fits s lent.Nothing) (sound p)) p (dispatches_sound channel p) P (λ why. k)
    (λ e. behind_has (dispatch_gate channel p.standing) p (finished (dispatched_on channel p)) P (λ why. k)
    (λ own. dispatched_stock x channel whole (sound_open (fits s lent.Nothing) (sound p) e) (below_count channel p.standing own) k))

-- ---- receive: with the one block go the marks
module _ (x : State) (good : sound x.peer ≡ true) (n : ℕ) (rest : List ℕ) (e : dispatched_in x ≡ n ∷ rest) where
  abbrev cs : List Channel
  cs = below x.peer.channels x.peer.standing.channels

  abbrev y : State
  y = record { peer = taken n x.peer; store = x.store; second = x.second }

  was : named x.peer ≡ n ∷ (rest ++ held cs)
  was = used_from x.peer.lists cs (n ∷ rest) e

  left : dispatched_in y ≡ rest
  left = shorter_items x.peer.lists.dispatched n rest e

  is : named y.peer ≡ rest ++ held cs
  is = used_from (without_first x.peer.lists) cs rest left

  counted : (s : ℕ) → times (named x.peer) s ≡ one n s + times (named y.peer) s
  counted s = ap (λ (xs : List ℕ). times xs s) was ∙ ap (λ (xs : List ℕ). one n s + times xs s) (sym is)

  self : one n n ≡ 1
  self = rw (eq-eqb n n refl)

  apart : (s : ℕ) → 0 < times (named y.peer) s → n ≡ s → ⊥
  apart s h z =
      let here : 0 < times (named y.peer) n = rw z h in
      omega (arith, here, self, counted n, once_at_most (named x.peer) (incoming_clauses x.peer good).single n)

  marks_stay : (s : ℕ) → 0 < times (named y.peer) s → is_block (slot_of x s) ≡ true → cleared_by (slot_of x n) x.peer.marks ≡ x.peer.marks
  marks_stay s h t = go (is_block (slot_of x n)) refl
    where
      go : (b : Bool) → is_block (slot_of x n) ≡ b → pick b no_marks x.peer.marks ≡ x.peer.marks
      go true u =
          let w = incoming_clauses x.peer good in
          let top : 0 < times (named x.peer) n = omega (arith, self, counted n) in
          let single = the_block x.peer.marks x.peer.incoming (named x.peer) n u top w.block in
          differ t (other_packet x.peer.incoming (named x.peer) n s single u top (apart s h) (omega (arith, h, counted s)))
      go false u = refl

  taken_stock : {B : OfBlock} → Stock B x → Stock B y
  taken_stock k =
      stock_from x y k refl (λ s h. old (omega (arith, h, counted s)) refl (marks_stay s h))
      (λ s h. k.out s (rw e (omega (arith, ap (λ (xs : List ℕ). times xs s) left, h))))

pub receive_stock : {B : OfBlock} (s : Settings) (x : State) → Stock B x → Stock B (beside x (receives s x.peer)).after
receive_stock {B} s x k =
    behind_has (gate_of (fits s lent.Nothing) (sound x.peer)) x.peer (receives_sound x.peer)
    (λ (o : Outcome Peer). Stock B (record { peer = o.after; store = x.store; second = x.second })) (λ why. k)
    (λ g. go (sound_open (fits s lent.Nothing) (sound x.peer) g) (dispatched_in x) refl)
  where
    go : sound x.peer ≡ true → (xs : List ℕ) → dispatched_in x ≡ xs → Stock B (beside x (receives_from (first xs) x.peer)).after
    go good [] e = k
    go good (n ∷ rest) e = taken_stock x good n rest e k

-- ---- a packet that came whole, in slot n
module _ (x y : State) (n : ℕ) (second : y.second ≡ x.second) (marks : y.peer.marks ≡ x.peer.marks)
    (more : (s : ℕ) → times (named y.peer) s ≡ one n s + times (named x.peer) s)
    (joins : (s : ℕ) → times (dispatched_in y) s ≤ one n s + times (dispatched_in x) s)
    (flat : is_block (slot_of y n) ≡ false) (done : (slot_of y n).remaining ≡ 0) (others : (s : ℕ) → (s ≡ n → ⊥) → slot_of y s ≡ slot_of x s) where
  pub came_stock : {B : OfBlock} → Stock B x → Stock B y
  came_stock k = stock_from x y k second (λ s h. from s h (eqb n s) refl (more s)) (λ s h. out s h (eqb n s) refl (joins s))
    where
      from : (s : ℕ) → 0 < times (named y.peer) s → (b : Bool) → eqb n s ≡ b → times (named y.peer) s ≡ pick b 1 0 + times (named x.peer) s → From x y s
      from s h true e c = let z = eqb-true n s e in new (rw z at flat) (rw z at done)
      from s h false e c = old (omega (arith, h, c)) (others s (λ z. eqb-false n s e (sym z))) (λ t. marks)

      out : (s : ℕ) → 0 < times (dispatched_in y) s → (b : Bool) → eqb n s ≡ b → times (dispatched_in y) s ≤ pick b 1 0 + times (dispatched_in x) s
          → (slot_of y s).remaining ≡ 0
      out s h true e c = let z = eqb-true n s e in rw z at done
      out s h false e c =
          ap (λ (i : Incoming). i.remaining) (others s (λ z. eqb-false n s e (sym z))) ∙ k.out s (omega (arith, h, c))

-- stored, it takes a free slot
module _ {B : OfBlock} (a : Arrival) (datagram : List ℕ) (x : State) (n : ℕ) (whole : Whole x.peer) (good : sound x.peer ≡ true)
    (may : Admitted a x.peer.standing (length datagram)) (free : free_slot x.peer.lists x.peer.channels x.peer.standing.channels ≡ Some n)
    (k : Stock B x) where
  abbrev i : ℕ
  i = a.channel

  abbrev number : ℕ
  number = a.number.0

  own : get_or (set x.peer.incoming n (arrived_slot a)) n no_incoming ≡ arrived_slot a
  own = get_or-set_same x.peer.incoming n (arrived_slot a) no_incoming (in_pool x.peer i number n (arrived_slot a) whole good may.on free)

  others : (s : ℕ) → (s ≡ n → ⊥) → get_or (set x.peer.incoming n (arrived_slot a)) s no_incoming ≡ get_or x.peer.incoming s no_incoming
  others s z = get_or-set_other x.peer.incoming n s (arrived_slot a) no_incoming z

  delivered_stock : (left : Unsequenced) → Stock B (stored_at n a datagram x (delivered x.peer.lists n) left x.peer.channels)
  delivered_stock left =
      came_stock x (stored_at n a datagram x (delivered x.peer.lists n) left x.peer.channels) n refl refl
      (λ s. omega (arith, delivered-by a datagram x left n whole good may free (λ (xs : List ℕ). times xs s) (λ xs ys. times_append xs ys s)))
      (λ s.
      omega (
        arith,
        ap (λ (xs : List ℕ). times xs s) (joins a datagram x left n whole good may free),
        times_append (dispatched_in x) (n ∷ []) s,
      ))
      (ap is_block own) (ap (λ (j : Incoming). j.remaining) own) others k

  -- in its channel's list, then dispatched
  held_stock : Stock B (reliable_after (fate.Stored n) a datagram x)
  held_stock =
      let q = between a datagram x n whole good may free in
      let store = (reliable_after (fate.Stored n) a datagram x).store in
      let z : State = record { peer = q; store = store; second = x.second } in
      subst (λ (r : Peer). Stock B (record { peer = r; store = store; second = x.second })) (sym (left_dispatched a datagram x n whole good may free))
      (dispatched_stock z i (between_whole a datagram x n whole good may free) (between-sound a datagram x n whole good may free) may.on
      (came_stock x z n refl refl
      (λ s.
      ap (λ (ds : List Channel). times (used_in x.peer.lists ds) s) (now x.peer i number n (arrived_slot a) whole good may.on free)
      ∙ omega (
        arith,
        joined_by x.peer i number n (arrived_slot a) whole good may.on free (λ (xs : List ℕ). times xs s) (λ xs ys. times_append xs ys s),
      ))
      (λ s. omega arith) (ap is_block own) (ap (λ (j : Incoming). j.remaining) own) others k))

module _ {B : OfBlock} (s : Settings) (a : Arrival) (datagram : List ℕ) (x : State) (whole : Whole x.peer) (k : Stock B x) where
  pub unsequenced_stock : (group : Group) → Stock B (arrives_unsequenced s a group datagram x).after
  unsequenced_stock group =
      let left = (judged_on s group x.peer).unsequenced in
      let same : Stock B (regrouped x left) = still_stock x (with_unsequenced x.peer left) (record { slots = refl; items = refl; names = refl }) refl k in
      unsequenced_has s a group datagram x (λ (o : Outcome State). Stock B o.after) (λ why. k) (λ good e. same) (λ good e. same)
      (λ n good long may e. delivered_stock a datagram x n whole good may (stored_free s a group datagram x n e) k left)

  pub reliable_stock : Stock B (arrives_reliable s a datagram x).after
  reliable_stock =
      reliable_has s a datagram x (λ (o : Outcome State). Stock B o.after) (λ why. k) (λ good e. k)
      (λ n good long may e. held_stock a datagram x n whole good may (held_free s a datagram x n e) k)
