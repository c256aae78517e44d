-- What one call may do to the packets that are there: take some out at dispatched's head, put one in, let some join dispatched; and so to the ledger.
-- The argument: how many packets of some slots pass a test adds up over lists joined, so that lists which name each slot as often count the same; a
-- slot that stays named holds what it held, since an arrival that is stored writes a free slot and its cell alone (a piece: Piecing). An unfinished block is none yet.
use Prim.Native.Nat.{ℕ, suc, ◌+◌, ◌*◌, ◌≤◌, ◌<◌}
use mathlib.Core.Path.{◌≡◌, refl, ap, ap₂, sym, ◌∙◌}
use mathlib.Core.Bool.{Bool, true, false}
use mathlib.Core.List.{List, [], ◌∷◌, ◌++◌, map, map-append, append-nil, append_assoc}
use mathlib.Core.Logic.{◌⊎◌, inl, inr}
use native.Mathlib.Omega.{arith}
use lib.Dec.{eqb, leb, ltb}
use lib.ListN.{length, take, drop, get_or, length-take, length-drop}
use lib.Seq.{drop-append_seam, ext_get_or, get_or-take, get_or-drop}
use borrow.Author.Tests.{eq-eqb, leb-true, ltb-true, ltb-false}
use Rattle.numbers.specs.Pick.{pick}
use Rattle.numbers.proofs.BoolLaws.{both_left}
use Rattle.record.specs.Lists.{in_items}
use Rattle.record.proofs.Keeps.{times, times_append}
use Rattle.record.specs.Sizes.{cell}
use Rattle.record.specs.Fresh.{no_incoming}
use Rattle.record.specs.Blocks.{is_block, block_fit}
use Rattle.record.specs.Damage.{below, held, kind_fit, in_fit, used_in}
use Rattle.record.specs.declared.groups.Incoming.{Incoming}
use Rattle.peer.specs.Damage.{sound}
use Rattle.peer.specs.Outcome.{State}
use Rattle.peer.specs.declared.Peer.{Peer}
use Rattle.peer.proofs.Clauses.{all_at}
use Rattle.peer.proofs.InClauses.{InClauses, incoming_clauses}
use Rattle.arrival.specs.Arrivals.{arrived_slot}
use Rattle.arrival.specs.declared.Arrival.{Arrival}
use Rattle.laws.specs.Stores.{Stores}
use Rattle.laws.proofs.Pools.{free_unnamed}
use Rattle.link.specs.Runs.{Packet}
use Rattle.promises.specs.Counts.{count, those}
use Rattle.promises.specs.Packets.{packet_at, ready, is_complete, present, payload, Building, Ledger, newly}

-- the slots that a record's lists name
abbrev pub named : Peer → List ℕ
named p = used_in p.lists (below p.channels p.standing.channels)

-- ---- counts add up
abbrev pub Sums : (List ℕ → ℕ) → Type 0
Sums g = (xs ys : List ℕ) → g (xs ++ ys) ≡ g xs + g ys

pub count_append : (f : Packet → Bool) (ks ls : List Packet) → count f (ks ++ ls) ≡ count f ks + count f ls
unfolding count
count_append f [] ls = omega arith
count_append f (k ∷ ks) ls = omega (arith, count_append f ks ls)

pub count_none : (f : Packet → Bool) → count f [] ≡ 0
unfolding count
count_none f = refl

pub those_append : {A : Type 0} (f : A → Bool) (ks ls : List A) → those f (ks ++ ls) ≡ those f ks ++ those f ls
unfolding those
those_append f [] ls = refl
those_append {A} f (k ∷ ks) ls = go (f k) (those_append f ks ls)
  where
    go : (b : Bool) → those f (ks ++ ls) ≡ those f ks ++ those f ls
        → pick b (k ∷ those f (ks ++ ls)) (those f (ks ++ ls)) ≡ pick b (k ∷ those f ks) (those f ks) ++ those f ls
    go true e = ap (λ (ms : List A). k ∷ ms) e
    go false e = e

-- how many of the packets in these slots are complete and pass
abbrev pub passing : (Packet → Bool) → State → List ℕ → ℕ
passing f x xs = count f (map (packet_at x) (those (is_complete x) xs))

pub passing_adds : (f : Packet → Bool) (x : State) → Sums (passing f x)
passing_adds f x xs ys =
    let at = packet_at x in
    let done = is_complete x in
    ap (λ (ss : List ℕ). count f (map at ss)) (those_append done xs ys) ∙ ap (count f) (map-append at (those done xs) (those done ys))
    ∙ count_append f (map at (those done xs)) (map at (those done ys))

-- one slot: it counts where it is complete
pub passing_one : (f : Packet → Bool) (x : State) (n : ℕ) → passing f x (n ∷ []) ≡ count f (pick (is_complete x n) (packet_at x n ∷ []) [])
unfolding those
passing_one f x n = go (is_complete x n)
  where
    go : (b : Bool) → count f (map (packet_at x) (pick b (n ∷ []) [])) ≡ count f (pick b (packet_at x n ∷ []) [])
    go true = refl
    go false = refl

pub passing_whole : (f : Packet → Bool) (x : State) (n : ℕ) → is_complete x n ≡ true → passing f x (n ∷ []) ≡ count f (packet_at x n ∷ [])
passing_whole f x n e = passing_one f x n ∙ ap (λ (b : Bool). count f (pick b (packet_at x n ∷ []) [])) e

-- a list's head is named
pub first_named : (s : ℕ) (xs : List ℕ) → 0 < times (s ∷ xs) s
first_named s xs = rw (eq-eqb s s refl) (omega arith)

-- what is the same in every slot of a list
pub map_same : (f g : ℕ → Packet) (xs : List ℕ) → ((s : ℕ) → 0 < times xs s → f s ≡ g s) → map f xs ≡ map g xs
map_same f g [] h = refl
map_same f g (x ∷ xs) h = ap₂ (λ (k : Packet) (ks : List Packet). k ∷ ks) (h x (first_named x xs)) (map_same f g xs (λ s p. h s (omega (arith, p))))

-- and of those that are complete
pub passing_same : (f : Packet → Bool) (x y : State) (xs : List ℕ) → ((s : ℕ) → 0 < times xs s → packet_at y s ≡ packet_at x s)
    → ((s : ℕ) → 0 < times xs s → is_complete y s ≡ is_complete x s) → passing f y xs ≡ passing f x xs
unfolding those
passing_same f x y [] h c = refl
passing_same f x y (s ∷ xs) h c =
    let here = first_named s xs in
    let same =
    passing_one f y s ∙ ap₂ (λ (b : Bool) (k : Packet). count f (pick b (k ∷ []) [])) (c s here) (h s here) ∙ sym (passing_one f x s) in
    let rest = passing_same f x y xs (λ t p. h t (omega (arith, p))) (λ t p. c t (omega (arith, p))) in
    passing_adds f y (s ∷ []) xs ∙ ap₂ (λ (a b : ℕ). a + b) same rest ∙ sym (passing_adds f x (s ∷ []) xs)

-- ---- one call: `put` went in, `out` came out
pub record Passes (x y : State) (put out : List Packet) : Type 0 where
  pub once : (f : Packet → Bool) → count f out + count f (present y) ≡ count f put + count f (present x)
  pub order : out ++ ready y ≡ ready x ++ newly x y

-- ---- the ledger, where one call after another lets packets pass so
pub record Booked (l : Ledger) (y : State) : Type 0 where
  pub once : (f : Packet → Bool) → count f l.received + count f (present y) ≡ count f l.stored
  pub order : l.received ++ ready y ≡ l.joined

abbrev pub with : Ledger → State → State → List Packet → List Packet → Building → Ledger
with l x y put out b = record { stored = l.stored ++ put; joined = l.joined ++ newly x y; received = l.received ++ out; building = b }

pub passed : {x y : State} {put out : List Packet} (l : Ledger) (b : Building) → Booked l x → Passes x y put out → Booked (with l x y put out b) y
passed {x} {y} {put} {out} l b h k =
    record {
      once = λ f. omega (arith, h.once f, k.once f, count_append f l.received out, count_append f l.stored put);
      order =
          append_assoc l.received out (ready y) ∙ ap (λ (ks : List Packet). l.received ++ ks) k.order
          ∙ sym (append_assoc l.received (ready x) (newly x y)) ∙ ap (λ (ks : List Packet). ks ++ newly x y) h.order;
    }

-- what joined is what is new
pub grown : (x y : State) (js : List Packet) → ready y ≡ ready x ++ js → ready y ≡ ready x ++ newly x y
grown x y js e =
    e ∙ ap (λ (ks : List Packet). ready x ++ ks) (sym (ap (drop (length (ready x))) e ∙ drop-append_seam (ready x) js))

-- ---- a call that leaves the slots named, and those in dispatched
pub record Still (p q : Peer) : Type 0 where
  pub slots : q.incoming ≡ p.incoming
  pub items : in_items q.lists.dispatched ≡ in_items p.lists.dispatched
  pub names : named q ≡ named p

pub still : (p : Peer) → Still p p
still p = record { slots = refl; items = refl; names = refl }

-- the packet of a slot with these bytes
abbrev pub of_slot : Incoming → List ℕ → Packet
of_slot i bs = record { channel = i.channel; byte = i.byte; number = i.number.0; fragments = i.fragments; bytes = bs }

-- the packet of what slot s holds, by both stores
abbrev pub holding : List ℕ → List ℕ → ℕ → Incoming → Packet
holding store second s i = of_slot i (pick (is_block i) (take i.length second) (take i.length (drop (s * cell) store)))

-- the same state with other slots
abbrev pooled : State → List Incoming → ℕ → Packet
pooled x is s = holding x.store x.second s (get_or is s no_incoming)

parts_same : (x : State) {is js : List Incoming} {xs ys : List ℕ} → is ≡ js → xs ≡ ys → map (pooled x is) xs ≡ map (pooled x js) ys
parts_same x d e = ap₂ (λ (is : List Incoming) (xs : List ℕ). map (pooled x is) xs) d e

abbrev whole_of : List Incoming → ℕ → Bool
whole_of is s = eqb (get_or is s no_incoming).remaining 0

there_same : (x : State) {is js : List Incoming} {xs ys : List ℕ} → is ≡ js → xs ≡ ys
    → map (pooled x is) (those (whole_of is) xs) ≡ map (pooled x js) (those (whole_of js) ys)
there_same x d e = ap₂ (λ (is : List Incoming) (xs : List ℕ). map (pooled x is) (those (whole_of is) xs)) d e

pub still_passes : (x : State) (q : Peer) → Still x.peer q → Passes x (record { peer = q; store = x.store; second = x.second }) [] []
still_passes x q k =
    record {
      once = λ f. ap (λ (ks : List Packet). count f [] + count f ks) (there_same x k.slots k.names);
      order =
          grown x (record { peer = q; store = x.store; second = x.second }) []
          (parts_same x k.slots k.items ∙ sym (append-nil (ready x)));
    }

-- ---- a call that names the same slots, some of them now in dispatched
pub joins_passes : (x : State) (q : Peer) (js : List ℕ) → q.incoming ≡ x.peer.incoming
    → in_items q.lists.dispatched ≡ in_items x.peer.lists.dispatched ++ js
    → ((g : List ℕ → ℕ) → Sums g → g (named q) ≡ g (named x.peer))
    → Passes x (record { peer = q; store = x.store; second = x.second }) [] []
joins_passes x q js slots items same =
    record {
      once =
          λ f. ap (λ (ks : List Packet). count f [] + count f ks) (there_same x {xs = named q} slots refl)
          ∙ ap (λ (n : ℕ). count f [] + n) (same (passing f x) (passing_adds f x));
      order =
          grown x (record { peer = q; store = x.store; second = x.second }) (map (packet_at x) js)
          (parts_same x slots items ∙ map-append (packet_at x) (in_items x.peer.lists.dispatched) js);
    }

-- ---- a call that takes the head of dispatched
past : (ks : List Packet) → drop (suc (length ks)) ks ≡ []
past [] = refl
past (k ∷ ks) = past ks

module _ (x : State) (q : Peer) (n : ℕ) (rest others : List ℕ) (slots : q.incoming ≡ x.peer.incoming)
    (before : in_items x.peer.lists.dispatched ≡ n ∷ rest) (after : in_items q.lists.dispatched ≡ rest)
    (used : named x.peer ≡ n ∷ others) (left : named q ≡ others) (done : is_complete x n ≡ true) where
  abbrev y : State
  y = record { peer = q; store = x.store; second = x.second }

  ready_was : ready x ≡ packet_at x n ∷ map (packet_at x) rest
  ready_was = ap (map (packet_at x)) before

  ready_is : ready y ≡ map (packet_at x) rest
  ready_is = parts_same x slots after

  none_new : newly x y ≡ []
  none_new = ap₂ (λ (ks ls : List Packet). drop (length ks) ls) ready_was ready_is ∙ past (map (packet_at x) rest)

  pub takes_passes : Passes x y [] (packet_at x n ∷ [])
  takes_passes =
      record {
        once = λ f.
            omega (
              arith,
              count_none f,
              ap (count f) (there_same x slots left),
              ap (passing f x) used,
              passing_adds f x (n ∷ []) others,
              passing_whole f x n done,
            );
        order =
            ap (λ (ks : List Packet). packet_at x n ∷ ks) ready_is ∙ sym ready_was ∙ sym (append-nil (ready x))
            ∙ ap (λ (ks : List Packet). ready x ++ ks) (sym none_new);
      }

-- ---- an arrival that is stored
take_same : (n at : ℕ) (d e : List ℕ) → length d ≡ length e → ((i : ℕ) → at ≤ i → i < at + n → get_or d i 0 ≡ get_or e i 0)
    → take n (drop at d) ≡ take n (drop at e)
take_same n at d e long same =
    ext_get_or 0 (take n (drop at d)) (take n (drop at e)) (simp (length-take, length-drop, long))
    (λ i h.
    let low : i < n = omega (arith, h, length-take n (drop at d)) in
    get_or-take n (drop at d) i 0 low ∙ get_or-drop at d i 0 ∙ same (at + i) (omega arith) (omega arith)
    ∙ sym (get_or-take n (drop at e) i 0 low ∙ get_or-drop at e i 0))

module _ (a : Arrival) (datagram : List ℕ) (x y : State) (k : Stores a datagram x y) (good : sound x.peer ≡ true) (short : a.length ≤ cell) where
  abbrev p : Peer
  p = x.peer

  clauses : InClauses p.marks p.incoming p.lists (below p.channels p.standing.channels) p.standing.channels p.waiting.total
  clauses = incoming_clauses p good

  other : (s : ℕ) → 0 < times (named p) s → s ≡ k.slot → ⊥
  other s h z =
      let none = free_unnamed p.marks p.incoming p.lists (below p.channels p.standing.channels) p.standing.channels p.waiting.total clauses
      k.slot k.free in
      let here : times (named p) s ≡ 0 = rw z none in
      omega (arith, h, here)

  -- a packet's cell is wide enough
  fits : (s : ℕ) → 0 < times (named p) s → let i = get_or p.incoming s no_incoming in is_block i ≡ false → i.length ≤ cell
  fits s h flat =
      let i = get_or p.incoming s no_incoming in
      let fit = all_at (in_fit p.marks p.incoming p.standing.channels) (named p) clauses.fit s h in
      leb-true i.length cell
      (sym (ap (λ (b : Bool). pick b (block_fit p.marks i) (leb i.length cell)) flat)
      ∙ both_left (kind_fit p.marks i) (ltb i.channel p.standing.channels) fit)

  -- what was named is as it was
  pub kept : (s : ℕ) → 0 < times (named p) s → packet_at y s ≡ packet_at x s
  kept s h =
      ap (holding y.store y.second s) (k.slots s (other s h)) ∙ ap (λ (second : List ℕ). holding y.store second s i) k.second
      ∙ ap (of_slot i) (go (is_block i) refl)
    where
      i : Incoming
      i = get_or p.incoming s no_incoming

      apart : is_block i ≡ false → (j : ℕ) → s * cell ≤ j → j < s * cell + i.length → (b : Bool) → ltb s k.slot ≡ b
          → (j < k.slot * cell) ⊎ (k.slot * cell + a.length ≤ j)
      apart flat j low high true t = inl (omega (arith, fits s h flat, ltb-true s k.slot t))
      apart flat j low high false t = inr (omega (arith, ltb-false s k.slot t, other s h))

      go : (b : Bool) → is_block i ≡ b
          → pick b (take i.length x.second) (take i.length (drop (s * cell) y.store))
          ≡ pick b (take i.length x.second) (take i.length (drop (s * cell) x.store))
      go true flat = refl
      go false flat =
          take_same i.length (s * cell) y.store x.store k.length
          (λ j low high. k.bytes j (apart flat j low high (ltb s k.slot) refl))

  pub kept_slot : (s : ℕ) → 0 < times (named p) s → get_or y.peer.incoming s no_incoming ≡ get_or p.incoming s no_incoming
  kept_slot s h = k.slots s (other s h)

  pub stored_own : packet_at y k.slot ≡ payload a datagram
  stored_own = ap (holding y.store y.second k.slot) k.holds ∙ ap (of_slot (arrived_slot a)) k.payload

  stored_done : is_complete y k.slot ≡ true
  stored_done = ap (λ (i : Incoming). eqb i.remaining 0) k.holds

  pub stored_passes : (js : List ℕ) → in_items y.peer.lists.dispatched ≡ in_items p.lists.dispatched ++ js
      → ((g : List ℕ → ℕ) → Sums g → g (named y.peer) ≡ g (k.slot ∷ []) + g (named p))
      → Passes x y (payload a datagram ∷ []) []
  stored_passes js items more =
      let waiting = in_items p.lists.dispatched in
      record {
        once = λ f.
            omega (
              arith,
              count_none f,
              more (passing f y) (passing_adds f y),
              passing_whole f y k.slot stored_done,
              ap (λ (j : Packet). count f (j ∷ [])) stored_own,
              passing_same f x y (named p) kept (λ s h. ap (λ (i : Incoming). eqb i.remaining 0) (kept_slot s h)),
            );
        order =
            grown x y (map (packet_at y) js)
            (ap (map (packet_at y)) items ∙ map-append (packet_at y) waiting js
            ∙ ap (λ (ks : List Packet). ks ++ map (packet_at y) js)
            (map_same (packet_at y) (packet_at x) waiting
            (λ s h. kept s (omega (arith, h, times_append waiting (held (below p.channels p.standing.channels)) s)))));
      }
