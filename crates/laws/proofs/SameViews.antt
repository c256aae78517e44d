-- `Same` is an equivalence that gives back every part that counts, and damaged does not see what does not count: two records that are the same are both sound or both damaged.
-- The argument: soundness is a function of the view, clause by clause; a test of the slots that a list names is a test of what they hold.
use mathlib.Core.Path.{◌≡◌, refl, ap, sym, ◌∙◌}
use mathlib.Core.Bool.{Bool, true}
use mathlib.Core.List.{List, [], ◌∷◌, ◌++◌, map, map-append}
use Prim.Native.Nat.{ℕ, ◌+◌}
use lib.Dec.{leb, ltb, eqb}
use lib.ListN.{get_or}
use Rattle.numbers.specs.Pick.{pick, both}
use Rattle.command.specs.Rows.{names_fields}
use Rattle.record.specs.Lists.{outgoing, incoming, out_items, in_items}
use Rattle.cells.specs.Free.{exist, once}
use Rattle.record.specs.Channels.{on_channel}
use Rattle.record.specs.Fresh.{no_outgoing, no_incoming}
use Rattle.record.specs.Blocks.{is_block}
use Rattle.record.specs.Damage.{ranged, held_fit, held, below, all, own, kind_fit, lengths, blocks, one_block, out_fit, in_fit}
use Rattle.peer.specs.Damage.{sound}
use Rattle.laws.specs.Same.{ListView, ChannelView, View, Same, view, out_view, in_view, channel_view}
use Rattle.record.specs.declared.groups.Channel.{Channel}
use Rattle.record.specs.declared.groups.Outgoing.{Outgoing}
use Rattle.record.specs.declared.groups.Incoming.{Incoming}
use Rattle.record.specs.declared.groups.Marks.{Marks}
use Rattle.peer.specs.declared.Peer.{Peer}

pub same_refl : (p : Peer) → Same p p
same_refl p = refl

pub same_sym : (p q : Peer) → Same p q → Same q p
same_sym p q e = sym e

pub same_trans : (p q r : Peer) → Same p q → Same q r → Same p r
same_trans p q r e f = e ∙ f

-- a test of what is held
alls : {A : Type 0} → (A → Bool) → List A → Bool
alls t [] = true
alls t (x ∷ xs) = both (t x) (alls t xs)

all_map : {A : Type 0} (t : A → Bool) (h : ℕ → A) (xs : List ℕ) → all (λ (s : ℕ). t (h s)) xs ≡ alls t (map h xs)
unfolding all alls
all_map t h [] = refl
all_map t h (x ∷ xs) = rw (all_map t h xs)

-- the clauses, on what is held
abbrev command_fit : ℕ → Outgoing → Bool
command_fit count o = both (names_fields o.command) (on_channel o.command.channel count)

abbrev tried_once : Outgoing → Bool
tried_once o = leb 1 o.attempts

abbrev arrival_fit : Marks → ℕ → Incoming → Bool
arrival_fit m count i = both (kind_fit m i) (ltb i.channel count)

abbrev of_channel : ℕ → Incoming → Bool
of_channel k i = eqb i.channel k

sum_lengths : List Incoming → ℕ
sum_lengths [] = 0
sum_lengths (i ∷ is) = i.length + sum_lengths is

lengths-map : (slots : List Incoming) (xs : List ℕ) → lengths slots xs ≡ sum_lengths (map (λ (s : ℕ). get_or slots s no_incoming) xs)
unfolding lengths sum_lengths
lengths-map slots [] = refl
lengths-map slots (x ∷ xs) = rw (lengths-map slots xs)

count_blocks : List Incoming → ℕ
count_blocks [] = 0
count_blocks (i ∷ is) = pick (is_block i) 1 0 + count_blocks is

blocks-map : (slots : List Incoming) (xs : List ℕ) → blocks slots xs ≡ count_blocks (map (λ (s : ℕ). get_or slots s no_incoming) xs)
unfolding blocks count_blocks
blocks-map slots [] = refl
blocks-map slots (x ∷ xs) = rw (blocks-map slots xs)

pub held_items : List ChannelView → List ℕ
held_items [] = []
held_items (c ∷ cs) = c.held.items ++ held_items cs

pub held_slots : List ChannelView → List Incoming
held_slots [] = []
held_slots (c ∷ cs) = c.held.slots ++ held_slots cs

held_short : List ChannelView → Bool
held_short [] = true
held_short (c ∷ cs) = both (leb c.held.len incoming) (held_short cs)

own_held : ℕ → List ChannelView → Bool
own_held k [] = true
own_held k (c ∷ cs) = both (alls (of_channel k) c.held.slots) (own_held (k + 1) cs)

module _ (slots : List Incoming) where
  abbrev pub at : ℕ → Incoming
  at s = get_or slots s no_incoming

  pub held_items_lem : (cs : List Channel) → held cs ≡ held_items (map (channel_view slots) cs)
  unfolding held held_items
  held_items_lem [] = refl
  held_items_lem (c ∷ cs) = rw (held_items_lem cs)

  held_slots_lem : (cs : List Channel) → map at (held cs) ≡ held_slots (map (channel_view slots) cs)
  unfolding held held_slots
  held_slots_lem [] = refl
  held_slots_lem (c ∷ cs) = map-append at (in_items c.held) (held cs) ∙ rw (held_slots_lem cs)

  held_short_lem : (cs : List Channel) → held_fit cs ≡ held_short (map (channel_view slots) cs)
  unfolding held_fit held_short
  held_short_lem [] = refl
  held_short_lem (c ∷ cs) = rw (held_short_lem cs)

  own_held_lem : (k : ℕ) (cs : List Channel) → own slots k cs ≡ own_held k (map (channel_view slots) cs)
  unfolding own own_held
  own_held_lem k [] = refl
  own_held_lem k (c ∷ cs) = rw (own_held_lem (k + 1) cs, all_map (of_channel k) at (in_items c.held))

-- soundness by the view
view_sound : View → Bool
view_sound v =
    let count = v.standing.channels in
    let outs = v.sent.items ++ (v.send_reliable.items ++ v.outgoing.items) in
    let ins = v.dispatched.items ++ held_items v.channels in
    let arrivals = v.dispatched.slots ++ held_slots v.channels in
    both (ranged v.flow.mtu count)
    (both
    (both
    (both (leb v.sent.len outgoing)
    (both (leb v.send_reliable.len outgoing) (both (leb v.outgoing.len outgoing) (leb v.dispatched.len incoming))))
    (held_short v.channels))
    (both
    (both (both (exist outgoing outs) (once outs))
    (both (alls (command_fit count) (v.sent.slots ++ (v.send_reliable.slots ++ v.outgoing.slots))) (alls tried_once v.sent.slots)))
    (both (both (exist incoming ins) (once ins))
    (both (alls (arrival_fit v.marks count) arrivals)
    (both (own_held 0 v.channels) (both (eqb v.waiting.total (sum_lengths arrivals)) (one_block v.marks (count_blocks arrivals))))))))

module _ (p : Peer) where
  abbrev pub cs : List Channel
  cs = below p.channels p.standing.channels

  abbrev out : ℕ → Outgoing
  out s = get_or p.outgoing s no_outgoing

  outs_fit : all (out_fit p.outgoing p.standing.channels) (out_items p.lists.sent ++ (out_items p.lists.send_reliable ++ out_items p.lists.outgoing))
      ≡ alls (command_fit p.standing.channels) (map out (out_items p.lists.sent) ++ (map out (out_items p.lists.send_reliable) ++ map out (out_items p.lists.outgoing)))
  outs_fit =
      all_map (command_fit p.standing.channels) out (out_items p.lists.sent ++ (out_items p.lists.send_reliable ++ out_items p.lists.outgoing))
      ∙ ap (alls (command_fit p.standing.channels))
      (map-append out (out_items p.lists.sent) (out_items p.lists.send_reliable ++ out_items p.lists.outgoing)
      ∙ ap (λ (l : List Outgoing). map out (out_items p.lists.sent) ++ l) (map-append out (out_items p.lists.send_reliable) (out_items p.lists.outgoing)))

  pub arrivals_are : map (at p.incoming) (in_items p.lists.dispatched ++ held cs)
      ≡ map (at p.incoming) (in_items p.lists.dispatched) ++ held_slots (map (channel_view p.incoming) cs)
  arrivals_are =
      map-append (at p.incoming) (in_items p.lists.dispatched) (held cs)
      ∙ ap (λ (l : List Incoming). map (at p.incoming) (in_items p.lists.dispatched) ++ l) (held_slots_lem p.incoming cs)

  arrivals_fit : all (in_fit p.marks p.incoming p.standing.channels) (in_items p.lists.dispatched ++ held cs)
      ≡ alls (arrival_fit p.marks p.standing.channels) (map (at p.incoming) (in_items p.lists.dispatched) ++ held_slots (map (channel_view p.incoming) cs))
  arrivals_fit =
      all_map (arrival_fit p.marks p.standing.channels) (at p.incoming) (in_items p.lists.dispatched ++ held cs)
      ∙ ap (alls (arrival_fit p.marks p.standing.channels)) arrivals_are

  arrivals_sum : lengths p.incoming (in_items p.lists.dispatched ++ held cs)
      ≡ sum_lengths (map (at p.incoming) (in_items p.lists.dispatched) ++ held_slots (map (channel_view p.incoming) cs))
  arrivals_sum = lengths-map p.incoming (in_items p.lists.dispatched ++ held cs) ∙ ap sum_lengths arrivals_are

  arrivals_blocks : blocks p.incoming (in_items p.lists.dispatched ++ held cs)
      ≡ count_blocks (map (at p.incoming) (in_items p.lists.dispatched) ++ held_slots (map (channel_view p.incoming) cs))
  arrivals_blocks = blocks-map p.incoming (in_items p.lists.dispatched ++ held cs) ∙ ap count_blocks arrivals_are

  sound-view : sound p ≡ view_sound (view p)
  unfolding sound view_sound view
  sound-view =
      rw (
        outs_fit,
        all_map tried_once out (out_items p.lists.sent),
        arrivals_fit,
        arrivals_sum,
        arrivals_blocks,
        held_short_lem p.incoming cs,
        own_held_lem p.incoming 0 cs,
        held_items_lem p.incoming cs,
      )

-- "What a free slot holds does not count", nor does the damage test see it
pub same_sound : (p q : Peer) → Same p q → sound p ≡ sound q
same_sound p q e = sound-view p ∙ ap view_sound e ∙ sym (sound-view q)

-- every part that counts is given back
pub record Agrees (p q : Peer) : Type 0 where
  pub ids : p.ids ≡ q.ids
  pub standing : p.standing ≡ q.standing
  pub bandwidth : p.bandwidth ≡ q.bandwidth
  pub totals : p.totals ≡ q.totals
  pub times : p.times ≡ q.times
  pub loss : p.loss ≡ q.loss
  pub throttling : p.throttling ≡ q.throttling
  pub limits : p.limits ≡ q.limits
  pub trips : p.trips ≡ q.trips
  pub flow : p.flow ≡ q.flow
  pub unsequenced : p.unsequenced ≡ q.unsequenced
  pub waiting : p.waiting ≡ q.waiting
  pub marks : p.marks ≡ q.marks
  pub sent : out_view p.outgoing p.lists.sent ≡ out_view q.outgoing q.lists.sent
  pub send_reliable : out_view p.outgoing p.lists.send_reliable ≡ out_view q.outgoing q.lists.send_reliable
  pub outgoing : out_view p.outgoing p.lists.outgoing ≡ out_view q.outgoing q.lists.outgoing
  pub dispatched : in_view p.incoming p.lists.dispatched ≡ in_view q.incoming q.lists.dispatched
  pub channels :
      map (channel_view p.incoming) (below p.channels p.standing.channels)
      ≡ map (channel_view q.incoming) (below q.channels q.standing.channels)

pub same_agrees : (p q : Peer) → Same p q → Agrees p q
unfolding view
same_agrees p q e =
    record {
      ids = ap (λ (v : View). v.ids) e;
      standing = ap (λ (v : View). v.standing) e;
      bandwidth = ap (λ (v : View). v.bandwidth) e;
      totals = ap (λ (v : View). v.totals) e;
      times = ap (λ (v : View). v.times) e;
      loss = ap (λ (v : View). v.loss) e;
      throttling = ap (λ (v : View). v.throttling) e;
      limits = ap (λ (v : View). v.limits) e;
      trips = ap (λ (v : View). v.trips) e;
      flow = ap (λ (v : View). v.flow) e;
      unsequenced = ap (λ (v : View). v.unsequenced) e;
      waiting = ap (λ (v : View). v.waiting) e;
      marks = ap (λ (v : View). v.marks) e;
      sent = ap (λ (v : View). v.sent) e;
      send_reliable = ap (λ (v : View). v.send_reliable) e;
      outgoing = ap (λ (v : View). v.outgoing) e;
      dispatched = ap (λ (v : View). v.dispatched) e;
      channels = ap (λ (v : View). v.channels) e;
    }

-- and of a list its length, the slots that it names and what each of them holds
pub list_agrees : {A : Type 0} (a b : ListView A) → a ≡ b → (a.len ≡ b.len) × (a.items ≡ b.items) × (a.slots ≡ b.slots)
list_agrees a b e = (ap (λ v. v.len) e, ap (λ v. v.items) e, ap (λ v. v.slots) e)
