-- C-11: what the arrival of a piece does beside soundness, whatever its answer: slots, marks, stores and total (`fragment_stores`); dispatched only grows at its end
-- (`fragment_adds`); the rest stays (`fragment_inbound`, `fragment_window`); its bytes go to its offset (`bytes-written`), and one less remains (`first_remaining`,
-- `later_remaining`). The argument: each fate in turn; to open, to mark and to dispatch each leave what they do not name, and a dispatch only adds.
use Prim.Native.Nat.{ℕ, ◌+◌, ◌≤◌, ◌<◌}
use mathlib.Core.Path.{◌≡◌, refl, ap, sym, subst, ◌∙◌}
use mathlib.Core.Bool.{Bool, true, false}
use mathlib.Core.List.{List, [], ◌∷◌, ◌++◌}
use native.Mathlib.Omega.{arith}
use lib.Dec.{ltb, eqb, leb}
use lib.ListN.{length, take, drop, get_or, set, length-drop, length-replicate}
use lib.Seq.{paste, get_or-set_same, get_or-set_other, set-get_or, set_out, length-take-le, take-take}
use borrow.Author.Tests.{eqb-true, eqb-false, ltb-true, ltb-false, leb-true}
use Rattle.numbers.specs.Pick.{pick, both}
use Rattle.numbers.specs.Modulo.{minus}
use Rattle.numbers.proofs.BoolLaws.{both_left, both_right}
use Rattle.record.specs.Lists.{incoming, in_items}
use Rattle.record.specs.Updates.{with_dispatched, with_flags}
use Rattle.record.specs.Fresh.{no_channel, no_incoming}
use Rattle.record.specs.Sizes.{cell, second_length}
use Rattle.record.specs.Damage.{below, kind_fit, in_fit, used_in}
use Rattle.record.specs.Marks.{most_pieces, marked_count, with_piece}
use Rattle.record.specs.Blocks.{most_bytes, is_block, block_fit}
use Rattle.record.proofs.Keeps.{times, exist_below}
use Rattle.record.specs.declared.groups.Lists.{Lists}
use Rattle.record.specs.declared.incoming.InList.{InList}
use Rattle.record.specs.declared.groups.Channel.{Channel}
use Rattle.record.specs.declared.groups.Incoming.{Incoming}
use Rattle.record.specs.declared.groups.Marks.{Marks}
use Rattle.record.specs.declared.groups.Waiting.{Waiting}
use Rattle.blocks.specs.Blocks.{block_of, one_less}
use Rattle.blocks.specs.Writing.{written}
use Rattle.peer.specs.Damage.{sound}
use Rattle.peer.specs.Outcome.{State, Outcome}
use Rattle.peer.specs.Sounds.{Whole}
use Rattle.peer.specs.Updates.{with_arrival, with_marks}
use Rattle.peer.specs.declared.settings.Settings.{Settings}
use Rattle.peer.specs.declared.Peer.{Peer}
use Rattle.peer.proofs.Clauses.{all_at}
use Rattle.peer.proofs.InClauses.{incoming_clauses, total_low}
use Rattle.arrival.proofs.Cells.{laid_is, laid-length}
use Rattle.arrival.proofs.Admitted.{not_passed, not_refused}
use Rattle.dispatch.proofs.Calling.{chosen, ready, gone, dispatched_has}
use Rattle.dispatch.proofs.Moving.{dispatch_order}
use Rattle.arrive_fragment.specs.Calls.{opened_on, pieced_on, finished_on, piece_on, with_bytes, cleared, fragment_after, arrives_fragment}
use Rattle.arrive_fragment.specs.declared.Piece.{Piece}
use Rattle.arrive_fragment.specs.declared.Fate.TheVariants as fate
use Rattle.laws.specs.Stores.{Adds}
use Rattle.laws.specs.Steady.{SameWindow}
use Rattle.laws.specs.Pieces.{Opens, Continues, Pieces, leaves, opens, continues, Inbound}
use Rattle.laws.proofs.Holding.{in_pool}
use Rattle.laws.proofs.Fates.{FieldsFit, fields_fit_lem, FirstPiece, LaterPiece, first_piece, later_piece, unfinished_left}
use Rattle.laws.proofs.Pieced.{slot_in}
use Rattle.laws.proofs.Fragments.{fragment_has, remains, finished_has, no_marks_lem, opened_whole, opened_slot}
use Rattle.laws.proofs.Fragments.{opened_pieced_sound, opened_pieced_whole, later_named, later_block, pieced_sound, pieced_whole}

-- ---- what a dispatch at the end leaves
module _ (n : ℕ) (a : Piece) (q : Peer) where
  pub finished_slots : (finished_on n a q).incoming ≡ q.incoming
  finished_slots = finished_has n a q (λ (r : Peer). r.incoming ≡ q.incoming) (λ e. refl) (λ e. refl)

  pub finished_marks : (finished_on n a q).marks ≡ q.marks
  finished_marks = finished_has n a q (λ (r : Peer). r.marks ≡ q.marks) (λ e. refl) (λ e. refl)

  pub finished_waiting : (finished_on n a q).waiting ≡ q.waiting
  finished_waiting = finished_has n a q (λ (r : Peer). r.waiting ≡ q.waiting) (λ e. refl) (λ e. refl)

-- ---- what stays: of a channel that is stored, a part that it keeps
channel_part : {A : Type 0} (part : Channel → A) (cs : List Channel) (i : ℕ) (d : Channel) → part d ≡ part (get_or cs i no_channel)
    → (c : ℕ) → part (get_or (set cs i d) c no_channel) ≡ part (get_or cs c no_channel)
channel_part {A} part cs i d e c = go (ltb i (length cs)) refl (eqb i c) refl
  where
    go : (b : Bool) → ltb i (length cs) ≡ b → (t : Bool) → eqb i c ≡ t → part (get_or (set cs i d) c no_channel) ≡ part (get_or cs c no_channel)
    go false b t u = ap (λ (ds : List Channel). part (get_or ds c no_channel)) (set_out cs i d (ltb-false i (length cs) b))
    go true b true u =
        let is : i ≡ c = eqb-true i c u in
        ap (λ (j : ℕ). part (get_or (set cs i d) j no_channel)) (sym is) ∙ ap part (get_or-set_same cs i d no_channel (ltb-true i (length cs) b)) ∙ e
        ∙ ap (λ (j : ℕ). part (get_or cs j no_channel)) is
    go true b false u = ap part (get_or-set_other cs i c d no_channel (λ z. eqb-false i c u (sym z)))

-- an arrival changes nothing else where the channel that it stores keeps its outgoing numbers, or where it stores none
module _ (channel : ℕ) (p : Peer) (dispatched : InList) (flags : ℕ) (waiting : Waiting) (incoming : List Incoming) (marks : Marks) where
  abbrev arrived : List Channel → Peer
  arrived channels =
      with_marks (with_arrival p (with_dispatched p.lists dispatched) (with_flags p.unsequenced flags) waiting channels incoming) marks

  inbound_by : (d : Channel) → d.outgoing_reliable ≡ (get_or p.channels channel no_channel).outgoing_reliable
      → d.outgoing_unreliable ≡ (get_or p.channels channel no_channel).outgoing_unreliable → Inbound channel p (arrived (set p.channels channel d))
  inbound_by d reliable unreliable =
      record {
        ids = refl;
        standing = refl;
        bandwidth = refl;
        totals = refl;
        times = refl;
        loss = refl;
        throttling = refl;
        limits = refl;
        trips = refl;
        flow = refl;
        outgoing = refl;
        sent = refl;
        send_reliable = refl;
        waits = refl;
        base = refl;
        group = refl;
        words = refl;
        given = channel_part (λ (c : Channel). c.outgoing_reliable) p.channels channel d reliable;
        given_unreliable = channel_part (λ (c : Channel). c.outgoing_unreliable) p.channels channel d unreliable;
        others = λ c n. get_or-set_other p.channels channel c d no_channel n;
      }

  inbound_still : Inbound channel p (arrived p.channels)
  inbound_still =
      subst (λ (cs : List Channel). Inbound channel p (arrived cs)) (set-get_or p.channels channel no_channel)
      (inbound_by (get_or p.channels channel no_channel) refl refl)

pub inbound_refl : (channel : ℕ) (p : Peer) → Inbound channel p p
inbound_refl channel p = inbound_still channel p p.lists.dispatched p.unsequenced.flags p.waiting p.incoming p.marks

pub inbound_trans : (channel : ℕ) (p q r : Peer) → Inbound channel p q → Inbound channel q r → Inbound channel p r
inbound_trans channel p q r f g =
    record {
      ids = g.ids ∙ f.ids;
      standing = g.standing ∙ f.standing;
      bandwidth = g.bandwidth ∙ f.bandwidth;
      totals = g.totals ∙ f.totals;
      times = g.times ∙ f.times;
      loss = g.loss ∙ f.loss;
      throttling = g.throttling ∙ f.throttling;
      limits = g.limits ∙ f.limits;
      trips = g.trips ∙ f.trips;
      flow = g.flow ∙ f.flow;
      outgoing = g.outgoing ∙ f.outgoing;
      sent = g.sent ∙ f.sent;
      send_reliable = g.send_reliable ∙ f.send_reliable;
      waits = g.waits ∙ f.waits;
      base = g.base ∙ f.base;
      group = g.group ∙ f.group;
      words = g.words ∙ f.words;
      given = λ c. g.given c ∙ f.given c;
      given_unreliable = λ c. g.given_unreliable c ∙ f.given_unreliable c;
      others = λ c n. g.others c n ∙ f.others c n;
    }

module _ (n : ℕ) (a : Piece) (p : Peer) where
  pub opened_inbound : Inbound a.channel p (opened_on n a p)
  opened_inbound = inbound_by a.channel p p.lists.dispatched p.unsequenced.flags _ _ p.marks _ refl refl

  pub pieced_inbound : Inbound a.channel p (pieced_on n a p)
  pieced_inbound = inbound_still a.channel p p.lists.dispatched p.unsequenced.flags p.waiting _ _

  pub finished_inbound : Inbound a.channel p (finished_on n a p)
  finished_inbound =
      finished_has n a p (Inbound a.channel p)
      (λ e.
      dispatched_has a.channel p (Inbound a.channel p) (λ none. inbound_refl a.channel p)
      (inbound_by a.channel p _ _ p.waiting p.incoming p.marks (gone a.channel p).channel refl refl))
      (λ e. inbound_refl a.channel p)

pub piece_inbound : (n : ℕ) (a : Piece) (p : Peer) → Inbound a.channel p (piece_on n a p)
piece_inbound n a p =
    inbound_trans a.channel p (pieced_on n a p) (piece_on n a p) (pieced_inbound n a p) (finished_inbound n a (pieced_on n a p))

-- ---- what remains
-- one less of what is there and small does not wrap
less_plain : (r : ℕ) → (r ≡ 0 → ⊥) → r ≤ most_pieces → minus 32 r 1 + 1 ≡ r
less_plain r some few = omega (arith, some, few)

-- of a block in a sound record at most 64 remain
pub few_remain : (p : Peer) (n : ℕ) → sound p ≡ true → 0 < times (used_in p.lists (below p.channels p.standing.channels)) n
    → is_block (slot_in p.incoming n) ≡ true → (slot_in p.incoming n).remaining ≤ most_pieces
few_remain p n good named block =
    let i = slot_in p.incoming n in
    let count = p.standing.channels in
    let used = used_in p.lists (below p.channels count) in
    let fit = all_at (in_fit p.marks p.incoming count) used (incoming_clauses p good).fit n named in
    let kind = both_left (kind_fit p.marks i) (ltb i.channel count) fit in
    let few = leb i.fragments most_pieces in
    let sized = both (leb 1 i.length) (leb i.length most_bytes) in
    let counted = eqb (i.remaining + marked_count p.marks) i.fragments in
    let apart : block_fit p.marks i ≡ true = sym (ap (λ (b : Bool). pick b (block_fit p.marks i) (leb i.length cell)) block) ∙ kind in
    omega (
      arith,
      leb-true i.fragments most_pieces (both_left few sized (both_left (both few sized) _ apart)),
      eqb-true (i.remaining + marked_count p.marks) i.fragments (both_left counted _ (both_right (both few sized) _ apart)),
    )

-- ---- a first piece
module _ (s : Settings) (a : Piece) (p : Peer) (n : ℕ) (whole : Whole p) (good : sound p ≡ true) (on : a.channel < p.standing.channels)
    (f : FirstPiece s a p n) where
  abbrev block : Incoming
  block = block_of a.byte a.channel a.start a.fragment

  abbrev opened : Peer
  opened = opened_on n a p

  fits_now : FieldsFit s.packet a.fragment
  fits_now = fields_fit_lem s.packet a.fragment f.fit

  pub first_total : opened.waiting.total ≡ p.waiting.total + a.fragment.total
  first_total =
      let low = total_low p.marks p.incoming p.lists (below p.channels p.standing.channels) p.standing.channels p.waiting.total
      (incoming_clauses p good) in
      let short = fits_now.short in
      omega (arith, low, short)

  first_here : n < length opened.incoming
  first_here = omega (arith, (opened_whole s a p n whole good on f).incoming, exists)
    where
      exists : n < incoming
      exists = omega (arith, in_pool p a.channel a.start.0 n block whole good on f.free, whole.incoming)

  pub first_slot : get_or (pieced_on n a opened).incoming n no_incoming ≡ one_less block
  first_slot = get_or-set_same opened.incoming n _ no_incoming first_here ∙ ap one_less (opened_slot s a p n whole good on f)

  pub first_others : (k : ℕ) → (k ≡ n → ⊥) → get_or (pieced_on n a opened).incoming k no_incoming ≡ get_or p.incoming k no_incoming
  first_others k other = get_or-set_other opened.incoming n k _ no_incoming other ∙ get_or-set_other p.incoming n k block no_incoming other

  pub first_remaining : remains n a (pieced_on n a opened) + 1 ≡ a.fragment.count
  first_remaining =
      ap (λ (i : Incoming). i.remaining + 1) first_slot
      ∙ less_plain a.fragment.count (λ z. omega (arith, z, fits_now.some)) fits_now.few

  first_opens : (datagram store second : List ℕ)
      → let x : State = record { peer = p; store = store; second = second } in Opens a datagram x (fragment_after (fate.First n) a datagram x)
  first_opens datagram store second =
      let q = pieced_on n a opened in
      record {
        slot = n;
        none = f.none;
        free = f.free;
        holds = ap (λ (slots : List Incoming). get_or slots n no_incoming) (finished_slots n a q) ∙ first_slot;
        slots = λ k other. ap (λ (slots : List Incoming). get_or slots k no_incoming) (finished_slots n a q) ∙ first_others k other;
        unmarked = no_marks_lem s a p n whole good on f;
        marks = finished_marks n a q ∙ ap (λ (m : Marks). with_piece m a.fragment.number) (no_marks_lem s a p n whole good on f);
        store = refl;
        second = refl;
        total = ap (λ (w : Waiting). w.total) (finished_waiting n a q) ∙ first_total;
      }

-- ---- a later piece
module _ (s : Settings) (a : Piece) (p : Peer) (n : ℕ) (whole : Whole p) (good : sound p ≡ true) (on : a.channel < p.standing.channels)
    (f : LaterPiece s a p n) where
  abbrev old : Incoming
  old = slot_in p.incoming n

  later_here : n < length p.incoming
  later_here = omega (arith, exist_below incoming used (incoming_clauses p good).exists n (later_named s a p n whole good on f), whole.incoming)
    where
      used : List ℕ
      used = used_in p.lists (below p.channels p.standing.channels)

  pub later_slot : get_or (pieced_on n a p).incoming n no_incoming ≡ one_less old
  later_slot = get_or-set_same p.incoming n (one_less old) no_incoming later_here

  pub later_others : (k : ℕ) → (k ≡ n → ⊥) → get_or (pieced_on n a p).incoming k no_incoming ≡ get_or p.incoming k no_incoming
  later_others k other = get_or-set_other p.incoming n k (one_less old) no_incoming other

  pub later_remaining : remains n a (pieced_on n a p) + 1 ≡ old.remaining
  later_remaining =
      ap (λ (i : Incoming). i.remaining + 1) later_slot
      ∙ less_plain old.remaining (unfinished_left a.start.0 old f.found.is)
      (few_remain p n good (later_named s a p n whole good on f) (later_block s a p n whole good on f))

  later_continues : (datagram store second : List ℕ)
      → let x : State = record { peer = p; store = store; second = second } in Continues a datagram x (fragment_after (fate.Later n) a datagram x)
  later_continues datagram store second =
      let q = pieced_on n a p in
      record {
        slot = n;
        own = f.own;
        like = f.like;
        unmarked = f.new;
        holds = ap (λ (slots : List Incoming). get_or slots n no_incoming) (finished_slots n a q) ∙ later_slot;
        slots = λ k other. ap (λ (slots : List Incoming). get_or slots k no_incoming) (finished_slots n a q) ∙ later_others k other;
        marks = finished_marks n a q;
        store = refl;
        second = refl;
        total = ap (λ (w : Waiting). w.total) (finished_waiting n a q);
      }

-- ---- bytes
-- a piece's bytes at their offset, as a write
pub bytes-written : (packet : ℕ) (a : Piece) (datagram second : List ℕ) → FieldsFit packet a.fragment → length second ≡ second_length
    → a.place + a.fragment.length ≤ length datagram
    → with_bytes a datagram second
    ≡ written second (record { place = a.fragment.offset; bytes = take a.fragment.length (drop a.place datagram) })
bytes-written packet a datagram second f long inside =
    let n = a.fragment.length in
    let from = drop a.place datagram in
    let enough : n ≤ length from = omega (arith, inside, length-drop a.place datagram) in
    let short = length-take-le n from enough in
    laid_is second a.fragment.offset datagram a.place n (omega (arith, f.ends, f.short, long)) inside
    ∙ ap (λ (bytes : List ℕ). take a.fragment.offset second ++ bytes ++ drop (a.fragment.offset + n) second) (sym (take-take n n from (omega arith)))
    ∙ ap (λ (k : ℕ). paste second a.fragment.offset (take n from) k) (sym short)

-- ---- the call
nothing : (xs : List ℕ) → xs ≡ xs ++ []
nothing [] = refl
nothing (x ∷ xs) = ap (λ (ys : List ℕ). x ∷ ys) (nothing xs)

none : (p : Peer) → Adds p p
none p = record { joined = []; is = nothing (in_items p.lists.dispatched) }

-- a piece of a sound record: what is dispatched at its end only adds
finished_adds : (n : ℕ) (a : Piece) (p q : Peer) → q.lists ≡ p.lists → Whole q → sound q ≡ true → a.channel < q.standing.channels
    → Adds p (finished_on n a q)
finished_adds n a p q same whole good on =
    let went = take (ready a.channel q) (in_items (chosen a.channel q).held) in
    finished_has n a q (Adds p)
    (λ e.
    record {
      joined = went;
      is = (dispatch_order a.channel q whole good on).joined ∙ ap (λ (l : Lists). in_items l.dispatched ++ went) same;
    })
    (λ e. record { joined = []; is = ap (λ (l : Lists). in_items l.dispatched) same ∙ nothing (in_items p.lists.dispatched) })

module _ (s : Settings) (a : Piece) (datagram : List ℕ) (x : State) where
  abbrev after : State
  after = (arrives_fragment s a datagram x).after

  pub fragment_inbound : Inbound a.channel x.peer after.peer
  fragment_inbound =
      fragment_has s a datagram x (λ (o : Outcome State). Inbound a.channel x.peer o.after.peer)
      (λ why. inbound_refl a.channel x.peer)
      (λ k e. inbound_refl a.channel x.peer)
      (λ n k e.
      inbound_trans a.channel x.peer (opened_on n a x.peer) (piece_on n a (opened_on n a x.peer)) (opened_inbound n a x.peer)
      (piece_inbound n a (opened_on n a x.peer)))
      (λ n k e. piece_inbound n a x.peer)

  pub fragment_window : SameWindow x.peer after.peer
  fragment_window = record { base = fragment_inbound.base; words = fragment_inbound.words }

  pub fragment_store : after.store ≡ x.store
  fragment_store =
      fragment_has s a datagram x (λ (o : Outcome State). o.after.store ≡ x.store) (λ why. refl) (λ k e. refl) (λ n k e. refl) (λ n k e. refl)

  pub fragment_second : length after.second ≡ length x.second
  fragment_second =
      fragment_has s a datagram x (λ (o : Outcome State). length o.after.second ≡ length x.second) (λ why. refl) (λ k e. refl)
      (λ n k e.
      laid-length (cleared x.second) a.fragment.offset datagram a.place a.fragment.length ∙ length-replicate (length x.second) 0)
      (λ n k e. laid-length x.second a.fragment.offset datagram a.place a.fragment.length)

  module _ (whole : Whole x.peer) where
    pub fragment_stores : Pieces a datagram x (arrives_fragment s a datagram x)
    fragment_stores =
        fragment_has s a datagram x (Pieces a datagram x)
        (λ why. leaves refl (not_refused why))
        (λ k e. leaves refl not_passed)
        (λ n k e. opens (first_opens s a x.peer n whole k.good k.may.on (first_piece s a x.peer n e) datagram x.store x.second) refl)
        (λ n k e. continues (later_continues s a x.peer n whole k.good k.may.on (later_piece s a x.peer n e) datagram x.store x.second) refl)

    pub fragment_adds : Adds x.peer after.peer
    fragment_adds =
        fragment_has s a datagram x (λ (o : Outcome State). Adds x.peer o.after.peer)
        (λ why. none x.peer)
        (λ k e. none x.peer)
        (λ n k e.
        let f = first_piece s a x.peer n e in
        finished_adds n a x.peer (pieced_on n a (opened_on n a x.peer)) refl (opened_pieced_whole s a x.peer n whole k.good k.may.on f)
        (opened_pieced_sound s a x.peer n whole k.good k.may.on f) k.may.on)
        (λ n k e.
        let f = later_piece s a x.peer n e in
        finished_adds n a x.peer (pieced_on n a x.peer) refl (pieced_whole s a x.peer n whole k.good k.may.on f)
        (pieced_sound s a x.peer n whole k.good k.may.on f) k.may.on)
