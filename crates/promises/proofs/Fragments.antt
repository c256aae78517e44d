-- The arrival of a piece beside the ledger: what passes, what stands in the slots then, what joins; and, where it is the last of its block, what is known of the block.
-- The argument: a first piece's slot was free and there was no block, so that the second store is its write over zeros; a later piece's is that of the one block,
-- and its write comes after those before it. As many writes and pieces remaining make the block's count.
use Rattle.std.specs.Prelude.{None, Option, Some}
use Prim.Native.Nat.{ℕ, ◌+◌, ◌*◌, ◌<◌}
use mathlib.Core.Path.{◌≡◌, refl, ap, ap₂, sym, subst, ◌∙◌}
use mathlib.Core.Bool.{Bool, true, false, not}
use mathlib.Core.List.{List, [], ◌∷◌, ◌++◌}
use native.Mathlib.Omega.{arith}
use lib.Dec.{eqb, leb, ltb}
use lib.ListN.{length, take, drop, replicate, length-take, length-append, length-replicate}
use lib.Seq.{get_or-take}
use borrow.Author.Tests.{eqb-true, ne_eqb}
use Rattle.numbers.specs.Pick.{pick, both}
use Rattle.numbers.proofs.BoolLaws.{both_left, same_test}
use Rattle.record.specs.Lists.{in_items}
use Rattle.record.proofs.Keeps.{times, times_append, once_at_most}
use Rattle.record.specs.Fresh.{no_channel}
use Rattle.record.specs.Sizes.{cell, second_length}
use Rattle.record.specs.Marks.{no_marks, piece_marked, with_piece}
use Rattle.record.specs.Blocks.{is_block, block_fit}
use Rattle.record.specs.Damage.{all, below, held, kind_fit, in_fit, used_in}
use Rattle.record.specs.declared.groups.Channel.{Channel}
use Rattle.record.specs.declared.groups.Incoming.{Incoming}
use Rattle.record.specs.declared.groups.Marks.{Marks}
use Rattle.blocks.specs.Blocks.{block_of, one_less}
use Rattle.blocks.specs.Writing.{Write, written, all_written}
use Rattle.peer.specs.Damage.{sound}
use Rattle.peer.specs.Gate.{fits, gate_of}
use Rattle.peer.specs.Outcome.{State, Outcome}
use Rattle.peer.specs.Sounds.{Whole}
use Rattle.peer.specs.declared.settings.Settings.{Settings}
use Rattle.peer.specs.declared.Peer.{Peer}
use Rattle.peer.specs.declared.gate.Lent.TheVariants.{Both}
use Rattle.peer.proofs.Clauses.{all_at}
use Rattle.peer.proofs.Gates.{behind_has}
use Rattle.peer.proofs.InClauses.{incoming_clauses}
use Rattle.peer.proofs.Ranges.{count_high}
use Rattle.arrival.specs.Arrivals.{names, arrival_gate}
use Rattle.arrive_unsequenced.specs.Calls.{send_unsequenced}
use Rattle.arrive_reliable.specs.Calls.{send_reliable}
use Rattle.arrive_fragment.specs.Pieces.{channel_of, unfinished_on}
use Rattle.arrive_fragment.specs.Calls.{send_fragment, arrival_of, opened_on, pieced_on, finished_on, with_bytes, cleared, fragment_after, fragment_sound, arrives_fragment}
use Rattle.arrive_fragment.specs.declared.Piece.{Piece}
use Rattle.arrive_fragment.specs.declared.Fate.TheVariants as fate
use Rattle.laws.proofs.Holding.{now, joined_by, unnamed}
use Rattle.laws.proofs.Fates.{FieldsFit, fields_fit_lem, FirstPiece, LaterPiece, first_piece, later_piece, like_count, like_total, unfinished_left, unfinished_start}
use Rattle.laws.proofs.Pieced.{the_block, other_packet}
use Rattle.laws.proofs.Fragments.{LetIn, fragment_has, no_block, no_marks_lem, opened_named, opened_block, opened_pieced_sound, opened_pieced_whole}
use Rattle.laws.proofs.Fragments.{later_named, later_block, pieced_sound, pieced_whole}
use Rattle.laws.proofs.FragmentStores.{first_slot, first_others, first_remaining, later_slot, later_others, later_remaining, bytes-written}
use Rattle.link.specs.Runs.{says_one, Packet}
use Rattle.promises.specs.Counts.{count}
use Rattle.promises.specs.Reports.{dispatched_in}
use Rattle.promises.specs.Packets.{packet_at, Building, piece_written, with_write, block_built, is_reliable, is_either}
use Rattle.promises.proofs.Answers.{refused_one}
use Rattle.promises.proofs.Presence.{named, count_none, passing, passing_adds, passing_one, Passes, still, still_passes}
use Rattle.promises.proofs.Building.{slot_of, OfBlock, Stock, differ}
use Rattle.promises.proofs.Piecing.{Lays, none_changed, one_changed, laid_passes, laid_stock, ended_passes, ended_stock, ended_joined}
use Rattle.promises.proofs.Sorts.{put_all, put_none, other, gate_names, shut_one, own_at, Joined, none_joined}

-- ---- what is known of the block that is being put together
abbrev pub zeros : List ℕ
zeros = replicate second_length 0

pub record Blocked (b : Building) (m : Marks) (second : List ℕ) (i : Incoming) : Type 0 where
  pub byte : b.byte ≡ i.byte
  pub command : names i.byte send_fragment ≡ true
  pub count : length b.writes + i.remaining ≡ i.fragments
  pub bytes : second ≡ all_written zeros b.writes

-- the slot of a first piece's block, that piece marked
abbrev pub begun_slot : Piece → Incoming
begun_slot a = one_less (block_of a.byte a.channel a.start a.fragment)

-- a slot that is the piece's
pub record Own (a : Piece) (i : Incoming) : Type 0 where
  pub channel : i.channel ≡ a.channel
  pub number : i.number.0 ≡ a.start.0
  pub count : i.fragments ≡ a.fragment.count
  pub total : i.length ≡ a.fragment.total

-- what is known goes on with each piece that is stored
pub record Grows (B : Building → OfBlock) (packet : ℕ) (a : Piece) (datagram : List ℕ) (b : Building) : Type 0 where
  pub opens : FieldsFit packet a.fragment → names a.byte send_fragment ≡ true → (begun_slot a).remaining + 1 ≡ a.fragment.count
      → B (with_write None a.byte (piece_written a datagram) b) (with_piece no_marks a.fragment.number) (written zeros (piece_written a datagram)) (begun_slot a)
  pub continues : (n : ℕ) (m : Marks) (second : List ℕ) (i : Incoming) → FieldsFit packet a.fragment → B b m second i → Own a i
      → piece_marked m a.fragment.number ≡ false → (one_less i).remaining + 1 ≡ i.remaining
      → B (with_write (Some n) a.byte (piece_written a datagram) b) (with_piece m a.fragment.number) (written second (piece_written a datagram)) (one_less i)

written_last : (store : List ℕ) (ws : List Write) (w : Write) → all_written store (ws ++ (w ∷ [])) ≡ written (all_written store ws) w
unfolding all_written
written_last store [] w = refl
written_last store (v ∷ ws) w = written_last (written store v) ws w

written_one : (store : List ℕ) (w : Write) → all_written store (w ∷ []) ≡ written store w
unfolding all_written
written_one store w = refl

pub blocked_grows : (packet : ℕ) (a : Piece) (datagram : List ℕ) (b : Building) → Grows Blocked packet a datagram b
blocked_grows packet a datagram b =
    record {
      opens = λ fit command left.
          record { byte = refl; command = command; count = omega (arith, left); bytes = sym (written_one zeros (piece_written a datagram)) };
      continues = λ n m second i fit k own new left.
          record {
            byte = k.byte;
            command = k.command;
            count = omega (arith, left, k.count, length-append b.writes (piece_written a datagram ∷ []));
            bytes =
                ap (λ (cells : List ℕ). written cells (piece_written a datagram)) k.bytes
                ∙ sym (written_last zeros b.writes (piece_written a datagram));
          };
    }

-- ---- what the ledger gets of a piece; u is the unfinished block of its start, t whether it was stored
abbrev pub built : Piece → List ℕ → Option ℕ → Bool → Building → Building
built a datagram u t b = pick t (with_write u a.byte (piece_written a datagram) b) b

abbrev pub puts : Piece → Bool → Building → List Packet
puts a t b = pick (both t (eqb (length b.writes) a.fragment.count)) (block_built a b ∷ []) []

-- a block none of which remains
pub record Complete (B : OfBlock) (a : Piece) : Type 0 where
  pub marks : Marks
  pub second : List ℕ
  pub slot : Incoming
  pub known : B marks second slot
  pub fit : block_fit marks slot ≡ true
  pub none : slot.remaining ≡ 0
  pub own : Own a slot

pub record Pieced (B : Building → OfBlock) (a : Piece) (datagram : List ℕ) (x : State) (b : Building) (u : Option ℕ) (t : Bool) (y : State) : Type 0 where
  pub passes : Passes x y (puts a t (built a datagram u t b)) []
  pub stock : Stock (B (built a datagram u t b)) y
  pub joined : Joined a.channel x y
  pub known : let ks = puts a t (built a datagram u t b) in count is_either ks ≡ length ks
  pub late : count other (puts a t (built a datagram u t b)) ≡ 0
  pub whole : t ≡ true → length (built a datagram u t b).writes ≡ a.fragment.count → Complete (B (built a datagram u t b)) a

packet_is : {c d y z m n f g : ℕ} {bs cs : List ℕ} → c ≡ d → y ≡ z → m ≡ n → f ≡ g → bs ≡ cs
    → ◌≡◌ {A = Packet} (record { channel = c; byte = y; number = m; fragments = f; bytes = bs }) (record { channel = d; byte = z; number = n; fragments = g; bytes = cs })
packet_is h i j k l = cc

module _ (B : Building → OfBlock) (blocked : (b : Building) (m : Marks) (second : List ℕ) (i : Incoming) → B b m second i → Blocked b m second i)
    (a : Piece) (datagram : List ℕ) (x : State) (b : Building) (u : Option ℕ) where
  -- one that was not stored
  pub unstored : Stock (B b) x → Pieced B a datagram x b u false x
  unstored k =
      record {
        passes = still_passes x x.peer (still x.peer);
        stock = k;
        joined = none_joined a.channel x;
        known = count_none is_either;
        late = count_none other;
        whole = λ e. differ e refl;
      }

  module _ (z : State) (n : ℕ) (lays : Lays x z n) (whole : Whole z.peer) (good : sound z.peer ≡ true) (on : a.channel < z.peer.standing.channels)
      (there : 0 < times (named z.peer) n) (block : is_block (slot_of z n) ≡ true) (own : Own a (slot_of z n))
      (counted : (f : Packet → Bool) → passing f z (named z.peer) ≡ passing f z (n ∷ []) + passing f x (named x.peer))
      (known : B (built a datagram u true b) z.peer.marks z.second (slot_of z n)) where
    abbrev now_built : Building
    now_built = built a datagram u true b

    abbrev i : Incoming
    i = slot_of z n

    k : Blocked now_built z.peer.marks z.second i
    k = blocked now_built z.peer.marks z.second i known

    is_built : packet_at z n ≡ block_built a now_built
    is_built =
        packet_is own.channel (sym k.byte) own.number own.count
        (ap (λ (t : Bool). pick t (take i.length z.second) (take i.length (drop (n * cell) z.store))) block
        ∙ ap₂ (λ (m : ℕ) (cells : List ℕ). take m cells) own.total k.bytes)

    done_by : eqb i.remaining 0 ≡ eqb (length now_built.writes) a.fragment.count
    done_by =
        same_test i.remaining 0 (length now_built.writes) a.fragment.count (λ e. omega (arith, e, k.count, own.count))
        (λ e. omega (arith, e, k.count, own.count))

    put_is : (f : Packet → Bool) → passing f z (n ∷ []) ≡ count f (puts a true now_built)
    put_is f = passing_one f z n ∙ ap₂ (λ (t : Bool) (j : Packet). count f (pick t (j ∷ []) [])) done_by is_built

    command : names now_built.byte send_fragment ≡ true
    command = ap (λ (y : ℕ). names y send_fragment) k.byte ∙ k.command

    reliable : is_reliable (block_built a now_built) ≡ true
    reliable = go (names now_built.byte send_reliable)
      where
        go : (t : Bool) → pick t true (names now_built.byte send_fragment) ≡ true
        go true = refl
        go false = command

    fitting : block_fit z.peer.marks i ≡ true
    fitting =
        let m = z.peer.marks in
        let high = z.peer.standing.channels in
        let fit = all_at (in_fit m z.peer.incoming high) (named z.peer) (incoming_clauses z.peer good).fit n there in
        sym (ap (λ (t : Bool). pick t (block_fit m i) (leb i.length cell)) block) ∙ both_left (kind_fit m i) (ltb i.channel high) fit

    pub laid_pieced : Stock (B b) x → Pieced B a datagram x b u true (record { peer = finished_on n a z.peer; store = z.store; second = z.second })
    laid_pieced c =
        record {
          passes =
              ended_passes x z n lays a whole good on (puts a true now_built)
              (laid_passes x z n lays (puts a true now_built) (λ f. omega (arith, counted f, put_is f)));
          stock = ended_stock x z n lays a whole good on (laid_stock x z n lays c block known);
          joined = ended_joined x z n lays a whole good on;
          known =
              put_all is_either (eqb (length now_built.writes) a.fragment.count) (block_built a now_built)
              (λ t. ap (λ (r : Bool). pick r true (names now_built.byte send_unsequenced)) reliable);
          late =
              put_none other (eqb (length now_built.writes) a.fragment.count) (block_built a now_built) (λ t. ap not reliable);
          whole = λ t e.
              record {
                marks = z.peer.marks;
                second = z.second;
                slot = i;
                known = known;
                fit = fitting;
                none = omega (arith, e, k.count, own.count);
                own = own;
              };
        }

-- ---- a first piece, a later piece
carried : (C : OfBlock) {m o : Marks} {second bytes : List ℕ} {i j : Incoming} → m ≡ o → second ≡ bytes → i ≡ j → C o bytes j → C m second i
carried C d e f k = rw (d, e, f) k

module _ (B : Building → OfBlock) (blocked : (b : Building) (m : Marks) (second : List ℕ) (i : Incoming) → B b m second i → Blocked b m second i)
    (s : Settings) (a : Piece) (datagram : List ℕ) (x : State) (b : Building) (whole : Whole x.peer) (k : LetIn a datagram x)
    (grows : Grows B s.packet a datagram b) (c : Stock (B b) x) (n : ℕ) where
  abbrev p : Peer
  p = x.peer

  abbrev cs : List Channel
  cs = below p.channels p.standing.channels

  disp_named : (t : ℕ) → 0 < times (dispatched_in x) t → 0 < times (named p) t
  disp_named t h = omega (arith, h, times_append (dispatched_in x) (held cs) t)

  module _ (f : FirstPiece s a p n) (command : names a.byte send_fragment ≡ true) where
    abbrev on : a.channel < p.standing.channels
    on = k.may.on

    abbrev opened : Incoming
    opened = block_of a.byte a.channel a.start a.fragment

    abbrev fields : FieldsFit s.packet a.fragment
    fields = fields_fit_lem s.packet a.fragment f.fit

    abbrev begun : State
    begun = record { peer = pieced_on n a (opened_on n a p); store = x.store; second = with_bytes a datagram (cleared x.second) }

    free_before : times (named p) n ≡ 0
    free_before = unnamed p a.channel a.start.0 n opened whole k.good on f.free

    -- any sum over what is named has one more
    more : (g : List ℕ → ℕ) → ((xs ys : List ℕ) → g (xs ++ ys) ≡ g xs + g ys) → g (named begun.peer) ≡ g (n ∷ []) + g (named p)
    more g adds =
        ap (λ (ds : List Channel). g (used_in p.lists ds)) (now p a.channel a.start.0 n opened whole k.good on f.free)
        ∙ joined_by p a.channel a.start.0 n opened whole k.good on f.free g adds

    first_packets : (t : ℕ) → 0 < times (named p) t → is_block (slot_of x t) ≡ false
    first_packets t h = go (is_block (slot_of x t)) refl
      where
        go : (r : Bool) → is_block (slot_of x t) ≡ r → r ≡ false
        go true e =
            absurd
            (omega (
              arith,
              no_block s a p n whole k.good on f,
              the_block p.marks p.incoming (named p) t e h (incoming_clauses p k.good).block,
            ))
        go false e = refl

    first_lays : Lays x begun n
    first_lays =
        record {
          standing = refl;
          dispatched = refl;
          store = refl;
          others = first_others s a p n whole k.good on f;
          packets = λ t h z. first_packets t h;
          away = λ t h z. omega (arith, disp_named t h, ap (λ (j : ℕ). times (named p) j) z, free_before);
          from = λ t h z.
              omega (
                arith,
                h,
                more (λ (xs : List ℕ). times xs t) (λ xs ys. times_append xs ys t),
                ap {B = ℕ} (λ (r : Bool). pick r 1 0) (ne_eqb n t (λ e. z (sym e))),
              );
        }

    at : slot_of begun n ≡ begun_slot a
    at = first_slot s a p n whole k.good on f

    first_second : with_bytes a datagram (cleared x.second) ≡ written zeros (piece_written a datagram)
    first_second =
        bytes-written s.packet a datagram (cleared x.second) fields (length-replicate (length x.second) 0 ∙ k.second) k.may.inside
        ∙ ap (λ (m : ℕ). written (replicate m 0) (piece_written a datagram)) k.second

    first_known : B (built a datagram None true b) begun.peer.marks begun.second (slot_of begun n)
    first_known =
        carried (B (built a datagram None true b)) (ap (λ (m : Marks). with_piece m a.fragment.number) (no_marks_lem s a p n whole k.good on f))
        first_second at
        (grows.opens fields command (sym (ap (λ (i : Incoming). i.remaining + 1) at) ∙ first_remaining s a p n whole k.good on f))

    pub first_pieced : Pieced B a datagram x b None true
        (record { peer = finished_on n a begun.peer; store = x.store; second = with_bytes a datagram (cleared x.second) })
    first_pieced =
        laid_pieced B blocked a datagram x b None begun n first_lays (opened_pieced_whole s a p n whole k.good on f)
        (opened_pieced_sound s a p n whole k.good on f) on (opened_named s a p n whole k.good on f)
        (ap is_block at ∙ opened_block s a p n whole k.good on f)
        (record {
          channel = ap (λ (i : Incoming). i.channel) at;
          number = ap (λ (i : Incoming). i.number.0) at;
          count = ap (λ (i : Incoming). i.fragments) at;
          total = ap (λ (i : Incoming). i.length) at;
        })
        (λ g.
        omega (
          arith,
          more (passing g begun) (passing_adds g begun),
          none_changed x begun n refl refl (first_others s a p n whole k.good on f) (λ t h z. first_packets t h) g (named p) (λ t h. h) free_before,
        ))
        first_known c

  module _ (f : LaterPiece s a p n) where
    abbrev here : a.channel < p.standing.channels
    here = k.may.on

    abbrev fields_later : FieldsFit s.packet a.fragment
    fields_later = fields_fit_lem s.packet a.fragment f.fit

    abbrev old : Incoming
    old = slot_of x n

    abbrev pieced : State
    pieced = record { peer = pieced_on n a p; store = x.store; second = with_bytes a datagram x.second }

    was_there : 0 < times (named p) n
    was_there = later_named s a p n whole k.good here f

    was_block : is_block old ≡ true
    was_block = later_block s a p n whole k.good here f

    was_left : old.remaining ≡ 0 → ⊥
    was_left = unfinished_left a.start.0 old f.found.is

    later_packets : (t : ℕ) → 0 < times (named p) t → (t ≡ n → ⊥) → is_block (slot_of x t) ≡ false
    later_packets t h z =
        other_packet p.incoming (named p) n t
        (the_block p.marks p.incoming (named p) n was_block was_there (incoming_clauses p k.good).block) was_block was_there (λ e. z (sym e)) h

    later_lays : Lays x pieced n
    later_lays =
        record {
          standing = refl;
          dispatched = refl;
          store = refl;
          others = later_others s a p n whole k.good here f;
          packets = later_packets;
          away = λ t h z. was_left (ap (λ (j : ℕ). (slot_of x j).remaining) (sym z) ∙ c.out t h);
          from = λ t h z. h;
        }

    old-channel : old.channel ≡ a.channel
    old-channel =
        let own : ℕ → ℕ → Bool = λ j t. eqb (slot_of x t).channel j in
        let inside : a.channel < length cs =
        omega (arith, here, count_high p k.good, whole.channels, length-take p.standing.channels p.channels) in
        let listed = own_at p.incoming 0 cs a.channel (incoming_clauses p k.good).own inside in
        let theirs : all (own (0 + a.channel)) (in_items (channel_of a p).held) ≡ true =
        ap (λ (d : Channel). all (own (0 + a.channel)) (in_items d.held)) (sym (get_or-take p.standing.channels p.channels a.channel no_channel here))
        ∙ listed in
        let at = eqb-true old.channel (0 + a.channel) (all_at (own (0 + a.channel)) (in_items (channel_of a p).held) theirs n f.found.named) in
        omega (arith, at)

    own_old : Own a old
    own_old =
        record {
          channel = old-channel;
          number = unfinished_start a.start.0 old f.found.is;
          count = sym (like_count a.fragment old f.like);
          total = sym (like_total a.fragment old f.like);
        }

    at_later : slot_of pieced n ≡ one_less old
    at_later = later_slot s a p n whole k.good here f

    pub later_pieced : Pieced B a datagram x b (Some n) true
        (record { peer = finished_on n a pieced.peer; store = x.store; second = with_bytes a datagram x.second })
    later_pieced =
        laid_pieced B blocked a datagram x b (Some n) pieced n later_lays (pieced_whole s a p n whole k.good here f)
        (pieced_sound s a p n whole k.good here f) here was_there (ap is_block at_later ∙ was_block)
        (record {
          channel = ap (λ (i : Incoming). i.channel) at_later ∙ own_old.channel;
          number = ap (λ (i : Incoming). i.number.0) at_later ∙ own_old.number;
          count = ap (λ (i : Incoming). i.fragments) at_later ∙ own_old.count;
          total = ap (λ (i : Incoming). i.length) at_later ∙ own_old.total;
        })
        (λ g.
        one_changed x pieced n refl refl (later_others s a p n whole k.good here f) later_packets g (named p) (λ t h. h)
        (omega (arith, was_there, once_at_most (named p) (incoming_clauses p k.good).single n)) (ne_eqb old.remaining 0 was_left))
        (carried (B (built a datagram (Some n) true b)) refl (bytes-written s.packet a datagram x.second fields_later k.second k.may.inside) at_later
        (grows.continues n p.marks x.second old fields_later (c.block n was_there was_block) own_old f.new
        (sym (ap (λ (i : Incoming). i.remaining + 1) at_later) ∙ later_remaining s a p n whole k.good here f)))
        c

-- ---- the call
module _ (B : Building → OfBlock) (blocked : (b : Building) (m : Marks) (second : List ℕ) (i : Incoming) → B b m second i → Blocked b m second i)
    (s : Settings) (a : Piece) (datagram : List ℕ) (x : State) where
  abbrev outcome : Outcome State
  outcome = arrives_fragment s a datagram x

  abbrev unfinished_there : Option ℕ
  unfinished_there = unfinished_on a x.peer

  fragment_named : says_one outcome.answer ≡ true → names a.byte send_fragment ≡ true
  fragment_named =
      let P : Outcome State → Type 0 = λ o. says_one o.answer ≡ true → names a.byte send_fragment ≡ true in
      behind_has (gate_of (fits s (Both (length x.store) (length x.second))) (sound x.peer)) x (fragment_sound s a datagram x) P
      (λ why t. shut_one (refused_one why) t)
      (λ e. behind_has (arrival_gate send_fragment (arrival_of a) s x.peer.standing (length datagram)) x _ P (λ why t. shut_one (refused_one why) t)
      (λ opens t. gate_names send_fragment (arrival_of a) s x.peer.standing (length datagram) opens))

  pub fragment_pieced : (b : Building) → Whole x.peer → Grows B s.packet a datagram b → Stock (B b) x
      → Pieced B a datagram x b unfinished_there (says_one outcome.answer) outcome.after
  fragment_pieced b whole grows c =
      let none : Pieced B a datagram x b unfinished_there false x = unstored B blocked a datagram x b unfinished_there c in
      fragment_has s a datagram x
      (λ (o : Outcome State).
      (says_one o.answer ≡ true → names a.byte send_fragment ≡ true) → Pieced B a datagram x b unfinished_there (says_one o.answer) o.after)
      (λ why g. subst (λ (t : Bool). Pieced B a datagram x b unfinished_there t x) (sym (refused_one why)) none) (λ k e g. none)
      (λ n k e g.
      let f = first_piece s a x.peer n e in
      subst (λ (u : Option ℕ). Pieced B a datagram x b u true (fragment_after (fate.First n) a datagram x)) (sym f.none)
      (first_pieced B blocked s a datagram x b whole k grows c n f (g refl)))
      (λ n k e g.
      let f = later_piece s a x.peer n e in
      subst (λ (u : Option ℕ). Pieced B a datagram x b u true (fragment_after (fate.Later n) a datagram x)) (sym f.own)
      (later_pieced B blocked s a datagram x b whole k grows c n f))
      fragment_named
