-- The timeout check, for all inputs, refused or not: it moves slots and frees none, and a sound record stays sound.
-- The argument: each slot of sent bears one mark, and in a sound record the lists that get some have room; a slot keeps its command and attempts.
use Prim.Native.Nat.{ℕ, ◌+◌, ◌≤◌}
use mathlib.Core.Path.{◌≡◌, refl, ap, sym, ◌∙◌}
use mathlib.Core.Bool.{Bool, true}
use mathlib.Core.List.{List, [], ◌++◌}
use native.Mathlib.Omega.{arith}
use lib.Dec.{leb, ltb}
use lib.ListN.{length, get_or, length-append, length-take}
use borrow.Author.Tests.{le-leb, leb-true}
use Rattle.numbers.specs.Pick.{pick}
use Rattle.cells.specs.Runs.{prepended}
use Rattle.cells.proofs.Lengths.{prepended_fits}
use Rattle.cells.proofs.Lowest.{free_and_named}
use Rattle.record.specs.Lists.{outgoing, out_items}
use Rattle.record.specs.declared.outgoing.OutList.{OutList}
use Rattle.record.proofs.Keeps.{times, times_append, has-times}
use Rattle.record.proofs.Views.{out_items_keep}
use Rattle.record.specs.Fresh.{no_outgoing}
use Rattle.record.specs.Damage.{tried, used_out}
use Rattle.record.specs.declared.groups.Lists.{Lists}
use Rattle.record.specs.declared.groups.Outgoing.{Outgoing}
use Rattle.peer.specs.Damage.{sound}
use Rattle.peer.specs.Sounds.{Whole, Sounds}
use Rattle.peer.specs.Outcome.{Outcome}
use Rattle.peer.specs.Gate.{fits, gate_of}
use Rattle.peer.specs.declared.settings.Settings.{Settings}
use Rattle.peer.specs.declared.Peer.{Peer}
use Rattle.peer.specs.declared.gate.Lent.TheVariants as lent
use Rattle.peer.proofs.Gates.{behind_has, sound_open}
use Rattle.peer.proofs.Sound.{gated_sounds}
use Rattle.peer.proofs.Clauses.{Clauses, sound_clauses, all_at}
use Rattle.peer.proofs.OutClauses.{others_fit, out_sound}
use Rattle.overdue.specs.Overdue.{stays, back_outgoing, back_reliable}
use Rattle.overdue.specs.Walking.{at_entry, bearing, ahead, lists_by}
use Rattle.overdue.proofs.Laws.{bearing-length}
use Rattle.timeouts.specs.Calls.{walk_of, checks_sound, checks}
use Rattle.laws.specs.Moving.{Moves}
use Rattle.laws.proofs.Marking.{Low, walk_low, bearing-times, bearing_some, unmarked_stay, unmarked_move, Keeps, walk_keeps, walk_length}

-- a run before a list that has room for it
ahead_items : (l : OutList) (run : List ℕ) → length run + length (out_items l) ≤ outgoing → out_items (ahead l run) ≡ run ++ out_items l
ahead_items l run h =
    out_items_keep l (prepended outgoing run (out_items l))
    ∙ ap (λ (b : Bool). pick b (run ++ out_items l) (out_items l)) (le-leb (length run + length (out_items l)) outgoing h)

-- the lists fit their pool, whatever the marks
short : (l : OutList) → leb l.len outgoing ≡ true → length (out_items l) ≤ outgoing
short l e = omega (arith, leb-true l.len outgoing e, length-take l.len l.slots)

ahead_fits : (l : OutList) (run : List ℕ) → leb l.len outgoing ≡ true → leb (ahead l run).len outgoing ≡ true
ahead_fits l run e = le-leb (length (prepended outgoing run (out_items l))) outgoing (prepended_fits outgoing (out_items l) (short l e) run)

kept_fits : (l : OutList) (ms : List ℕ) → leb l.len outgoing ≡ true → leb (length (bearing stays ms (out_items l))) outgoing ≡ true
kept_fits l ms e =
    le-leb (length (bearing stays ms (out_items l))) outgoing (omega (arith, bearing-length stays ms (out_items l), short l e))

-- ---- marks on the lists of a sound record
module _ (p : Peer) (c : Clauses p) (ms : List ℕ) (low : Low ms) where
  abbrev l : Lists
  l = p.lists

  abbrev sent : List ℕ
  sent = out_items l.sent

  -- all lists together are no longer than the pool
  space : length sent + (length (out_items l.send_reliable) + length (out_items l.outgoing)) ≤ outgoing
  space =
      omega (
        arith,
        free_and_named outgoing (used_out l) c.exists c.single,
        length-append sent (out_items l.send_reliable ++ out_items l.outgoing),
        length-append (out_items l.send_reliable) (out_items l.outgoing),
      )

  pub sent_items : out_items (lists_by ms l).sent ≡ bearing stays ms sent
  sent_items = out_items_keep l.sent (bearing stays ms sent)

  pub reliable_items : out_items (lists_by ms l).send_reliable ≡ bearing back_reliable ms sent ++ out_items l.send_reliable
  reliable_items = ahead_items l.send_reliable (bearing back_reliable ms sent) (omega (arith, space, bearing-length back_reliable ms sent))

  pub outgoing_items : out_items (lists_by ms l).outgoing ≡ bearing back_outgoing ms sent ++ out_items l.outgoing
  outgoing_items = ahead_items l.outgoing (bearing back_outgoing ms sent) (omega (arith, space, bearing-length back_outgoing ms sent))

  pub used_same : (k : ℕ) → times (used_out (lists_by ms l)) k ≡ times (used_out l) k
  used_same k =
      let x = lists_by ms l in
      omega (
        arith,
        bearing-times ms sent low k,
        times_append (out_items x.sent) (out_items x.send_reliable ++ out_items x.outgoing) k,
        times_append (out_items x.send_reliable) (out_items x.outgoing) k,
        times_append sent (out_items l.send_reliable ++ out_items l.outgoing) k,
        times_append (out_items l.send_reliable) (out_items l.outgoing) k,
        ap (λ (xs : List ℕ). times xs k) sent_items,
        ap (λ (xs : List ℕ). times xs k) reliable_items ∙ times_append (bearing back_reliable ms sent) (out_items l.send_reliable) k,
        ap (λ (xs : List ℕ). times xs k) outgoing_items ∙ times_append (bearing back_outgoing ms sent) (out_items l.outgoing) k,
      )

-- ---- the check on a sound record
module _ (clock : ℕ) (p : Peer) (c : Clauses p) where
  abbrev marks : List ℕ
  marks = (walk_of clock p).marks

  abbrev after : Peer
  after = (checks_sound clock p).after

  low : Low marks
  low = walk_low p.limits clock (out_items p.lists.sent) (at_entry p.times p.loss p.flow) p.outgoing

  slots : (k : ℕ) → Keeps (get_or p.outgoing k no_outgoing) (get_or after.outgoing k no_outgoing)
  slots = walk_keeps p.limits clock (out_items p.lists.sent) (at_entry p.times p.loss p.flow) p.outgoing

  walk_moves : Moves p after
  walk_moves =
      record {
        marks = marks;
        sent = sent_items p c marks low;
        send_reliable = reliable_items p c marks low;
        outgoing = outgoing_items p c marks low;
        names =
            λ k.
            has-times (used_out after.lists) k
            ∙ ap (ltb 0) (used_same p c marks low k)
            ∙ sym (has-times (used_out p.lists) k);
        slots = slots;
      }

  same_tried : (k : ℕ) → tried after.outgoing k ≡ tried p.outgoing k
  same_tried k = ap (λ (o : Outgoing). leb 1 o.attempts) (slots k)

  walk_sound : sound after ≡ true
  walk_sound =
      out_sound p after c (record { mtu = refl; standing = refl; dispatched = refl; total = refl; channels = refl; incoming = refl; marks = refl })
      (others_fit p.lists (lists_by marks p.lists).sent (lists_by marks p.lists).send_reliable (lists_by marks p.lists).outgoing
      (kept_fits p.lists.sent marks) (ahead_fits p.lists.send_reliable (bearing back_reliable marks (out_items p.lists.sent)))
      (ahead_fits p.lists.outgoing (bearing back_outgoing marks (out_items p.lists.sent))) c.lists)
      (λ k. omega (arith, used_same p c marks low k)) (λ k. ap (λ (o : Outgoing). o.command) (slots k))
      (λ k h.
      same_tried k
      ∙ all_at (tried p.outgoing) (out_items p.lists.sent) c.sent k
      (omega (
        arith,
        h,
        ap (λ (xs : List ℕ). times xs k) (sent_items p c marks low),
        bearing_some stays marks (out_items p.lists.sent) k,
      )))

-- nothing moved
none_moved : (p : Peer) → Moves p p
none_moved p =
    let sent = out_items p.lists.sent in
    record {
      marks = [];
      sent = sym (unmarked_stay sent);
      send_reliable = ap (λ (xs : List ℕ). xs ++ out_items p.lists.send_reliable) (sym (unmarked_move back_reliable refl sent));
      outgoing = ap (λ (xs : List ℕ). xs ++ out_items p.lists.outgoing) (sym (unmarked_move back_outgoing refl sent));
      names = λ k. refl;
      slots = λ k. refl;
    }

pub check_moves : (s : Settings) (clock : ℕ) (p : Peer) → Moves p (checks s clock p).after
check_moves s clock p =
    behind_has (gate_of (fits s lent.Nothing) (sound p)) p (checks_sound clock p) (λ (o : Outcome Peer). Moves p o.after)
    (λ why. none_moved p) (λ e. walk_moves clock p (sound_clauses p (sound_open (fits s lent.Nothing) (sound p) e)))

walk_whole : (clock : ℕ) (p : Peer) → Whole p → Whole (checks_sound clock p).after
walk_whole clock p w =
    record {
      channels = w.channels;
      outgoing = walk_length p.limits clock (out_items p.lists.sent) (at_entry p.times p.loss p.flow) p.outgoing ∙ w.outgoing;
      incoming = w.incoming;
    }

pub check_sounds : (s : Settings) (clock : ℕ) → Sounds (checks s clock)
check_sounds s clock = gated_sounds s (checks_sound clock) (λ p w h. walk_sound clock p (sound_clauses p h)) (walk_whole clock)
