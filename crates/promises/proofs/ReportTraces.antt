-- Reliable repeats leave no trace (`no_trace_reports`), nor do pieces that came before (`no_trace_pieces`).
-- The argument: a channel's last number is the last of its log (`Counted` in Reporting); a number of the log with k after it lies k numbers behind it, so
-- up to 32,768 it is passed over. So an inserted repeat changes nothing at all, and what follows is the same run from the same state. A piece of an unfinished block that
-- is marked is unfit or passed over; of another block it is passed over by its start, as a reliable number.
use Rattle.std.specs.Prelude.{None, Option, Some}
use Prim.Native.Nat.{ℕ, ◌+◌, ◌%◌, ◌<◌, ◌≤◌}
use mathlib.Core.Path.{◌≡◌, refl, ap, subst, ◌∙◌}
use mathlib.Core.Bool.{Bool, true, false}
use mathlib.Core.List.{List, [], ◌∷◌, ◌++◌}
use native.Mathlib.Omega.{arith}
use lib.Dec.{eqb, ltb}
use lib.ListN.{length, get_or}
use borrow.Author.Tests.{eqb-false, ltb-false}
use Rattle.numbers.specs.Counters as counters
use Rattle.numbers.specs.Pick.{pick, both}
use Rattle.record.specs.Fresh.{no_channel, no_incoming}
use Rattle.record.specs.Marks.{piece_marked}
use Rattle.record.specs.declared.groups.Channel.{Channel}
use Rattle.record.specs.declared.groups.Incoming.{Incoming}
use Rattle.blocks.specs.Blocks.{fields_fit, like_first}
use Rattle.peer.specs.Damage.{sound}
use Rattle.peer.specs.Gate.{fits, gate_of}
use Rattle.peer.specs.States.{disconnect_later}
use Rattle.peer.specs.Sounds.{Whole}
use Rattle.peer.specs.Outcome.{State, Outcome}
use Rattle.peer.specs.declared.settings.Settings.{Settings}
use Rattle.peer.specs.declared.Peer.{Peer}
use Rattle.peer.specs.declared.gate.Lent.TheVariants.{Both}
use Rattle.peer.proofs.Gates.{behind_has}
use Rattle.arrival.specs.Arrivals.{arrival_gate}
use Rattle.arrive_reliable.specs.Holding.{number_distance, is_passed}
use Rattle.arrive_fragment.specs.Pieces.{unfinished_on, later_fate, fate_by}
use Rattle.arrive_fragment.specs.Calls.{send_fragment, arrival_of, fragment_after, fragment_sound, arrives_fragment}
use Rattle.arrive_fragment.specs.declared.Piece.{Piece}
use Rattle.arrive_fragment.specs.declared.Fate.TheVariants as fate
use Rattle.link.specs.Runs.{Asked, comes_to, before, run, reset_state}
use Rattle.promises.specs.Repeats.{Line, own, again, original, played}
use Rattle.promises.specs.Reports.{reported}
use Rattle.promises.specs.ReportRepeats.{Report, brings, Reported, RepeatsReports, NoTraceReports, PieceReport, brings_piece, RepeatsPiece, RepeatsPieces, NoTracePieces}
use Rattle.promises.proofs.Sounding.{fresh_whole, call_sounds}
use Rattle.promises.proofs.Eight.{passed_quiet}
use Rattle.promises.proofs.Unreported.{number_on}
use Rattle.promises.proofs.Reporting.{Rises, last_from, last_on_lem, last_steps, Counted, call_counted, fresh_counted}

-- ---- numbers one after another, from one of them on
rises_split : (m : ℕ) (front back : List ℕ) (n : ℕ) → Rises m (front ++ (n ∷ back)) → (n < 65536) × Rises n back
rises_split m [] back n r = (let e : n ≡ counters.step m = r.0 in omega arith, r.1)
rises_split m (x ∷ xs) back n r = rises_split x xs back n r.1

-- ---- a number that lies at most 32,768 behind the channel's last is passed over
passed_far : (slots : List Incoming) (c : Channel) (n k : ℕ) → n < 65536 → k ≤ 32768 → (number_on c).0 ≡ (n + k) % 65536 → is_passed slots c n ≡ true
passed_far slots c n k small few last = go (eqb (number_distance (number_on c).0 n) 0) refl (ltb 32767 (number_distance (number_on c).0 n)) refl
  where
    far : (number_distance (number_on c).0 n ≡ 0 → ⊥) → number_distance (number_on c).0 n ≤ 32767 → ⊥
    far z l = omega (arith, last, z, l)

    go : (a : Bool) → eqb (number_distance (number_on c).0 n) 0 ≡ a → (b : Bool) → ltb 32767 (number_distance (number_on c).0 n) ≡ b → is_passed slots c n ≡ true
    go true e b f = simp e
    go false e true f = simp (e, f)
    go false e false f = absurd (far (eqb-false (number_distance (number_on c).0 n) 0 e) (ltb-false 32767 (number_distance (number_on c).0 n) f))

counted_passed : (channel : ℕ) (p : Peer) (log : List ℕ) (n : ℕ) → Counted channel p log → Reported log n
    → is_passed p.incoming (get_or p.channels channel no_channel) n ≡ true
counted_passed channel p log n c k =
    let r = rises_split 0 k.front k.back n (subst (Rises 0) k.is c.rises) in
    passed_far p.incoming (get_or p.channels channel no_channel) n (length k.back) r.0 k.few
    (c.last ∙ ap (last_from 0) k.is ∙ last_on_lem 0 k.front (n ∷ k.back) ∙ last_steps n k.back r.0 r.1)

-- ---- a run with repeats
-- the log of each channel is that of the record
abbrev AllCounted : State → (ℕ → List ℕ) → Type 0
AllCounted x logs = (channel : ℕ) → Counted channel x.peer (logs channel)

-- what stands after a call of the original run
next_counted : (a : Asked) (x : State) (logs : ℕ → List ℕ) → Whole x.peer → AllCounted x logs
    → AllCounted (comes_to a x).after (λ (channel : ℕ). reported channel a x (logs channel))
next_counted a x logs w c = λ (channel : ℕ). call_counted channel a.call a.settings a.datagram x (logs channel) w (c channel)

next_whole : (a : Asked) (x : State) → Whole x.peer → Whole (comes_to a x).after.peer
next_whole a x w = (call_sounds a.settings a.call a.datagram x.store x.second).whole x.peer w

quiet : (k : Report) (x : State) (logs : ℕ → List ℕ) → AllCounted x logs → Reported (logs k.arrival.channel) k.arrival.number.0
    → (comes_to (brings k) x).after ≡ x
quiet k x logs c r =
    passed_quiet k.settings k.arrival k.datagram x
    (counted_passed k.arrival.channel x.peer (logs k.arrival.channel) k.arrival.number.0 (c k.arrival.channel) r)

trace : (ls : List (Line Report)) (x : State) (logs : ℕ → List ℕ) → Whole x.peer → AllCounted x logs → RepeatsReports ls x logs
    → played brings ls x ≡ run (original ls) x
unfolding played original run
trace [] x logs w c r = refl
trace (own a ∷ ls) x logs w c r =
    ap (before a x (comes_to a x))
    (trace ls (comes_to a x).after (λ (channel : ℕ). reported channel a x (logs channel)) (next_whole a x w) (next_counted a x logs w c) r)
trace (again k ∷ ls) x logs w c r = ap (played brings ls) (quiet k x logs c r.0) ∙ trace ls x logs w c r.1

pub no_trace_reports : NoTraceReports
no_trace_reports mtu kept store second lines r =
    trace lines (reset_state mtu kept store second) (λ (channel : ℕ). []) (fresh_whole mtu kept) (λ (channel : ℕ). fresh_counted channel mtu kept) r

-- ---- pieces
module _ (s : Settings) (a : Piece) (datagram : List ℕ) (x : State) where
  -- marked, it is unfit or passed over
  marked_left : (fit marked : Bool) (n : ℕ) → marked ≡ true → fragment_after (later_fate fit marked n) a datagram x ≡ x
  marked_left true marked n m = rw m
  marked_left false marked n m = refl

  piece_left : (log : List ℕ) → Counted a.channel x.peer log → (f : Option ℕ) → RepeatsPiece f a x.peer log
      → fragment_after (fate_by f s a x.peer) a datagram x ≡ x
  piece_left log c (Some n) r =
      marked_left (both (fields_fit s.packet a.fragment) (like_first a.fragment (get_or x.peer.incoming n no_incoming)))
      (piece_marked x.peer.marks a.fragment.number) n r
  piece_left log c None r = rw (counted_passed a.channel x.peer log a.start.0 c r)

  piece_quiet : (log : List ℕ) → Counted a.channel x.peer log → RepeatsPiece (unfinished_on a x.peer) a x.peer log
      → (arrives_fragment s a datagram x).after ≡ x
  piece_quiet log c r =
      behind_has (gate_of (fits s (Both (length x.store) (length x.second))) (sound x.peer)) x (fragment_sound s a datagram x) Left (λ why. refl)
      (λ e. behind_has (arrival_gate send_fragment (arrival_of a) s x.peer.standing (length datagram)) x _ Left (λ why. refl)
      (λ own. go (eqb x.peer.standing.state disconnect_later)))
    where
      Left : Outcome State → Type 0
      Left o = o.after ≡ x

      go : (b : Bool) → fragment_after (pick b fate.Passed (fate_by (unfinished_on a x.peer) s a x.peer)) a datagram x ≡ x
      go true = refl
      go false = piece_left log c (unfinished_on a x.peer) r

trace_pieces : (ls : List (Line PieceReport)) (x : State) (logs : ℕ → List ℕ) → Whole x.peer → AllCounted x logs → RepeatsPieces ls x logs
    → played brings_piece ls x ≡ run (original ls) x
unfolding played original run
trace_pieces [] x logs w c r = refl
trace_pieces (own a ∷ ls) x logs w c r =
    ap (before a x (comes_to a x))
    (trace_pieces ls (comes_to a x).after (λ (channel : ℕ). reported channel a x (logs channel)) (next_whole a x w) (next_counted a x logs w c) r)
trace_pieces (again k ∷ ls) x logs w c r =
    let on = k.piece.channel in
    ap (played brings_piece ls) (piece_quiet k.settings k.piece k.datagram x (logs on) (c on) r.0) ∙ trace_pieces ls x logs w c r.1

pub no_trace_pieces : NoTracePieces
no_trace_pieces mtu kept store second lines r =
    trace_pieces lines (reset_state mtu kept store second) (λ (channel : ℕ). []) (fresh_whole mtu kept) (λ (channel : ℕ). fresh_counted channel mtu kept) r
