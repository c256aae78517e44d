-- The call that a frame of ops 1 to 14 and 18 asks for, by SCRIPT.md's table; a number is taken modulo what its place holds. Another op stands for 14.
use Rattle.std.specs.Prelude.{ℕ, ◌%◌, eqb, get_or}
use Rattle.numbers.specs.Pick.{pick}
use Rattle.command.specs.declared.fields.Command.{Command}
use Rattle.outbox.specs.declared.pieces.Piece.{Piece}
use Rattle.send_step.specs.declared.heads.Queue.{Queue}
use Rattle.send_step.specs.declared.heads.Queue.TheVariants as queue
use Rattle.arrival.specs.declared.Arrival.{Arrival}
use Rattle.arrive_fragment.specs.declared.Piece.{Piece as Brought}
use Rattle.link_out.specs.declared.calls.Call.TheVariants as out
use Rattle.link_in.specs.declared.calls.Call.TheVariants as inw
use Rattle.link.specs.declared.calls.Call.{Call}
use Rattle.link.specs.declared.calls.Call.TheVariants as call
use Rattle.script.specs.declared.frames.Frame.{Frame}

-- the frame's number k
abbrev pub number : Frame → ℕ → ℕ
number f k = get_or f.numbers k 0

-- "command byte, channel, number, group, length, place of the payload in the bytes" (10), the same without a group (11)
abbrev pub arrival_of : Frame → ℕ → ℕ → Arrival
arrival_of f length place =
    record {
      byte = (number f 0) % 256;
      channel = (number f 1) % 256;
      number = record { 0 = (number f 2) % 65536 };
      length = length;
      place = place;
    }

-- "packet 0 or 1, offset, piece length" after the command
abbrev pub piece_of : Frame → Command → Piece
piece_of f command = record { command = command; packet = eqb (number f 4) 1; offset = (number f 5); length = (number f 6) % 65536 }

-- "command byte, channel, number, start, length, count, piece number, total, offset, place of the payload" (18)
abbrev pub fragment_of : Frame → Brought
fragment_of f =
    record {
      byte = (number f 0) % 256;
      channel = (number f 1) % 256;
      number = record { 0 = (number f 2) % 65536 };
      start = record { 0 = (number f 3) % 65536 };
      fragment = record { length = (number f 4) % 65536; count = (number f 5); number = (number f 6); total = (number f 7); offset = (number f 8) };
      place = (number f 9);
    }

-- "list (0 outgoing, 1 send-reliable)"
abbrev pub queue_of : ℕ → Queue
queue_of n = pick (eqb n 0) queue.Outgoing queue.Reliable

-- ops 1 to 7
abbrev pub outward : Frame → Command → Call → Call
outward f command else =
    pick (eqb f.op 1) call.Reset
    (pick (eqb f.op 2) (call.Begin (number f 0) (number f 1))
    (pick (eqb f.op 3) (call.SetState (number f 0))
    (pick (eqb f.op 4) (call.Outward out.Ping)
    (pick (eqb f.op 5) (call.Outward (out.Send ((number f 0) % 256) (number f 1) (number f 2)))
    (pick (eqb f.op 6) (call.Outward (out.Setup (piece_of f command)))
    (pick (eqb f.op 7) (call.Outward (out.SendStep (queue_of (number f 0)) (number f 1))) else))))))

-- ops 10, 11 and 18
abbrev pub arriving : Frame → Call
arriving f =
    pick (eqb f.op 10) (call.Inward (inw.UnsequencedArrival (arrival_of f (number f 4) (number f 5)) (record { 0 = (number f 3) % 65536 })))
    (pick (eqb f.op 11) (call.Inward (inw.ReliableArrival (arrival_of f (number f 3) (number f 4))))
    (pick (eqb f.op 18) (call.Inward (inw.FragmentArrival (fragment_of f))) (call.Outward (out.Throttle (number f 0)))))

-- ops 8 to 14 and 18
abbrev pub inward : Frame → Call
inward f =
    pick (eqb f.op 8) (call.Outward (out.Acknowledgement ((number f 0) % 256) (record { 0 = (number f 1) % 65536 }) ((number f 2) % 65536) (number f 3)))
    (pick (eqb f.op 9) (call.Outward (out.TimeoutCheck (number f 0)))
    (pick (eqb f.op 12) (call.Inward (inw.Dispatch ((number f 0) % 256)))
    (pick (eqb f.op 13) (call.Inward inw.Receive) (arriving f))))

abbrev pub call_of : Frame → Command → Call
call_of f command = outward f command (inward f)
