-- What the writer took so far is the front of the bytes.
use Rattle.std.proofs.Common.{◌≤◌, length, take}
use Rattle.std.specs.Io.KnownBytes.{Appends}
use Rattle.script.proofs.line.word.Given as goal

abbrev pub invariant-loop : goal.invariant-loop
invariant-loop g l = (l.at ≤ length l.s) × Appends (g.W.Write.contents l.initial.out) (g.W.Write.contents l.out) (take l.at l.s)
