-- The loop sets a byte a turn, the last first: what is still to be put conserves the whole.
use mathlib.Core.Path.{◌≡◌, sym, ◌∙◌}
use Rattle.command.specs.Bytes.{put_number}
use Rattle.command.proofs.ByteLaws.{put_turn}
use native.Mathlib.Omega.{arith}
use Rattle.wire.proofs.bytes.put_number.Goals as goal

pub loop-j-preserved : goal.loop-j-preserved
loop-j-preserved c =
    let l = c.loop-j in
    sym (put_turn l.out c.args.at l.j l.rest (omega arith)) ∙ l.invariant

pub returns : goal.returns
unfolding put_number
returns c =
    let z : c.loop-j.j ≡ 0 = omega arith in
    rw z at c.loop-j.invariant
