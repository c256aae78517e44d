-- Each number from its place, the command from the rest.
use mathlib.Core.Path.{◌≡◌, refl, ap, ◌∙◌}
use lib.ListN.{get_or, take, drop, replicate}
use Rattle.wire.specs.Decoded.{decoded}
use Rattle.pool.proofs.Copies.{paste_over}
use Rattle.pool.proofs.Decoding.{slot_made}
use Rattle.pool.proofs.slot_from.Goals as goal

pub returns : goal.returns
returns c =
    let part = c.args.part in
    let e : c.copy.new.to ≡ take 16 (drop 9 part) = c.copy.ensures ∙ paste_over (replicate 16 0) (drop 9 part) 16 refl in
    slot_made part c.low16.result c.low16-2.result c.low16-3.result c.low16-4.result c.decoded-command.result
    c.low16.ensures c.low16-2.ensures c.low16-3.ensures c.low16-4.ensures (c.decoded-command.ensures ∙ ap (decoded (get_or part 25 0)) e)
