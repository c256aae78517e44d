-- `lyn_read` writes the numbers of what the reader found: its answer settles them, and whether there is anything to find.
use mathlib.Core.Path.{◌∙◌}
use native.Mathlib.Omega.{arith}
use borrow.Author.Rules.{rules}
use borrow.Author.Tests.{eq-eqb}
use Rattle.wire.specs.Reading.{kind_at}
use Rattle.exports.proofs.Readings.{something, next_is, numbers_are, size_small}
use Rattle.exports.proofs.lyn_read.Goals as goal

pub put_command-requires : goal.put_command-requires
put_command-requires c =
    let s = c.args.bytes.now in
    let i = c.args.place in
    let some = c.in-Some in
    (search rules, omega (arith, next_is s i c.read.result c.read.ensures some.found some.is, size_small (kind_at s i)))

pub returns : goal.returns
returns c =
    let full = eq-eqb _ _ c.if-row-ne-ROW_BYTES.false in
    let s = c.args.bytes.now in
    let i = c.args.place in
    let read = c.read in
    let some = c.in-Some in
    let there = something s i read.result read.ensures some.found some.is in
    let numbers = numbers_are s i read.result read.ensures some.found some.is in
    record { reply = simp (full, there); buffer = c.put_command.ensures ∙ simp (full, there, numbers) }
