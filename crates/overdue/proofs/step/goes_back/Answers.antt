-- `goes_back` meets its contract, by cases on the packet.
use Rattle.std.proofs.Common.{◌≡◌, rules}
use borrow.Author.Tests.{not-true, not-false}
use Rattle.numbers.specs.Modulo.{minus}
use Rattle.numbers.proofs.ModuloLaws.{minus_of}
use Rattle.overdue.proofs.step.goes_back.Goals as goal

pub returns-then-not-o : goal.returns-then-not-o
returns-then-not-o c =
    rw (not-true c.args.o.packet c.if-not-o.true, c.double-timeout.ensures, c.wrapping_add_u32.ensures.value)

pub returns : goal.returns
returns c =
    let a = c.args in
    let less : c.wrapping_sub_u32.result ≡ minus 32 a.walk.transit a.o.length =
    minus_of a.walk.transit a.o.length _ (search rules) (search rules) (search rules) c.wrapping_sub_u32.ensures.value in
    rw (not-false a.o.packet c.if-not-o.false, less, c.double-timeout.ensures, c.wrapping_add_u32.ensures.value)
