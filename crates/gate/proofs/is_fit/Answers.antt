-- `is_fit` asks for the settings, and for the length of each store that is lent.
use borrow.Author.Tests.{not-true, not-false, eq-eqb, ne_eqb}
use Rattle.gate.proofs.is_fit.Goals as goal

pub returns-then-not-fit : goal.returns-then-not-fit
returns-then-not-fit c =
    rw (c.in-Store.is, ← c.is_fit-fit.ensures, not-true c.is_fit-fit.result c.if-not-fit.true-raw)

pub returns-then-not-fit-2 : goal.returns-then-not-fit-2
returns-then-not-fit-2 c =
    rw (c.in-Both.is, ← c.is_fit-fit.ensures, not-true c.is_fit-fit.result c.if-not-fit-2.true-raw)

pub returns-then-store-ne-STORE : goal.returns-then-store-ne-STORE
returns-then-store-ne-STORE c =
    rw (c.in-Both.is, ← c.is_fit-fit.ensures, not-false c.is_fit-fit.result c.if-not-fit-2.false-raw, ne_eqb _ _ c.if-store-ne-STORE.true)

pub returns-in-Nothing : goal.returns-in-Nothing
returns-in-Nothing c = rw c.in-Nothing.is c.is_fit-fit.ensures

pub returns-else-not-fit : goal.returns-else-not-fit
returns-else-not-fit c =
    rw (c.in-Store.is, ← c.is_fit-fit.ensures, not-false c.is_fit-fit.result c.if-not-fit.false-raw)

pub returns-else-store-ne-STORE : goal.returns-else-store-ne-STORE
returns-else-store-ne-STORE c =
    rw (c.in-Both.is, ← c.is_fit-fit.ensures, not-false c.is_fit-fit.result c.if-not-fit-2.false-raw, eq-eqb _ _ c.if-store-ne-STORE.false)
