-- `stamp` meets its contract: the test that is first true picks the definition's case.
use Rattle.std.proofs.Common.{sym, ◌∙◌, eq-eqb, ne_eqb}
use Rattle.outbox.proofs.CountLaws.{rest_reliable}
use Rattle.outbox.proofs.counting.stamp.Goals as goal

pub returns-then-channel-eq-ITSELF : goal.returns-then-channel-eq-ITSELF
returns-then-channel-eq-ITSELF c = rw (c.stamp_own.ensures, eq-eqb _ _ c.if-channel-eq-ITSELF.true)

pub returns-then-is_acknowledged : goal.returns-then-is_acknowledged
returns-then-is_acknowledged c =
    let asked = c.is_acknowledged in
    rw (c.stamp_reliable.ensures, ne_eqb _ _ c.if-channel-eq-ITSELF.false, sym asked.ensures ∙ c.if-is_acknowledged.true)

pub returns-then-is_set : goal.returns-then-is_set
returns-then-is_set c =
    rw (
      c.stamp_group.ensures,
      ne_eqb _ _ c.if-channel-eq-ITSELF.false,
      sym c.is_acknowledged.ensures ∙ c.if-is_acknowledged.false,
      sym c.is_set.ensures ∙ c.if-is_set.true,
    )

pub returns : goal.returns
returns c =
    rw (
      c.stamp_unreliable.ensures,
      ne_eqb _ _ c.if-channel-eq-ITSELF.false,
      sym c.is_acknowledged.ensures ∙ c.if-is_acknowledged.false,
      sym c.is_set.ensures ∙ c.if-is_set.false,
      rest_reliable,
    )
