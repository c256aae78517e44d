-- `whole_command` meets its contract: the tests in their order pick the command.
use mathlib.Core.Path.{sym, ◌∙◌}
use borrow.Author.Tests.{le-leb, lt-leb}
use Rattle.packets.proofs.whole_command.Goals as goal

pub returns-then-unsequenced : goal.returns-then-unsequenced
returns-then-unsequenced c = rw (sym c.unsequenced.ensures ∙ c.if-unsequenced.true) c.blank.ensures

pub returns-then-is_set : goal.returns-then-is_set
returns-then-is_set c =
    let sequenced = sym c.unsequenced.ensures ∙ c.if-unsequenced.false in
    rw (sequenced, sym c.is_set.ensures ∙ c.if-is_set.true) c.blank-then-is_set.ensures

pub returns-then-unreliable-ge-LAST : goal.returns-then-unreliable-ge-LAST
returns-then-unreliable-ge-LAST c =
    let sequenced = sym c.unsequenced.ensures ∙ c.if-unsequenced.false in
    rw (sequenced, sym c.is_set.ensures ∙ c.if-is_set.false, le-leb _ _ c.if-unreliable-ge-LAST.true) c.blank-then-unreliable-ge-LAST.ensures

pub returns : goal.returns
returns c =
    let sequenced = sym c.unsequenced.ensures ∙ c.if-unsequenced.false in
    rw (sequenced, sym c.is_set.ensures ∙ c.if-is_set.false, lt-leb _ _ c.if-unreliable-ge-LAST.false) c.blank-2.ensures
