-- `check` meets its contract: it passes the gate; then walk, lists and numbers one after the other leave the rule's record. Lists that the walk does not divide
-- are the rule's too, since the record is sound.
use mathlib.Core.Path.{◌≡◌}
use lib.ListN.{length}
use borrow.Author.Rules.{rules}
use Rattle.peer.proofs.Gates.{passed_on}
use Rattle.places.specs.Whole.{whole, record_length}
use Rattle.timeouts.proofs.PlaceLaws.{check_shut, check_went}
use Rattle.timeouts.proofs.check.Goals as goal

pub returns-in_err-ask : goal.returns-in_err-ask
returns-in_err-ask c =
    let a = c.args in
    rw (passed_on c.from_residual.result c.in_err-ask.field-0.0 c.from_residual.ensures.1)
    (check_shut a.settings a.clock a.words.now (record { gate = c.ask.result; is = c.ask.ensures }) c.in_err-ask.field-0.0 c.in_err-ask.was)

pub returns : goal.returns
returns c =
    let a = c.args in
    let long : length a.words.now ≡ record_length = search rules in
    check_went a.settings a.clock a.words.now (record { gate = c.ask.result; is = c.ask.ensures }) c.in_ok-ask.was
    c.walk-w.result c.walk-w.new.marks c.walk-w.ensures.walk c.walk-w.ensures.marks (whole c.walk-w.new.words) c.walk-w.ensures.slots long
    (whole c.divide.new.words) (whole c.settle.new.words) c.reply_by.result c.divide.ensures c.settle.ensures c.reply_by.ensures
