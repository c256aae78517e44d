-- `judge_window` asks the window: a group that it takes is what `taken_at` answers, and any other is passed over.
use Rattle.arrival.proofs.Laws.{judged_taken, judged_passed}
use Rattle.arrival.proofs.judge_window.Goals as goal

pub returns-in-Taken : goal.returns-in-Taken
returns-in-Taken c =
    let a = c.args in
    judged_taken a.unsequenced a.group a.room c.judge-seen.result c.judge-seen.ensures c.in-Taken.is c.taken_at.result c.taken_at.ensures

pub returns : goal.returns
returns c =
    let a = c.args in
    judged_passed a.unsequenced a.group a.room c.judge-seen.result c.judge-seen.ensures c.in_default.not-Taken
