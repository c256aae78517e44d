-- The timeout check: the walk over the sent list as it stood at entry. "Giving up answers disconnect and keeps the moves made so far."
use Rattle.std.specs.Prelude.{ℕ, Bool, [], ◌∷◌, Result, Ok, Err}
use Rattle.numbers.specs.Pick.{pick}
use Rattle.numbers.specs.Answers.{Answer, done, refused}
use Rattle.numbers.specs.declared.refusals.Refusal.{Refusal}
use Rattle.record.specs.Lists.{out_items}
use Rattle.record.specs.Updates.{with_timeouts, with_packets_lost, with_transit}
use Rattle.peer.specs.Outcome.{Outcome}
use Rattle.peer.specs.Gate.{on_record}
use Rattle.peer.specs.Updates.{with_checked}
use Rattle.peer.specs.declared.settings.Settings.{Settings}
use Rattle.peer.specs.declared.Peer.{Peer}
use Rattle.overdue.specs.Walking.{Walked, at_entry, walked, lists_by}
use Rattle.timeouts.specs.declared.Checked.{Checked}
use Rattle.timeouts.specs.declared.Checked.TheVariants as vr

-- 1 done, 3 disconnect
abbrev pub answer_of : Result Checked Refusal → Answer
answer_of (Ok vr.Done) = done (1 ∷ [])
answer_of (Ok vr.Disconnect) = done (3 ∷ [])
answer_of (Err why) = refused why

abbrev pub reply_by : Bool → Checked
reply_by over = pick over vr.Disconnect vr.Done

-- the walk over a record's sent list
abbrev pub walk_of : ℕ → Peer → Walked
walk_of clock p = walked p.limits clock (out_items p.lists.sent) (at_entry p.times p.loss p.flow) p.outgoing

-- the record with what a walk made
abbrev pub walked_on : Peer → Walked → Peer
walked_on p w =
    with_checked p (with_timeouts p.times w.walk.next w.walk.earliest) (with_packets_lost p.loss w.walk.lost)
    (with_transit p.flow w.walk.transit) (lists_by w.marks p.lists) w.slots

abbrev pub checks_sound : ℕ → Peer → Outcome Peer
checks_sound clock p =
    let w = walk_of clock p in
    record { answer = answer_of (Ok (reply_by w.walk.over)); after = walked_on p w }

abbrev pub checks : Settings → ℕ → Peer → Outcome Peer
checks s clock p = on_record s p (checks_sound clock p)
