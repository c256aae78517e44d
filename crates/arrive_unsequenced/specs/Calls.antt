-- The unsequenced arrival, on record and store: the window first, then 8. "Stored means delivered: to the end of dispatched, length added to the
-- waiting total; the cell's bytes past the length stay."
use Rattle.std.specs.Prelude.{ℕ, List, length}
use Rattle.numbers.specs.declared.counters.Group.{Group}
use Rattle.record.specs.declared.groups.Unsequenced.{Unsequenced}
use Rattle.peer.specs.Outcome.{State, Outcome}
use Rattle.peer.specs.Gate.{behind, gated}
use Rattle.peer.specs.Updates.{with_unsequenced}
use Rattle.peer.specs.declared.settings.Settings.{Settings}
use Rattle.peer.specs.declared.Peer.{Peer}
use Rattle.peer.specs.declared.gate.Lent.TheVariants.{Store}
use Rattle.arrival.specs.Storing.{delivered}
use Rattle.arrival.specs.Arrivals.{answer_of, arrival_gate, room_of, reply_of, stored_at}
use Rattle.arrival.specs.Window.{judge_window}
use Rattle.arrival.specs.declared.Arrival.{Arrival}
use Rattle.arrival.specs.declared.Fate.{Fate}
use Rattle.arrival.specs.declared.Fate.TheVariants as fate
use Rattle.arrival.specs.declared.Judged.{Judged}

-- command 9 brings an unsequenced packet
abbrev pub send_unsequenced : ℕ
send_unsequenced = 9

-- the state with other groups, and nothing else changed
abbrev pub regrouped : State → Unsequenced → State
regrouped x unsequenced = record { peer = with_unsequenced x.peer unsequenced; store = x.store; second = x.second }

-- what a fate leaves; the groups are the window's
abbrev pub unsequenced_after : Fate → Unsequenced → Arrival → List ℕ → State → State
unsequenced_after fate.Passed unsequenced a datagram x = regrouped x unsequenced
unsequenced_after fate.NoRoom unsequenced a datagram x = regrouped x unsequenced
unsequenced_after (fate.Stored s) unsequenced a datagram x =
    stored_at s a datagram x (delivered x.peer.lists s) unsequenced x.peer.channels

abbrev pub judged_on : Settings → Group → Peer → Judged
judged_on s group p = judge_window p.unsequenced group (room_of s p)

abbrev pub unsequenced_sound : Settings → Arrival → Group → List ℕ → State → Outcome State
unsequenced_sound s a group datagram x =
    let j = judged_on s group x.peer in
    behind (arrival_gate send_unsequenced a s x.peer.standing (length datagram)) x
    (record { answer = answer_of (reply_of j.fate); after = unsequenced_after j.fate j.unsequenced a datagram x })

abbrev pub arrives_unsequenced : Settings → Arrival → Group → List ℕ → State → Outcome State
arrives_unsequenced s a group datagram x =
    gated s (Store (length x.store)) x.peer x (unsequenced_sound s a group datagram x)
