-- The record with another group: what a call does not name stays as it is. A group that joins the record is added in `rebuilt`.
use Rattle.std.specs.Prelude.{List}
use Rattle.record.specs.declared.groups.Standing.{Standing}
use Rattle.record.specs.declared.groups.Totals.{Totals}
use Rattle.record.specs.declared.groups.Times.{Times}
use Rattle.record.specs.declared.groups.Loss.{Loss}
use Rattle.record.specs.declared.groups.Throttling.{Throttling}
use Rattle.record.specs.declared.groups.Trips.{Trips}
use Rattle.record.specs.declared.groups.Flow.{Flow}
use Rattle.record.specs.declared.groups.Lists.{Lists}
use Rattle.record.specs.declared.groups.Unsequenced.{Unsequenced}
use Rattle.record.specs.declared.groups.Waiting.{Waiting}
use Rattle.record.specs.declared.groups.Channel.{Channel}
use Rattle.record.specs.declared.groups.Outgoing.{Outgoing}
use Rattle.record.specs.declared.groups.Incoming.{Incoming}
use Rattle.record.specs.declared.groups.Marks.{Marks}
use Rattle.peer.specs.declared.Peer.{Peer}

-- all the groups that a call may change
abbrev pub rebuilt : Peer → Standing → Totals → Times → Loss → Throttling → Trips → Flow → Lists → Unsequenced → Waiting → List Channel → List Outgoing → List Incoming → Marks → Peer
rebuilt p standing totals times loss throttling trips flow lists unsequenced waiting channels outgoing incoming marks =
    record {
      ids = p.ids;
      standing = standing;
      bandwidth = p.bandwidth;
      totals = totals;
      times = times;
      loss = loss;
      throttling = throttling;
      limits = p.limits;
      trips = trips;
      flow = flow;
      lists = lists;
      unsequenced = unsequenced;
      waiting = waiting;
      channels = channels;
      outgoing = outgoing;
      incoming = incoming;
      marks = marks;
    }

-- all but those that only acknowledgement and throttle change
abbrev pub remade : Peer → Standing → Totals → Times → Loss → Flow → Lists → Unsequenced → Waiting → List Channel → List Outgoing → List Incoming → Peer
remade p standing totals times loss flow lists unsequenced waiting channels outgoing incoming =
    rebuilt p standing totals times loss p.throttling p.trips flow lists unsequenced waiting channels outgoing incoming p.marks

-- all but the incoming slots
abbrev pub renewed : Peer → Standing → Totals → Times → Loss → Flow → Lists → Unsequenced → Waiting → List Channel → List Outgoing → Peer
renewed p standing totals times loss flow lists unsequenced waiting channels outgoing =
    remade p standing totals times loss flow lists unsequenced waiting channels outgoing p.incoming

-- one of them
abbrev pub with_standing : Peer → Standing → Peer
with_standing p x = renewed p x p.totals p.times p.loss p.flow p.lists p.unsequenced p.waiting p.channels p.outgoing

abbrev pub with_totals : Peer → Totals → Peer
with_totals p x = renewed p p.standing x p.times p.loss p.flow p.lists p.unsequenced p.waiting p.channels p.outgoing

abbrev pub with_times : Peer → Times → Peer
with_times p x = renewed p p.standing p.totals x p.loss p.flow p.lists p.unsequenced p.waiting p.channels p.outgoing

abbrev pub with_loss : Peer → Loss → Peer
with_loss p x = renewed p p.standing p.totals p.times x p.flow p.lists p.unsequenced p.waiting p.channels p.outgoing

abbrev pub with_flow : Peer → Flow → Peer
with_flow p x = renewed p p.standing p.totals p.times p.loss x p.lists p.unsequenced p.waiting p.channels p.outgoing

abbrev pub with_lists : Peer → Lists → Peer
with_lists p x = renewed p p.standing p.totals p.times p.loss p.flow x p.unsequenced p.waiting p.channels p.outgoing

abbrev pub with_unsequenced : Peer → Unsequenced → Peer
with_unsequenced p x = renewed p p.standing p.totals p.times p.loss p.flow p.lists x p.waiting p.channels p.outgoing

abbrev pub with_waiting : Peer → Waiting → Peer
with_waiting p x = renewed p p.standing p.totals p.times p.loss p.flow p.lists p.unsequenced x p.channels p.outgoing

abbrev pub with_channels : Peer → List Channel → Peer
with_channels p x = renewed p p.standing p.totals p.times p.loss p.flow p.lists p.unsequenced p.waiting x p.outgoing

abbrev pub with_outgoing : Peer → List Outgoing → Peer
with_outgoing p x = renewed p p.standing p.totals p.times p.loss p.flow p.lists p.unsequenced p.waiting p.channels x

-- the groups that an arrival may change
abbrev pub with_arrival : Peer → Lists → Unsequenced → Waiting → List Channel → List Incoming → Peer
with_arrival p lists unsequenced waiting channels incoming =
    remade p p.standing p.totals p.times p.loss p.flow lists unsequenced waiting channels p.outgoing incoming

-- the groups that an acknowledgement may change
abbrev pub with_heard : Peer → Times → Throttling → Trips → Flow → Lists → Peer
with_heard p times throttling trips flow lists =
    rebuilt p p.standing p.totals times p.loss throttling trips flow lists p.unsequenced p.waiting p.channels p.outgoing p.incoming p.marks

abbrev pub with_throttling : Peer → Throttling → Peer
with_throttling p x = with_heard p p.times x p.trips p.flow p.lists

-- C-11: the marks
abbrev pub with_marks : Peer → Marks → Peer
with_marks p x =
    rebuilt p p.standing p.totals p.times p.loss p.throttling p.trips p.flow p.lists p.unsequenced p.waiting p.channels p.outgoing p.incoming x

-- and a timeout check
abbrev pub with_checked : Peer → Times → Loss → Flow → Lists → List Outgoing → Peer
with_checked p times loss flow lists outgoing =
    renewed p p.standing p.totals times loss flow lists p.unsequenced p.waiting p.channels outgoing
