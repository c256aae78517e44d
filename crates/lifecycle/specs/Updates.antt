-- The record with other ids, other limits; a group of it with another reserved number: what only a reset writes.
use Rattle.std.specs.Prelude.{ℕ}
use Rattle.record.specs.declared.groups.Unsequenced.{Unsequenced}
use Rattle.record.specs.declared.groups.Ids.{Ids}
use Rattle.record.specs.declared.groups.Limits.{Limits}
use Rattle.peer.specs.declared.Peer.{Peer}
use Rattle.places.specs.Updates.{with_fixed}

abbrev pub with_ids : Peer → Ids → Peer
with_ids p x = with_fixed p x p.bandwidth p.limits

abbrev pub with_limits : Peer → Limits → Peer
with_limits p x = with_fixed p p.ids p.bandwidth x

abbrev pub with_reserved : Unsequenced → ℕ → Unsequenced
with_reserved g x = record { flags = g.flags; reserved = x; incoming = g.incoming; outgoing = g.outgoing; words = g.words }
