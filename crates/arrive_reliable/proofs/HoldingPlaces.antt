-- What passes over a reliable arrival on the lent record, and the record that holds its slot. The argument: the numbers that are read are the
-- channel's, and each test picks the rule's case.
use Rattle.std.proofs.Common.{◌≡◌, ℕ, ◌<◌, ◌≤◌, Bool, true, List, set, ap, ◌∙◌, le-ltb, lt-ltb, eq-eqb, ne_eqb}
use Rattle.cells.specs.Runs.{inserted}
use Rattle.record.specs.Lists.{incoming, in_items, in_keep}
use Rattle.record.specs.declared.groups.Channel.{Channel}
use Rattle.record.specs.declared.groups.Incoming.{Incoming}
use Rattle.peer.specs.Updates.{with_channels}
use Rattle.peer.specs.declared.Peer.{Peer}
use Rattle.places.specs.Updates.{channel_at, numbers_of}
use Rattle.places.specs.declared.channels.Numbers.{Numbers}
use Rattle.queues.specs.Queues.{held_of, put_held}
use Rattle.arrive_reliable.specs.Holding.{number_distance, holds, farthest, is_passed, place_of, held_with}

-- own are the channel's numbers, d how far the arrival is
module _ (slots : List Incoming) (c : Channel) (n d : ℕ) (own : Numbers) (are : own ≡ numbers_of c) (asked : d ≡ number_distance own.incoming_reliable.0 n) where
  far : d ≡ number_distance c.incoming_reliable.0 n
  far = asked ∙ ap (λ (o : Numbers). number_distance o.incoming_reliable.0 n) are

  pub passed_same : d ≡ 0 → true ≡ is_passed slots c n
  passed_same z = rw (← far, eq-eqb d 0 z)

  pub passed_far : (d ≡ 0 → ⊥) → farthest < d → true ≡ is_passed slots c n
  passed_far z h = rw (← far, ne_eqb d 0 z, lt-ltb farthest d h)

  pub passed_asked : (d ≡ 0 → ⊥) → d ≤ farthest → (b : Bool) → b ≡ holds slots (in_items c.held) n → b ≡ is_passed slots c n
  passed_asked z h b e = rw (← far, ne_eqb d 0 z, le-ltb farthest d h) e

-- at is the place that was found
pub held_in : (p q : Peer) (i n s at : ℕ) (own : Numbers) → own ≡ numbers_of (channel_at p i)
    → at ≡ place_of p.incoming (in_items (held_of p i)) own.incoming_reliable.0 (number_distance own.incoming_reliable.0 n)
    → q ≡ put_held p i (in_keep (held_of p i) (inserted incoming (in_items (held_of p i)) at s))
    → q ≡ with_channels p (set p.channels i (held_with p.incoming (channel_at p i) n s))
held_in p q i n s at own are found put =
    put
    ∙ ap (λ (k : ℕ). put_held p i (in_keep (held_of p i) (inserted incoming (in_items (held_of p i)) k s)))
    (found ∙ ap (λ (o : Numbers). place_of p.incoming (in_items (held_of p i)) o.incoming_reliable.0 (number_distance o.incoming_reliable.0 n)) are)
