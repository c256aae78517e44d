-- What a fragment arrival leaves as it was, whatever it answers: all that goes out (`fragment_aside`).
-- The argument: neither opening a block nor marking a piece touches it, and a dispatch changes flags and the incoming lists alone (Pieces `fragment_keeps`).
use Prim.Native.Nat.{ℕ}
use mathlib.Core.Path.{refl, ◌∙◌}
use mathlib.Core.List.{List}
use lib.ListN.{get_or}
use Rattle.record.specs.Fresh.{no_channel}
use Rattle.peer.specs.Outcome.{State}
use Rattle.peer.specs.declared.settings.Settings.{Settings}
use Rattle.peer.specs.declared.Peer.{Peer}
use Rattle.dispatch.specs.Calls.{dispatched_on}
use Rattle.arrive_reliable.specs.Holding.{held_with}
use Rattle.arrive_fragment.specs.Pieces.{channel_of}
use Rattle.arrive_fragment.specs.Calls.{opened_on, arrives_fragment}
use Rattle.arrive_fragment.specs.declared.Piece.{Piece}
use Rattle.promises.proofs.OutAside.{Aside, aside, set_given, by_dispatch}
use Rattle.promises.proofs.Pieces.{fragment_keeps}

module _ (s : Settings) (a : Piece) (datagram : List ℕ) (x : State) where
  pub fragment_aside : Aside x.peer (arrives_fragment s a datagram x).after.peer
  fragment_aside =
      fragment_keeps s a datagram x (Aside x.peer) opens
      (λ n q k. record { slots = k.slots; names = k.names; counters = record { own = k.counters.own; many = k.counters.many; given = k.counters.given } })
      goes (aside x.peer)
    where
      opens : (n : ℕ) (q : Peer) → Aside x.peer q → Aside x.peer (opened_on n a q)
      opens n q k =
          record {
            slots = k.slots;
            names = k.names;
            counters =
                record {
                  own = k.counters.own;
                  many = k.counters.many;
                  given = λ c. set_given q.channels a.channel (held_with q.incoming (channel_of a q) a.start.0 n) refl c ∙ k.counters.given c;
                };
          }

      goes : (q : Peer) → Aside x.peer q → Aside x.peer (dispatched_on a.channel q)
      goes q k =
          let d = by_dispatch q.incoming (get_or q.channels a.channel no_channel) q.lists q.unsequenced in
          record {
            slots = k.slots;
            names = d.names ∙ k.names;
            counters =
                record {
                  own = k.counters.own;
                  many = k.counters.many;
                  given = λ c. set_given q.channels a.channel _ d.given c ∙ k.counters.given c;
                };
          }
