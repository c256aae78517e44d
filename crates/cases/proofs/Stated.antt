-- Document 01's cases, all of them over the one list: the definitions compute to what is stated, of any words and any store of the right length.
use mathlib.Core.Path.{◌≡◌, ap}
use mathlib.Core.List.{List, [], ◌∷◌}
use Prim.Native.Nat.{ℕ}
use lib.IntN.{ℤ}
use lib.ListN.{length}
use Rattle.command.specs.Layout.{layout, total}
use Rattle.cells.specs.Free.{first_from, count_from, exist, once}
use Rattle.record.specs.Fresh.{no_lists, no_channel, no_outgoing, no_incoming}
use Rattle.record.specs.Marks.{marked_from, piece_marked}
use Rattle.record.specs.Sizes.{store_length}
use Rattle.peer.specs.Fresh.{fresh_peer}
use Rattle.record.specs.Damage.{all, held, held_fit, own, lengths, blocks}
use Rattle.peer.specs.Damage.{sound}
use Rattle.peer.specs.Gate.{gated}
use Rattle.peer.specs.Outcome.{State, Outcome}
use Rattle.peer.specs.declared.gate.Lent.TheVariants.{Store}
use Rattle.acknowledge.specs.Removal.{seek}
use Rattle.arrive_unsequenced.specs.Calls.{unsequenced_sound}
use Rattle.setup.specs.Queueing.{queued_at, queued, queued_all}
use Rattle.packets.specs.Packets.{cut_from}
use Rattle.dispatch.specs.Dispatching.{ready_count, ready_last}
use Rattle.numbers.specs.Bits.{with_bit}
use Rattle.cases.specs.Cases.{at, arrival, arrives, landed, settings, cases, Hold}

-- four arrivals and the rest, which computes
four : (rest : List (List ℤ)) (a b c d e f g h : List ℤ) → a ≡ e → b ≡ f → c ≡ g → d ≡ h
    → ◌≡◌ {A = List (List ℤ)} (a ∷ b ∷ c ∷ d ∷ rest) (e ∷ f ∷ g ∷ h ∷ rest)
four rest a b c d e f g h p q r s = rw (p, q, r, s)

-- an arrival that is lent a store of n bytes
abbrev lent : ℕ → State → ℕ → Outcome State
lent n x g = gated (settings 576) (Store n) x.peer x (unsequenced_sound (settings 576) arrival (record { 0 = g }) [] x)

abbrev opens : State → ℕ → Outcome State
opens x g = lent store_length x g

-- the gate asks for the store's length alone, so a store of the right length may stand for any
module _ (words store : List ℕ) (long : length store ≡ store_length) where
  lands : (base g : ℕ) → landed (arrives (at base words store) g) ≡ landed (opens (at base words store) g)
  lands base g = ap (λ (n : ℕ). landed (lent n (at base words store) g)) long

  pub stated : Hold (cases words store)
  unfolding layout total first_from count_from exist once no_lists no_channel no_outgoing no_incoming fresh_peer sound all held held_fit own lengths blocks marked_from piece_marked queued_at queued queued_all cut_from ready_count ready_last with_bit seek
  stated = four _ _ _ _ _ _ _ _ _ (lands 0 32767) (lands 0 32768) (lands 33792 5) (lands 32768 5)
