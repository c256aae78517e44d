-- The record after a block was opened, and after a piece was marked. The argument: each change is given by its equation, and one after the other they are the
-- rule's record.
use Prim.Native.Nat.{ℕ}
use mathlib.Core.Path.{◌≡◌, ap, ◌∙◌}
use lib.ListN.{get_or, set}
use Rattle.record.specs.Fresh.{no_incoming}
use Rattle.record.specs.Marks.{with_piece}
use Rattle.record.specs.declared.groups.Waiting.{Waiting}
use Rattle.record.specs.declared.groups.Incoming.{Incoming}
use Rattle.record.specs.declared.groups.Marks.{Marks}
use Rattle.blocks.specs.Blocks.{block_of, one_less}
use Rattle.peer.specs.Updates.{with_channels, with_waiting, with_marks}
use Rattle.peer.specs.declared.Peer.{Peer}
use Rattle.places.specs.Updates.{channel_at, with_incoming}
use Rattle.arrival.specs.Storing.{awaiting}
use Rattle.arrive_reliable.specs.Holding.{held_with}
use Rattle.arrive_fragment.specs.Calls.{opened_on, pieced_on}
use Rattle.arrive_fragment.specs.declared.Piece.{Piece}

-- q holds the slot, r has it, t its total too
pub opened : (n : ℕ) (a : Piece) (p q r t : Peer) (slot : Incoming) (before waiting : Waiting)
    → q ≡ with_channels p (set p.channels a.channel (held_with p.incoming (channel_at p a.channel) a.start.0 n))
    → slot ≡ block_of a.byte a.channel a.start a.fragment → r ≡ with_incoming q (set q.incoming n slot) → before ≡ r.waiting
    → waiting ≡ awaiting before a.fragment.total → t ≡ with_waiting r waiting → t ≡ opened_on n a p
opened n a p q r t slot before waiting eq es er eb ew et =
    et
    ∙ ap (with_waiting r) (ew ∙ ap (λ (x : Waiting). awaiting x a.fragment.total) eb)
    ∙ ap (λ (x : Peer). with_waiting x (awaiting x.waiting a.fragment.total))
    (er ∙ ap (λ (i : Incoming). with_incoming q (set q.incoming n i)) es ∙ ap (λ (x : Peer). with_incoming x (set x.incoming n (block_of a.byte a.channel a.start a.fragment))) eq)

-- q has the slot with one less, r the mark too
pub pieced : (n : ℕ) (a : Piece) (p q r : Peer) (slot less : Incoming) (before marks : Marks)
    → slot ≡ get_or p.incoming n no_incoming → less ≡ one_less slot → q ≡ with_incoming p (set p.incoming n less) → before ≡ q.marks
    → marks ≡ with_piece before a.fragment.number → r ≡ with_marks q marks → r ≡ pieced_on n a p
pieced n a p q r slot less before marks es el eq eb em er =
    er
    ∙ ap (with_marks q) (em ∙ ap (λ (x : Marks). with_piece x a.fragment.number) eb)
    ∙ ap (λ (x : Peer). with_marks x (with_piece x.marks a.fragment.number))
    (eq ∙ ap (λ (i : Incoming). with_incoming p (set p.incoming n i)) (el ∙ ap one_less es))
