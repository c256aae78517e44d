-- What the outgoing lists name once a piece has joined one of them: the slot taken, once, and what they named.
-- The argument: `times` adds up over `++`; a pool with a free slot has no full list, so that the push goes through.
use Rattle.std.specs.Prelude.{Some}
use Prim.Native.Nat.{ℕ, ◌+◌, ◌<◌}
use mathlib.Core.Path.{◌≡◌, refl, ap, ◌∙◌}
use mathlib.Core.List.{List, [], ◌∷◌, ◌++◌}
use mathlib.Core.Bool.{Bool, true, false, not}
use native.Mathlib.Omega.{arith}
use lib.Dec.{ltb}
use lib.ListN.{length, length-append}
use borrow.Author.Tests.{lt-ltb}
use Rattle.numbers.specs.Pick.{pick}
use Rattle.numbers.proofs.BoolLaws.{both_true}
use Rattle.record.specs.Lists.{outgoing, out_items}
use Rattle.cells.specs.Runs.{has, pushed}
use Rattle.cells.specs.Free.{lowest, exist, once}
use Rattle.record.proofs.Keeps.{one, times, times_append, times-pushed, once_more, exist_more}
use Rattle.record.proofs.Views.{out_items_keep}
use Rattle.cells.proofs.Lowest.{lowest_exists, lowest_free, free_and_named}
use Rattle.record.specs.Damage.{used_out}
use Rattle.peer.specs.declared.Peer.{Peer}
use Rattle.record.specs.declared.groups.Lists.{Lists}
use Rattle.peer.proofs.Clauses.{Clauses}
use Rattle.record.specs.Updates.{longer}
use Rattle.outbox.specs.Pieces.{to_reliable, lists_with}
use Rattle.outbox.specs.declared.pieces.Piece.{Piece}

-- a slot that is free leaves room in every list of its pool
room_for : (n : ℕ) (xs : List ℕ) (s : ℕ) → s < n → has xs s ≡ false → exist n xs ≡ true → once xs ≡ true → length xs < n
unfolding exist once
room_for n xs s h free e o =
    omega (
      arith,
      free_and_named n (s ∷ xs) (both_true (ltb s n) (exist n xs) (lt-ltb s n h) e)
          (both_true (not (has xs s)) (once xs) (rw free) o),
    )

pushed-length : (n : ℕ) (xs : List ℕ) (s : ℕ) → length xs < n → length (pushed n xs s) ≡ 1 + length xs
pushed-length n xs s h = rw (lt-ltb (length xs) n h) (omega (arith, length-append xs (s ∷ [])))

module _ (l : Lists) (s : ℕ) where
  abbrev sent : List ℕ
  sent = out_items l.sent

  abbrev reliable : List ℕ
  reliable = out_items l.send_reliable

  abbrev rest : List ℕ
  rest = out_items l.outgoing

  -- the two lists that a piece may join
  abbrev pub to_first : Lists
  to_first = record { sent = l.sent; send_reliable = longer l.send_reliable s; outgoing = l.outgoing; dispatched = l.dispatched }

  abbrev pub to_last : Lists
  to_last = record { sent = l.sent; send_reliable = l.send_reliable; outgoing = longer l.outgoing s; dispatched = l.dispatched }

  first_names : used_out to_first ≡ sent ++ (pushed outgoing reliable s ++ rest)
  first_names = ap (λ (m : List ℕ). sent ++ (m ++ rest)) (out_items_keep l.send_reliable (pushed outgoing reliable s))

  last_names : used_out to_last ≡ sent ++ (reliable ++ pushed outgoing rest s)
  last_names = ap (λ (m : List ℕ). sent ++ (reliable ++ m)) (out_items_keep l.outgoing (pushed outgoing rest s))

  -- the other two lists stay
  pub joined_sent : (x : Piece) → (lists_with l x s).sent ≡ l.sent
  joined_sent x = go (to_reliable x)
    where
      go : (b : Bool) → (pick b to_first to_last).sent ≡ l.sent
      go true = refl
      go false = refl

  pub joined_dispatched : (x : Piece) → (lists_with l x s).dispatched ≡ l.dispatched
  joined_dispatched x = go (to_reliable x)
    where
      go : (b : Bool) → (pick b to_first to_last).dispatched ≡ l.dispatched
      go true = refl
      go false = refl

  module _ (x : Piece) (h : length (used_out l) < outgoing) where
    pub first_room : length reliable < outgoing
    first_room = omega (arith, h, length-append sent (reliable ++ rest), length-append reliable rest)

    pub last_room : length rest < outgoing
    last_room = omega (arith, h, length-append sent (reliable ++ rest), length-append reliable rest)

    joined_times : (k : ℕ) → times (used_out (lists_with l x s)) k ≡ one s k + times (used_out l) k
    joined_times k = go (to_reliable x)
      where
        go : (b : Bool) → times (used_out (pick b to_first to_last)) k ≡ one s k + times (used_out l) k
        go true =
            ap (λ (m : List ℕ). times m k) first_names
            ∙ omega (
              arith,
              times_append sent (pushed outgoing reliable s ++ rest) k,
              times_append (pushed outgoing reliable s) rest k,
              times-pushed outgoing reliable s k first_room,
              times_append sent (reliable ++ rest) k,
              times_append reliable rest k,
            )
        go false =
            ap (λ (m : List ℕ). times m k) last_names
            ∙ omega (
              arith,
              times_append sent (reliable ++ pushed outgoing rest s) k,
              times_append reliable (pushed outgoing rest s) k,
              times-pushed outgoing rest s k last_room,
              times_append sent (reliable ++ rest) k,
              times_append reliable rest k,
            )

    joined_length : length (used_out (lists_with l x s)) ≡ 1 + length (used_out l)
    joined_length = go (to_reliable x)
      where
        go : (b : Bool) → length (used_out (pick b to_first to_last)) ≡ 1 + length (used_out l)
        go true =
            ap length first_names
            ∙ omega (
              arith,
              length-append sent (pushed outgoing reliable s ++ rest),
              length-append (pushed outgoing reliable s) rest,
              pushed-length outgoing reliable s first_room,
              length-append sent (reliable ++ rest),
              length-append reliable rest,
            )
        go false =
            ap length last_names
            ∙ omega (
              arith,
              length-append sent (reliable ++ pushed outgoing rest s),
              length-append reliable (pushed outgoing rest s),
              pushed-length outgoing rest s last_room,
              length-append sent (reliable ++ rest),
              length-append reliable rest,
            )

-- the lowest free slot of a sound record, named by one list more
module _ (x : Piece) (p : Peer) (s : ℕ) (low : lowest outgoing (used_out p.lists) ≡ Some s) (w : Clauses p) where
  abbrev used : List ℕ
  used = used_out p.lists

  abbrev after : List ℕ
  after = used_out (lists_with p.lists x s)

  pub slot_free : has used s ≡ false
  slot_free = lowest_free outgoing used s low

  pub slot_exists : s < outgoing
  slot_exists = lowest_exists outgoing used s low

  pub slot_room : length used < outgoing
  slot_room = room_for outgoing used s slot_exists slot_free w.exists w.single

  pub after-times : (k : ℕ) → times after k ≡ one s k + times used k
  after-times = joined_times p.lists s x slot_room

  pub after-length : length after ≡ 1 + length used
  after-length = joined_length p.lists s x slot_room

  pub after-exist : exist outgoing after ≡ true
  after-exist = exist_more used after s (λ k. omega (arith, after-times k)) outgoing slot_exists w.exists

  pub after-once : once after ≡ true
  after-once = once_more used after s (λ k. omega (arith, after-times k)) slot_free w.single
