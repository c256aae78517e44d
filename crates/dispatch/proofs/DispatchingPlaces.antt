-- The changes of a dispatch on the lent record, one after the other, are the rule's record.
-- The argument: each record on the way is a variable with its equation; what leaves the channel's list is what dispatched grew by; a channel that is
-- altered twice is altered once.
use Rattle.std.proofs.Common.{◌≡◌, ℕ, zero, suc, ◌+◌, ◌-◌, ◌≤◌, Bool, true, false, leb, List, [], ◌∷◌, ◌++◌, map, length, get_or, take, drop, set, sym, refl, ap, ◌∙◌, arith, length-take, take-take, eq-eqb, ne_eqb}
use lib.Seq.{set-get_or}
use Rattle.numbers.specs.Pick.{pick}
use Rattle.numbers.specs.declared.counters.Reliable.{Reliable}
use Rattle.cells.specs.Runs.{moved_from, moved_to}
use Rattle.cells.proofs.ListLaws.{moved_cut, moved_bounds}
use Rattle.record.specs.Lists.{incoming, in_items, in_keep}
use Rattle.record.specs.declared.incoming.InList.{InList}
use Rattle.record.proofs.Views.{in_items_keep}
use Rattle.lists.specs.Rows.{low}
use Rattle.record.specs.Fresh.{no_channel, no_incoming}
use Rattle.record.specs.Updates.{with_flags, with_held, with_last}
use Rattle.record.specs.declared.groups.Channel.{Channel}
use Rattle.record.specs.declared.groups.Incoming.{Incoming}
use Rattle.peer.specs.Updates.{with_unsequenced, with_channels}
use Rattle.peer.specs.declared.Peer.{Peer}
use Rattle.places.specs.Updates.{channel_at}
use Rattle.queues.specs.Queues.{held_of, put_held, put_dispatched}
use Rattle.dispatch.specs.Dispatching.{follows, number_after, ready_count, ready_last, moved_on}
use Rattle.record.specs.Flags.{flag_set, flagged}
use Rattle.dispatch.specs.Calls.{with_dispatch, dispatched_on}
use Rattle.dispatch.specs.CodeDispatching.{shifted_on}
use Rattle.dispatch.specs.Dispatching.{Dispatched}

-- no more are ready than the list names
pub ready_low : (slots : List Incoming) (xs : List ℕ) (n : ℕ) → ready_count slots xs n ≤ length xs
unfolding ready_count
ready_low slots [] n = omega arith
ready_low slots (s ∷ ss) n =
    go (follows n (get_or slots s no_incoming)) (ready_count slots ss (number_after (get_or slots s no_incoming))) (ready_low slots ss (number_after (get_or slots s no_incoming)))
  where
    go : (b : Bool) (k : ℕ) → k ≤ length ss → pick b (suc k) 0 ≤ suc (length ss)
    go true k h = omega arith
    go false k h = omega arith

-- one more of a count
pub count_more : (all k rest next : ℕ) → all ≡ k + rest → rest ≡ suc next → all ≡ k + 1 + next
count_more all k rest next e f = omega arith

-- an element that is altered twice
pub set_again : {A : Type 0} (xs : List A) (i : ℕ) (a d : A) (f : A → A) → set (set xs i a) i (f (get_or (set xs i a) i d)) ≡ set xs i (f a)
set_again [] i a d f = refl
set_again (x ∷ xs) zero a d f = refl
set_again {A} (x ∷ xs) (suc i) a d f = ap (λ (ys : List A). x ∷ ys) (set_again xs i a d f)

-- the flag
pub flag_put : (p q : Peer) (f s : ℕ) → f ≡ p.unsequenced.flags → s ≡ flag_set f → q ≡ with_unsequenced p (with_flags p.unsequenced s) → q ≡ with_unsequenced p (flagged p.unsequenced)
flag_put p q f s e is z = z ∙ ap (λ (x : ℕ). with_unsequenced p (with_flags p.unsequenced x)) (is ∙ ap flag_set e)

-- the first k of a list of cells are the first k that it names
first_named : (l : InList) (k : ℕ) → k ≤ length (in_items l) → take k l.slots ≡ take k (in_items l)
first_named l k h =
    let n : length (in_items l) ≤ l.len = rw (length-take l.len l.slots) (omega arith) in
    sym (take-take k l.len l.slots (omega arith))

-- the lists: q is the record once dispatched is longer, n and m are what it counted before and then
module _ (p q : Peer) (i k n m : ℕ) (cells : List ℕ) (h : k ≤ length (in_items (held_of p i))) (own : map low cells ≡ (held_of p i).slots) (before : n ≡ length (in_items p.lists.dispatched))
    (put : q ≡ put_dispatched p (in_keep p.lists.dispatched (moved_to incoming k (map low cells) (in_items p.lists.dispatched)))) (after : m ≡ length (in_items q.lists.dispatched)) where
  abbrev xs : List ℕ
  xs = in_items (held_of p i)

  abbrev ys : List ℕ
  ys = in_items p.lists.dispatched

  same : moved_to incoming k (map low cells) ys ≡ moved_to incoming k xs ys
  same =
      ap (λ (zs : List ℕ). pick (leb (length ys + length zs) incoming) (ys ++ zs) ys) (ap (take k) own ∙ first_named (held_of p i) k h)

  longer : q ≡ put_dispatched p (in_keep p.lists.dispatched (moved_to incoming k xs ys))
  longer = put ∙ ap (λ (zs : List ℕ). put_dispatched p (in_keep p.lists.dispatched zs)) same

  counted : m ≡ length (moved_to incoming k xs ys)
  counted =
      after ∙ ap (λ (x : Peer). length (in_items x.lists.dispatched)) longer ∙ ap length (in_items_keep p.lists.dispatched (moved_to incoming k xs ys))

  pub grown : n ≤ m
  grown = omega (arith, before, counted, (moved_bounds incoming k xs ys).0)

  left : drop (m - n) xs ≡ moved_from incoming k xs ys
  left = ap (λ (x : ℕ). drop (x - n) xs) counted ∙ ap (λ (x : ℕ). drop (length (moved_to incoming k xs ys) - x) xs) before ∙ moved_cut incoming k xs ys

  pub shifted : (r : Peer) → r ≡ put_held q i (in_keep (held_of q i) (drop (m - n) (in_items (held_of q i)))) → r ≡ shifted_on i k p
  shifted r cut =
      cut
      ∙ ap (λ (x : Peer). put_held x i (in_keep (held_of x i) (drop (m - n) (in_items (held_of x i))))) longer
      ∙ ap (λ (zs : List ℕ). put_held (put_dispatched p (in_keep p.lists.dispatched (moved_to incoming k xs ys))) i (in_keep (held_of p i) zs)) left

-- k are ready of channel i, and last is then the last number
module _ (p : Peer) (i k : ℕ) (count : k ≡ ready_count p.incoming (in_items (held_of p i)) (channel_at p i).incoming_reliable.0) where
  abbrev ready : ℕ
  ready = ready_count p.incoming (in_items (held_of p i)) (channel_at p i).incoming_reliable.0

  abbrev final : ℕ
  final = ready_last p.incoming (in_items (held_of p i)) (channel_at p i).incoming_reliable.0

  abbrev gone : ℕ → ℕ → Dispatched
  gone k n = moved_on k n (channel_at p i) p.lists p.unsequenced

  abbrev by : Bool → Peer
  by b = with_dispatch i (pick b (record { channel = channel_at p i; lists = p.lists; unsequenced = p.unsequenced }) (gone ready final)) p

  pub dispatched_none : k ≡ 0 → p ≡ dispatched_on i p
  dispatched_none z = ap (with_channels p) (sym (set-get_or p.channels i no_channel)) ∙ ap by (sym (eq-eqb ready 0 (sym count ∙ z)))

  pub dispatched_some : (last : Reliable) (q r s : Peer) → (k ≡ 0 → ⊥) → last.0 ≡ final → q ≡ shifted_on i k p
      → r ≡ with_channels q (set q.channels i (with_last (channel_at q i) last (record { 0 = 0 }))) → s ≡ with_unsequenced r (flagged r.unsequenced) → s ≡ dispatched_on i p
  dispatched_some last q r s z e lists numbers flags =
      flags
      ∙ ap (λ (x : Peer). with_unsequenced x (flagged x.unsequenced))
      (numbers ∙ ap (λ (x : Peer). with_channels x (set x.channels i (with_last (channel_at x i) last (record { 0 = 0 })))) lists)
      ∙ ap (λ (cs : List Channel). with_channels (with_dispatch i (gone k last.0) p) cs)
      (set_again p.channels i (with_held (channel_at p i) (in_keep (held_of p i) (moved_from incoming k (in_items (held_of p i)) (in_items p.lists.dispatched)))) no_channel
      (λ (c : Channel). with_last c last (record { 0 = 0 })))
      ∙ ap (λ (x : ℕ). with_dispatch i (gone x last.0) p) count
      ∙ ap (λ (x : ℕ). with_dispatch i (gone ready x) p) e
      ∙ ap by (sym (ne_eqb ready 0 (λ (w : ready ≡ 0). z (count ∙ w))))
