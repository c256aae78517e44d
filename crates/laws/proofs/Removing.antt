-- What a removal does to the lists: nothing, or one of them loses one place, whose command bears the number and channel that were sought.
-- So an acknowledgement frees exactly one slot or none. The argument: a list without a place is what stands before it and what stands behind; a
-- search ends at a place only where the rule says that this is the one.
use Rattle.std.specs.Prelude.{Option, Some, None}
use Prim.Native.Nat.{ℕ, suc, ◌+◌, ◌<◌}
use mathlib.Core.Path.{◌≡◌, refl, ap, sym, ◌∙◌}
use mathlib.Core.Bool.{Bool, true, false}
use mathlib.Core.List.{List, [], ◌∷◌, ◌++◌, append_assoc, append-nil}
use native.Mathlib.Numerals.{add-one}
use native.Mathlib.Omega.{arith}
use lib.Dec.{ltb}
use lib.ListN.{length, take, drop, get_or}
use lib.Seq.{split_at}
use borrow.Author.Tests.{eq-eqb}
use Rattle.numbers.specs.Pick.{pick}
use Rattle.numbers.specs.Bits.{bit}
use Rattle.cells.specs.Runs.{has, without}
use Rattle.cells.specs.Free.{once}
use Rattle.record.specs.Lists.{out_items}
use Rattle.record.specs.declared.outgoing.OutList.{OutList}
use Rattle.record.proofs.Keeps.{one, times, times_append, none_times, once_at_most}
use Rattle.record.proofs.Views.{out_items_keep}
use Rattle.record.specs.Damage.{used_out}
use Rattle.record.specs.Fresh.{no_outgoing}
use Rattle.record.specs.declared.groups.Lists.{Lists}
use Rattle.record.specs.declared.groups.Outgoing.{Outgoing}
use Rattle.queues.specs.declared.Out.{Out}
use Rattle.queues.specs.declared.Out.TheVariants as out
use Rattle.acknowledge.specs.Removal.{is_that, in_sent, in_queue, found_by, seek, or_else, spot_of, cut, lists_without, slot_at}
use Rattle.acknowledge.specs.declared.removal.Seen.{Seen}
use Rattle.acknowledge.specs.declared.removal.Seen.TheVariants as seen
use Rattle.acknowledge.specs.declared.removal.Spot.{Spot}
use Rattle.acknowledge.proofs.RemovalLaws.{spot_at, Placed}

-- ---- what the lists together lose
pub record Loses (before after : List ℕ) : Type 0 where
  pub slot : ℕ
  pub front : List ℕ
  pub rest : List ℕ
  pub was : before ≡ front ++ (slot ∷ rest)
  pub is : after ≡ front ++ rest

-- a list among others without place k
without_loses : (a xs b : List ℕ) (k : ℕ) → k < length xs → Loses (a ++ (xs ++ b)) (a ++ (without xs k ++ b))
without_loses a xs b k h =
    let x = get_or xs k 0 in
    let front = take k xs in
    let rest = drop (k + 1) xs in
    let e : xs ≡ front ++ (x ∷ rest) = rw add-one (split_at xs k 0 h) in
    record {
      slot = x;
      front = a ++ front;
      rest = rest ++ b;
      was =
          ap (λ (ys : List ℕ). a ++ (ys ++ b)) e
          ∙ ap (λ (ys : List ℕ). a ++ ys) (append_assoc front (x ∷ rest) b)
          ∙ sym (append_assoc a front (x ∷ (rest ++ b)));
      is = ap (λ (ys : List ℕ). a ++ ys) (append_assoc front rest b) ∙ sym (append_assoc a front (rest ++ b));
    }

loses_by : (a b c d : List ℕ) → a ≡ b → c ≡ d → Loses b d → Loses a c
loses_by a b c d e f l = record { slot = l.slot; front = l.front; rest = l.rest; was = e ∙ l.was; is = f ∙ l.is }

pub cut_items : (l : OutList) (k : ℕ) → out_items (cut l k) ≡ without (out_items l) k
cut_items l k = out_items_keep l (without (out_items l) k)

pub data Lost (l : Lists) (w : Option Spot) : Type 0 where
  same : lists_without w l ≡ l → Lost l w
  loses : (x : Loses (used_out l) (used_out (lists_without w l))) → slot_at w l ≡ Some x.slot → Lost l w

place_loses : (l : Lists) (list : Out) (k : ℕ) → Placed (spot_at list k) l → Lost l (spot_at list k)
unfolding loses_by without_loses
place_loses l out.Sent k h =
    let others = out_items l.send_reliable ++ out_items l.outgoing in
    loses
    (loses_by _ ([] ++ (out_items l.sent ++ others)) _ ([] ++ (without (out_items l.sent) k ++ others)) refl
    (ap (λ (xs : List ℕ). xs ++ others) (cut_items l.sent k)) (without_loses [] (out_items l.sent) others k h))
    refl
place_loses l out.Reliable k h =
    let s = out_items l.sent in
    let o = out_items l.outgoing in
    loses
    (loses_by _ (s ++ (out_items l.send_reliable ++ o)) _ (s ++ (without (out_items l.send_reliable) k ++ o)) refl
    (ap (λ (xs : List ℕ). s ++ (xs ++ o)) (cut_items l.send_reliable k)) (without_loses s (out_items l.send_reliable) o k h))
    refl
place_loses l out.Outgoing k h =
    let s = out_items l.sent in
    let r = out_items l.send_reliable in
    let end : (xs : List ℕ) → s ++ (r ++ xs) ≡ (s ++ r) ++ (xs ++ []) = λ xs.
    sym (append_assoc s r xs) ∙ ap (λ (ys : List ℕ). (s ++ r) ++ ys) (sym (append-nil xs)) in
    loses
    (loses_by _ ((s ++ r) ++ (out_items l.outgoing ++ [])) _ ((s ++ r) ++ (without (out_items l.outgoing) k ++ [])) (end (out_items l.outgoing))
    (ap (λ (xs : List ℕ). s ++ (r ++ xs)) (cut_items l.outgoing k) ∙ end (without (out_items l.outgoing) k))
    (without_loses (s ++ r) (out_items l.outgoing) [] k h))
    refl

pub removal_loses : (l : Lists) (w : Option Spot) → Placed w l → Lost l w
removal_loses l (Some s) h = place_loses l s.list s.place h
removal_loses l None h = same refl

-- slot by slot
module _ (before after : List ℕ) (l : Loses before after) where
  pub loses_times : (k : ℕ) → times before k ≡ one l.slot k + times after k
  loses_times k =
      omega (
        arith,
        ap (λ (xs : List ℕ). times xs k) l.was ∙ times_append l.front (l.slot ∷ l.rest) k,
        ap (λ (xs : List ℕ). times xs k) l.is ∙ times_append l.front l.rest k,
      )

  pub loses_free : once before ≡ true → has after l.slot ≡ false
  loses_free o =
      let t : one l.slot l.slot ≡ 1 = rw (eq-eqb l.slot l.slot refl) in
      none_times after l.slot (omega (arith, loses_times l.slot, once_at_most before o l.slot))

-- ---- what is found: the place at which a search ends is that of a command for which it says so
record Here (f : ℕ → Seen) (xs : List ℕ) (k i : ℕ) : Type 0 where
  place : ℕ
  is : i ≡ k + place
  this : f (get_or xs place 0) ≡ seen.Found

seek_here : (f : ℕ → Seen) (xs : List ℕ) (k i : ℕ) → seek f k xs ≡ Some i → Here f xs k i
unfolding seek
seek_here f [] k i e = let z : ◌≡◌ {A = ℕ} 0 1 = cc in absurd (omega arith)
seek_here f (x ∷ xs) k i e = go (f x) refl e (seek_here f xs (k + 1) i)
  where
    go : (v : Seen) → f x ≡ v → found_by v k (seek f (k + 1) xs) ≡ Some i → (seek f (k + 1) xs ≡ Some i → Here f xs (k + 1) i) → Here f (x ∷ xs) k i
    go seen.GoesOn p e rest =
        let h = rest e in
        record { place = suc h.place; is = omega (arith, h.is); this = h.this }
    go seen.Found p e rest =
        let z : k ≡ i = cc in
        record { place = 0; is = omega arith; this = p }
    go seen.Ends p e rest =
        let z : ◌≡◌ {A = ℕ} 0 1 = cc in
        absurd (omega arith)

module _ (slots : List Outgoing) (number channel : ℕ) where
  abbrev slot : ℕ → Outgoing
  slot s = get_or slots s no_outgoing

  -- both searches say so of a command of that number and channel alone
  sent_that : (o : Outgoing) → in_sent number channel o ≡ seen.Found → is_that number channel o ≡ true
  sent_that o e = go (is_that number channel o) e
    where
      go : (b : Bool) → pick b seen.Found seen.GoesOn ≡ seen.Found → b ≡ true
      go true e = refl
      go false e = let z : ◌≡◌ {A = ℕ} 0 1 = cc in absurd (omega arith)

  queue_that : (o : Outgoing) → in_queue number channel o ≡ seen.Found → is_that number channel o ≡ true
  queue_that o e = go (bit o.command.byte 7) (ltb o.attempts 1) e
    where
      go : (a b : Bool) → pick a (pick b seen.Ends (in_sent number channel o)) seen.GoesOn ≡ seen.Found → is_that number channel o ≡ true
      go true true e = let z : ◌≡◌ {A = ℕ} 0 1 = cc in absurd (omega arith)
      go true false e = sent_that o e
      go false b e = let z : ◌≡◌ {A = ℕ} 0 1 = cc in absurd (omega arith)

  abbrev pub Bears : Option ℕ → Type 0
  Bears (Some s) = is_that number channel (slot s) ≡ true
  Bears None = Unit {0}

  there : (f : ℕ → Seen) → ((s : ℕ) → f s ≡ seen.Found → is_that number channel (slot s) ≡ true) → (xs : List ℕ) (k : ℕ) → seek f 0 xs ≡ Some k
      → Bears (Some (get_or xs k 0))
  there f that xs k e =
      let h = seek_here f xs 0 k e in
      let z : k ≡ h.place = omega (arith, h.is) in
      rw z (that (get_or xs h.place 0) h.this)

  pub found_bears : (l : Lists) → Bears (slot_at (spot_of slots number channel l) l)
  found_bears l =
      go (seek sent 0 (out_items l.sent)) refl (seek queued 0 (out_items l.outgoing)) refl (seek queued 0 (out_items l.send_reliable)) refl
    where
      sent : ℕ → Seen
      sent s = in_sent number channel (slot s)

      queued : ℕ → Seen
      queued s = in_queue number channel (slot s)

      go : (a : Option ℕ) → seek sent 0 (out_items l.sent) ≡ a → (b : Option ℕ) → seek queued 0 (out_items l.outgoing) ≡ b
          → (c : Option ℕ) → seek queued 0 (out_items l.send_reliable) ≡ c
          → Bears (slot_at (or_else a out.Sent (or_else b out.Outgoing (or_else c out.Reliable None))) l)
      go (Some k) p b q c r = there sent (λ s. sent_that (slot s)) (out_items l.sent) k p
      go None p (Some k) q c r = there queued (λ s. queue_that (slot s)) (out_items l.outgoing) k q
      go None p None q (Some k) r = there queued (λ s. queue_that (slot s)) (out_items l.send_reliable) k r
      go None p None q None r = tt
