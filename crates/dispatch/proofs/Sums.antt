-- A prefix that moves from a channel's list to dispatched leaves every sum over the slots named as it was: how often a slot is named, how
-- many slots are, their lengths. The argument: each of these adds up over lists joined, and the prefix and the rest are the list.
use Rattle.std.proofs.Common.{◌≡◌, ℕ, zero, suc, ◌+◌, ◌<◌, ◌≤◌, Bool, true, false, leb, List, [], ◌∷◌, ◌++◌, length, get_or, take, drop, set, sym, refl, ap, ◌∙◌, le_of_suc-le-suc, not-suc-le-zero, arith, take-append-drop}
use Rattle.numbers.specs.Pick.{pick}
use Rattle.record.specs.Lists.{incoming, in_items}
use Rattle.cells.specs.Runs.{moved_from, moved_to}
use Rattle.record.specs.Fresh.{no_channel}
use Rattle.record.specs.Damage.{held, used_in}
use Rattle.record.specs.declared.groups.Lists.{Lists}
use Rattle.record.specs.declared.groups.Channel.{Channel}

-- m are the lists, and new is channel i of cs, once the first k of its list went where there is room
pub record Moves (l : Lists) (cs : List Channel) (i k : ℕ) (m : Lists) (new : Channel) : Type 0 where
  pub here : i < length cs
  pub from : in_items new.held ≡ moved_from incoming k (in_items (get_or cs i no_channel).held) (in_items l.dispatched)
  pub to : in_items m.dispatched ≡ moved_to incoming k (in_items (get_or cs i no_channel).held) (in_items l.dispatched)

module _ (f : List ℕ → ℕ) (adds : (xs ys : List ℕ) → f (xs ++ ys) ≡ f xs + f ys) where
  -- one channel of all
  pub held-set : (cs : List Channel) (i : ℕ) (new d : Channel) → i < length cs
      → f (held (set cs i new)) + f (in_items (get_or cs i d).held) ≡ f (held cs) + f (in_items new.held)
  unfolding held
  held-set [] i new d h = absurd (not-suc-le-zero h)
  held-set (c ∷ cs) zero new d h = omega (arith, adds (in_items new.held) (held cs), adds (in_items c.held) (held cs))
  held-set (c ∷ cs) (suc i) new d h =
      omega (
        arith,
        adds (in_items c.held) (held (set cs i new)),
        adds (in_items c.held) (held cs),
        held-set cs i new d (le_of_suc-le-suc h),
      )

  pub held_within : (cs : List Channel) (i : ℕ) (d : Channel) → i < length cs → f (in_items (get_or cs i d).held) ≤ f (held cs)
  unfolding held
  held_within [] i d h = absurd (not-suc-le-zero h)
  held_within (c ∷ cs) zero d h = omega (arith, adds (in_items c.held) (held cs))
  held_within (c ∷ cs) (suc i) d h =
      omega (arith, adds (in_items c.held) (held cs), held_within cs i d (le_of_suc-le-suc h))

  cut : (k : ℕ) (xs : List ℕ) → f (take k xs) + f (drop k xs) ≡ f xs
  cut k xs = sym (adds (take k xs) (drop k xs)) ∙ ap f (take-append-drop k xs)

  pub moved_sum : (n k : ℕ) (xs ys : List ℕ) → f (moved_from n k xs ys) + f (moved_to n k xs ys) ≡ f xs + f ys
  moved_sum n k xs ys = go (leb (length ys + length (take k xs)) n)
    where
      go : (b : Bool) → f (pick b (drop k xs) xs) + f (pick b (ys ++ take k xs) ys) ≡ f xs + f ys
      go true = omega (arith, adds ys (take k xs), cut k xs)
      go false = refl

  moved_less : (n k : ℕ) (xs ys : List ℕ) → f (moved_from n k xs ys) ≤ f xs
  moved_less n k xs ys = go (leb (length ys + length (take k xs)) n)
    where
      go : (b : Bool) → f (pick b (drop k xs) xs) ≤ f xs
      go true = omega (arith, cut k xs)
      go false = omega arith

  module _ (l : Lists) (cs : List Channel) (i k : ℕ) (m : Lists) (new : Channel) (w : Moves l cs i k m new) where
    pub used_same : f (used_in m (set cs i new)) ≡ f (used_in l cs)
    used_same =
        omega (
          arith,
          adds (in_items m.dispatched) (held (set cs i new)),
          adds (in_items l.dispatched) (held cs),
          held-set cs i new no_channel w.here,
          moved_sum incoming k (in_items (get_or cs i no_channel).held) (in_items l.dispatched),
          ap f w.from,
          ap f w.to,
        )

    -- what stays in the channel's list stood there before
    pub left_less : f (in_items new.held) ≤ f (in_items (get_or cs i no_channel).held)
    left_less =
        omega (arith, ap f w.from, moved_less incoming k (in_items (get_or cs i no_channel).held) (in_items l.dispatched))
