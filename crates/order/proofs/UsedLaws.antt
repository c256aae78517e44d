-- Which slots the lists name: the turns and the ends of the loops over a list and over the channels; two lists one after the other.
-- The argument: the definition on the whole is the definition on what is left.
use Prim.Native.Nat.{ℕ, zero, suc, ◌+◌, ◌-◌, ◌*◌, ◌≤◌, ◌<◌, min}
use mathlib.Core.Path.{◌≡◌, refl, sym, ap, ◌∙◌}
use mathlib.Core.Bool.{Bool, true, false, ◌||◌}
use mathlib.Core.List.{List, [], ◌∷◌, ◌++◌, map}
use lib.ListN.{length, get_or, take, drop, length-take}
use lib.Seq.{take-take}
use lib.Dec.{eqb}
use native.Mathlib.Omega.{arith}
use Rattle.std.specs.List.{list_any, between}
use Rattle.lists.proofs.Placed.{items_are, items_length}
use Rattle.lists.proofs.Mapped.{map-take}
use Rattle.numbers.specs.Pick.{pick}
use Rattle.cells.specs.Runs.{has}
use Rattle.cells.proofs.Views.{rest_end, part_step}
use Rattle.lists.specs.Rows.{low, section, row_at, items_of}
use Rattle.record.specs.Damage.{below, held}
use Rattle.record.specs.Lists.{in_items}
use Rattle.record.specs.declared.groups.Channel.{Channel}
use Rattle.record.specs.declared.incoming.InList.{InList}
use Rattle.record.proofs.Keeps.{has_append}
use Rattle.places.specs.Whole.{sizes, numbers, parts, made, whole}
use Rattle.places.specs.Updates.{channel_at}
use Rattle.places.proofs.ChannelLaws.{held_is}
use Rattle.order.specs.Table.{used_outgoing, used_incoming}

-- ---- in one list
or_pick : (b t : Bool) → (b || t) ≡ pick b true t
or_pick true t = refl
or_pick false t = refl

has_any : (xs : List ℕ) (s : ℕ) → list_any (λ x. eqb (low x) s) xs ≡ has (map low xs) s
has_any [] s = refl
has_any (x ∷ xs) s = ap (λ (b : Bool). eqb (low x) s || b) (has_any xs s) ∙ or_pick (eqb (low x) s) (has (map low xs) s)

take_length : (xs : List ℕ) (v : ℕ) → take (length (take v xs)) xs ≡ take v xs
take_length xs zero = refl
take_length [] (suc v) = refl
take_length (x ∷ xs) (suc v) = ap (λ (l : List ℕ). x ∷ l) (take_length xs v)

-- its cells up to the length
pub names_any : (ws : List ℕ) (at size n s : ℕ) → at + size + 1 ≤ length ws → n ≡ length (items_of (row_at at size ws))
    → list_any (λ x. eqb (low x) s) (between (at + 1) (at + 1 + n) ws) ≡ has (items_of (row_at at size ws)) s
names_any ws at size n s h e =
    let cells : List ℕ = section (at + 1) size ws in
    let v : ℕ = low (get_or ws at 0) in
    let few : n ≡ min v size = e ∙ items_length ws at size h in
    let some : at + 1 + n - (at + 1) ≡ n = omega arith in
    let part : take n cells ≡ between (at + 1) (at + 1 + n) ws = take-take n size (drop (at + 1) ws) (omega arith) ∙ ap (λ (k : ℕ). take k (drop (at + 1) ws)) (sym some) in
    let items : map low (take n cells) ≡ items_of (row_at at size ws) =
    map-take low n cells
    ∙ ap (λ (k : ℕ). take k (map low cells)) (e ∙ ap length (items_are ws at size h))
    ∙ take_length (map low cells) v
    ∙ sym (items_are ws at size h)
    in
    has_any (between (at + 1) (at + 1 + n) ws) s ∙ ap (λ (l : List ℕ). has (map low l) s) (sym part) ∙ ap (λ (l : List ℕ). has l s) items

-- ---- in one of two
module _ (xs ys : List ℕ) (s : ℕ) where
  pub has_left : has xs s ≡ true → has (xs ++ ys) s ≡ true
  has_left e = rw (has_append xs ys s, e)

  pub has_right : has xs s ≡ false → has (xs ++ ys) s ≡ has ys s
  has_right e = rw (has_append xs ys s, e)

-- ---- in the lists of channels
module _ (cs : List Channel) (n k s : ℕ) (d : Channel) (p : k < n) (q : k < length cs) where
  pub held_hit : has (in_items (get_or cs k d).held) s ≡ true → has (held (drop k (take n cs))) s ≡ true
  unfolding held
  held_hit e = rw (part_step cs k n d p q) (has_left (in_items (get_or cs k d).held) (held (drop (k + 1) (take n cs))) s e)

  pub held_miss : has (in_items (get_or cs k d).held) s ≡ false → has (held (drop k (take n cs))) s ≡ has (held (drop (k + 1) (take n cs))) s
  unfolding held
  held_miss e = rw (part_step cs k n d p q) (has_right (in_items (get_or cs k d).held) (held (drop (k + 1) (take n cs))) s e)

pub held_end : (cs : List Channel) (n k s : ℕ) → min n (length cs) ≤ k → has (held (drop k (take n cs))) s ≡ false
unfolding held
held_end cs n k s h = rw (rest_end (take n cs) k (rw (length-take) h))

-- ---- of the lent record
module _ (ws : List ℕ) (s : ℕ) where
  pub used_out_lem : used_outgoing (whole ws) s ≡ pick (has (items_of (row_at 43 32 ws)) s) true (pick (has (items_of (row_at 76 32 ws)) s) true (has (items_of (row_at 109 32 ws)) s))
  unfolding made parts numbers sizes
  used_out_lem =
      let a = items_of (row_at 43 32 ws) in
      let b = items_of (row_at 76 32 ws) in
      let c = items_of (row_at 109 32 ws) in
      has_append a (b ++ c) s ∙ ap (λ (t : Bool). pick (has a s) true t) (has_append b c s)

  pub used_in : used_incoming (whole ws) s ≡ pick (has (items_of (row_at 142 12 ws)) s) true (has (held (below (whole ws).channels (whole ws).standing.channels)) s)
  unfolding made parts numbers sizes
  used_in = has_append (items_of (row_at 142 12 ws)) (held (below (whole ws).channels (whole ws).standing.channels)) s

  -- in channel c's list
  pub held_at : (c : ℕ) → c < 8 → length ws ≡ 1236 → has (in_items (channel_at (whole ws) c).held) s ≡ has (items_of (row_at (194 + c * 17 + 4) 12 ws)) s
  held_at c h l = ap (λ (i : InList). has (in_items i) s) (held_is ws c h l)
