-- Each pool is sound when the walks over its lists, one after another from no marks, get to their ends.
-- The argument: the walks are one walk over all the slots that the lists name, with the tests of each list beside it.
use Prim.Native.Nat.{ℕ, zero, suc, ◌+◌, ◌-◌}
use mathlib.Core.Path.{◌≡◌, refl, ap, sym, ◌∙◌}
use mathlib.Core.List.{List, [], ◌∷◌, ◌++◌, map}
use mathlib.Core.Bool.{Bool, true, false}
use lib.Dec.{eqb}
use lib.ListN.{get_or, set, replicate, get_or-map}
use Rattle.numbers.proofs.BoolLaws.{both_with_true}
use Rattle.numbers.specs.Pick.{pick, both}
use Rattle.cells.specs.Free.{exist, once, marked_all}
use Rattle.record.specs.Lists.{outgoing, out_items}
use Rattle.record.specs.declared.groups.Lists.{Lists}
use Rattle.record.specs.declared.groups.Channel.{Channel}
use Rattle.record.specs.declared.groups.Outgoing.{Outgoing}
use Rattle.record.specs.declared.groups.Incoming.{Incoming}
use Rattle.record.specs.declared.groups.Marks.{Marks}
use Rattle.record.specs.Damage.{all, out_fit, tried, below, ranged, lists_fit, held_fit, out_sound, in_sound, parts_sound}
use Rattle.record.specs.Fresh.{no_outgoing}
use Rattle.damage.specs.CodeInWalks.{passes}
use Rattle.damage.specs.CodeOutWalks.{out_passes, list_at, out_pass, slot_grade, enough, grade_passes, grade_sound}
use Rattle.damage.proofs.WalkLaws.{any, middle, pass_append, pass_one, pass_two, all_append, new_rule}

-- Bool algebra
right : (d t y : Bool) → both (both d t) y ≡ both (both d y) t
right false t y = refl
right true true true = refl
right true true false = refl
right true false true = refl
right true false false = refl

join : (a b c d e f t : Bool) → both (both a (both d t)) (both (both b e) (both c f)) ≡ both (both a (both b c)) (both (both d (both e f)) t)
join a b c d e f t =
    ap (λ (w : Bool). both (both a (both d t)) w) (middle b e c f)
    ∙ middle a (both d t) (both b c) (both e f)
    ∙ ap (λ (w : Bool). both (both a (both b c)) w) (right d t (both e f))

-- three lists, the first with a test more
three : (n : ℕ) (f t : ℕ → Bool) (xs ys zs : List ℕ)
    → both (passes (λ (s : ℕ). both (f s) (t s)) (replicate n 0) xs)
    (both (passes (λ (s : ℕ). both (f s) true) (marked_all (replicate n 0) xs) ys)
    (passes (λ (s : ℕ). both (f s) true) (marked_all (marked_all (replicate n 0) xs) ys) zs))
    ≡ both (both (exist n (xs ++ (ys ++ zs))) (once (xs ++ (ys ++ zs)))) (both (all f (xs ++ (ys ++ zs))) (all t xs))
three n f t xs ys zs =
    let m : List ℕ = replicate n 0 in
    rw (
      pass_two f t m xs,
      pass_one f (marked_all m xs) ys,
      pass_one f (marked_all (marked_all m xs) ys) zs,
      ← new_rule n (xs ++ (ys ++ zs)),
      pass_append any m xs (ys ++ zs),
      pass_append any (marked_all m xs) ys zs,
      all_append f xs (ys ++ zs),
      all_append f ys zs,
    )
    (join (passes any m xs) (passes any (marked_all m xs) ys) (passes any (marked_all (marked_all m xs) ys) zs) (all f xs) (all f ys) (all f zs) (all t xs))

out_is : (slots : List Outgoing) (l : Lists) (count : ℕ) → out_sound slots l count ≡ out_pass (out_passes slots count) l 3 0 (replicate outgoing 0)
unfolding out_pass
out_is slots l count =
    let m : List ℕ = replicate outgoing 0 in
    let third = passes (out_passes slots count false) (marked_all (marked_all m (out_items l.sent)) (out_items l.send_reliable)) (out_items l.outgoing) in
    sym (three outgoing (out_fit slots count) (tried slots) (out_items l.sent) (out_items l.send_reliable) (out_items l.outgoing))
    ∙ rw (both_with_true third)

-- tests that agree at every slot make the same walks
module _ (f g : Bool → ℕ → Bool) (same : (b : Bool) (s : ℕ) → f b s ≡ g b s) where
  passes_same : (b : Bool) (m xs : List ℕ) → passes (f b) m xs ≡ passes (g b) m xs
  unfolding passes
  passes_same b m [] = refl
  passes_same b m (x ∷ xs) = rw (same b x, passes_same b (set m x 1) xs)

  out_same : (l : Lists) (n k : ℕ) (m : List ℕ) → out_pass f l n k m ≡ out_pass g l n k m
  unfolding out_pass
  out_same l zero k m = refl
  out_same l (suc n) k m =
      rw (passes_same (eqb k 0) m (out_items (list_at l k)), out_same l n (k + 1) (marked_all m (out_items (list_at l k))))

-- what a slot is good for says whether it passes
grade_none : (count : ℕ) → slot_grade count no_outgoing ≡ 0
unfolding no_outgoing
grade_none count = refl

enough_is : (f t b : Bool) → enough (pick f (pick t 2 1) 0) b ≡ both f (pick b t true)
enough_is true true true = refl
enough_is true true false = refl
enough_is true false true = refl
enough_is true false false = refl
enough_is false t true = refl
enough_is false t false = refl

pub slot_grade_at : (slots : List Outgoing) (count s : ℕ) → get_or (map (slot_grade count) slots) s 0 ≡ slot_grade count (get_or slots s no_outgoing)
slot_grade_at slots count s =
    ap (λ (d : ℕ). get_or (map (slot_grade count) slots) s d) (sym (grade_none count)) ∙ get_or-map (slot_grade count) slots s no_outgoing

grade_passes_lem : (slots : List Outgoing) (count : ℕ) (b : Bool) (s : ℕ)
    → grade_passes (map (slot_grade count) slots) b s ≡ out_passes slots count b s
grade_passes_lem slots count b s =
    let o = get_or slots s no_outgoing in
    ap (λ (w : ℕ). enough w b) (slot_grade_at slots count s) ∙ enough_is (out_fit (o ∷ []) count 0) (tried (o ∷ []) 0) b

pub grade_sound_lem : (mtu count total : ℕ) (l : Lists) (cs : List Channel) (out : List Outgoing) (inn : List Incoming) (m : Marks)
    → grade_sound mtu count total l cs (map (slot_grade count) out) inn m ≡ parts_sound mtu count total l cs out inn m
grade_sound_lem mtu count total l cs out inn m =
    let e = out_same (grade_passes (map (slot_grade count) out)) (out_passes out count) (grade_passes_lem out count) l 3 0 (replicate outgoing 0) ∙ sym (out_is out l count) in
    ap (λ (b : Bool). both (ranged mtu count) (both (both (lists_fit l) (held_fit (below cs count))) (both b (in_sound m inn l (below cs count) count total)))) e
