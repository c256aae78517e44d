-- The test in the order in which the code asks is the rule's: the ranges, the outgoing half, the incoming half.
-- The argument: by the slots' grades (`grade_sound_lem`), then the rule's tests regrouped.
use Prim.Native.Nat.{ℕ, ◌≤◌}
use mathlib.Core.Path.{◌≡◌, ap, sym, ◌∙◌}
use mathlib.Core.Bool.{Bool, true}
use mathlib.Core.List.{List, map}
use lib.Dec.{leb}
use lib.ListN.{get_or, replicate}
use borrow.Author.Tests.{leb-true}
use Rattle.numbers.specs.Pick.{both}
use Rattle.numbers.specs.Limits.{mtu_fits}
use Rattle.numbers.proofs.BoolLaws.{both_right, both_assoc}
use Rattle.record.specs.Lists.{outgoing, incoming}
use Rattle.record.specs.Damage.{below, ranged, held_fit, in_sound}
use Rattle.damage.proofs.WalkLaws.{middle}
use Rattle.damage.specs.CodeOutWalks.{out_pass, slot_grade, grade_passes}
use Rattle.damage.proofs.PoolLaws.{grade_sound_lem}
use Rattle.peer.specs.Damage.{sound}
use Rattle.peer.specs.declared.Peer.{Peer}
use Rattle.places.specs.Whole.{whole}
use Rattle.gate.specs.CodeHalves.{out_side, in_side}
use Rattle.gate.proofs.Groups.{mtu_is, count_is}

halves : (s t o d h p i : Bool) → both (both (both s (both t (both o d))) h) (both p i) ≡ both (both (both s (both t o)) p) (both (both d h) i)
halves s t o d h p i =
    ap (λ (b : Bool). both (both b h) (both p i)) (sym (both_assoc s (both t o) d ∙ ap (both s) (both_assoc t o d)))
    ∙ ap (λ (b : Bool). both b (both p i)) (both_assoc (both s (both t o)) d h)
    ∙ middle (both s (both t o)) (both d h) p i

sound_is : (p : Peer) → sound p ≡ both (ranged p.flow.mtu p.standing.channels) (both (out_side p.standing.channels p) (in_side p.standing.channels p))
unfolding sound
sound_is p =
    let count = p.standing.channels in
    let now = below p.channels count in
    sym (grade_sound_lem p.flow.mtu count p.waiting.total p.lists p.channels p.outgoing p.incoming p.marks)
    ∙ ap (both (ranged p.flow.mtu count))
    (halves (leb p.lists.sent.len outgoing) (leb p.lists.send_reliable.len outgoing) (leb p.lists.outgoing.len outgoing)
    (leb p.lists.dispatched.len incoming) (held_fit now) (out_pass (grade_passes (map (slot_grade count) p.outgoing)) p.lists 3 0 (replicate outgoing 0))
    (in_sound p.marks p.incoming p.lists now count p.waiting.total))

-- by the record's numbers
pub sound_at : (ws : List ℕ) → sound (whole ws) ≡ both (ranged (get_or ws 39 0) (get_or ws 6 0)) (both (out_side (get_or ws 6 0) (whole ws)) (in_side (get_or ws 6 0) (whole ws)))
sound_at ws =
    let p = whole ws in
    let count = p.standing.channels in
    sound_is p
    ∙ ap (λ (x : ℕ). both (ranged x count) (both (out_side count p) (in_side count p))) (mtu_is ws)
    ∙ ap (λ (n : ℕ). both (ranged (get_or ws 39 0) n) (both (out_side n p) (in_side n p))) (count_is ws)

pub count_low : (mtu count : ℕ) → ranged mtu count ≡ true → count ≤ 8
count_low mtu count e = leb-true count 8 (both_right (mtu_fits mtu) (leb count 8) e)
