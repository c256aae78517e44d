-- For functions inside the house alone: what each walk over a list answers, that every slot exists, has no mark yet and passes a test,
-- and is marked then. Nothing here need be believed: `grade_sound_lem` in proofs/PoolLaws gives the rule back.
use Rattle.std.specs.Prelude.{ℕ, zero, suc, ◌+◌, Bool, true, List, [], ◌∷◌, leb, eqb, get_or, replicate}
use Rattle.numbers.specs.Pick.{pick, both}
use Rattle.cells.specs.Free.{marked_all}
use Rattle.record.specs.Lists.{outgoing, out_items}
use Rattle.record.specs.declared.outgoing.OutList.{OutList}
use Rattle.record.specs.declared.groups.Lists.{Lists}
use Rattle.record.specs.declared.groups.Channel.{Channel}
use Rattle.record.specs.declared.groups.Outgoing.{Outgoing}
use Rattle.record.specs.declared.groups.Incoming.{Incoming}
use Rattle.record.specs.declared.groups.Marks.{Marks}
use Rattle.damage.specs.CodeInWalks.{passes}
use Rattle.record.specs.Fresh.{no_outgoing}
use Rattle.record.specs.Damage.{below, ranged, lists_fit, held_fit, out_fit, tried, in_sound}

-- the rule's tests of one slot, which is a pool by itself here
abbrev pub out_test : ℕ → Bool → Outgoing → Bool
out_test count sent o = both (out_fit (o ∷ []) count 0) (pick sent (tried (o ∷ []) 0) true)

-- and of slot s of a pool; a slot of the sent list is tried too, one of channel k's own list has that channel
abbrev pub out_passes : List Outgoing → ℕ → Bool → ℕ → Bool
out_passes slots count sent s = out_test count sent (get_or slots s no_outgoing)

-- the lists of the outgoing pool in their order, and the walks over n of them from list k on, each from the marks of those before it
abbrev pub list_at : Lists → ℕ → OutList
list_at l k = pick (eqb k 0) l.sent (pick (eqb k 1) l.send_reliable l.outgoing)

unfoldable pub out_pass : (Bool → ℕ → Bool) → Lists → ℕ → ℕ → List ℕ → Bool
out_pass f l zero k m = true
out_pass f l (suc n) k m =
    both (passes (f (eqb k 0)) m (out_items (list_at l k))) (out_pass f l n (k + 1) (marked_all m (out_items (list_at l k))))

-- what a slot is good for: nothing, a list, the sent list too
abbrev pub slot_grade : ℕ → Outgoing → ℕ
slot_grade count o = pick (out_fit (o ∷ []) count 0) (pick (tried (o ∷ []) 0) 2 1) 0

abbrev pub enough : ℕ → Bool → Bool
enough w sent = pick sent (leb 2 w) (leb 1 w)

abbrev pub grade_passes : List ℕ → Bool → ℕ → Bool
grade_passes ws sent s = enough (get_or ws s 0) sent

-- "Damaged means", turned round, with what each slot of the outgoing pool is good for in the pool's place
abbrev pub grade_sound : ℕ → ℕ → ℕ → Lists → List Channel → List ℕ → List Incoming → Marks → Bool
grade_sound mtu count total lists cs ws inn m =
    let now = below cs count in
    both (ranged mtu count)
    (both (both (lists_fit lists) (held_fit now))
    (both (out_pass (grade_passes ws) lists 3 0 (replicate outgoing 0)) (in_sound m inn lists now count total)))
