-- The pools of the record: the slots of their own numbers, and the record after the numbers of a pool were lent and came back.
-- The argument: the parts computed; what comes back is a paste, and a paste of a whole part is `row_put`.
use Prim.Native.Nat.{ℕ}
use mathlib.Core.Path.{◌≡◌, refl, ap, sym, ◌∙◌}
use mathlib.Core.List.{List}
use native.Mathlib.Omega.{arith}
use lib.ListN.{length}
use lib.Seq.{paste}
use borrow.Rule.Slice.PartMut.{put_mid}
use Rattle.lists.specs.Rows.{section}
use Rattle.record.specs.declared.groups.Outgoing.{Outgoing}
use Rattle.record.specs.declared.groups.Incoming.{Incoming}
use Rattle.pool.specs.Slots.{slots_of, in_slots_of}
use Rattle.peer.specs.Updates.{with_outgoing}
use Rattle.places.specs.Whole.{sizes, numbers, parts, made, whole}
use Rattle.places.specs.Updates.{with_incoming}
use Rattle.places.proofs.Sections.{part_back}
use Rattle.places.proofs.Written.{place, row_put}

pub pool_is : (ws : List ℕ) → (whole ws).outgoing ≡ slots_of (section 330 832 ws)
unfolding made parts numbers sizes
pool_is ws = refl

pub in_pool_is : (ws : List ℕ) → (whole ws).incoming ≡ in_slots_of (section 1162 72 ws)
unfolding made parts numbers sizes
in_pool_is ws = refl

module _ (ws row : List ℕ) (l : length ws ≡ 1236) where
  pub put_pool : length row ≡ 832 → whole (paste ws 330 row 832) ≡ with_outgoing (whole ws) (slots_of row)
  unfolding made parts numbers sizes place
  put_pool m = row_put ws 9 330 832 row l (omega arith) refl refl (omega arith) m

  pub put_in_pool : length row ≡ 72 → whole (paste ws 1162 row 72) ≡ with_incoming (whole ws) (in_slots_of row)
  unfolding made parts numbers sizes place
  put_in_pool m = row_put ws 10 1162 72 row l (omega arith) refl refl (omega arith) m

  -- lent, and changed by f
  pub pool_back : (f : List Outgoing → List Outgoing) → length row ≡ 832 → slots_of row ≡ f (slots_of (section 330 832 ws)) → whole (put_mid 330 832 ws row) ≡ with_outgoing (whole ws) (f (whole ws).outgoing)
  pool_back f m e =
      ap whole (part_back ws row 330 832 (omega arith) m) ∙ put_pool m ∙ ap (with_outgoing (whole ws)) (e ∙ ap f (sym (pool_is ws)))

  pub in_pool_back : (f : List Incoming → List Incoming) → length row ≡ 72 → in_slots_of row ≡ f (in_slots_of (section 1162 72 ws)) → whole (put_mid 1162 72 ws row) ≡ with_incoming (whole ws) (f (whole ws).incoming)
  in_pool_back f m e =
      ap whole (part_back ws row 1162 72 (omega arith) m) ∙ put_in_pool m ∙ ap (with_incoming (whole ws)) (e ∙ ap f (sym (in_pool_is ws)))
