-- The unsequenced window's words with the flags and groups beside them: the words copied out, and the record after all were written.
-- The argument: the words are a row, the four numbers stand one by one; each write computes.
use Prim.Native.Nat.{ℕ, ◌<◌}
use mathlib.Core.Path.{◌≡◌, refl, ap, ◌∙◌}
use mathlib.Core.List.{List, [], ◌∷◌}
use native.Mathlib.Omega.{arith}
use lib.ListN.{length, drop, replicate}
use lib.Seq.{paste, sets}
use Rattle.record.specs.declared.groups.Unsequenced.{Unsequenced}
use Rattle.lists.specs.Rows.{section}
use Rattle.record.specs.Updates.{with_window}
use Rattle.peer.specs.Updates.{with_unsequenced}
use Rattle.peer.specs.declared.Peer.{Peer}
use Rattle.pool.proofs.Copies.{paste_over}
use Rattle.places.specs.Whole.{sizes, numbers, parts, made, whole}
use Rattle.places.proofs.GroupLaws.{low}
use Rattle.places.proofs.Written.{place, numbers_put, row_put}

-- the words, copied over an array's
pub words_are : (ws w : List ℕ) → w ≡ paste (replicate 32 0) 0 (drop 159 ws) 32 → w ≡ section 159 32 ws
words_are ws w e = e ∙ paste_over (replicate 32 0) (drop 159 ws) 32 refl

module _ (ws : List ℕ) (l : length ws ≡ 1236) where
  pub put_words_lem : (row : List ℕ) → length row ≡ 32 → whole (paste ws 159 row 32) ≡ with_unsequenced (whole ws) (with_window (whole ws).unsequenced (whole ws).unsequenced.incoming row)
  unfolding made parts numbers sizes place
  put_words_lem row m = row_put ws 6 159 32 row l (omega arith) refl refl (omega arith) m

  module _ (x : Unsequenced) (f v i o : ℕ) (ef : f ≡ x.flags) (hf : x.flags < 65536) (ev : v ≡ x.reserved) (hv : x.reserved < 65536) (ei : i ≡ x.incoming.0) (hi : x.incoming.0 < 65536) (eo : o ≡ x.outgoing.0) (ho : x.outgoing.0 < 65536) where
    put_four : whole (sets ws 155 (f ∷ v ∷ i ∷ o ∷ [])) ≡ with_unsequenced (whole ws) (with_window x x.incoming (whole ws).unsequenced.words)
    unfolding made parts numbers sizes place
    put_four =
        numbers_put ws 5 4 0 155 (f ∷ v ∷ i ∷ o ∷ []) l (omega arith) refl refl (omega arith) (omega arith)
        ∙ rw (low f x.flags ef hf, low v x.reserved ev hv, low i x.incoming.0 ei hi, low o x.outgoing.0 eo ho)

    -- the numbers, then the words
    pub put_unsequenced_lem : (p : Peer) → p ≡ with_unsequenced (whole (sets ws 155 (f ∷ v ∷ i ∷ o ∷ []))) (with_window (whole (sets ws 155 (f ∷ v ∷ i ∷ o ∷ []))).unsequenced (whole (sets ws 155 (f ∷ v ∷ i ∷ o ∷ []))).unsequenced.incoming x.words) → p ≡ with_unsequenced (whole ws) x
    put_unsequenced_lem p e = e ∙ ap (λ (q : Peer). with_unsequenced q (with_window q.unsequenced q.unsequenced.incoming x.words)) put_four
