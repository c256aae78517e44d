-- C-12: "then stored bytes slot by slot": of each used incoming slot by rising number, the first so many bytes of its cell, a block's of the second store.
use Rattle.std.specs.Prelude.{ℕ, ◌+◌, ◌*◌, min, Bool, List, [], ◌∷◌, ◌++◌, take, drop}
use Rattle.std.proofs.lemmas.List.Edits.{sets}
use Rattle.numbers.specs.Pick.{pick}
use Rattle.record.specs.Sizes.{cell, second_length}
use Rattle.record.specs.Blocks.{is_block}
use Rattle.record.specs.declared.groups.Incoming.{Incoming}

-- "an incoming length above its limit [is followed] by its limit's bytes"
abbrev pub stored_length : Incoming → ℕ
stored_length i = min i.length (pick (is_block i) second_length cell)

-- the bytes of slot s
abbrev pub stored_bytes : List ℕ → List ℕ → ℕ → Incoming → List ℕ
stored_bytes store second s i = take (stored_length i) (pick (is_block i) second (drop (s * cell) store))

-- of the slots from s on, how many there are
unfoldable pub stored_total : (ℕ → Bool) → ℕ → List Incoming → ℕ
stored_total used s [] = 0
stored_total used s (i ∷ is) = pick (used s) (stored_length i) 0 + stored_total used (s + 1) is

unfoldable pub stored_from : (ℕ → Bool) → List ℕ → List ℕ → ℕ → List Incoming → List ℕ
stored_from used store second s [] = []
stored_from used store second s (i ∷ is) = pick (used s) (stored_bytes store second s i) [] ++ stored_from used store second (s + 1) is

-- read back: both stores with the bytes of the slots from s on in their places
pub record Stores : Type 0 where
  pub store : List ℕ
  pub second : List ℕ

abbrev pub stores : List ℕ → List ℕ → Stores
stores store second = record { store = store; second = second }

abbrev pub laid_one : ℕ → Incoming → List ℕ → Stores → Stores
laid_one s i bs y =
    pick (is_block i)
    (record { store = y.store; second = sets y.second 0 bs })
    (record { store = sets y.store (s * cell) bs; second = y.second })

unfoldable pub laid_from : (ℕ → Bool) → ℕ → List Incoming → List ℕ → Stores → Stores
laid_from used s [] bs y = y
laid_from used s (i ∷ is) bs y =
    pick (used s)
    (laid_from used (s + 1) is (drop (stored_length i) bs) (laid_one s i (take (stored_length i) bs) y))
    (laid_from used (s + 1) is bs y)
