-- What the test reads of the record is where the numbers have it. The argument: the parts computed.
use Prim.Native.Nat.{ℕ, ◌+◌, ◌*◌, ◌<◌}
use mathlib.Core.Path.{◌≡◌, refl, ap, sym, ◌∙◌}
use mathlib.Core.List.{List}
use native.Mathlib.Omega.{arith}
use lib.ListN.{get_or}
use Rattle.lists.specs.Rows.{section, row_at}
use Rattle.record.specs.Fresh.{no_incoming}
use Rattle.record.specs.declared.groups.Lists.{Lists}
use Rattle.record.specs.declared.groups.Incoming.{Incoming}
use Rattle.pool.specs.Rows.{row_at as row}
use Rattle.pool.specs.Slots.{in_slot_from}
use Rattle.pool.proofs.Rows.{rows_at, row_at_lem}
use Rattle.places.specs.Whole.{made, parts, numbers, sizes, whole, out_list_from, in_list_from}
use Rattle.places.proofs.Sections.{section_number}
use Rattle.places.proofs.PoolLaws.{in_pool_is}

module _ (ws : List ℕ) where
  pub mtu_is : (whole ws).flow.mtu ≡ get_or ws 39 0
  unfolding made parts numbers sizes
  mtu_is = refl

  pub count_is : (whole ws).standing.channels ≡ get_or ws 6 0
  unfolding made parts numbers sizes
  count_is = refl

  -- the lists by their rows
  pub lists_are : (whole ws).lists ≡ record { sent = out_list_from (row_at 43 32 ws); send_reliable = out_list_from (row_at 76 32 ws); outgoing = out_list_from (row_at 109 32 ws); dispatched = in_list_from (row_at 142 12 ws) }
  unfolding made parts numbers sizes
  lists_are = refl

  pub dispatched_is : (whole ws).lists.dispatched ≡ in_list_from (row_at 142 12 ws)
  dispatched_is = ap (λ (l : Lists). l.dispatched) lists_are

  pub total_is : (whole ws).waiting.total ≡ get_or ws 192 0
  unfolding made parts numbers sizes
  total_is = refl

  -- incoming slot s, and its number j
  module _ (s : ℕ) (h : s < 12) where
    slot_is : get_or (whole ws).incoming s no_incoming ≡ in_slot_from (row 6 (section 1162 72 ws) s)
    slot_is = ap (λ (l : List Incoming). get_or l s no_incoming) (in_pool_is ws) ∙ rows_at in_slot_from 6 12 (section 1162 72 ws) s no_incoming h

    number_is : (j : ℕ) → j < 6 → get_or (row 6 (section 1162 72 ws) s) j 0 ≡ get_or ws (1162 + s * 6 + j) 0
    number_is j b =
        row_at_lem 6 (section 1162 72 ws) s j b
        ∙ section_number 1162 72 (s * 6 + j) ws (omega arith)
        ∙ ap (λ (k : ℕ). get_or ws k 0) (omega arith)

    pub length_is : get_or ws (1162 + s * 6 + 5) 0 ≡ (get_or (whole ws).incoming s no_incoming).length
    unfolding in_slot_from
    length_is = sym (ap (λ (i : Incoming). i.length) slot_is ∙ number_is 5 (omega arith))

    pub fragments_is : get_or ws (1162 + s * 6 + 3) 0 ≡ (get_or (whole ws).incoming s no_incoming).fragments
    unfolding in_slot_from
    fragments_is = sym (ap (λ (i : Incoming). i.fragments) slot_is ∙ number_is 3 (omega arith))
