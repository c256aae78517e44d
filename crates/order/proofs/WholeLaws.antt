-- The table of the lent record, part by part, and that it has 1,236 places.
-- The argument: each part has its length, so a place before a seam is the first part's and one past it the rest's.
use Prim.Native.Nat.{ℕ, zero, suc, ◌+◌, ◌*◌, ◌-◌, ◌/◌, ◌%◌, ◌≤◌, ◌<◌}
use mathlib.Core.Path.{◌≡◌, refl, ap, sym, ◌∙◌}
use mathlib.Core.Bool.{Bool}
use mathlib.Core.List.{List, [], ◌∷◌, ◌++◌}
use native.Mathlib.Nat.{div-add-mod'}
use native.Mathlib.Omega.{arith}
use lib.Dec.{ltb}
use lib.ListN.{length, get_or, length-append}
use Rattle.record.specs.Fresh.{no_channel, no_outgoing, no_incoming}
use Rattle.places.specs.Whole.{sizes, numbers, parts, made, whole}
use Rattle.places.specs.Updates.{channel_at}
use Rattle.places.proofs.Sized.{sized}
use Rattle.order.specs.Table.{nowhere, numbered, each_places, own_bits, own_row, group_bits, group_row, marks_row, channel_places, slot_places, in_slot_places, used_outgoing, used_incoming, lists_places, things_places, table}
use Rattle.order.specs.declared.Place.{Place}
use Rattle.order.proofs.TableLaws.{at_front, at_back, past_seam, each_length, each_place, numbered-length}
use Rattle.order.proofs.PartLaws.{list_at, places_length, channel_length, in_slot_length, group_length, own-length}
use Rattle.order.proofs.SlotLaws.{slot_length}

module _ (ws : List ℕ) (l : length ws ≡ 1236) where
  -- ---- the lists
  abbrev lists : List Place
  lists = lists_places (whole ws).lists

  abbrev four_lists : List Place
  four_lists = list_at 43 32 ws ++ (list_at 76 32 ws ++ (list_at 109 32 ws ++ list_at 142 12 ws))

  lists_are : lists ≡ four_lists
  unfolding made parts numbers sizes
  lists_are = refl

  sent_length : length (list_at 43 32 ws) ≡ 33
  sent_length = places_length ws 43 32 (omega arith)

  reliable_length : length (list_at 76 32 ws) ≡ 33
  reliable_length = places_length ws 76 32 (omega arith)

  outgoing-length : length (list_at 109 32 ws) ≡ 33
  outgoing-length = places_length ws 109 32 (omega arith)

  pub lists_length : length lists ≡ 112
  lists_length =
      let d : length (list_at 142 12 ws) ≡ 13 = places_length ws 142 12 (omega arith) in
      let c : length (list_at 109 32 ws ++ list_at 142 12 ws) ≡ 46 = length-append (list_at 109 32 ws) (list_at 142 12 ws) ∙ omega (arith, outgoing-length) in
      let b : length (list_at 76 32 ws ++ (list_at 109 32 ws ++ list_at 142 12 ws)) ≡ 79 = length-append (list_at 76 32 ws) (list_at 109 32 ws ++ list_at 142 12 ws) ∙ omega (arith, reliable_length) in
      ap length lists_are ∙ length-append (list_at 43 32 ws) (list_at 76 32 ws ++ (list_at 109 32 ws ++ list_at 142 12 ws)) ∙ omega (arith, sent_length)

  past_sent : (i : ℕ) → get_or four_lists (33 + i) nowhere ≡ get_or (list_at 76 32 ws ++ (list_at 109 32 ws ++ list_at 142 12 ws)) i nowhere
  past_sent i = at_back (list_at 43 32 ws) (list_at 76 32 ws ++ (list_at 109 32 ws ++ list_at 142 12 ws)) nowhere 33 sent_length i

  past_reliable : (i : ℕ) → get_or four_lists (33 + (33 + i)) nowhere ≡ get_or (list_at 109 32 ws ++ list_at 142 12 ws) i nowhere
  past_reliable i = past_sent (33 + i) ∙ at_back (list_at 76 32 ws) (list_at 109 32 ws ++ list_at 142 12 ws) nowhere 33 reliable_length i

  three : (q r : ℕ) → q < 3 → r < 33 → get_or four_lists (q * 33 + r) nowhere ≡ get_or (list_at (43 + q * 33) 32 ws) r nowhere
  three zero r h b =
      let e : zero * 33 + r ≡ r = omega arith in
      ap (λ (i : ℕ). get_or four_lists i nowhere) e ∙ at_front (list_at 43 32 ws) (list_at 76 32 ws ++ (list_at 109 32 ws ++ list_at 142 12 ws)) nowhere 33 sent_length r b
  three (suc zero) r h b = past_sent r ∙ at_front (list_at 76 32 ws) (list_at 109 32 ws ++ list_at 142 12 ws) nowhere 33 reliable_length r b
  three (suc (suc zero)) r h b =
      let e : suc (suc zero) * 33 + r ≡ 33 + (33 + r) = omega arith in
      ap (λ (i : ℕ). get_or four_lists i nowhere) e ∙ past_reliable r ∙ at_front (list_at 109 32 ws) (list_at 142 12 ws) nowhere 33 outgoing-length r b
  three (suc (suc (suc q))) r h b = absurd (omega arith)

  pub lists_place : (j : ℕ) → j < 99 → get_or (list_at (43 + j / 33 * 33) 32 ws) (j % 33) nowhere ≡ get_or lists j nowhere
  lists_place j h =
      sym (three (j / 33) (j % 33) (omega arith) (omega arith))
      ∙ ap (λ (i : ℕ). get_or four_lists i nowhere) (div-add-mod' j 33)
      ∙ ap (λ (es : List Place). get_or es j nowhere) (sym lists_are)

  pub dispatched_place : (j : ℕ) → 99 ≤ j → get_or (list_at 142 12 ws) (j - 99) nowhere ≡ get_or lists j nowhere
  dispatched_place j h =
      let e : 33 + (33 + (33 + (j - 99))) ≡ j = omega arith in
      sym (past_reliable (33 + (j - 99)) ∙ at_back (list_at 109 32 ws) (list_at 142 12 ws) nowhere 33 outgoing-length (j - 99))
      ∙ ap (λ (i : ℕ). get_or four_lists i nowhere) e
      ∙ ap (λ (es : List Place). get_or es j nowhere) (sym lists_are)

  -- ---- channels, slots, marks
  abbrev things : List Place
  things = things_places (whole ws)

  abbrev channels : List Place
  channels = each_places channel_places (λ (c : ℕ). ltb c (whole ws).standing.channels) 0 (whole ws).channels

  abbrev outgoing : List Place
  outgoing = each_places slot_places (used_outgoing (whole ws)) 0 (whole ws).outgoing

  abbrev incoming : List Place
  incoming = each_places in_slot_places (used_incoming (whole ws)) 0 (whole ws).incoming

  abbrev marks : List Place
  marks = numbered (32 ∷ 32 ∷ []) (marks_row (whole ws).marks)

  channels_of : (c : ℕ) (b : Bool) → c < length (whole ws).channels → length (channel_places b (channel_at (whole ws) c)) ≡ 17
  channels_of c b h = channel_length ws l c (rw (sized ws).channels at h) b

  channels-length : length channels ≡ 136
  channels-length = each_length channel_places (λ (c : ℕ). ltb c (whole ws).standing.channels) no_channel 17 0 (whole ws).channels channels_of ∙ rw (sized ws).channels

  outgoing_of : (c : ℕ) (b : Bool) → c < length (whole ws).outgoing → length (slot_places b (get_or (whole ws).outgoing c no_outgoing)) ≡ 26
  outgoing_of c b h = slot_length b (get_or (whole ws).outgoing c no_outgoing)

  outgoing_slots_length : length outgoing ≡ 832
  outgoing_slots_length = each_length slot_places (used_outgoing (whole ws)) no_outgoing 26 0 (whole ws).outgoing outgoing_of ∙ rw (sized ws).outgoing

  incoming_of : (c : ℕ) (b : Bool) → c < length (whole ws).incoming → length (in_slot_places b (get_or (whole ws).incoming c no_incoming)) ≡ 6
  incoming_of c b h = in_slot_length b (get_or (whole ws).incoming c no_incoming)

  incoming_slots_length : length incoming ≡ 72
  incoming_slots_length = each_length in_slot_places (used_incoming (whole ws)) no_incoming 6 0 (whole ws).incoming incoming_of ∙ rw (sized ws).incoming

  marks-length : length marks ≡ 2
  marks-length = numbered-length (32 ∷ 32 ∷ []) (marks_row (whole ws).marks) refl

  pub things-length : length things ≡ 1042
  things-length =
      let c : length (incoming ++ marks) ≡ 74 = length-append incoming marks ∙ omega (arith, incoming_slots_length, marks-length) in
      let b : length (outgoing ++ (incoming ++ marks)) ≡ 906 = length-append outgoing (incoming ++ marks) ∙ omega (arith, outgoing_slots_length) in
      length-append channels (outgoing ++ (incoming ++ marks)) ∙ omega (arith, channels-length)

  pub channels_place : (j : ℕ) → j < 136 → get_or (channel_places (ltb (j / 17) (whole ws).standing.channels) (channel_at (whole ws) (j / 17))) (j % 17) nowhere ≡ get_or things j nowhere
  channels_place j h =
      sym (each_place channel_places (λ (c : ℕ). ltb c (whole ws).standing.channels) no_channel 17 (whole ws).channels channels_of j (omega arith) (rw (sized ws).channels h))
      ∙ sym (at_front channels (outgoing ++ (incoming ++ marks)) nowhere 136 channels-length j h)

  past_channels : (i : ℕ) → get_or things (136 + i) nowhere ≡ get_or (outgoing ++ (incoming ++ marks)) i nowhere
  past_channels i = at_back channels (outgoing ++ (incoming ++ marks)) nowhere 136 channels-length i

  past_outgoing : (i : ℕ) → get_or things (136 + (832 + i)) nowhere ≡ get_or (incoming ++ marks) i nowhere
  past_outgoing i = past_channels (832 + i) ∙ at_back outgoing (incoming ++ marks) nowhere 832 outgoing_slots_length i

  -- the place's number among the outgoing slots, and so for the others
  pub outgoing_place : (j k : ℕ) → j ≡ 136 + k → k < 832 → get_or (slot_places (used_outgoing (whole ws) (k / 26)) (get_or (whole ws).outgoing (k / 26) no_outgoing)) (k % 26) nowhere ≡ get_or things j nowhere
  outgoing_place j k e h =
      sym (each_place slot_places (used_outgoing (whole ws)) no_outgoing 26 (whole ws).outgoing outgoing_of k (omega arith) (rw (sized ws).outgoing h))
      ∙ sym (past_channels k ∙ at_front outgoing (incoming ++ marks) nowhere 832 outgoing_slots_length k h)
      ∙ ap (λ (i : ℕ). get_or things i nowhere) (sym e)

  pub incoming_place : (j k : ℕ) → j ≡ 968 + k → k < 72 → get_or (in_slot_places (used_incoming (whole ws) (k / 6)) (get_or (whole ws).incoming (k / 6) no_incoming)) (k % 6) nowhere ≡ get_or things j nowhere
  incoming_place j k e h =
      let p : 136 + (832 + k) ≡ j = omega arith in
      sym (each_place in_slot_places (used_incoming (whole ws)) no_incoming 6 (whole ws).incoming incoming_of k (omega arith) (rw (sized ws).incoming h))
      ∙ sym (past_outgoing k ∙ at_front incoming marks nowhere 72 incoming_slots_length k h)
      ∙ ap (λ (i : ℕ). get_or things i nowhere) p

  pub marks_place : (j k : ℕ) → j ≡ 1040 + k → get_or marks k nowhere ≡ get_or things j nowhere
  marks_place j k e =
      let p : 136 + (832 + (72 + k)) ≡ j = omega arith in
      sym (past_outgoing (72 + k) ∙ at_back incoming marks nowhere 72 incoming_slots_length k)
      ∙ ap (λ (i : ℕ). get_or things i nowhere) p

  -- ---- the table
  abbrev own_places : List Place
  own_places = numbered own_bits (own_row (whole ws))

  abbrev groups : List Place
  groups = numbered group_bits (group_row (whole ws).unsequenced (whole ws).waiting)

  table_is : table (whole ws) ≡ own_places ++ (lists ++ (groups ++ things))
  unfolding table
  table_is = refl

  in_table : (i : ℕ) (e : Place) → e ≡ get_or (own_places ++ (lists ++ (groups ++ things))) i nowhere → e ≡ get_or (table (whole ws)) i nowhere
  in_table i e q = q ∙ ap (λ (es : List Place). get_or es i nowhere) (sym table_is)

  pub table_own : (i : ℕ) → i < 43 → get_or own_places i nowhere ≡ get_or (table (whole ws)) i nowhere
  table_own i h = in_table i _ (sym (at_front own_places (lists ++ (groups ++ things)) nowhere 43 (own-length (whole ws)) i h))

  past_own : (i : ℕ) → 43 ≤ i → get_or (own_places ++ (lists ++ (groups ++ things))) i nowhere ≡ get_or (lists ++ (groups ++ things)) (i - 43) nowhere
  past_own i h = past_seam own_places (lists ++ (groups ++ things)) nowhere 43 (own-length (whole ws)) i h

  past_lists : (i : ℕ) → 155 ≤ i → get_or (own_places ++ (lists ++ (groups ++ things))) i nowhere ≡ get_or (groups ++ things) (i - 155) nowhere
  past_lists i h =
      let e : i - 43 - 112 ≡ i - 155 = omega arith in
      past_own i (omega arith) ∙ past_seam lists (groups ++ things) nowhere 112 lists_length (i - 43) (omega arith) ∙ ap (λ (k : ℕ). get_or (groups ++ things) k nowhere) e

  pub table-lists : (i : ℕ) → 43 ≤ i → i < 155 → get_or lists (i - 43) nowhere ≡ get_or (table (whole ws)) i nowhere
  table-lists i a b = in_table i _ (sym (past_own i a ∙ at_front lists (groups ++ things) nowhere 112 lists_length (i - 43) (omega arith)))

  pub table-groups : (i : ℕ) → 155 ≤ i → i < 194 → get_or groups (i - 155) nowhere ≡ get_or (table (whole ws)) i nowhere
  table-groups i a b = in_table i _ (sym (past_lists i a ∙ at_front groups things nowhere 39 (group_length ws l) (i - 155) (omega arith)))

  pub table-things : (i : ℕ) → 194 ≤ i → get_or things (i - 194) nowhere ≡ get_or (table (whole ws)) i nowhere
  table-things i a =
      let e : i - 155 - 39 ≡ i - 194 = omega arith in
      in_table i _ (sym (past_lists i (omega arith) ∙ past_seam groups things nowhere 39 (group_length ws l) (i - 155) (omega arith) ∙ ap (λ (k : ℕ). get_or things k nowhere) e))

  pub table-length : length (table (whole ws)) ≡ 1236
  table-length =
      let c : length (groups ++ things) ≡ 1081 = length-append groups things ∙ omega (arith, group_length ws l, things-length) in
      let b : length (lists ++ (groups ++ things)) ≡ 1193 = length-append lists (groups ++ things) ∙ omega (arith, lists_length) in
      ap length table_is ∙ length-append own_places (lists ++ (groups ++ things)) ∙ omega (arith, own-length (whole ws))
