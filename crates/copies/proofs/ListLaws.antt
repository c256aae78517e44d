-- Lists of the record, read and written: a turn of the loops over cells, a list by its length and cells, the record after a list was written.
-- The argument: a list's row is its length and its cells; a row written is `row_put`, and narrow numbers are read as they are.
use Prim.Native.Nat.{ℕ, suc, ◌+◌, ◌*◌, ◌%◌, ◌≤◌, ◌<◌}
use mathlib.Core.Path.{◌≡◌, refl, ap, sym, ◌∙◌}
use mathlib.Core.List.{List, [], ◌∷◌, ◌++◌, map, map-append}
use native.Mathlib.Omega.{arith}
use lib.ListN.{length, get_or, set, take, drop, length-drop, length-map, get_or-map}
use lib.Seq.{paste, paste-suc, take-suc, take_all, get_or-drop, set-set, get_or-set_same}
use Rattle.record.specs.declared.outgoing.OutList.{OutList}
use Rattle.record.specs.declared.incoming.InList.{InList}
use Rattle.lists.specs.Rows.{low, section, row_at}
use Rattle.lists.proofs.Placed.{low_small, row_is}
use Rattle.lists.proofs.Kept.{list_put}
use Rattle.record.specs.declared.groups.Lists.{Lists}
use Rattle.record.specs.declared.groups.Channel.{Channel}
use Rattle.record.specs.Fresh.{no_channel}
use Rattle.record.specs.Updates.{with_sent_list, with_reliable_list, with_outgoing_list, with_dispatched, with_numbers, with_last, with_held}
use Rattle.peer.specs.Updates.{with_lists, with_channels}
use Rattle.peer.specs.declared.Peer.{Peer}
use Rattle.places.specs.Updates.{channel_at, numbers_of}
use Rattle.places.specs.declared.channels.Numbers.{Numbers}
use Rattle.places.specs.Whole.{out_list_from, in_list_from, sizes, numbers, parts, made, whole}
use Rattle.places.proofs.Sections.{part_back}
use Rattle.places.proofs.Written.{place, row_put}
use Rattle.places.proofs.ChannelLaws.{held_is}

-- ---- cells, read
module _ (ws : List ℕ) (at : ℕ) where
  abbrev pub cells_from : List ℕ
  cells_from = map low (drop at ws)

  pub cell_is : (k : ℕ) → low (get_or ws (at + k) 0) ≡ get_or cells_from k 0
  cell_is k = sym (get_or-map low (drop at ws) k 0 ∙ ap low (get_or-drop at ws k 0))

  pub cells_long : (n : ℕ) → at + n ≤ length ws → n ≤ length cells_from
  cells_long n h = omega (arith, length-map (drop at ws) low, length-drop at ws)

-- a list by its length and cells
module _ (ws : List ℕ) (at len : ℕ) (slots : List ℕ) (e : len ≡ get_or ws at 0 % 65536) where
  pub out_made : at + 32 + 1 ≤ length ws → slots ≡ map low (section (at + 1) 32 ws) → ◌≡◌ {A = OutList} (record { len = len; slots = slots }) (out_list_from (row_at at 32 ws))
  out_made h s = rw (e, s) (ap out_list_from (sym (row_is ws at 32 h)))

  pub in_made : at + 12 + 1 ≤ length ws → slots ≡ map low (section (at + 1) 12 ws) → ◌≡◌ {A = InList} (record { len = len; slots = slots }) (in_list_from (row_at at 12 ws))
  in_made h s = rw (e, s) (ap in_list_from (sym (row_is ws at 12 h)))

-- ---- cells, written
pub cell_put : (ws e s : List ℕ) (at k x : ℕ) → at + k < length ws → k < length s → e ≡ paste ws at s k → x ≡ get_or s k 0 → set e (at + k) x ≡ paste ws at s (k + 1)
cell_put ws e s at k x p q h v =
    let n : suc k ≡ k + 1 = omega arith in
    ap (λ (l : List ℕ). set l (at + k) x) h
    ∙ ap (λ (y : ℕ). set (paste ws at s k) (at + k) y) v
    ∙ paste-suc ws at s k 0 p q
    ∙ ap (λ (j : ℕ). paste ws at s j) n

-- the cells so far are narrow
pub narrow_turn : (s : List ℕ) (k : ℕ) → k < length s → get_or s k 0 < 65536 → map low (take k s) ≡ take k s → map low (take (k + 1) s) ≡ take (k + 1) s
narrow_turn s k h b e =
    let n : k + 1 ≡ suc k = omega arith in
    let t : take (k + 1) s ≡ take k s ++ (get_or s k 0 ∷ []) = ap (λ (j : ℕ). take j s) n ∙ take-suc s k 0 h in
    ap (map low) t
    ∙ map-append low (take k s) (get_or s k 0 ∷ [])
    ∙ ap (λ (l : List ℕ). l ++ (low (get_or s k 0) ∷ [])) e
    ∙ ap (λ (x : ℕ). take k s ++ (x ∷ [])) (low_small (get_or s k 0) b)
    ∙ sym t

pub narrow_all : (s : List ℕ) (k : ℕ) → k ≡ length s → map low (take k s) ≡ take k s → map low s ≡ s
narrow_all s k h e = let n : length s ≤ k = omega arith in let t : take k s ≡ s = take_all k s n in ap (map low) (sym t) ∙ e ∙ t

-- the cells, then the length
pub list_laid : (ws e s : List ℕ) (at len x : ℕ) → at + length s + 1 ≤ length ws → e ≡ paste ws (at + 1) s (length s) → x ≡ len → set e at x ≡ paste ws at (len ∷ s) (length s + 1)
list_laid ws e s at len x h q v =
    ap (λ (l : List ℕ). set l at x) (q ∙ sym (part_back ws s (at + 1) (length s) (omega arith) refl))
    ∙ list_put ws at (length s) s x refl h
    ∙ ap (λ (y : ℕ). paste ws at (y ∷ s) (length s + 1)) v

pub list_narrow : (s : List ℕ) (len : ℕ) → len < 65536 → map low s ≡ s → map low (len ∷ s) ≡ len ∷ s
list_narrow s len h e = ap (λ (x : ℕ). x ∷ map low s) (low_small len h) ∙ ap (λ (l : List ℕ). len ∷ l) e

-- a list's own row is read as the list
abbrev out_own : List ℕ → OutList
out_own r = record { len = get_or r 0 0; slots = drop 1 r }

abbrev in_own : List ℕ → InList
in_own r = record { len = get_or r 0 0; slots = drop 1 r }

pub out_back : (x : OutList) → map low (x.len ∷ x.slots) ≡ x.len ∷ x.slots → out_list_from (x.len ∷ x.slots) ≡ x
out_back x n = ap out_own n

pub in_back : (x : InList) → map low (x.len ∷ x.slots) ≡ x.len ∷ x.slots → in_list_from (x.len ∷ x.slots) ≡ x
in_back x n = ap in_own n

-- so many cells, as their pool has slots
pub row_long : (ws after s : List ℕ) (at len n : ℕ) → length s ≡ n → after ≡ paste ws at (len ∷ s) (length s + 1) → after ≡ paste ws at (len ∷ s) (n + 1)
row_long ws after s at len n m e = e ∙ ap (λ (k : ℕ). paste ws at (len ∷ s) (k + 1)) m

-- written to its place: where a row written is a list put, this list is put
module _ (L : Type 0) (from : List ℕ → L) (put : L → Peer) (ws after : List ℕ) (at n : ℕ) (law : (r : List ℕ) → length r ≡ suc n → whole (paste ws at r (n + 1)) ≡ put (from r)) where
  pub list_in : (x : L) (len : ℕ) (s : List ℕ) → length s ≡ n → after ≡ paste ws at (len ∷ s) (n + 1) → from (len ∷ s) ≡ x → whole after ≡ put x
  list_in x len s m e b = ap whole e ∙ law (len ∷ s) (ap suc m) ∙ ap put b

-- ---- the four of the record
pub lists_made : (ws : List ℕ) (a b c : OutList) (d : InList) → a ≡ out_list_from (row_at 43 32 ws) → b ≡ out_list_from (row_at 76 32 ws) → c ≡ out_list_from (row_at 109 32 ws) → d ≡ in_list_from (row_at 142 12 ws)
    → ◌≡◌ {A = Lists} (record { sent = a; send_reliable = b; outgoing = c; dispatched = d }) (whole ws).lists
unfolding made parts numbers sizes
lists_made ws a b c d ea eb ec ed = rw (ea, eb, ec, ed)

module _ (ws : List ℕ) (l : length ws ≡ 1236) (r : List ℕ) where
  pub row_sent : length r ≡ 33 → whole (paste ws 43 r 33) ≡ with_lists (whole ws) (with_sent_list (whole ws).lists (out_list_from r))
  unfolding made parts numbers sizes place
  row_sent h = row_put ws 1 43 33 r l (omega arith) refl refl (omega arith) h

  pub row_reliable : length r ≡ 33 → whole (paste ws 76 r 33) ≡ with_lists (whole ws) (with_reliable_list (whole ws).lists (out_list_from r))
  unfolding made parts numbers sizes place
  row_reliable h = row_put ws 2 76 33 r l (omega arith) refl refl (omega arith) h

  pub row_outgoing : length r ≡ 33 → whole (paste ws 109 r 33) ≡ with_lists (whole ws) (with_outgoing_list (whole ws).lists (out_list_from r))
  unfolding made parts numbers sizes place
  row_outgoing h = row_put ws 3 109 33 r l (omega arith) refl refl (omega arith) h

  pub row_dispatched : length r ≡ 13 → whole (paste ws 142 r 13) ≡ with_lists (whole ws) (with_dispatched (whole ws).lists (in_list_from r))
  unfolding made parts numbers sizes place
  row_dispatched h = row_put ws 4 142 13 r l (omega arith) refl refl (omega arith) h

-- one after the other
pub lists_put : (x : Lists) (p₀ p₁ p₂ p₃ p₄ : Peer) → p₁ ≡ with_lists p₀ (with_sent_list p₀.lists x.sent) → p₂ ≡ with_lists p₁ (with_reliable_list p₁.lists x.send_reliable)
    → p₃ ≡ with_lists p₂ (with_outgoing_list p₂.lists x.outgoing) → p₄ ≡ with_lists p₃ (with_dispatched p₃.lists x.dispatched) → p₄ ≡ with_lists p₀ x
lists_put x p₀ p₁ p₂ p₃ p₄ e₁ e₂ e₃ e₄ =
    e₄
    ∙ ap (λ (p : Peer). with_lists p (with_dispatched p.lists x.dispatched))
    (e₃ ∙ ap (λ (p : Peer). with_lists p (with_outgoing_list p.lists x.outgoing)) (e₂ ∙ ap (λ (p : Peer). with_lists p (with_reliable_list p.lists x.send_reliable)) e₁))

-- ---- a channel
pub channel_made : (ws : List ℕ) (i : ℕ) (n : Numbers) (d : InList) → i < 8 → length ws ≡ 1236 → n ≡ numbers_of (channel_at (whole ws) i) → d ≡ in_list_from (row_at (194 + i * 17 + 4) 12 ws)
    → ◌≡◌ {A = Channel} (record { outgoing_reliable = n.outgoing_reliable; outgoing_unreliable = n.outgoing_unreliable; incoming_reliable = n.incoming_reliable; incoming_unreliable = n.incoming_unreliable; held = d })
    (channel_at (whole ws) i)
channel_made ws i n d h l en ed = rw (en, ed ∙ sym (held_is ws i h l))

channel_step : (p q r : Peer) (i : ℕ) (c : Channel) (f : Channel → Channel) → i < length p.channels → q ≡ with_channels p (set p.channels i c)
    → r ≡ with_channels q (set q.channels i (f (channel_at q i))) → r ≡ with_channels p (set p.channels i (f c))
channel_step p q r i c f h e g =
    let cs = p.channels in
    g
    ∙ ap (λ (q : Peer). with_channels q (set q.channels i (f (channel_at q i)))) e
    ∙ ap (with_channels p) (set-set cs i c (f (get_or (set cs i c) i no_channel)) ∙ ap (λ (d : Channel). set cs i (f d)) (get_or-set_same cs i c no_channel h))

pub channel_put : (p₀ p₁ p₂ p₃ : Peer) (i : ℕ) (x : Channel) → i < 8 → length p₀.channels ≡ 8
    → p₁ ≡ with_channels p₀ (set p₀.channels i (with_numbers (channel_at p₀ i) x.outgoing_reliable x.outgoing_unreliable))
    → p₂ ≡ with_channels p₁ (set p₁.channels i (with_last (channel_at p₁ i) x.incoming_reliable x.incoming_unreliable))
    → p₃ ≡ with_channels p₂ (set p₂.channels i (with_held (channel_at p₂ i) x.held)) → p₃ ≡ with_channels p₀ (set p₀.channels i x)
channel_put p₀ p₁ p₂ p₃ i x h l e₁ e₂ e₃ =
    let b : i < length p₀.channels = omega arith in
    let c = with_numbers (channel_at p₀ i) x.outgoing_reliable x.outgoing_unreliable in
    let f : p₂ ≡ with_channels p₀ (set p₀.channels i (with_last c x.incoming_reliable x.incoming_unreliable)) =
    channel_step p₀ p₁ p₂ i c (λ (d : Channel). with_last d x.incoming_reliable x.incoming_unreliable) b e₁ e₂ in
    channel_step p₀ p₂ p₃ i (with_last c x.incoming_reliable x.incoming_unreliable) (λ (d : Channel). with_held d x.held) b f e₃
