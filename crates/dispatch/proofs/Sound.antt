-- Soundness through dispatch: a sound record stays sound, whatever goes. The argument: each slot is named as often as before, so the lists
-- still fit their pool, and the total and the number of blocks are the same; what stays in a channel's list stood there before; numbers and flags are not looked at.
use Rattle.std.specs.Prelude.{Result, ⊤, Ok, Err}
use Rattle.std.proofs.Common.{◌≡◌, ℕ, zero, suc, ◌+◌, ◌<◌, ◌≤◌, Bool, true, false, eqb, ltb, leb, ◌⊎◌, List, [], ◌∷◌, length, get_or, set, sym, refl, ap, ◌∙◌, inl, inr, ⊎_elim, arith, length-append, length-set, length-take, get_or-take, ltb-true, eq-eqb, le-leb}
use lib.Seq.{take-set-lt}
use Rattle.numbers.specs.Pick.{pick, both}
use Rattle.numbers.specs.declared.refusals.Refusal.{Refusal}
use Rattle.numbers.specs.declared.refusals.Refusal.TheVariants.{InvalidChannel}
use Rattle.numbers.proofs.BoolLaws.{both_left, both_right, both_true}
use Rattle.record.specs.Lists.{outgoing, incoming, in_items}
use Rattle.cells.specs.Runs.{moved_from, moved_to}
use Rattle.record.specs.declared.incoming.InList.{InList}
use Rattle.record.proofs.Keeps.{times, times_append, once_less, exist_less}
use Rattle.record.proofs.Views.{in_items_keep}
use Rattle.cells.proofs.Lowest.{free_and_named}
use Rattle.damage.proofs.SumLaws.{sum_append, blocks_append}
use Rattle.record.specs.Fresh.{no_channel, no_incoming}
use Rattle.record.specs.Damage.{all, below, held, held_fit, in_fit, in_sound, lengths, blocks, one_block, lists_fit, own, used_in}
use Rattle.record.specs.Updates.{with_dispatched}
use Rattle.record.specs.declared.groups.Standing.{Standing}
use Rattle.record.specs.declared.groups.Lists.{Lists}
use Rattle.record.specs.declared.groups.Channel.{Channel}
use Rattle.record.specs.declared.groups.Incoming.{Incoming}
use Rattle.record.specs.declared.groups.Marks.{Marks}
use Rattle.peer.specs.Damage.{sound}
use Rattle.peer.specs.Outcome.{Outcome, finished}
use Rattle.peer.specs.Sounds.{Whole, Sounds}
use Rattle.peer.specs.declared.settings.Settings.{Settings}
use Rattle.peer.specs.declared.Peer.{Peer}
use Rattle.peer.proofs.Gates.{openness, behind_has}
use Rattle.peer.proofs.Sound.{gated_sounds}
use Rattle.peer.proofs.Clauses.{sound_clauses, clauses_sound, all_at, at_all}
use Rattle.dispatch.specs.Dispatching.{moved_on}
use Rattle.dispatch.specs.Dispatching.{Dispatched}
use Rattle.dispatch.specs.Calls.{dispatch_gate, with_dispatch, dispatched_on, dispatches_sound, dispatches}
use Rattle.peer.proofs.InClauses.{InClauses, incoming_clauses, clauses_in}
use Rattle.peer.proofs.Ranges.{count_high}
use Rattle.dispatch.proofs.Calling.{chosen, ready, last, dispatched_has}
use Rattle.dispatch.proofs.Sums.{Moves, held_within, left_less, moved_sum, used_same}

-- ---- the channels' lists, one of them changed
pub fit_set : (cs : List Channel) (i : ℕ) (new : Channel) → held_fit cs ≡ true → new.held.len ≤ incoming → held_fit (set cs i new) ≡ true
unfolding held_fit
fit_set [] i new e h = refl
fit_set (c ∷ cs) zero new e h =
    both_true (leb new.held.len incoming) (held_fit cs) (le-leb new.held.len incoming h)
    (both_right (leb c.held.len incoming) (held_fit cs) e)
fit_set (c ∷ cs) (suc i) new e h =
    let long = leb c.held.len incoming in
    both_true long (held_fit (set cs i new)) (both_left long (held_fit cs) e) (fit_set cs i new (both_right long (held_fit cs) e) h)

-- a list whose slots stood there before or are of its channel holds only slots of its own
pub own-set : (slots : List Incoming) (j : ℕ) (cs : List Channel) (i : ℕ) (new : Channel) → own slots j cs ≡ true
    → ((s : ℕ) → 0 < times (in_items new.held) s
    → (0 < times (in_items (get_or cs i no_channel).held) s) ⊎ ((get_or slots s no_incoming).channel ≡ j + i))
    → own slots j (set cs i new) ≡ true
unfolding own
own-set slots j [] i new e known = refl
own-set slots j (c ∷ cs) zero new e known =
    let f : ℕ → Bool = λ s. eqb (get_or slots s no_incoming).channel j in
    let old = in_items c.held in
    both_true (all f (in_items new.held)) (own slots (j + 1) cs)
    (at_all f (in_items new.held)
    (λ s h.
    ⊎_elim
    (λ there. all_at f old (both_left (all f old) (own slots (j + 1) cs) e) s there)
    (λ is. eq-eqb (get_or slots s no_incoming).channel j (omega (arith, is)))
    (known s h)))
    (both_right (all f old) (own slots (j + 1) cs) e)
own-set slots j (c ∷ cs) (suc i) new e known =
    let f : ℕ → Bool = λ s. eqb (get_or slots s no_incoming).channel j in
    let old = all f (in_items c.held) in
    both_true old (own slots (j + 1) (set cs i new)) (both_left old (own slots (j + 1) cs) e)
    (own-set slots (j + 1) cs i new (both_right old (own slots (j + 1) cs) e)
    (λ s h. ⊎_elim (λ there. inl there) (λ is. inr (omega (arith, is))) (known s h)))

-- ---- the incoming pool after a move
module _ (marks : Marks) (slots : List Incoming) (l : Lists) (cs : List Channel) (count total : ℕ) (w : InClauses marks slots l cs count total) where
  -- the slots named are at most 12, so that a channel's list has room at the end of dispatched
  room : (i : ℕ) → i < length cs → length (in_items l.dispatched) + length (in_items (get_or cs i no_channel).held) ≤ incoming
  room i h =
      omega (
        arith,
        free_and_named incoming (used_in l cs) w.exists w.single,
        length-append (in_items l.dispatched) (held cs),
        held_within length length-append cs i no_channel h,
      )

  module _ (i k : ℕ) (m : Lists) (new : Channel) (v : Moves l cs i k m new) where
    abbrev used : List ℕ
    used = used_in m (set cs i new)

    same : (s : ℕ) → times used s ≡ times (used_in l cs) s
    same s = used_same (λ (xs : List ℕ). times xs s) (λ xs ys. times_append xs ys s) l cs i k m new v

    fewer : (s : ℕ) → times used s ≤ times (used_in l cs) s
    fewer s = omega (arith, same s)

    moved_clauses : InClauses marks slots m (set cs i new) count total
    moved_clauses =
        record {
          exists = exist_less (used_in l cs) used fewer incoming w.exists;
          single = once_less (used_in l cs) used fewer w.single;
          fit =
              at_all (in_fit marks slots count) used (λ s h. all_at (in_fit marks slots count) (used_in l cs) w.fit s (omega (arith, same s, h)));
          own =
              own-set slots 0 cs i new w.own
              (λ s h. inl (omega (arith, h, left_less (λ (xs : List ℕ). times xs s) (λ xs ys. times_append xs ys s) l cs i k m new v)));
          total = w.total ∙ sym (used_same (lengths slots) (sum_append slots) l cs i k m new v);
          block = ap (one_block marks) (used_same (blocks slots) (blocks_append slots) l cs i k m new v) ∙ w.block;
        }

-- ---- the record
pub dispatched_fit : (l : Lists) (x : InList) → lists_fit l ≡ true → x.len ≤ incoming → lists_fit (with_dispatched l x) ≡ true
dispatched_fit l x e h = last (leb l.sent.len outgoing) (leb l.send_reliable.len outgoing) (leb l.outgoing.len outgoing) e
  where
    last : (a b c : Bool) → both a (both b (both c (leb l.dispatched.len incoming))) ≡ true
        → both a (both b (both c (leb x.len incoming))) ≡ true
    last a b c e =
        let d = leb l.dispatched.len incoming in
        let f = both_right a (both b (both c d)) e in
        let g = both_right b (both c d) f in
        both_true a (both b (both c _)) (both_left a (both b (both c d)) e)
        (both_true b (both c _) (both_left b (both c d) f) (both_true c _ (both_left c d g) (le-leb x.len incoming h)))

module _ (channel : ℕ) (p : Peer) (whole : Whole p) (good : sound p ≡ true) (h : channel < p.standing.channels) where
  abbrev cs : List Channel
  cs = below p.channels p.standing.channels

  abbrev old : Channel
  old = chosen channel p

  old_is : get_or cs channel no_channel ≡ old
  old_is = get_or-take p.standing.channels p.channels channel no_channel h

  here : channel < length cs
  here = omega (arith, h, count_high p good, length-take p.standing.channels p.channels, whole.channels)

  -- dispatched has room for the whole list
  pub room_there : length (in_items p.lists.dispatched) + length (in_items old.held) ≤ incoming
  room_there =
      rw old_is at (room p.marks p.incoming p.lists cs p.standing.channels p.waiting.total (incoming_clauses p good) channel here)

  module _ (k n : ℕ) where
    abbrev moved : Dispatched
    moved = moved_on k n old p.lists p.unsequenced

    pub moves : Moves p.lists cs channel k moved.lists moved.channel
    moves =
        record {
          here = here;
          from = rw old_is (in_items_keep old.held (moved_from incoming k (in_items old.held) (in_items p.lists.dispatched)));
          to = rw old_is (in_items_keep p.lists.dispatched (moved_to incoming k (in_items old.held) (in_items p.lists.dispatched)));
        }

    now : below (set p.channels channel moved.channel) p.standing.channels ≡ set cs channel moved.channel
    now = take-set-lt p.standing.channels p.channels channel moved.channel h

    -- both lists fit the pool
    short : moved.channel.held.len + moved.lists.dispatched.len ≤ incoming
    short =
        omega (arith, room_there, moved_sum length length-append incoming k (in_items old.held) (in_items p.lists.dispatched))

    moved-sound : sound (with_dispatch channel moved p) ≡ true
    moved-sound =
        let w = sound_clauses p good in
        let count = p.standing.channels in
        clauses_sound (with_dispatch channel moved p)
        (record {
          range = w.range;
          lists = dispatched_fit p.lists moved.lists.dispatched w.lists (omega (arith, short));
          held = ap held_fit now ∙ fit_set cs channel moved.channel w.held (omega (arith, short));
          exists = w.exists;
          single = w.single;
          fit = w.fit;
          sent = w.sent;
          arrived =
              ap (λ (xs : List Channel). in_sound p.marks p.incoming moved.lists xs count p.waiting.total) now
              ∙ clauses_in p.marks p.incoming moved.lists (set cs channel moved.channel) count p.waiting.total
              (moved_clauses p.marks p.incoming p.lists cs count p.waiting.total (incoming_clauses p good) channel k moved.lists moved.channel moves);
        })

  pub dispatched_sound : sound (dispatched_on channel p) ≡ true
  dispatched_sound =
      dispatched_has channel p (λ (q : Peer). sound q ≡ true) (λ none. good) (moved-sound (ready channel p) (last channel p))

-- the gate of the call's own
pub below_count : (channel : ℕ) (standing : Standing) → dispatch_gate channel standing ≡ Ok tt → channel < standing.channels
below_count channel standing e = ltb-true channel standing.channels (go (ltb channel standing.channels) e)
  where
    go : (b : Bool) → pick {A = Result ⊤ Refusal} b (Ok tt) (Err InvalidChannel) ≡ Ok tt → b ≡ true
    go true q = refl
    go false q = absurd (omega (arith, ap openness q))

stays : (channel : ℕ) (p : Peer) → Whole p → sound p ≡ true → sound (dispatches_sound channel p).after ≡ true
stays channel p l good =
    behind_has (dispatch_gate channel p.standing) p (finished (dispatched_on channel p)) (λ (o : Outcome Peer). sound o.after ≡ true)
    (λ why. good) (λ e. dispatched_sound channel p l good (below_count channel p.standing e))

stays_whole : (channel : ℕ) (p : Peer) → Whole p → Whole (dispatches_sound channel p).after
stays_whole channel p l =
    behind_has (dispatch_gate channel p.standing) p (finished (dispatched_on channel p)) (λ (o : Outcome Peer). Whole o.after)
    (λ why. l)
    (λ e. record { channels = length-set p.channels channel _ ∙ l.channels; outgoing = l.outgoing; incoming = l.incoming })

pub dispatch_sounds : (s : Settings) (channel : ℕ) → Sounds (dispatches s channel)
dispatch_sounds s channel = gated_sounds s (dispatches_sound channel) (stays channel) (stays_whole channel)
