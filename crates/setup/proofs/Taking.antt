-- The slots that setting up takes: pieces set up one after another take the lowest free slots in rising order, each a slot of its own,
-- and leave every other slot as it was; and the public setups do the same, all answering done.
-- The argument: a setup makes the lowest free slot a named one and changes no other, so that the free slots lose their first.
use Rattle.std.specs.Prelude.{None, Option, Some}
use Prim.Native.Nat.{ℕ, zero, suc, ◌+◌, ◌<◌}
use mathlib.Core.Path.{◌≡◌, refl, ap, sym, ◌∙◌}
use mathlib.Core.List.{List, [], ◌∷◌}
use mathlib.Core.Bool.{Bool, true, false}
use native.Mathlib.Omega.{arith}
use lib.Dec.{leb, ltb, eqb}
use lib.ListN.{length, get_or, take, set, replicate}
use lib.Seq.{get_or-set_same, get_or-set_other, get_or-take}
use borrow.Author.Tests.{eqb-true, eqb-false, eq-eqb, ne_eqb, le-leb}
use Rattle.std.specs.Prelude.{Result, ⊤, Ok, Err}
use Rattle.numbers.specs.Pick.{pick}
use Rattle.command.specs.Rows.{names_fields}
use Rattle.record.specs.Channels.{on_channel}
use Rattle.record.specs.Lists.{outgoing}
use Rattle.cells.specs.Runs.{has}
use Rattle.cells.specs.Free.{first_from, count_from, lowest}
use Rattle.record.proofs.Keeps.{has-times}
use Rattle.cells.proofs.Lowest.{lowest_exists, lowest_free, free_and_named}
use Rattle.peer.specs.Settings.{fit_settings}
use Rattle.record.specs.Fresh.{no_outgoing}
use Rattle.record.specs.Damage.{used_out}
use Rattle.peer.specs.Damage.{sound}
use Rattle.numbers.specs.declared.refusals.Refusal.{Refusal}
use Rattle.numbers.specs.declared.refusals.Refusal.TheVariants.{InvalidChannel, FailedToQueue, BadCommand}
use Rattle.peer.specs.Outcome.{Outcome, finished}
use Rattle.peer.specs.Gate.{gate_of}
use Rattle.peer.specs.Sounds.{Whole}
use Rattle.peer.proofs.Gates.{behind_open}
use Rattle.peer.specs.declared.settings.Settings.{Settings}
use Rattle.peer.specs.declared.Peer.{Peer}
use Rattle.record.specs.declared.groups.Lists.{Lists}
use Rattle.record.specs.declared.groups.Outgoing.{Outgoing}
use Rattle.peer.proofs.Clauses.{sound_clauses}
use Rattle.record.specs.Room.{room_in}
use Rattle.outbox.specs.Pieces.{lists_with}
use Rattle.setup.specs.Queueing.{room, made, queued_at, queued_in, queued, queued_all}
use Rattle.setup.specs.Calls.{setup_gate, sets_up, sets_up_sound}
use Rattle.setup.specs.Taking.{free_from, frees, taken_in, taken, filled, runs, answers, Ready}
use Rattle.outbox.specs.declared.pieces.Piece.{Piece}
use Rattle.setup.proofs.Joining.{after-times, after-length, after-exist, after-once}
use Rattle.setup.proofs.Sound.{queued_whole, fit_on, fit_names, fit_rest, fit_sound}

-- the free numbers, where g is f and x besides
module _ (f g : ℕ → Bool) (x : ℕ) (eq : (j : ℕ) → g j ≡ pick (eqb x j) true (f j)) where
  free_after : (left k : ℕ) → x < k → free_from g left k ≡ free_from f left k
  unfolding free_from
  free_after zero k h = refl
  free_after (suc left) k h = rw (eq k, ne_eqb x k (λ e. omega arith), free_after left (k + 1) (omega arith))

  free_first : (left k : ℕ) → first_from f left k ≡ Some x → free_from f left k ≡ x ∷ free_from g left k
  unfolding free_from first_from
  free_first zero k e = let z : ◌≡◌ {A = ℕ} 0 1 = cc in absurd (omega arith)
  free_first (suc left) k e = go (free_first left (k + 1)) (free_after left (k + 1)) (f k) (g k) refl (eq k) e
    where
      go : (first_from f left (k + 1) ≡ Some x → free_from f left (k + 1) ≡ x ∷ free_from g left (k + 1))
          → (x < k + 1 → free_from g left (k + 1) ≡ free_from f left (k + 1))
          → (a b : Bool) → f k ≡ a → b ≡ pick (eqb x k) true (f k) → pick a (first_from f left (k + 1)) (Some k) ≡ Some x
          → pick a (free_from f left (k + 1)) (k ∷ free_from f left (k + 1)) ≡ x ∷ pick b (free_from g left (k + 1)) (k ∷ free_from g left (k + 1))
      go rest after true b t u e = rw (u, t, either (eqb x k)) (rest e)
        where
          either : (c : Bool) → pick c true true ≡ true
          either true = refl
          either false = refl
      go rest after false b t u e =
          let z : x ≡ k = cc in
          rw (u, eq-eqb x k z, after (omega arith), z)

-- none is answered only where none is left
pub none_left : (f : ℕ → Bool) (left k : ℕ) → first_from f left k ≡ None → count_from f left k ≡ 0
unfolding first_from count_from
none_left f zero k e = refl
none_left f (suc left) k e = go (none_left f left (k + 1)) (f k) e
  where
    go : (first_from f left (k + 1) ≡ None → count_from f left (k + 1) ≡ 0) → (b : Bool)
        → pick b (first_from f left (k + 1)) (Some k) ≡ None → pick b 0 1 + count_from f left (k + 1) ≡ 0
    go rest true e = omega (arith, rest e)
    go rest false e = let z : ◌≡◌ {A = ℕ} 0 1 = cc in absurd (omega arith)

-- as many as are counted
frees_count : (f : ℕ → Bool) (left k : ℕ) → length (free_from f left k) ≡ count_from f left k
unfolding free_from count_from
frees_count f zero k = refl
frees_count f (suc left) k = go (frees_count f left (k + 1)) (f k)
  where
    go : length (free_from f left (k + 1)) ≡ count_from f left (k + 1) → (b : Bool)
        → length (pick b (free_from f left (k + 1)) (k ∷ free_from f left (k + 1))) ≡ pick b 0 1 + count_from f left (k + 1)
    go rest true = omega arith
    go rest false = omega arith

pub frees-room : (p : Peer) → length (frees outgoing (used_out p.lists)) ≡ room p
frees-room p = frees_count (has (used_out p.lists)) outgoing 0

-- one piece
module _ (x : Piece) (p : Peer) (s : ℕ) (low : lowest outgoing (used_out p.lists) ≡ Some s) where
  abbrev used : List ℕ
  used = used_out p.lists

  pub queued_at_lem : queued x p ≡ queued_at s x p
  unfolding queued
  queued_at_lem = ap (λ (f : Option ℕ). queued_in f x p) low

  pub queued_slots : (queued x p).outgoing ≡ set p.outgoing s (made x p)
  unfolding queued_at
  queued_slots = ap (λ (q : Peer). q.outgoing) queued_at_lem

  pub queued-lists : (queued x p).lists ≡ lists_with p.lists x s
  unfolding queued_at
  queued-lists = ap (λ (q : Peer). q.lists) queued_at_lem

  pub queued_other : (i : ℕ) → (i ≡ s → ⊥) → get_or (queued x p).outgoing i no_outgoing ≡ get_or p.outgoing i no_outgoing
  queued_other i h =
      ap (λ (l : List Outgoing). get_or l i no_outgoing) queued_slots ∙ get_or-set_other p.outgoing s i (made x p) no_outgoing h

  pub queued-made : Whole p → get_or (queued x p).outgoing s no_outgoing ≡ made x p
  queued-made whole =
      ap (λ (l : List Outgoing). get_or l s no_outgoing) queued_slots
      ∙ get_or-set_same p.outgoing s (made x p) no_outgoing (omega (arith, whole.outgoing, lowest_exists outgoing used s low))

  module _ (h : sound p ≡ true) where
    abbrev after : List ℕ
    after = used_out (lists_with p.lists x s)

    -- what is named then
    pub queued_names : (k : ℕ) → has (used_out (queued x p).lists) k ≡ pick (eqb s k) true (has used k)
    queued_names k =
        ap (λ (l : Lists). has (used_out l) k) queued-lists
        ∙ has-times after k
        ∙ ap (ltb 0) (after-times x p s low (sound_clauses p h) k)
        ∙ sym (has-times (s ∷ used) k)

    pub queued-room : room p ≡ 1 + room (queued x p)
    queued-room =
        let w = sound_clauses p h in
        omega (
          arith,
          free_and_named outgoing used w.exists w.single,
          free_and_named outgoing after (after-exist x p s low w) (after-once x p s low w),
          after-length x p s low w,
          ap room_in queued-lists,
        )

    -- the free slots lose their first
    pub queued-frees : frees outgoing used ≡ s ∷ frees outgoing (used_out (queued x p).lists)
    queued-frees = free_first (has used) (has (used_out (queued x p).lists)) s queued_names outgoing 0 low

-- with none free, nothing is set up
queued_full : (x : Piece) (p : Peer) → lowest outgoing (used_out p.lists) ≡ None → queued x p ≡ p
unfolding queued
queued_full x p e = ap (λ (f : Option ℕ). queued_in f x p) e

-- one step of many: there is a free slot, and the rest can follow
pub record Stepped (x : Piece) (xs : List Piece) (p : Peer) : Type 0 where
  pub slot : ℕ
  pub low : lowest outgoing (used_out p.lists) ≡ Some slot
  pub next : Ready xs (queued x p)

pub step : (x : Piece) (xs : List Piece) (p : Peer) → Ready (x ∷ xs) p → Stepped x xs p
step x xs p r = go (lowest outgoing (used_out p.lists)) refl
  where
    go : (f : Option ℕ) → lowest outgoing (used_out p.lists) ≡ f → Stepped x xs p
    go (Some s) e =
        record {
          slot = s;
          low = e;
          next =
              record {
                whole = queued_whole x p r.whole;
                good = fit_sound x xs p r.fit r.whole r.good;
                fit = fit_rest x xs p r.fit;
                few = omega (arith, r.few, queued-room x p s e r.good);
              };
        }
    go None e = absurd (omega (arith, r.few, none_left (has (used_out p.lists)) outgoing 0 e))

-- many
pub taken_step : (x : Piece) (xs : List Piece) (p : Peer) (s : ℕ) → lowest outgoing (used_out p.lists) ≡ Some s
    → taken (x ∷ xs) p ≡ s ∷ taken xs (queued x p)
unfolding taken
taken_step x xs p s e = ap (λ (f : Option ℕ). taken_in f (taken xs (queued x p))) e

pub taken-frees : (xs : List Piece) (p : Peer) → Ready xs p → taken xs p ≡ take (length xs) (frees outgoing (used_out p.lists))
unfolding taken
taken-frees [] p r = refl
taken-frees (x ∷ xs) p r =
    let t = step x xs p r in
    taken_step x xs p t.slot t.low
    ∙ ap (λ (l : List ℕ). t.slot ∷ l) (taken-frees xs (queued x p) t.next)
    ∙ ap (take (suc (length xs))) (sym (queued-frees x p t.slot t.low r.good))

-- piece i goes into free slot i
pub taken_at : (xs : List Piece) (p : Peer) (i : ℕ) → Ready xs p → i < length xs
    → get_or (taken xs p) i 0 ≡ get_or (frees outgoing (used_out p.lists)) i 0
taken_at xs p i r h =
    ap (λ (l : List ℕ). get_or l i 0) (taken-frees xs p r) ∙ get_or-take (length xs) (frees outgoing (used_out p.lists)) i 0 h

-- they are named then besides what was, and each takes one from the room
pub taken_names : (xs : List Piece) (p : Peer) (k : ℕ) → Ready xs p
    → has (used_out (queued_all xs p).lists) k ≡ pick (has (taken xs p) k) true (has (used_out p.lists) k)
unfolding taken queued_all
taken_names [] p k r = refl
taken_names (x ∷ xs) p k r =
    let t = step x xs p r in
    taken_names xs (queued x p) k t.next
    ∙ ap (pick (has (taken xs (queued x p)) k) true) (queued_names x p t.slot t.low r.good k)
    ∙ turn (eqb t.slot k) (has (taken xs (queued x p)) k) (has (used_out p.lists) k)
    ∙ ap (λ (l : List ℕ). pick (has l k) true (has (used_out p.lists) k)) (sym (taken_step x xs p t.slot t.low))
  where
    turn : (a b c : Bool) → pick b true (pick a true c) ≡ pick (pick a true b) true c
    turn true true c = refl
    turn true false c = refl
    turn false b c = refl

pub taken_room : (xs : List Piece) (p : Peer) → Ready xs p → room p ≡ length xs + room (queued_all xs p)
unfolding queued_all
taken_room [] p r = omega arith
taken_room (x ∷ xs) p r =
    let t = step x xs p r in
    omega (arith, queued-room x p t.slot t.low r.good, taken_room xs (queued x p) t.next)

-- every slot not among them is as it was
has_head : (s : ℕ) (xs : List ℕ) (i : ℕ) → has (s ∷ xs) i ≡ false → eqb s i ≡ false
has_head s xs i e = go (eqb s i) e
  where
    go : (b : Bool) → pick b true (has xs i) ≡ false → b ≡ false
    go true e = e
    go false e = refl

has_tail : (s : ℕ) (xs : List ℕ) (i : ℕ) → has (s ∷ xs) i ≡ false → has xs i ≡ false
has_tail s xs i e = go (eqb s i) e
  where
    go : (b : Bool) → pick b true (has xs i) ≡ false → has xs i ≡ false
    go true e = cc
    go false e = e

pub taken_others : (xs : List Piece) (p : Peer) (i : ℕ) → has (taken xs p) i ≡ false
    → get_or (queued_all xs p).outgoing i no_outgoing ≡ get_or p.outgoing i no_outgoing
unfolding taken queued_all
taken_others [] p i e = refl
taken_others (x ∷ xs) p i e = go (taken_others xs (queued x p) i) (lowest outgoing (used_out p.lists)) refl e
  where
    go : (has (taken xs (queued x p)) i ≡ false → get_or (queued_all xs (queued x p)).outgoing i no_outgoing ≡ get_or (queued x p).outgoing i no_outgoing)
        → (f : Option ℕ) → lowest outgoing (used_out p.lists) ≡ f → has (taken_in f (taken xs (queued x p))) i ≡ false
        → get_or (queued_all xs (queued x p)).outgoing i no_outgoing ≡ get_or p.outgoing i no_outgoing
    go rest (Some s) t e =
        rest (has_tail s (taken xs (queued x p)) i e)
        ∙ queued_other x p s t i (λ z. eqb-false s i (has_head s (taken xs (queued x p)) i e) (sym z))
    go rest None t e = rest e ∙ ap (λ (q : Peer). get_or q.outgoing i no_outgoing) (queued_full x p t)

-- a slot that a list names is not taken
taken_free : (xs : List Piece) (p : Peer) (k : ℕ) → Ready xs p → has (used_out p.lists) k ≡ true → has (taken xs p) k ≡ false
unfolding taken
taken_free [] p k r e = refl
taken_free (x ∷ xs) p k r e =
    let t = step x xs p r in
    let s = t.slot in
    ap (λ (l : List ℕ). has l k) (taken_step x xs p s t.low)
    ∙ go s t.low (taken_free xs (queued x p) k t.next) (eqb s k) refl
  where
    go : (s : ℕ) → lowest outgoing (used_out p.lists) ≡ Some s
        → (has (used_out (queued x p).lists) k ≡ true → has (taken xs (queued x p)) k ≡ false)
        → (b : Bool) → eqb s k ≡ b → pick b true (has (taken xs (queued x p)) k) ≡ false
    go s low rest true t =
        let named : has (used_out p.lists) s ≡ true = ap (has (used_out p.lists)) (eqb-true s k t) ∙ e in
        sym named ∙ lowest_free outgoing (used_out p.lists) s low
    go s low rest false t = rest (queued_names x p s low r.good k ∙ rw (t, e))

-- and each taken slot holds what its setup made
pub taken-filled : (xs : List Piece) (p : Peer) (i : ℕ) → Ready xs p → i < length xs
    → get_or (queued_all xs p).outgoing (get_or (taken xs p) i 0) no_outgoing ≡ get_or (filled xs p) i no_outgoing
unfolding queued_all filled
taken-filled [] p i r h = absurd (omega arith)
taken-filled (x ∷ xs) p zero r h =
    let t = step x xs p r in
    let s = t.slot in
    let named : has (used_out (queued x p).lists) s ≡ true = queued_names x p s t.low r.good s ∙ rw (eq-eqb s s refl) in
    ap (λ (l : List ℕ). get_or (queued_all xs (queued x p)).outgoing (get_or l 0 0) no_outgoing) (taken_step x xs p s t.low)
    ∙ taken_others xs (queued x p) s (taken_free xs (queued x p) s t.next named)
    ∙ queued-made x p s t.low r.whole
taken-filled (x ∷ xs) p (suc i) r h =
    let t = step x xs p r in
    ap (λ (l : List ℕ). get_or (queued_all xs (queued x p)).outgoing (get_or l (suc i) 0) no_outgoing) (taken_step x xs p t.slot t.low)
    ∙ taken-filled xs (queued x p) i t.next (omega arith)

-- the public setup, where nothing refuses it
gate_past : (a b c : Bool) → a ≡ true → b ≡ true → c ≡ true
    → pick {A = Result ⊤ Refusal} a (pick b (pick c (Ok tt) (Err BadCommand)) (Err FailedToQueue)) (Err InvalidChannel) ≡ Ok tt
gate_past a b c p q r = rw (p, q, r)

module _ (s : Settings) (fit : fit_settings s ≡ true) where
  pub setup_done : (x : Piece) (xs : List Piece) (p : Peer) → Ready (x ∷ xs) p → sets_up s x p ≡ finished (queued x p)
  setup_done x xs p r =
      behind_open (gate_of (fit_settings s) (sound p)) p (sets_up_sound x p) (rw (fit, r.good))
      ∙ behind_open (setup_gate x p.standing.channels (room p)) p (finished (queued x p))
      (gate_past (on_channel x.command.channel p.standing.channels) (leb 1 (room p)) (names_fields x.command) (fit_on x xs p r.fit)
      (le-leb 1 (room p) (omega (arith, r.few))) (fit_names x xs p r.fit))

  pub runs_queued : (xs : List Piece) (p : Peer) → Ready xs p → runs s xs p ≡ queued_all xs p
  unfolding runs queued_all
  runs_queued [] p r = refl
  runs_queued (x ∷ xs) p r =
      ap (λ (o : Outcome Peer). runs s xs o.after) (setup_done x xs p r) ∙ runs_queued xs (queued x p) (step x xs p r).next

  pub runs_done : (xs : List Piece) (p : Peer) → Ready xs p → answers s xs p ≡ replicate (length xs) 0
  unfolding answers
  runs_done [] p r = refl
  runs_done (x ∷ xs) p r =
      ap (λ (o : Outcome Peer). o.answer.number ∷ answers s xs o.after) (setup_done x xs p r)
      ∙ ap (λ (l : List ℕ). 0 ∷ l) (runs_done xs (queued x p) (step x xs p r).next)
