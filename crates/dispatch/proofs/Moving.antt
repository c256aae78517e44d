-- What dispatch keeps, whatever the answer, and what it moves: the ready ones join dispatched at its end in their order, the rest stays.
-- The argument: no case changes another group; dispatched has room for the whole list, as no more slots are named than there are.
use Rattle.std.specs.Prelude.{⊤, Result}
use Rattle.std.proofs.Common.{◌≡◌, ℕ, ◌+◌, ◌<◌, true, leb, List, [], ◌∷◌, ◌++◌, length, get_or, take, drop, sym, refl, ap, ◌∙◌, arith, length-take, get_or-set_other, get_or-set_same, le-leb}
use Rattle.numbers.specs.declared.refusals.Refusal.{Refusal}
use Rattle.record.specs.Lists.{incoming, in_items}
use Rattle.cells.specs.Runs.{moved_from, moved_to}
use Rattle.record.proofs.Views.{in_items_keep}
use Rattle.record.specs.Fresh.{no_channel}
use Rattle.record.specs.declared.groups.Channel.{Channel}
use Rattle.peer.specs.Damage.{sound}
use Rattle.peer.specs.Outcome.{Outcome, finished}
use Rattle.peer.specs.Gate.{fits, gate_of}
use Rattle.peer.specs.Sounds.{Whole}
use Rattle.peer.specs.declared.settings.Settings.{Settings}
use Rattle.peer.specs.declared.Peer.{Peer}
use Rattle.peer.specs.declared.gate.Lent.TheVariants as lent
use Rattle.peer.proofs.Gates.{sound_open, behind_has, behind_open, behind_done}
use Rattle.dispatch.specs.Calls.{dispatch_gate, with_dispatch, dispatched_on, dispatches_sound, dispatches}
use Rattle.peer.proofs.Ranges.{count_high}
use Rattle.dispatch.proofs.Calling.{chosen, ready, gone, dispatched_has}
use Rattle.dispatch.proofs.Sound.{room_there, below_count}

abbrev gate : Settings → Peer → Result ⊤ Refusal
gate s p = gate_of (fits s lent.Nothing) (sound p)

module _ (channel : ℕ) (p : Peer) where
  abbrev before : List ℕ
  before = in_items p.lists.dispatched

  abbrev held : List ℕ
  held = in_items (chosen channel p).held

  -- ---- what it keeps, whatever the answer
  pub record Keeps (after : Peer) : Type 0 where
    pub incoming : after.incoming ≡ p.incoming
    pub outgoing : after.outgoing ≡ p.outgoing
    pub waiting : after.waiting ≡ p.waiting
    pub base : after.unsequenced.incoming ≡ p.unsequenced.incoming
    pub group : after.unsequenced.outgoing ≡ p.unsequenced.outgoing
    pub words : after.unsequenced.words ≡ p.unsequenced.words
    pub others : (i : ℕ) → (i ≡ channel → ⊥) → get_or after.channels i no_channel ≡ get_or p.channels i no_channel

  pub dispatch_keeps : (s : Settings) → Keeps (dispatches s channel p).after
  dispatch_keeps s =
      behind_has (gate s p) p (dispatches_sound channel p) (λ (o : Outcome Peer). Keeps o.after) (λ why. same)
      (λ e. behind_has (dispatch_gate channel p.standing) p (finished (dispatched_on channel p)) (λ (o : Outcome Peer). Keeps o.after) (λ why. same)
      (λ e. dispatched_has channel p Keeps (λ none. same) moved))
    where
      same : Keeps p
      same =
          record {
            incoming = refl;
            outgoing = refl;
            waiting = refl;
            base = refl;
            group = refl;
            words = refl;
            others = λ i n. refl;
          }

      moved : Keeps (with_dispatch channel (gone channel p) p)
      moved =
          record {
            incoming = refl;
            outgoing = refl;
            waiting = refl;
            base = refl;
            group = refl;
            words = refl;
            others = λ i n. get_or-set_other p.channels channel i (gone channel p).channel no_channel n;
          }

  -- ---- what it moves
  pub record Orders (after : Peer) : Type 0 where
    pub joined : in_items after.lists.dispatched ≡ before ++ take (ready channel p) held
    pub left : in_items (get_or after.channels channel no_channel).held ≡ drop (ready channel p) held

  module _ (whole : Whole p) where
    pub dispatch_order : sound p ≡ true → channel < p.standing.channels → Orders (dispatched_on channel p)
    dispatch_order good h = dispatched_has channel p Orders none some
      where
        here : channel < length p.channels
        here = omega (arith, h, count_high p good, whole.channels)

        enough : leb (length before + length (take (ready channel p) held)) incoming ≡ true
        enough =
            le-leb (length before + length (take (ready channel p) held)) incoming
            (omega (arith, room_there channel p whole good h, length-take (ready channel p) held))

        nothing : (xs : List ℕ) → xs ≡ xs ++ []
        nothing [] = refl
        nothing (x ∷ xs) = ap (λ (ys : List ℕ). x ∷ ys) (nothing xs)

        none : ready channel p ≡ 0 → Orders p
        none z = record { joined = rw z (nothing before); left = rw z }

        some : Orders (with_dispatch channel (gone channel p) p)
        some =
            record {
              joined = in_items_keep p.lists.dispatched (moved_to incoming (ready channel p) held before) ∙ rw enough;
              left =
                  ap (λ (c : Channel). in_items c.held) (get_or-set_same p.channels channel (gone channel p).channel no_channel here)
                  ∙ in_items_keep (chosen channel p).held (moved_from incoming (ready channel p) held before)
                  ∙ rw enough;
            }

    -- and so wherever the call is done
    pub done_order : (s : Settings) → (dispatches s channel p).answer.number ≡ 0 → Orders (dispatches s channel p).after
    done_order s e =
        let opens = behind_done (gate s p) p (dispatches_sound channel p) e in
        let rest = behind_open (gate s p) p (dispatches_sound channel p) opens in
        let own = dispatch_gate channel p.standing in
        let passed = behind_done own p (finished (dispatched_on channel p)) (sym (ap (λ (o : Outcome Peer). o.answer.number) rest) ∙ e) in
        let is = rest ∙ behind_open own p (finished (dispatched_on channel p)) passed in
        rw is (dispatch_order (sound_open (fits s lent.Nothing) (sound p) opens) (below_count channel p.standing passed))
