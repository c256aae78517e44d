-- `held` meets its contract: what the channels below the count hold is what those from channel c on hold, a channel at a time.
use mathlib.Core.Path.{◌≡◌, refl, ap, sym, ◌∙◌}
use native.Mathlib.Omega.{arith}
use lib.ListN.{length, get_or}
use Rattle.record.specs.Fresh.{no_channel}
use Rattle.record.specs.declared.groups.Standing.{Standing}
use Rattle.places.specs.Whole.{whole}
use Rattle.places.proofs.GroupLaws.{standing_is}
use Rattle.places.proofs.Sized.{sized}
use Rattle.order.proofs.UsedLaws.{held_hit, held_miss, held_end, held_at}
use Rattle.order.proofs.used.held.Goals as goal

pub loop-c-init : goal.loop-c-init
loop-c-init c = (c.min-count.ensures, refl)

pub returns-then-names : goal.returns-then-names
returns-then-names c =
    let l = c.loop-c in
    let ws = c.args.words.now in
    let s = c.args.s in
    let n : (whole ws).standing.channels ≡ get_or ws 6 0 = ap (λ (x : Standing). x.channels) (standing_is ws) in
    let e : length (whole ws).channels ≡ 8 = (sized ws).channels in
    let names = held_at ws s l.c (omega (arith, l.invariant.0)) c.told-words ∙ sym c.names.ensures ∙ c.if-names.true in
    sym (l.invariant.1 ∙ held_hit (whole ws).channels (whole ws).standing.channels l.c s no_channel (omega (arith, l.invariant.0)) (omega (arith, l.invariant.0)) names)

pub loop-c-preserved : goal.loop-c-preserved
loop-c-preserved c =
    let l = c.loop-c in
    let ws = c.args.words.now in
    let s = c.args.s in
    let n : (whole ws).standing.channels ≡ get_or ws 6 0 = ap (λ (x : Standing). x.channels) (standing_is ws) in
    let e : length (whole ws).channels ≡ 8 = (sized ws).channels in
    let names = held_at ws s l.c (omega (arith, l.invariant.0)) c.told-words ∙ sym c.names.ensures ∙ c.if-names.false in
    (l.invariant.0, l.invariant.1 ∙ held_miss (whole ws).channels (whole ws).standing.channels l.c s no_channel (omega (arith, l.invariant.0)) (omega (arith, l.invariant.0)) names)

pub returns : goal.returns
returns c =
    let l = c.loop-c in
    let ws = c.args.words.now in
    let n : (whole ws).standing.channels ≡ get_or ws 6 0 = ap (λ (x : Standing). x.channels) (standing_is ws) in
    let e : length (whole ws).channels ≡ 8 = (sized ws).channels in
    sym (l.invariant.1 ∙ held_end (whole ws).channels (whole ws).standing.channels l.c c.args.s (rw (n, e) (omega (arith, l.invariant.0))))
