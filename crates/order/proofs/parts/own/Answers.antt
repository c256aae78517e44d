-- `own` meets its contract: each number cut to the bits of its place.
use native.Mathlib.Omega.{arith}
use mathlib.Core.Path.{◌≡◌, ◌∙◌}
use Rattle.order.proofs.PartLaws.{own_place, own_peers, own_sessions, own_wide}
use Rattle.order.proofs.parts.own.Goals as goal

pub returns-then-j-lt-CONNECT : goal.returns-then-j-lt-CONNECT
returns-then-j-lt-CONNECT c =
    let a = c.args in
    c.short.ensures ∙ own_place a.words.now a.j 16 (omega arith) (own_peers a.j (omega arith))

pub returns-then-j-le-CONNECT : goal.returns-then-j-le-CONNECT
returns-then-j-le-CONNECT c =
    let a = c.args in
    let e : a.j ≡ 2 = omega arith in
    c.long.ensures ∙ own_place a.words.now a.j 32 (omega arith) (rw e)

pub returns-then-j-lt-STATE : goal.returns-then-j-lt-STATE
returns-then-j-lt-STATE c =
    let a = c.args in
    c.byte.ensures ∙ own_place a.words.now a.j 8 (omega arith) (own_sessions a.j (omega arith) (omega arith))

pub returns-then-j-lt-RELIABLE : goal.returns-then-j-lt-RELIABLE
returns-then-j-lt-RELIABLE c =
    let a = c.args in
    c.long-then-j-lt-RELIABLE.ensures ∙ own_place a.words.now a.j 32 (omega arith) (own_wide a.j (omega arith) (omega arith))

pub returns : goal.returns
returns c =
    let a = c.args in
    let e : a.j ≡ 42 = omega arith in
    c.short-2.ensures ∙ own_place a.words.now a.j 16 (omega arith) (rw e)
