-- The byte that stands there gives the kind; a kind of no bytes is none, and past that test the command is whole.
use mathlib.Core.Path.{◌≡◌, ap, ◌∙◌}
use Prim.Native.Nat.{ℕ, ◌%◌}
use Rattle.std.specs.Prelude.{Some}
use Rattle.command.specs.Layout.{size_of}
use Rattle.wire.specs.Reading.{kind_at}
use Rattle.command.proofs.LayoutLaws.{known_size, size_known}
use Rattle.wire.proofs.ReadLaws.{kind_unknown, kind_whole}
use native.Mathlib.Omega.{arith}
use borrow.Author.Rules.{rules}
use Rattle.wire.proofs.reader.whole_kind.Goals as goal

pub returns-then-size-eq0 : goal.returns-then-size-eq0
returns-then-size-eq0 c =
    let a = c.args in
    let k : c.in_ok-kind.field-0.now % 16 ≡ kind_at a.s.now a.at = ap (λ (x : ℕ). x % 16) (search rules) in
    let e : c.size_of-size.result ≡ size_of (kind_at a.s.now a.at) = c.size_of-size.ensures ∙ ap size_of k in
    kind_unknown a.s.now a.at (known_size (kind_at a.s.now a.at) (omega arith))

pub returns : goal.returns
returns c =
    let a = c.args in
    let k : c.in_ok-kind.field-0.now % 16 ≡ kind_at a.s.now a.at = ap (λ (x : ℕ). x % 16) (search rules) in
    let e : c.size_of-size.result ≡ size_of (kind_at a.s.now a.at) = c.size_of-size.ensures ∙ ap size_of k in
    ap Some k ∙ kind_whole a.s.now a.at (size_known (kind_at a.s.now a.at) (λ z. omega arith)) (omega arith)
