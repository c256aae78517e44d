-- Each refusal is a test of the definition that fails, with the buffer untouched; past them the row is put.
use mathlib.Core.Path.{sym, ap, ◌∙◌}
use Prim.Native.Nat.{◌%◌}
use Rattle.command.specs.Layout.{layout, size_of}
use Rattle.command.specs.Bytes.{put_row}
use Rattle.wire.proofs.WriteLaws.{write_unnamed, write_short, write_done, named_kind}
use native.Mathlib.Omega.{arith}
use Rattle.wire.proofs.writer.write.Goals as goal

pub returns-then-not-names_fields : goal.returns-then-not-names_fields
returns-then-not-names_fields c = write_unnamed c.args.out.now c.args.at c.args.c (sym c.if-not-names_fields.ensures)

pub returns-then-out-at : goal.returns-then-out-at
returns-then-out-at c = write_short c.args.out.now c.args.at c.args.c (omega arith)

pub returns-then-out-at-2 : goal.returns-then-out-at-2
returns-then-out-at-2 c =
    let a = c.args in
    let e = c.size_of-size.ensures ∙ ap size_of (named_kind a.out.now a.at a.c (sym c.if-not-names_fields.ensures)) in
    write_short a.out.now a.at a.c (omega arith)

pub returns : goal.returns
returns c =
    let a = c.args in
    let named = sym c.if-not-names_fields.ensures in
    let e = c.size_of-size.ensures in
    let k = e ∙ ap size_of (named_kind a.out.now a.at a.c named) in
    write_done a.out.now a.at a.c c.size_of-size.result c.put_row.new.out named (omega arith) e
    (c.put_row.ensures ∙ ap (put_row a.out.now a.at (layout (a.c.byte % 16))) c.of.ensures)
