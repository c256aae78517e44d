-- `restore` meets its contract: it asks for settings and stores, then reads; what was read and is sound replaces the record and both stores.
use Rattle.std.proofs.Common.{◌≡◌, ℕ, ◌≤◌, length, Option, Some, IfSome}
use mathlib.Core.Path.{subst}
use Rattle.snapshot_parts.specs.Row.{result_of}
use Rattle.snapshot.specs.Calls.{read_snapshot}
use Rattle.snapshot.proofs.RestoreLaws.{bytes_inside}
use Rattle.snapshot.proofs.restore.Goals as goal

pub replace-requires-clause-fresh_in_bounds : goal.replace-requires-clause-fresh_in_bounds
replace-requires-clause-fresh_in_bounds c =
    let bs = c.args.bytes.now in
    let ws = c.parse.new.words in
    let read : c.parse.result ≡ Some c.in_ok-end.end = c.in_ok-end.ensures.ok_part in
    bytes_inside bs ws c.in_ok-end.end (subst (λ (r : Option ℕ). IfSome r (λ end. end ≤ length bs)) read c.parse.ensures.inside)
    (subst (λ (r : Option ℕ). result_of r ws bs ≡ read_snapshot bs) read c.parse.ensures.snapshot)
