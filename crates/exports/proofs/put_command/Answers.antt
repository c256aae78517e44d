-- `put_command` writes size, kind and row one after the other, which is how the row of all its numbers begins.
use mathlib.Core.Path.{◌≡◌, ap, ◌∙◌}
use Prim.Native.Nat.{ℕ}
use lib.ListN.{length}
use borrow.Author.Rules.{rules}
use Rattle.command.specs.Bytes.{put_number}
use Rattle.exports.proofs.Words.{put_all, headed}
use Rattle.exports.proofs.put_command.Goals as goal

pub returns : goal.returns
returns c =
    let row = c.of-row.result in
    let long : length row ≡ 16 = search rules in
    put_all 8 16 _ row c.write_words.new.out long c.write_words.ensures
    ∙ headed _ _ _ _ _ _ _ c.put_word.ensures (c.put_word-2.ensures ∙ ap (λ (k : ℕ). put_number c.put_word.new.out 4 4 k) c.kind_of.ensures) c.of-row.ensures
