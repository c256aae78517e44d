-- The words, pasted over theirs.
use mathlib.Core.Path.{◌≡◌, ap, ◌∙◌}
use lib.ListN.{length}
use Rattle.places.specs.Whole.{whole}
use Rattle.places.proofs.WindowLaws.{put_words_lem}
use borrow.Author.Rules.{rules}
use Rattle.places.proofs.window.put_words.Goals as goal

pub returns : goal.returns
returns c =
    let m : length c.args.window ≡ 32 = search rules in
    ap whole c.copy.ensures ∙ put_words_lem c.args.words.now c.told-words c.args.window m
