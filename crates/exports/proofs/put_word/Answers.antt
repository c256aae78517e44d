-- `put_word` copies the four bytes over those in their places, which is what storing one after the other leaves.
use mathlib.Core.Path.{◌∙◌}
use Rattle.exports.proofs.Words.{word_put}
use Rattle.exports.proofs.put_word.Goals as goal

pub returns : goal.returns
returns c = word_put c.args.out.now c.args.at c.args.x c.copy_from_slice.new.self c.requires (c.copy_from_slice.ensures.after ∙ c.to_be_bytes.ensures)
