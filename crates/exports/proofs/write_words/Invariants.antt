-- `write_words` puts a word a turn: putting the words that are left always leads to the same bytes.
use mathlib.Core.Path.{◌≡◌}
use lib.ListN.{length, replicate}
use Rattle.command.specs.Bytes.{put_row}
use Rattle.exports.proofs.Words.{rest}
use Rattle.exports.proofs.write_words.Given as goal

abbrev pub invariant-loop-i : goal.invariant-loop-i
invariant-loop-i l = rest l.at l.words l.out l.i ≡ put_row l.initial.out l.at (replicate (length l.words) 4) l.words
