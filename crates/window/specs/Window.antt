-- "Unsequenced: a group g below the base counts as g + 65,536. At base + 32,768 or more it is passed over, nothing changed.
-- If the base is not the first group of g's window, it moves there and all 32 words are cleared; else a marked group is passed over."
use Rattle.std.specs.Prelude.{ℕ, ◌+◌, ◌-◌, ◌*◌, ◌/◌, ◌%◌, ◌≡◌, Bool, List, [], ◌∷◌, ltb, leb, eqb, get_or, set, replicate}
use Rattle.numbers.specs.Pick.{pick}
use Rattle.numbers.specs.Modulo.{minus}
use Rattle.numbers.specs.Bits.{bit, with_bit}
use Rattle.numbers.specs.Limits.{window_size, window_words, free_windows}
use Rattle.numbers.specs.Answers.{Answer, done}
use Rattle.numbers.specs.declared.counters.Group.{Group}
use Rattle.window.specs.declared.Verdict.{Verdict}
use Rattle.window.specs.declared.Verdict.TheVariants.{Distant, Marked, Taken}
use Rattle.window.specs.declared.Judged.{Judged}

-- a group below the base counts as + 65,536
abbrev pub counted : ℕ → ℕ → ℕ
counted base g = pick (ltb g base) (g + 65536) g

abbrev pub distant : ℕ → ℕ → Bool
distant base g = leb (base + window_size * free_windows) (counted base g)

-- the first group of g's window
abbrev pub first : ℕ → ℕ
first g = g - g % window_size

-- the groups of a word
abbrev pub word_bits : ℕ
word_bits = 32

-- group g stands at its place of the window, counted from the window's first group
unfoldable pub marked : List ℕ → ℕ → Bool
marked words g = bit (get_or words (g % window_size / word_bits) 0) (g % window_size % word_bits)

unfoldable pub marking : List ℕ → ℕ → List ℕ
marking words g = set words (g % window_size / word_bits) (with_bit (get_or words (g % window_size / word_bits) 0) (g % window_size % word_bits))

abbrev pub cleared : List ℕ
cleared = replicate window_words 0

-- by the tests in their order: too far, in another window than the base's, marked, not marked
abbrev pub by_tests : {A : Type 0} → ℕ → List ℕ → ℕ → A → A → A → A → A
by_tests base words g far elsewhere again fresh =
    pick (distant base g) far (pick (eqb (first g) base) (pick (marked words g) again fresh) elsewhere)

abbrev pub base_after : ℕ → List ℕ → ℕ → ℕ
base_after base words g = by_tests base words g base (first g) base base

abbrev pub words_after : ℕ → List ℕ → ℕ → List ℕ
words_after base words g = by_tests base words g words cleared words words

-- 0 and which: passed over (0) by distance (0) or as marked (1), or taken (1)
abbrev pub answer_of : Verdict → Answer
answer_of Distant = done (0 ∷ 0 ∷ [])
answer_of Marked = done (0 ∷ 1 ∷ [])
answer_of Taken = done (1 ∷ [])

abbrev pub answer_after : ℕ → List ℕ → ℕ → Answer
answer_after base words g =
    by_tests base words g (done (0 ∷ 0 ∷ [])) (done (1 ∷ [])) (done (0 ∷ 1 ∷ [])) (done (1 ∷ []))

pub record Judges (b : Group) (ws : List ℕ) (g : Group) (r : Judged) : Type 0 where
  pub base : r.base.0 ≡ base_after b.0 ws g.0
  pub words : r.words ≡ words_after b.0 ws g.0
  pub answer : answer_of r.verdict ≡ answer_after b.0 ws g.0

-- how far the base moved, in windows, past 65,535 to 0
abbrev pub windows_moved : ℕ → ℕ → ℕ
windows_moved before after = minus 16 after before / window_size
