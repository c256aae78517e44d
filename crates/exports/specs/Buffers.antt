-- The exports: each one's whole reply, and its whole buffer at exit. A buffer holds numbers of four bytes, big-endian;
-- one of another length is out of range and stays as it was.
use Rattle.std.specs.Prelude.{ℕ, ◌+◌, ◌*◌, ◌≡◌, List, ◌∷◌, eqb, length, replicate}
use Rattle.numbers.specs.Pick.{pick}
use Rattle.numbers.specs.Answers.{number_of}
use Rattle.numbers.specs.declared.refusals.Refusal.TheVariants.{BadCommand, OutOfRange}
use Rattle.throttle.specs.Throttling as throttle
use Rattle.throttle.specs.declared.Throttle.{Throttle}
use Rattle.numbers.specs.Limits.{window_words}
use Rattle.window.specs.Window as window
use Rattle.command.specs.Layout.{layout, size_of}
use Rattle.command.specs.Bytes.{row_at, put_row, pad}
use Rattle.wire.specs.Reading.{kind_at, readable}

-- the buffer of a window's words
abbrev pub window_bytes : ℕ
window_bytes = 4 * window_words

-- the buffer of a command: its size, its kind and the sixteen numbers of its row
abbrev pub row_numbers : ℕ
row_numbers = 18

abbrev pub row_bytes : ℕ
row_bytes = 4 * row_numbers

-- the first n numbers of a buffer, and the buffer with them
abbrev pub numbers_in : ℕ → List ℕ → List ℕ
numbers_in n buffer = row_at buffer 0 (replicate n 4)

abbrev pub with_numbers : ℕ → List ℕ → List ℕ → List ℕ
with_numbers n buffer xs = put_row buffer 0 (replicate n 4) xs

-- six numbers as a throttle
abbrev pub throttle_of : ℕ → ℕ → ℕ → ℕ → ℕ → ℕ → Throttle
throttle_of value limit acceleration deceleration last variance =
    record {
      value = value;
      limit = limit;
      acceleration = acceleration;
      deceleration = deceleration;
      last = last;
      variance = variance;
    }

-- the throttle: its new value, and 2^32 times 0 held, 1 raised, 2 lowered
abbrev pub throttle_reply : Throttle → ℕ → ℕ
throttle_reply t sample = throttle.value_after t sample + 4294967296 * throttle.by_tests t sample 0 1 2 0

-- the throttle lent: 0 held, 1 raised, 2 lowered, and the numbers that are left
pub record TurnCall (before : Throttle) (sample : ℕ) (r : ℕ) (after : Throttle) : Type 0 where
  pub reply : r ≡ throttle.by_tests before sample 0 1 2 0
  pub throttle : after ≡ throttle.throttle_after before sample

-- the window: the base afterwards, and 65,536 times 0 passed over by distance, 1 passed over as marked, 2 taken; a refusal is its number times 2^24
abbrev pub window_reply : ℕ → ℕ → List ℕ → ℕ
window_reply base g buffer =
    pick (eqb (length buffer) window_bytes)
    (window.base_after base (numbers_in window_words buffer) g + 65536 * window.by_tests base (numbers_in window_words buffer) g 0 2 1 2)
    (number_of OutOfRange * 16777216)

abbrev pub window_buffer : ℕ → ℕ → List ℕ → List ℕ
window_buffer base g buffer =
    pick (eqb (length buffer) window_bytes) (with_numbers window_words buffer (window.words_after base (numbers_in window_words buffer) g)) buffer

pub record WindowCall (base g : ℕ) (before : List ℕ) (r : ℕ) (after : List ℕ) : Type 0 where
  pub reply : r ≡ window_reply base g before
  pub buffer : after ≡ window_buffer base g before

-- marking: 0, or the refusal
abbrev pub mark_reply : List ℕ → ℕ
mark_reply buffer = pick (eqb (length buffer) window_bytes) 0 (number_of OutOfRange)

abbrev pub mark_buffer : ℕ → List ℕ → List ℕ
mark_buffer g buffer = pick (eqb (length buffer) window_bytes) (with_numbers window_words buffer (window.marking (numbers_in window_words buffer) g)) buffer

pub record MarkCall (g : ℕ) (before : List ℕ) (r : ℕ) (after : List ℕ) : Type 0 where
  pub reply : r ≡ mark_reply before
  pub buffer : after ≡ mark_buffer g before

-- the reader: the buffer's refusal, then 0 or that of a bad command; the buffer's numbers are the command's size, its kind and its row, with zeros at the end
abbrev pub read_reply : List ℕ → ℕ → List ℕ → ℕ
read_reply s i buffer = pick (eqb (length buffer) row_bytes) (pick (readable s i) 0 (number_of BadCommand)) (number_of OutOfRange)

abbrev pub read_numbers : List ℕ → ℕ → List ℕ
read_numbers s i = size_of (kind_at s i) ∷ kind_at s i ∷ pad 16 (row_at s i (layout (kind_at s i)))

abbrev pub read_buffer : List ℕ → ℕ → List ℕ → List ℕ
read_buffer s i buffer =
    pick (eqb (length buffer) row_bytes) (pick (readable s i) (with_numbers row_numbers buffer (read_numbers s i)) buffer) buffer

pub record ReadCall (s : List ℕ) (i : ℕ) (before : List ℕ) (r : ℕ) (after : List ℕ) : Type 0 where
  pub reply : r ≡ read_reply s i before
  pub buffer : after ≡ read_buffer s i before
