-- A slot in brief, by its numbers. The argument: the command's byte and channel are two of them.
use Prim.Native.Nat.{ℕ, ◌%◌}
use mathlib.Core.Path.{◌≡◌}
use mathlib.Core.List.{List}
use native.Mathlib.Omega.{arith}
use lib.Dec.{leb}
use lib.ListN.{get_or, take, drop}
use Rattle.pool.specs.Slots.{slot_from, brief_of}
use Rattle.pool.proofs.Decoding.{decoded_head, command_at}

pub brief_made : (part : List ℕ) (r b c l a : ℕ) → r ≡ get_or part 0 0 % 65536 → b ≡ get_or part 9 0 % 256 → c ≡ get_or part 10 0 % 256
    → l ≡ get_or part 6 0 % 65536 → a ≡ get_or part 7 0 % 65536
    → record {
      reliable = record { 0 = r };
      byte = b;
      channel = c;
      sent = get_or part 2 0;
      timeout = get_or part 3 0;
      length = l;
      attempts = a;
      packet = leb 1 (get_or part 8 0);
    } ≡ brief_of (slot_from part)
unfolding slot_from
brief_made part r b c l a er eb ec el ea =
    let row = take 16 (drop 9 part) in
    let h = decoded_head (get_or part 25 0) row in
    rw (er, eb, ec, el, ea, h.0, h.1, command_at part 0 (omega arith), command_at part 1 (omega arith))
