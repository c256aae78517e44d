-- Any two results that a contract allows are equal, where it goes through `answer_of`: that of a refusal's number, and of a sample.
-- The argument: a refusal is found again from its number, and the answers of a sample are told apart by cases.
use Rattle.std.proofs.Common.{◌≡◌, ℕ, List, [], ◌∷◌, get_or, sym, refl, ap, ◌∙◌, arith}
use Rattle.numbers.specs.Answers.{Answer, number_of, done, refused, numbers_of}
use Rattle.numbers.specs.Clock.{answer_of, sampled}
use Rattle.std.specs.Prelude.{Option, Some, None}
use Rattle.numbers.specs.declared.refusals.Refusal.{Refusal}
use Rattle.numbers.specs.declared.refusals.Refusal.TheVariants.{NotConnected, InvalidChannel, PacketTooLarge, FragmentsExceeded, FailedToQueue, NotReceiving, LengthTooLarge, NotStored, BadCommand, NotRemoved, OutOfRange, NoRoom, Damaged, BadFragment, Unreadable}

-- ---- refusals
table : List Refusal
table =
    Damaged
    ∷ NotConnected
    ∷ InvalidChannel
    ∷ PacketTooLarge
    ∷ FragmentsExceeded
    ∷ FailedToQueue
    ∷ NotReceiving
    ∷ LengthTooLarge
    ∷ NotStored
    ∷ BadCommand
    ∷ NotRemoved
    ∷ OutOfRange
    ∷ NoRoom
    ∷ Damaged
    ∷ BadFragment
    ∷ Unreadable
    ∷ []

abbrev at : ℕ → Refusal
at n = get_or table n Damaged

at_number : (r : Refusal) → at (number_of r) ≡ r
unfolding table
at_number NotConnected = refl
at_number InvalidChannel = refl
at_number PacketTooLarge = refl
at_number FragmentsExceeded = refl
at_number FailedToQueue = refl
at_number NotReceiving = refl
at_number LengthTooLarge = refl
at_number NotStored = refl
at_number BadCommand = refl
at_number NotRemoved = refl
at_number OutOfRange = refl
at_number NoRoom = refl
at_number Damaged = refl
at_number BadFragment = refl
at_number Unreadable = refl

pub numbers_apart : (a b : Refusal) → number_of a ≡ number_of b → a ≡ b
numbers_apart a b e = sym (at_number a) ∙ ap at e ∙ at_number b

pub refused_apart : (a b : Refusal) → refused a ≡ refused b → a ≡ b
refused_apart a b e = numbers_apart a b (ap (λ (x : Answer). x.number) e)

-- no refusal has the number of what is done
pub refused_not_done : (r : Refusal) → number_of r ≡ 0 → ⊥
refused_not_done NotConnected e = omega (arith, e)
refused_not_done InvalidChannel e = omega (arith, e)
refused_not_done PacketTooLarge e = omega (arith, e)
refused_not_done FragmentsExceeded e = omega (arith, e)
refused_not_done FailedToQueue e = omega (arith, e)
refused_not_done NotReceiving e = omega (arith, e)
refused_not_done LengthTooLarge e = omega (arith, e)
refused_not_done NotStored e = omega (arith, e)
refused_not_done BadCommand e = omega (arith, e)
refused_not_done NotRemoved e = omega (arith, e)
refused_not_done OutOfRange e = omega (arith, e)
refused_not_done NoRoom e = omega (arith, e)
refused_not_done Damaged e = omega (arith, e)
refused_not_done BadFragment e = omega (arith, e)
refused_not_done Unreadable e = omega (arith, e)

-- ---- what is done: the counting numbers that an answer is made of are found again
pub numbers_of-done : (xs : List ℕ) → numbers_of (done xs) ≡ xs
numbers_of-done [] = refl
numbers_of-done (x ∷ xs) = ap (λ (l : List ℕ). x ∷ l) (numbers_of-done xs)

pub done_apart : (xs ys : List ℕ) → done xs ≡ done ys → xs ≡ ys
done_apart xs ys e = sym (numbers_of-done xs) ∙ ap numbers_of e ∙ numbers_of-done ys

-- ---- samples
abbrev value : ℕ → Answer → ℕ
value i a = get_or (numbers_of a) i 0

pub trips_apart : (a b : Option ℕ) → answer_of a ≡ answer_of b → a ≡ b
trips_apart None None e = refl
trips_apart None (Some t) e = absurd (omega (arith, ap (value 0) e))
trips_apart (Some s) None e = absurd (omega (arith, ap (value 0) e))
trips_apart (Some s) (Some t) e = ap Some (ap (value 1) e)

pub sample_settled : (clock sent : ℕ) (a b : Option ℕ) → answer_of a ≡ sampled clock sent → answer_of b ≡ sampled clock sent → a ≡ b
sample_settled clock sent a b p q = trips_apart a b (p ∙ sym q)
