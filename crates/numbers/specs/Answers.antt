-- What a call replies: document 01's number of the table, and the values that go with it.
use Rattle.std.specs.Prelude.{ℕ, List, [], map, ℤ, pos, negsuc}
use Rattle.numbers.specs.declared.refusals.Refusal.{Refusal}
use Rattle.numbers.specs.declared.refusals.Refusal.TheVariants.{NotConnected, InvalidChannel, PacketTooLarge, FragmentsExceeded, FailedToQueue, NotReceiving, LengthTooLarge, NotStored, BadCommand, NotRemoved, OutOfRange, NoRoom, Damaged, BadFragment, Unreadable}

-- the table: 6, 7 and 8 are an arrival's, 10 an acknowledgement's; C-11: 14, fields out of range or unlike the first piece's; C-12: 12, no room,
-- and 15, a snapshot that cannot be read
abbrev pub number_of : Refusal → ℕ
number_of NotConnected = 1
number_of InvalidChannel = 2
number_of PacketTooLarge = 3
number_of FragmentsExceeded = 4
number_of FailedToQueue = 5
number_of NotReceiving = 6
number_of LengthTooLarge = 7
number_of NotStored = 8
number_of BadCommand = 9
number_of NotRemoved = 10
number_of OutOfRange = 11
number_of NoRoom = 12
number_of Damaged = 13
number_of BadFragment = 14
number_of Unreadable = 15

pub record Answer : Type 0 where
  pub number : ℕ
  pub values : List ℤ

-- done, or passed over: 0 and what the reply says
abbrev pub says : List ℤ → Answer
says zs = record { number = 0; values = zs }

-- the same of counting numbers
abbrev pub done : List ℕ → Answer
done xs = says (map pos xs)

abbrev pub refused : Refusal → Answer
refused why = record { number = number_of why; values = [] }

-- the values as counting numbers, as a reader of a channel, a cell, a length or a place takes them; one below 0 reads as 0
abbrev pub natural : ℤ → ℕ
natural (pos n) = n
natural (negsuc n) = 0

abbrev pub numbers_of : Answer → List ℕ
numbers_of a = map natural a.values
