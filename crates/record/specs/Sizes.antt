-- The numbers of document 01 that bound a record's parts; the pools' own sizes are in slots.
use Rattle.std.specs.Prelude.{ℕ, ◌*◌}
use Rattle.record.specs.Lists.{incoming}

-- how many channels a record holds
abbrev pub channels : ℕ
channels = 8

-- "channel 255 is the peer itself"
abbrev pub itself : ℕ
itself = 255

-- "each a cell of 4,096 bytes in one lent store of 49,152 bytes"
abbrev pub cell : ℕ
cell = 4096

abbrev pub store_length : ℕ
store_length = incoming * cell

-- C-11: "a second lent store of that size": up to 32,768 bytes
abbrev pub second_length : ℕ
second_length = 32768
