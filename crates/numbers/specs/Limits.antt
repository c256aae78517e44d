-- "Numbers that bound it", and the numbers of public ENet that the rules name.
use Rattle.std.specs.Prelude.{ℕ, Bool, nat_le}
use Rattle.numbers.specs.Pick.{both}

abbrev pub least_mtu : ℕ
least_mtu = 576

abbrev pub most_mtu : ℕ
most_mtu = 4096

-- "MTU | 576 to 4,096"
abbrev pub mtu_fits : ℕ → Bool
mtu_fits mtu = both (nat_le least_mtu mtu) (nat_le mtu most_mtu)

abbrev pub most_fragments : ℕ
most_fragments = 1048576

-- a window holds so many groups, in words of 32 bits
abbrev pub window_size : ℕ
window_size = 1024

abbrev pub window_words : ℕ
window_words = 32

-- so many windows from the base on are open
abbrev pub free_windows : ℕ
free_windows = 32
