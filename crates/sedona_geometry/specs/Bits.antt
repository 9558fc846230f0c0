-- The bits of a whole number.
use Rattle.std.specs.Prelude.{Bool, ℕ, ◌/◌, ◌%◌, ◌^◌, eqb}
use Rattle.std.specs.Int.Bits.{bit_or}

-- Bit k is set.
abbrev pub has_bit : ℕ → ℕ → Bool
has_bit n k = eqb (n / 2 ^ k % 2) 1

-- With bit k set.
abbrev pub with_bit : ℕ → ℕ → ℕ
with_bit n k = bit_or n (2 ^ k)
