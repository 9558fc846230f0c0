-- Numbers by their bytes, in either byte order: true is the low byte first.
use Rattle.std.specs.Prelude.{Bool, cond, List, [], ◌∷◌, reverse, ℕ, zero, suc, ◌+◌, ◌*◌, ◌%◌, ◌/◌}

-- The number of some bytes, the low byte first.
unfoldable pub value_of : List ℕ → ℕ
value_of [] = 0
value_of (b ∷ bs) = b + 256 * value_of bs

-- The n low bytes of a number, the low byte first.
unfoldable pub bytes_of : ℕ → ℕ → List ℕ
bytes_of zero v = []
bytes_of (suc n) v = v % 256 ∷ bytes_of n (v / 256)

-- Bytes between a byte order and the low byte first; the same both ways.
unfoldable pub ordered : Bool → List ℕ → List ℕ
ordered low bs = cond low bs (reverse bs)
