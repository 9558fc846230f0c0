-- The type set of types.rs, method by method.
use Rattle.std.specs.Prelude.{Bool, ℕ, eqb}
use Rattle.std.specs.Int.Bits.{bit_or}
use Rattle.std.specs.Int.Count as count
use Rattle.sedona_geometry.specs.Bits.{has_bit}
use Rattle.sedona_geometry.specs.declared.types.GeometryTypeAndDimensionsSet.{GeometryTypeAndDimensionsSet}

abbrev pub from_bits : ℕ → GeometryTypeAndDimensionsSet
from_bits n = record { types = n }

abbrev pub new : GeometryTypeAndDimensionsSet
new = from_bits 0

abbrev pub bits : GeometryTypeAndDimensionsSet → ℕ
bits s = s.types

abbrev pub merge : GeometryTypeAndDimensionsSet → GeometryTypeAndDimensionsSet → GeometryTypeAndDimensionsSet
merge s t = from_bits (bit_or s.types t.types)

abbrev pub is_empty : GeometryTypeAndDimensionsSet → Bool
is_empty s = eqb s.types 0

-- How many bits are set.
abbrev pub size : GeometryTypeAndDimensionsSet → ℕ
size s = count.ones s.types

abbrev pub clear : GeometryTypeAndDimensionsSet → GeometryTypeAndDimensionsSet
clear s = new

-- The set has the type of bit k.
abbrev pub has : GeometryTypeAndDimensionsSet → ℕ → Bool
has s k = has_bit s.types k
