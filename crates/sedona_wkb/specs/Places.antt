-- What contracts of private functions alone cite. Who reads the calls and the theorems need not read it: none of them rests on it.
-- Here: what stands at a place of a list of bytes, as the code asks for it. (What bytes spell is Wkb's to say.)
use Rattle.std.specs.Prelude.{Bool, true, false, cond, List, [], ◌∷◌, ℕ, zero, suc, ◌+◌, Float, take, drop, Option, Some, None}
use Rattle.std.specs.Float.{binary64}
use Rattle.std.specs.Float.Ieee.{of_bits}
use Rattle.sedona_wkb.specs.Numbers.{value_of, ordered}
use Rattle.sedona_wkb.specs.Wkb.{Coordinate, has_z, has_m}
use Rattle.sedona_wkb.specs.declared.heads.Head.{Head}

-- The number of the n bytes from a place on.
abbrev pub number_at : Bool → ℕ → List ℕ → ℕ → ℕ
number_at low n s at = value_of (ordered low (take n (drop at s)))

-- The double of the eight bytes from a place on.
abbrev pub double_at : Bool → List ℕ → ℕ → Float
double_at low s at = of_bits binary64 (number_at low 8 s at)

-- A z or an m, where there is one.
unfoldable pub double_where : Bool → Bool → List ℕ → ℕ → Option Float
double_where true low s at = Some (double_at low s at)
double_where false low s at = None

-- How many bytes it has, and how many a coordinate.
unfoldable pub width_where : Bool → ℕ
width_where has = cond has 8 0

abbrev pub width : ℕ → ℕ
width d = 8 + (8 + (width_where (has_z d) + width_where (has_m d)))

abbrev pub coordinate_at : Head → List ℕ → ℕ → Coordinate
coordinate_at h s at =
    record {
      x = double_at h.low s at;
      y = double_at h.low s (at + 8);
      z = double_where (has_z h.dims) h.low s (at + 8 + 8);
      m = double_where (has_m h.dims) h.low s (at + 8 + 8 + width_where (has_z h.dims));
    }

-- So many coordinates from a place on.
unfoldable pub coordinates_at : Head → List ℕ → ℕ → ℕ → List Coordinate
coordinates_at h s at zero = []
coordinates_at h s at (suc n) = coordinate_at h s at ∷ coordinates_at h s (at + width h.dims) n
