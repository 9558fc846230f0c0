-- Filters without HasZ, and tables whose types are all unknown.
use Rattle.std.specs.Prelude.{◌≡◌, true, ltb, length, replicate}
use Rattle.sedona_geometry.specs.Lists.{are_all}
use Rattle.sedona_expr.specs.SpatialFilter.{Filter, intersects, covers, has_z, and, or, literal_false, unknown}
use Rattle.sedona_expr.specs.Tables.{Boxes, Records}

-- No leaf is a HasZ.
abbrev pub NoHasZ : Filter → Type 0
NoHasZ (intersects c k) = Unit {0}
NoHasZ (covers c k) = Unit {0}
NoHasZ (has_z c) = ⊥
NoHasZ (and f g) = NoHasZ f × NoHasZ g
NoHasZ (or f g) = NoHasZ f × NoHasZ g
NoHasZ literal_false = Unit {0}
NoHasZ unknown = Unit {0}

-- The same boxes, and no type known.
abbrev pub types_unknown : Boxes → Records
types_unknown b = record { boxes = b; types = replicate (length b.flags) 0; known = replicate (length b.flags) 0 }

-- Nothing refuses the types of the records.
pub record TypesPass (r : Records) : Type 0 where
  pub types : length r.types ≡ length r.boxes.flags
  pub known : length r.known ≡ length r.boxes.flags
  pub bytes : are_all (λ b. ltb b 2) r.known ≡ true
