-- What may be missing: parts handed on, and made of two, by what the code does with those that are known. Assumes nothing.
use Rattle.std.specs.Prelude.{◌≡◌, refl, Option, Some, None, MatchOption, IsSomeAnd, Float}
use Rattle.std.specs.Option.{option_zip}
use Rattle.std.specs.Float.{binary64}
use Rattle.std.specs.Float.Ieee.{add}
use mathlib.Core.Path.{subst}
use Rattle.sedona_geometry.specs.BoundingBox as bounding_box
use Rattle.sedona_geometry.specs.declared.bounding_box.BoundingBox.{BoundingBox}
use Rattle.sedona_geometry.specs.Error as error
use Rattle.sedona_geometry.specs.declared.error.Refusal.{Refusal}
use Rattle.sedona_geometry.specs.declared.error.Refusal.TheVariants.{TwoParts, Wrapped}
use Rattle.sedona_expr.specs.SpatialFilter.{or_full, full}
use Rattle.sedona_expr.specs.Statistics.{plus_zero_where_known, add_extents}

pub handed_on : {r : Option BoundingBox} (a : Option BoundingBox) → MatchOption a (r ≡ None) (λ b. IsSomeAnd r (λ c. c ≡ bounding_box.plus_zero b)) → r ≡ plus_zero_where_known a
handed_on None h = h
handed_on {r = Some c} (Some b) h = rw h
handed_on {r = None} (Some b) h = elim h [ ]

-- `P` is what the step says of the two lengths and its result.
pub extents_added : {r : Option Float} {o : Option (Float × Float)} {P : Float × Float → Float → Type 0} (a b : Option Float)
    → o ≡ option_zip a b → MatchOption o (r ≡ None) (λ p. IsSomeAnd r (P p)) → ((p : Float × Float) (x : Float) → P p x → x ≡ add binary64 p.0 p.1) → r ≡ add_extents a b
unfolding add_extents
extents_added {r} {P = P} a b z h k = by_cases r a b (subst (λ o. MatchOption o (r ≡ None) (λ p. IsSomeAnd r (P p))) z h) where
  by_cases : (r a b : Option Float) → MatchOption (option_zip a b) (r ≡ None) (λ p. IsSomeAnd r (P p)) → r ≡ add_extents a b
  by_cases r None b h = h
  by_cases r (Some i) None h = h
  by_cases (Some m) (Some i) (Some j) h = rw (k _ _ h)
  by_cases None (Some i) (Some j) h = elim h [ ]

-- A refused intersection leaves all.
pub all_if_refused : (e : Refusal) → or_full (bounding_box.refused (error.number e)) ≡ full
unfolding or_full
all_if_refused TwoParts = refl
all_if_refused Wrapped = refl
