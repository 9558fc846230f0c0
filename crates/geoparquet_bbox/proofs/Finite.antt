-- Finite numbers: by their absolute value, and as numbers. Assumes nothing.
use mathlib.Core.Path.{◌≡◌, refl}
use mathlib.Core.Bool.{true, false}
use lib.Ieee.{Float, nan, inf, fin, lt}
use Rattle.sedona_geometry.specs.Float.{abs}
use Rattle.sedona_geometry.proofs.Booleans.{holds}
use Rattle.sedona_geometry.proofs.Order.{Number, finite}
use Rattle.sedona_geometry.proofs.PlusZero.{Alike, same, zeros}
use Rattle.geoparquet_bbox.specs.Layout.{is_finite}

-- a number is finite where its absolute value is below infinity
pub below_infinity : (v : Float) → lt (abs v) (inf false) ≡ is_finite v
unfolding abs lt is_finite
below_infinity nan = refl
below_infinity (inf s) = refl
below_infinity (fin s m e) = refl

pub finite_number : (v : Float) → is_finite v ≡ true → Number v
unfolding is_finite
finite_number nan e = absurd (holds e)
finite_number (inf s) e = absurd (holds e)
finite_number (fin s m e) h = finite

-- a zero's sign does not matter to it
pub finite_alike : {v w : Float} → Alike v w → is_finite v ≡ is_finite w
unfolding is_finite
finite_alike same = refl
finite_alike zeros = refl
