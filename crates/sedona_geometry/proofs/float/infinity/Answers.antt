-- `float::infinity` meets its contract: 1 / 0 computes. Assumes nothing.
use mathlib.Core.Path.{refl}
use lib.Ieee.{div, of_bits}
use Rattle.sedona_geometry.proofs.float.infinity.Goals as goal

pub returns : goal.returns
unfolding div of_bits
returns c = refl
