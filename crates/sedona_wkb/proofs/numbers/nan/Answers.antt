-- `numbers::nan` meets its contract. Assumes nothing.
use mathlib.Core.Path.{refl}
use lib.Ieee.{div, of_bits}
use Rattle.sedona_wkb.proofs.numbers.nan.Goals as goal

pub returns : goal.returns
unfolding div of_bits
returns c = refl
