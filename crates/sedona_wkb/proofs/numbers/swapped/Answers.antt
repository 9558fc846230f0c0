-- `numbers::swapped` meets its contract. Assumes nothing.
use native.Mathlib.Omega.{arith}
use Rattle.sedona_wkb.specs.Numbers.{value_of, bytes_of}
use Rattle.sedona_wkb.proofs.numbers.swapped.Goals as goal

pub returns : goal.returns
unfolding value_of bytes_of
returns c = omega arith
