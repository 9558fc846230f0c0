-- `WraparoundInterval::both_rise` meets its contract. Assumes nothing.
use mathlib.Core.Path.{refl}
use borrow.Author.Rules.{rules}
use Rattle.sedona_geometry.specs.Within.{both_rise}
use Rattle.sedona_geometry.proofs.interval.WraparoundInterval.both_rise.Goals as goal

pub returns : goal.returns
unfolding both_rise
returns c = (refl, (record { lo = search rules; hi = search rules }, record { lo = search rules; hi = search rules }))
