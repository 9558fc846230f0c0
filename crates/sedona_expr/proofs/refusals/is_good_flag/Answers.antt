-- `refusals::is_good_flag` meets its contract. Assumes nothing.
use mathlib.Core.Path.{refl}
use Rattle.sedona_expr.specs.Refusals.{good_flag}
use Rattle.sedona_expr.proofs.refusals.is_good_flag.Goals as goal

pub returns : goal.returns
unfolding good_flag
returns c = refl
