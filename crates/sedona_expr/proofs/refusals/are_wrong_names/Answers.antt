-- `refusals::are_wrong_names` meets its contract. Assumes nothing.
use Rattle.sedona_expr.specs.Refusals.{wrong_names}
use Rattle.sedona_expr.proofs.refusals.are_wrong_names.Goals as goal

pub returns-in-ByPosition : goal.returns-in-ByPosition
unfolding wrong_names
returns-in-ByPosition c = rw c.in-ByPosition.is

pub returns-in-ByName : goal.returns-in-ByName
unfolding wrong_names
returns-in-ByName c = rw c.in-ByName.is
