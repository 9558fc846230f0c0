-- `johikape_box_to_geoparquet` meets its contract. Assumes nothing.
use mathlib.Core.Path.{refl}
use Rattle.johikape.specs.Boxes.{unless_refused}
use Rattle.johikape.specs.Layouts.{laid_out}
use Rattle.johikape.proofs.layouts.johikape_box_to_geoparquet.Goals as goal

pub returns-in_default : goal.returns-in_default
unfolding laid_out unless_refused
returns-in_default c = rw (← c.read.ensures, c.in_default.is) (c.number.ensures, (refl, refl))

pub returns : goal.returns
unfolding laid_out
returns c = rw (← c.read.ensures, c.in-Some.is, ← c.to_geoparquet.ensures) c.put_array.ensures
