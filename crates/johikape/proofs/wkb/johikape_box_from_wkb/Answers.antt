-- `johikape_box_from_wkb` meets its contract. Assumes nothing.
use mathlib.Core.Path.{refl}
use borrow.Author.Tests.{ne_eqb}
use Rattle.sedona_wkb.specs.Error.{number, number_is_not_zero}
use Rattle.johikape.specs.Boxes.{unless_refused}
use Rattle.johikape.proofs.wkb.johikape_box_from_wkb.Goals as goal

pub returns-in-Ok : goal.returns-in-Ok
unfolding unless_refused
returns-in-Ok c = rw (← c.wkb_bounds.ensures, c.in-Ok.is) ((refl, c.put.ensures), c.bits.ensures)

pub returns-in-Err : goal.returns-in-Err
unfolding unless_refused
returns-in-Err c =
    rw (← c.wkb_bounds.ensures, c.in-Err.is, ne_eqb (number c.in-Err.e) 0 (number_is_not_zero c.in-Err.e)) ((c.number.ensures, (refl, refl)), refl)
