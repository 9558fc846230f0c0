-- `tariff::put_fee` meets its contract. Assumes nothing.
use mathlib.Core.Path.{refl}
use borrow.Author.Tests.{ne_eqb}
use Rattle.scan_tariff.specs.Error.{number, number_is_not_zero}
use Rattle.johikape.specs.Boxes.{unless_refused}
use Rattle.johikape.proofs.tariff.put_fee.Goals as goal

pub returns-in-Ok : goal.returns-in-Ok
unfolding unless_refused
returns-in-Ok c = rw c.in-Ok.is (refl, refl)

pub returns-in-Err : goal.returns-in-Err
unfolding unless_refused
returns-in-Err c = rw (c.in-Err.is, ne_eqb (number c.in-Err.e) 0 (number_is_not_zero c.in-Err.e)) (c.number.ensures, refl)
