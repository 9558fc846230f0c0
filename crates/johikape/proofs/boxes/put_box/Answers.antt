-- `boxes::put_box` meets its contract. Assumes nothing.
use mathlib.Core.Path.{refl}
use borrow.Author.Tests.{ne_eqb}
use Rattle.johikape.specs.Boxes.{unless_refused}
use Rattle.johikape.proofs.boxes.put_box.Goals as goal

pub returns-in-Ok : goal.returns-in-Ok
unfolding unless_refused
returns-in-Ok g c = rw c.in-Ok.is (refl, c.put.ensures)

pub returns-in-Err : goal.returns-in-Err
unfolding unless_refused
returns-in-Err g c =
    let e = c.in-Err.e in
    rw (c.in-Err.is, ne_eqb (g.E.Numbered.number e) 0 (g.met.E.Numbered.not_zero e)) (c.number.ensures, (refl, refl))
