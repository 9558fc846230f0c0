-- `johikape_merge` meets its contract. Assumes nothing.
use mathlib.Core.Path.{refl}
use borrow.Author.Tests.{ne_eqb}
use Rattle.sedona_expr.specs.Error.{number, number_is_not_zero}
use Rattle.johikape.specs.Boxes.{unless_refused}
use Rattle.johikape.specs.Records.{merged}
use Rattle.johikape.proofs.records.johikape_merge.Goals as goal

pub returns-then-not-are_good : goal.returns-then-not-are_good
unfolding unless_refused merged
returns-then-not-are_good c = rw (← c.are_good.ensures, c.if-not-are_good.true) (c.number.ensures, refl)

pub returns-then-not-are_good-2 : goal.returns-then-not-are_good-2
unfolding unless_refused merged
returns-then-not-are_good-2 c = rw (← c.are_good.ensures, c.if-not-are_good.false, ← c.are_good-2.ensures, c.if-not-are_good-2.true) (c.number-then-not-are_good-2.ensures, refl)

pub returns-in-Ok : goal.returns-in-Ok
unfolding unless_refused merged
returns-in-Ok c =
    rw (← c.are_good.ensures, c.if-not-are_good.false, ← c.are_good-2.ensures, c.if-not-are_good-2.false, ← c.read-a.ensures, ← c.read-b.ensures, ← c.merge_value.ensures, c.in-Ok.is)
    (refl, c.put_record.ensures)

pub returns-in-Err : goal.returns-in-Err
unfolding unless_refused merged
returns-in-Err c =
    let e = c.in-Err.e in
    rw (← c.are_good.ensures, c.if-not-are_good.false, ← c.are_good-2.ensures, c.if-not-are_good-2.false, ← c.read-a.ensures, ← c.read-b.ensures, ← c.merge_value.ensures, c.in-Err.is, ne_eqb (number e) 0 (number_is_not_zero e))
    (c.number-in-Err.ensures, refl)
