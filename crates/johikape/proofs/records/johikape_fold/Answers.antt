-- `johikape_fold` meets its contract. Assumes nothing.
use mathlib.Core.Path.{refl}
use borrow.Author.Tests.{ne_eqb}
use Rattle.sedona_expr.specs.Error.{number, number_is_not_zero}
use Rattle.johikape.specs.Boxes.{unless_refused}
use Rattle.johikape.specs.Records.{lists, folded}
use Rattle.johikape.proofs.Lists.{lists_pass, number_of_fold, record_of_fold}
use Rattle.johikape.proofs.records.johikape_fold.Goals as goal

pub returns-in-Err : goal.returns-in-Err
unfolding unless_refused folded
returns-in-Err c = rw (← c.in-Err.ensures, ne_eqb (number c.in-Err.e) 0 (number_is_not_zero c.in-Err.e)) (c.number.ensures, rw (ne_eqb (number c.in-Err.e) 0 (number_is_not_zero c.in-Err.e)))

pub fold-requires : goal.fold-requires
fold-requires c = lists_pass (lists c.args.doubles.now c.args.totals.now c.args.types.now c.args.flags.now) 0 c.in_default.ensures refl

pub returns-in-Ok : goal.returns-in-Ok
unfolding unless_refused folded
returns-in-Ok c =
    rw (← c.in_default.ensures, ← c.in-Ok.ensures, number_of_fold c.in-Ok.folded, record_of_fold c.in-Ok.folded)
    (refl, rw (c.unwrap_or-rec.ensures, c.unspecified.ensures) at c.put_record.ensures)

pub returns-in-Err-fold : goal.returns-in-Err-fold
unfolding unless_refused folded
returns-in-Err-fold c =
    let e = c.in-Err-fold.e in
    rw (← c.in_default.ensures, ← c.in-Err-fold.ensures, ne_eqb (number e) 0 (number_is_not_zero e)) (c.number-in-Err-fold.ensures, refl)
