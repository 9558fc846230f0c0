-- `GeoStatistics::merge` meets its contract. Assumes nothing.
use Rattle.std.proofs.Common.{rules, refl}
use borrow.Author.Tests.{ne_eqb}
use Rattle.sedona_expr.specs.Error as error
use Rattle.sedona_expr.specs.Statistics.{merge_or_keep}
use Rattle.sedona_expr.specs.Error.{number_is_not_zero}
use Rattle.sedona_expr.proofs.statistics.GeoStatistics.merge.Goals as goal

pub returns-in_err-self : goal.returns-in_err-self
unfolding merge_or_keep
returns-in_err-self c =
    let e = c.in_err-self.field-0.0 in
    rw (← c.merge_value.ensures, c.in_err-self.was, ne_eqb (error.number e) 0 (number_is_not_zero e)) (search rules, refl)

pub returns : goal.returns
unfolding merge_or_keep
returns c = rw (← c.merge_value.ensures, c.in_ok-self.was) (refl, refl)
