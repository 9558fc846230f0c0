-- `layout::checked` meets its contract. Assumes nothing.
use Rattle.std.proofs.Common.{rules}
use borrow.Author.Tests.{ne_eqb}
use Rattle.sedona_geometry.specs.BoundingBox.{numbered}
use Rattle.geoparquet_bbox.specs.Error.{number}
use Rattle.geoparquet_bbox.specs.Error.{number_is_not_zero}
use Rattle.geoparquet_bbox.proofs.layout.checked.Goals as goal

pub returns-in_err-check_numbers : goal.returns-in_err-check_numbers
unfolding numbered
returns-in_err-check_numbers c =
    let e = c.in_err-check_numbers.field-0.0 in
    rw (← c.in_err-check_numbers.ensures, ne_eqb (number e) 0 (number_is_not_zero e)) (search rules)

pub returns : goal.returns
unfolding numbered
returns c = rw (← c.in_ok-check_numbers.ensures, c.plus_zero.ensures)
