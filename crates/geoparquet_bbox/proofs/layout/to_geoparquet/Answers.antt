-- `layout::to_geoparquet` meets its contract. Assumes nothing.
use Rattle.std.proofs.Common.{rules}
use borrow.Author.Tests.{ne_eqb}
use Rattle.geoparquet_bbox.specs.Error.{number}
use Rattle.geoparquet_bbox.specs.Layout.{to_geoparquet}
use Rattle.geoparquet_bbox.specs.Error.{number_is_not_zero}
use Rattle.geoparquet_bbox.proofs.layout.to_geoparquet.Goals as goal

pub returns-in_err-check_box : goal.returns-in_err-check_box
unfolding to_geoparquet
returns-in_err-check_box c =
    let e = c.in_err-check_box.field-0.0 in
    rw (← c.in_err-check_box.ensures, ne_eqb (number e) 0 (number_is_not_zero e)) (search rules)

pub returns : goal.returns
unfolding to_geoparquet
returns c = rw (← c.in_ok-check_box.ensures, c.laid_out.ensures, c.plus_zero-plus.ensures)
