-- `spatial_filter::filter_bbox` meets its contract. Assumes nothing.
use Rattle.std.proofs.Common.{rules}
use mathlib.Core.Path.{sym}
use native.Mathlib.Omega.{arith}
use borrow.Author.Tests.{ne_eqb}
use Rattle.sedona_geometry.specs.BoundingBox.{numbered}
use Rattle.sedona_expr.specs.Error.{number}
use Rattle.sedona_expr.specs.Spelled.{table}
use Rattle.sedona_expr.specs.Error.{number_is_not_zero}
use Rattle.sedona_expr.proofs.Passing.{box_refusal_pass}
use Rattle.sedona_expr.proofs.spatial_filter.filter_bbox.Goals as goal

pub returns-in_err-box_refusal : goal.returns-in_err-box_refusal
unfolding numbered
returns-in_err-box_refusal c =
    let e = c.in_err-box_refusal.field-0.0 in
    rw (← c.in_err-box_refusal.ensures, ne_eqb (number e) 0 (number_is_not_zero e)) (search rules)

pub overflow_sub-root : goal.overflow_sub-root
overflow_sub-root c =
    rw c.count.ensures (box_refusal_pass (table c.args.table.now) (sym c.in_ok-box_refusal.ensures)).0

pub overflow_cast-root : goal.overflow_cast-root
overflow_cast-root c =
    record { fits = omega (arith, (box_refusal_pass (table c.args.table.now) (sym c.in_ok-box_refusal.ensures)).1) }

pub box_for-requires : goal.box_for-requires
box_for-requires c =
    omega (arith, (box_refusal_pass (table c.args.table.now) (sym c.in_ok-box_refusal.ensures)).0)

pub returns : goal.returns
unfolding numbered
returns c = rw (← c.in_ok-box_refusal.ensures, ← c.count.ensures, c.plus_zero.ensures, c.box_for.ensures)
