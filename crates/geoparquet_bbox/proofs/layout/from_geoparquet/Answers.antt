-- `layout::from_geoparquet` meets its contract. Assumes nothing.
use Rattle.std.proofs.Common.{◌≡◌, length}
use native.Mathlib.Omega.{arith}
use borrow.Author.Tests.{eq-eqb, ne_eqb}
use Rattle.sedona_geometry.specs.BoundingBox.{numbered}
use Rattle.geoparquet_bbox.specs.Layout.{box_of, array_refusal, from_geoparquet}
use Rattle.geoparquet_bbox.proofs.layout.from_geoparquet.Goals as goal

pub returns-in-len4 : goal.returns-in-len4
unfolding box_of array_refusal from_geoparquet
returns-in-len4 c =
    let e : length c.args.array.now ≡ 4 = omega (arith, c.in-len4.len_at_least, c.in-len4.len_below) in
    rw (eq-eqb _ _ e, c.checked.ensures, c.xy.ensures, c.from_interval.ensures, c.new.ensures, c.new-in-len4.ensures)

pub returns-in-len6 : goal.returns-in-len6
unfolding box_of array_refusal from_geoparquet
returns-in-len6 c =
    let e : length c.args.array.now ≡ 6 = omega (arith, c.in-len6.len_at_least, c.in-len6.len_below) in
    rw (e, c.checked-in-len6.ensures, c.xyzm.ensures, c.from_interval-in-len6.ensures, c.new-in-len6.ensures, c.new-in-len6-2.ensures, c.new-in-len6-3.ensures)

pub returns-in_default : goal.returns-in_default
unfolding numbered array_refusal from_geoparquet
returns-in_default c =
    rw (ne_eqb (length c.args.array.now) 4 (λ e. omega (arith, c.in_default.len_below, e)), ne_eqb (length c.args.array.now) 6 (λ e. omega (arith, c.in_default.len_below, e)))

pub returns-in_default-2 : goal.returns-in_default-2
unfolding numbered array_refusal from_geoparquet
returns-in_default-2 c =
    let d = c.in_default in
    rw (ne_eqb (length c.args.array.now) 4 (λ e. omega (arith, d.len_at_least, e)), ne_eqb (length c.args.array.now) 6 (λ e. omega (arith, d.len_below, e)))

pub returns-in_default-3 : goal.returns-in_default-3
unfolding numbered array_refusal from_geoparquet
returns-in_default-3 c =
    let d = c.in_default in
    rw (ne_eqb (length c.args.array.now) 4 (λ e. omega (arith, d.len_at_least, e)), ne_eqb (length c.args.array.now) 6 (λ e. omega (arith, d.len_at_least, e)))
