-- `tables::box_with` meets its contract. Assumes nothing.
use Rattle.sedona_expr.specs.Tables.{box_with}
use Rattle.sedona_geometry.proofs.Options.{by_flag}
use Rattle.sedona_expr.proofs.tables.box_with.Goals as goal

pub returns : goal.returns
unfolding box_with
returns c =
    let interval_at = c.interval_at-x in
    let interval_at2 = c.interval_at-y in
    let interval_at3 = c.interval_at-z in
    let interval_at4 = c.interval_at-m in
    let from_interval = c.from_interval in
    let xyzm = c.xyzm in
    rw (xyzm.ensures, c.then_some.ensures, c.then_some-2.ensures, by_flag, by_flag, from_interval.ensures, interval_at4.ensures, interval_at3.ensures, interval_at2.ensures, interval_at.ensures)
