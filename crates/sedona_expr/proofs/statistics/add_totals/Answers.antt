-- `statistics::add_totals` meets its contract. Assumes nothing.
use Rattle.std.proofs.Common.{rules, ◌+ℤ◌, w64}
use mir.Val.{SFits}
use mir.Facts.{to_z-of_z}
use Rattle.sedona_expr.specs.Statistics.{sum_is_outside, add_totals}
use Rattle.sedona_expr.specs.Within.{checked_total}
use Rattle.sedona_expr.proofs.Whole.{outside_if_none, stays_if_some, stays_fits}
use Rattle.sedona_expr.proofs.statistics.add_totals.Goals as goal

pub returns-in_err-ok_or-in-Some-Some : goal.returns-in_err-ok_or-in-Some-Some
unfolding checked_total sum_is_outside
returns-in_err-ok_or-in-Some-Some c =
    let p = c.in-Some-Some in
    let A : SFits w64 p.a = search rules in
    let B : SFits w64 p.b = search rules in
    let o = outside_if_none (p.a +ℤ p.b) (rw (to_z-of_z A, to_z-of_z B) at c.checked_add.ensures) c.in_err-ok_or-in-Some-Some.ensures.ok_part in
    rw (p.is-0, p.is-1, o) (search rules)

pub returns-in_ok-ok_or-in-Some-Some : goal.returns-in_ok-ok_or-in-Some-Some
unfolding checked_total sum_is_outside add_totals
returns-in_ok-ok_or-in-Some-Some c =
    let p = c.in-Some-Some in
    let A : SFits w64 p.a = search rules in
    let B : SFits w64 p.b = search rules in
    let s = stays_if_some (p.a +ℤ p.b) (rw (to_z-of_z A, to_z-of_z B) at c.checked_add.ensures) c.in_ok-ok_or-in-Some-Some.ensures.ok_part in
    rw (p.is-0, p.is-1, s.0, s.1, to_z-of_z (stays_fits (p.a +ℤ p.b) s.0))

pub returns-in_default : goal.returns-in_default
unfolding checked_total sum_is_outside add_totals
returns-in_default c = rw (c.in_default.is-0, c.in_default.is-1)

pub returns-in_default-2 : goal.returns-in_default-2
unfolding checked_total sum_is_outside add_totals
returns-in_default-2 c = rw (c.in_default.is-0)
