-- `spatial_filter::evaluate` meets its contract. Assumes nothing.
use mathlib.Core.Path.{sym}
use native.Mathlib.Omega.{arith}
use Rattle.sedona_expr.specs.Spelled.{table, records, lookup}
use Rattle.sedona_expr.specs.Calls.{outcome}
use Rattle.sedona_expr.proofs.Passing.{refused, refusal_pass}
use Rattle.sedona_expr.proofs.spatial_filter.evaluate.Goals as goal

pub returns-in_err-refusal : goal.returns-in_err-refusal
returns-in_err-refusal c = refused _ _ _ c.from_residual.ensures.1 c.in_err-refusal.ensures

pub overflow_sub-root : goal.overflow_sub-root
overflow_sub-root c =
    let args = c.args in
    rw c.count.ensures (refusal_pass (lookup args.lookup) (table args.table.now) (records args.records.now) (sym c.in_ok-refusal.ensures)).0

pub overflow_cast-root : goal.overflow_cast-root
overflow_cast-root c =
    let args = c.args in
    record { fits = omega (arith, (refusal_pass (lookup args.lookup) (table args.table.now) (records args.records.now) (sym c.in_ok-refusal.ensures)).1) }

pub may_match-requires : goal.may_match-requires
may_match-requires c =
    let args = c.args in
    omega (arith, (refusal_pass (lookup args.lookup) (table args.table.now) (records args.records.now) (sym c.in_ok-refusal.ensures)).0)

pub returns-then-may_match : goal.returns-then-may_match
unfolding outcome
returns-then-may_match c = rw (← c.in_ok-refusal.ensures, ← c.count.ensures, ← c.may_match.ensures, c.if-may_match.true)

pub returns-else-may_match : goal.returns-else-may_match
unfolding outcome
returns-else-may_match c = rw (← c.in_ok-refusal.ensures, ← c.count.ensures, ← c.may_match.ensures, c.if-may_match.false)
