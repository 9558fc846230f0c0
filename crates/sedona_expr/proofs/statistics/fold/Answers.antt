-- `statistics::fold` meets its contract: a record more, a refusal, and the end. Assumes nothing.
use Rattle.std.proofs.Common.{rules, refl, Ok, Err}
use Rattle.sedona_expr.specs.Statistics.{step, folded, fold_from}
use Rattle.sedona_expr.proofs.Checked.{refusal_stays}
use Rattle.sedona_expr.proofs.Turns.{one_more, at_end}
use Rattle.sedona_expr.proofs.statistics.fold.Goals as goal

pub loop-next-preserved : goal.loop-next-preserved
unfolding fold_from
loop-next-preserved c =
    one_more step fold_from (λ f r rs. refl) c.args.records.now c.loop-next.next-index _ (folded (Ok c.loop-next.folded)) _ _ c.loop-next-test.true c.loop-next.invariant c.in_ok-fold_step.ensures

pub returns-in_err-fold_step : goal.returns-in_err-fold_step
unfolding fold_from
returns-in_err-fold_step c =
    let e = c.in_err-fold_step.field-0.0 in
    let all = one_more step fold_from (λ f r rs. refl) c.args.records.now c.loop-next.next-index _ (folded (Ok c.loop-next.folded)) (folded (Err e)) _ c.loop-next-test.true c.loop-next.invariant c.in_err-fold_step.ensures in
    rw (← all, refusal_stays e) (search rules)

pub returns : goal.returns
unfolding fold_from
returns c = at_end fold_from (λ f. refl) c.args.records.now c.loop-next.next-index (folded (Ok c.loop-next.folded)) _ c.loop-next-test.false c.loop-next.invariant
