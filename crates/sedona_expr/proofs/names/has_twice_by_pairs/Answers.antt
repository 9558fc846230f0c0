-- `names::has_twice_by_pairs` meets its contract: the names so far differ. Assumes nothing.
use mathlib.Core.Path.{sym, ◌∙◌}
use native.Mathlib.Omega.{arith}
use Rattle.sedona_expr.proofs.Twice.{differ_next, differ_all, hit_before, none_before}
use Rattle.sedona_expr.proofs.names.has_twice_by_pairs.Goals as goal

pub loop-i-init : goal.loop-i-init
loop-i-init c = λ j h. absurd (omega arith)

pub returns-then-comes_before : goal.returns-then-comes_before
returns-then-comes_before c = sym (hit_before c.args.names.now c.loop-i.i (omega arith) (sym c.comes_before.ensures ∙ c.if-comes_before.true))

pub loop-i-preserved : goal.loop-i-preserved
loop-i-preserved c =
    let names = c.args.names.now in
    let loop = c.loop-i in
    differ_next names loop.i loop.invariant (none_before names loop.i (omega arith) (sym c.comes_before.ensures ∙ c.if-comes_before.false))

pub returns : goal.returns
returns c = sym (differ_all c.args.names.now c.loop-i.i (omega arith) c.loop-i.invariant)
