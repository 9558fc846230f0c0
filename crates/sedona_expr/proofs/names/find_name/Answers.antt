-- `names::find_name` meets its contract: behind the names that are no hit, the search is as much further. Assumes nothing.
use mathlib.Core.Path.{◌≡◌, sym, ◌∙◌}
use native.Mathlib.Omega.{arith}
use lib.ListN.{length}
use Rattle.sedona_expr.proofs.Searches.{same_search, find_hit, find_next, find_end}
use Rattle.sedona_expr.proofs.names.find_name.Goals as goal

pub loop-i-init : goal.loop-i-init
loop-i-init c = c.passed_over-i.ensures.1

pub returns-then-names-i : goal.returns-then-names-i
returns-then-names-i c =
    let args = c.args in
    let loop = c.loop-i in
    sym (loop.invariant ∙ find_hit args.names.now loop.i args.name (omega arith) c.if-names-i.true)

pub loop-i-preserved : goal.loop-i-preserved
loop-i-preserved c =
    let args = c.args in
    let loop = c.loop-i in
    loop.invariant ∙ find_next args.names.now loop.i args.name (omega arith) c.if-names-i.false

pub returns : goal.returns
returns c =
    let args = c.args in
    let loop = c.loop-i in
    let end : loop.i ≡ length args.names.now = omega (arith, c.passed_over-i.ensures.0) in
    sym (loop.invariant ∙ (find_end args.names.now loop.i args.name c.loop-i-test.false ∙ same_search end end))
