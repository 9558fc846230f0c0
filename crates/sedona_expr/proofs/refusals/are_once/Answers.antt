-- `refusals::are_once` meets its contract. Assumes nothing.
use mathlib.Core.Path.{◌∙◌}
use lib.Dec.{eqb}
use lib.ListN.{take}
use borrow.Author.Rules.{rules}
use native.Mathlib.Omega.{arith}
use Rattle.std.proofs.Common.{tests}
use Rattle.std.proofs.lemmas.Iterator.{YieldsList-from_slice}
use Rattle.std.proofs.lemmas.Iterator.Search.{all_from_yields_List}
use Rattle.sedona_expr.proofs.Marks.{all_first}
use Rattle.sedona_expr.proofs.refusals.are_once.Goals as goal

pub returns : goal.returns
returns c =
    let marks = c.args.marks.now in
    let all = all_from_yields_List (λ m. eqb m 1) _ _ c.all.result c.all.ensures.ran (YieldsList-from_slice (take c.args.n marks) cc) (λ x b q k. search (rules, tests)) in
    all ∙ all_first (λ m. eqb m 1) marks c.args.n 0 (omega (arith, c.requires, c.told-marks))
