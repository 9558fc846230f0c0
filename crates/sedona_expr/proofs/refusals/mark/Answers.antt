-- `refusals::mark` meets its contract. Assumes nothing.
use native.Mathlib.Omega.{arith}
use Rattle.sedona_expr.proofs.Marks.{mark_counts}
use Rattle.sedona_expr.proofs.refusals.mark.Goals as goal

pub overflow_add-marks : goal.overflow_add-marks
overflow_add-marks c = record { fits = omega (arith, c.requires.0.1 c.args.node c.requires.1) }

pub returns : goal.returns
returns c = mark_counts c.args.marks.now c.args.node c.requires.0.0 c.requires.1
