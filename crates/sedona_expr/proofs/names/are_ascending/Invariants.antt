-- `names::are_ascending` meets its contract: what is found so far, and the rest. Assumes nothing.
use mathlib.Core.Path.{◌≡◌}
use mathlib.Core.Bool.{◌&&◌}
use Prim.Native.Nat.{◌-◌}
use lib.ListN.{drop}
use Rattle.sedona_expr.specs.Within.{ascends}
use Rattle.sedona_expr.proofs.names.are_ascending.Given as goal

abbrev pub invariant-loop-i : goal.invariant-loop-i
invariant-loop-i l = ascends l.names ≡ (l.good && ascends (drop (l.i - 1) l.names))
