-- `names::has_twice_by_marks` meets its contract: the names so far differ, and have their marks set. Assumes nothing.
use mathlib.Core.Path.{◌≡◌}
use Prim.Native.Nat.{ℕ, ◌/◌, ◌%◌}
use lib.ListN.{length}
use Rattle.sedona_expr.proofs.Twice.{Differ, Marked}
use Rattle.sedona_expr.specs.Within.{mark_of}
use Rattle.sedona_expr.proofs.names.has_twice_by_marks.Given as goal

-- Where a name's mark is.
abbrev pub word : ℕ → ℕ
word n = mark_of n / 64

abbrev pub bit : ℕ → ℕ
bit n = mark_of n % 64

abbrev pub invariant-loop-i : goal.invariant-loop-i
invariant-loop-i l = (length l.marks ≡ 512) × (Differ l.names l.i × Marked word bit l.marks l.names l.i)
