-- `refusals::are_zero_or_one` meets its contract: what is found so far, and the rest. Assumes nothing.
use mathlib.Core.Path.{◌≡◌}
use mathlib.Core.Bool.{Bool, ◌&&◌}
use Prim.Native.Nat.{ℕ}
use lib.Dec.{ltb}
use lib.ListN.{drop}
use Rattle.sedona_geometry.specs.Lists.{are_all}
use Rattle.sedona_expr.proofs.refusals.are_zero_or_one.Given as goal

-- A flag is 0 or 1.
abbrev pub good_byte : ℕ → Bool
good_byte b = ltb b 2

abbrev pub invariant-loop-byte : goal.invariant-loop-byte
invariant-loop-byte l = are_all good_byte l.bytes ≡ (l.good && are_all good_byte (drop l.byte-index l.bytes))
