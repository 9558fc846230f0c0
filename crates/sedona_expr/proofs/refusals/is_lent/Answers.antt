-- `refusals::is_lent` meets its contract: a u32 is below `any`. Assumes nothing.
use mathlib.Core.Path.{◌≡◌, refl}
use mathlib.Core.Bool.{Bool, true, false, ◌||◌}
use Prim.Native.Nat.{ℕ, ◌^◌, ◌<◌}
use native.Mathlib.Omega.{arith}
use lib.Dec.{eqb, ltb}
use borrow.Author.Tests.{eqb-true, lt-ltb}
use Rattle.sedona_expr.specs.Refusals.{any, is_lent}
use Rattle.sedona_expr.proofs.refusals.is_lent.Goals as goal

below_any : (count i : ℕ) → i < 2 ^ 32 → ltb i count ≡ is_lent count i
unfolding is_lent
below_any count i h = go (eqb count any) refl
  where
    go : (b : Bool) → eqb count any ≡ b → ltb i count ≡ (b || ltb i count)
    go true e = lt-ltb i count (omega (arith, eqb-true count any e))
    go false e = refl

pub returns : goal.returns
returns c = below_any c.args.count c.args.number (omega (arith, c.ranges.number))
