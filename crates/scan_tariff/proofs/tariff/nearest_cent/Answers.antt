-- `tariff::nearest_cent` meets its contract: what is left over is compared with half of 2^30, where the definition doubles it. Assumes
use Prim.Native.Nat.{◌*◌, ◌/◌, ◌%◌}
use native.Mathlib.Numerals.{add-one}
use native.Mathlib.Omega.{arith}
use borrow.Author.Tests.{lt-ltb, le-ltb}
use Rattle.scan_tariff.specs.Tariff.{gib, nearest_cent}
use Rattle.scan_tariff.proofs.tariff.nearest_cent.Goals as goal

pub returns-then-exact-lt-HALF_A_GIB : goal.returns-then-exact-lt-HALF_A_GIB
unfolding nearest_cent
returns-then-exact-lt-HALF_A_GIB c = rw (lt-ltb (2 * (c.args.exact % gib)) gib (omega (arith, c.if-exact-lt-HALF_A_GIB.true)))

pub returns : goal.returns
unfolding nearest_cent
returns c = rw (le-ltb (2 * (c.args.exact % gib)) gib (omega (arith, c.if-exact-lt-HALF_A_GIB.false))) (add-one (c.args.exact / gib))
