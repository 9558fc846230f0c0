-- `bounds::types_of` meets its contract. Assumes nothing.
use Prim.Native.Nat.{◌+◌, ◌*◌, ◌^◌}
use native.Mathlib.Nat.{one-mul, mod-eq_of_lt}
use native.Mathlib.Omega.{arith}
use lib.Pow.{pow-lt}
use Rattle.sedona_wkb.specs.Bounds.{types_of}
use Rattle.sedona_wkb.proofs.bounds.types_of.Goals as goal

pub returns : goal.returns
unfolding types_of
returns c =
    let args = c.args in
    let n = args.kind + 8 * args.dims in
    rw (c.from_bits.ensures, one-mul (2 ^ n), mod-eq_of_lt (pow-lt {i = n} {j = 32} (omega (arith, c.requires.0, c.requires.1))))
