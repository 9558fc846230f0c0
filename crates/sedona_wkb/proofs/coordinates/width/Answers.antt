-- `coordinates::width` meets its contract. Assumes nothing.
use native.Mathlib.Omega.{arith}
use Rattle.sedona_wkb.proofs.coordinates.width.Goals as goal

pub returns : goal.returns
returns c =
    let z = c.width_where.ensures in
    let m = c.width_where-2.ensures in
    (rw (z.0, c.has_z.ensures, m.0, c.has_m.ensures), omega (arith, z.1, m.1))
