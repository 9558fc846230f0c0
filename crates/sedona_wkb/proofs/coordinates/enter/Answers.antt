-- `coordinates::enter` meets its contract. Assumes nothing.
use native.Mathlib.Omega.{arith}
use borrow.Author.Rules.{rules}
use Rattle.sedona_wkb.specs.Extents.{enter}
use Rattle.sedona_wkb.proofs.coordinates.enter.Goals as goal

pub overflow_add-at_m : goal.overflow_add-at_m
overflow_add-at_m c = rw (c.width_where.ensures.0, c.has_z-with_z.ensures) (search rules)

pub merge_where-z-requires : goal.merge_where-z-requires
merge_where-z-requires c = rw c.has_z-with_z.ensures (omega (arith, c.requires))

pub merge_where-m-requires : goal.merge_where-m-requires
merge_where-m-requires c =
    rw (c.has_m.ensures, c.width_where.ensures.0, c.has_z-with_z.ensures) (omega (arith, c.requires))

pub returns : goal.returns
unfolding enter
returns c =
    rw (
      c.merge_value-y.ensures,
      c.double_at-2.ensures,
      c.merge_value-x.ensures,
      c.double_at.ensures,
      c.merge_where-m.ensures,
      c.has_m.ensures,
      c.merge_where-z.ensures,
      c.width_where.ensures.0,
      c.has_z-with_z.ensures,
    )
