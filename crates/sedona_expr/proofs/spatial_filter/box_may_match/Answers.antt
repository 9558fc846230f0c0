-- `spatial_filter::box_may_match` meets its contract. Assumes nothing.
use borrow.Author.Tests.{ne_eqb}
use Rattle.sedona_expr.specs.Tables.{leaf_of}
use Rattle.sedona_expr.specs.declared.tables.Kind.{Kind}
use Rattle.sedona_expr.proofs.NodeKinds.{same_kind}
use Rattle.sedona_expr.proofs.spatial_filter.box_may_match.Goals as goal

pub returns-in-Intersects : goal.returns-in-Intersects
unfolding leaf_of
returns-in-Intersects c = rw (c.in-Intersects.is, c.may_intersect.ensures)

pub returns-in_default : goal.returns-in_default
unfolding leaf_of
returns-in_default c = rw (ne_eqb _ 0 (λ e. c.in_default.not-Intersects (same_kind c.args.kind Kind.Intersects e)), c.may_cover.ensures)
