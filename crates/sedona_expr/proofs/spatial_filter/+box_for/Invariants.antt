-- The recursion of `spatial_filter::box_for` ends: the node number falls. Assumes nothing.
use Rattle.sedona_expr.proofs.spatial_filter.+box_for.Given as goal

abbrev pub decreases-box_for : goal.decreases-box_for
decreases-box_for l = l.node
