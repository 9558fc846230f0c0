-- The recursion of `spatial_filter::may_match` ends: the node number falls. Assumes nothing.
use Rattle.sedona_expr.proofs.spatial_filter.+may_match.Given as goal

abbrev pub decreases-may_match : goal.decreases-may_match
decreases-may_match l = l.node
