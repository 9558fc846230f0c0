-- `spatial_filter::has_z_type` meets its contract. Assumes nothing.
use mathlib.Core.Path.{sym}
use Rattle.sedona_expr.proofs.WordBits.{z_mask}
use Rattle.sedona_expr.proofs.spatial_filter.has_z_type.Goals as goal

pub returns : goal.returns
returns c = sym (z_mask c.args.types)
