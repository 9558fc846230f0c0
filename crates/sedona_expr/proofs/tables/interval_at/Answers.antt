-- `tables::interval_at` meets its contract. Assumes nothing.
use Rattle.sedona_expr.proofs.tables.interval_at.Goals as goal

pub returns : goal.returns
returns c = rw c.new.ensures
