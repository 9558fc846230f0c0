-- `johikape_filter_bbox` meets its contract. Assumes nothing.
use Rattle.johikape.proofs.filters.johikape_filter_bbox.Goals as goal

pub returns : goal.returns
returns c =
    let t = c.new-table.ensures in
    rw (← t.0, ← t.1, ← t.2, ← c.filter_bbox.ensures) c.put_box.ensures
