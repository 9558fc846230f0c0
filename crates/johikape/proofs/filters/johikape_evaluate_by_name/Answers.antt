-- `johikape_evaluate_by_name` meets its contract. Assumes nothing.
use Rattle.johikape.proofs.filters.johikape_evaluate_by_name.Goals as goal

pub returns : goal.returns
returns c =
    let t = c.new-table.ensures in
    let r = c.new-records.ensures in
    rw (c.code.ensures, c.evaluate.ensures, t.0, t.1, t.2, r.0, r.1, r.2, r.3)
