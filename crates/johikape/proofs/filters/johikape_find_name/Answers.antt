-- `johikape_find_name` meets its contract. Assumes nothing.
use Rattle.johikape.proofs.filters.johikape_find_name.Goals as goal

pub returns : goal.returns
returns c = rw (c.is_some.ensures, c.unwrap_or.ensures) c.find_name-found.ensures
