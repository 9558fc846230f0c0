-- `johikape_box_from_geoparquet` meets its contract. Assumes nothing.
use Rattle.johikape.proofs.layouts.johikape_box_from_geoparquet.Goals as goal

pub returns : goal.returns
returns c = rw (← c.from_geoparquet.ensures) c.put_box.ensures
