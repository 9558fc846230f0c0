-- `records::Lent::record_at` meets its contract. Assumes nothing.
use mathlib.Core.Path.{◌∙◌}
use Prim.Native.Nat.{◌*◌}
use Rattle.johikape.specs.Records.{width}
use Rattle.johikape.proofs.Lists.{take_rest}
use Rattle.johikape.proofs.records.Lent.record_at.Goals as goal

pub returns : goal.returns
returns c =
    let args = c.args in
    c.read.ensures ∙ rw (take_rest args.self.now.doubles.now (width * args.i), take_rest args.self.now.totals.now (7 * args.i))
