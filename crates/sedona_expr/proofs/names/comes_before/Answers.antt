-- `names::comes_before` meets its contract. Assumes nothing.
use mathlib.Core.Path.{sym, ap, ◌∙◌}
use native.Mathlib.Omega.{arith}
use lib.Seq.{length-take-le}
use Rattle.sedona_expr.specs.Names.{Search}
use Rattle.sedona_expr.proofs.names.comes_before.Goals as goal

pub slice_bounds-find_name-end : goal.slice_bounds-find_name-end
slice_bounds-find_name-end c = sym (length-take-le c.args.i c.args.names.now (omega (arith, c.requires)))

pub returns : goal.returns
returns c = c.is_some.ensures ∙ ap (λ (s : Search). s.hit) c.find_name.ensures
