-- `spatial_filter::leaf_may_match` meets its contract. Assumes nothing.
use mathlib.Core.Path.{sym, ◌∙◌}
use native.Mathlib.Omega.{arith}
use borrow.Author.Tests.{ne_eqb}
use Rattle.sedona_expr.specs.Tables.{leaf_at}
use Rattle.sedona_expr.specs.declared.tables.Kind.{Kind}
use Rattle.sedona_expr.proofs.NodeKinds.{word_is, word_is_not, leaf_of_read}
use Rattle.sedona_expr.proofs.Trees.{answer_of_leaf}
use Rattle.sedona_expr.proofs.spatial_filter.leaf_may_match.Goals as goal

pub returns-in-HasZ : goal.returns-in-HasZ
unfolding leaf_at
returns-in-HasZ c = rw (c.may_have_z.ensures, c.record_of.ensures, word_is 2 _ (omega arith) c.in-HasZ.ensures)

pub returns-in_default : goal.returns-in_default
unfolding leaf_at
returns-in_default c =
    rw (c.box_may_match.ensures, c.record_of-seen.ensures, c.literal_of-literal.ensures, ne_eqb _ 2 (word_is_not Kind.HasZ c.kind-kind.result _ c.in_default.not-HasZ c.kind-kind.ensures)) (leaf_of_read c.kind-kind.result _ c.kind-kind.ensures _ _ ∙ sym (answer_of_leaf _ _ _ _))
