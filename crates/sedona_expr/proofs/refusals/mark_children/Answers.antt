-- `refusals::mark_children` meets its contract. Assumes nothing.
use native.Mathlib.Omega.{arith}
use Rattle.sedona_expr.proofs.NodeKinds.{pair_is, pair_is_not}
use Rattle.sedona_expr.proofs.Marks.{marks_rise, pair_counts, none_counts}
use Rattle.sedona_expr.proofs.refusals.mark_children.Goals as goal

pub mark-requires : goal.mark-requires
mark-requires c =
    let pair = pair_is c.kind.result _ c.kind.ensures c.in-And.is in
    ((c.requires.0.0, λ m h. omega (arith, c.requires.0.1 m h)), rw c.word-left.ensures (c.requires.1.1 pair).0)

pub mark-requires-in-And : goal.mark-requires-in-And
mark-requires-in-And c =
    let pair = pair_is c.kind.result _ c.kind.ensures c.in-And.is in
    let mark = c.mark in
    (marks_rise c.args.marks.now mark.new.marks c.word-left.result 65533 c.requires.0 mark.ensures, rw c.word-right.ensures (c.requires.1.1 pair).1)

pub returns-in-And : goal.returns-in-And
returns-in-And c =
    let args = c.args in
    let mark = c.mark in
    let mark2 = c.mark-in-And in
    pair_counts args.table.now.nodes.now args.marks.now mark.new.marks mark2.new.marks args.node c.word-left.result c.word-right.result (pair_is c.kind.result _ c.kind.ensures c.in-And.is) c.word-left.ensures c.word-right.ensures mark.ensures mark2.ensures

pub returns-in_default : goal.returns-in_default
returns-in_default c =
    let args = c.args in
    none_counts args.table.now.nodes.now args.marks.now args.node c.requires.0.0 (pair_is_not c.kind.result _ c.kind.ensures c.in_default.not-And c.in_default.not-Or)
