-- `names::has_twice_by_marks` meets its contract: the names so far differ, and have their marks set. Assumes nothing.
use mathlib.Core.Path.{sym, ◌∙◌}
use Prim.Native.Nat.{ℕ}
use native.Mathlib.Omega.{arith}
use lib.ListN.{get_or, length-set, length-replicate}
use Rattle.sedona_geometry.specs.Bits.{with_bit}
use Rattle.sedona_expr.proofs.Twice.{differ_next, differ_all, hit_before, none_before, clear_is_new, mark_next}
use Rattle.sedona_expr.proofs.names.has_twice_by_marks.Invariants.{word, bit}
use Rattle.sedona_expr.proofs.names.has_twice_by_marks.Goals as goal

pub loop-i-init : goal.loop-i-init
loop-i-init c = (length-replicate {A = ℕ} 512 0, (λ j h. absurd (omega arith), λ j h. absurd (omega arith)))

pub overflow_cast-word : goal.overflow_cast-word
overflow_cast-word c = record { fits = omega arith }

pub comes_again-requires : goal.comes_again-requires
comes_again-requires c =
    let loop = c.loop-i in
    (omega arith, λ e. clear_is_new word bit loop.marks c.args.names.now loop.i (omega arith) loop.invariant.1.1 (rw c.mark_of-mark.ensures at (sym c.has_bit.ensures ∙ e)))

pub returns-then-comes_again : goal.returns-then-comes_again
returns-then-comes_again c = sym (hit_before c.args.names.now c.loop-i.i (omega arith) (sym c.comes_again.ensures ∙ c.if-comes_again.true))

pub loop-i-preserved : goal.loop-i-preserved
loop-i-preserved c =
    let names = c.args.names.now in
    let loop = c.loop-i in
    let name : ℕ = get_or names loop.i 0 in
    rw (c.with_bit.ensures, c.mark_of-mark.ensures) (
      length-set loop.marks (word name) (with_bit (get_or loop.marks (word name) 0) (bit name)) ∙ loop.invariant.0,
      (
        differ_next names loop.i loop.invariant.1.0 (none_before names loop.i (omega arith) (sym c.comes_again.ensures ∙ c.if-comes_again.false)),
        mark_next word bit loop.marks names loop.i (omega (arith, loop.invariant.0)) loop.invariant.1.1,
      ),
    )

pub returns : goal.returns
returns c = sym (differ_all c.args.names.now c.loop-i.i (omega arith) c.loop-i.invariant.1.0)
