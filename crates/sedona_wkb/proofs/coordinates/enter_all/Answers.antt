-- `coordinates::enter_all` meets its contract: what is entered and the coordinates that are left are all there is. Assumes nothing.
use mathlib.Core.Path.{◌≡◌, refl, sym, ◌∙◌}
use Prim.Native.Nat.{ℕ, suc, zero, ◌+◌, ◌*◌, ◌-◌, ◌<◌, ◌≤◌}
use native.Mathlib.Nat.{suc-mul}
use native.Mathlib.Omega.{arith}
use lib.ListN.{length}
use borrow.Author.Rules.{rules}
use Rattle.sedona_wkb.specs.Places.{width}
use Rattle.sedona_wkb.proofs.Readers.{enter_first, enter_none}
use Rattle.sedona_wkb.proofs.coordinates.enter_all.Goals as goal

-- The first of those that are left is there, and then the others.
first_there : (place n w len : ℕ) → 0 < n → place + n * w ≤ len → place + w + (n - 1) * w ≤ len
first_there place zero w len z g = absurd (omega arith)
first_there place (suc n) w len z g = let m : suc n - 1 ≡ n = omega arith in rw m (omega (arith, suc-mul n w))

pub loop-taken-init : goal.loop-taken-init
loop-taken-init c =
    let m : c.args.count - 0 ≡ c.args.count = omega arith in
    rw m (c.requires, refl)

pub enter-entered-requires : goal.enter-entered-requires
enter-entered-requires c =
    let args = c.args in
    let loop = c.loop-taken in
    omega (arith, first_there loop.place (args.count - loop.taken) (width args.head.dims) (length args.bytes.now) (omega (arith, c.loop-taken-test.true)) loop.invariant.0)

pub overflow_add-place : goal.overflow_add-place
overflow_add-place c =
    let args = c.args in
    let loop = c.loop-taken in
    let g = first_there loop.place (args.count - loop.taken) (width args.head.dims) (length args.bytes.now) (omega (arith, c.loop-taken-test.true)) loop.invariant.0 in
    rw c.width-width.ensures.0 (search rules)

pub loop-taken-preserved : goal.loop-taken-preserved
loop-taken-preserved c =
    let args = c.args in
    let loop = c.loop-taken in
    let left = args.count - loop.taken in
    let some_left : 0 < left = omega (arith, c.loop-taken-test.true) in
    let m : args.count - (loop.taken + 1) ≡ left - 1 = omega arith in
    rw (c.width-width.ensures.0, c.enter-entered.ensures, m) (
      first_there loop.place left (width args.head.dims) (length args.bytes.now) some_left loop.invariant.0,
      loop.invariant.1 ∙ enter_first args.head args.bytes.now loop.place loop.entered left some_left,
    )

pub returns : goal.returns
returns c =
    let args = c.args in
    let loop = c.loop-taken in
    sym (loop.invariant.1 ∙ enter_none args.head args.bytes.now loop.place loop.entered (args.count - loop.taken) (omega (arith, c.loop-taken-test.false)))
