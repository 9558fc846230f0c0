-- `numbers::eight_at` meets its contract. Assumes nothing.
use mathlib.Core.Path.{◌∙◌}
use native.Mathlib.Omega.{arith}
use Rattle.sedona_wkb.specs.Numbers.{ordered}
use Rattle.sedona_wkb.proofs.Bytes.{eight_low, eight_swapped}
use Rattle.sedona_wkb.proofs.numbers.eight_at.Goals as goal

pub returns-then-low : goal.returns-then-low
unfolding ordered
returns-then-low c =
    let four = c.four_at.ensures in
    let four2 = c.four_at-2.ensures in
    rw c.if-low.true (eight_low _ _ c.requires _ _ four.0 four2.0)

pub returns-else-low : goal.returns-else-low
returns-else-low c =
    let four = c.four_at.ensures in
    let four2 = c.four_at-2.ensures in
    c.swapped.ensures ∙ rw c.if-low.false (eight_swapped c.args.bytes.now c.args.at c.requires (λ i. omega (arith, c.type_inv.bytes i)) _ (eight_low _ _ c.requires _ _ four.0 four2.0))
