-- `numbers::four_at` meets its contract. Assumes nothing.
use native.Mathlib.Omega.{arith}
use Rattle.sedona_wkb.proofs.Bytes.{four_low, four_high}
use Rattle.sedona_wkb.proofs.numbers.four_at.Goals as goal

pub returns-then-low : goal.returns-then-low
returns-then-low c =
    let d = c.wide-d.ensures in
    let u = c.wide-c.ensures in
    let b = c.wide-b.ensures in
    let a = c.wide-a.ensures in
    (rw c.if-low.true (four_low _ _ c.requires _ _ _ _ a.0 b.0 u.0 d.0), omega (arith, a.1, b.1, u.1, d.1))

pub returns-else-low : goal.returns-else-low
returns-else-low c =
    let d = c.wide-d.ensures in
    let u = c.wide-c.ensures in
    let b = c.wide-b.ensures in
    let a = c.wide-a.ensures in
    (rw c.if-low.false (four_high _ _ c.requires _ _ _ _ a.0 b.0 u.0 d.0), omega (arith, a.1, b.1, u.1, d.1))
