-- `WraparoundInterval::merge_interval` meets its contract: by the ends where both run low to high. Assumes nothing.
use mathlib.Core.Path.{sym, ◌∙◌}
use Rattle.sedona_geometry.proofs.Rising.{rising_merge}
use Rattle.sedona_geometry.proofs.interval.WraparoundInterval.merge_interval.Goals as goal

pub returns-then-both_rise : goal.returns-then-both_rise
returns-then-both_rise c =
    let rise = c.both_rise.ensures in
    let args = c.args in
    rw (c.from_interval.ensures, c.merge_interval.ensures) (sym (rising_merge args.self args.other rise.1.0 rise.1.1 (sym rise.0 ∙ c.if-both_rise.true)))
