-- `bounds::bounds_of` meets its contract. Assumes nothing.
use Rattle.std.proofs.Common.{rules, ◌≡◌, ℕ}
use Rattle.sedona_geometry.specs.BoundingBox as bounding_box
use Rattle.sedona_geometry.specs.WraparoundInterval as wraparound
use Rattle.sedona_geometry.proofs.Canonical.{stays_box, xyzm_canonical}
use Rattle.sedona_wkb.specs.Bounds.{box_of}
use Rattle.sedona_wkb.specs.Error.{number}
use Rattle.sedona_wkb.specs.Outcome.{reached}
use Rattle.sedona_wkb.specs.Wkb.{has_z, has_m}
use Rattle.sedona_wkb.specs.declared.coordinates.Extents.{Extents}
use Rattle.sedona_wkb.proofs.Answers.{rest_ended, rest_left_over, rest_refused}
use Rattle.sedona_wkb.proofs.bounds.bounds_of.Goals as goal

-- the box has +0 for zero, as a call hands it on
handed_on : (d : ℕ) (e : Extents) → bounding_box.plus_zero (box_of d e) ≡ box_of d e
unfolding box_of
handed_on d e = stays_box (xyzm_canonical (wraparound.from_interval e.x) e.y (bounding_box.known_where (has_z d) e.z) (bounding_box.known_where (has_m d) e.m))

pub returns-in_err-end : goal.returns-in_err-end
unfolding reached
returns-in_err-end c =
    let args = c.args in
    rw (← rest_refused args.head args.bytes.now args.at (number c.in_err-end.field-0.0) (rw (← c.empty.ensures) c.in_err-end.ensures)) (search rules)

pub returns-then-end-bytes : goal.returns-then-end-bytes
unfolding reached
returns-then-end-bytes c =
    let args = c.args in
    rest_left_over args.head args.bytes.now args.at c.in_ok-end.e c.in_ok-end.end (rw (← c.empty.ensures) c.in_ok-end.ensures) c.if-end-bytes.true

pub returns : goal.returns
unfolding reached
returns c =
    let args = c.args in
    rw (c.types_of.ensures, c.box_of.ensures, ← handed_on args.head.dims c.in_ok-end.e)
    (rest_ended args.head args.bytes.now args.at c.in_ok-end.e c.in_ok-end.end (rw (← c.empty.ensures) c.in_ok-end.ensures) c.if-end-bytes.false)
