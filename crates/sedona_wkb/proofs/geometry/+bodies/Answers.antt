-- The cycle of calls {read_body, read_collection, read_part} meets its contracts. Assumes nothing.
use mathlib.Core.Path.{ap, ◌∙◌}
use native.Mathlib.Omega.{arith}
use Rattle.std.proofs.Common.{rules}
use Rattle.sedona_wkb.specs.Outcome.{entered, reached, headed}
use Rattle.sedona_wkb.specs.Wkb.{read_body}
use Rattle.sedona_wkb.proofs.Readers.{within_refused, within_found, body_one, body_many, body_deep, body_collection}
use Rattle.sedona_wkb.proofs.geometry.+bodies.Goals as goal

-- ---- what follows a head

pub read_body-returns-then-head-le-POLYGON : goal.read_body-returns-then-head-le-POLYGON
read_body-returns-then-head-le-POLYGON t c =
    let args = c.args in
    ap (entered args.e) (body_one args.head _ args.room c.if-head-le-POLYGON.true) ∙ c.read_one.ensures

pub read_body-returns-then-head-lt-COLLECTION : goal.read_body-returns-then-head-lt-COLLECTION
read_body-returns-then-head-lt-COLLECTION t c =
    let args = c.args in
    ap (entered args.e) (body_many args.head _ c.if-head-le-POLYGON.false args.room c.if-head-lt-COLLECTION.true) ∙ c.read_many.ensures

pub read_body-returns-then-room-eq0 : goal.read_body-returns-then-room-eq0
unfolding entered reached
read_body-returns-then-room-eq0 t c =
    let args = c.args in
    ap (entered args.e) (body_deep args.head _ c.if-head-le-POLYGON.false args.room c.if-head-lt-COLLECTION.false c.if-room-eq0.true)

pub read_body-read_collection-requires : goal.read_body-read_collection-requires
read_body-read_collection-requires t c = (omega (arith, c.decreases, c.if-room-eq0.false), tt)

pub read_body-returns : goal.read_body-returns
read_body-returns t c =
    let args = c.args in
    ap (entered args.e) (body_collection args.head _ c.if-head-le-POLYGON.false args.room c.if-head-lt-COLLECTION.false (omega (arith, c.if-room-eq0.false))) ∙ c.read_collection.ensures

-- ---- a part of a collection

pub read_part-read_body-requires : goal.read_part-read_body-requires
read_part-read_body-requires t c = (omega (arith, c.decreases), tt)

pub read_part-returns-in_err-head : goal.read_part-returns-in_err-head
unfolding headed reached
read_part-returns-in_err-head t c =
    let args = c.args in
    rw (within_refused args.parent _ (read_body args.room) args.e _ c.in_err-head.ensures) (search rules)

pub read_part-returns : goal.read_part-returns
unfolding headed
read_part-returns t c =
    let args = c.args in
    within_found args.parent _ (read_body args.room) args.e _ _ c.in_ok-head.ensures ∙ c.read_body.ensures
