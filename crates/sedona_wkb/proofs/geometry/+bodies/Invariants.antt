-- The cycle of calls {read_body, read_collection, read_part} ends: the room for collections falls, four steps a collection. Assumes nothing.
use Prim.Native.Nat.{◌*◌, ◌+◌}
use Rattle.sedona_wkb.proofs.geometry.+bodies.Given as goal

abbrev pub decreases-read_body : goal.decreases-read_body
decreases-read_body l = 4 * l.room

abbrev pub decreases-read_part : goal.decreases-read_part
decreases-read_part l = 4 * l.room + 1

abbrev pub decreases-read_collection-read_parts : goal.decreases-read_collection-read_parts
decreases-read_collection-read_parts l = 4 * l.room + 2

abbrev pub decreases-read_collection : goal.decreases-read_collection
decreases-read_collection l = 4 * l.room + 3
