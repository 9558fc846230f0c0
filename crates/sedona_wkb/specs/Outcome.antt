-- What contracts of private functions alone cite. Who reads the calls and the theorems need not read it: none of them rests on it.
-- Here: what an answer of the code says: what was found, with the bytes behind its end, or the refusal.
use Rattle.std.specs.Prelude.{◌≡◌, List, ℕ, drop, Result, Ok, Err}
use Rattle.sedona_wkb.specs.Error as error
use Rattle.sedona_wkb.specs.Extents.{enter_all}
use Rattle.sedona_wkb.specs.Reading.{Reading, Reader, refused, found}
use Rattle.sedona_wkb.specs.Wkb.{Coordinate}
use Rattle.sedona_wkb.specs.declared.coordinates.Extents.{Extents}
use Rattle.sedona_wkb.specs.declared.error.Refusal.{Refusal}
use Rattle.sedona_wkb.specs.declared.heads.Head.{Head}

unfoldable pub headed : List ℕ → Result (Head × ℕ) Refusal → Reading Head
headed s (Ok p) = found p.0 (drop p.1 s)
headed s (Err e) = refused (error.number e)

unfoldable pub reached : List ℕ → Result (ℕ × Extents) Refusal → Reading Extents
reached s (Ok p) = found p.1 (drop p.0 s)
reached s (Err e) = refused (error.number e)

-- A reading with its coordinates entered into extents.
unfoldable pub entered : Extents → Reading (List Coordinate) → Reading Extents
entered e (refused n) = refused n
entered e (found cs rest) = found (enter_all e cs) rest

-- That answers with a place and extents are what a reader finds from a place on, entered into others.
abbrev pub Reads : List ℕ → Reader (List Coordinate) → (ℕ → Extents → Result (ℕ × Extents) Refusal → Type 0) → Type 0
Reads s part Answers = (at : ℕ) (e : Extents) (r : Result (ℕ × Extents) Refusal) → Answers at e r → entered e (part (drop at s)) ≡ reached s r
