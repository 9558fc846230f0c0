-- The answer by the readings that it is made of. Assumes nothing.
use mathlib.Core.Path.{◌≡◌, refl, sym}
use mathlib.Core.List.{List, [], ◌∷◌}
use Prim.Native.Nat.{ℕ, ◌<◌, ◌≤◌}
use native.Mathlib.Omega.{arith}
use lib.ListN.{length, drop, length-drop, drop_of_length-le}
use borrow.Author.Tests.{lt-ltb, le-ltb}
use Rattle.sedona_geometry.specs.BoundingBox as bounding_box
use Rattle.sedona_wkb.specs.Bounds.{box_of, types_of, refusal, answer, wkb_bounds}
use Rattle.sedona_wkb.specs.Error as error
use Rattle.sedona_wkb.specs.Extents.{empty, enter_all}
use Rattle.sedona_wkb.specs.Outcome.{entered}
use Rattle.sedona_wkb.specs.Reading.{Reading, refused, found, and_then}
use Rattle.sedona_wkb.specs.Wkb.{Coordinate, read_head, read_body, Spelled, ended, read_rest, spelled}
use Rattle.sedona_wkb.specs.Bounds.{WkbBounds}
use Rattle.sedona_wkb.specs.declared.coordinates.Extents.{Extents}
use Rattle.sedona_wkb.specs.declared.heads.Head.{Head}

-- ---- what the bytes behind the head give

module _ (h : Head) where
  abbrev given : Extents → WkbBounds
  given e = record { numbered = bounding_box.accepted (box_of h.dims e); types = types_of h.kind h.dims }

  abbrev spelled_by : List Coordinate → Spelled
  spelled_by cs = record { kind = h.kind; dims = h.dims; coordinates = cs }

  at_end : (cs : List Coordinate) (t : List ℕ) (e : Extents) → t ≡ [] → enter_all empty cs ≡ e → answer (ended (spelled_by cs) t) ≡ given e
  unfolding answer ended
  at_end cs [] e p q = rw q
  at_end cs (b ∷ t) e p q = absurd (let z : ◌≡◌ {A = ℕ} 0 1 = cc in omega arith)

  left_over : (cs : List Coordinate) (t : List ℕ) → 0 < length t → answer (ended (spelled_by cs) t) ≡ refusal error.wkb_length
  unfolding answer ended
  left_over cs [] p = absurd (omega arith)
  left_over cs (b ∷ t) p = refl

  -- By what the body gives, entered into nothing.
  read_all : (r : Reading (List Coordinate)) (e : Extents) (t : List ℕ) → entered empty r ≡ found e t → t ≡ [] → answer (and_then r (λ cs. ended (spelled_by cs))) ≡ given e
  unfolding and_then entered
  read_all (refused n) e t p q = absurd (let z : ◌≡◌ {A = ℕ} 0 1 = cc in omega arith)
  read_all (found cs u) e t p q =
      let v : u ≡ [] = cc in
      let w : enter_all empty cs ≡ e = cc in
      at_end cs u e v w

  read_some : (r : Reading (List Coordinate)) (e : Extents) (t : List ℕ) → entered empty r ≡ found e t → 0 < length t → answer (and_then r (λ cs. ended (spelled_by cs))) ≡ refusal error.wkb_length
  unfolding and_then entered
  read_some (refused n) e t p q = absurd (let z : ◌≡◌ {A = ℕ} 0 1 = cc in omega arith)
  read_some (found cs u) e t p q = let w : u ≡ t = cc in left_over cs u (rw w q)

  read_none : (r : Reading (List Coordinate)) (n : ℕ) → entered empty r ≡ refused n → answer (and_then r (λ cs. ended (spelled_by cs))) ≡ refusal n
  unfolding and_then entered answer
  read_none (refused m) n p = let q : m ≡ n = cc in rw q
  read_none (found cs u) n p = absurd (let z : ◌≡◌ {A = ℕ} 0 1 = cc in omega arith)

  module _ (s : List ℕ) (at : ℕ) where
    pub rest_ended : (e : Extents) (end : ℕ) → entered empty (read_body 32 h (drop at s)) ≡ found e (drop end s) → length s ≤ end → given e ≡ answer (read_rest h (drop at s))
    unfolding read_rest
    rest_ended e end p q = sym (read_all (read_body 32 h (drop at s)) e (drop end s) p (drop_of_length-le s q))

    pub rest_left_over : (e : Extents) (end : ℕ) → entered empty (read_body 32 h (drop at s)) ≡ found e (drop end s) → end < length s → refusal error.wkb_length ≡ answer (read_rest h (drop at s))
    unfolding read_rest
    rest_left_over e end p q = sym (read_some (read_body 32 h (drop at s)) e (drop end s) p (rw (length-drop end s) (omega arith)))

    pub rest_refused : (n : ℕ) → entered empty (read_body 32 h (drop at s)) ≡ refused n → refusal n ≡ answer (read_rest h (drop at s))
    unfolding read_rest
    rest_refused n p = sym (read_none (read_body 32 h (drop at s)) n p)

-- ---- the whole

module _ (s : List ℕ) where
  pub too_long : 65536 < length s → refusal error.wkb_length ≡ wkb_bounds s
  unfolding spelled answer
  too_long h = rw (lt-ltb 65536 (length s) h)

  module _ (n : length s ≤ 65536) where
    pub head_refused : (k : ℕ) → read_head s ≡ refused k → refusal k ≡ wkb_bounds s
    unfolding spelled answer and_then
    head_refused k p = rw (le-ltb 65536 (length s) n, p)

    pub head_found : (h : Head) (t : List ℕ) → read_head s ≡ found h t → spelled s ≡ read_rest h t
    unfolding spelled and_then
    head_found h t p = rw (le-ltb 65536 (length s) n, p)
