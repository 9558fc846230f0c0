-- Bytes are accepted exactly where they are the writing of a geometry: `accepted_exactly_where`. Assumes nothing.
use mathlib.Core.Path.{◌≡◌, refl, sym, ap, subst, ◌∙◌}
use mathlib.Core.Bool.{Bool, true, false, ◌||◌, cond, and-eq-true_iff}
use mathlib.Core.List.{List, [], ◌∷◌, ◌++◌, append-nil, flat_map}
use mathlib.Core.Logic.{◌↔◌}
use Prim.Native.Nat.{ℕ, zero, suc, ◌+◌, ◌-◌, ◌<◌, ◌≤◌}
use native.Mathlib.Omega.{arith}
use lib.Dec.{eqb, ltb}
use lib.ListN.{length}
use borrow.Author.Tests.{eqb-true, ltb-true, ltb-false}
use Rattle.sedona_geometry.specs.Lists.{All}
use Rattle.sedona_wkb.specs.Bounds.{answer, wkb_bounds}
use Rattle.sedona_wkb.specs.Error as error
use Rattle.sedona_wkb.specs.Geometry.{Shape, point, line_string, polygon, Content, Geometry, one, many, collection, Geometries, nil, cons, kind_of_shape, coordinates_of, coordinates, all_coordinates, depth, deepest, how_many, Choices, in_part, encode_coordinate, encode_from, encode_counted, encode_line, encode_content, encode_head, encode_one, encode, encode_all, plain, Writing}
use Rattle.sedona_wkb.specs.Reading.{Reading, Reader, refused, found, and_then, refuse}
use Rattle.sedona_wkb.specs.Wkb.{Coordinate, is_type, is_part, read_head, read_point, read_line, read_one, read_member, read_many, by_kind, read_body, read_part, read_collection, Spelled, ended, read_rest, spelled}
use Rattle.sedona_wkb.specs.declared.heads.Head.{Head}
use Rattle.sedona_wkb.proofs.Lengths.{length_any}
use Rattle.sedona_wkb.proofs.Only.{Only, Passes, known, same_dims, SpelledWell, spelled_only}
use Rattle.sedona_wkb.proofs.Written.{Bytes, Taken, FromFront, Reads, front_behind, reads_either, reads_as, HeadOf, head_written, within_written, Written, point_written, counted_written}
use Rattle.sedona_wkb.proofs.ThereAndBack.{head_for, single, most_kind, there_and_back}

-- ---- points, lines, polygons

line_written : (h : Head) → Reads (read_line h) (Written (encode_line h.low) (λ cs. cs))
line_written h =
    reads_as _ (Written (encode_line h.low) (λ cs. cs)) (read_line h) (counted_written (encode_coordinate h.low) (λ c. c ∷ []) (read_point h) (point_written h) h) (λ cs front w.
    record { by = w.by; it = w.it; same = sym (single w.it) ∙ w.same; bytes = w.bytes })

content_written : (low : Bool) (d : ℕ) (shape : Shape) → Reads (read_one (head_for low (kind_of_shape shape) d)) (Written (λ by. encode_content low by shape) (coordinates_of shape))
unfolding read_one kind_of_shape encode_content coordinates_of
content_written low d point = point_written (head_for low 1 d)
content_written low d line_string = line_written (head_for low 2 d)
content_written low d polygon = counted_written (encode_line low) (λ ring. ring) (read_line (head_for low 3 d)) (line_written (head_for low 3 d)) (head_for low 3 d)

-- The same choices, but for the byte order of the whole.
abbrev starting : Bool → Choices → Choices
starting low by [] = record { low = low; nan = (by []).nan }
starting low by (k ∷ place) = by (k ∷ place)

-- With what is behind it, a head is as W says.
abbrev Behind : Head → (List Coordinate → List ℕ → Type 0) → List Coordinate → List ℕ → Type 0
Behind h W cs behind = W cs (encode_head h.low h.kind h.dims ++ behind)

content_starting : (low : Bool) (by : Choices) (shape : Shape) (c : Content shape) → encode_content low by shape c ≡ encode_content low (starting low by) shape c
unfolding encode_content encode_coordinate
content_starting low by point c = refl
content_starting low by line_string c = refl
content_starting low by polygon c = refl

module _ (d : ℕ) (shape : Shape) where
  abbrev OneOf : List Coordinate → List ℕ → Type 0
  OneOf = Written (λ by. encode_one by d shape) (coordinates_of shape)

  one_written : (low : Bool) → Reads (read_one (head_for low (kind_of_shape shape) d)) (Behind (head_for low (kind_of_shape shape) d) OneOf)
  unfolding encode_one
  one_written low =
      reads_as _ (Behind (head_for low (kind_of_shape shape) d) OneOf) (read_one (head_for low (kind_of_shape shape) d)) (content_written low d shape) (λ cs front w. record {
        by = starting low w.by;
        it = w.it;
        same = w.same;
        bytes = ap (λ (l : List ℕ). encode_head low (kind_of_shape shape) d ++ l) (w.bytes ∙ content_starting low w.by shape w.it);
      })

-- ---- many

-- A head by its fields.
head_is : (P : Head → Type 0) (h : Head) (kind d : ℕ) → h.kind ≡ kind → h.dims ≡ d → P (head_for h.low kind d) → P h
head_is P h kind d e f p =
    subst (λ (k : ℕ). P (head_for h.low k h.dims)) (sym e) (subst (λ (n : ℕ). P (head_for h.low kind n)) (sym f) p)

member_kind : (shape : Shape) (parent h : Head) → parent.kind ≡ 3 + kind_of_shape shape → is_part parent h ≡ true → h.kind ≡ kind_of_shape shape
unfolding is_part
member_kind shape parent h e p = go (eqb parent.kind 7) refl ((and-eq-true_iff (eqb h.dims parent.dims) _).0 p).1
  where
    go : (t : Bool) → eqb parent.kind 7 ≡ t → (t || eqb (h.kind + 3) parent.kind) ≡ true → h.kind ≡ kind_of_shape shape
    go true q r = absurd (omega (arith, eqb-true parent.kind 7 q, most_kind shape))
    go false q r = omega (arith, eqb-true (h.kind + 3) parent.kind r)

member_written : (d : ℕ) (shape : Shape) (parent : Head) → parent.kind ≡ 3 + kind_of_shape shape → parent.dims ≡ d → Reads (read_member parent) (OneOf d shape)
member_written d shape parent e f =
    within_written parent (OneOf d shape) read_one (λ h p.
    head_is (λ (k : Head). Reads (read_one k) (Behind k (OneOf d shape))) h (kind_of_shape shape) d (member_kind shape parent h e p.1) (same_dims parent h p.1 ∙ f) (one_written d shape h.low))

-- ---- geometries

-- Geometries in which no more than so many collections nest.
abbrev Nested : ℕ → Type 0
Nested room = (g : Geometry) × (depth g ≤ room)

module _ (d : ℕ) (room : ℕ) where
  abbrev GeometryOf : List Coordinate → List ℕ → Type 0
  GeometryOf = Written (λ by (g : Nested room). encode by d g.0) (λ g. coordinates g.0)

  -- of a shape
  whole_one : (shape : Shape) (cs : List Coordinate) (front : List ℕ) → OneOf d shape cs front → GeometryOf cs front
  unfolding encode coordinates depth
  whole_one shape cs front w = record { by = w.by; it = (one shape w.it, omega arith); same = w.same; bytes = w.bytes }

  -- many of it
  whole_many : (shape : Shape) (h : Head) → h.kind ≡ 3 + kind_of_shape shape → h.dims ≡ d → Reads (read_many h) (Behind h GeometryOf)
  unfolding encode coordinates depth
  whole_many shape h e f =
      reads_as _ (Behind h GeometryOf) (read_many h) (counted_written (λ by. encode_one by d shape) (coordinates_of shape) (read_member h) (member_written d shape h e f) h) (λ cs front w. record {
        by = starting h.low w.by;
        it = (many shape w.it, omega arith);
        same = w.same;
        bytes = rw (e, f, w.bytes);
      })

  -- a collection of those that are one less deep
  geometries : List (Nested room) → Geometries
  geometries [] = nil
  geometries (g ∷ gs) = cons g.0 (geometries gs)

  how_many_lem : (gs : List (Nested room)) → how_many (geometries gs) ≡ length gs
  unfolding how_many geometries
  how_many_lem [] = refl
  how_many_lem (g ∷ gs) = ap suc (how_many_lem gs)

  all_coordinates_lem : (gs : List (Nested room)) → all_coordinates (geometries gs) ≡ flat_map (λ g. coordinates g.0) gs
  unfolding all_coordinates geometries flat_map
  all_coordinates_lem [] = refl
  all_coordinates_lem (g ∷ gs) = ap (λ (l : List Coordinate). coordinates g.0 ++ l) (all_coordinates_lem gs)

  all_bytes : (by : Choices) (k : ℕ) (gs : List (Nested room)) → encode_all by d k (geometries gs) ≡ encode_from (λ j g. encode (in_part by j) d g.0) k gs
  unfolding encode_all geometries encode_from
  all_bytes by k [] = refl
  all_bytes by k (g ∷ gs) = ap (λ (l : List ℕ). encode (in_part by k) d g.0 ++ l) (all_bytes by (suc k) gs)

  all_nested : (gs : List (Nested room)) → deepest (geometries gs) ≤ room
  unfolding deepest geometries
  all_nested [] = omega arith
  all_nested (g ∷ gs) = omega (arith, g.1, all_nested gs)

whole_collection : (room : ℕ) (h : Head) → h.kind ≡ 7 → Reads (read_part room h) (GeometryOf h.dims room) → Reads (read_collection room h) (Behind h (GeometryOf h.dims (suc room)))
unfolding encode coordinates depth encode_counted
whole_collection room h e part =
    let d = h.dims in
    reads_as _ (Behind h (GeometryOf d (suc room))) (read_collection room h) (counted_written (λ by (g : Nested room). encode by d g.0) (λ g. coordinates g.0) (read_part room h) part h) (λ cs front w.
    let gs = geometries d room w.it in
    record {
      by = starting h.low w.by;
      it = (collection gs, omega (arith, all_nested d room w.it));
      same = all_coordinates_lem d room w.it ∙ w.same;
      bytes = rw (e, w.bytes, how_many_lem d room w.it, all_bytes d room (starting h.low w.by) 0 w.it);
    })

shape_of : (kind : ℕ) → 0 < kind → kind ≤ 3 → (shape : Shape) × (kind ≡ kind_of_shape shape)
unfolding kind_of_shape
shape_of zero g h = absurd (omega arith)
shape_of (suc zero) g h = (point, refl)
shape_of (suc (suc zero)) g h = (line_string, refl)
shape_of (suc (suc (suc zero))) g h = (polygon, refl)
shape_of (suc (suc (suc (suc n)))) g h = absurd (omega arith)

kind_written : (room : ℕ) (h : Head) (p : Reader (List Coordinate)) → Passes is_type h → (h.kind ≡ 7 → Reads p (Behind h (GeometryOf h.dims room))) → Reads (by_kind p h) (Behind h (GeometryOf h.dims room))
unfolding by_kind
kind_written room h p t f =
    let d = h.dims in
    let k = known h t in
    let G = GeometryOf d room in
    reads_either (Behind h G) (ltb h.kind 4) (read_one h) _ (λ e.
    let shape = shape_of h.kind k.0 (omega (arith, ltb-true h.kind 4 e)) in
    let i = head_for h.low (kind_of_shape shape.0) d in
    head_is (λ (i : Head). Reads (read_one i) (Behind i G)) h (kind_of_shape shape.0) d shape.1 refl
    (reads_as (Behind i (OneOf d shape.0)) (Behind i G) (read_one i) (one_written d shape.0 h.low) (λ cs front w. whole_one d room shape.0 cs _ w))) (λ e.
    reads_either (Behind h G) (ltb h.kind 7) (read_many h) p (λ i.
    let shape = shape_of (h.kind - 3) (omega (arith, ltb-false h.kind 4 e)) (omega (arith, ltb-true h.kind 7 i)) in
    whole_many d room shape.0 h (omega (arith, ltb-false h.kind 4 e, shape.1)) refl) (λ i.
    f (omega (arith, k.1, ltb-false h.kind 7 i))))

body_written : (room : ℕ) (h : Head) → Passes is_type h → Reads (read_body room h) (Behind h (GeometryOf h.dims room))
unfolding read_body
body_written zero h t = kind_written zero h (refuse error.wkb_depth) t (λ e s b. omega arith)
body_written (suc room) h t =
    kind_written (suc room) h (read_collection room h) t (λ e.
    whole_collection room h e (within_written h (GeometryOf h.dims room) (read_body room) (λ k p.
    subst (λ (d : ℕ). Reads (read_body room k) (Behind k (GeometryOf d room))) (same_dims h k p.1) (body_written room k p.0))))

-- ---- the whole

module _ (s : List ℕ) where
  -- What is refused has a number; what is found, with coordinates in its dimensions, is a writing's.
  abbrev Ends : Reading Spelled → Type 0
  Ends (refused n) = 0 < n
  Ends (found p t) = SpelledWell p → Writing s

  ends_then : {A : Type 0} (F : A → List ℕ → Type 0) (r : Reading A) (next : A → Reader Spelled) → FromFront F s r → ((a : A) (t : List ℕ) → Taken F s a t → Ends (next a t)) → Ends (and_then r next)
  unfolding and_then
  ends_then F (refused n) next h f = h
  ends_then F (found a t) next h f = f a t h

  ended_writing : length s ≤ 65536 → (kind d : ℕ) → d < 4 → (cs : List Coordinate) (t : List ℕ) → Taken (GeometryOf d 32) s cs t → Ends (ended (record { kind = kind; dims = d; coordinates = cs }) t)
  unfolding ended
  ended_writing n kind d lt cs [] i =
      let w = i.is in
      let e : s ≡ encode w.by d w.it.0 = i.whole ∙ append-nil i.front ∙ w.bytes in
      λ well. record {
        choices = w.by;
        dims = d;
        geometry = w.it.0;
        writable = record {
          dims = lt;
          each = rw w.same well;
          size = omega (arith, ap length e, length_any d plain w.by w.it.0);
          nesting = w.it.1;
        };
        bytes = e;
      }
  ended_writing n kind d lt cs (b ∷ t) i = omega arith

  rest_writing : length s ≤ 65536 → (h : Head) (t : List ℕ) → Taken (HeadOf (Passes is_type)) s h t → Ends (read_rest h t)
  unfolding read_rest
  rest_writing n h t i =
      let G = GeometryOf h.dims 32 in
      let body : FromFront (λ cs behind. G cs (i.front ++ behind)) t (read_body 32 h t) = rw i.is.0 (body_written 32 h i.is.1 t i.left) in
      ends_then G (read_body 32 h t) _ (front_behind G s i.front t (read_body 32 h t) i.whole body)
      (ended_writing n h.kind h.dims (known h i.is.1).2)

  spelled_writing : Bytes s → Ends (spelled s)
  unfolding spelled
  spelled_writing b = go (ltb 65536 (length s)) refl
    where
      go : (t : Bool) → ltb 65536 (length s) ≡ t → Ends (cond t (refused error.wkb_length) (and_then (read_head s) read_rest))
      go true e = omega arith
      go false e = ends_then (HeadOf (Passes is_type)) (read_head s) read_rest (head_written s b) (rest_writing (ltb-false 65536 (length s) e))

-- Bytes are accepted exactly where they are the writing of a geometry.
pub accepted_exactly_where : (s : List ℕ)
    -- each is a byte
    → All (λ b. b < 256) s
    → ((wkb_bounds s).numbered.number ≡ 0) ↔ Writing s
unfolding answer
accepted_exactly_where s b = (
  there (spelled s) (spelled_writing s b) (spelled_only s),
  λ w. ap (λ (l : List ℕ). (wkb_bounds l).numbered.number) w.bytes ∙ rw (there_and_back w.choices w.dims w.geometry w.writable),
)
  where
    there : (r : Reading Spelled) → Ends s r → Only SpelledWell r → (answer r).numbered.number ≡ 0 → Writing s
    there (refused n) h o e = absurd (omega arith)
    there (found p t) h o e = h o
