-- What the structs of slices that are lent to a filter call spell, and the numbers of the kinds of nodes.
use Rattle.std.specs.Prelude.{◌≡◌, ℕ, ◌<◌, Result, MatchResult}
use Rattle.sedona_expr.specs.Tables as tables
use Rattle.sedona_expr.specs.declared.tables.Boxes.{Boxes}
use Rattle.sedona_expr.specs.declared.tables.Table.{Table}
use Rattle.sedona_expr.specs.declared.tables.Records.{Records}
use Rattle.sedona_expr.specs.declared.tables.Lookup.{Lookup}
use Rattle.sedona_expr.specs.declared.tables.Kind.{Kind}
use Rattle.sedona_expr.specs.declared.error.Refusal.{Refusal}
use Rattle.sedona_expr.specs.declared.error.Refusal.TheVariants.{UnknownKind}

abbrev pub boxes : Boxes → tables.Boxes
boxes b = tables.boxes b.doubles.now b.flags.now

abbrev pub table : Table → tables.Table
table t = tables.table t.nodes.now t.literals.doubles.now t.literals.flags.now

abbrev pub records : Records → tables.Records
records r = tables.records r.boxes.doubles.now r.boxes.flags.now r.types.now r.known.now

abbrev pub lookup : Lookup → tables.Lookup
lookup Lookup.ByPosition = tables.by_position
lookup (Lookup.ByName names) = tables.by_name names.now

abbrev pub kind : Kind → ℕ
kind Kind.Intersects = 0
kind Kind.Covers = 1
kind Kind.HasZ = 2
kind Kind.And = 3
kind Kind.Or = 4
kind Kind.LiteralFalse = 5
kind Kind.Unknown = 6

-- The kind of a word; refused where it is over 6.
abbrev pub Reads : ℕ → Result Kind Refusal → Type 0
Reads word r = MatchResult r (λ k. kind k ≡ word) (λ e. (e ≡ UnknownKind) × (6 < word))
