-- The rows of natives as the code holds them.
use Rattle.std.specs.Prelude.{ℕ, Bool, true, false, List, Option, map, filter}
use Rattle.std.specs.Borrow.{Bor}
use Rattle.cl_shapes.specs.declared.name.CostName.{CostName}
use Rattle.cl_forms.specs.declared.natives.Marks.{Marks}
use Rattle.cl_forms.specs.declared.natives.Marks.TheVariants.{Plain, Starred, First, FirstStarred}
use Rattle.cl_forms.specs.declared.natives.Arity.{Arity as CodeArity}
use Rattle.cl_forms.specs.declared.natives.Arity.TheVariants.{Exact as ExactOf, OrMore as OrMoreOf, Either as EitherOf}
use Rattle.cl_forms.specs.declared.natives.NativeRow.{NativeRow}
use Rattle.cl_forms.specs.Heads.{Version, is_had, Head, Arity, Exact, OrMore, Either, Row}

abbrev pub arity_seen : CodeArity → Arity
arity_seen (ExactOf n) = Exact n
arity_seen (OrMoreOf n) = OrMore n
arity_seen (EitherOf m n) = Either m n

-- a row as the definitions have it
abbrev pub row_seen : NativeRow → Row
row_seen r = record { name = r.name.now; head = r.head; arity = arity_seen r.arity; cost = r.cost; special = r.special; by_name = r.by_name; only = r.only }

-- those of these rows that a version has
abbrev pub rows_had : Version → List Row → List Row
rows_had version rows = filter (λ row. is_had version row.only) rows

abbrev pub is_first : Marks → Bool
is_first Plain = false
is_first Starred = false
is_first First = true
is_first FirstStarred = true

abbrev pub is_starred : Marks → Bool
is_starred Plain = false
is_starred Starred = true
is_starred First = false
is_starred FirstStarred = true

abbrev pub Columns : Type 0
Columns = Bor (List ℕ) × CodeArity × CostName × Marks × Option Version

-- the row of a native with these columns
abbrev pub columns_seen : Head → Columns → Row
columns_seen head c = record { name = c.0.now; head = head; arity = arity_seen c.1; cost = c.2; special = is_first c.3; by_name = is_starred c.3; only = c.4 }

-- the rows of natives that stand beside their columns
abbrev pub entry_seen : Columns × Head → Row
entry_seen e = columns_seen e.1 e.0

abbrev pub entries_seen : Bor (List (Columns × Head)) → List Row
entries_seen es = map entry_seen es.now
