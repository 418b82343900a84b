-- The examples of calls and of functions that write.
use Rattle.std.proofs.Common.{◌≡◌, ℕ, zero, suc, ◌≤◌, List, [], ◌∷◌, Option, Some, None, slice_get, codes, refl, sym, ap, ◌∙◌, arith, lit<}
use Rattle.cl_types.specs.Types.{PlainType, NoType, UintType}
use Rattle.cl_types.specs.declared.sized.Access.TheVariants.{ReadOnly, Private}
use Rattle.cl_sexpr.specs.Tree.{Tree, ListAt, Empty}
use Rattle.cl_forms.specs.Forms.{Form, FormKind, VariableForm, MapForm, FunctionForm}
use Rattle.cl_forms.specs.Writes.{Writes, has_writing_body, by_native, by_function, Call, calls_in}
use Rattle.cl_rules.specs.Acceptance.{WritesWrongly, forms_at, calls_public}
use Rattle.cl_rules.specs.Samples.{opened, contract_f}
use Rattle.cl_rules.specs.CallExamples.{CallOfAnother, BreaksOfCalls, WritesByAnother, writing}

pub call_of_another : CallOfAnother
unfolding opened
call_of_another = record { called_line = refl; calling_line = refl }

pub breaks_of_calls : BreaksOfCalls
unfolding opened
breaks_of_calls = record { no_such_function = refl; private_function = refl; no_name = refl; too_few = refl; not_admitted = refl; accepted = refl }

abbrev no_form : Form
no_form = record { name = None; kind = MapForm NoType NoType; span = record { start = 0; end = 0 } }

abbrev or_none : Option Form → Form
or_none None = no_form
or_none (Some form) = form

-- the form at a place of the example
abbrev form_at : ℕ → Form
form_at n = or_none (slice_get writing.forms n)

abbrev body_of : FormKind → Tree
body_of (FunctionForm access params body) = body
body_of kind = ListAt Empty (record { start = 0; end = 0 })

abbrev body_at : ℕ → Tree
body_at n = body_of (form_at n).kind

abbrev first_call : List Call → Call
first_call [] = record { operator = []; parts = Empty }
first_call (call ∷ calls) = call

abbrev call_at : ℕ → Call
call_at n = first_call (calls_in (body_at n))

private_writes : Writes writing.forms (calls_public [] contract_f) (codes "w")
unfolding opened
private_writes =
    has_writing_body {body = body_at 1} (record { form = form_at 1; access = Private; params = []; there = (1, lit< tt, refl); named = refl; function = refl })
    (by_native {e = body_at 1} {x = (call_at 1).operator} {parts = (call_at 1).parts} (0, lit< tt, refl) refl)

reader_writes : Writes writing.forms (calls_public [] contract_f) (codes "r")
unfolding opened private_writes
reader_writes =
    has_writing_body {body = body_at 2} (record { form = form_at 2; access = ReadOnly; params = []; there = (2, lit< tt, refl); named = refl; function = refl })
    (by_function {e = body_at 2} {x = (call_at 2).operator} {parts = (call_at 2).parts} (0, lit< tt, refl) private_writes)

some_same : {A : Type 0} (d a b : A) → Some a ≡ Some b → a ≡ b
some_same {A = A} d a b e = ap held e
  where
    held : Option A → A
    held None = d
    held (Some x) = x

not_read_only : (other : Form) (kind : FormKind) → other.kind ≡ kind → ((params : List (List ℕ × PlainType)) (body : Tree) → kind ≡ FunctionForm ReadOnly params body → ⊥) → WritesWrongly [] contract_f writing.forms other → ⊥
not_read_only other kind e h w = h w.params w.body (sym e ∙ w.read_only)

variable_is_none : (t : PlainType) (e : Tree) (params : List (List ℕ × PlainType)) (body : Tree) → VariableForm t e ≡ FunctionForm ReadOnly params body → ⊥
variable_is_none t e params body h = cc

private_is_none : (ps : List (List ℕ × PlainType)) (b : Tree) (params : List (List ℕ × PlainType)) (body : Tree) → FunctionForm Private ps b ≡ FunctionForm ReadOnly params body → ⊥
private_is_none ps b params body h = cc

none_before : (m : ℕ) (other : Form) → slice_get (forms_at writing.forms writing.order) m ≡ Some other → WritesWrongly [] contract_f writing.forms other → 2 ≤ m
unfolding opened
none_before zero other e w = absurd (not_read_only other (form_at 0).kind (ap (λ (form : Form). form.kind) (sym (some_same no_form (form_at 0) other e))) (variable_is_none UintType _) w)
none_before (suc zero) other e w = absurd (not_read_only other (form_at 1).kind (ap (λ (form : Form). form.kind) (sym (some_same no_form (form_at 1) other e))) (private_is_none [] (body_at 1)) w)
none_before (suc (suc m)) other e w = omega arith

pub writes_by_another : WritesByAnother
unfolding opened reader_writes none_before
writes_by_another = record {
  place = 2;
  form = form_at 2;
  there = refl;
  writes = record { name = codes "r"; params = []; body = body_at 2; named = refl; read_only = refl; writes = reader_writes };
  span_is = refl;
  least = none_before;
}
