-- The functions that write, found along the order of evaluation.
use Rattle.std.specs.Prelude.{◌≡◌, ℕ, Bool, true, false, List, [], ◌∷◌, if◌then◌else◌, Option, Some, None, unwrap_or}
use Rattle.indexmap.specs.IndexSet.{insert_key}
use Rattle.cl_types.specs.declared.sized.Access.TheVariants.{ReadOnly}
use Rattle.cl_sexpr.specs.declared.sexpr.Span.{Span}
use Rattle.cl_sexpr.specs.Tree.{Leaf}
use Rattle.cl_forms.specs.Forms.{Form, FormKind, FunctionForm}
use Rattle.cl_forms.specs.declared.version.Version.{Version}
use Rattle.cl_forms.specs.Heads.{native}
use Rattle.cl_forms.specs.Names.{same, name_at, is_one_of}
use Rattle.cl_forms.specs.Writes.{Writes, has_write}
use Rattle.cl_rules.specs.Context.{Context}
use Rattle.cl_readonly.specs.Naming.{NamesUnknown}

-- no form has the name of a native of the version
abbrev pub HaveOwnNames : Version → List Form → Type 0
HaveOwnNames version forms = (x : List ℕ) (n : ℕ) → name_at forms n ≡ Some x → native version x ≡ None

abbrev pub with_kind : (Leaf → List ℕ → Bool) → List (List ℕ) → FormKind → List ℕ → List (List ℕ)
with_kind is_public functions (FunctionForm access params body) x = if has_write (is_one_of functions) is_public body then insert_key same functions x else functions
with_kind is_public functions kind x = functions

-- with one more form, if it is a function that writes where these do
abbrev pub with_form : (Leaf → List ℕ → Bool) → List (List ℕ) → Form → List (List ℕ)
with_form is_public functions form = with_kind is_public functions form.kind (unwrap_or form.name [])

-- a function without a call that writes names what it calls, unless that is defined already
abbrev pub BodyNames : Context → (Leaf → List ℕ → Bool) → List (List ℕ) → FormKind → Type 0
BodyNames G is_public functions (FunctionForm access params body) = has_write (is_one_of functions) is_public body ≡ false → NamesUnknown G body
BodyNames G is_public functions kind = Unit {0}

-- these are just the functions that write
pub record AreThoseThatWrite (forms : List Form) (is_public : Leaf → List ℕ → Bool) (functions : List (List ℕ)) : Type 0 where
  pub sound : (x : List ℕ) → is_one_of functions x ≡ true → Writes forms is_public x
  pub complete : (x : List ℕ) → Writes forms is_public x → is_one_of functions x ≡ true

abbrev pub is_read_only : FormKind → Bool
is_read_only (FunctionForm ReadOnly params body) = true
is_read_only kind = false

-- a read-only function among these
abbrev pub is_wrong : List (List ℕ) → Form → Bool
is_wrong functions form = if is_read_only form.kind then is_one_of functions (unwrap_or form.name []) else false

-- the span of the first such form
abbrev pub first_wrong : List (List ℕ) → List Form → Option Span
first_wrong functions [] = None
first_wrong functions (form ∷ forms) = if is_wrong functions form then Some form.span else first_wrong functions forms
