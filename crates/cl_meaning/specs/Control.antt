-- The natives that decide which of their parts are taken. Each is charged first, by the number of its arguments in the text.
use Rattle.std.specs.Prelude.{ℕ, suc, true, false, List, [], ◌∷◌, length, Option, Some, None}
use Rattle.cl_shapes.specs.declared.name.CostName.TheVariants.{Control, Bind}
use Rattle.cl_sexpr.specs.Tree.{Tree, ListAt}
use Rattle.cl_values.specs.Tree.{Tree as Val, BoolV, NoneV, SomeV, ResponseV}
use Rattle.cl_values.specs.Wire.{size_of}
use Rattle.cl_forms.specs.Shapes.{trees_of, binding_of, MatchParts, OptionalMatch, ResponseMatch, match_of}
use Rattle.cl_events.specs.State.{State}
use Rattle.cl_meaning.specs.Answers.{Answer, Thrown, stop, give, wrong, charged, and_then, with_known}
use Rattle.cl_meaning.specs.Scope.{Scope, Take, parts, binding, in_frame, as_contract, taken_with}

-- one of two ways, by a truth value
abbrev pub choice : Val → (State → Answer Val) → (State → Answer Val) → State → Answer Val
choice (BoolV true) holds fails s = holds s
choice (BoolV false) holds fails s = fails s
choice v holds fails s = wrong s

-- an early return
abbrev pub throw : Val → State → Answer Val
throw v s = stop (Thrown v) s

unfoldable pub if_form : Take → Scope → List Tree → State → Answer Val
if_form take S (b ∷ x ∷ y ∷ []) s = charged Control 3 (and_then (take S b s) (λ v t. choice v (take S x) (take S y) t))
if_form take S es s = wrong s

-- the last of one or more values
abbrev pub last_of : List Val → State → Answer Val
last_of [] s = wrong s
last_of (v ∷ []) s = give v s
last_of (v ∷ w ∷ vs) s = last_of (w ∷ vs) s

unfoldable pub begin_form : Take → Scope → List Tree → State → Answer Val
begin_form take S es s = charged Control (length es) (and_then (parts take S es s) last_of)

-- the bindings, each seeing those before it and charged by its value's size, and then the body
unfoldable pub let_in : Take → List Tree → Scope → List Tree → State → Answer Val
let_in take body S [] s = and_then (parts take S body s) last_of
let_in take body S (b ∷ bs) s =
    with_known (binding_of b) (λ p t. and_then (take S p.1 t) (λ v u. charged Bind (size_of v) (let_in take body (binding p.0 v S) bs u))) s

-- the list of bindings is one argument
unfoldable pub let_form : Take → Scope → List Tree → State → Answer Val
let_form take S (ListAt bindings at ∷ body) s = charged Control (suc (length body)) (let_in take body S (trees_of bindings) s)
let_form take S es s = wrong s

-- stops at the first false
unfoldable pub and_on : Take → Scope → List Tree → State → Answer Val
and_on take S [] s = give (BoolV true) s
and_on take S (e ∷ es) s = and_then (take S e s) (λ v t. choice v (and_on take S es) (give (BoolV false)) t)

-- stops at the first true
unfoldable pub or_on : Take → Scope → List Tree → State → Answer Val
or_on take S [] s = give (BoolV false) s
or_on take S (e ∷ es) s = and_then (take S e s) (λ v t. choice v (give (BoolV true)) (or_on take S es) t)

unfoldable pub and_form : Take → Scope → List Tree → State → Answer Val
and_form take S [] s = wrong s
and_form take S (e ∷ es) s = charged Control (suc (length es)) (and_on take S (e ∷ es) s)

unfoldable pub or_form : Take → Scope → List Tree → State → Answer Val
or_form take S [] s = wrong s
or_form take S (e ∷ es) s = charged Control (suc (length es)) (or_on take S (e ∷ es) s)

-- takes the thrown part, and throws its value
abbrev pub throwing : Take → Scope → Tree → State → Answer Val
throwing take S e s = and_then (take S e s) throw

unfoldable pub asserts_form : Take → Scope → List Tree → State → Answer Val
asserts_form take S (b ∷ x ∷ []) s = charged Control 2 (and_then (take S b s) (λ v t. choice v (give (BoolV true)) (throwing take S x) t))
asserts_form take S es s = wrong s

-- the part of some or ok; or else what follows
abbrev pub wanted_part : (State → Answer Val) → Val → State → Answer Val
wanted_part otherwise (SomeV v) s = give v s
wanted_part otherwise NoneV s = otherwise s
wanted_part otherwise (ResponseV true v) s = give v s
wanted_part otherwise (ResponseV false v) s = otherwise s
wanted_part otherwise v s = wrong s

-- the part of err; or else what follows
abbrev pub err_part : (State → Answer Val) → Val → State → Answer Val
err_part otherwise (ResponseV false v) s = give v s
err_part otherwise (ResponseV true v) s = otherwise s
err_part otherwise v s = wrong s

unfoldable pub unwrap_form : Take → Scope → List Tree → State → Answer Val
unwrap_form take S (e ∷ x ∷ []) s = charged Control 2 (and_then (take S e s) (wanted_part (throwing take S x)))
unwrap_form take S es s = wrong s

unfoldable pub unwrap_err_form : Take → Scope → List Tree → State → Answer Val
unwrap_err_form take S (e ∷ x ∷ []) s = charged Control 2 (and_then (take S e s) (err_part (throwing take S x)))
unwrap_err_form take S es s = wrong s

-- gives the part of some or ok, and throws none or the err
abbrev pub tried : Val → State → Answer Val
tried (SomeV v) s = give v s
tried NoneV s = throw NoneV s
tried (ResponseV true v) s = give v s
tried (ResponseV false v) s = throw (ResponseV false v) s
tried v s = wrong s

unfoldable pub try_form : Take → Scope → List Tree → State → Answer Val
try_form take S (e ∷ []) s = charged Control 1 (and_then (take S e s) tried)
try_form take S es s = wrong s

-- the branch of an optional, the part bound to the name
abbrev pub match_optional : Take → Scope → List ℕ → Tree → Tree → Val → State → Answer Val
match_optional take S x a b (SomeV v) s = taken_with take S x v a s
match_optional take S x a b NoneV s = take S b s
match_optional take S x a b v s = wrong s

-- the branch of a response, the part bound to the branch's name
abbrev pub match_response : Take → Scope → List ℕ → Tree → List ℕ → Tree → Val → State → Answer Val
match_response take S x a y b (ResponseV true v) s = taken_with take S x v a s
match_response take S x a y b (ResponseV false v) s = taken_with take S y v b s
match_response take S x a y b v s = wrong s

-- charged by the number of items that its parts are
abbrev pub match_taken : Take → Scope → Option MatchParts → State → Answer Val
match_taken take S (Some (OptionalMatch e x a b)) s = charged Control 4 (and_then (take S e s) (match_optional take S x a b))
match_taken take S (Some (ResponseMatch e x a y b)) s = charged Control 5 (and_then (take S e s) (match_response take S x a y b))
match_taken take S None s = wrong s

unfoldable pub match_form : Take → Scope → List Tree → State → Answer Val
match_form take S es s = match_taken take S (match_of es) s

-- its part is taken with sender and caller the contract itself
unfoldable pub as_contract_form : Take → Scope → List Tree → State → Answer Val
as_contract_form take S (e ∷ []) s = charged Control 1 (take (in_frame (as_contract S.frame) S) e s)
as_contract_form take S es s = wrong s
