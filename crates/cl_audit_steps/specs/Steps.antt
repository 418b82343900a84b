-- What the steps of a node mean.
use Rattle.std.specs.Prelude.{◌≡◌, ℕ, true, false, List, [], ◌∷◌, map, option_and_then, Option, Some, None, Result, Ok, Err}
use Rattle.cl_c32.specs.declared.principal.Principal.{Principal}
use Rattle.cl_shapes.specs.declared.name.CostName.TheVariants.{ReadVar, WriteVar, WriteMap, ReadToken, WriteToken, Make, Iterate, Take as TakeCost, Event as EventCost}
use Rattle.cl_sexpr.specs.declared.sexpr.Span.{Span}
use Rattle.cl_sexpr.specs.Tree.{Tree}
use Rattle.cl_values.specs.Computed.{Gives}
use Rattle.cl_values.specs.Sequences.{optional, within_length}
use Rattle.cl_values.specs.Tree.{Tree as Val, UintV, BoolV, PrincipalV, TupleV, NoneV, SomeV}
use Rattle.cl_values.specs.Tuples.{part_at, sorted_entries}
use Rattle.cl_values.specs.Wire.{wire, size_of}
use Rattle.cl_maps.specs.Maps.{get}
use Rattle.cl_forms.specs.declared.head.TokenNative.{TokenNative}
use Rattle.cl_forms.specs.declared.head.TokenNative.TheVariants as tokens
use Rattle.cl_events.specs.declared.event.EventKind.TheVariants.{Print}
use Rattle.cl_events.specs.State.{State, with_event}
use Rattle.cl_operands.specs.ActParts.{principal_of}
use Rattle.cl_meaning.specs.Answers.{Answer, Aborted, stop, give, wrong, charged, and_then, with_known, outcome_of}
use Rattle.cl_meaning.specs.Calls.{enter_there, other_contract, target_of}
use Rattle.cl_meaning.specs.Control.{choice, throw, throwing, wanted_part, err_part, tried, match_optional, match_response, let_in, and_on, or_on, last_of}
use Rattle.cl_meaning.specs.Data.{here, variable_set, with_map, found_at, entry_at, set_entry, insert_entry, delete_entry, key_and_value}
use Rattle.cl_meaning.specs.Deployed.{function_of}
use Rattle.cl_meaning.specs.Limits.{Charge}
use Rattle.cl_meaning.specs.Scope.{Scope, Callee, Take, Enter, OwnFunction, home, binding, in_frame, as_contract, called, parts, sizes}
use Rattle.cl_meaning.specs.Sequences.{callee_of, mapped, filtered, fold_of}
use Rattle.cl_meaning.specs.Tokens.{balance_in, owner_value, act_of, acts}
use Rattle.cl_meaning.specs.Values.{on_values, tuple_form}
use Rattle.cl_walks.specs.Ends.{cause}
use Rattle.cl_audit_steps.specs.Items.{fields_seen}
use Rattle.cl_audit_steps.specs.Seen.{function_seen, callee_seen}
use Rattle.cl_audit_steps.specs.declared.step.Last.{Last}
use Rattle.cl_audit_steps.specs.declared.step.Last.TheVariants as last
use Rattle.cl_audit_steps.specs.declared.step.End.{End}
use Rattle.cl_audit_steps.specs.declared.step.OnOne.{OnOne}
use Rattle.cl_audit_steps.specs.declared.step.OnOne.TheVariants as one
use Rattle.cl_audit_steps.specs.declared.step.OnAll.{OnAll}
use Rattle.cl_audit_steps.specs.declared.step.OnAll.TheVariants as all
use Rattle.cl_audit_steps.specs.declared.step.OnRead.{OnRead}
use Rattle.cl_audit_steps.specs.declared.step.OnRead.TheVariants as read
use Rattle.cl_audit_steps.specs.declared.step.OnAct.{OnAct}
use Rattle.cl_audit_steps.specs.declared.step.OnAct.TheVariants as act
use Rattle.cl_audit_steps.specs.declared.step.OnActs.{OnActs}
use Rattle.cl_audit_steps.specs.declared.step.OnActs.TheVariants as many
use Rattle.cl_audit_steps.specs.declared.step.Chain.{Chain}
use Rattle.cl_audit_steps.specs.declared.step.Chain.TheVariants.{And, Or}
use Rattle.cl_audit_steps.specs.declared.step.Link.{Link}
use Rattle.cl_audit_steps.specs.declared.step.Link.TheVariants as link
use Rattle.cl_audit_steps.specs.declared.step.Part.{Part}
use Rattle.cl_audit_steps.specs.declared.step.Part.TheVariants.{Ends, One, All, Truths, Let, Tuple, Read, Act, Acts}
use Rattle.cl_audit_steps.specs.declared.step.Start.{Start}

-- charged first, where there is a charge
unfoldable pub behind : {A : Type 0} → Option Charge → Answer A → Answer A
behind None a = a
behind (Some c) a = charged c.0 c.1 a

-- ---- how a node ends

abbrev pub last_step : Take → Enter → Scope → Last → State → Answer Val
last_step take enter S (last.Give v) s = give v s
last_step take enter S (last.Throw v) s = throw v s
last_step take enter S (last.Abort why) s = stop (Aborted (cause why)) s
last_step take enter S last.Wrong s = wrong s
last_step take enter S (last.As e) s = take S e.now s
last_step take enter S (last.Throwing e) s = throwing take S e.now s
last_step take enter S (last.With x v e) s = take (binding x.now v S) e.now s
last_step take enter S (last.AsContract e) s = take (in_frame (as_contract S.frame) S) e.now s
last_step take enter S (last.Enter f vs) s = enter S (OwnFunction (function_seen f)) vs.items s
last_step take enter S (last.EnterIn p f vs) s = enter (in_frame (called p.now S.frame) S) (OwnFunction (function_seen f)) vs.items s
last_step take enter S (last.Map f vs) s = mapped enter S vs.items (callee_seen f) s
last_step take enter S (last.Filter f v) s = filtered enter S v (callee_seen f) s
last_step take enter S (last.Fold f v w) s = fold_of enter S v w (callee_seen f) s

abbrev pub end_step : Take → Enter → Scope → End → State → Answer Val
end_step take enter S e s = behind e.charge (last_step take enter S e.last s)

-- ---- what follows the value of a part

-- the part at a key
abbrev pub part_taken : List ℕ → Val → State → Answer Val
part_taken key v s = charged TakeCost (size_of v) (stop (outcome_of (part_at key v)) s)

-- a sequence within a length
abbrev pub shortened : ℕ → Val → State → Answer Val
shortened most v s = charged Make (size_of v) (stop (outcome_of (within_length most v)) s)

abbrev pub filter_on : Enter → Scope → List ℕ → Span → Val → State → Answer Val
filter_on enter S f at v s = charged Iterate (size_of v) (with_known (callee_of S f at) (filtered enter S v) s)

abbrev pub on_one : Take → Enter → Scope → OnOne → Val → State → Answer Val
on_one take enter S (one.Choose x y) v s = choice v (take S x.now) (take S y.now) s
on_one take enter S (one.Assert x) v s = choice v (give (BoolV true)) (throwing take S x.now) s
on_one take enter S (one.Unwrap x) v s = wanted_part (throwing take S x.now) v s
on_one take enter S (one.UnwrapErr x) v s = err_part (throwing take S x.now) v s
on_one take enter S one.Try v s = tried v s
on_one take enter S (one.Optional x a b) v s = match_optional take S x.now a.now b.now v s
on_one take enter S (one.Response x a y b) v s = match_response take S x.now a.now y.now b.now v s
on_one take enter S (one.Get key) v s = part_taken key.now v s
on_one take enter S (one.AsMaxLen most) v s = shortened most v s
on_one take enter S (one.Filter f at) v s = filter_on enter S f.now at v s

-- ---- what follows the values of all parts

abbrev pub function_entered : Enter → Scope → List ℕ → List Val → State → Answer Val
function_entered enter S x vs s = with_known (function_of x (home S)) (λ f. enter S (OwnFunction f) vs) s

-- a function of the contract that an item names
abbrev pub across : Enter → Scope → Tree → List ℕ → List Val → State → Answer Val
across enter S e x vs s = with_known (option_and_then (other_contract S) (target_of S e)) (enter_there enter S x vs) s

abbrev pub map_on : Enter → Scope → List ℕ → Span → List Val → State → Answer Val
map_on enter S f at vs s = charged Iterate (sizes vs) (with_known (callee_of S f at) (mapped enter S vs) s)

-- a sequence and the first result
abbrev pub fold_values : Enter → Scope → List Val → Callee → State → Answer Val
fold_values enter S (v ∷ w ∷ []) f s = fold_of enter S v w f s
fold_values enter S vs f s = wrong s

abbrev pub fold_on : Enter → Scope → List ℕ → Span → List Val → State → Answer Val
fold_on enter S f at vs s = charged Iterate (sizes vs) (with_known (callee_of S f at) (fold_values enter S vs) s)

abbrev pub on_all : Enter → Scope → OnAll → List Val → State → Answer Val
on_all enter S all.Last vs s = last_of vs s
on_all enter S (all.Native n cost) vs s = on_values n cost vs s
on_all enter S (all.Call x) vs s = function_entered enter S x.now vs s
on_all enter S (all.Across e x) vs s = across enter S e.now x.now vs s
on_all enter S (all.Map f at) vs s = map_on enter S f.now at vs s
on_all enter S (all.Fold f at) vs s = fold_on enter S f.now at vs s

-- a tuple of values under keys
abbrev pub tuple_made : List (List ℕ × Val) → State → Answer Val
tuple_made [] s = wrong s
tuple_made (e ∷ es) s = charged Make (sizes (map (λ q. q.1) (e ∷ es))) (stop (outcome_of (Gives (TupleV (sorted_entries (e ∷ es))))) s)

-- ---- and, or

abbrev pub chain : Chain → Take → Scope → List Tree → State → Answer Val
chain And take S es s = and_on take S es s
chain Or take S es s = or_on take S es s

-- what follows the value of a part
abbrev pub chain_on : Chain → (State → Answer Val) → Val → State → Answer Val
chain_on And more v s = choice v more (give (BoolV false)) s
chain_on Or more v s = choice v (give (BoolV true)) more s

abbrev pub link_step : Link → (State → Answer Val) → State → Answer Val
link_step (link.Ends v) more s = give v s
link_step link.More more s = more s
link_step link.Wrong more s = wrong s

-- ---- what is read of the state and done to it

abbrev pub variable_read : Scope → List ℕ → State → Answer Val
variable_read S x s = with_known (get (here S x) s.variables) (λ v t. charged ReadVar (size_of v) (give v t)) s

abbrev pub supply_read : Scope → List ℕ → State → Answer Val
supply_read S x s = charged ReadToken 0 (with_known (get (here S x) s.fungibles) (λ l. give (UintV l.supply)) s)

abbrev pub on_read : Scope → OnRead → State → Answer Val
on_read S (read.Variable x) s = variable_read S x.now s
on_read S (read.Supply x) s = supply_read S x.now s

abbrev pub value_printed : Scope → Val → State → Answer Val
value_printed S v t = charged EventCost (size_of v) (give v (with_event S.frame.contract (Print v) t))

abbrev pub variable_written : Scope → List ℕ → Val → State → Answer Val
variable_written S x v t = charged WriteVar (size_of v) (with_known (get (here S x) t.variables) (variable_set (here S x) v) t)

abbrev pub entry_read : Scope → List ℕ → Val → State → Answer Val
entry_read S m key s = with_map S m (λ t. found_at key (optional (entry_at S m key t)) t) s

abbrev pub entry_deleted : Scope → List ℕ → Val → State → Answer Val
entry_deleted S m key s = charged WriteMap (size_of key) (with_map S m (delete_entry S m key) s)

abbrev pub balance_read : Scope → List ℕ → Val → State → Answer Val
balance_read S x v s = charged ReadToken (size_of v) (with_known (get (here S x) s.fungibles) (balance_in v) s)

abbrev pub stx_read : Val → State → Answer Val
stx_read v s = charged ReadToken (size_of v) (balance_in v s.stx s)

abbrev pub owner_read : Scope → List ℕ → Val → State → Answer Val
owner_read S x id s = charged ReadToken (size_of id) (with_known (get (here S x) s.nonfungibles) (λ owners. with_known (owner_value (get (wire id) owners)) give) s)

-- what a principal has, by a function that says it
abbrev pub amount_read : (Principal → ℕ) → Val → State → Answer Val
amount_read amount v s = with_known (principal_of v) (λ who. give (UintV (amount who))) s

-- an owner that may be there
abbrev pub owner_given : Option Principal → State → Answer Val
owner_given None s = give NoneV s
owner_given (Some p) s = give (SomeV (PrincipalV p)) s

abbrev pub on_act : Scope → OnAct → Val → State → Answer Val
on_act S act.Print v t = value_printed S v t
on_act S (act.SetVariable x) v t = variable_written S x.now v t
on_act S (act.ReadEntry m) v t = entry_read S m.now v t
on_act S (act.DeleteEntry m) v t = entry_deleted S m.now v t
on_act S (act.ReadBalance x) v t = balance_read S x.now v t
on_act S act.ReadStx v t = stx_read v t
on_act S (act.ReadOwner x) v t = owner_read S x.now v t

abbrev pub entry_written : Scope → List ℕ → List Val → State → Answer Val
entry_written S m vs s = charged WriteMap (sizes vs) (with_map S m (key_and_value (set_entry S m) vs) s)

-- an entry is written where none is there
abbrev pub entry_inserted : Scope → List ℕ → List Val → State → Answer Val
entry_inserted S m vs s = charged WriteMap (sizes vs) (with_map S m (key_and_value (λ key v t. insert_entry S m key v (entry_at S m key t) t) vs) s)

abbrev pub token_acted : TokenNative → Scope → List ℕ → List Val → State → Answer Val
token_acted native S x vs s = charged WriteToken (sizes vs) (with_known (act_of native x vs) (acts S) s)

-- the act of a native on STX
abbrev pub stx_act : TokenNative → Option OnActs
stx_act tokens.SendStx = Some many.SendStx
stx_act tokens.BurnStx = Some many.BurnStx
stx_act native = None

abbrev pub on_acts : Scope → OnActs → List Val → State → Answer Val
on_acts S (many.WriteEntry m) vs t = entry_written S m.now vs t
on_acts S (many.InsertEntry m) vs t = entry_inserted S m.now vs t
on_acts S (many.Token native x) vs t = token_acted native S x.now vs t
on_acts S many.SendStx vs t = token_acted tokens.SendStx S [] vs t
on_acts S many.BurnStx vs t = token_acted tokens.BurnStx S [] vs t

-- ---- what a node evaluates first, and what follows

abbrev pub part_step : Take → Enter → Scope → Part → State → Answer Val
part_step take enter S (Ends l) s = last_step take enter S l s
part_step take enter S (One e k) s = and_then (take S e.now s) (on_one take enter S k)
part_step take enter S (All es k) s = and_then (parts take S es.now s) (on_all enter S k)
part_step take enter S (Truths c es) s = chain c take S es.now s
part_step take enter S (Let bs es) s = let_in take es.now S bs.now s
part_step take enter S (Tuple fs) s = tuple_form take S (fields_seen fs.items) s
part_step take enter S (Read k) s = on_read S k s
part_step take enter S (Act e k) s = and_then (take S e.now s) (on_act S k)
part_step take enter S (Acts es k) s = and_then (parts take S es.now s) (on_acts S k)

abbrev pub start_step : Take → Enter → Scope → Start → State → Answer Val
start_step take enter S b s = behind b.charge (part_step take enter S b.part s)

-- ---- the clause of each step: its answer is that of its form

-- what a form means in a scope, over what its parts and applications mean
abbrev pub Form : Type 0
Form = Take → Enter → State → Answer Val

abbrev pub StartsSo : Scope → Form → Start → Type 0
StartsSo S form b = (take : Take) (enter : Enter) (s : State) → form take enter s ≡ start_step take enter S b s

-- where there is memory for it
abbrev pub IsStart : {E : Type 0} → Scope → Form → Result Start E → Type 0
IsStart S form (Ok b) = StartsSo S form b
IsStart S form (Err e) = Unit {0}

abbrev pub EndsSo : Scope → Form → End → Type 0
EndsSo S form x = (take : Take) (enter : Enter) (s : State) → form take enter s ≡ end_step take enter S x s

abbrev pub IsEnd : {E : Type 0} → Scope → Form → Result End E → Type 0
IsEnd S form (Ok x) = EndsSo S form x
IsEnd S form (Err e) = Unit {0}

abbrev pub IsLast : Scope → Form → Last → Type 0
IsLast S form l = (take : Take) (enter : Enter) (s : State) → form take enter s ≡ last_step take enter S l s
