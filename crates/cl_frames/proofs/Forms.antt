-- What the form of each kind of node is, as equations over the expressions of its parts.
use Rattle.std.proofs.Common.{◌≡◌, ◌≢◌, ℕ, zero, suc, true, ◌-◌, ◌<◌, List, [], ◌∷◌, length, get_or, map, refl, sym, ap, ◌∙◌, arith}
use Rattle.std.proofs.lemmas.List.{length-map}
use Rattle.cl_shapes.specs.Limits.{Purse}
use Rattle.cl_shapes.specs.declared.name.CostName.{CostName}
use Rattle.cl_shapes.specs.declared.name.CostName.TheVariants.{Control, Call as CallCost}
use Rattle.cl_sexpr.specs.Tree.{Tree, span_of}
use Rattle.cl_sexpr.specs.declared.sexpr.Span.{Span}
use Rattle.cl_forms.specs.Heads.{Row}
use Rattle.cl_values.specs.declared.native.Native.{Native}
use Rattle.cl_values.specs.Tree.{Tree as Val, BoolV}
use Rattle.cl_events.specs.State.{State}
use Rattle.cl_code.specs.Typed.{Typed, expression_of}
use Rattle.cl_meaning.specs.Answers.{Deeper, give, charged, and_then, with_known, ending}
use Rattle.cl_meaning.specs.Deployed.{Function, function_of}
use Rattle.cl_meaning.specs.Scope.{Scope, home, OwnFunction, ByName, Callee, Take, Enter, parts, in_frame, as_contract}
use Rattle.cl_meaning.specs.Control.{if_form, begin_form, last_of, choice, and_on, or_on, and_form, or_form, throwing, wanted_part, err_part, asserts_form, unwrap_form, unwrap_err_form, tried, try_form, as_contract_form}
use Rattle.cl_meaning.specs.Values.{strict_form, on_values}
use Rattle.cl_forms.specs.declared.head.TokenNative.TheVariants as natives
use Rattle.cl_meaning.specs.Tokens.{print_form, stx_balance_form, token_form}
use Rattle.cl_meaning.specs.Calls.{call_form, application, function_form, body_in, bound_to, native_form}
use Rattle.cl_meaning.specs.Limits.{Costs, limited}
use Rattle.cl_meaning.specs.Meaning.{node, means, applied}
use Rattle.cl_meaning.proofs.Equations.{means_zero, means_step, applied_zero, applied_step}
use Rattle.cl_meaning.proofs.LimitLaws.{limited-ending}
use Rattle.cl_frames.specs.Watching.{Seen, Lost, watched}
use Rattle.cl_frames.proofs.WatchLaws.{watched-stop}
use Rattle.std.specs.Prelude.{option_and_then}
use Rattle.cl_sexpr.specs.Tree.{LeafAt, Unsigned}
use Rattle.cl_code.specs.declared.op.Word.{Word}
use Rattle.cl_code.specs.declared.op.Target.{Target}
use Rattle.cl_code.specs.Expression.{word, target, behind_first}
use Rattle.cl_meaning.specs.Deployed.{Deployed}
use Rattle.cl_meaning.specs.Scope.{Frame}
use Rattle.cl_meaning.specs.Values.{as_max_len_form}
use Rattle.cl_meaning.specs.Calls.{contract_call_form, other_contract, target_of, enter_there}
use Rattle.cl_meaning.specs.Top.{call_from}
use Rattle.cl_frames.specs.Tails.{printed, shortened, stx_read, token_acted}

-- ---- so many parts

pub one_of : {A : Type 0} (xs : List A) → length xs ≡ 1 → (a : A) → a ≡ get_or xs 0 a → xs ≡ a ∷ []
one_of [] l a x = absurd (omega arith)
one_of (d ∷ []) l a x = ap (λ e. e ∷ []) (sym x)
one_of (d ∷ e ∷ xs) l a x = absurd (omega arith)

pub two_of : {A : Type 0} (xs : List A) → length xs ≡ 2 → (a : A) → a ≡ get_or xs 0 a → (b : A) → b ≡ get_or xs 1 b → xs ≡ a ∷ b ∷ []
two_of [] l a x b y = absurd (omega arith)
two_of (d ∷ []) l a x b y = absurd (omega arith)
two_of (d ∷ e ∷ []) l a x b y = ap (λ f. f ∷ e ∷ []) (sym x) ∙ ap (λ f. a ∷ f ∷ []) (sym y)
two_of (d ∷ e ∷ f ∷ xs) l a x b y = absurd (omega arith)

pub three_of : {A : Type 0} (xs : List A) → length xs ≡ 3 → (a : A) → a ≡ get_or xs 0 a → (b : A) → b ≡ get_or xs 1 b → (c : A) → c ≡ get_or xs 2 c → xs ≡ a ∷ b ∷ c ∷ []
three_of [] l a x b y c z = absurd (omega arith)
three_of (d ∷ []) l a x b y c z = absurd (omega arith)
three_of (d ∷ e ∷ []) l a x b y c z = absurd (omega arith)
three_of (d ∷ e ∷ f ∷ []) l a x b y c z = ap (λ g. g ∷ e ∷ f ∷ []) (sym x) ∙ ap (λ g. a ∷ g ∷ f ∷ []) (sym y) ∙ ap (λ g. a ∷ b ∷ g ∷ []) (sym z)
three_of (d ∷ e ∷ f ∷ g ∷ xs) l a x b y c z = absurd (omega arith)

-- ---- natives that decide how their parts are taken

pub if_at : (take : Take) (S : Scope) (xs : List Typed) (s : State) → length xs ≡ 3 → (a : Typed) → a ≡ get_or xs 0 a → (b : Typed) → b ≡ get_or xs 1 b → (c : Typed) → c ≡ get_or xs 2 c → if_form take S (map expression_of xs) s ≡ charged Control 3 (and_then (take S (expression_of a) s) (λ v t. choice v (take S (expression_of b)) (take S (expression_of c)) t))
unfolding if_form
if_at take S xs s l a ha b hb c hc = ap (λ ys. if_form take S (map expression_of ys) s) (three_of xs l a ha b hb c hc)

pub begin_at : (take : Take) (S : Scope) (xs : List Typed) (n : ℕ) (s : State) → n ≡ length xs → begin_form take S (map expression_of xs) s ≡ charged Control n (and_then (parts take S (map expression_of xs) s) last_of)
unfolding begin_form
begin_at take S xs n s h = ap (λ m. charged Control m (and_then (parts take S (map expression_of xs) s) last_of)) (length-map xs expression_of ∙ sym h)

pub and_at : (take : Take) (S : Scope) (xs : List Typed) (n : ℕ) (s : State) → n ≢ 0 → n ≡ length xs → and_form take S (map expression_of xs) s ≡ charged Control n (and_on take S (map expression_of xs) s)
unfolding and_form
and_at take S [] n s h k = absurd (h k)
and_at take S (x ∷ xs) n s h k = ap (λ m. charged Control m (and_on take S (map expression_of (x ∷ xs)) s)) (ap suc (length-map xs expression_of) ∙ sym k)

pub or_at : (take : Take) (S : Scope) (xs : List Typed) (n : ℕ) (s : State) → n ≢ 0 → n ≡ length xs → or_form take S (map expression_of xs) s ≡ charged Control n (or_on take S (map expression_of xs) s)
unfolding or_form
or_at take S [] n s h k = absurd (h k)
or_at take S (x ∷ xs) n s h k = ap (λ m. charged Control m (or_on take S (map expression_of (x ∷ xs)) s)) (ap suc (length-map xs expression_of) ∙ sym k)

pub asserts_at : (take : Take) (S : Scope) (xs : List Typed) (s : State) → length xs ≡ 2 → (a : Typed) → a ≡ get_or xs 0 a → (b : Typed) → b ≡ get_or xs 1 b → asserts_form take S (map expression_of xs) s ≡ charged Control 2 (and_then (take S (expression_of a) s) (λ v t. choice v (give (BoolV true)) (throwing take S (expression_of b)) t))
unfolding asserts_form
asserts_at take S xs s l a ha b hb = ap (λ ys. asserts_form take S (map expression_of ys) s) (two_of xs l a ha b hb)

pub unwrap_at : (take : Take) (S : Scope) (xs : List Typed) (s : State) → length xs ≡ 2 → (a : Typed) → a ≡ get_or xs 0 a → (b : Typed) → b ≡ get_or xs 1 b → unwrap_form take S (map expression_of xs) s ≡ charged Control 2 (and_then (take S (expression_of a) s) (wanted_part (throwing take S (expression_of b))))
unfolding unwrap_form
unwrap_at take S xs s l a ha b hb = ap (λ ys. unwrap_form take S (map expression_of ys) s) (two_of xs l a ha b hb)

pub unwrap_err_at : (take : Take) (S : Scope) (xs : List Typed) (s : State) → length xs ≡ 2 → (a : Typed) → a ≡ get_or xs 0 a → (b : Typed) → b ≡ get_or xs 1 b → unwrap_err_form take S (map expression_of xs) s ≡ charged Control 2 (and_then (take S (expression_of a) s) (err_part (throwing take S (expression_of b))))
unfolding unwrap_err_form
unwrap_err_at take S xs s l a ha b hb = ap (λ ys. unwrap_err_form take S (map expression_of ys) s) (two_of xs l a ha b hb)

pub try_at : (take : Take) (S : Scope) (xs : List Typed) (s : State) → length xs ≡ 1 → (a : Typed) → a ≡ get_or xs 0 a → try_form take S (map expression_of xs) s ≡ charged Control 1 (and_then (take S (expression_of a) s) tried)
unfolding try_form
try_at take S xs s l a ha = ap (λ ys. try_form take S (map expression_of ys) s) (one_of xs l a ha)

pub as_contract_at : (take : Take) (S : Scope) (xs : List Typed) (s : State) → length xs ≡ 1 → (a : Typed) → a ≡ get_or xs 0 a → as_contract_form take S (map expression_of xs) s ≡ charged Control 1 (take (in_frame (as_contract S.frame) S) (expression_of a) s)
unfolding as_contract_form
as_contract_at take S xs s l a ha = ap (λ ys. as_contract_form take S (map expression_of ys) s) (one_of xs l a ha)

pub print_at : (take : Take) (S : Scope) (xs : List Typed) (s : State) → length xs ≡ 1 → (a : Typed) → a ≡ get_or xs 0 a → print_form take S (map expression_of xs) s ≡ and_then (take S (expression_of a) s) (printed S.frame)
unfolding print_form
print_at take S xs s l a ha = ap (λ ys. print_form take S (map expression_of ys) s) (one_of xs l a ha)

-- ---- one level down

pub means_none : (costs : Costs) (p : Purse) (sp : Seen) (depth : ℕ) (S : Scope) (e : Tree) (s : State) → depth ≡ 0 → watched costs p sp (means depth S e s) ≡ Lost p sp
means_none costs p sp depth S e s h = ap (λ n. watched costs p sp (means n S e s)) h ∙ ap (watched costs p sp) (means_zero S e s) ∙ watched-stop costs p sp Deeper s

pub means_down : (costs : Costs) (p : Purse) (sp : Seen) (depth : ℕ) (S : Scope) (e : Tree) (s : State) → 0 < depth → watched costs p sp (means depth S e s) ≡ watched costs p sp (ending (span_of e) (node (means (depth - 1)) (applied (depth - 1)) S e s))
means_down costs p sp zero S e s h = absurd (omega arith)
means_down costs p sp (suc depth) S e s h =
    let k : depth ≡ suc depth - 1 = omega arith in
    ap (watched costs p sp) (means_step depth S e s) ∙ ap (λ n. watched costs p sp (ending (span_of e) (node (means n) (applied n) S e s))) k

-- ---- natives on values, and calls

pub strict_at : (native : Native) (cost : CostName) (take : Take) (S : Scope) (es : List Tree) (s : State) → strict_form native cost take S es s ≡ and_then (parts take S es s) (on_values native cost)
unfolding strict_form
strict_at native cost take S es s = refl

pub call_at : (x : List ℕ) (take : Take) (enter : Enter) (S : Scope) (es : List Tree) (s : State) → call_form x take enter S es s ≡ and_then (parts take S es s) (λ vs. with_known (function_of x (home S)) (λ f. enter S (OwnFunction f) vs))
unfolding call_form
call_at x take enter S es s = refl

pub applied_none : (costs : Costs) (p : Purse) (sp : Seen) (depth : ℕ) (S : Scope) (f : Callee) (vs : List Val) (s : State) → depth ≡ 0 → watched costs p sp (applied depth S f vs s) ≡ Lost p sp
applied_none costs p sp depth S f vs s h =
    ap (λ n. watched costs p sp (applied n S f vs s)) h ∙ ap (watched costs p sp) (applied_zero S f vs s) ∙ watched-stop costs p sp Deeper s

pub applied_down : (depth : ℕ) (S : Scope) (f : Function) (vs : List Val) (n : ℕ) (s : State) → 0 < depth → n ≡ length vs → applied depth S (OwnFunction f) vs s ≡ charged CallCost n (bound_to (body_in (means (depth - 1)) S f) [] f.params vs s)
unfolding application function_form
applied_down zero S f vs n s h k = absurd (omega arith)
applied_down (suc depth) S f vs n s h k =
    let m : depth ≡ suc depth - 1 = omega arith in
    applied_step depth S (OwnFunction f) vs s
    ∙ ap (λ d. charged CallCost (length vs) (bound_to (body_in (means d) S f) [] f.params vs s)) m
    ∙ ap (λ l. charged CallCost l (bound_to (body_in (means (suc depth - 1)) S f) [] f.params vs s)) (sym k)

-- a native by name
pub applied_native : (costs : Costs) (p : Purse) (depth : ℕ) (S : Scope) (row : Row) (at : Span) (vs : List Val) (s : State) → 0 < depth → limited costs p (applied depth S (ByName row at) vs s) ≡ limited costs p (native_form row.head row.cost vs s)
unfolding application
applied_native costs p zero S row at vs s h = absurd (omega arith)
applied_native costs p (suc depth) S row at vs s h = ap (limited costs p) (applied_step depth S (ByName row at) vs s) ∙ limited-ending costs p at (native_form row.head row.cost vs s)

pub called_at : (W : Deployed) (F : Frame) (f : Function) (vs : List Val) (s : State) → call_from W F f vs s ≡ applied 256 (record { deployed = W; frame = F; bound = [] }) (OwnFunction f) vs s
unfolding call_from
called_at W F f vs s = refl

pub contract_call_at : (take : Take) (enter : Enter) (S : Scope) (t : Target) (f : Word) (es : List Tree) (s : State) → contract_call_form take enter S (target t ∷ word f ∷ es) s ≡ and_then (parts take S es s) (λ vs. with_known (option_and_then (other_contract S) (target_of S (target t))) (enter_there enter S f.name vs))
unfolding contract_call_form
contract_call_at take enter S t f es s = refl

pub max_len_at : (take : Take) (S : Scope) (xs : List Typed) (most : ℕ) (at : Span) (s : State) → length xs ≡ 1 → (a : Typed) → a ≡ get_or xs 0 a → as_max_len_form take S (behind_first (λ e more. e ∷ LeafAt (Unsigned most) at ∷ more) (map expression_of xs)) s ≡ and_then (take S (expression_of a) s) (shortened most)
unfolding as_max_len_form
max_len_at take S xs most at s l a ha = ap (λ ys. as_max_len_form take S (behind_first (λ e more. e ∷ LeafAt (Unsigned most) at ∷ more) (map expression_of ys)) s) (one_of xs l a ha)

-- ---- STX

pub stx_at : (take : Take) (S : Scope) (xs : List Typed) (s : State) → length xs ≡ 1 → (a : Typed) → a ≡ get_or xs 0 a → stx_balance_form take S (map expression_of xs) s ≡ and_then (take S (expression_of a) s) stx_read
unfolding stx_balance_form
stx_at take S xs s l a ha = ap (λ ys. stx_balance_form take S (map expression_of ys) s) (one_of xs l a ha)

pub send_stx_at : (take : Take) (S : Scope) (es : List Tree) (s : State) → token_form natives.SendStx take S es s ≡ and_then (parts take S es s) (token_acted natives.SendStx S [])
unfolding token_form
send_stx_at take S es s = refl

pub burn_stx_at : (take : Take) (S : Scope) (es : List Tree) (s : State) → token_form natives.BurnStx take S es s ≡ and_then (parts take S es s) (token_acted natives.BurnStx S [])
unfolding token_form
burn_stx_at take S es s = refl
