-- Trees in a context whose contract's version they can stand in: what they mean, and that their parts can stand there too.
use Rattle.std.proofs.Common.{◌≡◌, ◌<◌, ℕ, zero, suc, List, [], ◌∷◌, length, get_or, take, drop, map, true, Bor, Option, Some, refl, sym, ap, subst, ◌∙◌}
use Rattle.std.specs.Prelude.{IfSome}
use Rattle.std.proofs.lemmas.Bool.{and_parts, and_from}
use Rattle.cl_types.specs.Types.{PlainType}
use Rattle.cl_sexpr.specs.declared.sexpr.Span.{Span}
use Rattle.cl_values.specs.Tree.{Tree as Val}
use Rattle.cl_forms.specs.declared.version.Version.{Version}
use Rattle.cl_events.specs.State.{State}
use Rattle.cl_code.specs.declared.definition.Function.{Function}
use Rattle.cl_code.specs.declared.op.Applied.{Applied}
use Rattle.cl_code.specs.declared.op.Iteration.{Iteration}
use Rattle.cl_code.specs.declared.op.Op.{Op}
use Rattle.cl_code.specs.declared.op.Op.TheVariants.{Iterate}
use Rattle.cl_code.specs.Nodes.{versions_of}
use Rattle.cl_code.specs.Typed.{Typed, TypedAs, typeds, expression_of, goes_by, all_go_by}
use Rattle.cl_code.specs.Expression.{expression}
use Rattle.cl_meaning.specs.Scope.{Take, Enter}
use Rattle.cl_meaning.specs.Meaning.{node}
use Rattle.cl_frames.specs.declared.applied.Called.{Called}
use Rattle.cl_frames.specs.declared.applied.Called.TheVariants.{Function as FunctionCalled}
use Rattle.cl_frames.specs.declared.context.Context.{Context}
use Rattle.cl_frames.specs.Seen.{Fits, scope_of, version_of}
use Rattle.cl_frames.specs.Going.{GoesIn, AllGoIn, AppliedGoesIn, CalledGoesIn, goes_called}
use Rattle.cl_frames.proofs.HomeLaws.{of_version}
use Rattle.cl_frames.proofs.IterateLaws.{applied_goes}
use Rattle.cl_frames.proofs.Nodes.{node_goes, node_op, op_form, part_goes, parts_go}

-- a tree with this operation and these parts
pub node_is : (c : Context) (bound : List (List ℕ × Val)) (through : Take) (enter : Enter) (code : Typed) (op mine : Op) (ps qs : List Typed) (ty : PlainType) (at : Span) (s : State) → Fits c → TypedAs (expression op (map expression_of ps) at) ty (versions_of op) (typeds ps) ≡ code → GoesIn c code → op ≡ mine → qs ≡ ps → node through enter (scope_of c bound) (expression_of code) s ≡ op_form mine through enter (scope_of c bound) (map expression_of qs) s
node_is c bound through enter code op mine ps qs ty at s fits h goes m n =
    ap (λ (x : Typed). node through enter (scope_of c bound) (expression_of x) s) (sym h)
    ∙ node_op (version_of c) through enter (scope_of c bound) (of_version c bound fits) op (map expression_of ps) at s (node_goes (version_of c) code op (map expression_of ps) ps ty at h (goes fits))
    ∙ ap (λ (o : Op). op_form o through enter (scope_of c bound) (map expression_of ps) s) m
    ∙ ap (λ (l : List Typed). op_form mine through enter (scope_of c bound) (map expression_of l) s) (sym n)

-- the parts of a node
pub parts_in : (c : Context) (code : Typed) (op : Op) (ps qs : List Typed) (ty : PlainType) (at : Span) → TypedAs (expression op (map expression_of ps) at) ty (versions_of op) (typeds ps) ≡ code → GoesIn c code → qs ≡ ps → AllGoIn c qs
parts_in c code op ps qs ty at h goes e fits =
    ap (λ (l : List Typed). all_go_by (version_of c) (typeds l)) e ∙ parts_go (version_of c) code op (map expression_of ps) ps ty at h (goes fits)

-- one of them
pub part_in : (c : Context) (ps : List Typed) (i : ℕ) (p : Typed) → AllGoIn c ps → i < length ps → p ≡ get_or ps i p → GoesIn c p
part_in c ps i p go less e fits = part_goes (version_of c) ps i p (go fits) less e

behind : (v : Version) (n : ℕ) (ps : List Typed) → all_go_by v (typeds ps) ≡ true → all_go_by v (typeds (drop n ps)) ≡ true
behind v zero ps h = h
behind v (suc n) [] h = h
behind v (suc n) (p ∷ ps) h = behind v n ps (and_parts (goes_by v p) (all_go_by v (typeds ps)) h).1

first : (v : Version) (n : ℕ) (ps : List Typed) → all_go_by v (typeds ps) ≡ true → all_go_by v (typeds (take n ps)) ≡ true
first v zero ps h = refl
first v (suc n) [] h = h
first v (suc n) (p ∷ ps) h =
    let both = and_parts (goes_by v p) (all_go_by v (typeds ps)) h in
    and_from (goes_by v p) (all_go_by v (typeds (take n ps))) both.0 (first v n ps both.1)

-- those behind the first ones
pub rest_in : (c : Context) (ps : List Typed) (m n : ℕ) → AllGoIn c ps → AllGoIn c (take m (drop n ps))
rest_in c ps m n go fits = first (version_of c) m (drop n ps) (behind (version_of c) n ps (go fits))

-- what a node applies
pub applied_in : (c : Context) (code : Typed) (op : Op) (i : Iteration) (head : Span) (a : Applied) (ps : List Typed) (ty : PlainType) (at : Span) → TypedAs (expression op (map expression_of ps) at) ty (versions_of op) (typeds ps) ≡ code → GoesIn c code → op ≡ Iterate i head a → AppliedGoesIn c a
applied_in c code op i head a ps ty at h goes e fits = applied_goes (version_of c) op i head a (node_goes (version_of c) code op (map expression_of ps) ps ty at h (goes fits)) e

-- a function that is found
pub found_goes : (v : Version) (o : Option (Bor Function)) (f : Bor Function) → o ≡ Some f → IfSome o (λ g. goes_by v g.now.body ≡ true) → goes_by v f.now.body ≡ true
found_goes v o f e h = subst (λ (p : Option (Bor Function)). IfSome p (λ g. goes_by v g.now.body ≡ true)) e h

-- what is found to be applied
pub callee_goes : (v : Version) (o : Option Called) (f : Called) → o ≡ Some f → IfSome o (λ g. goes_called v g ≡ true) → goes_called v f ≡ true
callee_goes v o f e h = subst (λ (p : Option Called). IfSome p (λ g. goes_called v g ≡ true)) e h

-- the body of a function that is applied
pub body_in : (c : Context) (called : Called) (f : Bor Function) → called ≡ FunctionCalled f → CalledGoesIn c called → GoesIn c f.now.body
body_in c called f e goes fits = sym (ap (goes_called (version_of c)) e) ∙ goes fits
