-- Calls of functions that don't write leave the state untouched, and read-only functions don't write.
use Rattle.std.proofs.Common.{◌≡◌, ℕ, List, [], Option, Some, None, refl, sym, ap, subst, ◌∙◌}
use Rattle.std.specs.Prelude.{IsSome}
use Rattle.cl_types.specs.declared.sized.Access.TheVariants.{ReadOnly}
use Rattle.cl_c32.specs.declared.principal.Principal.{Principal}
use Rattle.cl_events.proofs.Holders.{holders_apart}
use Rattle.cl_values.specs.Tree.{Tree as Val}
use Rattle.cl_values.specs.Valid.{IsPrincipal}
use Rattle.cl_events.specs.State.{State}
use Rattle.cl_meaning.specs.Deployed.{Contract, Deployed, Function, contract_at, function_in}
use Rattle.cl_meaning.specs.Scope.{Frame, OwnFunction}
use Rattle.cl_meaning.specs.Top.{most_depth, call_from}
use Rattle.cl_rules.specs.Context.{Known, known_at}
use Rattle.cl_contract_sound.specs.Nodes.{AreContracts}
use Rattle.cl_contract_sound.proofs.OfTexts.{found_principal}
use Rattle.cl_contract_sound.proofs.States.{at_contains, some_contract}
use Rattle.cl_readonly_sound.specs.Untouched.{IsUntouched}
use Rattle.cl_readonly_sound.specs.Laws.{StandsForText, DoesNotWrite}
use Rattle.cl_readonly_sound.proofs.Evaluations.{each_depth}
use Rattle.cl_readonly_sound.proofs.Deployed.{IsQuietFunction, quiet_function, bodies_quiet, text_at, stands_for, read_only_apart}

pub call_untouched : (W : Deployed) (p : Principal) (x : List ℕ) → DoesNotWrite W p x → (c : Contract) → contract_at p W ≡ Some c → (f : Function) → function_in x c.forms ≡ Some f → (F : Frame) → F.contract ≡ p → (vs : List Val) (s : State) → IsUntouched s (call_from W F f vs s).state
unfolding call_from
call_untouched W p x d c at f is F home vs s =
    ((each_depth W (IsQuietFunction W) (bodies_quiet W) most_depth).1 F [] (OwnFunction f) (subst (λ q. IsQuietFunction W q f) (sym home) (quiet_function W p x d c at f is)) vs s).untouched

some_there : {A : Type 0} (o : Option A) → IsSome o → (a : A) × (o ≡ Some a)
some_there None h = absurd cc
some_there (Some a) h = (a, refl)

pub contract_stands : (W : Deployed) (ks : List Known) → AreContracts W ks → (p : Principal) → IsPrincipal p → (c : Contract) → contract_at p W ≡ Some c → StandsForText W p
contract_stands W ks A p valid c at =
    let here = at_contains p W c at in
    let home : c.principal ≡ p = holders_apart c.principal p (A.distinct.valid c here) valid (found_principal p W c at) in
    let known = some_there (known_at p ks) (subst (λ q. IsSome (known_at q ks)) home (A.known c here)) in
    stands_for W p known.0 (text_at W ks A.texts p known.0 known.1)

read_only_of : (W : Deployed) (p : Principal) (c : Contract) → contract_at p W ≡ Some c → (x : List ℕ) (f : Function) → function_in x c.forms ≡ Some f → f.access ≡ ReadOnly → StandsForText W p → DoesNotWrite W p x
read_only_of W p c at x f is access t = read_only_apart W p t x f (ap (λ (c : Contract). function_in x c.forms) (some_contract t.contract c (sym t.there ∙ at)) ∙ is) access

pub read_only_does_not_write : (W : Deployed) (ks : List Known) → AreContracts W ks → (p : Principal) → IsPrincipal p → (c : Contract) → contract_at p W ≡ Some c → (x : List ℕ) (f : Function) → function_in x c.forms ≡ Some f → f.access ≡ ReadOnly → DoesNotWrite W p x
read_only_does_not_write W ks A p valid c at x f is access = read_only_of W p c at x f is access (contract_stands W ks A p valid c at)

pub read_only_untouched : (W : Deployed) (ks : List Known) → AreContracts W ks → (p : Principal) → IsPrincipal p → (c : Contract) → contract_at p W ≡ Some c → (x : List ℕ) (f : Function) → function_in x c.forms ≡ Some f → f.access ≡ ReadOnly → (F : Frame) → F.contract ≡ p → (vs : List Val) (s : State) → IsUntouched s (call_from W F f vs s).state
read_only_untouched W ks A p valid c at x f is access = call_untouched W p x (read_only_does_not_write W ks A p valid c at x f is access) c at f is
