-- What holds before the deployment of an accepted contract: each definition has a name of its own, and no token of its principal is
-- there.
use Rattle.std.specs.Prelude.{slice_get}
use Rattle.std.proofs.Common.{◌≡◌, ℕ, zero, suc, List, [], ◌∷◌, map, None, Some, Ok, sym, subst, ap, ◌∙◌}
use Rattle.cl_c32.specs.declared.principal.Principal.{Principal}
use Rattle.cl_code.specs.declared.definition.Definition.{Definition}
use Rattle.cl_code.specs.declared.definition.Definition.TheVariants.{Constant, Variable, MapOf, Fungible, NonFungible, Function, TopLevel}
use Rattle.cl_code.specs.Definitions.{form_defined}
use Rattle.cl_contracts.specs.declared.checked.Checked.{Checked}
use Rattle.cl_contracts.specs.Seen.{IsIndexed, contract_seen as checked_seen, forms_of}
use Rattle.cl_forms.specs.Forms.{Form}
use Rattle.cl_forms.specs.Order.{IsGoodOrder, ordered as order_of}
use Rattle.cl_forms.specs.Texts.{Text}
use Rattle.cl_meaning.specs.Deployed.{contract_at}
use Rattle.cl_newness.specs.Newness.{DefineOnce, HasNoTokens, IsNamed}
use Rattle.cl_node_sound.specs.Laws.{NewHaveNoTokens}
use Rattle.cl_node_sound.specs.Sound.{HasParts}
use Rattle.cl_nodes.specs.declared.asked.Deployment.{Deployment}
use Rattle.cl_nodes.specs.declared.asked.Moment.{Moment}
use Rattle.cl_nodes.specs.Accepting.{IsNew}
use Rattle.cl_meaning.specs.Scope.{Frame}
use Rattle.cl_tx.specs.Nodes.{person}
use Rattle.cl_nodes.specs.Asked.{deployment_entry, frame_for, principal_of}
use Rattle.cl_nodes.specs.Seen.{node_with}
use Rattle.cl_nodes.specs.Sound.{Contracts, IsSound}
use Rattle.cl_contracts.specs.declared.deployed.Deployed.{Deployed as DeployedOfCode}
use Rattle.cl_audit_steps.specs.declared.scope.Contract.{Contract as ContractOfCode}
use Rattle.cl_audit_steps.specs.Seen.{contract_seen, contracts_seen}
use Rattle.cl_audit_walk.specs.declared.run.Run.{Run}
use Rattle.cl_audit_entries.specs.Deploying.{IsOpened, IsReadAs, opened_of}
use Rattle.cl_audit_entries.specs.Seen.{AreThose, seen_of}
use Rattle.cl_audit_entries.proofs.Bare.{bare_none}

-- ---- names

is_named : (d : Definition) → IsNamed (form_defined d).name (form_defined d).kind
is_named (Constant c) = tt
is_named (Variable v) = tt
is_named (MapOf m) = tt
is_named (Fungible t) = tt
is_named (NonFungible t) = tt
is_named (Function f) = tt
is_named (TopLevel e) = tt

all_named : (ds : List Definition) (n : ℕ) (f : Form) → slice_get (map form_defined ds) n ≡ Some f → IsNamed f.name f.kind
all_named [] n f h = absurd cc
all_named (d ∷ ds) zero f h = subst (λ (g : Form). IsNamed g.name g.kind) (one h) (is_named d)
  where
    one : Some (form_defined d) ≡ Some f → form_defined d ≡ f
    one e = cc
all_named (d ∷ ds) (suc n) f h = all_named ds n f h

some_is : {A : Type 0} (x y : A) → Some x ≡ Some y → x ≡ y
some_is x y e = cc

pub define_once : (c : Checked) → IsIndexed c → DefineOnce (forms_of c)
define_once c names = record {
  named = λ n f h. all_named c.definitions.items n f h;
  once = λ x n m a b. some_is n m (sym (names.placed x n a) ∙ names.placed x m b);
}

-- its forms are those of the text, which has one good order
pub opened : (text : Text) (c : Checked) (k : ContractOfCode) → IsReadAs text c → IsIndexed c → k.forms ≡ forms_of c → k.constants ≡ [] → IsOpened k c.order.items
opened text c k read names forms constants = record {
  ordered = subst (λ (fs : List Form). order_of fs ≡ Ok c.order.items) (sym forms) read.ordered.order_is;
  good = subst (λ (fs : List Form). IsGoodOrder fs c.order.items) (sym forms) names.order;
  once = subst DefineOnce (sym forms) (define_once c names);
  constants = constants;
}

-- ---- tokens

-- no contract is there under a principal that is new
pub not_there : (p : Principal) (es : Contracts) (deployed : DeployedOfCode) (texts : List ContractOfCode) → es ≡ deployed.contracts → IsNew es p → AreThose texts deployed → contract_at p (contracts_seen texts) ≡ None
not_there p es deployed texts same new those = bare_none p (contracts_seen texts) (ap (contract_at p) (those.same ∙ ap (map checked_seen) (sym same)) ∙ new.none_seen)

pub no_tokens : (d : Deployment) (m : Moment) (es : Contracts) (deployed : DeployedOfCode) (texts : List ContractOfCode) (run : Run) → es ≡ deployed.contracts → IsNew es (principal_of d) → AreThose texts deployed → IsSound es (seen_of run texts m.height) →
    NewHaveNoTokens → HasParts (deployment_entry d) → HasNoTokens (principal_of d) run.world.stack.top
no_tokens d m es deployed texts run same new those sound law parts =
    let none = law (node_with sound.known (seen_of run texts m.height)) sound.is_sound.sound (principal_of d) (parts.0, parts.1)
    (not_there (principal_of d) es deployed texts same new those) in
    record { fungibles = λ x. (none x).0; nonfungibles = λ x. (none x).1 }

-- ---- what is evaluated

pub opened_is : (k : ContractOfCode) (c : Checked) → k.principal ≡ c.principal → k.version ≡ c.version → k.forms ≡ forms_of c → k.source_length ≡ c.source_length → k.constants ≡ [] → contract_seen k ≡ opened_of c
opened_is k c principal version forms size constants = λ i. record { principal = principal i; version = version i; forms = forms i; source_length = size i; constants = constants i }

pub frame_is : (d : Deployment) (m : Moment) (p : Principal) → p ≡ principal_of d → (F : Frame) → F ≡ record { contract = p; sender = person d.common.now.sender; caller = person d.common.now.sender; height = m.height } → F ≡ frame_for d m
frame_is d m p home F is = is ∙ (λ i. record { contract = home i; sender = person d.common.now.sender; caller = person d.common.now.sender; height = m.height })
