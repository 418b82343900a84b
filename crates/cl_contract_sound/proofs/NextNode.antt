-- What calls and deployments need stands behind a deployment too.
use Rattle.std.proofs.Common.{◌≡◌, ◌⊎◌, inl, inr, ℕ, List, [], ◌∷◌, ◌++◌, length, None, refl, sym, ap, subst, ◌∙◌, arith}
use Rattle.std.specs.Prelude.{Contains, IsSome}
use Rattle.std.specs.List.{All}
use Rattle.std.proofs.lemmas.List.Elements.{recursion_from_All}
use Rattle.cl_c32.specs.declared.principal.Principal.{Principal}
use Rattle.cl_values.specs.Valid.{IsPrincipal}
use Rattle.cl_forms.specs.Texts.{Text}
use Rattle.cl_forms.specs.Forms.{Form, FormKind, VariableForm, FungibleForm, NonFungibleForm}
use Rattle.cl_events.specs.State.{State, genesis}
use Rattle.cl_meaning.specs.Deployed.{Contract, Deployed, contract_at, form_of}
use Rattle.cl_meaning.specs.Deploying.{forms_at}
use Rattle.cl_meaning.specs.Kept.{Defines, Whole, Behind, Kept, IsAmong, IsSoFar}
use Rattle.cl_meaning.proofs.Genesis.{genesis_kept}
use Rattle.cl_rules.specs.Context.{CostTable, Known, known_at}
use Rattle.cl_rules.specs.Acceptance.{Accepted, known_of}
use Rattle.cl_expression_sound.specs.Stages.{AreDistinct}
use Rattle.cl_contract_sound.specs.Nodes.{AreOfTexts, none_yet, and_one, IsNode}
use Rattle.cl_contract_sound.specs.Deployments.{with_values, IsDone, of_text}
use Rattle.cl_contract_sound.proofs.MidDeployment.{in_front, found_front, found_behind, another, distinct_front}
use Rattle.cl_contract_sound.proofs.Naming.{AreAll}
use Rattle.cl_contract_sound.proofs.OfTexts.{known_last, known_still, not_there}

module _ (W : Deployed) (A : AreDistinct W) (c : Contract) (valid : IsPrincipal c.principal) (new : contract_at c.principal W ≡ None) where
  texts_behind : (ks : List Known) → AreOfTexts W ks → AreOfTexts (c ∷ W) ks
  texts_behind ks (none_yet e) = none_yet e
  texts_behind ks (and_one {before = before} b k texts unknown h there is) = and_one b k (texts_behind before texts) unknown h (found_behind W A c valid new b h.valid there) is

  kept_all : (order : List Form) → AreAll c order → (s : State) → Kept (c ∷ W) (Behind c.principal order) s → Kept (c ∷ W) Whole s
  kept_all order all s n = record {
    variables_there = λ d x t e h now. n.variables_there d x t e h (there d x (VariableForm t e) h);
    variables = n.variables;
    entries = n.entries;
    fungibles_there = λ d x e h now. n.fungibles_there d x e h (there d x (FungibleForm e) h);
    fungibles = n.fungibles;
    nonfungibles_there = λ d x t h now. n.nonfungibles_there d x t h (there d x (NonFungibleForm t) h);
    nonfungibles = n.nonfungibles;
    stx = n.stx;
    uncapped = n.uncapped;
  }
    where
      there : (d : Contract) (x : List ℕ) (k : FormKind) → Defines (c ∷ W) d x k → IsSoFar (Behind c.principal order) d.principal x
      there d x k h q = by (in_front W c d h.there)
        where
          by : (c ≡ d) ⊎ Contains W d → IsAmong x order
          by (inl e) = all x k (ap (λ (c : Contract). form_of x c.forms) e ∙ h.form)
          by (inr g) = absurd (another W A c valid new d (A.found d g) q)

pub next_node : (W : Deployed) (ks : List Known) (s t : State) → IsNode W ks s → (principal : Principal) → IsPrincipal principal → known_at principal ks ≡ None → (costs : CostTable) (text : Text) (accepted : Accepted ks principal costs text) →
    AreAll (of_text principal text accepted.forms) (forms_at accepted.forms accepted.order) → (d : Contract) → IsDone W (of_text principal text accepted.forms) (forms_at accepted.forms accepted.order) accepted.defined d t → IsNode (d ∷ W) (ks ++ known_of principal (length text.bytes) accepted.defined ∷ []) t
next_node W ks s t node principal valid unknown costs text accepted all d done =
    let order = forms_at accepted.forms accepted.order in
    let c : Contract = with_values (of_text principal text accepted.forms) done.values in
    let new = not_there W ks node.contracts principal valid unknown in
    let A = node.contracts.distinct in
    let k = known_of principal (length text.bytes) accepted.defined in
    subst (λ d. IsNode (d ∷ W) (ks ++ k ∷ []) t) (sym done.is) (record {
      contracts = record {
        distinct = distinct_front W A c valid new;
        texts = and_one c k (texts_behind W A c valid new ks node.contracts.texts) unknown
            (record { valid = valid; table = costs; text = text; accepted = accepted; forms = refl; version = refl; size = refl; constants = done.constants; known = refl })
            (found_front W A c valid new) refl;
        known = λ b h. by c b (in_front W c b h) refl;
      };
      kept = kept_all W A c valid new order all t done.kept;
    })
  where
    by : (c b : Contract) → (c ≡ b) ⊎ Contains W b → c.principal ≡ principal → IsSome (known_at b.principal (ks ++ known_of principal (length text.bytes) accepted.defined ∷ []))
    by c b (inl e) h = known_last b.principal ks (known_of principal (length text.bytes) accepted.defined) (sym h ∙ ap (λ (c : Contract). c.principal) e)
    by c b (inr g) h = known_still b.principal ks (known_of principal (length text.bytes) accepted.defined) (node.contracts.known b g)

-- ---- before all deployments

nowhere : (c : Contract) → Contains [] c → ⊥
nowhere c there = omega (arith, there.1)

pub first_node : (holders : List (Principal × ℕ)) → All (λ (h : Principal × ℕ). IsPrincipal h.0) holders → IsNode [] [] (genesis holders)
first_node holders valid = record {
  contracts = record {
    distinct = record { valid = λ c h. absurd (nowhere c h); found = λ c h. absurd (nowhere c h) };
    texts = none_yet refl;
    known = λ c h. absurd (nowhere c h);
  };
  kept = genesis_kept holders (recursion_from_All (λ (h : Principal × ℕ). IsPrincipal h.0) holders valid);
}
