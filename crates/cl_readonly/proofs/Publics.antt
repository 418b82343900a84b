-- Public functions as callers know them.
use Rattle.std.proofs.Common.{◌≡◌, ℕ, Bool, false, List, Option, Some, None, refl, sym, ap, ◌∙◌}
use Rattle.std.specs.Prelude.{option_map, if◌then◌else◌}
use Rattle.cl_c32.specs.declared.principal.Principal.{Principal}
use Rattle.cl_code.specs.declared.definition.Function.{Function as TypedFunction}
use Rattle.cl_rules.specs.Context.{Signature, Known, known_at, signature_in, same_principal, another_at}
use Rattle.cl_rules.specs.Acceptance.{is_public, is_public_there, is_public_in}
use Rattle.cl_contracts.specs.declared.contract.Contract.{Contract}
use Rattle.cl_contracts.specs.declared.deployed.Deployed.{Deployed}
use Rattle.cl_contracts.specs.Seen.{function_under, contract_under, AreIndexed}
use Rattle.cl_contracts.specs.Standings.{Knows}
use Rattle.cl_contracts.specs.Known.{Shown, seen, shown, AreKnownAs, KnownAsDeployed}
use Rattle.cl_readonly.specs.Publics.{public_if, public_under}

abbrev public_shown : Option Shown → Bool
public_shown None = false
public_shown (Some f) = is_public f.access

ours : (f : Option TypedFunction) → public_if f ≡ public_shown (option_map shown f)
ours None = refl
ours (Some f) = refl

theirs : (f : Option Signature) → is_public_there f ≡ public_shown (option_map seen f)
theirs None = refl
theirs (Some f) = refl

known_public : (x : List ℕ) (c : Option Contract) (k : Option Known) → AreKnownAs c k → public_under x c ≡ is_public_in k x
known_public x None None h = refl
known_public x (Some c) (Some k) h = ours (function_under x c.checked) ∙ ap public_shown (sym (h.functions x)) ∙ sym (theirs (signature_in x k.functions))
known_public x None (Some k) h = absurd h
known_public x (Some c) None h = absurd h

pub other_public : KnownAsDeployed → (d : Deployed) (own p : Principal) (known : List Known) (x : List ℕ) (b : Bool) → AreIndexed d → same_principal p own ≡ false → Knows d known → b ≡ public_under x (contract_under p d.contracts) → b ≡ is_public_in (another_at own known p) x
other_public law d own p known x b ok h knows is =
    is ∙ known_public x (contract_under p d.contracts) (known_at p known) (law d known ok knows p) ∙ ap (λ (c : Bool). is_public_in (if c then None else known_at p known) x) (sym h)
