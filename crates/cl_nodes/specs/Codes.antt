-- How a ghost variable stores what contracts see of a node.
use Rattle.std.specs.Prelude.{◌≡◌, ℕ, zero, suc, List, refl}
use Rattle.std.specs.Coded.{Coded, code_by, coded×, coded_ℕ, coded_list}
use Rattle.cl_c32.specs.declared.principal.Principal.{Principal}
use Rattle.cl_values.specs.Tree.{Tree}
use Rattle.cl_values.specs.TreeCode.{tree_code}
use Rattle.cl_forms.specs.declared.version.Version.{Version}
use Rattle.cl_forms.specs.declared.version.Version.TheVariants.{One, Two}
use Rattle.cl_forms.specs.Forms.{Form}
use Rattle.cl_forms.specs.FormCode.{form_code}
use Rattle.cl_events.specs.State.{State}
use Rattle.cl_tables.specs.Codes.{name_code, principal_code, state_code}
use Rattle.cl_meaning.specs.Deployed.{Contract}
use Rattle.cl_nodes.specs.Seen.{Seen}

abbrev version_number : Version → ℕ
version_number One = 1
version_number Two = 2

abbrev version_at : ℕ → Version
version_at zero = One
version_at (suc zero) = One
version_at (suc (suc n)) = Two

pub version_again : (version : Version) → version_at (version_number version) ≡ version
version_again One = refl
version_again Two = refl

abbrev version_code : Coded Version
version_code = code_by ℕ coded_ℕ version_number version_at version_again

abbrev pub contract_code : Coded Contract
contract_code =
    code_by (Principal × (Version × (List Form × (ℕ × List (List ℕ × Tree))))) (coded× principal_code (coded× version_code (coded× (coded_list form_code) (coded× coded_ℕ (coded_list (coded× name_code tree_code))))))
    (λ c. (c.principal, (c.version, (c.forms, (c.source_length, c.constants)))))
    (λ p. record { principal = p.0; version = p.1.0; forms = p.1.1.0; source_length = p.1.1.1.0; constants = p.1.1.1.1 })
    (λ _. refl)

abbrev pub seen_code : Coded Seen
seen_code =
    code_by (State × (List Contract × ℕ)) (coded× state_code (coded× (coded_list contract_code) coded_ℕ))
    (λ n. (n.state, (n.contracts, n.height)))
    (λ p. record { state = p.0; contracts = p.1.0; height = p.1.1 })
    (λ _. refl)
