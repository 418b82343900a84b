-- One more contract that fits those before it.
use Rattle.std.proofs.Common.{List, [], ◌∷◌, ◌++◌, refl, sym, subst}
use Rattle.cl_c32.specs.declared.principal.Principal.{Principal}
use Rattle.cl_rules.specs.Context.{Known}
use Rattle.cl_rules.specs.FormRules.{Defined, nothing_defined}
use Rattle.cl_rules.specs.Acceptance.{known_of}
use Rattle.cl_contracts.specs.Contents.{ContractParts as Contract}
use Rattle.cl_contracts.specs.Standings.{AllStand, AreStanding, definitions_in_order}

pub standing_push : (before : List Known) (es : List (Principal × Contract)) (after : List Known) (e : Principal × Contract) (defined : Defined) → AreStanding before es after → AllStand (nothing_defined after e.0 e.1.checked.version e.1.checked.source_length) (definitions_in_order e.1.checked) defined →
    AreStanding before (es ++ e ∷ []) (after ++ known_of e.0 e.1.checked.source_length defined ∷ [])
standing_push before [] after e defined h stands = subst (λ ks. AreStanding ks (e ∷ []) (after ++ known_of e.0 e.1.checked.source_length defined ∷ [])) (sym h) (defined, stands, refl)
standing_push before (d ∷ es) after e defined h stands = (h.0, h.1, standing_push (before ++ known_of d.0 d.1.checked.source_length h.0 ∷ []) es after e defined h.2 stands)
