-- One more claim.
use Rattle.std.proofs.Common.{◌≡◌, List, [], ◌∷◌, ◌++◌, map, Some, refl, ap, ◌∙◌}
use Rattle.cl_sexpr.specs.declared.sexpr.Span.{Span}
use Rattle.cl_values.specs.Tree.{Tree as Val}
use Rattle.cl_audit_walk.specs.declared.cursor.Claim.{Claim}
use Rattle.cl_audit.specs.Told.{claim_told}

told_more : (cs : List Claim) (c : Claim) → map claim_told (cs ++ c ∷ []) ≡ map claim_told cs ++ claim_told c ∷ []
told_more [] c = refl
told_more (d ∷ cs) c = ap (λ l. claim_told d ∷ l) (told_more cs c)

pub told_one : (cs ds : List Claim) (at : Span) (v w : Val) → ds ≡ cs ++ record { span = at; value = v } ∷ [] → v ≡ w → Some (map claim_told ds) ≡ Some (map claim_told cs ++ (at, w) ∷ [])
told_one cs ds at v w more same =
    ap (λ l. Some (map claim_told l)) more ∙ ap Some (told_more cs (record { span = at; value = v })) ∙ ap (λ u. Some (map claim_told cs ++ (at, u) ∷ [])) same
