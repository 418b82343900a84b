-- What the bodies of examples use.
use Rattle.std.proofs.Common.{◌≡◌, ℕ, List, [], ◌∷◌, Contains, Option, Some, None, refl, sym, subst, codes}
use Rattle.cl_c32.specs.declared.principal.Principal.{Principal}
use Rattle.cl_meaning.specs.Opened.{opened}
use Rattle.cl_meaning.specs.AcrossRow.{both, b_forms}
use Rattle.cl_meaning.specs.Samples.{of_P0, contract}
use Rattle.cl_meaning.specs.TokenRow.{token}
use Rattle.cl_meaning.specs.Deployed.{Deployed, Function, contract_at, function_of}
use Rattle.cl_tables.specs.declared.spot.Spot.TheVariants.{Token, Variable}
use Rattle.cl_touch.specs.Uses.{Use, Reads, Writes, Crosses, of_own}
use Rattle.cl_touch.specs.Touches.{natives_at, HasUse, at_write, at_contract, Written}
use Rattle.cl_touch.specs.Bodies.{own_uses, uses_of}
use Rattle.std.proofs.lemmas.List.Elements.{Contains-push, Contains-append_left}

pub crosses : uses_of both (of_P0 (codes "a")) (codes "go") ≡ Crosses (of_P0 (codes "b")) (codes "set-it") ∷ Writes (Variable (of_own (of_P0 (codes "a")) (codes "w"))) ∷ []
unfolding opened
crosses = refl

pub sets : uses_of both (of_P0 (codes "b")) (codes "set-it") ≡ Writes (Variable (of_own (of_P0 (codes "b")) (codes "v"))) ∷ []
unfolding opened
sets = refl

pub sends : uses_of (token ∷ []) (of_P0 (codes "token")) (codes "transfer") ≡ Writes (Token (of_own (of_P0 (codes "token")) (codes "coin"))) ∷ []
unfolding opened
sends = refl

pub reads : uses_of (token ∷ []) (of_P0 (codes "token")) (codes "get-balance") ≡ Reads (Token (of_own (of_P0 (codes "token")) (codes "coin"))) ∷ []
unfolding opened
reads = refl

-- the first item of the list of a function's uses is used
pub used_first : (W : Deployed) (p : Principal) (f : List ℕ) (u : Use) (us : List Use) → uses_of W p f ≡ u ∷ us → HasUse W p f u
used_first W p f u us h = by (function_of f (contract_at p W)) refl h
  where
    by : (o : Option Function) → function_of f (contract_at p W) ≡ o → own_uses (natives_at p W) p o ≡ u ∷ us → HasUse W p f u
    by None e h = absurd cc
    by (Some g) e h = record { function = g; there = e; used = subst (λ (vs : List Use). Contains vs u) (sym h) (Contains-append_left (u ∷ []) us u (Contains-push [] u)) }

pub through : Written both (of_P0 (codes "a")) (codes "go") (Variable (of_own (of_P0 (codes "b")) (codes "v")))
through =
    at_contract (of_P0 (codes "b")) (codes "set-it") (contract (codes "b") 119 b_forms) (used_first both (of_P0 (codes "a")) (codes "go") _ _ crosses) refl
    (at_write (used_first both (of_P0 (codes "b")) (codes "set-it") _ _ sets))
