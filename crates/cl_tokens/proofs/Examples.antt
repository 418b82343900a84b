-- The definitions compute: acts on the balances of three holders and on the owners of three assets, with what is answered and
-- what is held after each.
use Rattle.std.proofs.Common.{refl}
use Rattle.std.specs.Prelude.{◌≡◌, ℕ, ◌-◌, ◌^◌, List, [], ◌∷◌, map, codes, Option, None, Some, Result, Ok, Err}
use Rattle.cl_maps.specs.Maps.{empty, get}
use Rattle.cl_tokens.specs.declared.refusal.TokenRefusal.{TokenRefusal}
use Rattle.cl_tokens.specs.declared.refusal.TokenRefusal.TheVariants.{Code, SupplyOverflow}
use Rattle.cl_tokens.specs.Ledger.{Ledger, balance, with_balance, no_tokens, minted, sent, burnt}
use Rattle.cl_tokens.specs.Owners.{Owners, asset_minted, asset_sent, asset_burnt}

abbrev ann : List ℕ
ann = codes "ann"

abbrev bob : List ℕ
bob = codes "bob"

abbrev cy : List ℕ
cy = codes "cy"

-- an act, with its refusal, if it is refused, and what is seen after it
abbrev Step : Type 0 → Type 0 → Type 0
Step S T = (S → Result S TokenRefusal) × (Option TokenRefusal × T)

abbrev refusal : {S : Type 0} → Result S TokenRefusal → Option TokenRefusal
refusal (Ok new) = None
refusal (Err why) = Some why

abbrev after : {S : Type 0} → S → Result S TokenRefusal → S
after old (Ok new) = new
after old (Err why) = old

-- what is answered, and seen after each act, one after another
abbrev run : {S T : Type 0} → (S → T) → S → List (Step S T) → List (Option TokenRefusal × T)
run see s [] = []
run see s (step ∷ steps) = (refusal (step.0 s), see (after s (step.0 s))) ∷ run see (after s (step.0 s)) steps

-- what the steps say
abbrev wanted : {S T : Type 0} → List (Step S T) → List (Option TokenRefusal × T)
wanted steps = map (λ step. step.1) steps

abbrev Balances : Type 0
Balances = ℕ × ℕ × ℕ

abbrev balances : Ledger → Balances
balances l = (balance ann l.balances, balance bob l.balances, balance cy l.balances)

-- an act that is done, and one that is refused
abbrev done : {S T : Type 0} → (S → Result S TokenRefusal) → T → Step S T
done act seen = (act, (None, seen))

abbrev refused : {S T : Type 0} → (S → Result S TokenRefusal) → TokenRefusal → T → Step S T
refused act why seen = (act, (Some why, seen))

abbrev acts_on_balances : List (Step Ledger Balances)
acts_on_balances =
    refused (minted 0 ann) (Code 1) (0, 0, 0)
    ∷ done (minted 500 ann) (500, 0, 0)
    ∷ refused (sent 0 ann ann) (Code 3) (500, 0, 0)
    ∷ refused (sent 501 ann ann) (Code 2) (500, 0, 0)
    ∷ refused (sent 501 ann bob) (Code 1) (500, 0, 0)
    ∷ done (sent 200 ann bob) (300, 200, 0)
    ∷ refused (minted 501 cy) SupplyOverflow (300, 200, 0)
    ∷ done (minted 500 cy) (300, 200, 500)
    ∷ refused (minted 0 cy) (Code 1) (300, 200, 500)
    ∷ refused (minted 1 cy) SupplyOverflow (300, 200, 500)
    ∷ refused (burnt 0 cy) (Code 1) (300, 200, 500)
    ∷ refused (burnt 501 cy) (Code 1) (300, 200, 500)
    ∷ done (burnt 500 cy) (300, 200, 0)
    ∷ refused (sent 1 cy ann) (Code 1) (300, 200, 0)
    ∷ done (sent 200 bob cy) (300, 0, 200)
    ∷ refused (burnt 1 bob) (Code 1) (300, 0, 200)
    ∷ done (minted 300 bob) (300, 300, 200)
    ∷ refused (sent 100 cy cy) (Code 2) (300, 300, 200)
    ∷ done (minted 100 cy) (300, 300, 300)
    ∷ refused (sent 0 bob bob) (Code 3) (300, 300, 300)
    ∷ refused (minted 0 ann) (Code 1) (300, 300, 300)
    ∷ done (sent 150 cy bob) (300, 450, 150)
    ∷ done (burnt 1 ann) (299, 450, 150)
    ∷ refused (sent 400 cy bob) (Code 1) (299, 450, 150)
    ∷ done (sent 150 ann cy) (149, 450, 300)
    ∷ refused (burnt 150 ann) (Code 1) (149, 450, 300)
    ∷ refused (sent 250 ann ann) (Code 2) (149, 450, 300)
    ∷ done (burnt 149 ann) (0, 450, 300)
    ∷ done (burnt 450 bob) (0, 0, 300)
    ∷ done (burnt 300 cy) (0, 0, 0)
    ∷ []

balances_after_acts : run balances (no_tokens (Some 1000)) acts_on_balances ≡ wanted acts_on_balances
unfolding balance with_balance minted sent burnt
balances_after_acts = refl

abbrev top : ℕ
top = 2 ^ 128 - 1

abbrev acts_on_the_greatest_supply : List (Step Ledger Balances)
acts_on_the_greatest_supply =
    done (minted top ann) (top, 0, 0)
    ∷ refused (minted 1 bob) SupplyOverflow (top, 0, 0)
    ∷ refused (minted 0 bob) (Code 1) (top, 0, 0)
    ∷ done (sent top ann cy) (0, 0, top)
    ∷ done (burnt 1 cy) (0, 0, top - 1)
    ∷ refused (minted 2 bob) SupplyOverflow (0, 0, top - 1)
    ∷ done (minted 1 bob) (0, 1, top - 1)
    ∷ []

without_a_cap : run balances (no_tokens None) acts_on_the_greatest_supply ≡ wanted acts_on_the_greatest_supply
unfolding balance with_balance minted sent burnt
without_a_cap = refl

with_the_greatest_cap : run balances (no_tokens (Some top)) acts_on_the_greatest_supply ≡ wanted acts_on_the_greatest_supply
unfolding balance with_balance minted sent burnt
with_the_greatest_cap = refl

abbrev Owner : Type 0
Owner = Option (List ℕ)

abbrev x : List ℕ
x = codes "x"

abbrev y : List ℕ
y = codes "y"

abbrev z : List ℕ
z = codes "z"

abbrev owners : Owners → Owner × Owner × Owner
owners m = (get x m, get y m, get z m)

abbrev acts_on_owners : List (Step Owners (Owner × Owner × Owner))
acts_on_owners =
    refused (asset_sent x ann ann) (Code 2) (None, None, None)
    ∷ refused (asset_sent x ann bob) (Code 3) (None, None, None)
    ∷ refused (asset_burnt x ann) (Code 3) (None, None, None)
    ∷ done (asset_minted x ann) (Some ann, None, None)
    ∷ refused (asset_minted x bob) (Code 1) (Some ann, None, None)
    ∷ refused (asset_minted x ann) (Code 1) (Some ann, None, None)
    ∷ refused (asset_sent x bob ann) (Code 1) (Some ann, None, None)
    ∷ refused (asset_sent x bob bob) (Code 2) (Some ann, None, None)
    ∷ done (asset_sent x ann bob) (Some bob, None, None)
    ∷ refused (asset_burnt x ann) (Code 1) (Some bob, None, None)
    ∷ done (asset_minted y ann) (Some bob, Some ann, None)
    ∷ done (asset_minted z bob) (Some bob, Some ann, Some bob)
    ∷ done (asset_sent z bob cy) (Some bob, Some ann, Some cy)
    ∷ done (asset_burnt x bob) (None, Some ann, Some cy)
    ∷ refused (asset_burnt x bob) (Code 3) (None, Some ann, Some cy)
    ∷ refused (asset_sent x bob ann) (Code 3) (None, Some ann, Some cy)
    ∷ done (asset_minted x cy) (Some cy, Some ann, Some cy)
    ∷ done (asset_burnt x cy) (None, Some ann, Some cy)
    ∷ done (asset_burnt y ann) (None, None, Some cy)
    ∷ done (asset_burnt z cy) (None, None, None)
    ∷ []

owners_after_acts : run owners empty acts_on_owners ≡ wanted acts_on_owners
unfolding asset_minted asset_sent asset_burnt
owners_after_acts = refl
