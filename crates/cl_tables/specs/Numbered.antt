-- Tokens in the order in which they were defined, each beside its place. A token's number is how many stand before it.
use Rattle.std.specs.Prelude.{◌≡◌, ℕ, zero, suc, ◌-◌, true, false, Option, None, Some, List, [], ◌∷◌, length, take, map}
use Rattle.std.specs.List.{AllByRecursion as ByRecursion}
use Rattle.cl_maps.specs.Maps.{Map, empty, put}
use Rattle.cl_tokens.specs.Table.{is_key}
use Rattle.cl_tokens.specs.Ledger.{Ledger, Held, no_tokens}
use Rattle.cl_tokens.specs.Owners.{Owners, Owned}
use Rattle.cl_tables.specs.declared.place.Place.{Place}
use Rattle.cl_tables.specs.Variables.{IsPlace, key_of}

-- by the keys of their places, of which the first counts
unfoldable pub by_place : {A : Type 0} → List (Place × A) → Map A
by_place [] = empty
by_place (e ∷ es) = put (key_of e.0) e.1 (by_place es)

abbrev pub value_at : {A : Type 0} → A → List (Place × A) → ℕ → A
value_at none [] i = none
value_at none (e ∷ es) zero = e.1
value_at none (e ∷ es) (suc i) = value_at none es i

-- the first token at a key has this number
abbrev pub IsNumber : {A : Type 0} → List ℕ → List (Place × A) → ℕ → Type 0
IsNumber key [] i = ⊥
IsNumber key (e ∷ es) zero = is_key key (key_of e.0) ≡ true
IsNumber key (e ∷ es) (suc i) = (is_key key (key_of e.0) ≡ false) × IsNumber key es i

-- there is no token at a key
abbrev pub IsNowhere : {A : Type 0} → List ℕ → List (Place × A) → Type 0
IsNowhere key [] = Unit {0}
IsNowhere key (e ∷ es) = (is_key key (key_of e.0) ≡ false) × IsNowhere key es

abbrev pub IsNumbered : {A : Type 0} → List ℕ → List (Place × A) → Option ℕ → Type 0
IsNumbered key es None = IsNowhere key es
IsNumbered key es (Some i) = IsNumber key es i

abbrev pub ArePlaced : {A : Type 0} → List (Place × A) → Type 0
ArePlaced es = ByRecursion (λ e. IsPlace e.0) es

abbrev pub but_last : {A : Type 0} → List A → List A
but_last xs = take (length xs - 1) xs

-- without the room of holders and assets
abbrev pub ledgers_of : List (Place × Held) → List (Place × Ledger)
ledgers_of es = map (λ e. (e.0, e.1.ledger)) es

abbrev pub owners_of : List (Place × Owned) → List (Place × Owners)
owners_of es = map (λ e. (e.0, e.1.owners)) es

-- what stands at a number that no token has
abbrev pub no_ledger : Held
no_ledger = record { ledger = no_tokens None; room = [] }

abbrev pub no_owners : Owned
no_owners = record { owners = empty; room = [] }
