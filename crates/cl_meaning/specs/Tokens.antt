-- Tokens of the contract whose code is evaluated, STX, and events.
use Rattle.std.specs.Prelude.{ℕ, true, false, List, [], ◌∷◌, Option, Some, None, Result, Ok, Err}
use Rattle.cl_shapes.specs.declared.name.CostName.TheVariants.{ReadToken, WriteToken, Event as EventCost}
use Rattle.cl_sexpr.specs.Tree.{Tree, LeafAt, Named}
use Rattle.cl_values.specs.declared.fault.DecodeRefusal.{DecodeRefusal}
use Rattle.cl_values.specs.Tree.{Tree as Val, UintV, BoolV, PrincipalV, NoneV, SomeV, ResponseV}
use Rattle.cl_values.specs.Wire.{wire, size_of}
use Rattle.cl_values.specs.Reading.{decoded}
use Rattle.cl_maps.specs.Maps.{get}
use Rattle.cl_tokens.specs.declared.refusal.TokenRefusal.TheVariants.{Code, SupplyOverflow}
use Rattle.cl_tokens.specs.Ledger.{Ledger, balance}
use Rattle.cl_forms.specs.declared.head.TokenNative.{TokenNative}
use Rattle.cl_forms.specs.declared.head.TokenNative.TheVariants.{MintFt, BurnFt, SendFt, MintNft, BurnNft, SendNft, SendStx, BurnStx}
use Rattle.cl_events.specs.declared.event.EventKind.{EventKind}
use Rattle.cl_events.specs.declared.event.EventKind.TheVariants.{Print, FtMint, FtTransfer, FtBurn, NftMint, NftTransfer, NftBurn, StxTransfer, StxBurn}
use Rattle.cl_events.specs.State.{State, holder, with_event}
use Rattle.cl_events.specs.Acts.{Acted, acted_by}
use Rattle.cl_meaning.specs.Answers.{Answer, Aborted, BySupply, stop, give, wrong, charged, and_then, with_known}
use Rattle.cl_meaning.specs.Scope.{Scope, Take, parts, sizes}
use Rattle.cl_meaning.specs.Data.{here}

-- what a principal holds
abbrev pub balance_in : Val → Ledger → State → Answer Val
balance_in (PrincipalV who) l s = give (UintV (balance (holder who) l.balances)) s
balance_in v l s = wrong s

unfoldable pub ft_balance_form : Take → Scope → List Tree → State → Answer Val
ft_balance_form take S (LeafAt (Named token) at ∷ e ∷ []) s =
    and_then (take S e s) (λ v t. charged ReadToken (size_of v) (with_known (get (here S token) t.fungibles) (balance_in v) t))
ft_balance_form take S es s = wrong s

-- it has no argument that is evaluated
unfoldable pub ft_supply_form : Scope → List Tree → State → Answer Val
ft_supply_form S (LeafAt (Named token) at ∷ []) s = charged ReadToken 0 (with_known (get (here S token) s.fungibles) (λ l. give (UintV l.supply)) s)
ft_supply_form S es s = wrong s

unfoldable pub stx_balance_form : Take → Scope → List Tree → State → Answer Val
stx_balance_form take S (e ∷ []) s = and_then (take S e s) (λ v t. charged ReadToken (size_of v) (balance_in v t.stx t))
stx_balance_form take S es s = wrong s

abbrev pub some_value : Result Val DecodeRefusal → Option Val
some_value (Ok v) = Some (SomeV v)
some_value (Err fault) = None

-- the owner of an asset as a value: owners are kept by their spelling
abbrev pub owner_value : Option (List ℕ) → Option Val
owner_value None = Some NoneV
owner_value (Some owner) = some_value (decoded owner)

unfoldable pub nft_owner_form : Take → Scope → List Tree → State → Answer Val
nft_owner_form take S (LeafAt (Named token) at ∷ e ∷ []) s =
    and_then (take S e s) (λ id t. charged ReadToken (size_of id) (with_known (get (here S token) t.nonfungibles) (λ owners. with_known (owner_value (get (wire id) owners)) give) t))
nft_owner_form take S es s = wrong s

-- the act on the token of a name that a native is, at the values of its arguments
abbrev pub act_of : TokenNative → List ℕ → List Val → Option EventKind
act_of MintFt token (UintV n ∷ PrincipalV to ∷ []) = Some (FtMint token n to)
act_of BurnFt token (UintV n ∷ PrincipalV from ∷ []) = Some (FtBurn token n from)
act_of SendFt token (UintV n ∷ PrincipalV from ∷ PrincipalV to ∷ []) = Some (FtTransfer token n from to)
act_of MintNft token (id ∷ PrincipalV to ∷ []) = Some (NftMint token id to)
act_of BurnNft token (id ∷ PrincipalV from ∷ []) = Some (NftBurn token id from)
act_of SendNft token (id ∷ PrincipalV from ∷ PrincipalV to ∷ []) = Some (NftTransfer token id from to)
act_of SendStx token (UintV n ∷ PrincipalV from ∷ PrincipalV to ∷ []) = Some (StxTransfer n from to)
act_of BurnStx token (UintV n ∷ PrincipalV from ∷ []) = Some (StxBurn n from)
act_of native token vs = None

-- the answer to an act: a refusal leaves the state as it was, and a supply above the cap aborts
abbrev pub answered : State → Acted → Answer Val
answered s None = wrong s
answered s (Some (Ok t)) = give (ResponseV true (BoolV true)) t
answered s (Some (Err (Code n))) = give (ResponseV false (UintV n)) s
answered s (Some (Err SupplyOverflow)) = stop (Aborted BySupply) s

-- an act in the frame of a scope
abbrev pub acts : Scope → EventKind → State → Answer Val
acts S kind s = answered s (acted_by S.frame.sender S.frame.contract kind s)

-- the arguments are taken and charged, and then the act is done
abbrev pub act_form : TokenNative → List ℕ → Take → Scope → List Tree → State → Answer Val
act_form native token take S es s =
    and_then (parts take S es s) (λ vs t. charged WriteToken (sizes vs) (with_known (act_of native token vs) (acts S) t))

-- the first argument is the token's name
abbrev pub named_act_form : TokenNative → Take → Scope → List Tree → State → Answer Val
named_act_form native take S (LeafAt (Named token) at ∷ es) s = act_form native token take S es s
named_act_form native take S es s = wrong s

-- STX has no name
unfoldable pub token_form : TokenNative → Take → Scope → List Tree → State → Answer Val
token_form SendStx take S es s = act_form SendStx [] take S es s
token_form BurnStx take S es s = act_form BurnStx [] take S es s
token_form native take S es s = named_act_form native take S es s

-- gives its value, which is an event of the contract
unfoldable pub print_form : Take → Scope → List Tree → State → Answer Val
print_form take S (e ∷ []) s = and_then (take S e s) (λ v t. charged EventCost (size_of v) (give v (with_event S.frame.contract (Print v) t)))
print_form take S es s = wrong s
