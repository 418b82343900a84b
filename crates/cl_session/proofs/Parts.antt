-- A call by its parts.
use Rattle.std.proofs.Common.{◌≡◌, ℕ, List, [], ◌∷◌, refl, sym, ap, ◌∙◌, Option, Some, None, option_and_then}
use Rattle.cl_c32.specs.Address.{AddressParts}
use Rattle.cl_c32.specs.declared.principal.Principal.{Principal}
use Rattle.cl_values.specs.Tree.{Tree}
use Rattle.cl_post.specs.declared.condition.Condition.{Condition}
use Rattle.cl_post.specs.declared.condition.Mode.TheVariants.{Allow}
use Rattle.cl_file.specs.declared.entry.Entry.TheVariants.{Call}
use Rattle.cl_session.specs.Calls.{call_by, call_in, call_with, contract_in, limit_of, sender_in, values_in}
use Rattle.cl_request.specs.Request.{text_of}

short_by : (pieces : List (List ℕ)) → ((limit : List ℕ) → call_with pieces limit ≡ None) → (o : Option (List ℕ)) → option_and_then (call_with pieces) o ≡ None
short_by pieces none None = refl
short_by pieces none (Some limit) = none limit

-- fewer than three pieces are no call
pub no_first : (limits : List ℕ) (pieces : List (List ℕ)) → pieces ≡ [] → call_in limits pieces ≡ None
no_first limits pieces none = ap (call_in limits) none ∙ short_by [] (λ limit. refl) (limit_of limits)

pub no_second : (limits : List ℕ) (pieces rest : List (List ℕ)) (a : List ℕ) → pieces ≡ a ∷ rest → rest ≡ [] → call_in limits pieces ≡ None
no_second limits pieces rest a one none =
    ap (call_in limits) (one ∙ ap (λ (r : List (List ℕ)). a ∷ r) none) ∙ short_by (a ∷ []) (λ limit. refl) (limit_of limits)

pub no_third : (limits : List ℕ) (pieces rest behind : List (List ℕ)) (a b : List ℕ) → pieces ≡ a ∷ rest → rest ≡ b ∷ behind → behind ≡ [] → call_in limits pieces ≡ None
no_third limits pieces rest behind a b one two none =
    ap (call_in limits) (one ∙ ap (λ (r : List (List ℕ)). a ∷ r) (two ∙ ap (λ (r : List (List ℕ)). b ∷ r) none)) ∙ short_by (a ∷ b ∷ []) (λ limit. refl) (limit_of limits)

-- three pieces, and those behind them
pub all_three : (limits limit : List ℕ) (pieces rest behind args : List (List ℕ)) (a b f : List ℕ) → limit_of limits ≡ Some limit → pieces ≡ a ∷ rest → rest ≡ b ∷ behind → behind ≡ f ∷ args
    → call_in limits pieces ≡ call_by (sender_in a) (contract_in b) (text_of f) (values_in args) limit
all_three limits limit pieces rest behind args a b f is_limit one two three =
    ap (call_in limits) (one ∙ ap (λ (r : List (List ℕ)). a ∷ r) (two ∙ ap (λ (r : List (List ℕ)). b ∷ r) three))
    ∙ ap (option_and_then (call_with (a ∷ b ∷ f ∷ args))) is_limit

-- all parts but the arguments are there
pub no_args : {R : Type 0} (sender : Option AddressParts) (contract : Option Principal) (function : Option (List ℕ)) (args : Option (List Tree)) (limit : List ℕ) (s : AddressParts) (c : Principal) (f : List ℕ) → sender ≡ Some s → contract ≡ Some c → function ≡ Some f → (r : R) → args ≡ None → call_by sender contract function args limit ≡ None
no_args sender contract function args limit s c f is_s is_c is_f r none =
    ap (λ (x : Option AddressParts). call_by x contract function args limit) is_s
    ∙ ap (λ (x : Option Principal). call_by (Some s) x function args limit) is_c
    ∙ ap (λ (x : Option (List ℕ)). call_by (Some s) (Some c) x args limit) is_f
    ∙ ap (λ (x : Option (List Tree)). call_by (Some s) (Some c) (Some f) x limit) none

-- all parts are there
pub all_parts : (sender : Option AddressParts) (contract : Option Principal) (function : Option (List ℕ)) (args : Option (List Tree)) (limit : List ℕ) (s : AddressParts) (c : Principal) (f : List ℕ) (vs : List Tree) (conditions : List Condition) (bytes : List ℕ) (values : List Tree)
    → sender ≡ Some s → contract ≡ Some c → function ≡ Some f → args ≡ Some vs → conditions ≡ [] → bytes ≡ f → values ≡ vs
    → call_by sender contract function args limit ≡ Some (Call (record { sender = s; limit = limit; mode = Allow; conditions = conditions }) c bytes values)
all_parts sender contract function args limit s c f vs conditions bytes values is_s is_c is_f is_vs none same all =
    ap (λ (x : Option AddressParts). call_by x contract function args limit) is_s
    ∙ ap (λ (x : Option Principal). call_by (Some s) x function args limit) is_c
    ∙ ap (λ (x : Option (List ℕ)). call_by (Some s) (Some c) x args limit) is_f
    ∙ ap (λ (x : Option (List Tree)). call_by (Some s) (Some c) (Some f) x limit) is_vs
    ∙ ap (λ (x : List Condition). Some (Call (record { sender = s; limit = limit; mode = Allow; conditions = x }) c f vs)) (sym none)
    ∙ ap (λ (x : List ℕ). Some (Call (record { sender = s; limit = limit; mode = Allow; conditions = conditions }) c x vs)) (sym same)
    ∙ ap (λ (x : List Tree). Some (Call (record { sender = s; limit = limit; mode = Allow; conditions = conditions }) c bytes x)) (sym all)
