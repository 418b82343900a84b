-- Where no contract is deployed there is no token of one.
use Rattle.std.proofs.Common.{◌≡◌, ℕ, List, Option, Some, None, refl, sym, ap, ◌∙◌}
use Rattle.std.specs.Prelude.{Contains}
use Rattle.cl_c32.specs.declared.principal.Principal.{Principal}
use Rattle.cl_values.specs.Valid.{IsPrincipal}
use Rattle.cl_maps.specs.Maps.{get}
use Rattle.cl_tokens.specs.Ledger.{Ledger}
use Rattle.cl_tokens.specs.Owners.{Owners}
use Rattle.cl_events.specs.State.{place}
use Rattle.cl_meaning.specs.Deployed.{Contract, contract_at}
use Rattle.cl_contract_sound.proofs.States.{places_same}
use Rattle.cl_tx.specs.Nodes.{NodeSeen}
use Rattle.cl_node_sound.specs.Sound.{IsSoundNode}

module _ (node : NodeSeen) (N : IsSoundNode node) (p : Principal) (valid : IsPrincipal p) (new : contract_at p node.contracts ≡ None) where
  -- a place of the principal's is no place of a deployed contract's
  no_place : (c : Contract) (x y : List ℕ) → Contains node.contracts c → place p x ≡ place c.principal y → ⊥
  no_place c x y there is =
      let same : p ≡ c.principal = (places_same p c.principal x y valid (N.contracts.distinct.valid c there) is).0 in
      none (sym new ∙ ap (λ q. contract_at q node.contracts) same ∙ N.contracts.distinct.found c there)
    where
      none : None ≡ Some c → ⊥
      none e = cc

  pub no_tokens : (x : List ℕ) → (get (place p x) node.state.fungibles ≡ None) × (get (place p x) node.state.nonfungibles ≡ None)
  no_tokens x = (fungible (get (place p x) node.state.fungibles) refl, nonfungible (get (place p x) node.state.nonfungibles) refl)
    where
      fungible : (o : Option Ledger) → get (place p x) node.state.fungibles ≡ o → o ≡ None
      fungible None e = refl
      fungible (Some l) e = let f = N.kept.fungibles (place p x) l e in absurd (no_place f.contract x f.name f.defined.there f.place)

      nonfungible : (o : Option Owners) → get (place p x) node.state.nonfungibles ≡ o → o ≡ None
      nonfungible None e = refl
      nonfungible (Some o) e = let f = N.kept.nonfungibles (place p x) o e in absurd (no_place f.contract x f.name f.defined.there f.place)
