use Rattle.std.proofs.Common.{◌∙◌, ap, sym, subst, List}
use Rattle.cl_tokens.specs.Ledger.{Held as LedgerHeld}
use Rattle.cl_tokens.specs.Owners.{Owned}
use Rattle.cl_tables.specs.declared.place.Place.{Place}
use Rattle.cl_tables.proofs.Spelled.{spelled_at_first, none_in}
use Rattle.cl_events.specs.State.{empty_state, genesis, with_variables, with_entries, with_fungibles, with_nonfungibles, with_stx}
use Rattle.cl_tables.specs.Variables.{IsPlaceKey}
use Rattle.cl_tables.specs.Spelled.{Each}
use Rattle.cl_tables.specs.Numbered.{by_place, ledgers_of, owners_of, ArePlaced}
use Rattle.cl_tables.proofs.Numbered.{by_place_none}
use Rattle.cl_tables.proofs.tables.Tables.genesis.Goals as goal

pub returns-clause-state : goal.returns-clause-state
returns-clause-state c =
    (λ i. with_variables (c.new.ensures.content i) (with_entries (c.new-2.ensures.content i) (with_fungibles (by_place (ledgers_of (c.with_hasher.ensures.empty i))) (with_nonfungibles (by_place (owners_of (c.with_hasher-2.ensures.empty i))) (with_stx (c.in_ok-stx.ensures.paid i) empty_state)))))
    ∙ (λ i. with_fungibles (by_place_none i) (with_nonfungibles (by_place_none i) (genesis c.args.holders.now)))

pub returns-clause-sound : goal.returns-clause-sound
returns-clause-sound c = record {
  variables = subst (λ m. Each (λ k v. IsPlaceKey k) m) (sym c.new.ensures.content) (none_in (λ k v. IsPlaceKey k));
  fungibles = subst (λ (es : List (Place × LedgerHeld)). ArePlaced (ledgers_of es)) (sym c.with_hasher.ensures.empty) tt;
  nonfungibles = subst (λ (es : List (Place × Owned)). ArePlaced (owners_of es)) (sym c.with_hasher-2.ensures.empty) tt;
  spelled = spelled_at_first c.new-2.result.content (ledgers_of c.with_hasher.result.entries) (owners_of c.with_hasher-2.result.entries) c.new.result.content c.in_ok-stx.stx.ledger c.new-2.ensures.content (ap ledgers_of c.with_hasher.ensures.empty) (ap owners_of c.with_hasher-2.ensures.empty) c.in_ok-stx.ensures.held;
}
