-- Relations of states that reading and writing at fine spots keep.
use Rattle.std.proofs.Common.{◌≡◌, ℕ, List, ◌++◌}
use Rattle.cl_c32.specs.declared.principal.Principal.{Principal}
use Rattle.cl_values.specs.Tree.{Tree as Val}
use Rattle.cl_maps.specs.Maps.{get, put, without}
use Rattle.cl_tokens.specs.Ledger.{Ledger}
use Rattle.cl_tokens.specs.Owners.{Owners}
use Rattle.cl_events.specs.declared.event.EventKind.{EventKind}
use Rattle.cl_events.specs.declared.event.Asset.{Asset}
use Rattle.cl_events.specs.State.{State, with_variables, with_entries, with_fungibles, with_nonfungibles, with_stx, with_event, with_move}
use Rattle.cl_tables.specs.declared.place.Place.{Place}
use Rattle.cl_tables.specs.Variables.{key_of}
use Rattle.cl_tables.specs.declared.spot.Spot.{Spot}
use Rattle.cl_tables.specs.declared.spot.Spot.TheVariants.{Variable, MapOf, Token, Stx}

-- at the spots of `T` related states have the same, and they stay related where the same is written at spots of `C`
pub record Keeps (R : State → State → Type 0) (T C : Spot → Type 0) : Type 0 where
  pub variable : (at : Place) → T (Variable at) → (s z : State) → R s z → get (key_of at) s.variables ≡ get (key_of at) z.variables
  pub entry : (at : Place) → T (MapOf at) → (rest : List ℕ) (s z : State) → R s z → get (key_of at ++ rest) s.entries ≡ get (key_of at ++ rest) z.entries
  pub fungible : (at : Place) → T (Token at) → (s z : State) → R s z → get (key_of at) s.fungibles ≡ get (key_of at) z.fungibles
  pub nonfungible : (at : Place) → T (Token at) → (s z : State) → R s z → get (key_of at) s.nonfungibles ≡ get (key_of at) z.nonfungibles
  pub stx : T Stx → (s z : State) → R s z → s.stx ≡ z.stx
  pub put_variable : (at : Place) → C (Variable at) → (v : Val) (s z : State) → R s z → R (with_variables (put (key_of at) v s.variables) s) (with_variables (put (key_of at) v z.variables) z)
  pub put_entry : (at : Place) → C (MapOf at) → (rest : List ℕ) (v : Val) (s z : State) → R s z → R (with_entries (put (key_of at ++ rest) v s.entries) s) (with_entries (put (key_of at ++ rest) v z.entries) z)
  pub remove_entry : (at : Place) → C (MapOf at) → (rest : List ℕ) (s z : State) → R s z → R (with_entries (without (key_of at ++ rest) s.entries) s) (with_entries (without (key_of at ++ rest) z.entries) z)
  pub put_fungible : (at : Place) → C (Token at) → (l : Ledger) (s z : State) → R s z → R (with_fungibles (put (key_of at) l s.fungibles) s) (with_fungibles (put (key_of at) l z.fungibles) z)
  pub put_nonfungible : (at : Place) → C (Token at) → (o : Owners) (s z : State) → R s z → R (with_nonfungibles (put (key_of at) o s.nonfungibles) s) (with_nonfungibles (put (key_of at) o z.nonfungibles) z)
  pub put_stx : C Stx → (l : Ledger) (s z : State) → R s z → R (with_stx l s) (with_stx l z)
  pub event : (p : Principal) (kind : EventKind) (s z : State) → R s z → R (with_event p kind s) (with_event p kind z)
  pub move : (p : Principal) (asset : Asset) (amount : ℕ) (s z : State) → R s z → R (with_move p asset amount s) (with_move p asset amount z)
