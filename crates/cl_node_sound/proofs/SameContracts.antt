-- Contracts in another order: a contract at the end is one in front.
use Rattle.std.proofs.Common.{◌≡◌, ◌⊎◌, inl, inr, ℕ, Bool, true, false, List, [], ◌∷◌, ◌++◌, Option, Some, refl, sym, ap, subst, ◌∙◌, arith}
use Rattle.cl_contract_sound.proofs.States.{some_contract}
use Rattle.std.specs.Prelude.{if◌then◌else◌, Contains}
use Rattle.std.proofs.lemmas.List.Elements.{Contains-append_left, Contains-append_right, Contains-append_cases, Contains-push, Contains-push_cases}
use Rattle.cl_c32.specs.declared.principal.Principal.{Principal}
use Rattle.cl_tokens.specs.Table.{is_key}
use Rattle.cl_maps.proofs.MapLaws.{same_keys, self_equal}
use Rattle.cl_forms.specs.Forms.{FormKind, VariableForm, MapForm, FungibleForm, NonFungibleForm}
use Rattle.cl_events.specs.State.{State, holder, is_principal, at_rest}
use Rattle.cl_meaning.specs.Deployed.{Contract, Deployed, contract_at}
use Rattle.cl_meaning.specs.Kept.{Defines, Stage, Kept}
use Rattle.cl_rules.specs.Context.{Known}
use Rattle.cl_expression_sound.specs.Stages.{AreDistinct}
use Rattle.cl_contract_sound.specs.Nodes.{AreOfTexts, none_yet, and_one, AreContracts}

-- the same contracts, found under the same principals
pub record AreSame (W V : Deployed) : Type 0 where
  pub found : (p : Principal) → contract_at p V ≡ contract_at p W
  pub there : (c : Contract) → Contains W c → Contains V c
  pub back : (c : Contract) → Contains V c → Contains W c

module _ (W V : Deployed) (S : AreSame W V) where
  texts_moved : (ks : List Known) → AreOfTexts W ks → AreOfTexts V ks
  texts_moved ks (none_yet e) = none_yet e
  texts_moved ks (and_one {before = before} c k texts new h there is) = and_one c k (texts_moved before texts) new h (S.found c.principal ∙ there) is

  pub contracts_moved : (ks : List Known) → AreContracts W ks → AreContracts V ks
  contracts_moved ks A = record {
    distinct = record {
      valid = λ c h. A.distinct.valid c (S.back c h);
      found = λ c h. S.found c.principal ∙ A.distinct.found c (S.back c h);
    };
    texts = texts_moved ks A.texts;
    known = λ c h. A.known c (S.back c h);
  }

  defines : (c : Contract) (x : List ℕ) (k : FormKind) → Defines W c x k → Defines V c x k
  defines c x k d = record { there = S.there c d.there; form = d.form }

  defined : (c : Contract) (x : List ℕ) (k : FormKind) → Defines V c x k → Defines W c x k
  defined c x k d = record { there = S.back c d.there; form = d.form }

  -- a state that is kept is so at rest
  pub kept_moved : (stage : Stage) (s : State) → Kept W stage s → Kept V stage (at_rest s)
  kept_moved stage s n = record {
    variables_there = λ c x t e d now. let v = n.variables_there c x t e (defined c x (VariableForm t e) d) now in record { value = v.value; there = v.there };
    variables = λ key v h. let o = n.variables key v h in record { contract = o.contract; name = o.name; type = o.type; initial = o.initial; defined = defines o.contract o.name (VariableForm o.type o.initial) o.defined; place = o.place; typed = o.typed };
    entries = λ key v h. let o = n.entries key v h in record { contract = o.contract; name = o.name; key_type = o.key_type; value_type = o.value_type; defined = defines o.contract o.name (MapForm o.key_type o.value_type) o.defined; entry_key = o.entry_key; spot = o.spot; key_typed = o.key_typed; typed = o.typed };
    fungibles_there = λ c x e d now. let v = n.fungibles_there c x e (defined c x (FungibleForm e) d) now in record { value = v.value; there = v.there };
    fungibles = λ key l h. let o = n.fungibles key l h in record { contract = o.contract; name = o.name; supply = o.supply; defined = defines o.contract o.name (FungibleForm o.supply) o.defined; place = o.place; held = o.held; capped = o.capped };
    nonfungibles_there = λ c x t d now. let v = n.nonfungibles_there c x t (defined c x (NonFungibleForm t) d) now in record { value = v.value; there = v.there };
    nonfungibles = λ key m h. let o = n.nonfungibles key m h in record { contract = o.contract; name = o.name; type = o.type; defined = defines o.contract o.name (NonFungibleForm o.type) o.defined; place = o.place; owned = o.owned };
    stx = n.stx;
    uncapped = n.uncapped;
  }

pub itself : (W : Deployed) → AreSame W W
itself W = record { found = λ p. refl; there = λ c h. h; back = λ c h. h }

-- ---- a contract at the end

-- two principals that are spelled as a third are spelled alike
spelled_alike : (p q r : Principal) → is_principal p r ≡ true → is_principal q r ≡ true → is_principal p q ≡ true
spelled_alike p q r h k = ap (λ key. is_key key (holder q)) (same_keys (holder p) (holder r) h ∙ sym (same_keys (holder q) (holder r) k)) ∙ self_equal (holder q)

if_both : (b c : Bool) (d e : Contract) (o : Option Contract) → (b ≡ true → c ≡ true → d ≡ e) → (if b then Some d else if c then Some e else o) ≡ (if c then Some e else if b then Some d else o)
if_both true true d e o h = ap Some (h refl refl)
if_both true false d e o h = refl
if_both false true d e o h = refl
if_both false false d e o h = refl

at_end : (p : Principal) (c : Contract) (W : Deployed) → ((d : Contract) → Contains W d → is_principal d.principal p ≡ true → is_principal c.principal p ≡ true → d ≡ c) → contract_at p (W ++ c ∷ []) ≡ contract_at p (c ∷ W)
at_end p c [] h = refl
at_end p c (d ∷ W) h =
    ap (λ o. if is_principal d.principal p then Some d else o) (at_end p c W (λ b i. h b (Contains-append_right (d ∷ []) W b i)))
    ∙ if_both (is_principal d.principal p) (is_principal c.principal p) d c (contract_at p W) (h d (Contains-append_left (d ∷ []) W d (Contains-push [] d)))

first_found : (p : Principal) (c : Contract) (W : Deployed) → is_principal c.principal p ≡ true → contract_at p (c ∷ W) ≡ Some c
first_found p c W h = by (is_principal c.principal p) h
  where
    by : (b : Bool) → b ≡ true → (if b then Some c else contract_at p W) ≡ Some c
    by true e = refl
    by false e = absurd cc

pub from_front : (c : Contract) (W : Deployed) → AreDistinct (c ∷ W) → AreSame (c ∷ W) (W ++ c ∷ [])
from_front c W A = record {
  found = λ p. at_end p c W (λ d i k l. one d (A.found d (Contains-append_right (c ∷ []) W d i)) (spelled_alike c.principal d.principal p l k));
  there = λ d i. by_front d (Contains-append_cases (c ∷ []) W d i);
  back = λ d i. by_end d (Contains-push_cases W c d i);
}
  where
    one : (d : Contract) → contract_at d.principal (c ∷ W) ≡ Some d → is_principal c.principal d.principal ≡ true → d ≡ c
    one d h e = some_contract d c (sym h ∙ first_found d.principal c W e)

    first_of : (d : Contract) → Contains (c ∷ []) d → c ≡ d
    first_of d i = elim (Contains-push_cases [] c d i) [
      | inl h ↦ absurd (omega (arith, h.1))
      | inr e ↦ e
    ]

    by_front : (d : Contract) → Contains (c ∷ []) d ⊎ Contains W d → Contains (W ++ c ∷ []) d
    by_front d (inl i) = subst (Contains (W ++ c ∷ [])) (first_of d i) (Contains-push W c)
    by_front d (inr i) = Contains-append_left W (c ∷ []) d i

    by_end : (d : Contract) → Contains W d ⊎ (c ≡ d) → Contains (c ∷ W) d
    by_end d (inl i) = Contains-append_right (c ∷ []) W d i
    by_end d (inr e) = subst (Contains (c ∷ W)) e (Contains-append_left (c ∷ []) W c (Contains-push [] c))
