-- Natives under their names.
use Rattle.std.proofs.Common.{◌≡◌, ℕ, true, List, Option, Some, None, refl, ap, sym, ◌∙◌}
use Rattle.cl_forms.specs.declared.head.Head.{Head}
use Rattle.cl_forms.specs.Heads.{Row, row_of, native}
use Rattle.cl_forms.specs.declared.version.Version.{Version}
use Rattle.cl_forms.specs.HeadNames.{head_of, head_of_row, has_head}
use Rattle.cl_forms.proofs.Found.{is_row, is_had_row}
use Rattle.cl_rules.specs.Context.{Context}
use Rattle.cl_judging.specs.declared.context.Context.{Context as CodeContext}
use Rattle.cl_judging.specs.Seen.{Shows}

row_at : (version : Version) (x : List ℕ) (o : Option Row) (h : Head) → native version x ≡ o → Some h ≡ head_of_row o → (o ≡ Some (row_of h)) × ((row_of h).head ≡ h) × (has_head version h ≡ true)
row_at version x None h is found = absurd cc
row_at version x (Some r) h is found =
    let same : h ≡ r.head = cc in
    let own : r ≡ row_of h = is_row version x r is ∙ ap row_of (sym same) in
    (ap (λ (q : Row). Some q) own, ap (λ (q : Row). q.head) (sym own) ∙ sym same, ap (has_head version) same ∙ is_had_row version x r is)

-- the native of a name in a version: its row is that of its head, and the version has it
module _ (version : Version) (x : List ℕ) (h : Head) (found : Some h ≡ head_of version x) where
  pub own_head : (row_of h).head ≡ h
  own_head = (row_at version x (native version x) h refl found).1

  pub head_had : has_head version h ≡ true
  head_had = (row_at version x (native version x) h refl found).2

  row_there : native version x ≡ Some (row_of h)
  row_there = (row_at version x (native version x) h refl found).0

-- in each context that is shown a name stands for the same native, or for none
pub native_is : (c : CodeContext) (x : List ℕ) (h : Head) → Some h ≡ head_of c.version x → (G : Context) → Shows c G → native G.version x ≡ Some (row_of h)
native_is c x h found G shows = ap (λ (version : Version). native version x) shows.version ∙ row_there c.version x h found

pub no_native : (c : CodeContext) (x : List ℕ) → None ≡ native c.version x → (G : Context) → Shows c G → native G.version x ≡ None
no_native c x none G shows = ap (λ (version : Version). native version x) shows.version ∙ sym none
