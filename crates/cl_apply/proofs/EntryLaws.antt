-- An entry by its place.
use Rattle.std.proofs.Common.{◌≡◌, ℕ, nat_le, Bool, List, [], ◌∷◌, length, Option, Some, None, option_map, slice_get, if◌then◌else◌, ap, sym, ◌∙◌, refl}
use Rattle.cl_values.specs.Tree.{Tree, UintV, SomeV, NoneV}
use Rattle.cl_values.specs.Computed.{Computed, Gives, Undefined}
use Rattle.cl_apply.specs.Entries.{as_optional}
use Rattle.cl_values.specs.Sequences.{entries_of, element_at, on_entries, optional, within_length}

on_place : (at : ℕ) (o : Option (List Tree)) → on_entries (λ xs. Gives (optional (slice_get xs at))) o ≡ as_optional (option_map (λ xs. slice_get xs at) o)
on_place at None = refl
on_place at (Some xs) = refl

pub element_is : (v : Tree) (at : ℕ) (o : Option (Option Tree)) → o ≡ option_map (λ xs. slice_get xs at) (entries_of v) → element_at (v ∷ UintV at ∷ []) ≡ as_optional o
element_is v at o e = on_place at (entries_of v) ∙ ap as_optional (sym e)

-- ---- a sequence within a length

abbrev as_within : Tree → Option Bool → Computed
as_within v None = Undefined
as_within v (Some fits) = Gives (if fits then SomeV v else NoneV)

on_length : (most : ℕ) (v : Tree) (o : Option (List Tree)) → on_entries (λ xs. Gives (if nat_le (length xs) most then SomeV v else NoneV)) o ≡ as_within v (option_map (λ xs. nat_le (length xs) most) o)
on_length most v None = refl
on_length most v (Some xs) = refl

pub within_found : (most : ℕ) (v : Tree) (fits : Bool) → Some fits ≡ option_map (λ xs. nat_le (length xs) most) (entries_of v) → within_length most v ≡ Gives (if fits then SomeV v else NoneV)
within_found most v fits e = on_length most v (entries_of v) ∙ ap (as_within v) (sym e)

pub within_undefined : (most : ℕ) (v : Tree) → None ≡ option_map (λ xs. nat_le (length xs) most) (entries_of v) → within_length most v ≡ Undefined
within_undefined most v e = on_length most v (entries_of v) ∙ ap (as_within v) (sym e)
