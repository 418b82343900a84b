-- What an owner, or nobody, has of an asset.
use Rattle.std.proofs.Common.{◌≡◌, sym, ap, ◌∙◌, ℕ, List}
use Rattle.std.specs.Prelude.{true, false, Option, Some, if◌then◌else◌}
use Rattle.cl_tokens.specs.Table.{is_key}
use Rattle.cl_tables.specs.Amounts.{one_if}

-- of an asset its owner has one, and nobody else has any
pub owner_has_one : (who key : List ℕ) (owner : Option (List ℕ)) → owner ≡ Some key → is_key key who ≡ true → 1 ≡ one_if who owner
owner_has_one who key owner is same = sym (ap (one_if who) is ∙ ap (λ b. if b then 1 else 0) same)

pub other_has_none : (who key : List ℕ) (owner : Option (List ℕ)) → owner ≡ Some key → is_key key who ≡ false → 0 ≡ one_if who owner
other_has_none who key owner is other = sym (ap (one_if who) is ∙ ap (λ b. if b then 1 else 0) other)
