-- Bytes behind a length that are no name.
use Rattle.std.proofs.Common.{◌≡◌, ℕ, ◌≤◌, ◌&&◌, nat_le, Bool, true, false, List, ◌∷◌, length, refl, ap, sym, ◌∙◌}
use Rattle.std.specs.Prelude.{Ok, Err, if◌then◌else◌}
use Rattle.std.proofs.lemmas.Bool.{leb-true}
use Rattle.cl_values.specs.declared.fault.DecodeRefusal.TheVariants.{BadName}
use Rattle.cl_values.specs.Reading.{Read, and_then, part, place, read_name}
use Rattle.cl_values.proofs.Back.{if_false}

not_both : (a b : Bool) → (a ≡ true → b ≡ true → ⊥) → (a && b) ≡ false
not_both true true never = absurd (never refl refl)
not_both true false never = refl
not_both false b never = refl

pub name_refused : (fits : List ℕ → Bool) (total size : ℕ) (bytes rest name behind : List ℕ) → bytes ≡ size ∷ rest → part total size rest ≡ Ok (name, behind) → (fits name ≡ true → length name ≤ 128 → ⊥) → read_name fits total bytes ≡ Err (BadName (place total bytes))
name_refused fits total size bytes rest name behind is read never =
    let bad : Read (List ℕ) = Err (BadName (place total (size ∷ rest))) in
    ap (read_name fits total) is
    ∙ ap (λ (r : Read (List ℕ)). and_then r (λ k left. if fits k && nat_le (length k) 128 then Ok (k, left) else bad)) read
    ∙ if_false (fits name && nat_le (length name) 128) (Ok (name, behind)) bad (not_both (fits name) (nat_le (length name) 128) (λ f l. never f (leb-true (length name) 128 l)))
    ∙ ap (λ (b : List ℕ). Err (BadName (place total b))) (sym is)
