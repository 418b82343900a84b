-- What stands in the bytes of a key.
use Rattle.std.proofs.Common.{◌≡◌, ℕ, ◌+◌, ◌<◌, ◌≤◌, List, [], ◌∷◌, ◌++◌, length, take, drop, get_or, refl, ap, sym, ◌∙◌, append_assoc, arith}
use Rattle.std.specs.Prelude.{Option, Some, None}
use Rattle.std.proofs.Math.Seq.{take-append_seam, drop-append_seam, get_or-append_seam}
use Rattle.std.proofs.lemmas.List.{length-append}
use Rattle.cl_c32.specs.declared.principal.Principal.{Principal}
use Rattle.cl_values.specs.Tree.{Tree}
use Rattle.cl_values.specs.Wire.{wire, name_wire, contract_wire, principal_prefix}
use Rattle.cl_values.specs.Valid.{IsPrincipal, IsVal}
use Rattle.cl_events.specs.State.{holder, spot}
use Rattle.cl_tables.specs.declared.place.Place.{Place}
use Rattle.cl_tables.specs.Variables.{IsPlace}
use Rattle.cl_tables.specs.RowParts.{BeginsWithPrincipal, principal_size}
use Rattle.cl_tables.proofs.PlaceKeys.{first_part, second_part, keys_apart}

abbrev parts : ℕ → List ℕ → Option (List ℕ) → List ℕ
parts version hash c = principal_prefix c ∷ version ∷ (hash ++ contract_wire c)

parts_size : (version : ℕ) (hash : List ℕ) (c : Option (List ℕ)) (rest : List ℕ) → length hash ≡ 20 → principal_size (parts version hash c ++ rest) ≡ length (parts version hash c)
unfolding principal_size
parts_size version hash None rest long = let sum = length-append hash [] in omega (arith, sum, long)
parts_size version hash (Some name) rest long =
    let at : get_or ((hash ++ length name ∷ name) ++ rest) 20 0 ≡ length name =
    ap (λ xs. get_or xs 20 0) (append_assoc hash (length name ∷ name) rest) ∙ ap (λ n. get_or (hash ++ length name ∷ (name ++ rest)) n 0) (sym long) ∙ get_or-append_seam hash (length name) (name ++ rest) 0 in
    let sum = length-append hash (length name ∷ name) in
    ap (λ n. 23 + n) at ∙ omega (arith, sum, long)

-- where a principal ends that stands in front
pub ends_at : (who : Principal) (rest : List ℕ) → IsPrincipal who → principal_size (holder who ++ rest) ≡ length (holder who)
ends_at who rest real = parts_size who.address.version who.address.hash who.contract rest real.0.size

pub cut_at_end : (bytes : List ℕ) (n : ℕ) (who : Principal) (rest : List ℕ) → n ≡ principal_size bytes → IsPrincipal who → bytes ≡ holder who ++ rest → n ≡ length (holder who)
cut_at_end bytes n who rest size real is = size ∙ ap principal_size is ∙ ends_at who rest real

pub cut_front : (bytes front xs ys : List ℕ) (n : ℕ) → front ≡ take n bytes → n ≡ length xs → bytes ≡ xs ++ ys → front ≡ xs
cut_front bytes front xs ys n is at whole = is ∙ (λ i. take (at i) (whole i)) ∙ take-append_seam xs ys

pub cut_back : (bytes back xs ys : List ℕ) (n : ℕ) → back ≡ drop n bytes → n ≡ length xs → bytes ≡ xs ++ ys → back ≡ ys
cut_back bytes back xs ys n is at whole = is ∙ (λ i. drop (at i) (whole i)) ∙ drop-append_seam xs ys

pub cut_within : (bytes xs ys : List ℕ) (n : ℕ) → n ≡ length xs → bytes ≡ xs ++ ys → n ≤ length bytes
cut_within bytes xs ys n at whole = let sum = ap length whole ∙ length-append xs ys in omega (arith, sum, at)

longer_parts : (version : ℕ) (hash : List ℕ) (c : Option (List ℕ)) (rest : List ℕ) → length hash ≡ 20 → (get_or (parts version hash c ++ rest) 0 0 ≡ 5 → ⊥) → 22 < length (parts version hash c)
longer_parts version hash None rest long other = absurd (other refl)
longer_parts version hash (Some name) rest long other = let sum = length-append hash (length name ∷ name) in omega (arith, sum, long)

-- and one with a name more
pub has_length : (bytes : List ℕ) → BeginsWithPrincipal bytes → (get_or bytes 0 0 ≡ 5 → ⊥) → 22 < length bytes
has_length bytes h other =
    let sum = ap length h.3 ∙ length-append (holder h.0) h.1 in
    let long = longer_parts h.0.address.version h.0.address.hash h.0.contract h.1 h.2.0.size (λ e. other (ap (λ xs. get_or xs 0 0) h.3 ∙ e)) in
    omega (arith, sum, long)

-- ------------------------------------------------------------ keys of entries

pub spot_split : (at : Place) (key : Tree) → spot at.contract at.name key ≡ holder at.contract ++ (name_wire at.name ++ wire key)
spot_split at key = append_assoc (holder at.contract) (name_wire at.name) (wire key)

abbrev pub OwnSpelling : Type 0
OwnSpelling = (v w : Tree) → IsVal v → IsVal w → wire v ≡ wire w → v ≡ w

-- two keys of entries are one only where their places and keys are
pub spots_apart : OwnSpelling → (a b : Place) (k l : Tree) → IsPlace a → IsPlace b → IsVal k → IsVal l → spot a.contract a.name k ≡ spot b.contract b.name l → (a ≡ b) × (k ≡ l)
spots_apart own a b k l real_a real_b valid_k valid_l is =
    let whole : holder a.contract ++ (name_wire a.name ++ wire k) ≡ holder b.contract ++ (name_wire b.name ++ wire l) = sym (spot_split a k) ∙ is ∙ spot_split b l in
    let sizes : length (holder a.contract) ≡ length (holder b.contract) =
    sym (ends_at a.contract (name_wire a.name ++ wire k) real_a.0) ∙ ap principal_size whole ∙ ends_at b.contract (name_wire b.name ++ wire l) real_b.0 in
    let front : holder a.contract ≡ holder b.contract = first_part (holder a.contract) (holder b.contract) _ _ sizes whole in
    let behind : name_wire a.name ++ wire k ≡ name_wire b.name ++ wire l = second_part (holder a.contract) (holder b.contract) _ _ sizes whole in
    let counts : length a.name ≡ length b.name = ap (λ xs. get_or xs 0 0) behind in
    let rest : a.name ++ wire k ≡ b.name ++ wire l = ap (drop 1) behind in
    let names : a.name ≡ b.name = first_part a.name b.name (wire k) (wire l) counts rest in
    let keys : wire k ≡ wire l = second_part a.name b.name (wire k) (wire l) counts rest in
    (keys_apart a b real_a real_b (λ i. front i ++ name_wire (names i)), own k l valid_k valid_l keys)
