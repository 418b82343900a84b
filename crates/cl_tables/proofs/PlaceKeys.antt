-- Each place has a key of its own.
use Rattle.std.proofs.Common.{◌≡◌, ℕ, List, ◌++◌, length, take, drop, get_or, refl, ap, sym, ◌∙◌, append_assoc}
use Rattle.std.specs.Prelude.{Option, Some, None}
use Rattle.std.proofs.Math.Seq.{take-append_seam, drop-append_seam}
use Rattle.cl_values.specs.Wire.{name_wire, contract_wire, principal_prefix}
use Rattle.cl_tables.specs.declared.place.Place.{Place}
use Rattle.cl_tables.specs.Variables.{IsPlace, key_of}

pub first_part : (xs us ys vs : List ℕ) → length xs ≡ length us → xs ++ ys ≡ us ++ vs → xs ≡ us
first_part xs us ys vs same is = sym (take-append_seam xs ys) ∙ (λ i. take (same i) (is i)) ∙ take-append_seam us vs

pub second_part : (xs us ys vs : List ℕ) → length xs ≡ length us → xs ++ ys ≡ us ++ vs → ys ≡ vs
second_part xs us ys vs same is = sym (drop-append_seam xs ys) ∙ (λ i. drop (same i) (is i)) ∙ drop-append_seam us vs

-- a contract's name with its length, or nothing, and behind it a name with its length
contracts_one : (c d : Option (List ℕ)) (m n : List ℕ) → principal_prefix c ≡ principal_prefix d → contract_wire c ++ name_wire m ≡ contract_wire d ++ name_wire n → (c ≡ d) × (m ≡ n)
contracts_one None None m n same is = (refl, ap (drop 1) is)
contracts_one None (Some d) m n same is = absurd (cc)
contracts_one (Some c) None m n same is = absurd (cc)
contracts_one (Some c) (Some d) m n same is =
    let sizes : length c ≡ length d = ap (λ xs. get_or xs 0 0) is in
    let rest : c ++ name_wire m ≡ d ++ name_wire n = ap (drop 1) is in
    (ap Some (first_part c d (name_wire m) (name_wire n) sizes rest), ap (drop 1) (second_part c d (name_wire m) (name_wire n) sizes rest))

pub keys_apart : (a b : Place) → IsPlace a → IsPlace b → key_of a ≡ key_of b → a ≡ b
keys_apart a b real_a real_b is =
    let prefix : principal_prefix a.contract.contract ≡ principal_prefix b.contract.contract = ap (λ xs. get_or xs 0 0) is in
    let version : a.contract.address.version ≡ b.contract.address.version = ap (λ xs. get_or xs 1 0) is in
    let behind : (a.contract.address.hash ++ contract_wire a.contract.contract) ++ name_wire a.name ≡ (b.contract.address.hash ++ contract_wire b.contract.contract) ++ name_wire b.name = ap (drop 2) is in
    let rest : a.contract.address.hash ++ (contract_wire a.contract.contract ++ name_wire a.name) ≡ b.contract.address.hash ++ (contract_wire b.contract.contract ++ name_wire b.name) =
    sym (append_assoc a.contract.address.hash (contract_wire a.contract.contract) (name_wire a.name)) ∙ behind ∙ append_assoc b.contract.address.hash (contract_wire b.contract.contract) (name_wire b.name) in
    let sizes : length a.contract.address.hash ≡ length b.contract.address.hash = real_a.0.0.size ∙ sym real_b.0.0.size in
    let hash : a.contract.address.hash ≡ b.contract.address.hash = first_part a.contract.address.hash b.contract.address.hash _ _ sizes rest in
    let parts : (a.contract.contract ≡ b.contract.contract) × (a.name ≡ b.name) = contracts_one a.contract.contract b.contract.contract a.name b.name prefix (second_part a.contract.address.hash b.contract.address.hash _ _ sizes rest) in
    λ i. record { contract = record { address = record { version = version i; hash = hash i }; contract = parts.0 i }; name = parts.1 i }
