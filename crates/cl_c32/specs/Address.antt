-- Addresses as plain data.
use Rattle.std.specs.Prelude.{◌≡◌, ℕ, ◌<◌, List, ◌∷◌, length}
use Rattle.std.specs.List.{All}

-- an address as contracts see it
pub record AddressParts : Type 0 where
  pub version : ℕ
  pub hash : List ℕ

-- the version and the hash, one behind the other
abbrev pub address_bytes : AddressParts → List ℕ
address_bytes a = a.version ∷ a.hash

-- what holds of each address: its version is below 32, and its hash has 20 bytes
pub record IsAddress (a : AddressParts) : Type 0 where
  pub version : a.version < 32
  pub size : length a.hash ≡ 20
  pub bytes : All (λ b. b < 256) a.hash
