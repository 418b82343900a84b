-- Keys that are made of bytes.
use Rattle.std.specs.Prelude.{ℕ, List, [], ◌∷◌}
use Rattle.core.specs.Hash.DefaultHasher as sip
use Rattle.core.specs.declared.hash.sip.DefaultHasher.{DefaultHasher}
use Rattle.cl_keyed.specs.declared.hash_key.HashKey.{HashKey}

-- the hash of bytes under a key, before its end
abbrev pub begun : HashKey → List ℕ → DefaultHasher
begun key bytes = sip.write (sip.with_keys key.low key.high) bytes

-- the hash of bytes under a key, and that of the bytes with a 0 behind them
abbrev pub digest : HashKey → List ℕ → HashKey
digest key bytes = record {
  low = sip.finish (begun key bytes);
  high = sip.finish (sip.write (begun key bytes) (0 ∷ []));
}

-- the digest of bytes under their digest
abbrev pub with_bytes : HashKey → List ℕ → HashKey
with_bytes key bytes = digest (digest key bytes) bytes
