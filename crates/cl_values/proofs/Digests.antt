-- Digests have so many bytes.
use Rattle.std.proofs.Common.{◌≡◌, ℕ, zero, suc, ◌*◌, ◌<◌, List, length, refl, arith, length-append}
use Rattle.std.specs.Prelude.{slice_index}
use Rattle.std.specs.Int.{w32, w64, to_be_bytes, byte_at, bytes_high_first}
use Rattle.std.proofs.lemmas.List.Elements.{All-nil, All-cons, All-append, All-take}
use Rattle.std.proofs.lemmas.List.{length-take-le}
use Rattle.sha2.specs.Sha256 as by_256
use Rattle.sha2.specs.Sha512 as by_512
use Rattle.sha2.specs.Sha256.{sha256}
use Rattle.sha2.specs.Sha512.{sha512, sha512_256}
use Rattle.cl_values.specs.Hashes.{AreBytes, IsHash}

byte_low : (k n : ℕ) → byte_at k n < 256
byte_low zero n = omega arith
byte_low (suc k) n = omega arith

pub bytes_low : (k n : ℕ) → AreBytes (bytes_high_first k n)
bytes_low zero n = All-nil (λ b. b < 256)
bytes_low (suc k) n = All-cons (λ b. b < 256) (byte_at k n) (bytes_high_first k n) (byte_low k n) (bytes_low k n)

digest_256 : (h : List ℕ) (n : ℕ) → AreBytes (by_256.digest_bytes h n)
unfolding by_256.digest_bytes
digest_256 h zero = All-nil (λ b. b < 256)
digest_256 h (suc n) = All-append (λ b. b < 256) (by_256.digest_bytes h n) (to_be_bytes w32 (slice_index h n)) (digest_256 h n) (bytes_low 4 (slice_index h n))

digest_512 : (h : List ℕ) (n : ℕ) → AreBytes (by_512.digest_bytes h n)
unfolding by_512.digest_bytes
digest_512 h zero = All-nil (λ b. b < 256)
digest_512 h (suc n) = All-append (λ b. b < 256) (by_512.digest_bytes h n) (to_be_bytes w64 (slice_index h n)) (digest_512 h n) (bytes_low 8 (slice_index h n))

long_256 : (h : List ℕ) (n : ℕ) → length (by_256.digest_bytes h n) ≡ n * 4
unfolding by_256.digest_bytes
long_256 h zero = refl
long_256 h (suc n) =
    let last : length (to_be_bytes w32 (slice_index h n)) ≡ 4 = refl in
    omega (arith, long_256 h n, last, length-append (by_256.digest_bytes h n) (to_be_bytes w32 (slice_index h n)))

long_512 : (h : List ℕ) (n : ℕ) → length (by_512.digest_bytes h n) ≡ n * 8
unfolding by_512.digest_bytes
long_512 h zero = refl
long_512 h (suc n) =
    let last : length (to_be_bytes w64 (slice_index h n)) ≡ 8 = refl in
    omega (arith, long_512 h n, last, length-append (by_512.digest_bytes h n) (to_be_bytes w64 (slice_index h n)))

pub hash_256 : IsHash sha256 32
unfolding sha256
hash_256 = record { bytes = λ m. digest_256 _ 8; long = λ m. long_256 _ 8 }

pub hash_512 : IsHash sha512 64
unfolding sha512
hash_512 = record { bytes = λ m. digest_512 _ 8; long = λ m. long_512 _ 8 }

pub hash_512_256 : IsHash sha512_256 32
unfolding sha512_256
hash_512_256 = record {
  bytes = λ m. All-take (λ b. b < 256) 32 (by_512.digest_bytes (by_512.final_hash by_512.initial_hash_512_256 m) 8) (digest_512 (by_512.final_hash by_512.initial_hash_512_256 m) 8);
  long = λ m. length-take-le 32 (by_512.digest_bytes (by_512.final_hash by_512.initial_hash_512_256 m) 8) (omega (arith, long_512 (by_512.final_hash by_512.initial_hash_512_256 m) 8));
}
