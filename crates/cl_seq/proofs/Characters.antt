-- Characters one behind another.
use Rattle.std.proofs.Common.{◌≡◌, ℕ, ◌+◌, true, List, [], ◌∷◌, ◌++◌, length, encode_utf8, encode_utf8_all, refl, sym, ap, ◌∙◌, arith, length-append, subst}
use Rattle.std.specs.Str.{all_scalars}
use Rattle.cl_values.specs.Tree.{Utf8V}
use Rattle.cl_values.specs.Wire.{size_of}
use Rattle.cl_values.specs.Valid.{IsVal}
use Rattle.cl_seq.specs.Fine.{IsFine}

both_scalars : (xs ys : List ℕ) → all_scalars xs ≡ true → all_scalars ys ≡ true → all_scalars (xs ++ ys) ≡ true
both_scalars [] ys h k = k
both_scalars (x ∷ xs) ys h k = grind (arith, both_scalars xs ys, h, k)

both_encoded : (xs ys : List ℕ) → length (encode_utf8_all (xs ++ ys)) ≡ length (encode_utf8_all xs) + length (encode_utf8_all ys)
both_encoded [] ys = omega arith
both_encoded (x ∷ xs) ys = omega (arith, length-append (encode_utf8 x) (encode_utf8_all (xs ++ ys)), length-append (encode_utf8 x) (encode_utf8_all xs), both_encoded xs ys)

pub characters_fine : (xs ys zs : List ℕ) → zs ≡ xs ++ ys → IsVal (Utf8V xs) → IsVal (Utf8V ys) → IsFine (Utf8V zs)
characters_fine xs ys zs e h k = subst (λ l. IsFine (Utf8V l)) (sym e) (record { ranges = both_scalars xs ys h.ranges k.ranges; keys = refl; texts = refl })

pub characters_size : (xs ys zs : List ℕ) → zs ≡ xs ++ ys → size_of (Utf8V zs) + 5 ≡ size_of (Utf8V xs) + size_of (Utf8V ys)
characters_size xs ys zs e = let k : length (encode_utf8_all zs) ≡ length (encode_utf8_all xs) + length (encode_utf8_all ys) = ap (λ l. length (encode_utf8_all l)) e ∙ both_encoded xs ys in omega (arith, k)
