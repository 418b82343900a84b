-- Where natives are defined.
use Rattle.std.proofs.Common.{◌≡◌, ℕ, ◌+◌, ◌≤◌, ◌<◌, ◌&&◌, nat_le, max, get_or, take, drop, Bool, true, false, List, [], ◌∷◌, ◌++◌, length, refl, ap, sym, ◌∙◌, arith, if◌then◌else◌}
use Rattle.std.proofs.lemmas.Bool.Decides.{nat_tests}
use Rattle.std.proofs.lemmas.List.{take_more, take-append-drop}
use Rattle.sha2.specs.Sha256.{sha256}
use Rattle.sha2.specs.Sha512.{sha512, sha512_256}
use Rattle.cl_values.proofs.Digests.{hash_256, hash_512, hash_512_256}
use Rattle.cl_values.specs.Natives.{listed}
use Rattle.cl_values.specs.Tree.{Tree, ListV, BuffV, Utf8V, items_of, depth_of, items_depth}
use Rattle.cl_values.specs.Wire.{size_of}
use Rattle.cl_values.specs.Computed.{Gives, Undefined, is_within, is_defined, kept}
use Rattle.cl_values.specs.Sequences.{append, concat}
use Rattle.cl_seq.proofs.Entries.{longer_size, longer_depth, longer_value, joined_size, joined_depth, joined_value, more_depth, too_large}
use Rattle.cl_seq.proofs.Characters.{characters_size}

gives_by : (w : Tree) (b : Bool) → is_defined (if b then Gives w else Undefined) ≡ b
gives_by w true = refl
gives_by w false = refl

pub gives_is : (w : Tree) → is_defined (kept (Gives w)) ≡ is_within w
gives_is w = gives_by w (is_within w)

pub fits_is : (w : Tree) (size depth : ℕ) → size ≡ size_of w → depth ≡ depth_of w → (nat_le depth 32 && nat_le size 1048576) ≡ is_defined (kept (Gives w))
fits_is w size depth s d = (λ i. nat_le (d i) 32 && nat_le (s i) 1048576) ∙ sym (gives_is w)

-- a list with one more entry
pub appends_is : (xs : List Tree) (v : Tree) (size depth : ℕ) → size ≡ size_of (ListV (items_of xs)) + size_of v → depth ≡ max (depth_of (ListV (items_of xs))) (depth_of v + 1)
    → (nat_le depth 32 && nat_le size 1048576) ≡ is_defined (kept (append (ListV (items_of xs) ∷ v ∷ [])))
appends_is xs v size depth s d =
    fits_is (ListV (items_of (xs ++ v ∷ []))) size depth (s ∙ sym (longer_size xs v (xs ++ v ∷ []) refl)) (d ∙ sym (longer_depth xs v (xs ++ v ∷ []) refl))
    ∙ ap (λ c. is_defined (kept c)) (sym (longer_value xs v (xs ++ v ∷ []) refl))

-- sequences one behind the other
pub both_by : (a b : Bool) → a ≡ true → (a && b) ≡ b
both_by true b h = refl
both_by false b h = absurd cc

pub joined_by : (w : Tree) (sizes : ℕ) → depth_of w ≤ 32 → size_of w + 5 ≡ sizes → nat_le sizes 1048581 ≡ is_defined (kept (Gives w))
joined_by w sizes d s =
    let deep : nat_le (depth_of w) 32 ≡ true = grind (arith, nat_tests, d) in
    let same : nat_le sizes 1048581 ≡ nat_le (size_of w) 1048576 = grind (arith, nat_tests, s) in
    same ∙ sym (both_by (nat_le (depth_of w) 32) (nat_le (size_of w) 1048576) deep) ∙ sym (gives_is w)

pub concat_lists_is : (xs ys : List Tree) → depth_of (ListV (items_of xs)) ≤ 32 → depth_of (ListV (items_of ys)) ≤ 32
    → nat_le (size_of (ListV (items_of xs)) + size_of (ListV (items_of ys))) 1048581 ≡ is_defined (kept (concat (ListV (items_of xs) ∷ ListV (items_of ys) ∷ [])))
concat_lists_is xs ys d e =
    let deep = joined_depth xs ys (xs ++ ys) refl in
    joined_by (ListV (items_of (xs ++ ys))) (size_of (ListV (items_of xs)) + size_of (ListV (items_of ys))) (omega (arith, deep, d, e)) (joined_size xs ys (xs ++ ys) refl)
    ∙ ap (λ c. is_defined (kept c)) (sym (joined_value xs ys (xs ++ ys) refl))

pub concat_characters_is : (xs ys : List ℕ) → nat_le (size_of (Utf8V xs) + size_of (Utf8V ys)) 1048581 ≡ is_defined (kept (concat (Utf8V xs ∷ Utf8V ys ∷ [])))
concat_characters_is xs ys = joined_by (Utf8V (xs ++ ys)) (size_of (Utf8V xs) + size_of (Utf8V ys)) (omega arith) (characters_size xs ys (xs ++ ys) refl)

-- digests are within the limits
buff_is : (bytes : List ℕ) → length bytes ≤ 64 → is_defined (kept (Gives (BuffV bytes))) ≡ true
buff_is bytes h =
    let small : nat_le (size_of (BuffV bytes)) 1048576 ≡ true = grind (arith, nat_tests, h) in
    gives_is (BuffV bytes) ∙ small

pub sha256_is : (bytes : List ℕ) → is_defined (kept (Gives (BuffV (sha256 bytes)))) ≡ true
sha256_is bytes = buff_is (sha256 bytes) (let l = hash_256.long bytes in omega (arith, l))

pub sha512_256_is : (bytes : List ℕ) → is_defined (kept (Gives (BuffV (sha512_256 bytes)))) ≡ true
sha512_256_is bytes = buff_is (sha512_256 bytes) (let l = hash_512_256.long bytes in omega (arith, l))

pub sha512_is : (bytes : List ℕ) → is_defined (kept (Gives (BuffV (sha512 bytes)))) ≡ true
sha512_is bytes = buff_is (sha512 bytes) (let l = hash_512.long bytes in omega (arith, l))

-- a list of values
pub lists_more : (vs : List Tree) (i size depth : ℕ) (v : Tree) → i < length vs → v ≡ get_or vs i v
    → size ≡ size_of (ListV (items_of (take i vs))) → depth ≡ items_depth (items_of (take i vs))
    → (size + size_of v ≡ size_of (ListV (items_of (take (i + 1) vs)))) × (max depth (depth_of v) ≡ items_depth (items_of (take (i + 1) vs)))
lists_more vs i size depth v h e s d =
    let more : take (i + 1) vs ≡ take i vs ++ v ∷ [] = take_more vs i v h ∙ ap (λ x. take i vs ++ x ∷ []) (sym e) in
    (omega (arith, s, longer_size (take i vs) v (take (i + 1) vs) more), omega (arith, d, more_depth (take i vs) v (take (i + 1) vs) more))

pub lists_not : (vs : List Tree) (i : ℕ) → 1048576 < size_of (ListV (items_of (take i vs))) → is_defined (kept (listed vs)) ≡ false
lists_not vs i h = ap is_defined (too_large (take i vs) (drop i vs) vs (take-append-drop i vs) h)
