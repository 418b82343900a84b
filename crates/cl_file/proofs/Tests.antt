-- Tests of the file.
use Rattle.std.proofs.Common.{◌≡◌, ℕ, suc, ◌^◌, ◌<◌, ◌≤◌, nat_lt, nat_le, Bool, true, false, List, [], ◌∷◌, length, Some, None, if◌then◌else◌, Ok, Err, refl, ap, ◌∙◌}
use Rattle.std.specs.Option.{is_some}
use Rattle.std.proofs.lemmas.Bool.{le-leb, lt-leb}
use Rattle.serde_json.specs.View.{items_view}
use Rattle.serde_json.specs.declared.value.Value.{Value}
use Rattle.cl_post.specs.Post.{fitting}
use Rattle.cl_file.specs.Paths.{Read}
use Rattle.cl_file.specs.Files.{tested, count}
use Rattle.cl_file.specs.declared.refusal.TxRefusal.{TxRefusal}

pub tested_yes : (b : Bool) (r : Read (Unit {0})) → b ≡ true → tested b r ≡ Ok tt
unfolding tested
tested_yes b r e = rw e refl

pub tested_no : (b : Bool) (r : TxRefusal) → b ≡ false → tested b (Err r) ≡ Err r
unfolding tested
tested_no b r e = rw e refl

is_some_if : (b : Bool) (n : ℕ) → is_some (if b then Some n else None) ≡ b
is_some_if true n = refl
is_some_if false n = refl

pub is_some_fitting : (n : ℕ) → is_some (fitting n) ≡ nat_lt n (2 ^ 128)
is_some_fitting n = is_some_if (nat_lt n (2 ^ 128)) n

count_is : (xs : List Value) → count (items_view xs) ≡ length xs
count_is [] = refl
count_is (x ∷ xs) = ap suc (count_is xs)

pub at_most : (n : ℕ) (xs : List Value) → length xs ≤ n → nat_le (count (items_view xs)) n ≡ true
at_most n xs h = ap (λ m. nat_le m n) (count_is xs) ∙ le-leb (length xs) n h

pub more_than : (n : ℕ) (xs : List Value) → n < length xs → nat_le (count (items_view xs)) n ≡ false
more_than n xs h = ap (λ m. nat_le m n) (count_is xs) ∙ lt-leb (length xs) n h
