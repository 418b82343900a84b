-- Bytes one behind another.
use Rattle.std.proofs.Common.{◌≡◌, ℕ, ◌+◌, ◌<◌, ◌≤◌, ◌^◌, List, ◌++◌, length, refl, sym, ap, ◌∙◌, arith, length-append, subst}
use Rattle.std.specs.List.{list_all}
use Rattle.std.proofs.lemmas.Bool.{and_from}
use Rattle.std.proofs.lemmas.List.Elements.{All-append}
use Rattle.std.proofs.lemmas.List.Folds.{list_all-append}
use Rattle.cl_values.specs.Tree.{BuffV, AsciiV}
use Rattle.cl_values.specs.Valid.{IsVal, is_text_byte}
use Rattle.cl_seq.specs.Fine.{IsFine}

pub buffs_fine : (xs ys zs : List ℕ) → zs ≡ xs ++ ys → IsVal (BuffV xs) → IsVal (BuffV ys) → IsFine (BuffV zs)
buffs_fine xs ys zs e h k = subst (λ l. IsFine (BuffV l)) (sym e) (record { ranges = All-append (λ b. b < 256) xs ys h.ranges k.ranges; keys = refl; texts = refl })

pub texts_fine : (xs ys zs : List ℕ) → zs ≡ xs ++ ys → IsVal (AsciiV xs) → IsVal (AsciiV ys) → IsFine (AsciiV zs)
texts_fine xs ys zs e h k =
    subst (λ l. IsFine (AsciiV l)) (sym e) (record {
      ranges = All-append (λ b. b < 256) xs ys h.ranges k.ranges;
      keys = refl;
      texts = list_all-append is_text_byte xs ys ∙ and_from (list_all is_text_byte xs) (list_all is_text_byte ys) h.texts k.texts;
    })

-- there is room to count them
pub bytes_short : (xs ys zs : List ℕ) (n : ℕ) → zs ≡ xs ++ ys → 5 + length xs ≤ 1048576 → 5 + length ys ≤ 1048576 → n ≡ length zs → 5 + n < 2 ^ 32
bytes_short xs ys zs n e h k is =
    let both : length zs ≡ length xs + length ys = ap (λ l. length l) e ∙ length-append xs ys in
    omega (arith, both, h, k, is)

pub bytes_counted : (n : ℕ) → 5 + n < 2 ^ 32 → n < 2 ^ 32
bytes_counted n h = omega (arith, h)
