-- Rows that are made one by one of rows that are taken apart.
use Rattle.std.proofs.Common.{◌≡◌, ℕ, ◌+◌, List, [], ◌∷◌, ◌++◌, map, length, Option, Some, None, arith, ap, sym, ◌∙◌, append-nil}
use Rattle.std.specs.Prelude.{option_map}
use Rattle.std.specs.Option.{option_or}
use Rattle.cl_sexpr.specs.declared.rule.Break.{Break}
use Rattle.cl_sexpr.specs.Tree.{Tree}
use Rattle.cl_forms.specs.Heads.{Version}
use Rattle.cl_forms.specs.Shapes.{binding_of, and_binding, bindings_of}
use Rattle.cl_forms.specs.Looks.{Looked, Table, break_of, first_broken}
use Rattle.cl_forms.proofs.Bindings.{bound_next}

-- what is left after the first, and what was made of it
module _ {A B C : Type 0} (f : A → C) (g : B → C) where
  pushed : (xs : List A) (a : A) (b : B) (ys : List B) → f a ≡ g b → map f (xs ++ a ∷ []) ++ map g ys ≡ map f xs ++ map g (b ∷ ys)
  pushed [] a b ys e = ap (λ (c : C). c ∷ map g ys) e
  pushed (x ∷ xs) a b ys e = ap (λ (cs : List C). f x ∷ cs) (pushed xs a b ys e)

  pub one_moved : (done more : List A) (a : A) (left rest : List B) (b : B) (whole : List C) → more ≡ done ++ a ∷ [] → left ≡ b ∷ rest → f a ≡ g b → map f done ++ map g left ≡ whole → map f more ++ map g rest ≡ whole
  one_moved done more a left rest b whole push taken same inv =
      ap (λ (xs : List A). map f xs ++ map g rest) push ∙ pushed done a b rest same ∙ ap (λ (ys : List B). map f done ++ map g ys) (sym taken) ∙ inv

  pub all_moved : (done : List A) (left : List B) (whole : List C) → length left ≡ 0 → map f done ++ map g left ≡ whole → map f done ≡ whole
  all_moved done [] whole empty inv = sym (append-nil (map f done)) ∙ inv
  all_moved done (b ∷ left) whole empty inv = absurd (omega (arith, empty))

-- items that are bindings
pub one_bound : (done more : List (List ℕ × Tree)) (p : List ℕ × Tree) (left rest : List Tree) (e : Tree) (whole : Option (List (List ℕ × Tree))) → more ≡ done ++ p ∷ [] → left ≡ e ∷ rest → Some p ≡ binding_of e → option_map (λ ps. done ++ ps) (bindings_of left) ≡ whole → option_map (λ ps. more ++ ps) (bindings_of rest) ≡ whole
one_bound done more p left rest e whole push taken is inv =
    ap (λ (xs : List (List ℕ × Tree)). option_map (λ ps. xs ++ ps) (bindings_of rest)) push
    ∙ sym (bound_next done p (bindings_of rest))
    ∙ ap (λ (o : Option (List ℕ × Tree)). option_map (λ ps. done ++ ps) (and_binding o (bindings_of rest))) is
    ∙ ap (λ (ts : List Tree). option_map (λ ps. done ++ ps) (bindings_of ts)) (sym taken) ∙ inv

pub all_bound : (done : List (List ℕ × Tree)) (left : List Tree) (whole : Option (List (List ℕ × Tree))) → length left ≡ 0 → option_map (λ ps. done ++ ps) (bindings_of left) ≡ whole → Some done ≡ whole
all_bound done [] whole empty inv = ap (λ (xs : List (List ℕ × Tree)). Some xs) (sym (append-nil done)) ∙ inv
all_bound done (t ∷ left) whole empty inv = absurd (omega (arith, empty))

-- items that break no rule
pub one_unbroken : (version : Version) (table : Table) (n m : ℕ) (left rest : List Looked) (x : Looked) (whole : Option Break) → m ≡ n + 1 → left ≡ x ∷ rest → break_of version table n x ≡ None → first_broken version table n left ≡ whole → first_broken version table m rest ≡ whole
one_unbroken version table n m left rest x whole further taken none inv =
    ap (λ (k : ℕ). first_broken version table k rest) further
    ∙ ap (λ (o : Option Break). option_or o (first_broken version table (n + 1) rest)) (sym none)
    ∙ ap (first_broken version table n) (sym taken) ∙ inv

pub all_unbroken : (version : Version) (table : Table) (n : ℕ) (left : List Looked) (whole : Option Break) → length left ≡ 0 → first_broken version table n left ≡ whole → whole ≡ None
all_unbroken version table n [] whole empty inv = sym inv
all_unbroken version table n (x ∷ left) whole empty inv = absurd (omega (arith, empty))
