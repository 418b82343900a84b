-- Nodes of match: their parts, their texts and what is large enough.
use Rattle.std.proofs.Common.{◌≡◌, ℕ, ◌+◌, ◌<◌, Bool, true, false, List, [], ◌∷◌, length, refl, ap, ◌∙◌, subst, arith}
use Rattle.std.specs.Prelude.{◌==◌, ◌||◌, codes}
use Rattle.std.proofs.lemmas.Bool.{eqb-true}
use Rattle.cl_sexpr.specs.declared.sexpr.Span.{Span}
use Rattle.cl_sexpr.specs.Fits.{Fits, AllFit}
use Rattle.cl_sexpr.specs.Tree.{Tree, forest, forest_size, tree_size}
use Rattle.cl_forms.specs.Heads.{row_of, takes}
use Rattle.cl_forms.specs.declared.head.Head.TheVariants.{Match}
use Rattle.cl_code.specs.declared.op.Word.{Word}
use Rattle.cl_code.specs.Expression.{headed, optional_branches, response_branches}
use Rattle.cl_code.specs.Typed.{expression_of}
use Rattle.cl_typing.specs.declared.concluding.Checked.{Checked}
use Rattle.cl_typing.specs.Verdicts.{texts_of}

-- ---- three parts

module _ (ps : List Checked) (x y z : Checked) (three : ps ≡ x ∷ y ∷ z ∷ []) where
  pub three_few : length ps < 1048576
  three_few = let count : length ps ≡ 3 = ap length three in omega (arith, count)

  pub three_fit : (length ps == 3) ≡ true
  three_fit = ap (λ (cs : List Checked). length cs == 3) three

  pub three_texts : (i a b : Tree) → expression_of x.code ≡ i → expression_of y.code ≡ a → expression_of z.code ≡ b → texts_of ps ≡ i ∷ a ∷ b ∷ []
  three_texts i a b h k l = ap texts_of three ∙ (λ j. h j ∷ k j ∷ l j ∷ [])

pub optional_text : (head at : Span) (part : Word) (i a b : Tree) (es : List Tree) → es ≡ i ∷ a ∷ b ∷ [] → headed (codes "match") head (optional_branches part es) at ≡ headed (codes "match") head (optional_branches part (i ∷ a ∷ b ∷ [])) at
optional_text head at part i a b es is = ap (λ (ts : List Tree). headed (codes "match") head (optional_branches part ts) at) is

pub response_text : (head at : Span) (good bad : Word) (i a b : Tree) (es : List Tree) → es ≡ i ∷ a ∷ b ∷ [] → headed (codes "match") head (response_branches good bad es) at ≡ headed (codes "match") head (response_branches good bad (i ∷ a ∷ b ∷ [])) at
response_text head at good bad i a b es is = ap (λ (ts : List Tree). headed (codes "match") head (response_branches good bad ts) at) is

-- ---- the items of a match

neither : (a b : Bool) → (a || b) ≡ true → (a ≡ true → ⊥) → (b ≡ true → ⊥) → ⊥
neither true b h no_a no_b = no_a refl
neither false b h no_a no_b = no_b h

-- there are four or five
pub four_or_five : (n : ℕ) → (n ≡ 4 → ⊥) → (n ≡ 5 → ⊥) → takes (row_of Match).arity n ≡ true → ⊥
four_or_five n no_four no_five h = neither (n == 4) (n == 5) h (λ e. no_four (eqb-true n 4 e)) (λ e. no_five (eqb-true n 5 e))

module _ (args : List Tree) (i e a b : Tree) (list : args ≡ i ∷ e ∷ a ∷ b ∷ []) where
  pub four_size : tree_size i + tree_size a + tree_size b < forest_size (forest args)
  four_size = let same : forest_size (forest args) ≡ forest_size (forest (i ∷ e ∷ a ∷ b ∷ [])) = ap (λ (ts : List Tree). forest_size (forest ts)) list in omega (arith, same)

  pub four_fit : AllFit (forest args) → Fits i × Fits a × Fits b
  four_fit fits = let all : AllFit (forest (i ∷ e ∷ a ∷ b ∷ [])) = subst (λ (ts : List Tree). AllFit (forest ts)) list fits in (all.0, all.1.1.0, all.1.1.1.0)

module _ (args : List Tree) (i e a d b : Tree) (list : args ≡ i ∷ e ∷ a ∷ d ∷ b ∷ []) where
  pub five_size : tree_size i + tree_size a + tree_size b < forest_size (forest args)
  five_size = let same : forest_size (forest args) ≡ forest_size (forest (i ∷ e ∷ a ∷ d ∷ b ∷ [])) = ap (λ (ts : List Tree). forest_size (forest ts)) list in omega (arith, same)

  pub five_fit : AllFit (forest args) → Fits i × Fits a × Fits b
  five_fit fits = let all : AllFit (forest (i ∷ e ∷ a ∷ d ∷ b ∷ [])) = subst (λ (ts : List Tree). AllFit (forest ts)) list fits in (all.0, all.1.1.0, all.1.1.1.1.0)
