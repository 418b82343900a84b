-- The cases of match: from what they add to the parts to what is found of the whole.
use Rattle.std.proofs.Common.{◌≡◌, inl, inr, ◌++◌, false, List, [], ◌∷◌, Some, None, Result, Ok, Err, refl, ap, sym, subst, ◌∙◌}
use Rattle.std.specs.Prelude.{IfOk}
use Rattle.cl_types.specs.Types.{PlainType}
use Rattle.cl_types.specs.declared.fault.Fault.{Fault}
use Rattle.cl_types.specs.declared.fault.Fault.TheVariants.{Refused, NoMemory}
use Rattle.cl_sexpr.specs.declared.sexpr.Span.{Span}
use Rattle.cl_sexpr.specs.declared.rule.Rule.{Rule}
use Rattle.cl_sexpr.specs.declared.rule.Break.{Break}
use Rattle.cl_sexpr.specs.Tree.{Tree}
use Rattle.cl_rules.specs.Context.{Names, bind}
use Rattle.cl_code.specs.declared.op.Word.{Word}
use Rattle.cl_code.specs.Typed.{expression_of, type_of}
use Rattle.cl_typing.specs.declared.concluding.Checked.{Checked}
use Rattle.cl_typing.specs.declared.concluding.Concluded.{Concluded}
use Rattle.cl_typing.specs.Branches.{optional_row, response_row}
use Rattle.cl_typing.specs.Verdicts.{ConcludesRow, texts_of}
use Rattle.cl_judging.specs.declared.context.Context.{Context as CodeContext}
use Rattle.cl_judging.specs.Seen.{taken_in, shadowed_in}
use Rattle.cl_judging.specs.Branching.{optional_part, response_parts, ChecksOptional, ChecksResponse, AddsTwo, refusal}
use Rattle.cl_judging.specs.Walking.{Checks, FinishesIn}
use Rattle.cl_judging.proofs.MatchNodes.{three_texts}
use Rattle.cl_judging.proofs.MatchShapes.{optional_none_fails, optional_odd, optional_some_fails, optional_last_fails, optional_found, response_good_fails, response_bad_fails, response_found}

-- two more, the one after the other
pub two_more : (ps qs rs : List Checked) (y z : Checked) → qs ≡ ps ++ y ∷ [] → rs ≡ qs ++ z ∷ [] → rs ≡ ps ++ y ∷ z ∷ []
two_more ps qs rs y z first second = second ∙ ap (λ (cs : List Checked). cs ++ z ∷ []) first ∙ both ps
  where
    both : (ps : List Checked) → (ps ++ y ∷ []) ++ z ∷ [] ≡ ps ++ y ∷ z ∷ []
    both [] = refl
    both (p ∷ ps) = ap (λ (cs : List Checked). p ∷ cs) (both ps)

-- the first of two breaks a rule, and the second
pub first_breaks : (c : CodeContext) (N : Names) (a : Tree) (M : Names) (b : Tree) (old new : List Checked) (f : Fault Break) → Checks c N a (Err f) → AddsTwo c N a M b old new (Err f)
first_breaks c N a M b old new (Refused q) k = inl k
first_breaks c N a M b old new NoMemory k = tt

pub second_breaks : (c : CodeContext) (N : Names) (a : Tree) (M : Names) (b : Tree) (old new : List Checked) (y : Checked) (f : Fault Break) → expression_of y.code ≡ a → Checks c N a (Ok y) → Checks c M b (Err f) → AddsTwo c N a M b old new (Err f)
second_breaks c N a M b old new y (Refused q) text k l = inr (y, text, k, l)
second_breaks c N a M b old new y NoMemory text k l = tt

-- the parts behind the first
module _ (c : CodeContext) (N : Names) (a : Tree) (M : Names) (b : Tree) (i : Tree) (x : Checked) (old new : List Checked) (u : Unit {0}) (text : expression_of x.code ≡ i) (first : old ≡ x ∷ []) (k : AddsTwo c N a M b old new (Ok u)) where
  pub all_three : new ≡ x ∷ k.0 ∷ k.1 ∷ []
  all_three = k.2 ∙ ap (λ (cs : List Checked). cs ++ k.0 ∷ k.1 ∷ []) first

  pub all_texts : texts_of new ≡ i ∷ a ∷ b ∷ []
  all_texts = three_texts new x k.0 k.1 all_three i a b text k.3 k.5

-- ---- a match of an optional

module _ (c : CodeContext) (B : Names) (i : Tree) (w : Word) (a b : Tree) (at : Span) (free : taken_in c B w.name ≡ false) (x : Checked) (text : expression_of x.code ≡ i) (h : Checks c B i (Ok x)) where
  -- the last expression of a match of what is no optional
  pub optional_stops : (f : Fault Break) (r : Result Checked (Fault Break)) → None ≡ optional_part (type_of x.code) → Checks c B b r → IfOk r (λ y. expression_of y.code ≡ b) → f ≡ refusal r at → ChecksOptional c B i w a b at (Err f)
  optional_stops f (Ok y) none k read is = optional_odd c B i w a b at false (sym free) refl x text h y f none read k is
  optional_stops f (Err g) none k read is = subst (λ (q : Fault Break). ChecksOptional c B i w a b at (Err q)) (sym is) (optional_none_fails c B i w a b at false (sym free) refl x text h g none k)

  module _ (t : PlainType) (some : Some t ≡ optional_part (type_of x.code)) (old new : List Checked) where
    pub optional_fails : (f : Fault Break) → AddsTwo c (bind w.name t B) a B b old new (Err f) → ChecksOptional c B i w a b at (Err f)
    optional_fails (Refused q) (inl k) = optional_some_fails c B i w a b at false (sym free) refl x text h t some (Refused q) k
    optional_fails (Refused q) (inr r) = optional_last_fails c B i w a b at false (sym free) refl x text h t some r.0 r.1 r.2 (Refused q) r.3
    optional_fails NoMemory k = λ G d shows deep. tt

    pub optional_ends : (u : Unit {0}) → old ≡ x ∷ [] → (k : AddsTwo c (bind w.name t B) a B b old new (Ok u)) → (verdict : Result Concluded (Fault Rule)) (result : Result Checked (Fault Break)) → ConcludesRow optional_row 0 new verdict → FinishesIn c new verdict at result → ChecksOptional c B i w a b at result
    optional_ends u first k verdict result judges fin =
        optional_found c B i w a b at false (sym free) refl x text h t some k.0 k.3 k.4 k.1 new verdict result k.5 k.6 (all_three c (bind w.name t B) a B b i x old new u text first k) judges fin

-- ---- a match of a response

module _ (c : CodeContext) (B : Names) (i : Tree) (w : Word) (a : Tree) (w' : Word) (b : Tree) (at : Span) (free : shadowed_in c B (w.name ∷ w'.name ∷ []) ≡ false) (x : Checked) (text : expression_of x.code ≡ i) (h : Checks c B i (Ok x)) (t t' : PlainType) (both : Some (t, t') ≡ response_parts (type_of x.code)) (old new : List Checked) where
  pub response_fails : (f : Fault Break) → AddsTwo c (bind w.name t B) a (bind w'.name t' B) b old new (Err f) → ChecksResponse c B i w a w' b at (Err f)
  response_fails (Refused q) (inl k) = response_good_fails c B i w a w' b at false (sym free) refl x text h t t' both (Refused q) k
  response_fails (Refused q) (inr r) = response_bad_fails c B i w a w' b at false (sym free) refl x text h t t' both r.0 r.1 r.2 (Refused q) r.3
  response_fails NoMemory k = λ G d shows deep. tt

  pub response_ends : (u : Unit {0}) → old ≡ x ∷ [] → (k : AddsTwo c (bind w.name t B) a (bind w'.name t' B) b old new (Ok u)) → (verdict : Result Concluded (Fault Rule)) (result : Result Checked (Fault Break)) → ConcludesRow response_row 0 new verdict → FinishesIn c new verdict at result → ChecksResponse c B i w a w' b at result
  response_ends u first k verdict result judges fin =
      response_found c B i w a w' b at false (sym free) refl x text h t t' both k.0 k.3 k.4 k.1 new verdict result k.5 k.6 (all_three c (bind w.name t B) a (bind w'.name t' B) b i x old new u text first k) judges fin
