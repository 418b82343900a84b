-- What the laws of the rules say of what is found.
use Rattle.std.proofs.Common.{◌≡◌, ℕ, ◌+◌, ◌<◌, Ok, Err, arith}
use Rattle.cl_types.specs.declared.fault.Fault.{Fault}
use Rattle.cl_types.specs.declared.fault.Fault.TheVariants.{Refused, NoMemory}
use Rattle.cl_types.specs.Fault.{IsRefusal}
use Rattle.cl_sexpr.specs.declared.rule.Break.{Break}
use Rattle.cl_sexpr.specs.Tree.{Tree, tree_depth}
use Rattle.cl_sexpr.specs.Placed.{IsPlaced}
use Rattle.cl_rules.specs.Context.{Context, Names}
use Rattle.cl_rules.specs.Verdicts.{Found}
use Rattle.cl_rules.specs.Typing.{Typed, FirstBreak}
use Rattle.cl_rules.specs.Judging.{judged}
use Rattle.cl_rules.specs.Laws.{JudgedIsTyped, JudgedIsStop, WalkIsFirst}
use Rattle.cl_code.specs.Typed.{expression_of}
use Rattle.cl_typing.specs.declared.concluding.Checked.{Checked}
use Rattle.cl_typing.specs.Verdicts.{facts, facts_of}
use Rattle.cl_judging.specs.declared.context.Context.{Context as CodeContext}
use Rattle.cl_judging.specs.Seen.{Shows}
use Rattle.cl_judging.specs.Judgement.{Judges}
use Rattle.cl_judging.specs.Walking.{Checks}
use Rattle.cl_judging.proofs.Plans.{stands_whole}

module _ (c : CodeContext) (B : Names) (e : Tree) where
  pub is_judged : (x : Checked) → expression_of x.code ≡ e → Checks c B e (Ok x) → (G : Context) (d : ℕ) → Shows c G → tree_depth e < d → Judges G B (judged d G B e) (Ok x)
  is_judged x text h G d shows less =
      let found = h G d shows less in
      (found.0, found.1, found.2, stands_whole G B e x found.0 text found.3)

  pub is_broken : (f : Fault Break) → Checks c B e (Err f) → (G : Context) (d : ℕ) → Shows c G → tree_depth e < d → Judges G B (judged d G B e) (Err f)
  is_broken (Refused b) h G d shows less = h G d shows less
  is_broken NoMemory h G d shows less = tt

  pub is_typed : (x : Checked) → JudgedIsTyped → Checks c B e (Ok x) → (G : Context) → Shows c G → (f : Found) × Typed G B e f × (facts f ≡ facts_of x)
  is_typed x law h G shows =
      let found = h G (tree_depth e + 1) shows (omega arith) in
      (found.0, law (tree_depth e + 1) G B e found.0 found.1, found.2)

  pub is_first : (f : Fault Break) → JudgedIsStop → WalkIsFirst → Checks c B e (Err f) → IsRefusal f (λ b. (G : Context) → Shows c G → IsPlaced e → FirstBreak G B e b.rule b.span)
  is_first (Refused b) law first h = λ G shows placed. first G B e b.rule b.span placed (law (tree_depth e + 1) G B e b.rule b.span (h G (tree_depth e + 1) shows (omega arith)))
  is_first NoMemory law first h = tt
