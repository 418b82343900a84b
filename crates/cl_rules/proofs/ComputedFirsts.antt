-- The examples of first breaks by their property: the plain program stops there.
use Rattle.std.proofs.Common.{◌≡◌, ℕ, true, List, [], length, codes, refl, subst}
use Rattle.cl_sexpr.specs.declared.rule.Rule.{Rule}
use Rattle.cl_sexpr.specs.declared.rule.Rule.TheVariants.{TooLarge, Undetermined, UnusedResponse}
use Rattle.cl_forms.specs.declared.version.Version.TheVariants.{One}
use Rattle.cl_rules.specs.FormRules.{nothing_defined}
use Rattle.cl_rules.specs.Judging.{Fails, forms_judged}
use Rattle.cl_rules.specs.Acceptance.{forms_at}
use Rattle.cl_rules.specs.Samples.{opened, contract_f, span}
use Rattle.cl_rules.specs.FirstBreakExamples.{program, IsFirstIn, FirstBreaks}
use Rattle.cl_rules.proofs.PlacedTest.{are_forms_placed, forms_placed_so}
use Rattle.cl_rules.proofs.Judged.{FormsAreSo, forms_so}
use Rattle.cl_rules.proofs.FormWalk.{forms_walk_is_first}

first_in : (text : List ℕ) (rule : Rule) (start end : ℕ) → are_forms_placed (forms_at (program text).forms (program text).order) ≡ true → forms_judged (nothing_defined [] contract_f One (length text)) (forms_at (program text).forms (program text).order) ≡ Fails rule (span start end) → IsFirstIn text rule start end
first_in text rule start end p h =
    let D = nothing_defined [] contract_f One (length text) in
    let forms = forms_at (program text).forms (program text).order in
    forms_walk_is_first D forms rule (span start end) (forms_placed_so forms p) (subst (FormsAreSo D forms) h (forms_so forms D))

undetermined : IsFirstIn (codes "(define-read-only (f) (unwrap-panic none))") Undetermined 22 41
unfolding opened
undetermined = first_in (codes "(define-read-only (f) (unwrap-panic none))") Undetermined 22 41 refl refl

too_large : IsFirstIn (codes "(define-read-only (f (c bool) (p {a: (buff 600000), b: (buff 0)}) (q {a: (buff 0), b: (buff 600000)})) (if c p q))") TooLarge 103 113
unfolding opened
too_large = first_in (codes "(define-read-only (f (c bool) (p {a: (buff 600000), b: (buff 0)}) (q {a: (buff 0), b: (buff 600000)})) (if c p q))") TooLarge 103 113 refl refl

unused : IsFirstIn (codes "(define-public (f) (begin (ok 1) (ok 2)))") UnusedResponse 19 40
unfolding opened
unused = first_in (codes "(define-public (f) (begin (ok 1) (ok 2)))") UnusedResponse 19 40 refl refl

pub first_breaks : FirstBreaks
first_breaks = record { undetermined = undetermined; too_large = too_large; unused = unused }
