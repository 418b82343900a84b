-- First breaks of small contracts, by their property.
use Rattle.std.specs.Prelude.{ℕ, List, [], codes, length}
use Rattle.cl_sexpr.specs.declared.rule.Rule.{Rule}
use Rattle.cl_sexpr.specs.declared.rule.Rule.TheVariants.{TooLarge, Undetermined, UnusedResponse}
use Rattle.cl_forms.specs.declared.version.Version.TheVariants.{One}
use Rattle.cl_rules.specs.FormRules.{nothing_defined}
use Rattle.cl_rules.specs.FormTyping.{FirstFormBreak}
use Rattle.cl_rules.specs.Acceptance.{forms_at}
use Rattle.cl_rules.specs.PlainProgram.{Program, program_of}
use Rattle.cl_rules.specs.CallExamples.{or_nothing}
use Rattle.cl_rules.specs.Samples.{contract_f, span}

abbrev pub program : List ℕ → Program
program text = or_nothing (program_of text)

-- the first break among the forms of a text, which are typed in their order
abbrev pub IsFirstIn : List ℕ → Rule → ℕ → ℕ → Type 0
IsFirstIn text rule start end = FirstFormBreak (nothing_defined [] contract_f One (length text)) (forms_at (program text).forms (program text).order) rule (span start end)

pub record FirstBreaks : Type 0 where
  pub undetermined : IsFirstIn (codes "(define-read-only (f) (unwrap-panic none))") Undetermined 22 41
  pub too_large : IsFirstIn (codes "(define-read-only (f (c bool) (p {a: (buff 600000), b: (buff 0)}) (q {a: (buff 0), b: (buff 600000)})) (if c p q))") TooLarge 103 113
  pub unused : IsFirstIn (codes "(define-public (f) (begin (ok 1) (ok 2)))") UnusedResponse 19 40
