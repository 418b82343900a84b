-- The answer to a request, from what the top call says of its files, its sink and its listeners.
use Rattle.std.proofs.Common.{◌≡◌, ◌≢◌, ℕ, List, [], ◌++◌, refl, sym, ap, subst, ◌∙◌, Some, Result, Ok, Err, arith}
use Rattle.cl_ports.specs.Files.{Held}
use Rattle.cl_ports.specs.Growth.{Grows, GrowsPart}
use Rattle.cl_words.specs.Words.{taken}
use Rattle.cl_entries.specs.Scripts.{Script, bytes_of, end_number}
use Rattle.cl_entries.specs.declared.status.Status.{Status}
use Rattle.cl_entries.specs.declared.status.Status.TheVariants.{Done, Usage, BadFile, Refused, NotGood, BadWord}
use Rattle.cl_entries.specs.declared.status.Stop.{Stop}
use Rattle.cl_entries.specs.declared.status.Stop.TheVariants.{ReadFailed, WriteFailed, NoMemory}
use Rattle.cl_listeners.specs.Hearing.{Both}
use Rattle.cl_app.specs.Top.{DoesCommand, DoesFirst, EachHasScript, HasScript, WritesPart}
use Rattle.cl_request.specs.Request.{Parts, request_of}
use Rattle.cl_exports.specs.Answers.{AnswersRequest, AnswersRequestPart, CutsAnswer, IsAnswer, IsAnswerPart}
use Rattle.cl_exports.specs.Copies.{IsCut}

-- an empty sink has what was added
some_is : (out more : List ℕ) → Some out ≡ Some ([] ++ more) → out ≡ more
some_is out more is = cc

grown : (out more : List ℕ) → Grows (Some []) (Some out) more → out ≡ more
grown out more grows = some_is out more (grows.told [] refl)

whole_by : (parts : Parts) (out : List ℕ) (were are : Both) (status : ℕ) → DoesCommand (taken parts.words) (Some parts.files) (Some []) (Some out) were are status → IsAnswer parts out status
whole_by parts out were are status does =
    let gives = does.are_inputs.gives.told parts.files refl in
    record {
      script = does.script;
      has = record { asked = gives.0; inputs = does.inputs; read = gives.1; is = does.is_script };
      bytes = grown out (bytes_of does.script.steps) does.does.written;
      ends = does.ends;
    }

part_in : (parts : Parts) (out : List ℕ) (script : Script) → HasScript (taken parts.words) parts.files script → GrowsPart (Some []) (Some out) (bytes_of script.steps) → IsAnswerPart parts out
part_in parts out script has grows = record {
  script = script;
  has = has;
  rest = grows.rest;
  bytes = ap (λ (x : List ℕ). x ++ grows.rest) (grown out grows.part grows.grown) ∙ grows.parts;
}

part_by : EachHasScript → WritesPart → (parts : Parts) (out : List ℕ) (were are : Both) → DoesFirst (taken parts.words) (Some parts.files) (Some []) (Some out) were are → IsAnswerPart parts out
part_by each writes parts out were are does =
    let found = each (taken parts.words) parts.files in
    part_in parts out found.0 found.1 (writes found.0 (Some []) (Some out) were are (does.told parts.files found.0 refl found.1))

-- the same of the words, files and sink that are those
pub answer_of : (parts : Parts) (words : List (List ℕ)) (held : Held) (before out : List ℕ) (were are : Both) (status : ℕ) → words ≡ parts.words → held ≡ parts.files → before ≡ []
    → DoesCommand (taken words) (Some held) (Some before) (Some out) were are status → IsAnswer parts out status
answer_of parts words held before out were are status same all empty does =
    whole_by parts out were are status
    (subst (λ (b : List ℕ). DoesCommand (taken parts.words) (Some parts.files) (Some b) (Some out) were are status) empty
    (subst (λ (h : Held). DoesCommand (taken parts.words) (Some h) (Some before) (Some out) were are status) all
    (subst (λ (w : List (List ℕ)). DoesCommand (taken w) (Some held) (Some before) (Some out) were are status) same does)))

pub part_of : EachHasScript → WritesPart → (parts : Parts) (words : List (List ℕ)) (held : Held) (before out : List ℕ) (were are : Both) → words ≡ parts.words → held ≡ parts.files → before ≡ []
    → DoesFirst (taken words) (Some held) (Some before) (Some out) were are → IsAnswerPart parts out
part_of each writes parts words held before out were are same all empty does =
    part_by each writes parts out were are
    (subst (λ (b : List ℕ). DoesFirst (taken parts.words) (Some parts.files) (Some b) (Some out) were are) empty
    (subst (λ (h : Held). DoesFirst (taken parts.words) (Some h) (Some before) (Some out) were are) all
    (subst (λ (w : List (List ℕ)). DoesFirst (taken w) (Some held) (Some before) (Some out) were are) same does)))

-- of a request that was read
pub answers : (bytes ends : List ℕ) (words : ℕ) (parts : Parts) (out : List ℕ) (status : ℕ) → request_of bytes ends words ≡ Some parts → IsAnswer parts out status → AnswersRequest bytes ends words out status
answers bytes ends words parts out status is answer = record { parts = parts; is_request = is; answer = answer }

pub answers_part : (bytes ends : List ℕ) (words : ℕ) (parts : Parts) (out : List ℕ) → request_of bytes ends words ≡ Some parts → IsAnswerPart parts out → AnswersRequestPart bytes ends words out
answers_part bytes ends words parts out is part = record { parts = parts; is_request = is; part = part }

-- ---- an answer that was handed out, of which there are these bytes

pub whole_out : (bytes ends : List ℕ) (words : ℕ) (all out : List ℕ) (status number : ℕ) → (number ≢ 4 → number ≡ status) → (number ≢ 4 → out ≡ all)
    → (status ≢ 3 → status ≢ 9 → AnswersRequest bytes ends words all status)
    → number ≢ 3 → number ≢ 4 → number ≢ 9 → AnswersRequest bytes ends words out number
whole_out bytes ends words all out status number same copied answers n3 n4 n9 =
    let is : number ≡ status = same n4 in
    subst (λ (o : List ℕ). AnswersRequest bytes ends words o number) (sym (copied n4))
    (subst (λ (n : ℕ). AnswersRequest bytes ends words all n) (sym is) (answers (λ h. n3 (is ∙ h)) (λ h. n9 (is ∙ h))))

pub part_out : (bytes ends : List ℕ) (words : ℕ) (all out : List ℕ) (number : ℕ) → (number ≢ 4 → out ≡ all) → AnswersRequestPart bytes ends words all → number ≡ 3 → AnswersRequestPart bytes ends words out
part_out bytes ends words all out number copied part is = subst (AnswersRequestPart bytes ends words) (sym (copied (λ h. omega (arith, is, h)))) part

pub cut_out : (bytes ends : List ℕ) (words : ℕ) (all out : List ℕ) (needed status : ℕ) → (status ≢ 4 → IsCut all out needed) → status ≢ 4
    → (status ≢ 3 → status ≢ 9 → AnswersRequest bytes ends words all status) → AnswersRequestPart bytes ends words all → CutsAnswer bytes ends words out needed
cut_out bytes ends words all out needed status cut kept whole part = record { all = all; status = status; cut = cut kept; whole = whole; part = part }

-- the number of bytes that are no request is that of no answer
not_ten : (end : Result Status Stop) → 10 ≡ end_number end → ⊥
not_ten (Ok Done) is = omega (arith, is)
not_ten (Ok Usage) is = omega (arith, is)
not_ten (Ok BadFile) is = omega (arith, is)
not_ten (Ok Refused) is = omega (arith, is)
not_ten (Ok NotGood) is = omega (arith, is)
not_ten (Ok BadWord) is = omega (arith, is)
not_ten (Err ReadFailed) is = omega (arith, is)
not_ten (Err WriteFailed) is = omega (arith, is)
not_ten (Err NoMemory) is = omega (arith, is)

none_is_ten : (bytes ends : List ℕ) (words : ℕ) (out : List ℕ) (number : ℕ) → AnswersRequest bytes ends words out number → number ≡ 10 → ⊥
none_is_ten bytes ends words out number a is = not_ten a.answer.script.end (sym is ∙ a.answer.ends)

pub no_request_out : (bytes ends : List ℕ) (words : ℕ) (all out : List ℕ) (status number : ℕ) → (number ≢ 4 → number ≡ status) → (number ≢ 4 → out ≡ all)
    → (status ≢ 3 → status ≢ 9 → AnswersRequest bytes ends words all status) → number ≡ 10 → ⊥
no_request_out bytes ends words all out status number same copied answers is =
    none_is_ten bytes ends words out number
    (whole_out bytes ends words all out status number same copied answers (λ h. omega (arith, is, h)) (λ h. omega (arith, is, h)) (λ h. omega (arith, is, h))) is
