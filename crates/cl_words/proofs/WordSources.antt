-- What the table says of the words of `check` and `verify`.
use Rattle.std.proofs.Common.{◌≡◌, ℕ, ◌-◌, ◌^◌, Bool, true, false, List, [], ◌∷◌, Option, Some, None, option_map, Ok, Err, refl, sym, subst}
use Rattle.std.specs.Prelude.{Result, codes, option_and_then, if◌then◌else◌}
use Rattle.std.specs.Str.{bytes_eq}
use Rattle.cl_c32.specs.Address.{AddressParts}
use Rattle.cl_c32.specs.Codec.{decoded}
use Rattle.cl_c32.specs.declared.codec.C32Refusal.{C32Refusal}
use Rattle.cl_forms.specs.declared.version.Version.{Version}
use Rattle.cl_forms.specs.declared.version.Version.TheVariants.{One}
use Rattle.cl_words.specs.declared.line.Flag.{Flag}
use Rattle.cl_words.specs.declared.line.Flag.TheVariants.{State, Clarity2}
use Rattle.cl_words.specs.Numbers.{number_within}
use Rattle.cl_words.specs.Sources.{are_sources}
use Rattle.cl_words.specs.Words.{Command, Call, Run, Check, Value, Wire, Gen, Trace, Audit, Root, Prove, Verify, are_short, check_under, run_of, gen_by, gen_of, trace_of, audit_of, root_of, prove_of, verify_of, root_command, command_of, command_with, command_with_words, with_flag, command_in, command_on, IsOfTable}

by_test : (b : Bool) (x y : Option Command) → IsOfTable x → IsOfTable y → IsOfTable (if b then x else y)
by_test true x y p q = p
by_test false x y p q = q

if_sources : (costs : List ℕ) (paths : List (List ℕ)) (address : AddressParts) (b : Bool) → are_sources paths ≡ b → IsOfTable (if b then Some (Check costs address paths One) else None)
if_sources costs paths address true h = h
if_sources costs paths address false h = tt

under_has : (costs : List ℕ) (paths : List (List ℕ)) (r : Result AddressParts C32Refusal) → IsOfTable (check_under costs paths r)
under_has costs paths (Ok address) = if_sources costs paths address (are_sources paths) refl
under_has costs paths (Err refusal) = tt

run_has : (costs file : List ℕ) (words : List (List ℕ)) → IsOfTable (run_of costs file words)
run_has costs file [] = tt
run_has costs file (word ∷ words) = tt

numbers_have : (seed count : Option ℕ) → IsOfTable (gen_by seed count)
numbers_have (Some seed) (Some count) = tt
numbers_have (Some seed) None = tt
numbers_have None count = tt

gen_has : (seed count : List ℕ) (words : List (List ℕ)) → IsOfTable (gen_of seed count words)
gen_has seed count [] = numbers_have (number_within seed (2 ^ 64 - 1)) (number_within count 99999)
gen_has seed count (word ∷ words) = tt

trace_has : (costs file : List ℕ) (words : List (List ℕ)) → IsOfTable (trace_of costs file words)
trace_has costs file [] = tt
trace_has costs file (word ∷ words) = tt

audit_has : (costs file : List ℕ) (words : List (List ℕ)) → IsOfTable (audit_of costs file words)
audit_has costs file [] = tt
audit_has costs file (trace ∷ []) = tt
audit_has costs file (trace ∷ report ∷ []) = tt
audit_has costs file (trace ∷ report ∷ word ∷ words) = tt

root_has : (costs file : List ℕ) (words : List (List ℕ)) → IsOfTable (root_of costs file words)
root_has costs file [] = tt
root_has costs file (word ∷ words) = tt

numbered_has : (costs file : List ℕ) (number : Option ℕ) → IsOfTable (option_map (λ n. Prove costs file n) number)
numbered_has costs file None = tt
numbered_has costs file (Some n) = tt

prove_has : (costs file : List ℕ) (words : List (List ℕ)) → IsOfTable (prove_of costs file words)
prove_has costs file [] = tt
prove_has costs file (number ∷ []) = numbered_has costs file (number_within number (2 ^ 32 - 1))
prove_has costs file (number ∷ word ∷ words) = tt

if_short : (root key value : List ℕ) (sides : List (List ℕ)) (b : Bool) → are_short key sides ≡ b → IsOfTable (if b then Some (Verify root key value sides) else None)
if_short root key value sides true h = h
if_short root key value sides false h = tt

verify_has : (root key : List ℕ) (words : List (List ℕ)) → IsOfTable (verify_of root key words)
verify_has root key [] = tt
verify_has root key (value ∷ sides) = if_short root key value sides (are_short key sides) refl

of_root_has : (name first second : List ℕ) (words : List (List ℕ)) → IsOfTable (root_command name first second words)
of_root_has name first second words =
    let verify : Option Command = if bytes_eq name (codes "verify") then verify_of first second words else None in
    let prove : Option Command = if bytes_eq name (codes "prove") then prove_of first second words else verify in
    by_test (bytes_eq name (codes "root")) (root_of first second words) prove (root_has first second words)
    (by_test (bytes_eq name (codes "prove")) (prove_of first second words) verify (prove_has first second words)
    (by_test (bytes_eq name (codes "verify")) (verify_of first second words) None (verify_has first second words) tt))

words_have : (name first second : List ℕ) (words : List (List ℕ)) → IsOfTable (command_with_words name first second words)
words_have name first second words =
    let audit : Option Command = if bytes_eq name (codes "audit") then audit_of first second words else root_command name first second words in
    let trace : Option Command = if bytes_eq name (codes "trace") then trace_of first second words else audit in
    let gen : Option Command = if bytes_eq name (codes "gen") then gen_of first second words else trace in
    let run : Option Command = if bytes_eq name (codes "run") then run_of first second words else gen in
    let check : Option Command = if bytes_eq name (codes "check") then check_under first words (decoded second) else run in
    by_test (bytes_eq name (codes "call")) (Some (Call first second words One)) check tt
    (by_test (bytes_eq name (codes "check")) (check_under first words (decoded second)) run (under_has first words (decoded second))
    (by_test (bytes_eq name (codes "run")) (run_of first second words) gen (run_has first second words)
    (by_test (bytes_eq name (codes "gen")) (gen_of first second words) trace (gen_has first second words)
    (by_test (bytes_eq name (codes "trace")) (trace_of first second words) audit (trace_has first second words)
    (by_test (bytes_eq name (codes "audit")) (audit_of first second words) (root_command name first second words) (audit_has first second words) (of_root_has name first second words))))))

word_has : (name word : List ℕ) → IsOfTable (command_with name word)
word_has name word =
    by_test (bytes_eq name (codes "value")) (Some (Value word)) (if bytes_eq name (codes "wire") then Some (Wire word) else None) tt
    (by_test (bytes_eq name (codes "wire")) (Some (Wire word)) None tt tt)

command_has : (words : List (List ℕ)) → IsOfTable (command_of words)
command_has [] = tt
command_has (name ∷ []) = tt
command_has (name ∷ word ∷ []) = word_has name word
command_has (name ∷ first ∷ second ∷ words) = words_have name first second words

flag_has : (flag : Flag) (command : Command) → IsOfTable (Some command) → IsOfTable (with_flag flag command)
flag_has Clarity2 (Check costs address paths version) h = h
flag_has Clarity2 (Call file function args version) h = tt
flag_has Clarity2 (Run costs file state) h = tt
flag_has Clarity2 (Value word) h = tt
flag_has Clarity2 (Wire word) h = tt
flag_has Clarity2 (Gen seed count) h = tt
flag_has Clarity2 (Trace costs file) h = tt
flag_has Clarity2 (Audit costs file trace report) h = tt
flag_has Clarity2 (Root costs file) h = tt
flag_has Clarity2 (Prove costs file number) h = tt
flag_has Clarity2 (Verify root key value sides) h = tt
flag_has State (Run costs file state) h = tt
flag_has State (Check costs address paths version) h = tt
flag_has State (Call file function args version) h = tt
flag_has State (Value word) h = tt
flag_has State (Wire word) h = tt
flag_has State (Gen seed count) h = tt
flag_has State (Trace costs file) h = tt
flag_has State (Audit costs file trace report) h = tt
flag_has State (Root costs file) h = tt
flag_has State (Prove costs file number) h = tt
flag_has State (Verify root key value sides) h = tt

flagged_has : (flag : Flag) (command : Option Command) → IsOfTable command → IsOfTable (option_and_then (with_flag flag) command)
flagged_has flag None h = tt
flagged_has flag (Some command) h = flag_has flag command h

line_has : (flag : Option Flag) (words : List (List ℕ)) → IsOfTable (command_in flag words)
line_has None words = command_has words
line_has (Some flag) words = flagged_has flag (command_of words) (command_has words)

on_has : (line : Option (List (List ℕ) × Option Flag)) → IsOfTable (command_on line)
on_has None = tt
on_has (Some line) = line_has line.1 line.0

pub line_is_of_table : (line : Option (List (List ℕ) × Option Flag)) (command : Option Command) → command ≡ command_on line → IsOfTable command
line_is_of_table line command is = subst IsOfTable (sym is) (on_has line)
