-- What the words of a command line ask for.
use Rattle.std.specs.Prelude.{◌≡◌, ℕ, ◌-◌, ◌^◌, nat_le, nat_lt, Bool, true, false, not, List, [], ◌∷◌, length, Option, Some, None, is_some, option_map, option_and_then, Result, Ok, Err, codes, if◌then◌else◌, ◌==◌, ◌&&◌, string_bytes, map}
use Rattle.std.specs.Str.{bytes_eq}
use Rattle.cl_c32.specs.Address.{AddressParts}
use Rattle.cl_c32.specs.Codec.{decoded}
use Rattle.cl_c32.specs.declared.codec.C32Refusal.{C32Refusal}
use Rattle.cl_forms.specs.declared.version.Version.{Version}
use Rattle.cl_forms.specs.declared.version.Version.TheVariants.{One, Two}
use Rattle.cl_words.specs.declared.line.Flag.{Flag}
use Rattle.cl_words.specs.declared.line.Flag.TheVariants.{State, Clarity2}
use Rattle.cl_words.specs.Numbers.{number_within}
use Rattle.cl_words.specs.Sources.{are_sources}
use Rattle.std.specs.declared.alloc.Global.{Global}
use Rattle.std.specs.declared.string.String.{String}

-- the words as bytes
abbrev pub texts : List (String Global) → List (List ℕ)
texts words = map string_bytes words

-- a command with its words, and with the version of the contracts that it is about
pub data Command : Type 0 where
  Call : (file function : List ℕ) (args : List (List ℕ)) (version : Version) → Command
  -- what the entries of a transaction file come to under a file of costs, and the state after them where it is asked for
  Run : (costs file : List ℕ) (state : Bool) → Command
  -- what becomes of the sources under these paths, as contracts under an address
  Check : (costs : List ℕ) (address : AddressParts) (paths : List (List ℕ)) (version : Version) → Command
  -- the text of the value with this wire form
  Value : (word : List ℕ) → Command
  -- the wire form of the value with this text
  Wire : (word : List ℕ) → Command
  -- what a workload comes to, by its seed and its number of calls
  Gen : (seed count : ℕ) → Command
  -- the values that the nodes of the entries' evaluations give
  Trace : (costs file : List ℕ) → Command
  -- whether a trace file and a report are those of a transaction file
  Audit : (costs file trace report : List ℕ) → Command
  -- the root of the state after a transaction file
  Root : (costs file : List ℕ) → Command
  -- the row with this number of that state, and its path to the root
  Prove : (costs file : List ℕ) (number : ℕ) → Command
  -- whether a key and a value lead by these sides to this root
  Verify : (root key value : List ℕ) (sides : List (List ℕ)) → Command

-- the words that name files, in their order
abbrev pub names_of : Option Command → List (List ℕ)
names_of None = []
names_of (Some (Call file function args version)) = file ∷ []
names_of (Some (Run costs file state)) = costs ∷ file ∷ []
names_of (Some (Check costs address paths version)) = costs ∷ paths
names_of (Some (Value word)) = []
names_of (Some (Wire word)) = []
names_of (Some (Gen seed count)) = []
names_of (Some (Trace costs file)) = costs ∷ file ∷ []
names_of (Some (Audit costs file trace report)) = costs ∷ file ∷ trace ∷ report ∷ []
names_of (Some (Root costs file)) = costs ∷ file ∷ []
names_of (Some (Prove costs file number)) = costs ∷ file ∷ []
names_of (Some (Verify root key value sides)) = []

-- ---- flags, and `--`

abbrev pub is_end : List ℕ → Bool
is_end word = bytes_eq word (codes "--")

-- the flag that a word is
abbrev pub flag_of : List ℕ → Option Flag
flag_of word =
    if bytes_eq word (codes "--state") then Some State
    else (if bytes_eq word (codes "--clarity2") then Some Clarity2 else None)

abbrev pub is_flag : List ℕ → Bool
is_flag word = is_some (flag_of word)

-- it begins with `-`, and isn't `-` alone
abbrev pub is_dashed : List ℕ → Bool
is_dashed [] = false
is_dashed (b ∷ []) = false
is_dashed (b ∷ c ∷ bytes) = b == 45

-- each word before the first `--` that is dashed is a flag
abbrev pub keeps_rule : List (List ℕ) → Bool
keeps_rule [] = true
keeps_rule (word ∷ words) = if is_end word then true else (if is_dashed word && not (is_flag word) then false else keeps_rule words)

-- a flag, where there is one, before others
abbrev pub flag_before : Option Flag → List Flag → List Flag
flag_before None flags = flags
flag_before (Some flag) flags = flag ∷ flags

-- the flags before the first `--`, in their order
abbrev pub flags_in : List (List ℕ) → List Flag
flags_in [] = []
flags_in (word ∷ words) = if is_end word then [] else flag_before (flag_of word) (flags_in words)

-- the only flag, or that there is none; none where there are more, which no command takes
abbrev pub only_flag : List Flag → Option (Option Flag)
only_flag [] = Some None
only_flag (flag ∷ []) = Some (Some flag)
only_flag (flag ∷ other ∷ flags) = None

-- the words but the flags and the first `--`, behind which each word is positional
abbrev pub positional : List (List ℕ) → List (List ℕ)
positional [] = []
positional (word ∷ words) = if is_end word then words else (if is_flag word then positional words else word ∷ positional words)

-- the positional words, and the flag where there is one; none where the rule on dashed words is broken
abbrev pub line_in : List (List ℕ) → Option (List (List ℕ) × Option Flag)
line_in words = if keeps_rule words then option_map (λ flag. (positional words, flag)) (only_flag (flags_in words)) else None

-- ---- the table of commands, as they are without a flag

-- a command with one word
abbrev pub command_with : List ℕ → List ℕ → Option Command
command_with name word =
    if bytes_eq name (codes "value") then Some (Value word)
    else (if bytes_eq name (codes "wire") then Some (Wire word) else None)

abbrev pub check_under : List ℕ → List (List ℕ) → Result AddressParts C32Refusal → Option Command
check_under costs paths (Ok address) = if are_sources paths then Some (Check costs address paths One) else None
check_under costs paths (Err refusal) = None

-- `run` with two words, and with more
abbrev pub run_of : List ℕ → List ℕ → List (List ℕ) → Option Command
run_of costs file [] = Some (Run costs file false)
run_of costs file (word ∷ words) = None

-- `gen` with two words, and with more
abbrev pub gen_by : Option ℕ → Option ℕ → Option Command
gen_by (Some seed) (Some count) = Some (Gen seed count)
gen_by (Some seed) None = None
gen_by None count = None

abbrev pub gen_of : List ℕ → List ℕ → List (List ℕ) → Option Command
gen_of seed count [] = gen_by (number_within seed (2 ^ 64 - 1)) (number_within count 99999)
gen_of seed count (word ∷ words) = None

-- `trace` with two words, and with more
abbrev pub trace_of : List ℕ → List ℕ → List (List ℕ) → Option Command
trace_of costs file [] = Some (Trace costs file)
trace_of costs file (word ∷ words) = None

-- `audit` with four words, and with fewer or more
abbrev pub audit_of : List ℕ → List ℕ → List (List ℕ) → Option Command
audit_of costs file [] = None
audit_of costs file (trace ∷ []) = None
audit_of costs file (trace ∷ report ∷ []) = Some (Audit costs file trace report)
audit_of costs file (trace ∷ report ∷ word ∷ words) = None

-- `root` with two words, and with more
abbrev pub root_of : List ℕ → List ℕ → List (List ℕ) → Option Command
root_of costs file [] = Some (Root costs file)
root_of costs file (word ∷ words) = None

-- `prove` with three words, of which the last is a number, and with fewer or more
abbrev pub prove_of : List ℕ → List ℕ → List (List ℕ) → Option Command
prove_of costs file [] = None
prove_of costs file (number ∷ []) = option_map (λ n. Prove costs file n) (number_within number (2 ^ 32 - 1))
prove_of costs file (number ∷ word ∷ words) = None

-- a key has less than 2^32 bytes, of two digits each, and a path at most 64 sides
abbrev pub are_short : List ℕ → List (List ℕ) → Bool
are_short key sides = nat_lt (length key) (2 ^ 33) && nat_le (length sides) 64

-- `verify` with at least three words, and with two
abbrev pub verify_of : List ℕ → List ℕ → List (List ℕ) → Option Command
verify_of root key [] = None
verify_of root key (value ∷ sides) = if are_short key sides then Some (Verify root key value sides) else None

-- the commands of a state's root
abbrev pub root_command : List ℕ → List ℕ → List ℕ → List (List ℕ) → Option Command
root_command name first second words =
    if bytes_eq name (codes "root") then root_of first second words
    else (if bytes_eq name (codes "prove") then prove_of first second words
    else (if bytes_eq name (codes "verify") then verify_of first second words else None))

-- a command with more words
abbrev pub command_with_words : List ℕ → List ℕ → List ℕ → List (List ℕ) → Option Command
command_with_words name first second words =
    if bytes_eq name (codes "call") then Some (Call first second words One)
    else (if bytes_eq name (codes "check") then check_under first words (decoded second)
    else (if bytes_eq name (codes "run") then run_of first second words
    else (if bytes_eq name (codes "gen") then gen_of first second words
    else (if bytes_eq name (codes "trace") then trace_of first second words
    else (if bytes_eq name (codes "audit") then audit_of first second words
    else root_command name first second words)))))

-- the command of the first word, where it has its number of words
abbrev pub command_of : List (List ℕ) → Option Command
command_of [] = None
command_of (name ∷ []) = None
command_of (name ∷ word ∷ []) = command_with name word
command_of (name ∷ first ∷ second ∷ words) = command_with_words name first second words

-- ---- flags of commands

-- a command with a flag: `run` alone takes `--state`, and `call` and `check` alone take `--clarity2`
abbrev pub with_flag : Flag → Command → Option Command
with_flag State (Run costs file state) = Some (Run costs file true)
with_flag Clarity2 (Call file function args version) = Some (Call file function args Two)
with_flag Clarity2 (Check costs address paths version) = Some (Check costs address paths Two)
with_flag flag command = None

-- the command of positional words, with a flag or without
abbrev pub command_in : Option Flag → List (List ℕ) → Option Command
command_in None words = command_of words
command_in (Some flag) words = option_and_then (with_flag flag) (command_of words)

abbrev pub command_on : Option (List (List ℕ) × Option Flag) → Option Command
command_on None = None
command_on (Some line) = command_in line.1 line.0

-- the command that the words give, where they are of the table
abbrev pub taken : List (List ℕ) → Option Command
taken words = command_on (line_in words)

-- what the table says of a command's words: the sources of `check` have names that differ, and the words of `verify` are short
abbrev pub IsOfTable : Option Command → Type 0
IsOfTable (Some (Check costs address paths version)) = are_sources paths ≡ true
IsOfTable (Some (Verify root key value sides)) = are_short key sides ≡ true
IsOfTable command = Unit {0}

-- ---- what the code compares

-- the same texts in the same order
abbrev pub same_texts : List (List ℕ) → List (List ℕ) → Bool
same_texts [] [] = true
same_texts [] (y ∷ ys) = false
same_texts (x ∷ xs) [] = false
same_texts (x ∷ xs) (y ∷ ys) = bytes_eq x y && same_texts xs ys
