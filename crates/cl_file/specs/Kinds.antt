-- What the values of members say.
use Rattle.std.specs.Prelude.{ℕ, ◌++◌, ◌==◌, ◌&&◌, nat_le, List, [], ◌∷◌, length, codes, Option, Some, None, option_map, option_and_then, Result, Ok, Err, if◌then◌else◌}
use Rattle.std.specs.Str.{bytes_eq}
use Rattle.serde_json.specs.Data.{Data, Items, no_items, item}
use Rattle.serde_json.specs.Find.{as_str, as_array, as_number, as_u64}
use Rattle.cl_types.specs.Name.{fits_pattern}
use Rattle.cl_c32.specs.Address.{AddressParts}
use Rattle.cl_c32.specs.Codec.{decoded}
use Rattle.cl_c32.specs.declared.codec.C32Refusal.{C32Refusal}
use Rattle.cl_c32.specs.declared.principal.Principal.{Principal}
use Rattle.cl_sexpr.specs.Leaf.{contract_name, principal_of}
use Rattle.cl_values.specs.Tree.{Tree, UintV}
use Rattle.cl_forms.specs.declared.version.Version.{Version}
use Rattle.cl_forms.specs.declared.version.Version.TheVariants.{One, Two}
use Rattle.cl_post.specs.declared.condition.Mode.{Mode}
use Rattle.cl_post.specs.declared.condition.Mode.TheVariants.{Allow, Deny}
use Rattle.cl_post.specs.declared.condition.Code5.{Code5}
use Rattle.cl_post.specs.declared.condition.Code5.TheVariants.{Eq, Gt, Ge, Lt, Le}
use Rattle.cl_file.specs.Paths.{said}
use Rattle.cl_file.specs.Objects.{Values, Kind}
use Rattle.cl_file.specs.declared.kind.Contract.{Contract}

-- a whole number of 64 bits
abbrev pub whole : Data → Option ℕ
whole d = option_and_then as_u64 (as_number d)

abbrev pub mode_text : List ℕ → Option Mode
mode_text t = if bytes_eq t (codes "allow") then Some Allow else (if bytes_eq t (codes "deny") then Some Deny else None)

abbrev pub mode : Data → Option Mode
mode d = option_and_then mode_text (as_str d)

abbrev pub version_of : ℕ → Option Version
version_of n = if n == 1 then Some One else (if n == 2 then Some Two else None)

-- the number of a version
abbrev pub clarity : Data → Option Version
clarity d = option_and_then version_of (whole d)

abbrev pub code_text : List ℕ → Option Code5
code_text t =
    if bytes_eq t (codes "eq") then Some Eq else (if bytes_eq t (codes "gt") then Some Gt
    else (if bytes_eq t (codes "ge") then Some Ge else (if bytes_eq t (codes "lt") then Some Lt
    else (if bytes_eq t (codes "le") then Some Le else None))))

abbrev pub code : Data → Option Code5
code d = option_and_then code_text (as_str d)

abbrev pub one_more : Option ℕ → Option (List ℕ) → Option (List ℕ)
one_more first rest = option_and_then (λ a. option_map (λ more. a ∷ more) rest) first

abbrev pub five_in : Items → Option (List ℕ)
five_in (item a (item b (item c (item d (item e no_items))))) = one_more (whole a) (one_more (whole b) (one_more (whole c) (one_more (whole d) (one_more (whole e) (Some [])))))
five_in ds = None

-- five whole numbers, in the order of dimensions
abbrev pub five : Data → Option (List ℕ)
five d = option_and_then five_in (as_array d)

abbrev pub found_address : Result AddressParts C32Refusal → Option AddressParts
found_address (Ok a) = Some a
found_address (Err refusal) = None

-- the text of an address
abbrev pub address : Data → Option AddressParts
address d = option_and_then (λ text. found_address (decoded text)) (as_str d)

-- the text of a principal
abbrev pub principal : Data → Option Principal
principal d = option_and_then principal_of (as_str d)

abbrev pub only_contract : Principal → Option Contract
only_contract p = option_map (λ name. record { principal = p }) p.contract

-- the text of a contract's principal
abbrev pub contract : Data → Option Contract
contract d = option_and_then only_contract (principal d)

abbrev pub token_name : List ℕ → Option (List ℕ)
token_name text = if fits_pattern text && nat_le (length text) 128 then Some text else None

-- a name
abbrev pub token : Data → Option (List ℕ)
token d = option_and_then token_name (as_str d)

abbrev pub short_name : List ℕ → Option (List ℕ)
short_name text = if nat_le (length text) 40 then contract_name text else None

-- a contract's name of at most 40 bytes
abbrev pub deployed_name : Data → Option (List ℕ)
deployed_name d = option_and_then short_name (as_str d)

-- ---- values

abbrev pub uint_in : Tree → Option ℕ
uint_in v = elim v [ UintV n ↦ Some n | _ ↦ None ]

-- the text of a literal
abbrev pub literal : Values → Data → Option Tree
literal values d = option_and_then values (as_str d)

-- the text of a uint
abbrev pub amount : Values → Data → Option ℕ
amount values d = option_and_then uint_in (literal values d)

-- the values of texts, behind those that were read
abbrev pub literals_from : Values → List Tree → Items → Option (List Tree)
literals_from values done no_items = Some done
literals_from values done (item d ds) = option_and_then (λ v. literals_from values (done ++ v ∷ []) ds) (literal values d)

-- texts of literals
abbrev pub literals : Values → Data → Option (List Tree)
literals values d = option_and_then (literals_from values []) (as_array d)

abbrev pub a_literal : Kind Tree
a_literal values path d = said path (literal values d)

abbrev pub an_amount : Kind ℕ
an_amount values path d = said path (amount values d)

abbrev pub some_literals : Kind (List Tree)
some_literals values path d = said path (literals values d)
