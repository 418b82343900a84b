-- What a transaction file reads as has parts within the limits.
use Rattle.std.proofs.Common.{◌≡◌, ℕ, ◌+◌, ◌<◌, ◌^◌, ◌++◌, ◌==◌, ◌&&◌, Bool, true, false, List, [], ◌∷◌, length, take, drop, Option, Some, None, Result, Ok, Err, refl, ap}
use Rattle.std.specs.Prelude.{IfOk, IfSome, codes, nat_le, nat_lt, position, option_and_then, if◌then◌else◌}
use Rattle.std.specs.List.{All}
use Rattle.std.specs.Str.{bytes_eq, chars}
use Rattle.std.proofs.lemmas.Bool.{leb-true, and_parts}
use Rattle.std.proofs.lemmas.List.Elements.{All-nil, All-push}
use Rattle.std.proofs.lemmas.Result.{IfOk-at_ok}
use Rattle.serde_json.specs.Data.{Data, Items, no_items, item}
use Rattle.serde_json.specs.Find.{as_str, as_array}
use Rattle.cl_c32.specs.Address.{AddressParts, IsAddress}
use Rattle.cl_c32.specs.Codec.{decoded}
use Rattle.cl_c32.specs.ContractName.{IsContractName, fits_pattern}
use Rattle.cl_c32.specs.declared.codec.C32Refusal.{C32Refusal}
use Rattle.cl_c32.specs.declared.principal.Principal.{Principal}
use Rattle.cl_c32.proofs.RoundTrip.{address_text-decoded}
use Rattle.cl_sexpr.specs.Leaf.{contract_name, standard_principal, contract_principal, principal_by, principal_of}
use Rattle.cl_values.specs.Tree.{Tree}
use Rattle.cl_values.specs.Valid.{IsVal, IsPrincipal}
use Rattle.cl_text.specs.Parsed.{Reading, Stands, Broken, NotALiteral, TooDeep, TooLarge, Parses}
use Rattle.cl_forms.specs.declared.version.Version.{Version}
use Rattle.cl_json.specs.Json.{json_of}
use Rattle.cl_file.specs.Paths.{below, and_then, said, each_from}
use Rattle.cl_file.specs.Objects.{Values, value_in, Texts, Table, plain, needed, optional, and_more, no_more, object_by, sole}
use Rattle.cl_file.specs.Kinds.{whole, clarity, found_address, address, principal, only_contract, contract, short_name, deployed_name, literal, literals_from, literals, an_amount, some_literals}
use Rattle.cl_file.specs.Names.{entry_kind}
use Rattle.cl_file.specs.Entries.{Terms, terms_and, block_table, deploy_table, call_table, common_in, block, deployment, deploy, call, entry_by, entry, rising, entry_after, entry_at, height_of}
use Rattle.cl_file.specs.Files.{tested, total, unless_held, new_holder, holds, holder_at, has_version, items, epochs_of, entries_of, file_by, members_of, second_members_of, is_object, file_in, json_file, file_of, count}
use Rattle.cl_file.specs.declared.entry.Entry.{Entry}
use Rattle.cl_file.specs.declared.entry.Entry.TheVariants as entry_
use Rattle.cl_file.specs.declared.refusal.TxRefusal.TheVariants.{NotJson, TooMany, GenesisTooBig, Version as BadVersion, HeightFalls}
use Rattle.cl_node_sound.specs.Sound.{HasParts, FileHasParts}
use Rattle.cl_results.specs.Laws.{TextsHaveValues, FilesHaveParts}
use Rattle.cl_results.proofs.JsonNumbers.{DataFits, ItemsFit, either_has, chained_has, anything, json_fits, array_fits, whole_fits}
use Rattle.cl_results.proofs.ReadParts.{next_has, behind_has, said_has, each_has, KindHas, MemberHas, TableHas, plain_has, needed_has, any_member, any_table, more_has, object_has, sole_fits}

-- ---- texts of addresses, names and principals

name_valid : (bytes : List ℕ) → IfSome (contract_name bytes) IsContractName
name_valid bytes = either_has IsContractName (fits_pattern bytes && nat_le (length bytes) 128) (Some bytes) None
    (λ e. let both = and_parts (fits_pattern bytes) (nat_le (length bytes) 128) e in record { pattern = both.0; within = leb-true (length bytes) 128 both.1 }) tt

standing_valid : (text : List ℕ) (r : Result AddressParts C32Refusal) → decoded text ≡ r → IfSome (standard_principal r) IsPrincipal
standing_valid text (Ok a) e = ((address_text-decoded text a e).0, tt)
standing_valid text (Err f) e = tt

contract_valid : (text : List ℕ) (r : Result AddressParts C32Refusal) (o : Option (List ℕ)) → decoded text ≡ r → IfSome o IsContractName → IfSome (contract_principal r o) IsPrincipal
contract_valid text (Ok a) (Some name) e h = ((address_text-decoded text a e).0, h)
contract_valid text (Ok a) None e h = tt
contract_valid text (Err f) (Some name) e h = tt
contract_valid text (Err f) None e h = tt

principal_by_valid : (text : List ℕ) (o : Option ℕ) → IfSome (principal_by text o) IsPrincipal
principal_by_valid text None = standing_valid text (decoded text) refl
principal_by_valid text (Some dot) = contract_valid (take dot text) (decoded (take dot text)) (contract_name (drop (dot + 1) text)) refl (name_valid (drop (dot + 1) text))

principal_valid : (text : List ℕ) → IfSome (principal_of text) IsPrincipal
unfolding principal_of
principal_valid text = principal_by_valid text (position (λ c. c == 46) text)

address_valid : (text : List ℕ) → IfSome (found_address (decoded text)) IsAddress
address_valid text = by (decoded text) refl
  where
    by : (r : Result AddressParts C32Refusal) → decoded text ≡ r → IfSome (found_address r) IsAddress
    by (Ok a) e = (address_text-decoded text a e).0
    by (Err f) e = tt

short_valid : (text : List ℕ) → IfSome (short_name text) IsContractName
short_valid text = either_has IsContractName (nat_le (length text) 40) (contract_name text) None (λ e. name_valid text) tt

-- one of two, and what holds of both
either_is : {A : Type 0} (b : Bool) (x y : A) (P : A → Type 0) → P x → P y → P (if b then x else y)
either_is true x y P h k = h
either_is false x y P h k = k

-- ---- what members say

text_has : {A : Type 0} (P : A → Type 0) (f : List ℕ → Option A) → ((text : List ℕ) → IfSome (f text) P) → (d : Data) → IfSome (option_and_then f (as_str d)) P
text_has P f so d = chained_has f (as_str d) (λ text. Unit {0}) P (λ text h. so text) (anything (as_str d))

address_has : (d : Data) → IfSome (address d) IsAddress
address_has d = text_has IsAddress (λ text. found_address (decoded text)) address_valid d

principal_has : (d : Data) → IfSome (principal d) IsPrincipal
principal_has d = text_has IsPrincipal principal_of principal_valid d

deployed_has : (d : Data) → IfSome (deployed_name d) IsContractName
deployed_has d = text_has IsContractName short_name short_valid d

only_contract_has : (a : AddressParts) (o : Option (List ℕ)) → IsPrincipal (record { address = a; contract = o }) → IfSome (only_contract (record { address = a; contract = o })) (λ c. IsPrincipal c.principal)
only_contract_has a None h = tt
only_contract_has a (Some name) h = h

contract_has : (d : Data) → IfSome (contract d) (λ c. IsPrincipal c.principal)
contract_has d = chained_has only_contract (principal d) IsPrincipal (λ c. IsPrincipal c.principal) (λ p h. only_contract_has p.address p.contract h) (principal_has d)

module _ (values : Values) (right : (text : List ℕ) → IfSome (values text) IsVal) where
  literals_from_has : (done : List Tree) (ds : Items) → All IsVal done → IfSome (literals_from values done ds) (All IsVal)
  literals_from_has done no_items all = all
  literals_from_has done (item d ds) all =
      chained_has (λ v. literals_from values (done ++ v ∷ []) ds) (literal values d) IsVal (All IsVal)
      (λ v h. literals_from_has (done ++ v ∷ []) ds (All-push IsVal done v all h)) (text_has IsVal values right d)

  literals_has : (d : Data) → IfSome (literals values d) (All IsVal)
  literals_has d = chained_has (literals_from values []) (as_array d) (λ ds. Unit {0}) (All IsVal) (λ ds h. literals_from_has [] ds (All-nil IsVal)) (anything (as_array d))

  -- ---- entries

  abbrev AfterName : Table (List ℕ × Terms (Option Version × Unit {0}))
  AfterName = and_more (needed (plain as_str)) (terms_and (and_more (optional (plain clarity)) no_more))

  abbrev AfterFunction : Table (List Tree × Terms (Unit {0}))
  AfterFunction = and_more (needed some_literals) (terms_and no_more)

  abbrev BlockParts : ℕ × Unit {0} → Type 0
  BlockParts r = (r.0 < 2 ^ 64) × Unit {0}

  block_has : KindHas values HasParts block
  unfolding block
  block_has path d fits =
      next_has (object_by _ block_table values path d) (λ r. Ok (entry_.Block r.0)) BlockParts HasParts
      (object_has values _ block_table BlockParts
      (more_has values (needed (plain whole)) no_more (λ n. n < 2 ^ 64) (λ u. Unit {0}) (needed_has values (plain whole) (λ n. n < 2 ^ 64) (plain_has values whole (λ n. n < 2 ^ 64) whole_fits)) (any_table values no_more))
      path d fits) (λ r h. h.0)

  sender_has : MemberHas values IsAddress (needed (plain address))
  sender_has = needed_has values (plain address) IsAddress (plain_has values address IsAddress (λ d fits. address_has d))

  abbrev NameParts : List ℕ × (List ℕ × Terms (Option Version × Unit {0})) → Type 0
  NameParts r = IsContractName r.0 × Unit {0}

  abbrev DeployParts : AddressParts × (List ℕ × (List ℕ × Terms (Option Version × Unit {0}))) → Type 0
  DeployParts r = IsAddress r.0 × NameParts r.1

  deploy_has : KindHas values HasParts deploy
  unfolding deploy
  deploy_has path d fits =
      next_has (object_by _ deploy_table values path d) (λ r. Ok (deployment r.0 r.1.0 r.1.1.0 r.1.1.1)) DeployParts HasParts
      (object_has values _ deploy_table DeployParts
      (more_has values (needed (plain address)) (and_more (needed (plain deployed_name)) AfterName) IsAddress NameParts sender_has
      (more_has values (needed (plain deployed_name)) AfterName IsContractName (λ r. Unit {0})
      (needed_has values (plain deployed_name) IsContractName (plain_has values deployed_name IsContractName (λ e f. deployed_has e))) (any_table values AfterName)))
      path d fits) (λ r h. (h.0, h.1.0))

  abbrev ArgumentParts : List Tree × Terms (Unit {0}) → Type 0
  ArgumentParts r = All IsVal r.0 × Unit {0}

  abbrev FunctionParts : List ℕ × (List Tree × Terms (Unit {0})) → Type 0
  FunctionParts r = Unit {0} × ArgumentParts r.1

  arguments_have : KindHas values (All IsVal) some_literals
  arguments_have path d fits = said_has (All IsVal) path (literals values d) (literals_has d)

  function_has : TableHas values FunctionParts (and_more (needed (plain as_str)) AfterFunction)
  function_has =
      more_has values (needed (plain as_str)) AfterFunction (λ name. Unit {0}) ArgumentParts (any_member values (needed (plain as_str)))
      (more_has values (needed some_literals) (terms_and no_more) (All IsVal) (λ r. Unit {0}) (needed_has values some_literals (All IsVal) arguments_have) (any_table values (terms_and no_more)))

  call_has : KindHas values HasParts call
  unfolding call
  call_has path d fits =
      next_has (object_by _ call_table values path d) (λ r. Ok (entry_.Call (common_in r.0 r.1.1.1.1) r.1.0.principal r.1.1.0 r.1.1.1.0))
      (λ r. IsAddress r.0 × (IsPrincipal r.1.0.principal × FunctionParts r.1.1)) HasParts
      (object_has values _ call_table (λ r. IsAddress r.0 × (IsPrincipal r.1.0.principal × FunctionParts r.1.1))
      (more_has values (needed (plain address)) (and_more (needed (plain contract)) (and_more (needed (plain as_str)) AfterFunction)) IsAddress (λ r. IsPrincipal r.0.principal × FunctionParts r.1) sender_has
      (more_has values (needed (plain contract)) (and_more (needed (plain as_str)) AfterFunction) (λ c. IsPrincipal c.principal) FunctionParts
      (needed_has values (plain contract) (λ c. IsPrincipal c.principal) (plain_has values contract (λ c. IsPrincipal c.principal) (λ e f. contract_has e))) function_has))
      path d fits) (λ r h. (h.0, h.1.0, h.1.1.1.0))

  -- an entry by the name of its one member
  entry_by_has : (name : List ℕ) → KindHas values HasParts (entry_by (entry_kind name))
  entry_by_has name path d fits =
      either_is (bytes_eq name (codes "deploy")) (entry_kind (codes "deploy")) (if bytes_eq name (codes "call") then entry_kind (codes "call") else (if bytes_eq name (codes "block") then entry_kind (codes "block") else entry_kind []))
      (λ k. IfOk (entry_by k values path d) HasParts) (deploy_has path d fits)
      (either_is (bytes_eq name (codes "call")) (entry_kind (codes "call")) (if bytes_eq name (codes "block") then entry_kind (codes "block") else entry_kind [])
      (λ k. IfOk (entry_by k values path d) HasParts) (call_has path d fits)
      (either_is (bytes_eq name (codes "block")) (entry_kind (codes "block")) (entry_kind []) (λ k. IfOk (entry_by k values path d) HasParts) (block_has path d fits) tt))

  entry_has : KindHas values HasParts entry
  unfolding entry
  entry_has path d fits = next_has (said path (sole d)) (λ p. entry_by (entry_kind p.0) values (below path p.0) p.1) (λ (p : List ℕ × Data). DataFits p.1) HasParts
      (said_has (λ (p : List ℕ × Data). DataFits p.1) path (sole d) (sole_fits d fits)) (λ p h. entry_by_has p.0 (below path p.0) p.1 h)

  rising_has : (height : ℕ) (path : List ℕ) (e : Entry) → HasParts e → IfOk (rising height path e) HasParts
  rising_has height path (entry_.Block h) parts = either_is (nat_lt h height) (Err (HeightFalls (chars (below path (codes "block/height"))))) (Ok (entry_.Block h)) (λ r. IfOk r HasParts) tt parts
  rising_has height path (entry_.Deploy c name source version) parts = parts
  rising_has height path (entry_.Call c p function args) parts = parts

  entry_at_has : (done : List Entry) (path : List ℕ) (d : Data) → DataFits d → IfOk (entry_at values done path d) HasParts
  unfolding entry_after
  entry_at_has done path d fits = next_has (entry values path d) (rising (height_of 0 done) path) HasParts HasParts (entry_has path d fits) (rising_has (height_of 0 done) path)

  -- ---- the file

  abbrev IsHolder : Principal × ℕ → Type 0
  IsHolder h = IsPrincipal h.0

  new_holder_has : (done : List (Principal × ℕ)) (d : Data) → IfSome (new_holder done d) IsPrincipal
  new_holder_has done d = chained_has (unless_held done) (principal d) IsPrincipal IsPrincipal (λ p h. by (holds done p) p h) (principal_has d)
    where
      by : (b : Bool) (p : Principal) → IsPrincipal p → IfSome (if b then None else Some p) IsPrincipal
      by true p h = tt
      by false p h = h

  holder_has : (done : List (Principal × ℕ)) (path : List ℕ) (d : Data) → DataFits d → IfOk (holder_at values done path d) IsHolder
  unfolding holder_at
  holder_has done path d fits =
      behind_has _ _ IsHolder (λ u.
      next_has (needed (plain (new_holder done)) values path (codes "principal") d) (λ p. and_then (needed an_amount values path (codes "stx") d) (λ n. Ok (p, n))) IsPrincipal IsHolder
      (needed_has values (plain (new_holder done)) IsPrincipal (plain_has values (new_holder done) IsPrincipal (λ e f. new_holder_has done e)) path (codes "principal") d fits) (λ p h.
      behind_has (needed an_amount values path (codes "stx") d) (λ n. Ok (p, n)) IsHolder (λ n. h)))

  entries_has : (ds : Items) → ItemsFit ds → IfOk (entries_of values ds) (All HasParts)
  unfolding entries_of
  entries_has ds fits = behind_has (tested (nat_le (count ds) 100000) (Err TooMany)) _ (All HasParts) (λ u. each_has HasParts (entry_at values) entry_at_has (codes "/entries") [] 0 ds fits (All-nil HasParts))

  file_by_has : (holders epochs entries : Items) → ItemsFit holders → ItemsFit entries → IfOk (file_by values holders epochs entries) FileHasParts
  unfolding file_by
  file_by_has holders epochs entries a b =
      next_has (each_from (holder_at values) (codes "/genesis") [] 0 holders) _ (All IsHolder) FileHasParts (each_has IsHolder (holder_at values) holder_has (codes "/genesis") [] 0 holders a (All-nil IsHolder)) (λ genesis are.
      behind_has (tested (nat_lt (total genesis) (2 ^ 128)) (Err GenesisTooBig)) _ FileHasParts (λ u.
      behind_has (epochs_of values epochs) _ FileHasParts (λ begun.
      next_has (entries_of values entries) _ (All HasParts) FileHasParts (entries_has entries b) (λ all have. record { holders = are; entries = have }))))

  items_have : (name : List ℕ) (d : Data) → DataFits d → IfOk (needed items values [] name d) ItemsFit
  items_have name d fits = needed_has values items ItemsFit (λ path e f. said_has ItemsFit path (as_array e) (array_fits e f)) [] name d fits

  members_have : (d : Data) → DataFits d → IfOk (members_of values d) FileHasParts
  unfolding members_of
  members_have d fits =
      behind_has _ _ FileHasParts (λ u.
      next_has (needed items values [] (codes "genesis") d) _ ItemsFit FileHasParts (items_have (codes "genesis") d fits) (λ holders a.
      next_has (needed items values [] (codes "entries") d) (λ entries. file_by values holders no_items entries) ItemsFit FileHasParts (items_have (codes "entries") d fits) (λ entries b.
      file_by_has holders no_items entries a b)))

  second_members_have : (d : Data) → DataFits d → IfOk (second_members_of values d) FileHasParts
  unfolding second_members_of
  second_members_have d fits =
      behind_has _ _ FileHasParts (λ u.
      next_has (needed items values [] (codes "genesis") d) _ ItemsFit FileHasParts (items_have (codes "genesis") d fits) (λ holders a.
      behind_has (needed items values [] (codes "epochs") d) _ FileHasParts (λ epochs.
      next_has (needed items values [] (codes "entries") d) (λ entries. file_by values holders epochs entries) ItemsFit FileHasParts (items_have (codes "entries") d fits) (λ entries b.
      file_by_has holders epochs entries a b))))

  file_in_has : (d : Data) → DataFits d → IfOk (file_in values d) FileHasParts
  unfolding file_in
  file_in_has d fits =
      either_is (is_object d) (if has_version 1 d then members_of values d else (if has_version 2 d then second_members_of values d else Err BadVersion)) (Err NotJson) (λ r. IfOk r FileHasParts)
      (either_is (has_version 1 d) (members_of values d) (if has_version 2 d then second_members_of values d else Err BadVersion) (λ r. IfOk r FileHasParts) (members_have d fits)
      (either_is (has_version 2 d) (second_members_of values d) (Err BadVersion) (λ r. IfOk r FileHasParts) (second_members_have d fits) tt)) tt

  json_file_has : (json : Option Data) → IfSome json DataFits → IfOk (json_file values json) FileHasParts
  json_file_has (Some d) fits = file_in_has d fits
  json_file_has None fits = tt

  file_has : (bytes : List ℕ) → IfOk (file_of values bytes) FileHasParts
  unfolding file_of
  file_has bytes = json_file_has (json_of bytes) (json_fits bytes)

-- by the laws of texts: each has one outcome, and what it spells is within the limits
module _ (valid : TextsHaveValues)
    (one : (text : List ℕ) (a b : Reading) → Parses text a → Parses text b → a ≡ b)
    (each : (text : List ℕ) → (outcome : Reading) × Parses text outcome) where
  abbrev texts : Texts
  texts = record {
    of = λ text. value_in (each text).0;
    right = λ text outcome parses. ap value_in (one text (each text).0 outcome (each text).1 parses);
  }

  values_right : (text : List ℕ) → IfSome (value_in (each text).0) IsVal
  values_right text = by (each text).0 (each text).1
    where
      by : (outcome : Reading) → Parses text outcome → IfSome (value_in outcome) IsVal
      by (Stands v) parses = valid text v parses
      by (Broken b) parses = tt
      by (NotALiteral span) parses = tt
      by (TooDeep span) parses = tt
      by (TooLarge span) parses = tt

  pub files_have : FilesHaveParts
  files_have bytes file reads = IfOk-at_ok FileHasParts (reads texts) (file_has texts.of values_right bytes)
