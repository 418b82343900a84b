-- Shapes of natives whose first argument is a name that isn't evaluated.
use Rattle.std.proofs.Common.{◌≡◌, ℕ, suc, ◌+◌, ◌≤◌, Bool, true, false, List, [], ◌∷◌, length, drop, Option, Some, None, Result, Ok, Err, refl, ap, sym, subst, ◌∙◌, arith}
use Rattle.std.specs.Prelude.{not, option_map, if◌then◌else◌}
use Rattle.std.specs.List.{list_any}
use Rattle.std.specs.Global.{Vec}
use Rattle.cl_types.specs.Types.{PlainType, OptionalType, size_of}
use Rattle.cl_types.specs.declared.fault.Fault.{Fault}
use Rattle.cl_types.specs.declared.fault.Fault.TheVariants.{Refused}
use Rattle.cl_sexpr.specs.declared.sexpr.Span.{Span}
use Rattle.cl_sexpr.specs.declared.rule.Rule.{Rule}
use Rattle.cl_sexpr.specs.declared.rule.Rule.TheVariants.{ArgumentCount, BadBinding, NoSuchVariable, NoSuchMap, NoSuchToken}
use Rattle.cl_sexpr.specs.declared.rule.Break.{Break}
use Rattle.cl_sexpr.specs.Tree.{Tree, LeafAt, ListAt, TupleAt, Named, Signed, Unsigned, Bytes, Ascii, Unicode, Standing, Local, forest, forest_depth}
use Rattle.cl_forms.specs.Heads.{Row, row_of, takes}
use Rattle.cl_forms.specs.Items.{atom_of}
use Rattle.cl_rules.specs.Faults.{shape_rules, when}
use Rattle.cl_rules.specs.Bills.{Charge, Both}
use Rattle.cl_rules.specs.Context.{Context, Names, named_in, same}
use Rattle.cl_rules.specs.Verdicts.{Found, Verdict, types_of, sizes_of, number_at, sum_of}
use Rattle.cl_rules.specs.Shapes.{Shape, parts, First, Absent, NoName, NoSuch, There, there_or_not, first_named, is_no_such, named_faults, named_shape}
use Rattle.cl_rules.specs.DataShapes.{if_fungible}
use Rattle.cl_rules.specs.Table.{head_shape}
use Rattle.cl_rules.specs.Judging.{judged}
use Rattle.cl_code.specs.declared.op.Word.{Word}
use Rattle.cl_code.specs.declared.op.Op.TheVariants.{OnName}
use Rattle.cl_code.specs.declared.op.NameNative.{NameNative}
use Rattle.cl_code.specs.declared.op.NameNative.TheVariants.{Get, VarGet, VarSet, MapGet, MapSet, MapInsert, MapDelete, FtBalance, FtSupply, NftOwner, MintFt, BurnFt, SendFt, MintNft, BurnNft, SendNft}
use Rattle.cl_code.specs.OpNames.{name_head}
use Rattle.cl_code.specs.Nodes.{has_parts}
use Rattle.cl_code.specs.Expression.{word}
use Rattle.cl_typing.specs.declared.concluding.Checked.{Checked}
use Rattle.cl_typing.specs.declared.concluding.Concluded.{Concluded}
use Rattle.cl_typing.specs.Verdicts.{first_rule, texts_of, ConcludesRow}
use Rattle.cl_judging.specs.declared.context.Context.{Context as CodeContext}
use Rattle.cl_judging.specs.Seen.{Shows}
use Rattle.cl_judging.specs.Walking.{Finds, judged_as, ChecksAs, ChecksAll, ChecksHead, FinishesIn}
use Rattle.cl_judging.specs.Named.{Given, Key, Variable, MapOf, Fungible, NonFungible, Sort, Keys, Variables, Maps, Fungibles, NonFungibles, sort_of, map_given, given_of, given_in, missing, missing_rule, name_row, name_verdict, named_as, JudgesNamed}
use Rattle.cl_judging.proofs.Lists.{shape_fails, parts_fail, parts_finish, parts_count}

-- ---- verdicts

pub named_judged : (native : NameNative) (given : Given) (cs : List Checked) (result : Result Concluded (Fault Rule)) → ConcludesRow (name_row native given) 0 cs result → JudgesNamed native given cs result
named_judged VarGet (Variable t) cs result h fs same = h (Both (Charge (row_of (name_head VarGet)).cost (size_of t)) (sum_of fs)) fs same
named_judged MapGet (MapOf k v) cs result h fs same = h (Both (Charge (row_of (name_head MapGet)).cost (sizes_of (types_of fs) + size_of (OptionalType v))) (sum_of fs)) fs same
named_judged native given cs result h fs same = h (Both (Charge (row_of (name_head native)).cost (number_at (row_of (name_head native)).cost (types_of fs))) (sum_of fs)) fs same

-- ---- the same shapes, checked the same

pub checks_same : (c : CodeContext) (s t : Context → Shape) (at : Span) (deep : ℕ) (result : Result Checked (Fault Break)) → ((G : Context) → Shows c G → s G ≡ t G) → ChecksAs c t at deep result → ChecksAs c s at deep result
checks_same c s t at deep result same h G d shows enough = subst (λ (u : Shape). Finds G u (judged_as (judged d G) u at) result) (sym (same G shows)) (h G d shows enough)

-- ---- what stands first

abbrev mapped_first : {A : Type 0} → (A → Given) → First A → First Given
mapped_first f Absent = Absent
mapped_first f NoName = NoName
mapped_first f NoSuch = NoSuch
mapped_first f (There a) = There (f a)

there_mapped : {A : Type 0} (f : A → Given) (o : Option A) → there_or_not (option_map f o) ≡ mapped_first f (there_or_not o)
there_mapped f None = refl
there_mapped f (Some a) = refl

first_mapped : {A : Type 0} (f : A → Given) (find : List ℕ → Option A) (es : List Tree) → first_named (λ x. option_map f (find x)) es ≡ mapped_first f (first_named find es)
first_mapped f find [] = refl
first_mapped f find (LeafAt (Named x) s ∷ es) = there_mapped f (find x)
first_mapped f find (LeafAt (Signed z) s ∷ es) = refl
first_mapped f find (LeafAt (Unsigned n) s ∷ es) = refl
first_mapped f find (LeafAt (Bytes n) s ∷ es) = refl
first_mapped f find (LeafAt (Ascii n) s ∷ es) = refl
first_mapped f find (LeafAt (Unicode n) s ∷ es) = refl
first_mapped f find (LeafAt (Standing n) s ∷ es) = refl
first_mapped f find (LeafAt (Local n) s ∷ es) = refl
first_mapped f find (ListAt fs s ∷ es) = refl
first_mapped f find (TupleAt ps s ∷ es) = refl

pub no_name_first : {A : Type 0} (find : List ℕ → Option A) (e : Tree) (rest : List Tree) → atom_of e ≡ None → first_named find (e ∷ rest) ≡ NoName
no_name_first find (LeafAt (Named x) s) rest h = absurd cc
no_name_first find (LeafAt (Signed z) s) rest h = refl
no_name_first find (LeafAt (Unsigned n) s) rest h = refl
no_name_first find (LeafAt (Bytes n) s) rest h = refl
no_name_first find (LeafAt (Ascii n) s) rest h = refl
no_name_first find (LeafAt (Unicode n) s) rest h = refl
no_name_first find (LeafAt (Standing n) s) rest h = refl
no_name_first find (LeafAt (Local n) s) rest h = refl
no_name_first find (ListAt f s) rest h = refl
no_name_first find (TupleAt ps s) rest h = refl

-- ---- from the shapes of the table to the one shape

module _ (row : Row) (B : Names) (es : List Tree) (w : Given → List Found → Verdict) where
  abbrev as_one : Sort → First Given → Shape
  as_one sort first = named_shape (missing sort (named_faults row es first) (is_no_such first)) first w B es

  key_one : (v : List ℕ → List Found → Verdict) → ((k : List ℕ) → v k ≡ w (Key k)) → (first : First (List ℕ)) → named_shape (named_faults row es first) first v B es ≡ as_one Keys (mapped_first Key first)
  key_one v same Absent = refl
  key_one v same NoName = refl
  key_one v same NoSuch = refl
  key_one v same (There k) = ap (λ (u : List Found → Verdict). named_shape (named_faults row es (There k)) (There k) (λ _. u) B es) (same k)

  variable_one : (v : PlainType → List Found → Verdict) → ((t : PlainType) → v t ≡ w (Variable t)) → (first : First PlainType) → named_shape (record (named_faults row es first) { no_such_variable = is_no_such first }) first v B es ≡ as_one Variables (mapped_first Variable first)
  variable_one v same Absent = refl
  variable_one v same NoName = refl
  variable_one v same NoSuch = refl
  variable_one v same (There t) = ap (λ (u : List Found → Verdict). named_shape (record (named_faults row es (There t)) { no_such_variable = false }) (There t) (λ _. u) B es) (same t)

  map_one : (v : PlainType × PlainType → List Found → Verdict) → ((m : PlainType × PlainType) → v m ≡ w (map_given m)) → (first : First (PlainType × PlainType)) → named_shape (record (named_faults row es first) { no_such_map = is_no_such first }) first v B es ≡ as_one Maps (mapped_first map_given first)
  map_one v same Absent = refl
  map_one v same NoName = refl
  map_one v same NoSuch = refl
  map_one v same (There m) = ap (λ (u : List Found → Verdict). named_shape (record (named_faults row es (There m)) { no_such_map = false }) (There m) (λ _. u) B es) (same m)

  token_one : (v : List Found → Verdict) → v ≡ w Fungible → (first : First (Unit {0})) → named_shape (record (named_faults row es first) { no_such_token = is_no_such first }) first (λ _. v) B es ≡ as_one Fungibles (mapped_first (λ _. Fungible) first)
  token_one v same Absent = refl
  token_one v same NoName = refl
  token_one v same NoSuch = refl
  token_one v same (There u) = ap (λ (x : List Found → Verdict). named_shape (record (named_faults row es (There (tt {0}))) { no_such_token = false }) (There (tt {0})) (λ _. x) B es) same

  asset_one : (v : PlainType → List Found → Verdict) → ((t : PlainType) → v t ≡ w (NonFungible t)) → (first : First PlainType) → named_shape (record (named_faults row es first) { no_such_token = is_no_such first }) first v B es ≡ as_one NonFungibles (mapped_first NonFungible first)
  asset_one v same Absent = refl
  asset_one v same NoName = refl
  asset_one v same NoSuch = refl
  asset_one v same (There t) = ap (λ (u : List Found → Verdict). named_shape (record (named_faults row es (There t)) { no_such_token = false }) (There t) (λ _. u) B es) (same t)

fungible_if : (b : Bool) → option_map (λ _. Fungible) (if_fungible b) ≡ (if b then Some Fungible else None)
fungible_if true = refl
fungible_if false = refl

module _ (G : Context) (B : Names) (es : List Tree) where
  again : (native : NameNative) (sort : Sort) (first : First Given) → first ≡ first_named (given_of sort G) es → as_one (row_of (name_head native)) B es (name_verdict native) sort first ≡ as_one (row_of (name_head native)) B es (name_verdict native) sort (first_named (given_of sort G) es)
  again native sort first is = ap (as_one (row_of (name_head native)) B es (name_verdict native) sort) is

  keys : mapped_first Key (first_named (λ x. Some x) es) ≡ first_named (given_of Keys G) es
  keys = sym (first_mapped Key (λ x. Some x) es)

  variables : mapped_first Variable (first_named (λ x. named_in x G.variables) es) ≡ first_named (given_of Variables G) es
  variables = sym (first_mapped Variable (λ x. named_in x G.variables) es)

  maps : mapped_first map_given (first_named (λ x. named_in x G.maps) es) ≡ first_named (given_of Maps G) es
  maps = sym (first_mapped map_given (λ x. named_in x G.maps) es)

  tokens : mapped_first (λ _. Fungible) (first_named (λ x. if_fungible (list_any (same x) G.fungibles)) es) ≡ first_named (given_of Fungibles G) es
  tokens = sym (first_mapped (λ _. Fungible) (λ x. if_fungible (list_any (same x) G.fungibles)) es) ∙ (λ i. first_named (λ x. fungible_if (list_any (same x) G.fungibles) i) es)

  assets : mapped_first NonFungible (first_named (λ x. named_in x G.nonfungibles) es) ≡ first_named (given_of NonFungibles G) es
  assets = sym (first_mapped NonFungible (λ x. named_in x G.nonfungibles) es)

  pub head_named : (native : NameNative) → head_shape (name_head native) (row_of (name_head native)) G B es ≡ named_as native B es (first_named (given_of (sort_of native) G) es)
  unfolding head_shape
  head_named Get = key_one (row_of (name_head Get)) B es (name_verdict Get) (λ k. name_verdict Get (Key k)) (λ k. refl) (first_named (λ x. Some x) es) ∙ again Get Keys (mapped_first Key (first_named (λ x. Some x) es)) keys
  head_named VarGet = variable_one (row_of (name_head VarGet)) B es (name_verdict VarGet) (λ t. name_verdict VarGet (Variable t)) (λ t. refl) (first_named (λ x. named_in x G.variables) es) ∙ again VarGet Variables (mapped_first Variable (first_named (λ x. named_in x G.variables) es)) variables
  head_named VarSet = variable_one (row_of (name_head VarSet)) B es (name_verdict VarSet) (λ t. name_verdict VarSet (Variable t)) (λ t. refl) (first_named (λ x. named_in x G.variables) es) ∙ again VarSet Variables (mapped_first Variable (first_named (λ x. named_in x G.variables) es)) variables
  head_named MapGet = map_one (row_of (name_head MapGet)) B es (name_verdict MapGet) (λ m. name_verdict MapGet (map_given m)) (λ m. refl) (first_named (λ x. named_in x G.maps) es) ∙ again MapGet Maps (mapped_first map_given (first_named (λ x. named_in x G.maps) es)) maps
  head_named MapSet = map_one (row_of (name_head MapSet)) B es (name_verdict MapSet) (λ m. name_verdict MapSet (map_given m)) (λ m. refl) (first_named (λ x. named_in x G.maps) es) ∙ again MapSet Maps (mapped_first map_given (first_named (λ x. named_in x G.maps) es)) maps
  head_named MapInsert = map_one (row_of (name_head MapInsert)) B es (name_verdict MapInsert) (λ m. name_verdict MapInsert (map_given m)) (λ m. refl) (first_named (λ x. named_in x G.maps) es) ∙ again MapInsert Maps (mapped_first map_given (first_named (λ x. named_in x G.maps) es)) maps
  head_named MapDelete = map_one (row_of (name_head MapDelete)) B es (name_verdict MapDelete) (λ m. name_verdict MapDelete (map_given m)) (λ m. refl) (first_named (λ x. named_in x G.maps) es) ∙ again MapDelete Maps (mapped_first map_given (first_named (λ x. named_in x G.maps) es)) maps
  head_named FtBalance = token_one (row_of (name_head FtBalance)) B es (name_verdict FtBalance) (name_verdict FtBalance Fungible) refl (first_named (λ x. if_fungible (list_any (same x) G.fungibles)) es) ∙ again FtBalance Fungibles (mapped_first (λ _. Fungible) (first_named (λ x. if_fungible (list_any (same x) G.fungibles)) es)) tokens
  head_named FtSupply = token_one (row_of (name_head FtSupply)) B es (name_verdict FtSupply) (name_verdict FtSupply Fungible) refl (first_named (λ x. if_fungible (list_any (same x) G.fungibles)) es) ∙ again FtSupply Fungibles (mapped_first (λ _. Fungible) (first_named (λ x. if_fungible (list_any (same x) G.fungibles)) es)) tokens
  head_named MintFt = token_one (row_of (name_head MintFt)) B es (name_verdict MintFt) (name_verdict MintFt Fungible) refl (first_named (λ x. if_fungible (list_any (same x) G.fungibles)) es) ∙ again MintFt Fungibles (mapped_first (λ _. Fungible) (first_named (λ x. if_fungible (list_any (same x) G.fungibles)) es)) tokens
  head_named BurnFt = token_one (row_of (name_head BurnFt)) B es (name_verdict BurnFt) (name_verdict BurnFt Fungible) refl (first_named (λ x. if_fungible (list_any (same x) G.fungibles)) es) ∙ again BurnFt Fungibles (mapped_first (λ _. Fungible) (first_named (λ x. if_fungible (list_any (same x) G.fungibles)) es)) tokens
  head_named SendFt = token_one (row_of (name_head SendFt)) B es (name_verdict SendFt) (name_verdict SendFt Fungible) refl (first_named (λ x. if_fungible (list_any (same x) G.fungibles)) es) ∙ again SendFt Fungibles (mapped_first (λ _. Fungible) (first_named (λ x. if_fungible (list_any (same x) G.fungibles)) es)) tokens
  head_named NftOwner = asset_one (row_of (name_head NftOwner)) B es (name_verdict NftOwner) (λ t. name_verdict NftOwner (NonFungible t)) (λ t. refl) (first_named (λ x. named_in x G.nonfungibles) es) ∙ again NftOwner NonFungibles (mapped_first NonFungible (first_named (λ x. named_in x G.nonfungibles) es)) assets
  head_named MintNft = asset_one (row_of (name_head MintNft)) B es (name_verdict MintNft) (λ t. name_verdict MintNft (NonFungible t)) (λ t. refl) (first_named (λ x. named_in x G.nonfungibles) es) ∙ again MintNft NonFungibles (mapped_first NonFungible (first_named (λ x. named_in x G.nonfungibles) es)) assets
  head_named BurnNft = asset_one (row_of (name_head BurnNft)) B es (name_verdict BurnNft) (λ t. name_verdict BurnNft (NonFungible t)) (λ t. refl) (first_named (λ x. named_in x G.nonfungibles) es) ∙ again BurnNft NonFungibles (mapped_first NonFungible (first_named (λ x. named_in x G.nonfungibles) es)) assets
  head_named SendNft = asset_one (row_of (name_head SendNft)) B es (name_verdict SendNft) (λ t. name_verdict SendNft (NonFungible t)) (λ t. refl) (first_named (λ x. named_in x G.nonfungibles) es) ∙ again SendNft NonFungibles (mapped_first NonFungible (first_named (λ x. named_in x G.nonfungibles) es)) assets

given_is : (sort : Sort) (c : CodeContext) (G : Context) (x : List ℕ) → Shows c G → given_of sort G x ≡ given_in sort c x
given_is Keys c G x shows = refl
given_is Variables c G x shows = ap (λ (es : List (List ℕ × PlainType)). option_map Variable (named_in x es)) shows.variables
given_is Maps c G x shows = ap (λ (es : List (List ℕ × (PlainType × PlainType))). option_map map_given (named_in x es)) shows.maps
given_is Fungibles c G x shows = ap (λ (ks : List (List ℕ)). if list_any (same x) ks then Some Fungible else None) shows.fungibles
given_is NonFungibles c G x shows = ap (λ (es : List (List ℕ × PlainType)). option_map NonFungible (named_in x es)) shows.nonfungibles

none : false ≡ true → ⊥
none h = cc

-- ---- the rules of the one shape

odd_rules : (sort : Sort) (row : Row) (args : List Tree) → takes row.arity (length args) ≡ true → first_rule (shape_rules (missing sort (named_faults {A = Given} row args NoName) false)) ≡ Some BadBinding
odd_rules Keys row args h i = first_rule (when (not (h i)) ArgumentCount (BadBinding ∷ []))
odd_rules Variables row args h i = first_rule (when (not (h i)) ArgumentCount (BadBinding ∷ []))
odd_rules Maps row args h i = first_rule (when (not (h i)) ArgumentCount (BadBinding ∷ []))
odd_rules Fungibles row args h i = first_rule (when (not (h i)) ArgumentCount (BadBinding ∷ []))
odd_rules NonFungibles row args h i = first_rule (when (not (h i)) ArgumentCount (BadBinding ∷ []))

none_rules : (sort : Sort) (c : CodeContext) (x : List ℕ) (row : Row) (args : List Tree) → None ≡ given_in sort c x → takes row.arity (length args) ≡ true → first_rule (shape_rules (missing sort (named_faults {A = Given} row args NoSuch) true)) ≡ Some (missing_rule sort)
none_rules Keys c x row args none h = absurd cc
none_rules Variables c x row args none h = λ i. first_rule (when (not (h i)) ArgumentCount (NoSuchVariable ∷ []))
none_rules Maps c x row args none h = λ i. first_rule (when (not (h i)) ArgumentCount (NoSuchMap ∷ []))
none_rules Fungibles c x row args none h = λ i. first_rule (when (not (h i)) ArgumentCount (NoSuchToken ∷ []))
none_rules NonFungibles c x row args none h = λ i. first_rule (when (not (h i)) ArgumentCount (NoSuchToken ∷ []))

sound_rules : (sort : Sort) (row : Row) (args : List Tree) (g : Given) → takes row.arity (length args) ≡ true → shape_rules (missing sort (named_faults row args (There g)) false) ≡ []
sound_rules Keys row args g h i = when (not (h i)) ArgumentCount []
sound_rules Variables row args g h i = when (not (h i)) ArgumentCount []
sound_rules Maps row args g h i = when (not (h i)) ArgumentCount []
sound_rules Fungibles row args g h i = when (not (h i)) ArgumentCount []
sound_rules NonFungibles row args g h i = when (not (h i)) ArgumentCount []

-- ---- what is checked

module _ (c : CodeContext) (native : NameNative) (B : Names) (args : List Tree) (at : Span) (enough : takes (row_of (name_head native)).arity (length args) ≡ true) where
  abbrev deep : ℕ
  deep = forest_depth (forest args) + 1

  by_first : (first : First Given) (result : Result Checked (Fault Break)) → ((G : Context) → Shows c G → first_named (given_of (sort_of native) G) args ≡ first) → ChecksAs c (λ G. named_as native B args first) at deep result → ChecksHead c (name_head native) B args at result
  by_first first result is h = checks_same c (λ G. head_shape (name_head native) (row_of (name_head native)) G B args) (λ G. named_as native B args first) at deep result (λ G shows. head_named G B args native ∙ ap (named_as native B args) (is G shows)) h

  pub named_odd : (e : Tree) (rest : List Tree) (f : Fault Break) → args ≡ e ∷ rest → atom_of e ≡ None → f ≡ Refused (record { rule = BadBinding; span = at }) → ChecksHead c (name_head native) B args at (Err f)
  named_odd e rest f list odd fails = by_first NoName (Err f) (λ G shows. ap (first_named (given_of (sort_of native) G)) list ∙ no_name_first (given_of (sort_of native) G) e rest odd)
      (shape_fails c (λ G. named_as native B args NoName) at deep BadBinding f (λ G shows. odd_rules (sort_of native) (row_of (name_head native)) args enough) fails)

  module _ (w : Word) (rest : List Tree) (list : args ≡ word w ∷ rest) where
    found_first : (o : Option Given) → o ≡ given_in (sort_of native) c w.name → (G : Context) → Shows c G → first_named (given_of (sort_of native) G) args ≡ there_or_not o
    found_first o there G shows = ap (first_named (given_of (sort_of native) G)) list ∙ ap there_or_not (given_is (sort_of native) c G w.name shows ∙ sym there)

    pub named_unknown : (r : Rule) (f : Fault Break) → None ≡ given_in (sort_of native) c w.name → r ≡ missing_rule (sort_of native) → f ≡ Refused (record { rule = r; span = at }) → ChecksHead c (name_head native) B args at (Err f)
    named_unknown r f none rule fails = by_first NoSuch (Err f) (found_first None none)
        (shape_fails c (λ G. named_as native B args NoSuch) at deep r f (λ G shows. none_rules (sort_of native) c w.name (row_of (name_head native)) args none enough ∙ ap (λ (q : Rule). Some q) (sym rule)) fails)

    module _ (g : Given) (there : Some g ≡ given_in (sort_of native) c w.name) where
      deeper : forest_depth (forest rest) ≤ forest_depth (forest args)
      deeper = let same : forest_depth (forest args) ≡ forest_depth (forest (word w ∷ rest)) = ap (λ (ts : List Tree). forest_depth (forest ts)) list in omega (arith, same)

      abbrev shape_at : Context → Shape
      shape_at G = named_as native B args (There g)

      sound : (G : Context) → Shows c G → shape_rules (shape_at G).faults ≡ []
      sound G shows = sound_rules (sort_of native) (row_of (name_head native)) args g enough

      plan : (G : Context) → Shows c G → (shape_at G).plan ≡ parts B rest
      plan G shows = ap (λ (ts : List Tree). parts B (drop 1 ts)) list

      pub named_fails : (f : Fault Break) → ChecksAll c (parts B rest) (forest_depth (forest rest) + 1) (Err f) → ChecksHead c (name_head native) B args at (Err f)
      named_fails f h = by_first (There g) (Err f) (found_first (Some g) there)
          (parts_fail c shape_at at deep (parts B rest) sound plan f (λ G d shows large. h G d shows (omega (arith, deeper, large))))

      pub named_found : (v : Vec Checked) (concluded : Result Concluded (Fault Rule)) (result : Result Checked (Fault Break)) → ChecksAll c (parts B rest) (forest_depth (forest rest) + 1) (Ok v) → JudgesNamed native g v.items concluded → FinishesIn c v.items concluded at result → ChecksHead c (name_head native) B args at result
      named_found v concluded result h judges fin = by_first (There g) result (found_first (Some g) there)
          (parts_finish c shape_at at deep (parts B rest) sound plan v concluded result (λ G d shows large. h G d shows (omega (arith, deeper, large))) fin (λ G fs shows same. judges fs same))

    -- the other arguments are as many parts as the native takes
    pub named_fits : (cs : List Checked) (head : Span) → texts_of cs ≡ rest → has_parts (OnName native head w) (length cs) ≡ true
    named_fits cs head text = ap (λ (n : ℕ). takes (row_of (name_head native)).arity (suc n)) (parts_count cs rest text) ∙ sym (ap (λ (ts : List Tree). takes (row_of (name_head native)).arity (length ts)) list) ∙ enough
