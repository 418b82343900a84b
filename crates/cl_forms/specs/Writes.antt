-- Which functions of a contract write.
use Rattle.std.specs.Prelude.{◌≡◌, ℕ, Bool, true, false, List, [], ◌∷◌, ◌++◌, codes, Contains, Some, ◌||◌, ◌&&◌}
use Rattle.std.specs.List.{list_any}
use Rattle.cl_types.specs.Types.{PlainType}
use Rattle.cl_types.specs.declared.sized.Access.{Access}
use Rattle.cl_sexpr.specs.Tree.{Tree, LeafAt, ListAt, TupleAt, Leaf, Named, Forest, Empty, Then, Pairs, NoPair, Pair}
use Rattle.cl_forms.specs.Forms.{Form, FunctionForm}
use Rattle.cl_forms.specs.Names.{same, is_one_of}

-- the natives that write
abbrev pub writing_natives : List (List ℕ)
writing_natives =
    codes "var-set" ∷ codes "map-set" ∷ codes "map-insert" ∷ codes "map-delete"
    ∷ codes "ft-mint?" ∷ codes "ft-burn?" ∷ codes "ft-transfer?"
    ∷ codes "nft-mint?" ∷ codes "nft-burn?" ∷ codes "nft-transfer?"
    ∷ codes "stx-transfer?" ∷ codes "stx-burn?" ∷ []

-- the natives that apply a function given by name
abbrev pub applying_natives : List (List ℕ)
applying_natives = codes "map" ∷ codes "filter" ∷ codes "fold" ∷ []

-- what is called, and the parts behind it
pub record Call : Type 0 where
  pub operator : List ℕ
  pub parts : Forest

-- The calls that stand in an expression: its lists that begin with an atom. A pair behind `tuple` is no call, but its part is
-- an expression.
abbrev mutual
  pub calls_in : Tree → List Call
  calls_in (LeafAt l at) = []
  calls_in (ListAt items at) = calls_of_list items
  calls_in (TupleAt parts at) = calls_of_pairs parts

  pub calls_of_list : Forest → List Call
  calls_of_list Empty = []
  calls_of_list (Then (LeafAt (Named x) at) es) = record { operator = x; parts = es } ∷ calls_behind (same x (codes "tuple")) es
  calls_of_list (Then e es) = calls_in e ++ calls_behind false es

  -- the calls in a row of items; where the row stands behind `tuple`, a list of two that begins with an atom is a pair
  pub calls_behind : Bool → Forest → List Call
  calls_behind tuple Empty = []
  calls_behind true (Then (ListAt (Then (LeafAt (Named k) at) (Then e Empty)) at') es) = calls_in e ++ calls_behind true es
  calls_behind tuple (Then e es) = calls_in e ++ calls_behind tuple es

  pub calls_of_pairs : Pairs → List Call
  calls_of_pairs NoPair = []
  calls_of_pairs (Pair k e parts) = calls_in e ++ calls_of_pairs parts

-- ---- whether a call writes, where it is told which functions of the contract write and which of other contracts are public

-- the first item is the name of such a function
abbrev pub gives_one : (List ℕ → Bool) → Forest → Bool
gives_one functions (Then (LeafAt (Named f) at) es) = functions f
gives_one functions es = false

-- the first two items stand for a public function of another contract
abbrev pub crosses : (Leaf → List ℕ → Bool) → Forest → Bool
crosses is_public (Then (LeafAt contract at) (Then (LeafAt (Named f) at') es)) = is_public contract f
crosses is_public es = false

abbrev pub call_writes : (List ℕ → Bool) → (Leaf → List ℕ → Bool) → Call → Bool
call_writes functions is_public c =
    is_one_of writing_natives c.operator
    || (functions c.operator
    || ((is_one_of applying_natives c.operator && gives_one functions c.parts)
    || (same c.operator (codes "contract-call?") && crosses is_public c.parts)))

-- an expression has a call that writes
abbrev pub has_write : (List ℕ → Bool) → (Leaf → List ℕ → Bool) → Tree → Bool
has_write functions is_public e = list_any (call_writes functions is_public) (calls_in e)

-- ---- the functions that write

-- a form defines this function
pub record Defines (forms : List Form) (name : List ℕ) (body : Tree) : Type 0 where
  pub form : Form
  pub access : Access
  pub params : List (List ℕ × PlainType)
  pub there : Contains forms form
  pub named : form.name ≡ Some name
  pub function : form.kind ≡ FunctionForm access params body

-- The least set of functions such that one is in it whose body holds a writing native, calls a function of the set by name,
-- gives one to map, filter or fold, or calls a public function of another contract. What a contract and a function's name
-- stand for in other contracts is told by a test, whether there is such a public function.
mutual
  pub data Writes (forms : List Form) (is_public : Leaf → List ℕ → Bool) : List ℕ → Type 0 where
    has_writing_body : {name : List ℕ} {body : Tree} → Defines forms name body → WritesIn forms is_public body → Writes forms is_public name

  -- an expression with a call that writes
  pub data WritesIn (forms : List Form) (is_public : Leaf → List ℕ → Bool) : Tree → Type 0 where
    by_native : {e : Tree} {x : List ℕ} {parts : Forest} → Contains (calls_in e) (record { operator = x; parts = parts }) → is_one_of writing_natives x ≡ true → WritesIn forms is_public e
    by_function : {e : Tree} {x : List ℕ} {parts : Forest} → Contains (calls_in e) (record { operator = x; parts = parts }) → Writes forms is_public x → WritesIn forms is_public e
    by_name : {e : Tree} {x f : List ℕ} {parts : Forest} (at : _) → Contains (calls_in e) (record { operator = x; parts = Then (LeafAt (Named f) at) parts }) → is_one_of applying_natives x ≡ true → Writes forms is_public f → WritesIn forms is_public e
    by_contract : {e : Tree} {x f : List ℕ} {contract : Leaf} {parts : Forest} (at at' : _) → Contains (calls_in e) (record { operator = x; parts = Then (LeafAt contract at) (Then (LeafAt (Named f) at') parts) }) → x ≡ codes "contract-call?" → is_public contract f ≡ true → WritesIn forms is_public e
