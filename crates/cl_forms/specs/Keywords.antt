-- The keywords: names that stand for a value in every contract.
use Rattle.std.specs.Prelude.{ℕ, List, [], ◌∷◌, codes, map, if◌then◌else◌, Option, Some, None}
use Rattle.cl_shapes.specs.declared.name.CostName.{CostName}
use Rattle.cl_shapes.specs.declared.name.CostName.TheVariants.{Literal, Context}
use Rattle.cl_forms.specs.declared.keyword.Keyword.{Keyword}
use Rattle.cl_forms.specs.declared.keyword.Keyword.TheVariants as keys
use Rattle.cl_forms.specs.Names.{same}

abbrev pub keyword_name : Keyword → List ℕ
keyword_name keys.True = codes "true"
keyword_name keys.False = codes "false"
keyword_name keys.None = codes "none"
keyword_name keys.TxSender = codes "tx-sender"
keyword_name keys.ContractCaller = codes "contract-caller"
keyword_name keys.BlockHeight = codes "block-height"

-- what a keyword is charged as
abbrev pub keyword_cost : Keyword → CostName
keyword_cost keys.True = Literal
keyword_cost keys.False = Literal
keyword_cost keys.None = Literal
keyword_cost keys.TxSender = Context
keyword_cost keys.ContractCaller = Context
keyword_cost keys.BlockHeight = Context

-- the names of the keywords
abbrev pub keywords : List (List ℕ)
keywords = map keyword_name (keys.True ∷ keys.False ∷ keys.None ∷ keys.TxSender ∷ keys.ContractCaller ∷ keys.BlockHeight ∷ [])

-- the keyword of a name
abbrev pub keyword_of : List ℕ → Option Keyword
keyword_of x =
    if same x (keyword_name keys.True) then Some keys.True
    else (if same x (keyword_name keys.False) then Some keys.False
    else (if same x (keyword_name keys.None) then Some keys.None
    else (if same x (keyword_name keys.TxSender) then Some keys.TxSender
    else (if same x (keyword_name keys.ContractCaller) then Some keys.ContractCaller
    else (if same x (keyword_name keys.BlockHeight) then Some keys.BlockHeight
    else None)))))
