-- The natives as one table, the words that define, and the names that are left out.
use Rattle.std.specs.Prelude.{ℕ, ◌==◌, ◌||◌, Bool, true, false, List, [], ◌∷◌, ◌++◌, codes, map, filter, nat_le, if◌then◌else◌, Option, Some, None, option_map}
use Rattle.std.specs.Str.{bytes_eq}
use Rattle.cl_shapes.specs.declared.name.CostName.{CostName}
use Rattle.cl_shapes.specs.declared.name.CostName.TheVariants.{Control, Arith, Compare, Hash, Wrap, Make, Take as TakeCost, Scan, Iterate, ReadVar, WriteVar, ReadMap, WriteMap, ReadToken, WriteToken, Event as EventCost, ContractCall as ContractCallCost}
use Rattle.cl_forms.specs.Names.{is_one_of}
use Rattle.cl_forms.specs.Keywords.{keywords}
pub use Rattle.cl_values.specs.declared.native.Native.{Native}
pub use Rattle.cl_values.specs.declared.native.Native.TheVariants.{Add, Subtract, Multiply, Divide, Modulo, Power, Xor, SquareRoot, Log2, ToInt, ToUint, Not, Less, AtMost, Greater, AtLeast, Same, Sha256, Sha512Of256, Sha512, MakeSome, MakeOk, MakeErr, IsSome, IsNone, IsOk, IsErr, DefaultTo, UnwrapPanic, UnwrapErrPanic, MakeList, Merge, Append, Concat, Len, ElementAt, IndexOf, ContentLess, ContentAtMost, ContentGreater, ContentAtLeast, BitAnd, BitOr, BitXor, BitNot, ShiftLeft, ShiftRight, Slice, ReplaceAt, EntryAt, PlaceOf, ToConsensusBuff}
pub use Rattle.cl_forms.specs.Texts.{Version, One, Two}
pub use Rattle.cl_forms.specs.declared.head.TokenNative.{TokenNative}
pub use Rattle.cl_forms.specs.declared.head.TokenNative.TheVariants.{MintFt, BurnFt, SendFt, MintNft, BurnNft, SendNft, SendStx, BurnStx}
pub use Rattle.cl_forms.specs.declared.head.Head.{Head}
pub use Rattle.cl_forms.specs.declared.head.Head.TheVariants.{OnValues, OnToken, TupleOf, AsMaxLen, Get, VarGet, VarSet, MapGet, MapSet, MapInsert, MapDelete, FtBalance, FtSupply, StxBalance, NftOwner, Print, If, Let, Begin, And, Or, Asserts, Unwrap, UnwrapErr, Try, Match, AsContract, Map, Filter, Fold, ContractCall}

-- how many arguments a native takes: so many; so many or more; one of two numbers
pub data Arity : Type 0 where
  Exact : ℕ → Arity
  OrMore : ℕ → Arity
  Either : ℕ → ℕ → Arity

abbrev pub takes : Arity → ℕ → Bool
takes (Exact n) count = count == n
takes (OrMore n) count = nat_le n count
takes (Either m n) count = count == m || count == n

-- a native: its name, how many arguments it takes as they stand in the text, what it is charged as, whether that charge
-- comes before its arguments are evaluated, whether it can be given by name to map, filter and fold, and the version that
-- alone has it
pub record Row : Type 0 where
  pub name : List ℕ
  pub head : Head
  pub arity : Arity
  pub cost : CostName
  pub special : Bool
  pub by_name : Bool
  pub only : Option Version

-- charged after its arguments
abbrev pub plain : List ℕ → Head → Arity → CostName → Row
plain name head arity cost = record { name = name; head = head; arity = arity; cost = cost; special = false; by_name = false; only = None }

-- charged after its arguments; can be given by name
abbrev pub starred : List ℕ → Head → Arity → CostName → Row
starred name head arity cost = record { name = name; head = head; arity = arity; cost = cost; special = false; by_name = true; only = None }

-- charged first
abbrev pub first : List ℕ → Head → Arity → CostName → Row
first name head arity cost = record { name = name; head = head; arity = arity; cost = cost; special = true; by_name = false; only = None }

-- charged first; can be given by name
abbrev pub first_starred : List ℕ → Head → Arity → CostName → Row
first_starred name head arity cost = record { name = name; head = head; arity = arity; cost = cost; special = true; by_name = true; only = None }

-- a row that one version alone has
abbrev pub only_in : Version → Row → Row
only_in version row = record row { only = Some version }

-- whether a version has what this one alone has
abbrev pub is_had : Version → Option Version → Bool
is_had version None = true
is_had One (Some One) = true
is_had One (Some Two) = false
is_had Two (Some One) = false
is_had Two (Some Two) = true

-- what a name stands for that is given to map, filter or fold: a native that can be given by name, and else a function
abbrev pub given_by_name : {A B : Type 0} → (Row → B) → (A → B) → Option Row → Option A → Option B
given_by_name as_native as_function None f = option_map as_function f
given_by_name as_native as_function (Some row) f = if row.by_name then Some (as_native row) else None

-- the row of each native
abbrev pub row_of : Head → Row
row_of (OnValues Add) = starred (codes "+") (OnValues Add) (OrMore 1) Arith
row_of (OnValues Subtract) = starred (codes "-") (OnValues Subtract) (OrMore 1) Arith
row_of (OnValues Multiply) = starred (codes "*") (OnValues Multiply) (OrMore 1) Arith
row_of (OnValues Divide) = starred (codes "/") (OnValues Divide) (OrMore 1) Arith
row_of (OnValues Modulo) = starred (codes "mod") (OnValues Modulo) (Exact 2) Arith
row_of (OnValues Power) = starred (codes "pow") (OnValues Power) (Exact 2) Arith
row_of (OnValues Xor) = starred (codes "xor") (OnValues Xor) (Exact 2) Arith
row_of (OnValues SquareRoot) = starred (codes "sqrti") (OnValues SquareRoot) (Exact 1) Arith
row_of (OnValues Log2) = starred (codes "log2") (OnValues Log2) (Exact 1) Arith
row_of (OnValues ToInt) = starred (codes "to-int") (OnValues ToInt) (Exact 1) Arith
row_of (OnValues ToUint) = starred (codes "to-uint") (OnValues ToUint) (Exact 1) Arith
row_of (OnValues Not) = starred (codes "not") (OnValues Not) (Exact 1) Arith
row_of (OnValues Less) = only_in One (starred (codes "<") (OnValues Less) (Exact 2) Compare)
row_of (OnValues AtMost) = only_in One (starred (codes "<=") (OnValues AtMost) (Exact 2) Compare)
row_of (OnValues Greater) = only_in One (starred (codes ">") (OnValues Greater) (Exact 2) Compare)
row_of (OnValues AtLeast) = only_in One (starred (codes ">=") (OnValues AtLeast) (Exact 2) Compare)
row_of (OnValues ContentLess) = only_in Two (starred (codes "<") (OnValues ContentLess) (Exact 2) Compare)
row_of (OnValues ContentAtMost) = only_in Two (starred (codes "<=") (OnValues ContentAtMost) (Exact 2) Compare)
row_of (OnValues ContentGreater) = only_in Two (starred (codes ">") (OnValues ContentGreater) (Exact 2) Compare)
row_of (OnValues ContentAtLeast) = only_in Two (starred (codes ">=") (OnValues ContentAtLeast) (Exact 2) Compare)
row_of (OnValues Same) = starred (codes "is-eq") (OnValues Same) (OrMore 1) Compare
row_of (OnValues Sha256) = starred (codes "sha256") (OnValues Sha256) (Exact 1) Hash
row_of (OnValues Sha512Of256) = starred (codes "sha512/256") (OnValues Sha512Of256) (Exact 1) Hash
row_of (OnValues Sha512) = starred (codes "sha512") (OnValues Sha512) (Exact 1) Hash
row_of (OnValues MakeSome) = starred (codes "some") (OnValues MakeSome) (Exact 1) Wrap
row_of (OnValues MakeOk) = starred (codes "ok") (OnValues MakeOk) (Exact 1) Wrap
row_of (OnValues MakeErr) = starred (codes "err") (OnValues MakeErr) (Exact 1) Wrap
row_of (OnValues IsSome) = starred (codes "is-some") (OnValues IsSome) (Exact 1) Wrap
row_of (OnValues IsNone) = starred (codes "is-none") (OnValues IsNone) (Exact 1) Wrap
row_of (OnValues IsOk) = starred (codes "is-ok") (OnValues IsOk) (Exact 1) Wrap
row_of (OnValues IsErr) = starred (codes "is-err") (OnValues IsErr) (Exact 1) Wrap
row_of (OnValues DefaultTo) = plain (codes "default-to") (OnValues DefaultTo) (Exact 2) Wrap
row_of (OnValues UnwrapPanic) = plain (codes "unwrap-panic") (OnValues UnwrapPanic) (Exact 1) Wrap
row_of (OnValues UnwrapErrPanic) = plain (codes "unwrap-err-panic") (OnValues UnwrapErrPanic) (Exact 1) Wrap
row_of (OnValues MakeList) = plain (codes "list") (OnValues MakeList) (OrMore 0) Make
row_of TupleOf = plain (codes "tuple") TupleOf (OrMore 1) Make
row_of (OnValues Merge) = plain (codes "merge") (OnValues Merge) (Exact 2) Make
row_of (OnValues Append) = plain (codes "append") (OnValues Append) (Exact 2) Make
row_of (OnValues Concat) = plain (codes "concat") (OnValues Concat) (Exact 2) Make
row_of AsMaxLen = plain (codes "as-max-len?") AsMaxLen (Exact 2) Make
row_of Get = plain (codes "get") Get (Exact 2) TakeCost
row_of (OnValues Len) = starred (codes "len") (OnValues Len) (Exact 1) Scan
row_of (OnValues ElementAt) = plain (codes "element-at") (OnValues ElementAt) (Exact 2) Scan
row_of (OnValues IndexOf) = plain (codes "index-of") (OnValues IndexOf) (Exact 2) Scan
row_of (OnValues BitAnd) = only_in Two (starred (codes "bit-and") (OnValues BitAnd) (OrMore 1) Arith)
row_of (OnValues BitOr) = only_in Two (starred (codes "bit-or") (OnValues BitOr) (OrMore 1) Arith)
row_of (OnValues BitXor) = only_in Two (starred (codes "bit-xor") (OnValues BitXor) (OrMore 1) Arith)
row_of (OnValues BitNot) = only_in Two (starred (codes "bit-not") (OnValues BitNot) (Exact 1) Arith)
row_of (OnValues ShiftLeft) = only_in Two (starred (codes "bit-shift-left") (OnValues ShiftLeft) (Exact 2) Arith)
row_of (OnValues ShiftRight) = only_in Two (starred (codes "bit-shift-right") (OnValues ShiftRight) (Exact 2) Arith)
row_of (OnValues Slice) = only_in Two (plain (codes "slice?") (OnValues Slice) (Exact 3) Make)
row_of (OnValues ReplaceAt) = only_in Two (plain (codes "replace-at?") (OnValues ReplaceAt) (Exact 3) Make)
row_of (OnValues EntryAt) = only_in Two (plain (codes "element-at?") (OnValues EntryAt) (Exact 2) Scan)
row_of (OnValues PlaceOf) = only_in Two (plain (codes "index-of?") (OnValues PlaceOf) (Exact 2) Scan)
row_of (OnValues ToConsensusBuff) = only_in Two (starred (codes "to-consensus-buff?") (OnValues ToConsensusBuff) (Exact 1) Make)
row_of VarGet = plain (codes "var-get") VarGet (Exact 1) ReadVar
row_of VarSet = plain (codes "var-set") VarSet (Exact 2) WriteVar
row_of MapGet = plain (codes "map-get?") MapGet (Exact 2) ReadMap
row_of MapSet = plain (codes "map-set") MapSet (Exact 3) WriteMap
row_of MapInsert = plain (codes "map-insert") MapInsert (Exact 3) WriteMap
row_of MapDelete = plain (codes "map-delete") MapDelete (Exact 2) WriteMap
row_of FtBalance = plain (codes "ft-get-balance") FtBalance (Exact 2) ReadToken
row_of FtSupply = plain (codes "ft-get-supply") FtSupply (Exact 1) ReadToken
row_of StxBalance = plain (codes "stx-get-balance") StxBalance (Exact 1) ReadToken
row_of NftOwner = plain (codes "nft-get-owner?") NftOwner (Exact 2) ReadToken
row_of (OnToken MintFt) = plain (codes "ft-mint?") (OnToken MintFt) (Exact 3) WriteToken
row_of (OnToken BurnFt) = plain (codes "ft-burn?") (OnToken BurnFt) (Exact 3) WriteToken
row_of (OnToken SendFt) = plain (codes "ft-transfer?") (OnToken SendFt) (Exact 4) WriteToken
row_of (OnToken MintNft) = plain (codes "nft-mint?") (OnToken MintNft) (Exact 3) WriteToken
row_of (OnToken BurnNft) = plain (codes "nft-burn?") (OnToken BurnNft) (Exact 3) WriteToken
row_of (OnToken SendNft) = plain (codes "nft-transfer?") (OnToken SendNft) (Exact 4) WriteToken
row_of (OnToken SendStx) = plain (codes "stx-transfer?") (OnToken SendStx) (Exact 3) WriteToken
row_of (OnToken BurnStx) = plain (codes "stx-burn?") (OnToken BurnStx) (Exact 2) WriteToken
row_of Print = plain (codes "print") Print (Exact 1) EventCost
row_of If = first (codes "if") If (Exact 3) Control
row_of Let = first (codes "let") Let (OrMore 2) Control
row_of Begin = first (codes "begin") Begin (OrMore 1) Control
row_of And = first_starred (codes "and") And (OrMore 1) Control
row_of Or = first_starred (codes "or") Or (OrMore 1) Control
row_of Asserts = first (codes "asserts!") Asserts (Exact 2) Control
row_of Unwrap = first (codes "unwrap!") Unwrap (Exact 2) Control
row_of UnwrapErr = first (codes "unwrap-err!") UnwrapErr (Exact 2) Control
row_of Try = first (codes "try!") Try (Exact 1) Control
row_of Match = first (codes "match") Match (Either 4 5) Control
row_of AsContract = first (codes "as-contract") AsContract (Exact 1) Control
row_of Map = plain (codes "map") Map (OrMore 2) Iterate
row_of Filter = plain (codes "filter") Filter (Exact 2) Iterate
row_of Fold = plain (codes "fold") Fold (Exact 3) Iterate
row_of ContractCall = plain (codes "contract-call?") ContractCall (OrMore 2) ContractCallCost

abbrev pub heads : List Head
heads =
    OnValues Add ∷ OnValues Subtract ∷ OnValues Multiply ∷ OnValues Divide ∷ OnValues Modulo ∷ OnValues Power ∷
    OnValues Xor ∷ OnValues SquareRoot ∷ OnValues Log2 ∷ OnValues ToInt ∷ OnValues ToUint ∷ OnValues Not ∷
    OnValues Less ∷ OnValues AtMost ∷ OnValues Greater ∷ OnValues AtLeast ∷ OnValues ContentLess ∷
    OnValues ContentAtMost ∷ OnValues ContentGreater ∷ OnValues ContentAtLeast ∷ OnValues Same ∷ OnValues Sha256 ∷
    OnValues Sha512Of256 ∷ OnValues Sha512 ∷ OnValues MakeSome ∷ OnValues MakeOk ∷ OnValues MakeErr ∷ OnValues IsSome ∷
    OnValues IsNone ∷ OnValues IsOk ∷ OnValues IsErr ∷ OnValues DefaultTo ∷ OnValues UnwrapPanic ∷
    OnValues UnwrapErrPanic ∷ OnValues MakeList ∷ TupleOf ∷ OnValues Merge ∷ OnValues Append ∷ OnValues Concat ∷
    AsMaxLen ∷ Get ∷ OnValues Len ∷ OnValues ElementAt ∷ OnValues IndexOf ∷ OnValues BitAnd ∷ OnValues BitOr ∷
    OnValues BitXor ∷ OnValues BitNot ∷ OnValues ShiftLeft ∷ OnValues ShiftRight ∷ OnValues Slice ∷ OnValues ReplaceAt ∷
    OnValues EntryAt ∷ OnValues PlaceOf ∷ OnValues ToConsensusBuff ∷ VarGet ∷ VarSet ∷ MapGet ∷ MapSet ∷ MapInsert ∷
    MapDelete ∷ FtBalance ∷ FtSupply ∷ StxBalance ∷ NftOwner ∷ OnToken MintFt ∷ OnToken BurnFt ∷
    OnToken SendFt ∷ OnToken MintNft ∷ OnToken BurnNft ∷ OnToken SendNft ∷ OnToken SendStx ∷ OnToken BurnStx ∷ Print ∷
    If ∷ Let ∷ Begin ∷ And ∷ Or ∷ Asserts ∷ Unwrap ∷ UnwrapErr ∷ Try ∷ Match ∷ AsContract ∷ Map ∷ Filter ∷ Fold ∷
    ContractCall ∷ []

-- the rows of a version, in the order of the documents of the language
abbrev pub table : Version → List Row
table version = filter (λ row. is_had version row.only) (map row_of heads)

-- the first row of a name
abbrev pub row_in : List Row → List ℕ → Option Row
row_in [] name = None
row_in (row ∷ rows) name = if bytes_eq row.name name then Some row else row_in rows name

-- the row of a name in a version, if it is a native's there
unfoldable pub native : Version → List ℕ → Option Row
native version name = row_in (table version) name

abbrev pub define_words : List (List ℕ)
define_words =
    codes "define-constant" ∷ codes "define-data-var" ∷ codes "define-map" ∷ codes "define-fungible-token"
    ∷ codes "define-non-fungible-token" ∷ codes "define-public" ∷ codes "define-read-only" ∷ codes "define-private" ∷ []

-- the names of Clarity that this engine leaves out
abbrev pub left_out : List (List ℕ)
left_out =
    codes "define-trait" ∷ codes "use-trait" ∷ codes "impl-trait" ∷ codes "contract-of" ∷ codes "at-block"
    ∷ codes "get-block-info?" ∷ codes "keccak256" ∷ codes "hash160" ∷ codes "secp256k1-recover?" ∷ codes "secp256k1-verify"
    ∷ codes "principal-of?" ∷ codes "stx-liquid-supply" ∷ codes "is-in-regtest" ∷ []

-- the natives of a version, the keywords and the define words
unfoldable pub words : Version → List (List ℕ)
words version = (map (λ row. row.name) (table version) ++ keywords) ++ define_words

-- the reserved names of a text of a version: these, and the names that are left out
unfoldable pub is_reserved : Version → List ℕ → Bool
is_reserved version name = is_one_of (words version) name || is_one_of left_out name
