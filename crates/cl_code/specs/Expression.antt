-- The expression that a node stands for.
use Rattle.std.specs.Prelude.{ℕ, length, drop, List, [], ◌∷◌, codes}
use Rattle.cl_sexpr.specs.declared.sexpr.Span.{Span}
use Rattle.cl_sexpr.specs.Tree.{Tree, Leaf, LeafAt, ListAt, TupleAt, Named, Signed, Unsigned, Bytes, Ascii, Unicode, Standing, Local, Empty, Then, Pairs, NoPair, Pair, forest}
use Rattle.cl_forms.specs.declared.head.Head.TheVariants.{OnValues, And, Or}
use Rattle.cl_forms.specs.HeadNames.{name_of}
use Rattle.cl_code.specs.declared.op.Word.{Word}
use Rattle.cl_code.specs.declared.op.Binding.{Binding}
use Rattle.cl_code.specs.declared.op.Applied.{Applied}
use Rattle.cl_code.specs.declared.op.Applied.TheVariants.{Function, OnValues as OnValuesBy, And as AndBy, Or as OrBy}
use Rattle.cl_code.specs.declared.op.Target.{Target}
use Rattle.cl_code.specs.declared.op.Target.TheVariants.{Standing as StandingAt, Local as LocalAt}
use Rattle.cl_code.specs.declared.op.Op.{Op}
use Rattle.cl_code.specs.declared.op.Op.TheVariants.{Int, Uint, Buff, Ascii as AsciiOp, Utf8, Standing as StandingOp, Local as LocalOp, Keyword, Bound, Constant, OnValues as OnValuesOp, OnParts, OnName, Iterate, AsMaxLen, Tuple, TupleOf, Let, MatchOptional, MatchResponse, Call, ContractCall}
use Rattle.cl_forms.specs.Keywords.{keyword_name}
use Rattle.cl_code.specs.OpNames.{parts_head, name_head, iteration_head}

abbrev pub word : Word → Tree
word w = LeafAt (Named w.name) w.span

-- the leaf that stands for a contract
abbrev pub target_leaf : Target → Leaf
target_leaf (StandingAt p at) = Standing p
target_leaf (LocalAt c at) = Local c

abbrev pub target : Target → Tree
target (StandingAt p at) = LeafAt (Standing p) at
target (LocalAt c at) = LeafAt (Local c) at

-- what is given by name
abbrev pub applied_name : Applied → Tree
applied_name (Function f) = word f
applied_name (OnValuesBy native at) = LeafAt (Named (name_of (OnValues native))) at
applied_name (AndBy at) = LeafAt (Named (name_of And)) at
applied_name (OrBy at) = LeafAt (Named (name_of Or)) at

-- a list that begins with a name
abbrev pub headed : List ℕ → Span → List Tree → Span → Tree
headed x head es at = ListAt (Then (LeafAt (Named x) head) (forest es)) at

abbrev pub binding : Binding → Tree → Tree
binding b e = ListAt (Then (word b.word) (Then e Empty)) b.span

-- the bindings with their expressions, which come first
abbrev pub bound_items : List Binding → List Tree → List Tree
bound_items [] es = []
bound_items (b ∷ bs) [] = []
bound_items (b ∷ bs) (e ∷ es) = binding b e ∷ bound_items bs es

-- the keys with their expressions
abbrev pub keyed : List (List ℕ) → List Tree → Pairs
keyed [] es = NoPair
keyed (k ∷ ks) [] = NoPair
keyed (k ∷ ks) (e ∷ es) = Pair k e (keyed ks es)

abbrev pub behind_first : (Tree → List Tree → List Tree) → List Tree → List Tree
behind_first make [] = []
behind_first make (e ∷ es) = make e es

-- the branches of a match with their names, behind the input
abbrev pub optional_branches : Word → List Tree → List Tree
optional_branches part es = behind_first (λ e more. e ∷ word part ∷ more) es

abbrev pub response_branches : Word → Word → List Tree → List Tree
response_branches good bad es = behind_first (λ e more. e ∷ word good ∷ behind_first (λ d last. d ∷ word bad ∷ last) more) es

-- what stands in the text for a node with these parts
abbrev pub expression : Op → List Tree → Span → Tree
expression (Int z) es at = LeafAt (Signed z) at
expression (Uint n) es at = LeafAt (Unsigned n) at
expression (Buff bytes) es at = LeafAt (Bytes bytes.items) at
expression (AsciiOp text) es at = LeafAt (Ascii text.items) at
expression (Utf8 text) es at = LeafAt (Unicode text.items) at
expression (StandingOp p) es at = LeafAt (Standing p) at
expression (LocalOp c) es at = LeafAt (Local c) at
expression (Keyword k) es at = LeafAt (Named (keyword_name k)) at
expression (Bound x) es at = LeafAt (Named x) at
expression (Constant x) es at = LeafAt (Named x) at
expression (OnValuesOp native head) es at = headed (name_of (OnValues native)) head es at
expression (OnParts native head) es at = headed (name_of (parts_head native)) head es at
expression (OnName native head name) es at = headed (name_of (name_head native)) head (word name ∷ es) at
expression (Iterate iteration head applied) es at = headed (name_of (iteration_head iteration)) head (applied_name applied ∷ es) at
expression (AsMaxLen head most literal) es at = headed (codes "as-max-len?") head (behind_first (λ e more. e ∷ LeafAt (Unsigned most) literal ∷ more) es) at
expression (Tuple keys) es at = TupleAt (keyed keys.items es) at
expression (TupleOf head pairs) es at = headed (codes "tuple") head (bound_items pairs.items es) at
expression (Let head brackets bindings) es at = headed (codes "let") head (ListAt (forest (bound_items bindings.items es)) brackets ∷ drop (length bindings.items) es) at
expression (MatchOptional head part) es at = headed (codes "match") head (optional_branches part es) at
expression (MatchResponse head good bad) es at = headed (codes "match") head (response_branches good bad es) at
expression (Call f) es at = headed f.name f.span es at
expression (ContractCall head contract function callee) es at = headed (codes "contract-call?") head (target contract ∷ word function ∷ es) at
