-- Items taken apart.
use Rattle.std.specs.Prelude.{ℕ, List, [], ◌∷◌, map, Option, Some, None}
use Rattle.std.specs.Borrow.{Bor}
use Rattle.cl_sexpr.specs.declared.sexpr.Span.{Span}
use Rattle.cl_sexpr.specs.Tree.{Tree, LeafAt, ListAt, Named, Unsigned}
use Rattle.cl_forms.specs.Shapes.{trees_of, MatchParts, OptionalMatch, ResponseMatch}
use Rattle.cl_audit_steps.specs.declared.items.MatchParts.{MatchParts as PartsOfCode}
use Rattle.cl_audit_steps.specs.declared.items.MatchParts.TheVariants as code

abbrev pub one_of : List Tree → Option Tree
one_of (x ∷ []) = Some x
one_of es = None

abbrev pub two_of : List Tree → Option (Tree × Tree)
two_of (x ∷ y ∷ []) = Some (x, y)
two_of es = None

abbrev pub three_of : List Tree → Option (Tree × Tree × Tree)
three_of (x ∷ y ∷ z ∷ []) = Some (x, y, z)
three_of es = None

abbrev pub one_seen : Option (Bor Tree) → Option Tree
one_seen None = None
one_seen (Some x) = Some x.now

abbrev pub two_seen : Option (Bor Tree × Bor Tree) → Option (Tree × Tree)
two_seen None = None
two_seen (Some p) = Some (p.0.now, p.1.now)

abbrev pub three_seen : Option (Bor Tree × Bor Tree × Bor Tree) → Option (Tree × Tree × Tree)
three_seen None = None
three_seen (Some p) = Some (p.0.now, p.1.now, p.2.now)

-- the name that an item is
abbrev pub atom_of : Tree → Option (List ℕ)
atom_of (LeafAt (Named x) at) = Some x
atom_of e = None

-- the uint that an item is
abbrev pub uint_of : Tree → Option ℕ
uint_of (LeafAt (Unsigned n) at) = Some n
uint_of e = None

-- the name that an item is, and its span
abbrev pub word_of : Tree → Option (List ℕ × Span)
word_of (LeafAt (Named x) at) = Some (x, at)
word_of e = None

abbrev pub word_seen : Option (Bor (List ℕ) × Span) → Option (List ℕ × Span)
word_seen None = None
word_seen (Some p) = Some (p.0.now, p.1)

abbrev pub headed_by : Option (List ℕ) → List Tree → Option (List ℕ × List Tree)
headed_by None es = None
headed_by (Some x) es = Some (x, es)

-- the name that items begin with, and the others
abbrev pub headed : List Tree → Option (List ℕ × List Tree)
headed [] = None
headed (e ∷ es) = headed_by (atom_of e) es

abbrev pub headed_seen : Option (Bor (List ℕ) × Bor (List Tree)) → Option (List ℕ × List Tree)
headed_seen None = None
headed_seen (Some p) = Some (p.0.now, p.1.now)

abbrev pub worded_by : Option (List ℕ × Span) → List Tree → Option (List ℕ × Span × List Tree)
worded_by None es = None
worded_by (Some w) es = Some (w.0, w.1, es)

-- the name that items begin with, its span, and the others
abbrev pub worded : List Tree → Option (List ℕ × Span × List Tree)
worded [] = None
worded (e ∷ es) = worded_by (word_of e) es

abbrev pub worded_seen : Option (Bor (List ℕ) × Span × Bor (List Tree)) → Option (List ℕ × Span × List Tree)
worded_seen None = None
worded_seen (Some p) = Some (p.0.now, p.1, p.2.now)

abbrev pub pair_named : Option (List ℕ) → Tree → Option (List ℕ × Tree)
pair_named None e = None
pair_named (Some x) e = Some (x, e)

abbrev pub pair_in : Option (Tree × Tree) → Option (List ℕ × Tree)
pair_in None = None
pair_in (Some p) = pair_named (atom_of p.0) p.1

-- a name and an item, where the items are these two
abbrev pub named_of : List Tree → Option (List ℕ × Tree)
named_of es = pair_in (two_of es)

abbrev pub named_seen : Option (Bor (List ℕ) × Bor Tree) → Option (List ℕ × Tree)
named_seen None = None
named_seen (Some p) = Some (p.0.now, p.1.now)

abbrev pub called_by : Tree → Option (List ℕ × List Tree) → Option (Tree × List ℕ × List Tree)
called_by e None = None
called_by e (Some p) = Some (e, p.0, p.1)

-- the parts of contract-call?: the item of the contract, the function's name, and the arguments
abbrev pub called_of : List Tree → Option (Tree × List ℕ × List Tree)
called_of [] = None
called_of (e ∷ es) = called_by e (headed es)

abbrev pub called_seen : Option (Bor Tree × Bor (List ℕ) × Bor (List Tree)) → Option (Tree × List ℕ × List Tree)
called_seen None = None
called_seen (Some p) = Some (p.0.now, p.1.now, p.2.now)

-- keys and expressions as the code holds them
abbrev pub fields_seen : List (Bor (List ℕ) × Bor Tree) → List (List ℕ × Tree)
fields_seen fs = map (λ f. (f.0.now, f.1.now)) fs

-- the items of a list
abbrev pub items_of : Tree → Option (List Tree)
items_of (ListAt es at) = Some (trees_of es)
items_of e = None

abbrev pub listed_by : Option (List Tree) → List Tree → Option (List Tree × List Tree)
listed_by None es = None
listed_by (Some inner) es = Some (inner, es)

-- the items that items begin with, and the others
abbrev pub listed : List Tree → Option (List Tree × List Tree)
listed [] = None
listed (e ∷ es) = listed_by (items_of e) es

abbrev pub listed_seen : Option (Bor (List Tree) × Bor (List Tree)) → Option (List Tree × List Tree)
listed_seen None = None
listed_seen (Some p) = Some (p.0.now, p.1.now)

abbrev pub parts_seen : Option PartsOfCode → Option MatchParts
parts_seen None = None
parts_seen (Some (code.Optional i x a b)) = Some (OptionalMatch i.now x.now a.now b.now)
parts_seen (Some (code.Response i x a y b)) = Some (ResponseMatch i.now x.now a.now y.now b.now)
