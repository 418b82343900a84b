-- Rows of keys with their types, side by side.
use Rattle.std.proofs.Common.{◌≡◌, ℕ, ◌+◌, ◌<◌, ◌≤◌, ◌++◌, Bool, true, false, ◌&&◌, ◌==◌, nat_eq, List, [], ◌∷◌, length, drop, get_or, Option, Some, None, option_map, if◌then◌else◌, refl, sym, ap, ◌∙◌, arith}
use Rattle.std.proofs.Math.Bool.{and-false}
use Rattle.std.proofs.lemmas.List.{drop_all}
use Rattle.std.specs.Cmp.Lexicographic.{pointwise}
use Rattle.cl_types.specs.Types.{PlainType, Fields, NoField, Field, fields, admits, admits_fields}
use Rattle.cl_types.specs.TypeRows.{fields_at}
use Rattle.cl_types.specs.Lattice.{both, joined, joined_fields, field_joined}

-- rows of different lengths don't admit one another
pub rows_differ : (a b : List (List ℕ × PlainType)) → (length a == length b) ≡ false → false ≡ admits_fields (fields a) (fields b)
rows_differ [] [] h = absurd (cc)
rows_differ [] (g ∷ b) h = refl
rows_differ (f ∷ a) [] h = refl
rows_differ (f ∷ a) (g ∷ b) h =
    let less : (length a == length b) ≡ false = grind arith in
    sym (and-false _) ∙ ap (λ (x : Bool). (pointwise nat_eq f.0 g.0 && admits f.1 g.1) && x) (rows_differ a b less)

same_length : (m n : ℕ) → (m == n) ≡ true → m ≡ n
same_length m n h = grind arith

nothing : (k : List ℕ) (same : Bool) (o : Option PlainType) → None ≡ (if same then both (Field k) o None else None)
nothing k true (Some t) = refl
nothing k true None = refl
nothing k false o = refl

-- rows of different lengths have no least supertype
pub rows_apart : (a b : List (List ℕ × PlainType)) → (length a == length b) ≡ false → None ≡ joined_fields (fields a) (fields b)
rows_apart [] [] h = absurd (cc)
rows_apart [] (g ∷ b) h = refl
rows_apart (f ∷ a) [] h = refl
rows_apart (f ∷ a) (g ∷ b) h =
    let less : (length a == length b) ≡ false = grind arith in
    nothing f.0 (pointwise nat_eq f.0 g.0) (joined f.1 g.1) ∙ ap (λ (o : Option Fields). if pointwise nat_eq f.0 g.0 then both (Field f.0) (joined f.1 g.1) o else None) (rows_apart a b less)

-- a key in front of the others, where both are there
abbrev ahead : Option (List ℕ × PlainType) → Option Fields → Option Fields
ahead None o = None
ahead (Some f) o = option_map (Field f.0 f.1) o

ahead_is : (k : List ℕ) (same : Bool) (o : Option PlainType) (p : Option Fields) → (if same then both (Field k) o p else None) ≡ ahead (if same then option_map (λ t. (k, t)) o else None) p
ahead_is k true (Some t) (Some fs) = refl
ahead_is k true (Some t) None = refl
ahead_is k true None p = refl
ahead_is k false o p = refl

rows_step : (a b : List (List ℕ × PlainType)) (i : ℕ) (f g : List ℕ × PlainType) → i < length a → i < length b → f ≡ get_or a i f → g ≡ get_or b i g → joined_fields (fields (drop i a)) (fields (drop i b)) ≡ ahead (field_joined f g) (joined_fields (fields (drop (i + 1) a)) (fields (drop (i + 1) b)))
rows_step a b i f g h k at bt =
    let one : fields (drop i a) ≡ Field f.0 f.1 (fields (drop (i + 1) a)) = fields_at a i f h at in
    let two : fields (drop i b) ≡ Field g.0 g.1 (fields (drop (i + 1) b)) = fields_at b i g k bt in
    ap (λ (x : Fields). joined_fields x (fields (drop i b))) one
    ∙ ap (λ (x : Fields). joined_fields (Field f.0 f.1 (fields (drop (i + 1) a))) x) two
    ∙ ahead_is f.0 (pointwise nat_eq f.0 g.0) (joined f.1 g.1) (joined_fields (fields (drop (i + 1) a)) (fields (drop (i + 1) b)))

-- these keys in front of the others, if there are others
abbrev before : List (List ℕ × PlainType) → Option Fields → Option Fields
before [] o = o
before (f ∷ fs) o = option_map (Field f.0 f.1) (before fs o)

before_none : (row : List (List ℕ × PlainType)) → before row None ≡ None
before_none [] = refl
before_none (f ∷ row) = ap (option_map (Field f.0 f.1)) (before_none row)

before_more : (row : List (List ℕ × PlainType)) (f : List ℕ × PlainType) (o : Option Fields) → before row (option_map (Field f.0 f.1) o) ≡ before (row ++ f ∷ []) o
before_more [] f o = refl
before_more (g ∷ row) f o = ap (option_map (Field g.0 g.1)) (before_more row f o)

before_all : (row : List (List ℕ × PlainType)) → before row (Some NoField) ≡ Some (fields row)
before_all [] = refl
before_all (f ∷ row) = ap (option_map (Field f.0 f.1)) (before_all row)

-- the join of two rows, where it has come to a place
abbrev pub Reaches : (a b : List (List ℕ × PlainType)) (i : ℕ) (row : List (List ℕ × PlainType)) → Type 0
Reaches a b i row = joined_fields (fields a) (fields b) ≡ before row (joined_fields (fields (drop i a)) (fields (drop i b)))

pub stops : (a b row : List (List ℕ × PlainType)) (i : ℕ) (f g : List ℕ × PlainType) (o : Option (List ℕ × PlainType)) → i < length a → (length a == length b) ≡ true → f ≡ get_or a i f → g ≡ get_or b i g → o ≡ field_joined f g → None ≡ o → Reaches a b i row → None ≡ joined_fields (fields a) (fields b)
stops a b row i f g o h same at bt is none r =
    let k : i < length b = omega (arith, same_length (length a) (length b) same) in
    sym (r ∙ ap (before row) (rows_step a b i f g h k at bt ∙ ap (λ (p : Option (List ℕ × PlainType)). ahead p (joined_fields (fields (drop (i + 1) a)) (fields (drop (i + 1) b)))) (sym (none ∙ is))) ∙ before_none row)

pub goes_on : (a b row : List (List ℕ × PlainType)) (i : ℕ) (f g h : List ℕ × PlainType) (o : Option (List ℕ × PlainType)) → i < length a → (length a == length b) ≡ true → f ≡ get_or a i f → g ≡ get_or b i g → o ≡ field_joined f g → Some h ≡ o → Reaches a b i row → Reaches a b (i + 1) (row ++ h ∷ [])
goes_on a b row i f g h o less same at bt is some r =
    let k : i < length b = omega (arith, same_length (length a) (length b) same) in
    r ∙ ap (before row) (rows_step a b i f g less k at bt ∙ ap (λ (p : Option (List ℕ × PlainType)). ahead p (joined_fields (fields (drop (i + 1) a)) (fields (drop (i + 1) b)))) (sym (some ∙ is))) ∙ before_more row h _

pub ends : (a b row : List (List ℕ × PlainType)) (i : ℕ) → length a ≤ i → (length a == length b) ≡ true → Reaches a b i row → Some (fields row) ≡ joined_fields (fields a) (fields b)
ends a b row i h same r =
    let k : length b ≤ i = omega (arith, same_length (length a) (length b) same) in
    sym (r ∙ ap (λ (x : List (List ℕ × PlainType)). before row (joined_fields (fields x) (fields (drop i b)))) (drop_all i a h) ∙ ap (λ (x : List (List ℕ × PlainType)). before row (joined_fields NoField (fields x))) (drop_all i b k) ∙ before_all row)
