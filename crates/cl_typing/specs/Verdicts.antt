-- What the code's verdicts stand for: all but bounds.
use Rattle.std.specs.Prelude.{◌≡◌, ℕ, min, max, nat_le, Bool, true, false, ◌&&◌, List, [], ◌∷◌, map, Option, Some, None, Result, Ok, Err}
use Rattle.cl_types.specs.Types.{PlainType, depth_of}
use Rattle.cl_types.specs.Sized.{everywhere, keys_are_names, keys_rise, is_within}
use Rattle.cl_types.specs.declared.fault.Fault.{Fault}
use Rattle.cl_types.specs.declared.fault.Fault.TheVariants.{Refused, NoMemory}
use Rattle.cl_types.specs.declared.sized.TyRefusal.{TyRefusal}
use Rattle.cl_types.specs.declared.sized.TyRefusal.TheVariants.{Differ}
use Rattle.cl_sexpr.specs.declared.rule.Rule.{Rule}
use Rattle.cl_values.specs.declared.native.Native.{Native}
use Rattle.cl_values.specs.declared.native.Native.TheVariants.{Add, Subtract, Multiply, Divide, Modulo, Power, Xor, SquareRoot, Log2, Less, AtMost, Greater, AtLeast, Same, MakeList, BitAnd, BitOr, BitXor, BitNot}
use Rattle.cl_sexpr.specs.declared.rule.Rule.TheVariants.{ArgumentKind, NotSame, TooLarge, ThrownDiffer, UnusedResponse, NoSuchKey}
use Rattle.cl_rules.specs.Faults.{type_rules}
use Rattle.cl_rules.specs.NativeTypes.{Ruled, and_lub, lub_then}
use Rattle.cl_rules.specs.Bills.{Bill}
use Rattle.cl_rules.specs.Verdicts.{Found, Verdict, Thrown, so_far, and_throws, thrown_after, concluded, types_of}
use Rattle.cl_sexpr.specs.Tree.{Tree}
use Rattle.cl_code.specs.Typed.{expression_of, type_of}
use Rattle.cl_typing.specs.declared.concluding.Checked.{Checked}
use Rattle.cl_typing.specs.declared.concluding.Concluded.{Concluded}

-- a height as the code counts it: up to the end of its type
abbrev pub counted : ℕ → ℕ
counted height = min height 4294967295

-- what is found of an expression, but its bound
pub record Facts : Type 0 where
  pub type : PlainType
  pub thrown : Option PlainType
  pub height : ℕ

abbrev pub facts : Found → Facts
facts f = record { type = f.type; thrown = f.thrown; height = counted f.height }

abbrev pub facts_of : Checked → Facts
facts_of c = record { type = type_of c.code; thrown = c.thrown; height = c.height }

abbrev pub facts_concluded : Concluded → Facts
facts_concluded c = record { type = c.ty; thrown = c.thrown; height = c.height }

-- the first of the rules
abbrev pub first_rule : List Rule → Option Rule
first_rule [] = None
first_rule (r ∷ rs) = Some r

-- the type that a ruling gives, or the first rule that it breaks; and what the expression throws itself
abbrev pub RulesWith : Option PlainType → Ruled → Result PlainType (Fault Rule) → Type 0
RulesWith own ruled (Ok t) = (type_rules ruled.faults ≡ []) × (ruled.type ≡ t) × (ruled.throws ≡ own)
RulesWith own ruled (Err (Refused r)) = (first_rule (type_rules ruled.faults) ≡ Some r) × (ruled.throws ≡ own)
RulesWith own ruled (Err NoMemory) = Unit {0}

-- the same of an expression that throws nothing itself
abbrev pub Rules : Ruled → Result PlainType (Fault Rule) → Type 0
Rules = RulesWith None

-- a least supertype, or the rule that its refusal breaks, whatever is made of it
abbrev pub Lubs : Result PlainType TyRefusal → Result PlainType (Fault Rule) → Type 0
Lubs r (Ok t) = r ≡ Ok t
Lubs r (Err (Refused rule)) = (make : PlainType → Ruled) → Rules (and_lub r make) (Err (Refused rule))
Lubs r (Err NoMemory) = Unit {0}

-- the least supertype of several types, or the first rule that is broken, whatever is made of it
abbrev pub Joins : PlainType → List PlainType → Result PlainType (Fault Rule) → Type 0
Joins t ts (Ok u) = (make : PlainType → Ruled) → lub_then t ts make ≡ make u
Joins t ts (Err (Refused rule)) = (make : PlainType → Ruled) → Rules (lub_then t ts make) (Err (Refused rule))
Joins t ts (Err NoMemory) = Unit {0}

-- a type that is within the limits as it stands
abbrev pub is_fit : PlainType → Bool
is_fit t = everywhere keys_are_names t && (everywhere keys_rise t && (nat_le (depth_of t) 32 && everywhere is_within t))

-- the only type, the only two, and the only three
abbrev pub one_of : List PlainType → Option PlainType
one_of (t ∷ []) = Some t
one_of ts = None

abbrev pub two_of : List PlainType → Option (PlainType × PlainType)
two_of (t ∷ u ∷ []) = Some (t, u)
two_of ts = None

abbrev pub three_of : List PlainType → Option (PlainType × PlainType × PlainType)
three_of (t ∷ u ∷ s ∷ []) = Some (t, u, s)
three_of ts = None

-- a native whose row is one of a list of types
abbrev pub is_list_row : Native → Bool
is_list_row Add = true
is_list_row Subtract = true
is_list_row Multiply = true
is_list_row Divide = true
is_list_row Modulo = true
is_list_row Power = true
is_list_row Xor = true
is_list_row SquareRoot = true
is_list_row Log2 = true
is_list_row Less = true
is_list_row AtMost = true
is_list_row Greater = true
is_list_row AtLeast = true
is_list_row Same = true
is_list_row MakeList = true
is_list_row BitAnd = true
is_list_row BitOr = true
is_list_row BitXor = true
is_list_row BitNot = true
is_list_row native = false

-- what a verdict finds, or the first rule that it breaks
abbrev pub Concludes : Verdict → Result Concluded (Fault Rule) → Type 0
Concludes v (Ok c) = (type_rules v.faults ≡ []) × (facts v.found ≡ facts_concluded c)
Concludes v (Err (Refused r)) = first_rule (type_rules v.faults) ≡ Some r
Concludes v (Err NoMemory) = Unit {0}

-- what is thrown where a least supertype is refused
abbrev pub refused_throws : TyRefusal → Thrown
refused_throws refusal = and_throws (Err refusal) (λ t. so_far (Some t))

-- the least supertype of what is thrown, or why there is none
abbrev pub Throws : Thrown → Result (Option PlainType) (Fault TyRefusal) → Type 0
Throws t (Ok o) = t ≡ so_far o
Throws t (Err (Refused refusal)) = t ≡ refused_throws refusal
Throws t (Err NoMemory) = Unit {0}

-- the same of one step, whatever is thrown after it
abbrev pub ThrowsOn : Option PlainType → Option PlainType → Result (Option PlainType) (Fault TyRefusal) → Type 0
ThrowsOn t u (Ok o) = (ts : List (Option PlainType)) → thrown_after t (u ∷ ts) ≡ thrown_after o ts
ThrowsOn t u (Err (Refused refusal)) = (ts : List (Option PlainType)) → thrown_after t (u ∷ ts) ≡ refused_throws refusal
ThrowsOn t u (Err NoMemory) = Unit {0}

-- what the parts throw, and then the node itself
abbrev pub throws_of : List Checked → Option PlainType → List (Option PlainType)
throws_of [] own = own ∷ []
throws_of (c ∷ cs) own = c.thrown ∷ throws_of cs own

-- the greatest height of the parts
abbrev pub heights : List Checked → ℕ
heights [] = 0
heights (c ∷ cs) = max c.height (heights cs)

abbrev pub before_differ : Rule → Rule
before_differ UnusedResponse = ThrownDiffer
before_differ NoSuchKey = ThrownDiffer
before_differ rule = rule

abbrev pub before_large : Rule → Rule
before_large ArgumentKind = ArgumentKind
before_large NotSame = NotSame
before_large rule = TooLarge

-- the first of a rule that is broken at the types, and of the one that what is thrown breaks
abbrev pub first_with : Rule → TyRefusal → Rule
first_with rule Differ = before_differ rule
first_with rule refusal = before_large rule

abbrev pub fault_with : Fault Rule → TyRefusal → Fault Rule
fault_with (Refused rule) refusal = Refused (first_with rule refusal)
fault_with NoMemory refusal = NoMemory

-- What the code concludes from the type that a row gives, what the node throws itself, the height of what it applies and its
-- parts: whatever the ruling, the bound and what is found of the parts, so far as the code knows them.
abbrev pub ConcludesAs : Result PlainType (Fault Rule) → Option PlainType → ℕ → List Checked → Result Concluded (Fault Rule) → Type 0
ConcludesAs ruled own applied parts result = (R : Ruled) (bound : Bill) (fs : List Found) → RulesWith own R ruled → map facts fs ≡ map facts_of parts → Concludes (concluded R applied bound fs) result

-- the expressions of the parts
abbrev pub texts_of : List Checked → List Tree
texts_of cs = map (λ (c : Checked). expression_of c.code) cs

-- the types of the parts
abbrev pub types_at : List Checked → List PlainType
types_at cs = map (λ (c : Checked). type_of c.code) cs

-- The verdict of a ruling on the types of the parts, which applies something of this height: whatever the bound and what is
-- found of the parts, so far as the code knows them.
abbrev pub ConcludesRow : (List PlainType → Ruled) → ℕ → List Checked → Result Concluded (Fault Rule) → Type 0
ConcludesRow row applied parts result = (bound : Bill) (fs : List Found) → map facts fs ≡ map facts_of parts → Concludes (concluded (row (types_of fs)) applied bound fs) result
