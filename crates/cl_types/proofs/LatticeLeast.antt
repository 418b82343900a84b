-- Going down two types gives their least supertype, or there is none.
use Rattle.std.proofs.Common.{◌≡◌, ℕ, Bool, true, false, max, nat_eq, List, Option, Some, None, option_map, if◌then◌else◌, refl, sym, ap, ◌∙◌, subst, arith}
use Rattle.std.specs.Cmp.Lexicographic.{pointwise}
use Rattle.cl_types.specs.Types.{PlainType, NoType, IntType, UintType, BoolType, PrincipalType, BuffType, AsciiType, Utf8Type, ListType, TupleType, OptionalType, ResponseType, Fields, NoField, Field, admits, admits_fields, IsLeastSupertype, HaveNoSupertype}
use Rattle.cl_types.specs.Lattice.{both, joined, joined_fields}
use Rattle.cl_types.specs.Above.{above_buff, above_ascii, above_utf8, above_list, above_tuple, above_optional, above_response, above_none, above_field}
use Rattle.cl_types.proofs.Lattice.{and_left, and_right, and_both, le_left, le_right, le_max, key_same, key_back, key_trans, admits_same, admits_both}

no : false ≡ true → ⊥
no h = cc

-- the kind of a type

abbrev kind : PlainType → ℕ
kind NoType = 0
kind IntType = 1
kind UintType = 2
kind BoolType = 3
kind PrincipalType = 4
kind (BuffType n) = 5
kind (AsciiType n) = 6
kind (Utf8Type n) = 7
kind (ListType n t) = 8
kind (TupleType fs) = 9
kind (OptionalType t) = 10
kind (ResponseType t e) = 11

-- what admits a type other than the empty one is of its kind
admits_kind : (d b : PlainType) → admits d b ≡ true → nat_eq (kind b) 0 ≡ false → kind d ≡ kind b
admits_kind d NoType h k = absurd (cc)
admits_kind IntType IntType h k = refl
admits_kind UintType UintType h k = refl
admits_kind BoolType BoolType h k = refl
admits_kind PrincipalType PrincipalType h k = refl
admits_kind (BuffType m) (BuffType n) h k = refl
admits_kind (AsciiType m) (AsciiType n) h k = refl
admits_kind (Utf8Type m) (Utf8Type n) h k = refl
admits_kind (ListType m a) (ListType n b) h k = refl
admits_kind (TupleType fs) (TupleType gs) h k = refl
admits_kind (OptionalType a) (OptionalType b) h k = refl
admits_kind (ResponseType a c) (ResponseType b d) h k = refl
admits_kind d b h k = absurd (no h)

clash : (a b : PlainType) → nat_eq (kind a) 0 ≡ false → nat_eq (kind b) 0 ≡ false → nat_eq (kind a) (kind b) ≡ false → HaveNoSupertype a b
clash a b ha hb differ = record {
  none = λ d h k.
      let one : kind d ≡ kind a = admits_kind d a h ha in
      let two : kind d ≡ kind b = admits_kind d b k hb in
      clash_of (kind a) (kind b) (sym one ∙ two) differ;
}
  where
    clash_of : (m n : ℕ) → m ≡ n → nat_eq m n ≡ false → ⊥
    clash_of m n e h = grind arith

-- what the join of two types has to be

abbrev Joins : PlainType → PlainType → Option PlainType → Type 0
Joins a b (Some c) = IsLeastSupertype a b c
Joins a b None = HaveNoSupertype a b

record AreLeastFields (fs gs hs : Fields) : Type 0 where
  left : admits_fields hs fs ≡ true
  right : admits_fields hs gs ≡ true
  least : (es : Fields) → admits_fields es fs ≡ true → admits_fields es gs ≡ true → admits_fields es hs ≡ true

record HaveNoFields (fs gs : Fields) : Type 0 where
  none : (es : Fields) → admits_fields es fs ≡ true → admits_fields es gs ≡ true → ⊥

abbrev JoinsFields : Fields → Fields → Option Fields → Type 0
JoinsFields fs gs (Some hs) = AreLeastFields fs gs hs
JoinsFields fs gs None = HaveNoFields fs gs

buff_joins : (m n : ℕ) → IsLeastSupertype (BuffType m) (BuffType n) (BuffType (max m n))
buff_joins m n = record {
  left = le_left m n;
  right = le_right m n;
  least = λ d h. above_buff (λ x. admits x (BuffType n) ≡ true → admits x (BuffType (max m n)) ≡ true) d m h (λ l lm ln. le_max l m n lm ln);
}

ascii_joins : (m n : ℕ) → IsLeastSupertype (AsciiType m) (AsciiType n) (AsciiType (max m n))
ascii_joins m n = record {
  left = le_left m n;
  right = le_right m n;
  least = λ d h. above_ascii (λ x. admits x (AsciiType n) ≡ true → admits x (AsciiType (max m n)) ≡ true) d m h (λ l lm ln. le_max l m n lm ln);
}

utf8_joins : (m n : ℕ) → IsLeastSupertype (Utf8Type m) (Utf8Type n) (Utf8Type (max m n))
utf8_joins m n = record {
  left = le_left m n;
  right = le_right m n;
  least = λ d h. above_utf8 (λ x. admits x (Utf8Type n) ≡ true → admits x (Utf8Type (max m n)) ≡ true) d m h (λ l lm ln. le_max l m n lm ln);
}

list_joins : (m n : ℕ) (a b : PlainType) (o : Option PlainType) → Joins a b o → Joins (ListType m a) (ListType n b) (option_map (ListType (max m n)) o)
list_joins m n a b (Some c) l = record {
  left = and_both _ _ (le_left m n) l.left;
  right = and_both _ _ (le_right m n) l.right;
  least = λ d h. above_list (λ x. admits x (ListType n b) ≡ true → admits x (ListType (max m n) c) ≡ true) d m a h
      (λ q y mq ya k. and_both _ _ (le_max q m n mq (and_left _ _ k)) (l.least y ya (and_right _ _ k)));
}
list_joins m n a b None l = record {
  none = λ d h. above_list (λ x. admits x (ListType n b) ≡ true → ⊥) d m a h (λ q y mq ya k. l.none y ya (and_right _ _ k));
}

tuple_joins : (fs gs : Fields) (o : Option Fields) → JoinsFields fs gs o → Joins (TupleType fs) (TupleType gs) (option_map TupleType o)
tuple_joins fs gs (Some hs) l = record {
  left = l.left;
  right = l.right;
  least = λ d h. above_tuple (λ x. admits x (TupleType gs) ≡ true → admits x (TupleType hs) ≡ true) d fs h l.least;
}
tuple_joins fs gs None l = record {
  none = λ d h. above_tuple (λ x. admits x (TupleType gs) ≡ true → ⊥) d fs h l.none;
}

optional_joins : (a b : PlainType) (o : Option PlainType) → Joins a b o → Joins (OptionalType a) (OptionalType b) (option_map OptionalType o)
optional_joins a b (Some c) l = record {
  left = l.left;
  right = l.right;
  least = λ d h. above_optional (λ x. admits x (OptionalType b) ≡ true → admits x (OptionalType c) ≡ true) d a h l.least;
}
optional_joins a b None l = record {
  none = λ d h. above_optional (λ x. admits x (OptionalType b) ≡ true → ⊥) d a h l.none;
}

response_joins : (a b c d : PlainType) (o p : Option PlainType) → Joins a b o → Joins c d p → Joins (ResponseType a c) (ResponseType b d) (both ResponseType o p)
response_joins a b c d (Some x) (Some y) l m = record {
  left = and_both _ _ l.left m.left;
  right = and_both _ _ l.right m.right;
  least = λ u h. above_response (λ z. admits z (ResponseType b d) ≡ true → admits z (ResponseType x y) ≡ true) u a c h
      (λ v w va wc k. and_both _ _ (l.least v va (and_left _ _ k)) (m.least w wc (and_right _ _ k)));
}
response_joins a b c d (Some x) None l m = record {
  none = λ u h. above_response (λ z. admits z (ResponseType b d) ≡ true → ⊥) u a c h (λ v w va wc k. m.none w wc (and_right _ _ k));
}
response_joins a b c d None p l m = record {
  none = λ u h. above_response (λ z. admits z (ResponseType b d) ≡ true → ⊥) u a c h (λ v w va wc k. l.none v va (and_left _ _ k));
}

field_joins : (j k : List ℕ) (a b : PlainType) (fs gs : Fields) (same : Bool) (o : Option PlainType) (p : Option Fields) → pointwise nat_eq j k ≡ same → Joins a b o → JoinsFields fs gs p → JoinsFields (Field j a fs) (Field k b gs) (if same then both (Field j) o p else None)
field_joins j k a b fs gs true (Some c) (Some hs) e l m = record {
  left = and_both _ _ (and_both _ _ (key_same j) l.left) m.left;
  right = and_both _ _ (and_both _ _ e l.right) m.right;
  least = λ es h. above_field (λ z. admits_fields z (Field k b gs) ≡ true → admits_fields z (Field j c hs) ≡ true) es j a fs h
      (λ i y ys ij ya ysf g. and_both _ _ (and_both _ _ ij (l.least y ya (and_right _ _ (and_left _ (admits_fields ys gs) g)))) (m.least ys ysf (and_right _ (admits_fields ys gs) g)));
}
field_joins j k a b fs gs true (Some c) None e l m = record {
  none = λ es h. above_field (λ z. admits_fields z (Field k b gs) ≡ true → ⊥) es j a fs h
      (λ i y ys ij ya ysf g. m.none ys ysf (and_right _ (admits_fields ys gs) g));
}
field_joins j k a b fs gs true None p e l m = record {
  none = λ es h. above_field (λ z. admits_fields z (Field k b gs) ≡ true → ⊥) es j a fs h
      (λ i y ys ij ya ysf g. l.none y ya (and_right (pointwise nat_eq i k) _ (and_left _ (admits_fields ys gs) g)));
}
field_joins j k a b fs gs false o p e l m = record {
  none = λ es h. above_field (λ z. admits_fields z (Field k b gs) ≡ true → ⊥) es j a fs h
      (λ i y ys ij ya ysf g.
      let ik : pointwise nat_eq i k ≡ true = and_left _ (admits y b) (and_left _ (admits_fields ys gs) g) in
      no (sym e ∙ key_trans j i k (key_back i j ij) ik));
}

mutual
  joins : (a b : PlainType) → Joins a b (joined a b)
  joins a NoType = record { left = admits_same a; right = refl; least = λ d h k. h }
  joins NoType b = record { left = refl; right = admits_same b; least = λ d h k. k }
  joins IntType IntType = record { left = refl; right = refl; least = λ d h k. h }
  joins UintType UintType = record { left = refl; right = refl; least = λ d h k. h }
  joins BoolType BoolType = record { left = refl; right = refl; least = λ d h k. h }
  joins PrincipalType PrincipalType = record { left = refl; right = refl; least = λ d h k. h }
  joins (BuffType m) (BuffType n) = buff_joins m n
  joins (AsciiType m) (AsciiType n) = ascii_joins m n
  joins (Utf8Type m) (Utf8Type n) = utf8_joins m n
  joins (ListType m a) (ListType n b) = list_joins m n a b (joined a b) (joins a b)
  joins (TupleType fs) (TupleType gs) = tuple_joins fs gs (joined_fields fs gs) (joins_fields fs gs)
  joins (OptionalType a) (OptionalType b) = optional_joins a b (joined a b) (joins a b)
  joins (ResponseType a c) (ResponseType b d) = response_joins a b c d (joined a b) (joined c d) (joins a b) (joins c d)
  joins a b = clash _ _ refl refl refl

  joins_fields : (fs gs : Fields) → JoinsFields fs gs (joined_fields fs gs)
  joins_fields NoField NoField = record { left = refl; right = refl; least = λ es h k. h }
  joins_fields (Field j a fs) (Field k b gs) = field_joins j k a b fs gs (pointwise nat_eq j k) (joined a b) (joined_fields fs gs) refl (joins a b) (joins_fields fs gs)
  joins_fields NoField (Field k b gs) = record { none = λ es h. above_none (λ x. admits_fields x (Field k b gs) ≡ true → ⊥) es h (λ g. no g) }
  joins_fields (Field j a fs) NoField = record { none = λ es h k. above_none (λ x. admits_fields x (Field j a fs) ≡ true → ⊥) es k (λ g. no g) h }

pub is_least : (a b c : PlainType) → joined a b ≡ Some c → IsLeastSupertype a b c
is_least a b c e = subst (Joins a b) e (joins a b)

pub none_above : (a b : PlainType) → joined a b ≡ None → HaveNoSupertype a b
none_above a b e = subst (Joins a b) e (joins a b)

-- there is at most one least supertype
pub one_least : (a b c d : PlainType) → IsLeastSupertype a b c → IsLeastSupertype a b d → c ≡ d
one_least a b c d l m = admits_both c d (m.least c l.left l.right) (l.least d m.left m.right)

pub never_both : (a b c : PlainType) → IsLeastSupertype a b c → HaveNoSupertype a b → ⊥
never_both a b c l n = n.none c l.left l.right

-- so the least supertype is what the two join to, and where they have none they join to nothing
pub least_joined : (a b c : PlainType) → IsLeastSupertype a b c → joined a b ≡ Some c
least_joined a b c l = by (joined a b) (joins a b)
  where
    by : (o : Option PlainType) → Joins a b o → o ≡ Some c
    by (Some d) m = ap Some (one_least a b d c m l)
    by None n = absurd (never_both a b c l n)

pub none_joined : (a b : PlainType) → HaveNoSupertype a b → joined a b ≡ None
none_joined a b n = by (joined a b) (joins a b)
  where
    by : (o : Option PlainType) → Joins a b o → o ≡ None
    by (Some d) m = absurd (never_both a b d m n)
    by None m = refl
