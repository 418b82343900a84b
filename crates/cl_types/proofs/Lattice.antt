-- Admission is an order, and going down two types gives their least supertype.
use Rattle.std.proofs.Common.{◌≡◌, ℕ, Bool, true, false, ◌&&◌, max, nat_eq, nat_le, List, [], ◌∷◌, refl, sym, ap, subst, arith}
use Rattle.std.specs.Cmp.Lexicographic.{pointwise, same_text}
use Rattle.cl_types.specs.Types.{PlainType, NoType, IntType, UintType, BoolType, PrincipalType, BuffType, AsciiType, Utf8Type, ListType, TupleType, OptionalType, ResponseType, Fields, NoField, Field, admits, admits_fields}
use Rattle.cl_types.specs.Above.{above_int, above_uint, above_bool, above_principal, above_buff, above_ascii, above_utf8, above_list, above_tuple, above_optional, above_response, above_none, above_field}

pub and_left : (a b : Bool) → (a && b) ≡ true → a ≡ true
and_left true b h = refl
and_left false b h = h

pub and_right : (a b : Bool) → (a && b) ≡ true → b ≡ true
and_right true b h = h
and_right false b h = absurd (cc h)

pub and_both : (a b : Bool) → a ≡ true → b ≡ true → (a && b) ≡ true
and_both true b h k = k
and_both false b h k = h

no : false ≡ true → ⊥
no h = cc

-- numbers and keys

pub le_same : (n : ℕ) → nat_le n n ≡ true
le_same n = grind arith

pub le_trans : (l m n : ℕ) → nat_le m l ≡ true → nat_le n m ≡ true → nat_le n l ≡ true
le_trans l m n h k = grind arith

le_both : (m n : ℕ) → nat_le n m ≡ true → nat_le m n ≡ true → m ≡ n
le_both m n h k = grind arith

pub le_left : (m n : ℕ) → nat_le m (max m n) ≡ true
le_left m n = grind arith

pub le_right : (m n : ℕ) → nat_le n (max m n) ≡ true
le_right m n = grind arith

pub le_max : (l m n : ℕ) → nat_le m l ≡ true → nat_le n l ≡ true → nat_le (max m n) l ≡ true
le_max l m n h k = grind arith

same_number : (n : ℕ) → nat_eq n n ≡ true
same_number n = grind arith

pub key_same : (k : List ℕ) → pointwise nat_eq k k ≡ true
key_same [] = refl
key_same (c ∷ k) = and_both _ _ (same_number c) (key_same k)

pub keys_equal : (j k : List ℕ) → pointwise nat_eq j k ≡ true → j ≡ k
keys_equal j k h = same_text j k (sym h)

pub key_trans : (i j k : List ℕ) → pointwise nat_eq i j ≡ true → pointwise nat_eq j k ≡ true → pointwise nat_eq i k ≡ true
key_trans i j k g h = subst (λ (x : List ℕ). pointwise nat_eq i x ≡ true) (keys_equal j k h) g

pub key_back : (j k : List ℕ) → pointwise nat_eq j k ≡ true → pointwise nat_eq k j ≡ true
key_back j k h = subst (λ (x : List ℕ). pointwise nat_eq x j ≡ true) (keys_equal j k h) (key_same j)

-- admission is an order

mutual
  pub admits_same : (a : PlainType) → admits a a ≡ true
  admits_same NoType = refl
  admits_same IntType = refl
  admits_same UintType = refl
  admits_same BoolType = refl
  admits_same PrincipalType = refl
  admits_same (BuffType n) = le_same n
  admits_same (AsciiType n) = le_same n
  admits_same (Utf8Type n) = le_same n
  admits_same (ListType n a) = and_both _ _ (le_same n) (admits_same a)
  admits_same (TupleType fs) = admits_fields_same fs
  admits_same (OptionalType a) = admits_same a
  admits_same (ResponseType a b) = and_both _ _ (admits_same a) (admits_same b)

  admits_fields_same : (fs : Fields) → admits_fields fs fs ≡ true
  admits_fields_same NoField = refl
  admits_fields_same (Field k a fs) = and_both _ _ (and_both _ _ (key_same k) (admits_same a)) (admits_fields_same fs)

mutual
  pub admits_trans : (a b c : PlainType) → admits a b ≡ true → admits b c ≡ true → admits a c ≡ true
  admits_trans a b NoType h k = refl
  admits_trans a b IntType h k = above_int (λ x. admits a x ≡ true → admits a IntType ≡ true) b k (λ g. g) h
  admits_trans a b UintType h k = above_uint (λ x. admits a x ≡ true → admits a UintType ≡ true) b k (λ g. g) h
  admits_trans a b BoolType h k = above_bool (λ x. admits a x ≡ true → admits a BoolType ≡ true) b k (λ g. g) h
  admits_trans a b PrincipalType h k = above_principal (λ x. admits a x ≡ true → admits a PrincipalType ≡ true) b k (λ g. g) h
  admits_trans a b (BuffType n) h k = above_buff (λ x. admits a x ≡ true → admits a (BuffType n) ≡ true) b n k
      (λ m mn. λ g. above_buff (λ x. admits x (BuffType n) ≡ true) a m g (λ l lm. le_trans l m n lm mn)) h
  admits_trans a b (AsciiType n) h k = above_ascii (λ x. admits a x ≡ true → admits a (AsciiType n) ≡ true) b n k
      (λ m mn. λ g. above_ascii (λ x. admits x (AsciiType n) ≡ true) a m g (λ l lm. le_trans l m n lm mn)) h
  admits_trans a b (Utf8Type n) h k = above_utf8 (λ x. admits a x ≡ true → admits a (Utf8Type n) ≡ true) b n k
      (λ m mn. λ g. above_utf8 (λ x. admits x (Utf8Type n) ≡ true) a m g (λ l lm. le_trans l m n lm mn)) h
  admits_trans a b (ListType n z) h k = above_list (λ x. admits a x ≡ true → admits a (ListType n z) ≡ true) b n z k
      (λ m y mn yz. λ g. above_list (λ x. admits x (ListType n z) ≡ true) a m y g (λ l x lm xy. and_both _ _ (le_trans l m n lm mn) (admits_trans x y z xy yz))) h
  admits_trans a b (TupleType hs) h k = above_tuple (λ x. admits a x ≡ true → admits a (TupleType hs) ≡ true) b hs k
      (λ gs gh. λ g. above_tuple (λ x. admits x (TupleType hs) ≡ true) a gs g (λ fs fg. admits_fields_trans fs gs hs fg gh)) h
  admits_trans a b (OptionalType z) h k = above_optional (λ x. admits a x ≡ true → admits a (OptionalType z) ≡ true) b z k
      (λ y yz. λ g. above_optional (λ x. admits x (OptionalType z) ≡ true) a y g (λ x xy. admits_trans x y z xy yz)) h
  admits_trans a b (ResponseType z w) h k = above_response (λ x. admits a x ≡ true → admits a (ResponseType z w) ≡ true) b z w k
      (λ y v yz vw. λ g. above_response (λ x. admits x (ResponseType z w) ≡ true) a y v g (λ x u xy uv. and_both _ _ (admits_trans x y z xy yz) (admits_trans u v w uv vw))) h

  admits_fields_trans : (fs gs hs : Fields) → admits_fields fs gs ≡ true → admits_fields gs hs ≡ true → admits_fields fs hs ≡ true
  admits_fields_trans fs gs NoField h k = above_none (λ x. admits_fields fs x ≡ true → admits_fields fs NoField ≡ true) gs k (λ g. g) h
  admits_fields_trans fs gs (Field o z hs) h k = above_field (λ x. admits_fields fs x ≡ true → admits_fields fs (Field o z hs) ≡ true) gs o z hs k
      (λ q y ys qo yz ysh. λ g. above_field (λ x. admits_fields x (Field o z hs) ≡ true) fs q y ys g
      (λ p x xs pq xy xsy. and_both _ _ (and_both _ _ (key_trans p q o pq qo) (admits_trans x y z xy yz)) (admits_fields_trans xs ys hs xsy ysh))) h

list_equal : (m n : ℕ) (a b : PlainType) → m ≡ n → a ≡ b → ListType m a ≡ ListType n b
list_equal m n a b p q i = ListType (p i) (q i)

response_equal : (a b c d : PlainType) → a ≡ b → c ≡ d → ResponseType a c ≡ ResponseType b d
response_equal a b c d p q i = ResponseType (p i) (q i)

field_equal : (j k : List ℕ) (a b : PlainType) (fs gs : Fields) → j ≡ k → a ≡ b → fs ≡ gs → Field j a fs ≡ Field k b gs
field_equal j k a b fs gs p q r i = Field (p i) (q i) (r i)

mutual
  -- two types that admit each other are one
  pub admits_both : (a b : PlainType) → admits a b ≡ true → admits b a ≡ true → a ≡ b
  admits_both NoType NoType h k = refl
  admits_both IntType IntType h k = refl
  admits_both UintType UintType h k = refl
  admits_both BoolType BoolType h k = refl
  admits_both PrincipalType PrincipalType h k = refl
  admits_both (BuffType m) (BuffType n) h k = ap BuffType (le_both m n h k)
  admits_both (AsciiType m) (AsciiType n) h k = ap AsciiType (le_both m n h k)
  admits_both (Utf8Type m) (Utf8Type n) h k = ap Utf8Type (le_both m n h k)
  admits_both (ListType m a) (ListType n b) h k = list_equal m n a b (le_both m n (and_left _ _ h) (and_left _ _ k)) (admits_both a b (and_right _ _ h) (and_right _ _ k))
  admits_both (TupleType fs) (TupleType gs) h k = ap TupleType (fields_both fs gs h k)
  admits_both (OptionalType a) (OptionalType b) h k = ap OptionalType (admits_both a b h k)
  admits_both (ResponseType a c) (ResponseType b d) h k =
      response_equal a b c d (admits_both a b (and_left _ _ h) (and_left _ _ k)) (admits_both c d (and_right _ _ h) (and_right _ _ k))
  admits_both NoType b h k = absurd (no h)
  admits_both a NoType h k = absurd (no k)
  admits_both a b h k = absurd (no h)

  fields_both : (fs gs : Fields) → admits_fields fs gs ≡ true → admits_fields gs fs ≡ true → fs ≡ gs
  fields_both NoField NoField h k = refl
  fields_both (Field i a fs) (Field j b gs) h k =
      let there : (pointwise nat_eq i j && admits a b) ≡ true = and_left _ (admits_fields fs gs) h in
      let back : (pointwise nat_eq j i && admits b a) ≡ true = and_left _ (admits_fields gs fs) k in
      field_equal i j a b fs gs (keys_equal i j (and_left _ _ there)) (admits_both a b (and_right _ _ there) (and_right _ _ back)) (fields_both fs gs (and_right _ _ h) (and_right _ _ k))
  fields_both NoField (Field j b gs) h k = absurd (no h)
  fields_both (Field i a fs) NoField h k = absurd (no h)
