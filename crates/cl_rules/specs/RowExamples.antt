-- Each row of the table of natives: the type that it gives, and the number that it is charged by, at types.
use Rattle.std.specs.Prelude.{◌≡◌, codes, Some}
use Rattle.cl_types.specs.Types.{NoType, IntType, UintType, BoolType, PrincipalType, BuffType, AsciiType, Utf8Type, ListType, TupleType, OptionalType, ResponseType, NoField, Field}
use Rattle.cl_rules.specs.Samples.{charged}

-- literals and names: the type, and the number of the charge
pub record LiteralRows : Type 0 where
  pub int_literal : charged (codes "literal") (codes "(define-public (f) (ok 5))") ≡ Some (17, ResponseType IntType NoType)
  pub uint_literal : charged (codes "literal") (codes "(define-public (f) (ok u5))") ≡ Some (17, ResponseType UintType NoType)
  pub true_literal : charged (codes "literal") (codes "(define-public (f) (ok true))") ≡ Some (1, ResponseType BoolType NoType)
  pub none_literal : charged (codes "literal") (codes "(define-public (f) (ok none))") ≡ Some (1, ResponseType (OptionalType NoType) NoType)
  pub buffer_literal : charged (codes "literal") (codes "(define-public (f) (ok 0x0102))") ≡ Some (7, ResponseType (BuffType 2) NoType)
  pub ascii_literal : charged (codes "literal") (codes "(define-public (f) (ok \"abc\"))") ≡ Some (8, ResponseType (AsciiType 3) NoType)
  pub utf8_literal : charged (codes "literal") (codes "(define-public (f) (ok u\"\\u{e9}\"))") ≡ Some (9, ResponseType (Utf8Type 1) NoType)
  pub own_contract_literal : charged (codes "literal") (codes "(define-public (f) (ok .g))") ≡ Some (151, ResponseType PrincipalType NoType)
  pub parameter : charged (codes "lookup") (codes "(define-public (f (x int)) (ok x))") ≡ Some (17, ResponseType IntType NoType)
  pub sender : charged (codes "context") (codes "(define-public (f) (ok tx-sender))") ≡ Some (151, ResponseType PrincipalType NoType)
  pub caller : charged (codes "context") (codes "(define-public (f) (ok contract-caller))") ≡ Some (151, ResponseType PrincipalType NoType)
  pub height : charged (codes "context") (codes "(define-public (f) (ok block-height))") ≡ Some (17, ResponseType UintType NoType)

-- numbers and truth values
pub record NumberRows : Type 0 where
  pub add : charged (codes "arith") (codes "(define-public (f (x int) (y int)) (ok (+ x y)))") ≡ Some (2, ResponseType IntType NoType)
  pub subtract : charged (codes "arith") (codes "(define-public (f (x int) (y int)) (ok (- x y)))") ≡ Some (2, ResponseType IntType NoType)
  pub multiply : charged (codes "arith") (codes "(define-public (f (x int) (y int)) (ok (* x y)))") ≡ Some (2, ResponseType IntType NoType)
  pub divide : charged (codes "arith") (codes "(define-public (f (x int) (y int)) (ok (/ x y)))") ≡ Some (2, ResponseType IntType NoType)
  pub negate : charged (codes "arith") (codes "(define-public (f (x int)) (ok (- x)))") ≡ Some (1, ResponseType IntType NoType)
  pub add_uints : charged (codes "arith") (codes "(define-public (f (u uint)) (ok (+ u u u)))") ≡ Some (3, ResponseType UintType NoType)
  pub modulo : charged (codes "arith") (codes "(define-public (f (x int) (y int)) (ok (mod x y)))") ≡ Some (2, ResponseType IntType NoType)
  pub power : charged (codes "arith") (codes "(define-public (f (x int) (y int)) (ok (pow x y)))") ≡ Some (2, ResponseType IntType NoType)
  pub exclusive_or : charged (codes "arith") (codes "(define-public (f (x int) (y int)) (ok (xor x y)))") ≡ Some (2, ResponseType IntType NoType)
  pub square_root : charged (codes "arith") (codes "(define-public (f (u uint)) (ok (sqrti u)))") ≡ Some (1, ResponseType UintType NoType)
  pub logarithm : charged (codes "arith") (codes "(define-public (f (x int)) (ok (log2 x)))") ≡ Some (1, ResponseType IntType NoType)
  pub to_int : charged (codes "arith") (codes "(define-public (f (u uint)) (ok (to-int u)))") ≡ Some (1, ResponseType IntType NoType)
  pub to_uint : charged (codes "arith") (codes "(define-public (f (x int)) (ok (to-uint x)))") ≡ Some (1, ResponseType UintType NoType)
  pub negation : charged (codes "arith") (codes "(define-public (f (b bool)) (ok (not b)))") ≡ Some (1, ResponseType BoolType NoType)
  pub less : charged (codes "compare") (codes "(define-public (f (x int) (y int)) (ok (< x y)))") ≡ Some (34, ResponseType BoolType NoType)
  pub at_most : charged (codes "compare") (codes "(define-public (f (x int) (y int)) (ok (<= x y)))") ≡ Some (34, ResponseType BoolType NoType)
  pub greater : charged (codes "compare") (codes "(define-public (f (x int) (y int)) (ok (> x y)))") ≡ Some (34, ResponseType BoolType NoType)
  pub at_least : charged (codes "compare") (codes "(define-public (f (x int) (y int)) (ok (>= x y)))") ≡ Some (34, ResponseType BoolType NoType)
  pub equal : charged (codes "compare") (codes "(define-public (f (x int) (y int)) (ok (is-eq x y)))") ≡ Some (34, ResponseType BoolType NoType)
  pub equal_alone : charged (codes "compare") (codes "(define-public (f (b bool)) (ok (is-eq b)))") ≡ Some (1, ResponseType BoolType NoType)
  pub equal_optionals : charged (codes "compare") (codes "(define-public (f (o (optional int))) (ok (is-eq o none)))") ≡ Some (19, ResponseType BoolType NoType)

-- digests, optionals and responses
pub record HashAndWrapRows : Type 0 where
  pub sha256 : charged (codes "hash") (codes "(define-public (f (x int)) (ok (sha256 x)))") ≡ Some (17, ResponseType (BuffType 32) NoType)
  pub sha512 : charged (codes "hash") (codes "(define-public (f (z (buff 4))) (ok (sha512 z)))") ≡ Some (9, ResponseType (BuffType 64) NoType)
  pub sha512_256 : charged (codes "hash") (codes "(define-public (f (u uint)) (ok (sha512/256 u)))") ≡ Some (17, ResponseType (BuffType 32) NoType)
  pub make_some : charged (codes "wrap") (codes "(define-public (f (x int)) (ok (some x)))") ≡ Some (35, ResponseType (OptionalType IntType) NoType)
  pub make_ok : charged (codes "wrap") (codes "(define-public (f (x int)) (ok (ok x)))") ≡ Some (35, ResponseType (ResponseType IntType NoType) NoType)
  pub make_err : charged (codes "wrap") (codes "(define-public (f (x int)) (ok (err x)))") ≡ Some (35, ResponseType (ResponseType NoType IntType) NoType)
  pub is_some : charged (codes "wrap") (codes "(define-public (f (o (optional int))) (ok (is-some o)))") ≡ Some (19, ResponseType BoolType NoType)
  pub is_none : charged (codes "wrap") (codes "(define-public (f (o (optional int))) (ok (is-none o)))") ≡ Some (19, ResponseType BoolType NoType)
  pub is_ok : charged (codes "wrap") (codes "(define-public (f (r (response int bool))) (ok (is-ok r)))") ≡ Some (19, ResponseType BoolType NoType)
  pub is_err : charged (codes "wrap") (codes "(define-public (f (r (response int bool))) (ok (is-err r)))") ≡ Some (19, ResponseType BoolType NoType)
  pub default_to : charged (codes "wrap") (codes "(define-public (f (x int) (o (optional int))) (ok (default-to x o)))") ≡ Some (52, ResponseType IntType NoType)
  pub unwrap_panic : charged (codes "wrap") (codes "(define-public (f (o (optional int))) (ok (unwrap-panic o)))") ≡ Some (35, ResponseType IntType NoType)
  pub unwrap_err_panic : charged (codes "wrap") (codes "(define-public (f (r (response int bool))) (ok (unwrap-err-panic r)))") ≡ Some (19, ResponseType BoolType NoType)

-- lists, tuples and sequences
pub record MakeRows : Type 0 where
  pub make_list : charged (codes "make") (codes "(define-public (f (x int) (y int)) (ok (list x y)))") ≡ Some (34, ResponseType (ListType 2 IntType) NoType)
  pub empty_list : charged (codes "make") (codes "(define-public (f) (ok (list)))") ≡ Some (0, ResponseType (ListType 0 NoType) NoType)
  pub tuple_in_braces : charged (codes "make") (codes "(define-public (f (x int) (b bool)) (ok {b: b, a: x}))") ≡ Some (18, ResponseType (TupleType (Field (codes "a") IntType (Field (codes "b") BoolType NoField))) NoType)
  pub tuple_of_pairs : charged (codes "make") (codes "(define-public (f (x int) (b bool)) (ok (tuple (b b) (a x))))") ≡ Some (18, ResponseType (TupleType (Field (codes "a") IntType (Field (codes "b") BoolType NoField))) NoType)
  pub merge : charged (codes "make") (codes "(define-public (f (t {a: int}) (w {b: bool, a: uint})) (ok (merge t w)))") ≡ Some (51, ResponseType (TupleType (Field (codes "a") UintType (Field (codes "b") BoolType NoField))) NoType)
  pub append : charged (codes "make") (codes "(define-public (f (l (list 2 int)) (x int)) (ok (append l x)))") ≡ Some (56, ResponseType (ListType 3 IntType) NoType)
  pub concat_lists : charged (codes "make") (codes "(define-public (f (l (list 2 int)) (k (list 3 int))) (ok (concat l k)))") ≡ Some (95, ResponseType (ListType 5 IntType) NoType)
  pub concat_buffers : charged (codes "make") (codes "(define-public (f (z (buff 4))) (ok (concat z z)))") ≡ Some (18, ResponseType (BuffType 8) NoType)
  pub as_max_len : charged (codes "make") (codes "(define-public (f (l (list 2 int))) (ok (as-max-len? l u5)))") ≡ Some (39, ResponseType (OptionalType (ListType 5 IntType)) NoType)
  pub get : charged (codes "take") (codes "(define-public (f (t {a: int})) (ok (get a t)))") ≡ Some (24, ResponseType IntType NoType)
  pub get_of_optional : charged (codes "take") (codes "(define-public (f (i (optional {a: int}))) (ok (get a i)))") ≡ Some (25, ResponseType (OptionalType IntType) NoType)
  pub length_of : charged (codes "scan") (codes "(define-public (f (l (list 2 int))) (ok (len l)))") ≡ Some (39, ResponseType UintType NoType)
  pub element_at : charged (codes "scan") (codes "(define-public (f (l (list 2 int)) (u uint)) (ok (element-at l u)))") ≡ Some (56, ResponseType (OptionalType IntType) NoType)
  pub byte_at : charged (codes "scan") (codes "(define-public (f (z (buff 4)) (u uint)) (ok (element-at z u)))") ≡ Some (26, ResponseType (OptionalType (BuffType 1)) NoType)
  pub character_at : charged (codes "scan") (codes "(define-public (f (s (string-ascii 3)) (u uint)) (ok (element-at s u)))") ≡ Some (25, ResponseType (OptionalType (AsciiType 1)) NoType)
  pub index_of : charged (codes "scan") (codes "(define-public (f (l (list 2 int)) (x int)) (ok (index-of l x)))") ≡ Some (56, ResponseType (OptionalType UintType) NoType)

-- variables, maps, tokens and events
pub record StateRows : Type 0 where
  pub var_get : charged (codes "read_var") (codes "(define-data-var v uint u0)(define-public (f) (ok (var-get v)))") ≡ Some (17, ResponseType UintType NoType)
  pub var_set : charged (codes "write_var") (codes "(define-data-var v uint u0)(define-public (f (u uint)) (ok (var-set v u)))") ≡ Some (17, ResponseType BoolType NoType)
  pub map_get : charged (codes "read_map") (codes "(define-map m int bool)(define-public (f (x int)) (ok (map-get? m x)))") ≡ Some (19, ResponseType (OptionalType BoolType) NoType)
  pub map_set : charged (codes "write_map") (codes "(define-map m int bool)(define-public (f (x int) (b bool)) (ok (map-set m x b)))") ≡ Some (18, ResponseType BoolType NoType)
  pub map_insert : charged (codes "write_map") (codes "(define-map m int bool)(define-public (f (x int) (b bool)) (ok (map-insert m x b)))") ≡ Some (18, ResponseType BoolType NoType)
  pub map_delete : charged (codes "write_map") (codes "(define-map m int bool)(define-public (f (x int)) (ok (map-delete m x)))") ≡ Some (17, ResponseType BoolType NoType)
  pub ft_get_balance : charged (codes "read_token") (codes "(define-fungible-token ft)(define-public (f (p principal)) (ok (ft-get-balance ft p)))") ≡ Some (151, ResponseType UintType NoType)
  pub ft_get_supply : charged (codes "read_token") (codes "(define-fungible-token ft)(define-public (f) (ok (ft-get-supply ft)))") ≡ Some (0, ResponseType UintType NoType)
  pub stx_get_balance : charged (codes "read_token") (codes "(define-public (f (p principal)) (ok (stx-get-balance p)))") ≡ Some (151, ResponseType UintType NoType)
  pub nft_get_owner : charged (codes "read_token") (codes "(define-non-fungible-token nft uint)(define-public (f (u uint)) (ok (nft-get-owner? nft u)))") ≡ Some (17, ResponseType (OptionalType PrincipalType) NoType)
  pub ft_mint : charged (codes "write_token") (codes "(define-fungible-token ft)(define-public (f (u uint) (p principal)) (ok (ft-mint? ft u p)))") ≡ Some (168, ResponseType (ResponseType BoolType UintType) NoType)
  pub ft_burn : charged (codes "write_token") (codes "(define-fungible-token ft)(define-public (f (u uint) (p principal)) (ok (ft-burn? ft u p)))") ≡ Some (168, ResponseType (ResponseType BoolType UintType) NoType)
  pub ft_transfer : charged (codes "write_token") (codes "(define-fungible-token ft)(define-public (f (u uint) (p principal) (q principal)) (ok (ft-transfer? ft u p q)))") ≡ Some (319, ResponseType (ResponseType BoolType UintType) NoType)
  pub nft_mint : charged (codes "write_token") (codes "(define-non-fungible-token nft uint)(define-public (f (u uint) (p principal)) (ok (nft-mint? nft u p)))") ≡ Some (168, ResponseType (ResponseType BoolType UintType) NoType)
  pub nft_burn : charged (codes "write_token") (codes "(define-non-fungible-token nft uint)(define-public (f (u uint) (p principal)) (ok (nft-burn? nft u p)))") ≡ Some (168, ResponseType (ResponseType BoolType UintType) NoType)
  pub nft_transfer : charged (codes "write_token") (codes "(define-non-fungible-token nft uint)(define-public (f (u uint) (p principal) (q principal)) (ok (nft-transfer? nft u p q)))") ≡ Some (319, ResponseType (ResponseType BoolType UintType) NoType)
  pub stx_transfer : charged (codes "write_token") (codes "(define-public (f (u uint) (p principal) (q principal)) (ok (stx-transfer? u p q)))") ≡ Some (319, ResponseType (ResponseType BoolType UintType) NoType)
  pub stx_burn : charged (codes "write_token") (codes "(define-public (f (u uint) (p principal)) (ok (stx-burn? u p)))") ≡ Some (168, ResponseType (ResponseType BoolType UintType) NoType)
  pub print : charged (codes "event") (codes "(define-public (f (x int)) (ok (print x)))") ≡ Some (17, ResponseType IntType NoType)

-- control forms: each is charged by the number of its arguments
pub record ControlRows : Type 0 where
  pub if_else : charged (codes "control") (codes "(define-public (f (b bool) (x int) (y int)) (ok (if b x y)))") ≡ Some (3, ResponseType IntType NoType)
  pub let_in : charged (codes "control") (codes "(define-public (f (x int)) (ok (let ((n x)) n)))") ≡ Some (2, ResponseType IntType NoType)
  pub let_two : charged (codes "control") (codes "(define-public (f (x int)) (ok (let ((n x) (h n)) (print h) n)))") ≡ Some (3, ResponseType IntType NoType)
  pub begin : charged (codes "control") (codes "(define-public (f (b bool) (x int)) (ok (begin b x)))") ≡ Some (2, ResponseType IntType NoType)
  pub and_all : charged (codes "control") (codes "(define-public (f (b bool)) (ok (and b b)))") ≡ Some (2, ResponseType BoolType NoType)
  pub or_any : charged (codes "control") (codes "(define-public (f (b bool)) (ok (or b b b)))") ≡ Some (3, ResponseType BoolType NoType)
  pub match_optional : charged (codes "control") (codes "(define-public (f (o (optional int)) (x int)) (ok (match o n n x)))") ≡ Some (4, ResponseType IntType NoType)
  pub match_response : charged (codes "control") (codes "(define-public (f (r (response int bool)) (x int)) (ok (match r n n h x)))") ≡ Some (5, ResponseType IntType NoType)
  pub as_contract : charged (codes "control") (codes "(define-public (f) (ok (as-contract tx-sender)))") ≡ Some (1, ResponseType PrincipalType NoType)
  pub asserts : charged (codes "control") (codes "(define-public (f (b bool) (u uint)) (ok (asserts! b (err u))))") ≡ Some (2, ResponseType BoolType UintType)
  pub unwrap : charged (codes "control") (codes "(define-public (f (o (optional int)) (u uint)) (ok (unwrap! o (err u))))") ≡ Some (2, ResponseType IntType UintType)
  pub unwrap_err : charged (codes "control") (codes "(define-public (f (r (response int bool)) (u uint)) (ok (unwrap-err! r (err u))))") ≡ Some (2, ResponseType BoolType UintType)
  pub try : charged (codes "control") (codes "(define-public (f (r (response int bool))) (ok (try! r)))") ≡ Some (1, ResponseType IntType BoolType)

-- what is bound: parameters, and names of let and match
pub record BindRows : Type 0 where
  pub let_bind : charged (codes "bind") (codes "(define-public (f (x int)) (ok (let ((n x)) n)))") ≡ Some (34, ResponseType IntType NoType)
  pub match_bind : charged (codes "bind") (codes "(define-public (f (o (optional int)) (x int)) (ok (match o n n x)))") ≡ Some (52, ResponseType IntType NoType)
  pub greater_branch : charged (codes "bind") (codes "(define-public (f (r (response int bool))) (ok (match r n n h 1)))") ≡ Some (35, ResponseType IntType NoType)

-- map, filter and fold: the iteration, and the applications
pub record IterationRows : Type 0 where
  pub map_iterate : charged (codes "iterate") (codes "(define-public (f (l (list 2 int)) (k (list 3 int))) (ok (map + l k)))") ≡ Some (95, ResponseType (ListType 2 IntType) NoType)
  pub map_apply : charged (codes "arith") (codes "(define-public (f (l (list 2 int)) (k (list 3 int))) (ok (map + l k)))") ≡ Some (4, ResponseType (ListType 2 IntType) NoType)
  pub map_connective : charged (codes "control") (codes "(define-public (f (e (list 2 bool))) (ok (map and e e)))") ≡ Some (4, ResponseType (ListType 2 BoolType) NoType)
  pub filter_iterate : charged (codes "iterate") (codes "(define-public (f (e (list 2 bool))) (ok (filter not e)))") ≡ Some (7, ResponseType (ListType 2 BoolType) NoType)
  pub filter_apply : charged (codes "arith") (codes "(define-public (f (e (list 2 bool))) (ok (filter not e)))") ≡ Some (2, ResponseType (ListType 2 BoolType) NoType)
  pub fold_iterate : charged (codes "iterate") (codes "(define-public (f (l (list 2 int)) (x int)) (ok (fold + l x)))") ≡ Some (56, ResponseType IntType NoType)
  pub fold_apply : charged (codes "arith") (codes "(define-public (f (l (list 2 int)) (x int)) (ok (fold + l x)))") ≡ Some (4, ResponseType IntType NoType)
  pub map_bytes : charged (codes "hash") (codes "(define-public (f (z (buff 4))) (ok (map sha256 z)))") ≡ Some (24, ResponseType (ListType 4 (BuffType 32)) NoType)
