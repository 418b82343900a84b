-- Texts of version 2: the rows that they alone have, what the same text is as version 1, and reserved names.
use Rattle.std.specs.Prelude.{◌≡◌, true, false, codes, Some, None}
use Rattle.cl_types.specs.Types.{NoType, IntType, UintType, BoolType, BuffType, ListType, OptionalType, ResponseType}
use Rattle.cl_shapes.specs.Costs.{cost5}
use Rattle.cl_sexpr.specs.declared.rule.Rule.TheVariants.{ArgumentCount, ArgumentKind, NotAFunction, TooLarge, UnknownName}
use Rattle.cl_forms.specs.declared.version.Version.TheVariants.{One, Two}
use Rattle.cl_forms.specs.Heads.{is_reserved}
use Rattle.cl_rules.specs.Samples.{checked, checked_two, refused, rule_of, line_two, charged_two}

-- bounds in the unit table
pub record LaterLines : Type 0 where
  pub slice_line : line_two (codes "s") (codes "(define-read-only (s (b (buff 4))) (slice? b u1 u3))") ≡ Some (cost5 6 0 0 0 0, OptionalType (BuffType 4))
  pub slice_of_one : checked (codes "(define-read-only (s (b (buff 4))) (slice? b u1 u3))") ≡ refused UnknownName 35 51
  pub consensus_line : line_two (codes "w") (codes "(define-read-only (w (x uint)) (to-consensus-buff? x))") ≡ Some (cost5 4 0 0 0 0, OptionalType (BuffType 17))

-- each row: its type, and the number that it is charged by
pub record LaterRows : Type 0 where
  pub less : charged_two (codes "compare") (codes "(define-public (f (x int) (y int)) (ok (< x y)))") ≡ Some (34, ResponseType BoolType NoType)
  pub less_uints : charged_two (codes "compare") (codes "(define-public (f (u uint)) (ok (< u u)))") ≡ Some (34, ResponseType BoolType NoType)
  pub less_buffers : charged_two (codes "compare") (codes "(define-public (f (x (buff 1)) (y (buff 2))) (ok (< x y)))") ≡ Some (13, ResponseType BoolType NoType)
  pub at_most : charged_two (codes "compare") (codes "(define-public (f (x (string-ascii 1))) (ok (<= x x)))") ≡ Some (12, ResponseType BoolType NoType)
  pub greater : charged_two (codes "compare") (codes "(define-public (f (x (string-utf8 1))) (ok (> x x)))") ≡ Some (18, ResponseType BoolType NoType)
  pub at_least : charged_two (codes "compare") (codes "(define-public (f (x int)) (ok (>= x x)))") ≡ Some (34, ResponseType BoolType NoType)
  pub bit_and : charged_two (codes "arith") (codes "(define-public (f (x int)) (ok (bit-and x x x)))") ≡ Some (3, ResponseType IntType NoType)
  pub bit_and_alone : charged_two (codes "arith") (codes "(define-public (f (u uint)) (ok (bit-and u)))") ≡ Some (1, ResponseType UintType NoType)
  pub bit_or : charged_two (codes "arith") (codes "(define-public (f (u uint)) (ok (bit-or u u)))") ≡ Some (2, ResponseType UintType NoType)
  pub bit_xor : charged_two (codes "arith") (codes "(define-public (f (x int)) (ok (bit-xor x x)))") ≡ Some (2, ResponseType IntType NoType)
  pub bit_not : charged_two (codes "arith") (codes "(define-public (f (x int)) (ok (bit-not x)))") ≡ Some (1, ResponseType IntType NoType)
  pub shift_left : charged_two (codes "arith") (codes "(define-public (f (x int) (u uint)) (ok (bit-shift-left x u)))") ≡ Some (2, ResponseType IntType NoType)
  pub shift_right : charged_two (codes "arith") (codes "(define-public (f (u uint)) (ok (bit-shift-right u u)))") ≡ Some (2, ResponseType UintType NoType)
  pub slice : charged_two (codes "make") (codes "(define-public (f (l (list 2 int)) (u uint)) (ok (slice? l u u)))") ≡ Some (73, ResponseType (OptionalType (ListType 2 IntType)) NoType)
  pub replace_at : charged_two (codes "make") (codes "(define-public (f (z (buff 4)) (u uint) (b (buff 1))) (ok (replace-at? z u b)))") ≡ Some (32, ResponseType (OptionalType (BuffType 4)) NoType)
  pub entry_at : charged_two (codes "scan") (codes "(define-public (f (l (list 2 int)) (u uint)) (ok (element-at? l u)))") ≡ Some (56, ResponseType (OptionalType IntType) NoType)
  pub place_of : charged_two (codes "scan") (codes "(define-public (f (l (list 2 int)) (x int)) (ok (index-of? l x)))") ≡ Some (56, ResponseType (OptionalType UintType) NoType)
  pub to_consensus_buff : charged_two (codes "make") (codes "(define-public (f (o (optional uint))) (ok (to-consensus-buff? o)))") ≡ Some (18, ResponseType (OptionalType (BuffType 18)) NoType)
  -- those of version 1 stay
  pub element_at : charged_two (codes "scan") (codes "(define-public (f (l (list 2 int)) (u uint)) (ok (element-at l u)))") ≡ Some (56, ResponseType (OptionalType IntType) NoType)
  pub index_of : charged_two (codes "scan") (codes "(define-public (f (l (list 2 int)) (x int)) (ok (index-of l x)))") ≡ Some (56, ResponseType (OptionalType UintType) NoType)
  -- given by name
  pub map_less : charged_two (codes "compare") (codes "(define-public (f (l (list 2 (buff 1)))) (ok (map < l l)))") ≡ Some (24, ResponseType (ListType 2 BoolType) NoType)
  pub fold_bits : charged_two (codes "arith") (codes "(define-public (f (l (list 2 int)) (x int)) (ok (fold bit-and l x)))") ≡ Some (4, ResponseType IntType NoType)
  pub map_consensus : charged_two (codes "make") (codes "(define-public (f (l (list 2 bool))) (ok (map to-consensus-buff? l)))") ≡ Some (2, ResponseType (ListType 2 (OptionalType (BuffType 1))) NoType)

-- what texts of version 2 break, and the same as version 1
pub record LaterBreaks : Type 0 where
  pub less_strings : rule_of (checked_two (codes "(define-read-only (f) (< \"a\" \"b\"))")) ≡ None
  pub less_strings_of_one : checked (codes "(define-read-only (f) (< \"a\" \"b\"))") ≡ refused ArgumentKind 22 33
  pub less_buffers : rule_of (checked_two (codes "(define-read-only (f) (< 0x01 0x0100))")) ≡ None
  pub less_buffers_of_one : checked (codes "(define-read-only (f) (< 0x01 0x0100))") ≡ refused ArgumentKind 22 37
  pub less_two_kinds : checked_two (codes "(define-read-only (f) (< \"a\" u\"b\"))") ≡ refused ArgumentKind 22 34
  pub less_bools : checked_two (codes "(define-read-only (f) (< true false))") ≡ refused ArgumentKind 22 36
  pub slice_by_ints : checked_two (codes "(define-read-only (f) (slice? 0x01 0 u1))") ≡ refused ArgumentKind 22 40
  pub slice_count : checked_two (codes "(define-read-only (f) (slice? 0x01 u0))") ≡ refused ArgumentCount 22 38
  pub replace_longer : checked_two (codes "(define-read-only (f) (replace-at? 0x01 u0 0x0102))") ≡ refused ArgumentKind 22 50
  pub shift_by_int : checked_two (codes "(define-read-only (f) (bit-shift-left 1 1))") ≡ refused ArgumentKind 22 42
  pub bits_of_two_kinds : checked_two (codes "(define-read-only (f) (bit-and 1 u1))") ≡ refused ArgumentKind 22 36
  pub no_bits : checked_two (codes "(define-read-only (f) (bit-or))") ≡ refused ArgumentCount 22 30
  -- the size of a type made is at most 1,048,576: that of the argument's type, and 6 more
  pub largest : rule_of (checked_two (codes "(define-read-only (f (b (buff 1048565))) (to-consensus-buff? b))")) ≡ None
  pub too_large : checked_two (codes "(define-read-only (f (b (buff 1048566))) (to-consensus-buff? b))") ≡ refused TooLarge 41 63
  pub slice_by_name : checked_two (codes "(define-read-only (f (l (list 2 (buff 1)))) (map slice? l l l))") ≡ refused NotAFunction 44 62
  -- as version 1 these are ordinary names
  pub bit_and_of_one : checked (codes "(define-read-only (f) (bit-and 1 2))") ≡ refused UnknownName 22 35
  pub bit_and_as_atom : checked (codes "(define-read-only (f) bit-and)") ≡ refused UnknownName 22 29
  pub defined_in_one : rule_of (checked (codes "(define-private (bit-and (x int)) x)(define-read-only (f) (bit-and 1))")) ≡ None

-- reserved names by version
pub record ReservedNames : Type 0 where
  pub slice_of_one : is_reserved One (codes "slice?") ≡ false
  pub slice_of_two : is_reserved Two (codes "slice?") ≡ true
  pub less_of_one : is_reserved One (codes "<") ≡ true
  pub less_of_two : is_reserved Two (codes "<") ≡ true
  pub element_at_of_two : is_reserved Two (codes "element-at") ≡ true
  pub consensus_of_one : is_reserved One (codes "to-consensus-buff?") ≡ false
  pub consensus_of_two : is_reserved Two (codes "to-consensus-buff?") ≡ true
  pub trait_of_two : is_reserved Two (codes "use-trait") ≡ true
