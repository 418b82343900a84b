-- First breaks and acceptance of small contracts, by computing.
use Rattle.std.specs.Prelude.{◌≡◌, codes, None}
use Rattle.cl_sexpr.specs.declared.rule.Rule.TheVariants.{ArgumentCount, ArgumentKind, BadBinding, EmptyForm, KeyTwice, LiteralExpected, NoSuchContract, NoSuchKey, NoSuchMap, NoSuchToken, NoSuchVariable, NotAFunction, NotAValue, NotResponse, NotSame, ShadowedName, ThrownDiffer, TooDeep, TooLarge, Undetermined, UnknownName, UnusedResponse}
use Rattle.cl_rules.specs.Samples.{checked, refused, rule_of}

-- first breaks by the shape of an expression
pub record BreaksByShape : Type 0 where
  pub unknown_atom : checked (codes "(define-read-only (f) other)") ≡ refused UnknownName 22 27
  pub unknown_operator : checked (codes "(define-read-only (f) (other 1))") ≡ refused UnknownName 22 31
  pub constant_as_operator : checked (codes "(define-constant c 1)(define-read-only (f) (c))") ≡ refused UnknownName 43 46
  pub keyword_as_operator : checked (codes "(define-read-only (f) (true))") ≡ refused UnknownName 22 28
  -- a name of a later version of the language is no native here
  pub later_native : checked (codes "(define-read-only (f) (slice? 0x01 u0 u1))") ≡ refused UnknownName 22 41
  pub native_count : checked (codes "(define-read-only (f) (mod 1))") ≡ refused ArgumentCount 22 29
  pub function_count : checked (codes "(define-private (g (x int)) x)(define-read-only (f) (g))") ≡ refused ArgumentCount 52 55
  pub mapped_count : checked (codes "(define-private (g (x int)) x)(define-read-only (f (xs (list 2 int))) (map g xs xs))") ≡ refused ArgumentCount 70 83
  pub folded_count : checked (codes "(define-private (g (x int)) x)(define-read-only (f (xs (list 2 int))) (fold g xs 1))") ≡ refused ArgumentCount 70 83
  pub no_body : checked (codes "(define-read-only (f) (let ((x 1))))") ≡ refused ArgumentCount 22 35
  pub bound_outside : checked (codes "(define-read-only (f (x int)) (let ((x 2)) x))") ≡ refused ShadowedName 30 45
  pub bound_twice : checked (codes "(define-read-only (f) (let ((x 1) (x 2)) x))") ≡ refused ShadowedName 22 43
  pub both_branches : checked (codes "(define-read-only (f (r (response int int))) (match r x x x x))") ≡ refused ShadowedName 45 62
  pub bound_reserved : checked (codes "(define-read-only (f) (let ((ok 1)) 2))") ≡ refused ShadowedName 22 38
  pub bound_top_level : checked (codes "(define-constant c 1)(define-read-only (f) (let ((c 2)) 3))") ≡ refused ShadowedName 43 58
  pub no_variable : checked (codes "(define-read-only (f) (var-get v))") ≡ refused NoSuchVariable 22 33
  pub constant_as_variable : checked (codes "(define-constant c 1)(define-read-only (f) (var-set c 2))") ≡ refused NoSuchVariable 43 56
  pub no_map : checked (codes "(define-read-only (f) (map-get? m 1))") ≡ refused NoSuchMap 22 36
  pub no_token : checked (codes "(define-read-only (f) (ft-get-supply t))") ≡ refused NoSuchToken 22 39
  pub other_kind_of_token : checked (codes "(define-non-fungible-token t uint)(define-read-only (f) (ft-get-supply t))") ≡ refused NoSuchToken 56 73
  pub no_contract : checked (codes "(define-read-only (f) (contract-call? .other h))") ≡ refused NoSuchContract 22 47
  pub own_contract : checked (codes "(define-read-only (f) (contract-call? .f h))") ≡ refused NoSuchContract 22 43
  pub no_contract_and_no_name : checked (codes "(define-read-only (f) (contract-call? .other 5))") ≡ refused NoSuchContract 22 47
  pub number_as_function : checked (codes "(define-read-only (f) (map 5 (list 1)))") ≡ refused NotAFunction 22 38
  pub native_not_by_name : checked (codes "(define-read-only (f) (map list (list 1)))") ≡ refused NotAFunction 22 41
  pub name_of_nothing_as_function : checked (codes "(define-read-only (f) (map other (list 1)))") ≡ refused NotAFunction 22 42
  pub int_as_length : checked (codes "(define-read-only (f) (as-max-len? 0x01 2))") ≡ refused LiteralExpected 22 42
  pub name_as_contract : checked (codes "(define-constant c 1)(define-read-only (f) (contract-call? c h))") ≡ refused LiteralExpected 43 63
  pub empty_list : checked (codes "(define-read-only (f) ())") ≡ refused EmptyForm 22 24
  pub operator_of_a_list : checked (codes "(define-private (g) 1)(define-read-only (f) ((g)))") ≡ refused EmptyForm 44 49
  pub operator_of_a_number : checked (codes "(define-read-only (f) (1 2))") ≡ refused EmptyForm 22 27
  pub long_binding : checked (codes "(define-read-only (f) (let ((x 1 2)) 3))") ≡ refused BadBinding 22 39
  pub binding_without_brackets : checked (codes "(define-read-only (f) (let (x) 1))") ≡ refused BadBinding 22 33
  -- the first of these binds no name
  pub only_bindings_bind : checked (codes "(define-read-only (f) (let ((x 1 2) (x 3)) x))") ≡ refused BadBinding 22 45
  pub number_as_key : checked (codes "(define-read-only (f) (get 5 {a: 1}))") ≡ refused BadBinding 22 36
  pub number_as_pair : checked (codes "(define-read-only (f) (tuple (a 1) 5))") ≡ refused BadBinding 22 37
  pub number_as_variable : checked (codes "(define-read-only (f) (var-get 5))") ≡ refused BadBinding 22 33
  pub key_twice : checked (codes "(define-read-only (f) {a: 1, a: 2})") ≡ refused KeyTwice 22 34
  pub pair_twice : checked (codes "(define-read-only (f) (tuple (a 1) (a 2)))") ≡ refused KeyTwice 22 41
  pub function_as_value : checked (codes "(define-private (other) 1)(define-read-only (f) (some other))") ≡ refused NotAValue 54 59
  pub native_as_value : checked (codes "(define-read-only (f) (some +))") ≡ refused NotAValue 28 29
  pub variable_as_value : checked (codes "(define-data-var vv int 1)(define-read-only (f) (some vv))") ≡ refused NotAValue 54 56

-- first breaks at the types of the parts
pub record BreaksByTypes : Type 0 where
  pub two_kinds_of_numbers : checked (codes "(define-read-only (f) (+ 1 u1))") ≡ refused ArgumentKind 22 30
  pub argument_not_admitted : checked (codes "(define-private (g (x int)) x)(define-read-only (f) (g u1))") ≡ refused ArgumentKind 52 58
  pub condition : checked (codes "(define-read-only (f) (if 1 2 3))") ≡ refused ArgumentKind 22 32
  pub no_tuple : checked (codes "(define-read-only (f) (get k none))") ≡ refused ArgumentKind 22 34
  pub item_of_an_empty_list : checked (codes "(define-read-only (f) (index-of (list) 1))") ≡ refused ArgumentKind 22 41
  pub first_parameter : checked (codes "(define-private (g (x bool) (y uint)) y)(define-read-only (f (xs (list 2 int))) (fold g xs u1))") ≡ refused ArgumentKind 80 94
  pub second_parameter : checked (codes "(define-private (g (x int) (y (buff 1))) y)(define-read-only (f (xs (list 2 int))) (fold g xs 0x0102))") ≡ refused ArgumentKind 83 101
  pub branches_differ : checked (codes "(define-read-only (f) (if true 1 u1))") ≡ refused NotSame 22 36
  pub fold_differs : checked (codes "(define-private (g (x int) (y int)) true)(define-read-only (f (xs (list 2 int))) (fold g xs 1))") ≡ refused NotSame 81 94
  -- too large a least supertype comes before one that is none
  pub first_refusal_decides : checked (codes "(define-read-only (f (p {a: (buff 600000), b: (buff 0)}) (q {a: (buff 0), b: (buff 600000)})) (list p q 1))") ≡ refused TooLarge 94 106
  pub long_literal_length : checked (codes "(define-read-only (f) (as-max-len? 0x01 u1048577))") ≡ refused TooLarge 22 49
  pub too_deep : checked (codes "(define-read-only (f (x (optional (optional (optional (optional (optional (optional (optional (optional (optional (optional (optional (optional (optional (optional (optional (optional (optional (optional (optional (optional (optional (optional (optional (optional (optional (optional (optional (optional (optional (optional (optional int))))))))))))))))))))))))))))))))) (some x))") ≡ refused TooDeep 371 379
  pub tried_without_ok : checked (codes "(define-read-only (f) (try! (err 1)))") ≡ refused Undetermined 22 36
  pub no_entry_type : checked (codes "(define-read-only (f) (map + (list) (list true)))") ≡ refused Undetermined 22 48
  pub thrown_differ : checked (codes "(define-read-only (f) (begin (asserts! true 1) (asserts! true u1) 2))") ≡ refused ThrownDiffer 22 68
  pub thrown_differ_at_top_level : checked (codes "(begin (asserts! true 1) (asserts! true u1) 2)") ≡ refused ThrownDiffer 0 46
  pub unused_in_let : checked (codes "(define-read-only (f) (let ((x (ok 1))) (ok 2) x))") ≡ refused UnusedResponse 22 49
  pub no_key : checked (codes "(define-read-only (f) (get b {a: 1}))") ≡ refused NoSuchKey 22 36

-- first breaks in a match whose input does not fit, or binds what is not determined
pub record BreaksInMatch : Type 0 where
  -- the branch of none is looked at, the other one is not
  pub none_branch_first : checked (codes "(define-read-only (f) (match 5 x (other) (another)))") ≡ refused UnknownName 41 50
  pub input_is_no_optional : checked (codes "(define-read-only (f) (match 5 x (other) 2))") ≡ refused ArgumentKind 22 43
  pub input_is_no_response : checked (codes "(define-read-only (f) (match 5 x (other) y (another)))") ≡ refused ArgumentKind 22 53
  pub response_in_four : checked (codes "(define-read-only (f (r (response int int))) (match r x (other) 2))") ≡ refused ArgumentKind 45 66
  pub number_wanted : checked (codes "(define-read-only (f) (match none x (+ x 1) 2))") ≡ refused ArgumentKind 36 43
  pub uint_wanted : checked (codes "(define-read-only (f) (match none x (to-int x) 2))") ≡ refused ArgumentKind 36 46
  pub principal_wanted : checked (codes "(define-read-only (f) (match none x (stx-get-balance x) 2))") ≡ refused ArgumentKind 36 55
  pub owner_wanted : checked (codes "(define-fungible-token tok)(define-public (f) (match none x (ft-mint? tok x tx-sender) (err u1)))") ≡ refused ArgumentKind 60 86
  pub branches_of_no_type : checked (codes "(define-read-only (f) (match none x (list x) 2))") ≡ refused NotSame 22 47
  pub nothing_to_bind : checked (codes "(define-read-only (f) (match none x x 2))") ≡ refused Undetermined 22 40

-- first breaks of forms themselves, with the span of the form
pub record BreaksOfForms : Type 0 where
  pub variable_not_admitted : checked (codes "(define-data-var v uint 1)") ≡ refused ArgumentKind 0 26
  pub supply_not_admitted : checked (codes "(define-fungible-token t 5)") ≡ refused ArgumentKind 0 27
  pub return_type_too_large : checked (codes "(define-read-only (f (p {a: (buff 600000), b: (buff 0)}) (q {a: (buff 0), b: (buff 600000)})) (begin (asserts! true p) q))") ≡ refused TooLarge 0 122
  pub return_types_differ : checked (codes "(define-read-only (f) (begin (asserts! true false) 1))") ≡ refused ThrownDiffer 0 54
  -- without a return type it is not asked whether that is a response
  pub no_type_no_response : checked (codes "(define-public (f) (begin (asserts! true false) 1))") ≡ refused ThrownDiffer 0 51
  pub no_response : checked (codes "(define-public (f) 1)") ≡ refused NotResponse 0 21

-- which break comes first
pub record BreaksInOrder : Type 0 where
  pub by_span_end : checked (codes "(define-read-only (f) (list (other) (another)))") ≡ refused UnknownName 28 35
  pub inner_before_outer : checked (codes "(define-read-only (f) (mod 1 (other)))") ≡ refused UnknownName 29 36
  pub shape_before_parts : checked (codes "(define-read-only (f) (mod (other)))") ≡ refused ArgumentCount 22 35
  -- b is evaluated before a, which names it
  pub named_form_first : checked (codes "(define-read-only (a) (+ 1 (b) u1))(define-private (b) (other))") ≡ refused UnknownName 55 62
  pub text_order_else : checked (codes "(define-read-only (a) (other))(define-private (b) (another))") ≡ refused UnknownName 22 29
  -- a name behind get isn't named, so that form may come later, and isn't known yet
  pub later_behind_get : checked (codes "(define-constant a (tuple (get bb)))(define-constant bb 5)") ≡ refused UnknownName 31 33

-- contracts whose forms are typed
pub record AcceptedExamples : Type 0 where
  pub thrown_at_top_level : rule_of (checked (codes "(define-constant c (begin (asserts! true false) 1))")) ≡ None
  pub defaults : rule_of (checked (codes "(define-read-only (f) (default-to 1 none))")) ≡ None
  pub lists_without_entries : rule_of (checked (codes "(define-read-only (f) (list))")) ≡ None
  pub tried_ok : rule_of (checked (codes "(define-read-only (f) (ok (try! (if true (ok 1) (err u1)))))")) ≡ None
  pub declared_admits_no_type : rule_of (checked (codes "(define-data-var v (optional uint) none)")) ≡ None
  pub earlier_behind_get : rule_of (checked (codes "(define-constant bb 5)(define-constant a (tuple (get bb)))")) ≡ None
  pub later_form : rule_of (checked (codes "(define-private (a) (b))(define-private (b) 1)")) ≡ None
