-- How a ghost variable stores a typed tree.
use Rattle.std.specs.Prelude.{◌≡◌, refl, Bool, true, false}
use Rattle.std.specs.Coded.{Coded}
use Rattle.std.proofs.Common.{ap}
use Rattle.std.proofs.lemmas.Bool.{eqb-false}
use base.Stored.{Gv, gnil, gcons}
use Rattle.cl_types.specs.CodeParts.{first, rest, second, third, parts}
use Rattle.cl_types.specs.Types.{PlainType}
use Rattle.cl_types.specs.TypeCode.{type_code}
use Rattle.cl_sexpr.specs.Tree.{Tree}
use Rattle.cl_sexpr.specs.TreeCode.{tree_code}
use Rattle.cl_code.specs.Typed.{Versions, Typed, Typeds, TypedAs, NoTyped, MoreTyped}

abbrev code_bool : Bool → Gv
code_bool true = gcons gnil gnil
code_bool false = gnil

abbrev code_versions : Versions → Gv
code_versions vs = gcons (code_bool vs.one) (code_bool vs.two)

abbrev mutual
  code_typed : Typed → Gv
  code_typed (TypedAs e t vs ps) = gcons (tree_code.code e) (gcons (type_code.code t) (gcons (code_versions vs) (code_typeds ps)))

  code_typeds : Typeds → Gv
  code_typeds NoTyped = gnil
  code_typeds (MoreTyped p ps) = gcons (code_typed p) (code_typeds ps)

bool_inj : (a b : Bool) → code_bool a ≡ code_bool b → a ≡ b
bool_inj true true p = refl
bool_inj false false p = refl
bool_inj a b p = absurd (eqb-false (parts (code_bool a)) (parts (code_bool b)) refl (ap parts p))

versions_inj : (vs ws : Versions) → code_versions vs ≡ code_versions ws → vs ≡ ws
versions_inj vs ws p = λ i. record { one = bool_inj vs.one ws.one (ap first p) i; two = bool_inj vs.two ws.two (ap rest p) i }

typed_same : (d e : Tree) (s t : PlainType) (vs ws : Versions) (ps qs : Typeds) → d ≡ e → s ≡ t → vs ≡ ws → ps ≡ qs → TypedAs d s vs ps ≡ TypedAs e t ws qs
typed_same d e s t vs ws ps qs h k m l i = TypedAs (h i) (k i) (m i) (l i)

more_same : (a b : Typed) (ps qs : Typeds) → a ≡ b → ps ≡ qs → MoreTyped a ps ≡ MoreTyped b qs
more_same a b ps qs h k i = MoreTyped (h i) (k i)

mutual
  pub typed_inj : (x y : Typed) → code_typed x ≡ code_typed y → x ≡ y
  typed_inj (TypedAs d s vs ps) (TypedAs e t ws qs) p =
      typed_same d e s t vs ws ps qs (tree_code.inj d e (ap first p)) (type_code.inj s t (ap second p))
      (versions_inj vs ws (ap first (ap third p))) (typeds_inj ps qs (ap rest (ap third p)))

  pub typeds_inj : (x y : Typeds) → code_typeds x ≡ code_typeds y → x ≡ y
  typeds_inj NoTyped NoTyped p = refl
  typeds_inj (MoreTyped a ps) (MoreTyped b qs) p = more_same a b ps qs (typed_inj a b (ap first p)) (typeds_inj ps qs (ap rest p))
  typeds_inj x y p = absurd (eqb-false (parts (code_typeds x)) (parts (code_typeds y)) refl (ap parts p))

abbrev pub typed_code : Coded Typed
typed_code = record { code = code_typed; inj = typed_inj }
