-- What follows where no rule is broken.
use Rattle.std.proofs.Common.{◌≡◌, Bool, true, false, List, [], refl}
use Rattle.std.specs.Prelude.{not, ◌||◌}
use Rattle.cl_sexpr.specs.declared.rule.Rule.{Rule}
use Rattle.cl_sexpr.specs.declared.rule.Rule.TheVariants.{UnknownName, ArgumentCount, ArgumentKind, NotSame, TooLarge, TooDeep, Undetermined, ThrownDiffer, NotResponse, UnusedResponse, ShadowedName, NoSuchKey, NoSuchVariable, NoSuchMap, NoSuchToken, NoSuchContract, NoSuchFunction, NotAFunction, LiteralExpected, EmptyForm, BadBinding, TooDeepCalls, KeyTwice, NotAValue}
use Rattle.cl_rules.specs.Faults.{when, ShapeFaults, shape_rules, TypeFaults, type_rules, FormFaults, form_rules}

-- ---- truth values

pub not_false : (b : Bool) → not b ≡ false → b ≡ true
not_false true h = refl
not_false false h = absurd cc

pub or_left : (a b : Bool) → (a || b) ≡ false → a ≡ false
or_left true b h = absurd cc
or_left false b h = refl

pub or_right : (a b : Bool) → (a || b) ≡ false → b ≡ false
or_right true b h = absurd cc
or_right false b h = h

-- ---- rules

pub not_when : (b : Bool) (r : Rule) (rest : List Rule) → when b r rest ≡ [] → b ≡ false
not_when true r rest h = absurd cc
not_when false r rest h = refl

pub then_rest : (b : Bool) (r : Rule) (rest : List Rule) → when b r rest ≡ [] → rest ≡ []
then_rest true r rest h = absurd cc
then_rest false r rest h = h

-- nothing is broken at the types of the parts
pub record AreFineTypes (f : TypeFaults) : Type 0 where
  pub argument_kind : f.argument_kind ≡ false
  pub not_same : f.not_same ≡ false
  pub too_large : f.too_large ≡ false
  pub too_deep : f.too_deep ≡ false
  pub undetermined : f.undetermined ≡ false
  pub thrown_differ : f.thrown_differ ≡ false
  pub unused_response : f.unused_response ≡ false
  pub no_such_key : f.no_such_key ≡ false

pub fine_types : (f : TypeFaults) → type_rules f ≡ [] → AreFineTypes f
fine_types f h0 =
    let h1 = then_rest f.argument_kind ArgumentKind _ h0 in
    let h2 = then_rest f.not_same NotSame _ h1 in
    let h3 = then_rest f.too_large TooLarge _ h2 in
    let h4 = then_rest f.too_deep TooDeep _ h3 in
    let h5 = then_rest f.undetermined Undetermined _ h4 in
    let h6 = then_rest f.thrown_differ ThrownDiffer _ h5 in
    let h7 = then_rest f.unused_response UnusedResponse _ h6 in
    record {
      argument_kind = not_when f.argument_kind ArgumentKind _ h0;
      not_same = not_when f.not_same NotSame _ h1;
      too_large = not_when f.too_large TooLarge _ h2;
      too_deep = not_when f.too_deep TooDeep _ h3;
      undetermined = not_when f.undetermined Undetermined _ h4;
      thrown_differ = not_when f.thrown_differ ThrownDiffer _ h5;
      unused_response = not_when f.unused_response UnusedResponse _ h6;
      no_such_key = not_when f.no_such_key NoSuchKey _ h7;
    }

nothing : (b : Bool) (r : Rule) (rest : List Rule) → b ≡ false → rest ≡ [] → when b r rest ≡ []
nothing true r rest h k = absurd cc
nothing false r rest h k = k

pub no_type_rules : (f : TypeFaults) → AreFineTypes f → type_rules f ≡ []
no_type_rules f h =
    nothing f.argument_kind ArgumentKind _ h.argument_kind (nothing f.not_same NotSame _ h.not_same (nothing f.too_large TooLarge _ h.too_large
    (nothing f.too_deep TooDeep _ h.too_deep (nothing f.undetermined Undetermined _ h.undetermined (nothing f.thrown_differ ThrownDiffer _ h.thrown_differ
    (nothing f.unused_response UnusedResponse _ h.unused_response (nothing f.no_such_key NoSuchKey _ h.no_such_key refl)))))))

-- nothing is broken by the shape
pub record IsFineShape (f : ShapeFaults) : Type 0 where
  pub unknown_name : f.unknown_name ≡ false
  pub argument_count : f.argument_count ≡ false
  pub shadowed_name : f.shadowed_name ≡ false
  pub no_such_variable : f.no_such_variable ≡ false
  pub no_such_map : f.no_such_map ≡ false
  pub no_such_token : f.no_such_token ≡ false
  pub no_such_contract : f.no_such_contract ≡ false
  pub no_such_function : f.no_such_function ≡ false
  pub not_a_function : f.not_a_function ≡ false
  pub literal_expected : f.literal_expected ≡ false
  pub empty_form : f.empty_form ≡ false
  pub bad_binding : f.bad_binding ≡ false
  pub key_twice : f.key_twice ≡ false
  pub not_a_value : f.not_a_value ≡ false

pub fine_shape : (f : ShapeFaults) → shape_rules f ≡ [] → IsFineShape f
fine_shape f h0 =
    let h1 = then_rest f.unknown_name UnknownName _ h0 in
    let h2 = then_rest f.argument_count ArgumentCount _ h1 in
    let h3 = then_rest f.shadowed_name ShadowedName _ h2 in
    let h4 = then_rest f.no_such_variable NoSuchVariable _ h3 in
    let h5 = then_rest f.no_such_map NoSuchMap _ h4 in
    let h6 = then_rest f.no_such_token NoSuchToken _ h5 in
    let h7 = then_rest f.no_such_contract NoSuchContract _ h6 in
    let h8 = then_rest f.no_such_function NoSuchFunction _ h7 in
    let h9 = then_rest f.not_a_function NotAFunction _ h8 in
    let h10 = then_rest f.literal_expected LiteralExpected _ h9 in
    let h11 = then_rest f.empty_form EmptyForm _ h10 in
    let h12 = then_rest f.bad_binding BadBinding _ h11 in
    let h13 = then_rest f.key_twice KeyTwice _ h12 in
    record {
      unknown_name = not_when f.unknown_name UnknownName _ h0;
      argument_count = not_when f.argument_count ArgumentCount _ h1;
      shadowed_name = not_when f.shadowed_name ShadowedName _ h2;
      no_such_variable = not_when f.no_such_variable NoSuchVariable _ h3;
      no_such_map = not_when f.no_such_map NoSuchMap _ h4;
      no_such_token = not_when f.no_such_token NoSuchToken _ h5;
      no_such_contract = not_when f.no_such_contract NoSuchContract _ h6;
      no_such_function = not_when f.no_such_function NoSuchFunction _ h7;
      not_a_function = not_when f.not_a_function NotAFunction _ h8;
      literal_expected = not_when f.literal_expected LiteralExpected _ h9;
      empty_form = not_when f.empty_form EmptyForm _ h10;
      bad_binding = not_when f.bad_binding BadBinding _ h11;
      key_twice = not_when f.key_twice KeyTwice _ h12;
      not_a_value = not_when f.not_a_value NotAValue _ h13;
    }

-- nothing is broken by a form itself
pub record IsFineForm (f : FormFaults) : Type 0 where
  pub argument_kind : f.argument_kind ≡ false
  pub too_large : f.too_large ≡ false
  pub thrown_differ : f.thrown_differ ≡ false
  pub not_response : f.not_response ≡ false
  pub too_deep_calls : f.too_deep_calls ≡ false

pub fine_form : (f : FormFaults) → form_rules f ≡ [] → IsFineForm f
fine_form f h0 =
    let h1 = then_rest f.argument_kind ArgumentKind _ h0 in
    let h2 = then_rest f.too_large TooLarge _ h1 in
    let h3 = then_rest f.thrown_differ ThrownDiffer _ h2 in
    let h4 = then_rest f.not_response NotResponse _ h3 in
    record {
      argument_kind = not_when f.argument_kind ArgumentKind _ h0;
      too_large = not_when f.too_large TooLarge _ h1;
      thrown_differ = not_when f.thrown_differ ThrownDiffer _ h2;
      not_response = not_when f.not_response NotResponse _ h3;
      too_deep_calls = not_when f.too_deep_calls TooDeepCalls _ h4;
    }
