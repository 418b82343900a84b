-- What an expression or a form may break, as conditions that hold or don't, and the rules that are broken, in rising order.
use Rattle.std.specs.Prelude.{Bool, false, List, []}
use Rattle.cl_sexpr.specs.declared.rule.Rule.{Rule}
use Rattle.cl_sexpr.specs.declared.rule.Rule.TheVariants.{UnknownName, ArgumentCount, ArgumentKind, NotSame, TooLarge, TooDeep, Undetermined, ThrownDiffer, NotResponse, UnusedResponse, ShadowedName, NoSuchKey, NoSuchVariable, NoSuchMap, NoSuchToken, NoSuchContract, NoSuchFunction, NotAFunction, LiteralExpected, EmptyForm, BadBinding, TooDeepCalls, KeyTwice, NotAValue}
pub use Rattle.cl_forms.specs.FormBreaks.{when}

-- What an expression's own shape breaks, whatever its parts are. Each condition is named by its rule.
pub record ShapeFaults : Type 0 where
  -- an atom names nothing, or an operator is no native and no function
  pub unknown_name : Bool
  -- the number of arguments isn't the row's or the function's
  pub argument_count : Bool
  -- a bound name is reserved, top-level, bound outside or twice
  pub shadowed_name : Bool
  pub no_such_variable : Bool
  pub no_such_map : Bool
  pub no_such_token : Bool
  -- the contract isn't deployed, or is the own one
  pub no_such_contract : Bool
  -- the target hasn't the function, or it is private
  pub no_such_function : Bool
  -- what is to be applied is no function, and no native that can be given by name
  pub not_a_function : Bool
  -- a length or a contract is no such literal
  pub literal_expected : Bool
  -- (), or an operator that is no atom
  pub empty_form : Bool
  -- a place for a name, binding or pair holds another shape
  pub bad_binding : Bool
  -- a tuple has a key twice
  pub key_twice : Bool
  -- an atom names what is no value
  pub not_a_value : Bool

abbrev pub sound_shape : ShapeFaults
sound_shape = record {
  unknown_name = false;
  argument_count = false;
  shadowed_name = false;
  no_such_variable = false;
  no_such_map = false;
  no_such_token = false;
  no_such_contract = false;
  no_such_function = false;
  not_a_function = false;
  literal_expected = false;
  empty_form = false;
  bad_binding = false;
  key_twice = false;
  not_a_value = false;
}

-- the rules that a shape breaks, in rising order
abbrev pub shape_rules : ShapeFaults → List Rule
shape_rules f =
    when f.unknown_name UnknownName (when f.argument_count ArgumentCount (when f.shadowed_name ShadowedName
    (when f.no_such_variable NoSuchVariable (when f.no_such_map NoSuchMap (when f.no_such_token NoSuchToken
    (when f.no_such_contract NoSuchContract (when f.no_such_function NoSuchFunction (when f.not_a_function NotAFunction
    (when f.literal_expected LiteralExpected (when f.empty_form EmptyForm (when f.bad_binding BadBinding
    (when f.key_twice KeyTwice (when f.not_a_value NotAValue [])))))))))))))

-- What an expression breaks at the types and thrown types of its parts.
pub record TypeFaults : Type 0 where
  -- an argument isn't of the row's type, or isn't admitted
  pub argument_kind : Bool
  -- a least supertype is refused, since no type admits both
  pub not_same : Bool
  -- a type made, or a part of it, is too large
  pub too_large : Bool
  -- a type made is too deep
  pub too_deep : Bool
  -- a part of no type is unwrapped, tried or matched, or given to a native by name
  pub undetermined : Bool
  -- the thrown types of the parts and of the expression itself have no common supertype
  pub thrown_differ : Bool
  -- a middle expression has a response type
  pub unused_response : Bool
  -- the tuple hasn't the key
  pub no_such_key : Bool

abbrev pub sound_types : TypeFaults
sound_types = record {
  argument_kind = false;
  not_same = false;
  too_large = false;
  too_deep = false;
  undetermined = false;
  thrown_differ = false;
  unused_response = false;
  no_such_key = false;
}

-- the rules that are broken at the types of the parts, in rising order
abbrev pub type_rules : TypeFaults → List Rule
type_rules f =
    when f.argument_kind ArgumentKind (when f.not_same NotSame (when f.too_large TooLarge (when f.too_deep TooDeep
    (when f.undetermined Undetermined (when f.thrown_differ ThrownDiffer (when f.unused_response UnusedResponse
    (when f.no_such_key NoSuchKey [])))))))

-- What a form breaks by itself, where its expression is typed.
pub record FormFaults : Type 0 where
  -- the declared type doesn't admit the expression's
  pub argument_kind : Bool
  -- the least supertype of a body's type and thrown type is too large
  pub too_large : Bool
  -- a body's type and thrown type have no common supertype
  pub thrown_differ : Bool
  -- a public function's type is no response
  pub not_response : Bool
  -- a height is above the limit
  pub too_deep_calls : Bool

abbrev pub sound_form : FormFaults
sound_form = record { argument_kind = false; too_large = false; thrown_differ = false; not_response = false; too_deep_calls = false }

-- the rules that a form breaks by itself, in rising order
abbrev pub form_rules : FormFaults → List Rule
form_rules f =
    when f.argument_kind ArgumentKind (when f.too_large TooLarge (when f.thrown_differ ThrownDiffer
    (when f.not_response NotResponse (when f.too_deep_calls TooDeepCalls []))))
