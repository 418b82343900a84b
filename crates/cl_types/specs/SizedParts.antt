-- The parts of a type within the limits are within them.
use Rattle.std.proofs.Common.{ℕ, ◌&&◌, List, [], ◌∷◌, arith}
use Rattle.std.specs.List.{All}
use Rattle.std.specs.Cmp.{first_so, second_so}
use Rattle.std.proofs.lemmas.List.Elements.{All-cons}
use Rattle.cl_types.specs.Types.{PlainType, ListType, TupleType, OptionalType, ResponseType, Fields, NoField, Field}
use Rattle.cl_types.specs.Sized.{everywhere, everywhere_in, are_named, rises, keys_are_names, keys_rise, is_within, IsSized, AreSized, types_in, parts}

pub list_part : (n : ℕ) (t : PlainType) → IsSized (ListType n t) → IsSized t
list_part n t h = record {
  names = h.names;
  keys = h.keys;
  depth = omega (arith, h.depth);
  sizes = second_so (is_within (ListType n t)) (everywhere is_within t) h.sizes;
}

pub optional_part : (t : PlainType) → IsSized (OptionalType t) → IsSized t
optional_part t h = record {
  names = h.names;
  keys = h.keys;
  depth = omega (arith, h.depth);
  sizes = second_so (is_within (OptionalType t)) (everywhere is_within t) h.sizes;
}

pub ok_part : (t e : PlainType) → IsSized (ResponseType t e) → IsSized t
ok_part t e h = record {
  names = first_so (everywhere keys_are_names t) (everywhere keys_are_names e) h.names;
  keys = first_so (everywhere keys_rise t) (everywhere keys_rise e) h.keys;
  depth = omega (arith, h.depth);
  sizes = second_so (is_within (ResponseType t e)) (everywhere is_within t) (first_so (is_within (ResponseType t e) && everywhere is_within t) (everywhere is_within e) h.sizes);
}

pub err_part : (t e : PlainType) → IsSized (ResponseType t e) → IsSized e
err_part t e h = record {
  names = second_so (everywhere keys_are_names t) (everywhere keys_are_names e) h.names;
  keys = second_so (everywhere keys_rise t) (everywhere keys_rise e) h.keys;
  depth = omega (arith, h.depth);
  sizes = second_so (is_within (ResponseType t e) && everywhere is_within t) (everywhere is_within e) h.sizes;
}

pub tuple_parts : (fs : Fields) → IsSized (TupleType fs) → AreSized fs
tuple_parts fs h = record {
  names = second_so (are_named fs) (everywhere_in keys_are_names fs) h.names;
  keys = second_so (rises fs) (everywhere_in keys_rise fs) h.keys;
  depth = omega (arith, h.depth);
  sizes = second_so (is_within (TupleType fs)) (everywhere_in is_within fs) h.sizes;
}

pub first_field : (k : List ℕ) (t : PlainType) (fs : Fields) → AreSized (Field k t fs) → IsSized t
first_field k t fs h = record {
  names = first_so (everywhere keys_are_names t) (everywhere_in keys_are_names fs) h.names;
  keys = first_so (everywhere keys_rise t) (everywhere_in keys_rise fs) h.keys;
  depth = omega (arith, h.depth);
  sizes = first_so (everywhere is_within t) (everywhere_in is_within fs) h.sizes;
}

pub rest_fields : (k : List ℕ) (t : PlainType) (fs : Fields) → AreSized (Field k t fs) → AreSized fs
rest_fields k t fs h = record {
  names = second_so (everywhere keys_are_names t) (everywhere_in keys_are_names fs) h.names;
  keys = second_so (everywhere keys_rise t) (everywhere_in keys_rise fs) h.keys;
  depth = omega (arith, h.depth);
  sizes = second_so (everywhere is_within t) (everywhere_in is_within fs) h.sizes;
}

none_sized : All IsSized []
none_sized = λ k d h. absurd (omega (arith, h))

fields_sized : (fs : Fields) → AreSized fs → All IsSized (types_in fs)
fields_sized NoField h = none_sized
fields_sized (Field k t fs) h = All-cons IsSized t (types_in fs) (first_field k t fs h) (fields_sized fs (rest_fields k t fs h))

pub each_part : (t : PlainType) → IsSized t → All IsSized (parts t)
each_part (ListType n t) h = All-cons IsSized t [] (list_part n t h) none_sized
each_part (TupleType fs) h = fields_sized fs (tuple_parts fs h)
each_part (OptionalType t) h = All-cons IsSized t [] (optional_part t h) none_sized
each_part (ResponseType t e) h = All-cons IsSized t (e ∷ []) (ok_part t e h) (All-cons IsSized e [] (err_part t e h) none_sized)
each_part t h = none_sized
