-- Natives that write, that apply what is given by name, and that call other contracts.
use Rattle.std.proofs.Common.{◌≡◌, ℕ, Bool, true, false, List, [], ◌∷◌, Some, None, refl, sym, ap, ◌∙◌}
use Rattle.std.specs.Prelude.{codes, is_some, ◌||◌, ◌&&◌}
use Rattle.std.specs.List.{list_any, list_all}
use Rattle.cl_types.proofs.Lattice.{keys_equal}
use Rattle.cl_values.specs.declared.native.Native.TheVariants.{Add}
use Rattle.cl_forms.specs.declared.head.TokenNative.TheVariants.{MintFt}
use Rattle.cl_forms.specs.declared.head.Head.{Head}
use Rattle.cl_forms.specs.declared.head.Head.TheVariants.{OnValues, OnToken, TupleOf, VarSet, MapSet, MapInsert, MapDelete, Map, Filter, Fold, ContractCall}
use Rattle.cl_forms.specs.declared.version.Version.{Version}
use Rattle.cl_forms.specs.declared.version.Version.TheVariants.{One, Two}
use Rattle.cl_forms.specs.Heads.{native}
use Rattle.cl_forms.specs.HeadNames.{name_of, head_of_row, has_head}
use Rattle.cl_forms.specs.Names.{same, is_one_of}
use Rattle.cl_forms.specs.Writes.{writing_natives, applying_natives}
use Rattle.cl_forms.proofs.Found.{found_by_name}

abbrev pub writes_head : Head → Bool
writes_head (OnToken act) = true
writes_head VarSet = true
writes_head MapSet = true
writes_head MapInsert = true
writes_head MapDelete = true
writes_head head = false

abbrev pub applies_head : Head → Bool
applies_head Map = true
applies_head Filter = true
applies_head Fold = true
applies_head head = false

abbrev pub crosses_head : Head → Bool
crosses_head ContractCall = true
crosses_head head = false

abbrev pub is_tuple : Head → Bool
is_tuple TupleOf = true
is_tuple head = false

pub writes_name : (head : Head) → is_one_of writing_natives (name_of head) ≡ writes_head head
writes_name (OnValues Add) = refl
writes_name (OnValues n) = refl
writes_name (OnToken MintFt) = refl
writes_name (OnToken act) = refl
writes_name head = refl

pub applies_name : (head : Head) → is_one_of applying_natives (name_of head) ≡ applies_head head
applies_name (OnValues Add) = refl
applies_name (OnValues n) = refl
applies_name (OnToken MintFt) = refl
applies_name (OnToken act) = refl
applies_name head = refl

pub crosses_name : (head : Head) → same (name_of head) (codes "contract-call?") ≡ crosses_head head
crosses_name (OnValues Add) = refl
crosses_name (OnValues n) = refl
crosses_name (OnToken MintFt) = refl
crosses_name (OnToken act) = refl
crosses_name head = refl

pub tuple_name : (head : Head) → same (name_of head) (codes "tuple") ≡ is_tuple head
tuple_name (OnValues Add) = refl
tuple_name (OnValues n) = refl
tuple_name (OnToken MintFt) = refl
tuple_name (OnToken act) = refl
tuple_name head = refl

pub is_native : (version : Version) (head : Head) → has_head version head ≡ true → native version (name_of head) ≡ None → ⊥
is_native version head had h = no_head (sym (found_by_name version head had) ∙ ap head_of_row h)
  where
    no_head : Some head ≡ None → ⊥
    no_head h = cc

-- ---- names that are no native's

native_step : (b d r n : Bool) → (b ≡ true → d ≡ false) → (d && r) ≡ true → (r ≡ true → n ≡ false) → (b || n) ≡ false
native_step true true r n bad h rest = let no : true ≡ false = bad refl in absurd cc
native_step true false r n bad h rest = absurd cc
native_step false true r n bad h rest = rest h
native_step false false r n bad h rest = absurd cc

or_false : (b : Bool) → (b || false) ≡ false → b ≡ false
or_false true h = h
or_false false h = refl

-- whether a version has natives of all these names
abbrev are_natives : Version → List (List ℕ) → Bool
are_natives version names = list_all (λ y. is_some (native version y)) names

writing_are : (version : Version) → are_natives version writing_natives ≡ true
unfolding native
writing_are One = refl
writing_are Two = refl

applying_are : (version : Version) → are_natives version applying_natives ≡ true
unfolding native
applying_are One = refl
applying_are Two = refl

crossing_is : (version : Version) → are_natives version (codes "contract-call?" ∷ []) ≡ true
unfolding native
crossing_is One = refl
crossing_is Two = refl

tuple_is : (version : Version) → are_natives version (codes "tuple" ∷ []) ≡ true
unfolding native
tuple_is One = refl
tuple_is Two = refl

module _ (version : Version) (x : List ℕ) (none : native version x ≡ None) where
  clash : (y : List ℕ) → same x y ≡ true → is_some (native version y) ≡ false
  clash y e = ap is_some (sym (ap (native version) (keys_equal x y e)) ∙ none)

  all_natives : (names : List (List ℕ)) → are_natives version names ≡ true → list_any (same x) names ≡ false
  all_natives [] h = refl
  all_natives (y ∷ ys) h = native_step (same x y) (is_some (native version y)) (are_natives version ys) (list_any (same x) ys) (clash y) h (all_natives ys)

  pub no_writing : is_one_of writing_natives x ≡ false
  no_writing = all_natives writing_natives (writing_are version)

  pub no_applying : is_one_of applying_natives x ≡ false
  no_applying = all_natives applying_natives (applying_are version)

  pub no_crossing : same x (codes "contract-call?") ≡ false
  no_crossing = or_false (same x (codes "contract-call?")) (all_natives (codes "contract-call?" ∷ []) (crossing_is version))

  pub no_tuple : same x (codes "tuple") ≡ false
  no_tuple = or_false (same x (codes "tuple")) (all_natives (codes "tuple" ∷ []) (tuple_is version))
