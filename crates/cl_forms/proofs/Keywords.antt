-- The keyword of a name.
use Rattle.std.proofs.Common.{◌≡◌, ℕ, Bool, true, false, List, Option, Some, None, refl}
use Rattle.std.specs.Prelude.{◌||◌, if◌then◌else◌}
use Rattle.cl_forms.specs.declared.keyword.Keyword.{Keyword}
use Rattle.cl_forms.specs.declared.keyword.Keyword.TheVariants as keys
use Rattle.cl_forms.specs.Keywords.{keyword_name, keyword_of, keywords}
use Rattle.cl_forms.specs.Names.{same, is_one_of}

pub keyword_there : (k : Keyword) → keyword_of (keyword_name k) ≡ Some k
keyword_there keys.True = refl
keyword_there keys.False = refl
keyword_there keys.None = refl
keyword_there keys.TxSender = refl
keyword_there keys.ContractCaller = refl
keyword_there keys.BlockHeight = refl

-- the keyword of a name by its tests
abbrev keyword_by : Bool → Bool → Bool → Bool → Bool → Bool → Option Keyword
keyword_by a b c d e f =
    if a then Some keys.True
    else (if b then Some keys.False
    else (if c then Some keys.None
    else (if d then Some keys.TxSender
    else (if e then Some keys.ContractCaller
    else (if f then Some keys.BlockHeight
    else None)))))

abbrev any_of : Bool → Bool → Bool → Bool → Bool → Bool → Bool
any_of a b c d e f = a || (b || (c || (d || (e || (f || false)))))

none_of : (a b c d e f : Bool) → keyword_by a b c d e f ≡ None → any_of a b c d e f ≡ false
none_of true b c d e f h = absurd cc
none_of false true c d e f h = absurd cc
none_of false false true d e f h = absurd cc
none_of false false false true e f h = absurd cc
none_of false false false false true f h = absurd cc
none_of false false false false false true h = absurd cc
none_of false false false false false false h = refl

no_test : (a b c d e f : Bool) → any_of a b c d e f ≡ false → keyword_by a b c d e f ≡ None
no_test true b c d e f h = absurd cc
no_test false true c d e f h = absurd cc
no_test false false true d e f h = absurd cc
no_test false false false true e f h = absurd cc
no_test false false false false true f h = absurd cc
no_test false false false false false true h = absurd cc
no_test false false false false false false h = refl

pub no_keyword : (x : List ℕ) → keyword_of x ≡ None → is_one_of keywords x ≡ false
no_keyword x = none_of (same x (keyword_name keys.True)) (same x (keyword_name keys.False)) (same x (keyword_name keys.None)) (same x (keyword_name keys.TxSender)) (same x (keyword_name keys.ContractCaller)) (same x (keyword_name keys.BlockHeight))

pub keyless : (x : List ℕ) → is_one_of keywords x ≡ false → keyword_of x ≡ None
keyless x = no_test (same x (keyword_name keys.True)) (same x (keyword_name keys.False)) (same x (keyword_name keys.None)) (same x (keyword_name keys.TxSender)) (same x (keyword_name keys.ContractCaller)) (same x (keyword_name keys.BlockHeight))
