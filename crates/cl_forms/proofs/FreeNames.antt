-- A name that isn't reserved is no native's.
use Rattle.std.proofs.Common.{◌≡◌, ℕ, Bool, true, false, List, [], ◌∷◌, ◌++◌, Option, Some, None, refl, sym, ap, ◌∙◌}
use Rattle.std.specs.Prelude.{◌||◌, map, if◌then◌else◌}
use Rattle.std.proofs.lemmas.Bool.{or_parts}
use Rattle.std.proofs.lemmas.List.Folds.{list_any-append}
use Rattle.cl_forms.specs.Names.{same, is_one_of}
use Rattle.cl_forms.specs.Keywords.{keywords}
use Rattle.cl_forms.specs.Heads.{Version, Row, row_in, table, native, define_words, left_out, words, is_reserved}
use Rattle.cl_forms.proofs.SameNames.{same_turned}

row_step : (b d : Bool) (row : Row) (rest : Option Row) (c : Bool) → b ≡ d → (d || c) ≡ false → (c ≡ false → rest ≡ None) → (if b then Some row else rest) ≡ None
row_step true true row rest c is h k = absurd cc
row_step true false row rest c is h k = absurd cc
row_step false true row rest c is h k = absurd cc
row_step false false row rest c is h k = k h

no_row : (rows : List Row) (x : List ℕ) → is_one_of (map (λ row. row.name) rows) x ≡ false → row_in rows x ≡ None
no_row [] x h = refl
no_row (row ∷ rows) x h = row_step (same row.name x) (same x row.name) row (row_in rows x) (is_one_of (map (λ r. r.name) rows) x) (same_turned row.name x) h (no_row rows x)

pub no_native : (version : Version) (x : List ℕ) → is_reserved version x ≡ false → native version x ≡ None
unfolding is_reserved native words
no_native version x h =
    let natives = map (λ row. row.name) (table version) in
    let both = or_parts (is_one_of (words version) x) (is_one_of left_out x) h in
    let apart = sym (list_any-append (same x) (natives ++ keywords) define_words ∙ ap (λ b. b || is_one_of define_words x) (list_any-append (same x) natives keywords)) in
    let two = or_parts (is_one_of natives x || is_one_of keywords x) (is_one_of define_words x) (apart ∙ both.0) in
    let one = or_parts (is_one_of natives x) (is_one_of keywords x) two.0 in
    no_row (table version) x one.0
