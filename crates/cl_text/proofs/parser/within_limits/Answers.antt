use Rattle.std.proofs.Common.{rules, ◌≡◌, Bool, true, false, not, if◌then◌else◌, Result, Ok, Err, refl, ap, sym, ◌∙◌}
use Rattle.std.specs.Prelude.{nat_lt}
use Rattle.cl_sexpr.specs.declared.sexpr.Span.{Span}
use Rattle.cl_values.specs.declared.refusal.ValueRefusal.{ValueRefusal}
use Rattle.cl_values.specs.declared.refusal.ValueRefusal.TheVariants.{TooDeep as Deep, TooLarge as Large, BadTuple, BadText}
use Rattle.cl_values.specs.Tree.{Tree, depth_of}
use Rattle.cl_values.specs.Wire.{size_of}
use Rattle.cl_values.specs.Valid.{has_rising_keys, has_good_texts}
use Rattle.cl_text.specs.Parsed.{Stands, TooDeep, TooLarge}
use Rattle.cl_text.proofs.parser.within_limits.Goals as goal

-- where keys rise and texts are good, the limits are left
limits_left : (keys texts : Bool) (rest : Result Tree ValueRefusal) → keys ≡ true → texts ≡ true → (if not keys then Err BadTuple else (if not texts then Err BadText else rest)) ≡ rest
limits_left true true rest p q = refl
limits_left true false rest p q = absurd cc
limits_left false texts rest p q = absurd cc

stands : (deep large : Bool) (span : Span) (v w : Tree) → ◌≡◌ {A = Result Tree ValueRefusal} (if deep then Err Deep else (if large then Err Large else Ok v)) (Ok w) → (if deep then TooDeep span else (if large then TooLarge span else Stands v)) ≡ Stands w
stands true large span v w h = absurd cc
stands false true span v w h = absurd cc
stands false false span v w h = let same : v ≡ w = cc in ap Stands same

pub returns-in-Ok-clause-found : goal.returns-in-Ok-clause-found
returns-in-Ok-clause-found c =
    let v : Tree = c.args.value in
    stands (nat_lt 32 (depth_of v)) (nat_lt 1048576 (size_of v)) c.args.span v c.in-Ok.v
    (sym (limits_left (has_rising_keys v) (has_good_texts v) _ c.requires.keys c.requires.texts) ∙ sym c.in-Ok.ensures)

pub returns-in-Err-TooDeep-clause-broken : goal.returns-in-Err-TooDeep-clause-broken
returns-in-Err-TooDeep-clause-broken c = search rules
