-- Where names rise, the first that is left is the least.
use Rattle.std.proofs.Common.{◌≡◌, ◌≢◌, ℕ, List, [], ◌∷◌, Bool, true, false, cond, not, All, filter, MatchOption, refl, sym, ap, ◌∙◌, arith}
use Rattle.std.proofs.lemmas.Cmp.{nat_list_cmp_total}
use Rattle.std.proofs.lemmas.List.Elements.{All-nil, All-cons}
use Rattle.std.specs.Ordering.{nat_cmp, ordering_reverse}
use Rattle.std.specs.declared.cmp.Ordering.{Ordering}
use Rattle.std.specs.declared.cmp.Ordering.TheVariants.{Less, Greater}
use Rattle.std.specs.Cmp.Lexicographic.{slice_cmp}
use Rattle.std.specs.List.{slice_get}
use Rattle.serde_json.specs.Data.{Members, no_members, member}
use Rattle.cl_json.specs.Json.{is_known, names_of, unknown_names}
use Rattle.cl_json.specs.Order.{AllAfter, Rising, IsLeast}

abbrev IsNotAfter : List ℕ → List ℕ → Type 0
IsNotAfter name other = slice_cmp nat_cmp name other ≢ Greater

not_after_itself : (name : List ℕ) → IsNotAfter name name
not_after_itself name e =
    let turned : Greater ≡ Less = sym e ∙ nat_list_cmp_total.antisymm name name ∙ ap ordering_reverse e in cc

before_greater : (o : Ordering) → o ≡ Less → o ≢ Greater
before_greater o e g = let same : Less ≡ Greater = sym e ∙ g in cc

kept_cons : (P : List ℕ → Type 0) (keep : Bool) (name : List ℕ) (names : List (List ℕ)) → P name → All P names → All P (cond keep (name ∷ names) names)
kept_cons P true name names p h = All-cons P name names p h
kept_cons P false name names p h = h

kept_after : (keep : List ℕ → Bool) (first : List ℕ) (members : Members) → AllAfter first members → All (IsNotAfter first) (filter keep (names_of members))
kept_after keep first no_members h = All-nil (IsNotAfter first)
kept_after keep first (member name d members) h =
    kept_cons (IsNotAfter first) (keep name) name (filter keep (names_of members)) (before_greater _ h.0) (kept_after keep first members h.1)

abbrev LeastOf : List (List ℕ) → Type 0
LeastOf names = MatchOption (slice_get names 0) (names ≡ []) (λ name. IsLeast name names)

least_cons : (keep : Bool) (name : List ℕ) (names : List (List ℕ)) → All (IsNotAfter name) names → LeastOf names → LeastOf (cond keep (name ∷ names) names)
least_cons true name names h least = record {
  there = (0, omega arith, refl);
  least = All-cons (IsNotAfter name) name names (not_after_itself name) h;
}
least_cons false name names h least = least

least_kept : (keep : List ℕ → Bool) (members : Members) → Rising members → LeastOf (filter keep (names_of members))
least_kept keep no_members rising = refl
least_kept keep (member name d members) rising =
    least_cons (keep name) name (filter keep (names_of members)) (kept_after keep name members rising.0) (least_kept keep members rising.1)

pub least_unknown : (known : List (List ℕ)) (members : Members) → Rising members → LeastOf (unknown_names known members)
least_unknown known members rising = least_kept (λ name. not (is_known known name)) members rising
