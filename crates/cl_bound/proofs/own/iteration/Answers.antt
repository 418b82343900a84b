use Rattle.std.proofs.Common.{◌≡◌, ℕ, ◌+◌, [], ◌∷◌, map, arith, refl, sym, ap, ◌∙◌}
use Rattle.std.proofs.lemmas.List.{length-map}
use Rattle.cl_types.specs.Types.{PlainType, size_of}
use Rattle.cl_types.specs.TypeKinds.{entry_of}
use Rattle.cl_costs.specs.Tables.{function_of}
use Rattle.cl_rules.specs.Bills.{cost_under}
use Rattle.cl_rules.specs.NativeTypes.{first_of}
use Rattle.cl_rules.specs.Verdicts.{sizes_of}
use Rattle.cl_code.specs.Typed.{type_of}
use Rattle.cl_code.specs.declared.op.Iteration.{Iteration}
use Rattle.cl_sums.specs.Sums.{told}
use Rattle.cl_bound.specs.Own.{given, iterated, iteration}
use Rattle.cl_bound.proofs.own.iteration.Goals as goal

one_entry : (n m : ℕ) (t : PlainType) → n ≡ m → m ≡ size_of t → n ≡ sizes_of (t ∷ [])
one_entry n m t from entry = omega (arith, from, entry)

two_entries : (n m k : ℕ) (t u : PlainType) → n ≡ m + k → m ≡ size_of t → k ≡ size_of u → n ≡ sizes_of (t ∷ u ∷ [])
two_entries n m k t u from entry size = omega (arith, from, entry, size)

pub returns-in-Map : goal.returns-in-Map
returns-in-Map c G shows =
    c.iterated.ensures G (map entry_of (map type_of c.args.parts.now)) shows (sym (length-map (map type_of c.args.parts.now) entry_of ∙ length-map c.args.parts.now type_of)) c.entry_sizes.ensures.value
    ∙ ap (λ (n : ℕ). told (cost_under (function_of c.args.prices.now.costs) (iterated (given G c.args.applied.now) (map type_of c.args.parts.now) n (map entry_of (map type_of c.args.parts.now))))) c.least_length.ensures
    ∙ ap (λ (k : Iteration). told (cost_under (function_of c.args.prices.now.costs) (iteration k (given G c.args.applied.now) c.args.ty.now (map type_of c.args.parts.now)))) (sym c.in-Map.is)

pub returns-in-Filter : goal.returns-in-Filter
returns-in-Filter c G shows =
    let entry : PlainType = entry_of (first_of (map type_of c.args.parts.now)) in
    c.iterated-in-Filter.ensures G (entry ∷ []) shows refl (one_entry c.from.result c.first_sequence-length.result.1 entry c.from.ensures c.first_sequence-length.ensures.entry)
    ∙ ap (λ (n : ℕ). told (cost_under (function_of c.args.prices.now.costs) (iterated (given G c.args.applied.now) (map type_of c.args.parts.now) n (entry ∷ [])))) c.first_sequence-length.ensures.length
    ∙ ap (λ (k : Iteration). told (cost_under (function_of c.args.prices.now.costs) (iteration k (given G c.args.applied.now) c.args.ty.now (map type_of c.args.parts.now)))) (sym c.in-Filter.is)

pub returns-in-Fold : goal.returns-in-Fold
returns-in-Fold c G shows =
    let entry : PlainType = entry_of (first_of (map type_of c.args.parts.now)) in
    c.iterated-in-Fold.ensures G (entry ∷ c.args.ty.now ∷ []) shows refl (two_entries c.from-in-Fold.result c.first_sequence-length.result.1 c.size.result entry c.args.ty.now c.from-in-Fold.ensures c.first_sequence-length.ensures.entry c.size.ensures.counted)
    ∙ ap (λ (n : ℕ). told (cost_under (function_of c.args.prices.now.costs) (iterated (given G c.args.applied.now) (map type_of c.args.parts.now) n (entry ∷ c.args.ty.now ∷ [])))) c.first_sequence-length.ensures.length
    ∙ ap (λ (k : Iteration). told (cost_under (function_of c.args.prices.now.costs) (iteration k (given G c.args.applied.now) c.args.ty.now (map type_of c.args.parts.now)))) (sym c.in-Fold.is)
