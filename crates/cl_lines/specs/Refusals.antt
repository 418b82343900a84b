-- How aborts and refusals print.
use Rattle.std.specs.Prelude.{ℕ, List, [], ◌∷◌, ◌++◌, codes, decimal}
use Rattle.cl_shapes.specs.Costs.{dimension_name, part}
use Rattle.cl_sexpr.specs.Rules.{rule_text}
use Rattle.cl_sexpr.specs.declared.sexpr.Span.{Span}
use Rattle.cl_sexpr.specs.declared.rule.Rule.{Rule}
use Rattle.cl_sexpr.specs.declared.rule.Rule.TheVariants.{BoundTooLarge}
use Rattle.cl_tx.specs.Seen.{SourceBreak}
use Rattle.cl_tx.specs.declared.outcome.Stop.{Stop}
use Rattle.cl_tx.specs.declared.outcome.Stop.TheVariants.{Overflow, Underflow, DivideByZero, NegativeArgument, Panic, SupplyOverflow, EarlyTop, CostLimit, PostCondition}
use Rattle.cl_tx.specs.declared.outcome.EntryRefusal.{EntryRefusal}
use Rattle.cl_tx.specs.declared.outcome.EntryRefusal.TheVariants.{NoContract, NoFunction, NotPublic, ArgumentCount, Argument, NameTaken, ContractRefused, NoBound}

-- names, each behind a space
abbrev pub names_text : List (List ℕ) → List ℕ
names_text [] = []
names_text (name ∷ names) = codes " " ++ (name ++ names_text names)

-- the dimension of a bound that is too large
abbrev pub dimension_text : Rule → List ℕ
dimension_text (BoundTooLarge d) = codes " " ++ dimension_name d
dimension_text r = []

-- the places of the bytes that are spoken of, the last of them not included
unfoldable pub span_text : Span → List ℕ
span_text span = codes " " ++ (decimal span.start ++ (codes ".." ++ decimal span.end))

-- a broken rule with its span, and behind it the names of a cycle, or the dimension of a bound
unfoldable pub refusal_text : SourceBreak → List ℕ
refusal_text r = rule_text r.rule ++ (span_text r.span ++ (names_text r.names ++ dimension_text r.rule))

-- why an entry stops
unfoldable pub stop_text : Stop → List ℕ
stop_text Overflow = codes "A1 Overflow"
stop_text Underflow = codes "A2 Underflow"
stop_text DivideByZero = codes "A3 DivideByZero"
stop_text NegativeArgument = codes "A4 NegativeArgument"
stop_text Panic = codes "A5 Panic"
stop_text SupplyOverflow = codes "A6 SupplyOverflow"
stop_text EarlyTop = codes "A7 EarlyTop"
stop_text (CostLimit over) =
    codes "A8 CostLimit " ++ (dimension_name over.dimension ++ (codes " " ++ (decimal (part over.dimension over.attempted) ++ (codes " " ++ decimal over.limit))))
stop_text (PostCondition index) = codes "A9 PostCondition " ++ decimal index

-- why an entry isn't run
unfoldable pub entry_refusal_text : EntryRefusal → List ℕ
entry_refusal_text NoContract = codes "E1 NoContract"
entry_refusal_text NoFunction = codes "E2 NoFunction"
entry_refusal_text NotPublic = codes "E3 NotPublic"
entry_refusal_text ArgumentCount = codes "E4 ArgumentCount"
entry_refusal_text (Argument index) = codes "E5 Argument " ++ decimal index
entry_refusal_text NameTaken = codes "E6 NameTaken"
entry_refusal_text (ContractRefused r) = codes "E7 ContractRefused " ++ refusal_text r
entry_refusal_text (NoBound d) = codes "E8 NoBound " ++ dimension_name d
