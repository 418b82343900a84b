-- Each kind of node by example: outcomes, and charges in their order.
use Rattle.std.specs.Prelude.{true, false, List, [], ◌∷◌, codes, map, Some, pos, negsuc}
use Rattle.cl_types.specs.Types.{UintType, PrincipalType, BuffType}
use Rattle.cl_types.specs.declared.sized.Access.TheVariants.{Public, ReadOnly, Private}
use Rattle.cl_arith.specs.declared.ArithRefusal.TheVariants.{DivideByZero}
use Rattle.cl_shapes.specs.declared.name.CostName.TheVariants.{Literal, Lookup, Context, Control, Call, Bind, Arith, Compare, Wrap, Make, Take, Scan, Iterate, ReadVar, WriteVar, ReadMap, WriteMap, ReadToken, WriteToken, ContractCall, Event}
use Rattle.cl_sexpr.specs.Tree.{Tree}
use Rattle.cl_values.specs.Tree.{Tree as Val, IntV, UintV, BoolV, BuffV, AsciiV, PrincipalV, ListV, TupleV, NoneV, SomeV, ResponseV, items_of, entries_of}
use Rattle.cl_maps.specs.Maps.{put, empty}
use Rattle.cl_tokens.specs.Ledger.{no_tokens}
use Rattle.cl_forms.specs.Forms.{Form}
use Rattle.cl_events.specs.State.{State, genesis, place, spot, holder}
use Rattle.cl_meaning.specs.Answers.{Answer, Outcome, Given, Thrown, Aborted, ByArithmetic, ByPanic, BySupply}
use Rattle.cl_meaning.specs.Deployed.{Contract}
use Rattle.cl_meaning.specs.Samples.{name, int, uint, buffer, ascii, beside_it, form, group, braces, constant, variable, map_form, fungible, nonfungible, function, P0, P1, of_P0, contract, frame}
use Rattle.cl_values.specs.Wire.{wire}
use Rattle.cl_meaning.specs.Meaning.{means}
use Rattle.cl_meaning.specs.Limits.{Charge, charges_of}

-- (define-constant seven u7)
-- (define-data-var v uint u5)
-- (define-map m uint uint)
-- (define-fungible-token coin u100)
-- (define-non-fungible-token tok uint)
-- (define-private (small (x uint)) (< x u3))
-- (define-private (is-one (b (buff 1))) (is-eq b 0x01))
-- (define-private (add (x uint) (y uint)) (+ x y))
-- (define-private (early) (begin (try! (err u9)) (ok u1)))
-- (define-public (fail (x uint)) (begin (var-set v x) (err x)))
abbrev pub home_forms : List Form
home_forms =
    constant (codes "seven") (uint 7)
    ∷ variable (codes "v") UintType (uint 5)
    ∷ map_form (codes "m") UintType UintType
    ∷ fungible (codes "coin") (Some (uint 100))
    ∷ nonfungible (codes "tok") UintType
    ∷ function Private (codes "small") ((codes "x", UintType) ∷ []) (form (codes "<") (name (codes "x") ∷ uint 3 ∷ []))
    ∷ function Private (codes "is-one") ((codes "b", BuffType 1) ∷ []) (form (codes "is-eq") (name (codes "b") ∷ buffer (1 ∷ []) ∷ []))
    ∷ function Private (codes "add") ((codes "x", UintType) ∷ (codes "y", UintType) ∷ []) (form (codes "+") (name (codes "x") ∷ name (codes "y") ∷ []))
    ∷ function Private (codes "early") [] (form (codes "begin") (form (codes "try!") (form (codes "err") (uint 9 ∷ []) ∷ []) ∷ form (codes "ok") (uint 1 ∷ []) ∷ []))
    ∷ function Public (codes "fail") ((codes "x", UintType) ∷ []) (form (codes "begin") (form (codes "var-set") (name (codes "v") ∷ name (codes "x") ∷ []) ∷ form (codes "err") (name (codes "x") ∷ []) ∷ []))
    ∷ []

-- (define-data-var seen principal tx-sender)(define-public (note) (ok (var-set seen contract-caller)))(define-read-only (who) tx-sender)(define-private (hidden) u1)
abbrev pub other_forms : List Form
other_forms =
    variable (codes "seen") PrincipalType (name (codes "tx-sender"))
    ∷ function Public (codes "note") [] (form (codes "ok") (form (codes "var-set") (name (codes "seen") ∷ name (codes "contract-caller") ∷ []) ∷ []))
    ∷ function ReadOnly (codes "who") [] (name (codes "tx-sender"))
    ∷ function Private (codes "hidden") [] (uint 1)
    ∷ []

abbrev pub other_contract : Contract
other_contract = contract (codes "other") 162 other_forms

abbrev pub home_contract : Contract
home_contract = record (contract (codes "home") 416 home_forms) { constants = (codes "seven", UintV 7) ∷ [] }

-- P1 has 1000 STX, 40 coins and the asset u1
abbrev pub home_state : State
home_state = record (genesis ((P1, 1000) ∷ [])) {
  variables = put (place (of_P0 (codes "home")) (codes "v")) (UintV 5) (put (place (of_P0 (codes "other")) (codes "seen")) (PrincipalV P0) empty);
  entries = put (spot (of_P0 (codes "home")) (codes "m") (UintV 1)) (UintV 10) empty;
  fungibles = put (place (of_P0 (codes "home")) (codes "coin")) (record (no_tokens (Some 100)) { supply = 40; balances = put (holder P1) 40 empty }) empty;
  nonfungibles = put (place (of_P0 (codes "home")) (codes "tok")) (put (wire (UintV 1)) (holder P1) empty) empty;
}

-- an expression of the contract, evaluated for P1 at height 9
abbrev pub at_home : Tree → Answer Val
at_home e = means 256 (record { deployed = home_contract ∷ other_contract ∷ []; frame = record (frame (codes "home") P1) { height = 9 }; bound = [] }) e home_state

-- an expression, its outcome, and its charges in their order
pub record Example : Type 0 where
  pub expression : Tree
  pub outcome : Outcome Val
  pub charges : List Charge

abbrev pub of : Tree → Outcome Val → List Charge → Example
of e outcome charges = record { expression = e; outcome = outcome; charges = charges }

-- what the examples say, and what the definitions give
abbrev pub said : List Example → List (Outcome Val × List Charge)
said examples = map (λ e. (e.outcome, e.charges)) examples

abbrev pub meant : List Example → List (Outcome Val × List Charge)
meant examples = map (λ e. ((at_home e.expression).outcome, charges_of (at_home e.expression).log)) examples

abbrev pub leaf_examples : List Example
leaf_examples =
    -- 5
    of (int (pos 5)) (Given (IntV (pos 5))) ((Literal, 17) ∷ [])
    -- -5
    ∷ of (int (negsuc 4)) (Given (IntV (negsuc 4))) ((Literal, 17) ∷ [])
    -- u5
    ∷ of (uint 5) (Given (UintV 5)) ((Literal, 17) ∷ [])
    -- 0x0a
    ∷ of (buffer (10 ∷ [])) (Given (BuffV (10 ∷ []))) ((Literal, 6) ∷ [])
    -- "ab"
    ∷ of (ascii (codes "ab")) (Given (AsciiV (codes "ab"))) ((Literal, 7) ∷ [])
    -- true
    ∷ of (name (codes "true")) (Given (BoolV true)) ((Literal, 1) ∷ [])
    -- none
    ∷ of (name (codes "none")) (Given NoneV) ((Literal, 1) ∷ [])
    -- tx-sender
    ∷ of (name (codes "tx-sender")) (Given (PrincipalV P1)) ((Context, 22) ∷ [])
    -- contract-caller
    ∷ of (name (codes "contract-caller")) (Given (PrincipalV P1)) ((Context, 22) ∷ [])
    -- block-height
    ∷ of (name (codes "block-height")) (Given (UintV 9)) ((Context, 17) ∷ [])
    -- .other
    ∷ of (beside_it (codes "other")) (Given (PrincipalV (of_P0 (codes "other")))) ((Literal, 28) ∷ [])
    -- seven
    ∷ of (name (codes "seven")) (Given (UintV 7)) ((Lookup, 17) ∷ [])
    ∷ []

abbrev pub control_examples : List Example
control_examples =
    -- (if true 1 2)
    of (form (codes "if") (name (codes "true") ∷ int (pos 1) ∷ int (pos 2) ∷ [])) (Given (IntV (pos 1))) ((Control, 3) ∷ (Literal, 1) ∷ (Literal, 17) ∷ [])
    -- (if false 1 2)
    ∷ of (form (codes "if") (name (codes "false") ∷ int (pos 1) ∷ int (pos 2) ∷ [])) (Given (IntV (pos 2))) ((Control, 3) ∷ (Literal, 1) ∷ (Literal, 17) ∷ [])
    -- (let ((a u1) (b (+ a u1))) b)
    ∷ of (form (codes "let") (group (form (codes "a") (uint 1 ∷ []) ∷ form (codes "b") (form (codes "+") (name (codes "a") ∷ uint 1 ∷ []) ∷ []) ∷ []) ∷ name (codes "b") ∷ [])) (Given (UintV 2)) ((Control, 2) ∷ (Literal, 17) ∷ (Bind, 17) ∷ (Lookup, 17) ∷ (Literal, 17) ∷ (Arith, 2) ∷ (Bind, 17) ∷ (Lookup, 17) ∷ [])
    -- (let () 3)
    ∷ of (form (codes "let") (group [] ∷ int (pos 3) ∷ [])) (Given (IntV (pos 3))) ((Control, 2) ∷ (Literal, 17) ∷ [])
    -- (begin 1 2)
    ∷ of (form (codes "begin") (int (pos 1) ∷ int (pos 2) ∷ [])) (Given (IntV (pos 2))) ((Control, 2) ∷ (Literal, 17) ∷ (Literal, 17) ∷ [])
    -- (and true false true)
    ∷ of (form (codes "and") (name (codes "true") ∷ name (codes "false") ∷ name (codes "true") ∷ [])) (Given (BoolV false)) ((Control, 3) ∷ (Literal, 1) ∷ (Literal, 1) ∷ [])
    -- (and true true)
    ∷ of (form (codes "and") (name (codes "true") ∷ name (codes "true") ∷ [])) (Given (BoolV true)) ((Control, 2) ∷ (Literal, 1) ∷ (Literal, 1) ∷ [])
    -- (or false true true)
    ∷ of (form (codes "or") (name (codes "false") ∷ name (codes "true") ∷ name (codes "true") ∷ [])) (Given (BoolV true)) ((Control, 3) ∷ (Literal, 1) ∷ (Literal, 1) ∷ [])
    -- (or false false)
    ∷ of (form (codes "or") (name (codes "false") ∷ name (codes "false") ∷ [])) (Given (BoolV false)) ((Control, 2) ∷ (Literal, 1) ∷ (Literal, 1) ∷ [])
    -- (asserts! true u1)
    ∷ of (form (codes "asserts!") (name (codes "true") ∷ uint 1 ∷ [])) (Given (BoolV true)) ((Control, 2) ∷ (Literal, 1) ∷ [])
    -- (asserts! false u1)
    ∷ of (form (codes "asserts!") (name (codes "false") ∷ uint 1 ∷ [])) (Thrown (UintV 1)) ((Control, 2) ∷ (Literal, 1) ∷ (Literal, 17) ∷ [])
    -- (unwrap! (some u1) u2)
    ∷ of (form (codes "unwrap!") (form (codes "some") (uint 1 ∷ []) ∷ uint 2 ∷ [])) (Given (UintV 1)) ((Control, 2) ∷ (Literal, 17) ∷ (Wrap, 17) ∷ [])
    -- (unwrap! none u2)
    ∷ of (form (codes "unwrap!") (name (codes "none") ∷ uint 2 ∷ [])) (Thrown (UintV 2)) ((Control, 2) ∷ (Literal, 1) ∷ (Literal, 17) ∷ [])
    -- (unwrap! (err u1) u2)
    ∷ of (form (codes "unwrap!") (form (codes "err") (uint 1 ∷ []) ∷ uint 2 ∷ [])) (Thrown (UintV 2)) ((Control, 2) ∷ (Literal, 17) ∷ (Wrap, 17) ∷ (Literal, 17) ∷ [])
    -- (unwrap-err! (err u1) u2)
    ∷ of (form (codes "unwrap-err!") (form (codes "err") (uint 1 ∷ []) ∷ uint 2 ∷ [])) (Given (UintV 1)) ((Control, 2) ∷ (Literal, 17) ∷ (Wrap, 17) ∷ [])
    -- (unwrap-err! (ok u1) u2)
    ∷ of (form (codes "unwrap-err!") (form (codes "ok") (uint 1 ∷ []) ∷ uint 2 ∷ [])) (Thrown (UintV 2)) ((Control, 2) ∷ (Literal, 17) ∷ (Wrap, 17) ∷ (Literal, 17) ∷ [])
    -- (try! (ok u1))
    ∷ of (form (codes "try!") (form (codes "ok") (uint 1 ∷ []) ∷ [])) (Given (UintV 1)) ((Control, 1) ∷ (Literal, 17) ∷ (Wrap, 17) ∷ [])
    -- (try! (some u1))
    ∷ of (form (codes "try!") (form (codes "some") (uint 1 ∷ []) ∷ [])) (Given (UintV 1)) ((Control, 1) ∷ (Literal, 17) ∷ (Wrap, 17) ∷ [])
    -- (try! (err u9))
    ∷ of (form (codes "try!") (form (codes "err") (uint 9 ∷ []) ∷ [])) (Thrown (ResponseV false (UintV 9))) ((Control, 1) ∷ (Literal, 17) ∷ (Wrap, 17) ∷ [])
    -- (try! none)
    ∷ of (form (codes "try!") (name (codes "none") ∷ [])) (Thrown NoneV) ((Control, 1) ∷ (Literal, 1) ∷ [])
    -- (match (some u1) x (+ x u1) u0)
    ∷ of (form (codes "match") (form (codes "some") (uint 1 ∷ []) ∷ name (codes "x") ∷ form (codes "+") (name (codes "x") ∷ uint 1 ∷ []) ∷ uint 0 ∷ [])) (Given (UintV 2)) ((Control, 4) ∷ (Literal, 17) ∷ (Wrap, 17) ∷ (Bind, 17) ∷ (Lookup, 17) ∷ (Literal, 17) ∷ (Arith, 2) ∷ [])
    -- (match none x x u0)
    ∷ of (form (codes "match") (name (codes "none") ∷ name (codes "x") ∷ name (codes "x") ∷ uint 0 ∷ [])) (Given (UintV 0)) ((Control, 4) ∷ (Literal, 1) ∷ (Literal, 17) ∷ [])
    -- (match (ok u1) x (+ x u1) y u0)
    ∷ of (form (codes "match") (form (codes "ok") (uint 1 ∷ []) ∷ name (codes "x") ∷ form (codes "+") (name (codes "x") ∷ uint 1 ∷ []) ∷ name (codes "y") ∷ uint 0 ∷ [])) (Given (UintV 2)) ((Control, 5) ∷ (Literal, 17) ∷ (Wrap, 17) ∷ (Bind, 17) ∷ (Lookup, 17) ∷ (Literal, 17) ∷ (Arith, 2) ∷ [])
    -- (match (err u4) x u0 y (+ y u1))
    ∷ of (form (codes "match") (form (codes "err") (uint 4 ∷ []) ∷ name (codes "x") ∷ uint 0 ∷ name (codes "y") ∷ form (codes "+") (name (codes "y") ∷ uint 1 ∷ []) ∷ [])) (Given (UintV 5)) ((Control, 5) ∷ (Literal, 17) ∷ (Wrap, 17) ∷ (Bind, 17) ∷ (Lookup, 17) ∷ (Literal, 17) ∷ (Arith, 2) ∷ [])
    -- (as-contract tx-sender)
    ∷ of (form (codes "as-contract") (name (codes "tx-sender") ∷ [])) (Given (PrincipalV (of_P0 (codes "home")))) ((Control, 1) ∷ (Context, 27) ∷ [])
    -- (as-contract contract-caller)
    ∷ of (form (codes "as-contract") (name (codes "contract-caller") ∷ [])) (Given (PrincipalV (of_P0 (codes "home")))) ((Control, 1) ∷ (Context, 27) ∷ [])
    ∷ []

abbrev pub value_examples : List Example
value_examples =
    -- (+ 1 2 3)
    of (form (codes "+") (int (pos 1) ∷ int (pos 2) ∷ int (pos 3) ∷ [])) (Given (IntV (pos 6))) ((Literal, 17) ∷ (Literal, 17) ∷ (Literal, 17) ∷ (Arith, 3) ∷ [])
    -- (- 9)
    ∷ of (form (codes "-") (int (pos 9) ∷ [])) (Given (IntV (negsuc 8))) ((Literal, 17) ∷ (Arith, 1) ∷ [])
    -- (< 1 2)
    ∷ of (form (codes "<") (int (pos 1) ∷ int (pos 2) ∷ [])) (Given (BoolV true)) ((Literal, 17) ∷ (Literal, 17) ∷ (Compare, 34) ∷ [])
    -- (is-eq u1 u1 u2)
    ∷ of (form (codes "is-eq") (uint 1 ∷ uint 1 ∷ uint 2 ∷ [])) (Given (BoolV false)) ((Literal, 17) ∷ (Literal, 17) ∷ (Literal, 17) ∷ (Compare, 51) ∷ [])
    -- (some 1)
    ∷ of (form (codes "some") (int (pos 1) ∷ [])) (Given (SomeV (IntV (pos 1)))) ((Literal, 17) ∷ (Wrap, 17) ∷ [])
    -- (is-ok (ok 1))
    ∷ of (form (codes "is-ok") (form (codes "ok") (int (pos 1) ∷ []) ∷ [])) (Given (BoolV true)) ((Literal, 17) ∷ (Wrap, 17) ∷ (Wrap, 18) ∷ [])
    -- (default-to 1 none)
    ∷ of (form (codes "default-to") (int (pos 1) ∷ name (codes "none") ∷ [])) (Given (IntV (pos 1))) ((Literal, 17) ∷ (Literal, 1) ∷ (Wrap, 18) ∷ [])
    -- (unwrap-panic none)
    ∷ of (form (codes "unwrap-panic") (name (codes "none") ∷ [])) (Aborted ByPanic) ((Literal, 1) ∷ (Wrap, 1) ∷ [])
    -- (unwrap-panic (some 1))
    ∷ of (form (codes "unwrap-panic") (form (codes "some") (int (pos 1) ∷ []) ∷ [])) (Given (IntV (pos 1))) ((Literal, 17) ∷ (Wrap, 17) ∷ (Wrap, 18) ∷ [])
    -- (/ 1 0)
    ∷ of (form (codes "/") (int (pos 1) ∷ int (pos 0) ∷ [])) (Aborted (ByArithmetic DivideByZero)) ((Literal, 17) ∷ (Literal, 17) ∷ (Arith, 2) ∷ [])
    -- (list 1 2)
    ∷ of (form (codes "list") (int (pos 1) ∷ int (pos 2) ∷ [])) (Given (ListV (items_of (IntV (pos 1) ∷ IntV (pos 2) ∷ [])))) ((Literal, 17) ∷ (Literal, 17) ∷ (Make, 34) ∷ [])
    -- (list)
    ∷ of (form (codes "list") []) (Given (ListV (items_of []))) ((Make, 0) ∷ [])
    -- {b: u2, a: u1}
    ∷ of (braces ((codes "b", uint 2) ∷ (codes "a", uint 1) ∷ [])) (Given (TupleV (entries_of ((codes "a", UintV 1) ∷ (codes "b", UintV 2) ∷ [])))) ((Literal, 17) ∷ (Literal, 17) ∷ (Make, 34) ∷ [])
    -- (tuple (b u2) (a u1))
    ∷ of (form (codes "tuple") (form (codes "b") (uint 2 ∷ []) ∷ form (codes "a") (uint 1 ∷ []) ∷ [])) (Given (TupleV (entries_of ((codes "a", UintV 1) ∷ (codes "b", UintV 2) ∷ [])))) ((Literal, 17) ∷ (Literal, 17) ∷ (Make, 34) ∷ [])
    -- (merge {a: 1} {b: 2})
    ∷ of (form (codes "merge") (braces ((codes "a", int (pos 1)) ∷ []) ∷ braces ((codes "b", int (pos 2)) ∷ []) ∷ [])) (Given (TupleV (entries_of ((codes "a", IntV (pos 1)) ∷ (codes "b", IntV (pos 2)) ∷ [])))) ((Literal, 17) ∷ (Make, 17) ∷ (Literal, 17) ∷ (Make, 17) ∷ (Make, 48) ∷ [])
    -- (append (list 1) 2)
    ∷ of (form (codes "append") (form (codes "list") (int (pos 1) ∷ []) ∷ int (pos 2) ∷ [])) (Given (ListV (items_of (IntV (pos 1) ∷ IntV (pos 2) ∷ [])))) ((Literal, 17) ∷ (Make, 17) ∷ (Literal, 17) ∷ (Make, 39) ∷ [])
    -- (concat 0x01 0x0203)
    ∷ of (form (codes "concat") (buffer (1 ∷ []) ∷ buffer (2 ∷ 3 ∷ []) ∷ [])) (Given (BuffV (1 ∷ 2 ∷ 3 ∷ []))) ((Literal, 6) ∷ (Literal, 7) ∷ (Make, 13) ∷ [])
    -- (as-max-len? 0x010203 u2)
    ∷ of (form (codes "as-max-len?") (buffer (1 ∷ 2 ∷ 3 ∷ []) ∷ uint 2 ∷ [])) (Given NoneV) ((Literal, 8) ∷ (Make, 8) ∷ [])
    -- (as-max-len? 0x010203 u3)
    ∷ of (form (codes "as-max-len?") (buffer (1 ∷ 2 ∷ 3 ∷ []) ∷ uint 3 ∷ [])) (Given (SomeV (BuffV (1 ∷ 2 ∷ 3 ∷ [])))) ((Literal, 8) ∷ (Make, 8) ∷ [])
    -- (get a {b: u2, a: u1})
    ∷ of (form (codes "get") (name (codes "a") ∷ braces ((codes "b", uint 2) ∷ (codes "a", uint 1) ∷ []) ∷ [])) (Given (UintV 1)) ((Literal, 17) ∷ (Literal, 17) ∷ (Make, 34) ∷ (Take, 43) ∷ [])
    -- (get a (some {b: u2, a: u1}))
    ∷ of (form (codes "get") (name (codes "a") ∷ form (codes "some") (braces ((codes "b", uint 2) ∷ (codes "a", uint 1) ∷ []) ∷ []) ∷ [])) (Given (SomeV (UintV 1))) ((Literal, 17) ∷ (Literal, 17) ∷ (Make, 34) ∷ (Wrap, 43) ∷ (Take, 44) ∷ [])
    -- (len 0x0102)
    ∷ of (form (codes "len") (buffer (1 ∷ 2 ∷ []) ∷ [])) (Given (UintV 2)) ((Literal, 7) ∷ (Scan, 7) ∷ [])
    -- (element-at (list 1) u0)
    ∷ of (form (codes "element-at") (form (codes "list") (int (pos 1) ∷ []) ∷ uint 0 ∷ [])) (Given (SomeV (IntV (pos 1)))) ((Literal, 17) ∷ (Make, 17) ∷ (Literal, 17) ∷ (Scan, 39) ∷ [])
    -- (index-of "abc" "b")
    ∷ of (form (codes "index-of") (ascii (codes "abc") ∷ ascii (codes "b") ∷ [])) (Given (SomeV (UintV 1))) ((Literal, 8) ∷ (Literal, 6) ∷ (Scan, 14) ∷ [])
    ∷ []

abbrev pub data_examples : List Example
data_examples =
    -- (var-get v)
    of (form (codes "var-get") (name (codes "v") ∷ [])) (Given (UintV 5)) ((ReadVar, 17) ∷ [])
    -- (begin (var-set v u6) (var-get v))
    ∷ of (form (codes "begin") (form (codes "var-set") (name (codes "v") ∷ uint 6 ∷ []) ∷ form (codes "var-get") (name (codes "v") ∷ []) ∷ [])) (Given (UintV 6)) ((Control, 2) ∷ (Literal, 17) ∷ (WriteVar, 17) ∷ (ReadVar, 17) ∷ [])
    -- (map-get? m u1)
    ∷ of (form (codes "map-get?") (name (codes "m") ∷ uint 1 ∷ [])) (Given (SomeV (UintV 10))) ((Literal, 17) ∷ (ReadMap, 35) ∷ [])
    -- (map-get? m u2)
    ∷ of (form (codes "map-get?") (name (codes "m") ∷ uint 2 ∷ [])) (Given NoneV) ((Literal, 17) ∷ (ReadMap, 18) ∷ [])
    -- (map-set m u2 u3)
    ∷ of (form (codes "map-set") (name (codes "m") ∷ uint 2 ∷ uint 3 ∷ [])) (Given (BoolV true)) ((Literal, 17) ∷ (Literal, 17) ∷ (WriteMap, 34) ∷ [])
    -- (begin (map-set m u1 u2) (map-get? m u1))
    ∷ of (form (codes "begin") (form (codes "map-set") (name (codes "m") ∷ uint 1 ∷ uint 2 ∷ []) ∷ form (codes "map-get?") (name (codes "m") ∷ uint 1 ∷ []) ∷ [])) (Given (SomeV (UintV 2))) ((Control, 2) ∷ (Literal, 17) ∷ (Literal, 17) ∷ (WriteMap, 34) ∷ (Literal, 17) ∷ (ReadMap, 35) ∷ [])
    -- (begin (map-insert m u1 u2) (map-get? m u1))
    ∷ of (form (codes "begin") (form (codes "map-insert") (name (codes "m") ∷ uint 1 ∷ uint 2 ∷ []) ∷ form (codes "map-get?") (name (codes "m") ∷ uint 1 ∷ []) ∷ [])) (Given (SomeV (UintV 10))) ((Control, 2) ∷ (Literal, 17) ∷ (Literal, 17) ∷ (WriteMap, 34) ∷ (Literal, 17) ∷ (ReadMap, 35) ∷ [])
    -- (begin (map-insert m u3 u2) (map-get? m u3))
    ∷ of (form (codes "begin") (form (codes "map-insert") (name (codes "m") ∷ uint 3 ∷ uint 2 ∷ []) ∷ form (codes "map-get?") (name (codes "m") ∷ uint 3 ∷ []) ∷ [])) (Given (SomeV (UintV 2))) ((Control, 2) ∷ (Literal, 17) ∷ (Literal, 17) ∷ (WriteMap, 34) ∷ (Literal, 17) ∷ (ReadMap, 35) ∷ [])
    -- (map-delete m u1)
    ∷ of (form (codes "map-delete") (name (codes "m") ∷ uint 1 ∷ [])) (Given (BoolV true)) ((Literal, 17) ∷ (WriteMap, 17) ∷ [])
    -- (map-delete m u9)
    ∷ of (form (codes "map-delete") (name (codes "m") ∷ uint 9 ∷ [])) (Given (BoolV false)) ((Literal, 17) ∷ (WriteMap, 17) ∷ [])
    -- (begin (map-delete m u1) (map-get? m u1))
    ∷ of (form (codes "begin") (form (codes "map-delete") (name (codes "m") ∷ uint 1 ∷ []) ∷ form (codes "map-get?") (name (codes "m") ∷ uint 1 ∷ []) ∷ [])) (Given NoneV) ((Control, 2) ∷ (Literal, 17) ∷ (WriteMap, 17) ∷ (Literal, 17) ∷ (ReadMap, 18) ∷ [])
    ∷ []

abbrev pub token_examples : List Example
token_examples =
    -- (ft-get-balance coin tx-sender)
    of (form (codes "ft-get-balance") (name (codes "coin") ∷ name (codes "tx-sender") ∷ [])) (Given (UintV 40)) ((Context, 22) ∷ (ReadToken, 22) ∷ [])
    -- (ft-get-balance coin .home)
    ∷ of (form (codes "ft-get-balance") (name (codes "coin") ∷ beside_it (codes "home") ∷ [])) (Given (UintV 0)) ((Literal, 27) ∷ (ReadToken, 27) ∷ [])
    -- (ft-get-supply coin)
    ∷ of (form (codes "ft-get-supply") (name (codes "coin") ∷ [])) (Given (UintV 40)) ((ReadToken, 0) ∷ [])
    -- (stx-get-balance tx-sender)
    ∷ of (form (codes "stx-get-balance") (name (codes "tx-sender") ∷ [])) (Given (UintV 1000)) ((Context, 22) ∷ (ReadToken, 22) ∷ [])
    -- (nft-get-owner? tok u1)
    ∷ of (form (codes "nft-get-owner?") (name (codes "tok") ∷ uint 1 ∷ [])) (Given (SomeV (PrincipalV P1))) ((Literal, 17) ∷ (ReadToken, 17) ∷ [])
    -- (nft-get-owner? tok u2)
    ∷ of (form (codes "nft-get-owner?") (name (codes "tok") ∷ uint 2 ∷ [])) (Given NoneV) ((Literal, 17) ∷ (ReadToken, 17) ∷ [])
    -- (ft-mint? coin u0 tx-sender)
    ∷ of (form (codes "ft-mint?") (name (codes "coin") ∷ uint 0 ∷ name (codes "tx-sender") ∷ [])) (Given (ResponseV false (UintV 1))) ((Literal, 17) ∷ (Context, 22) ∷ (WriteToken, 39) ∷ [])
    -- (ft-mint? coin u61 tx-sender)
    ∷ of (form (codes "ft-mint?") (name (codes "coin") ∷ uint 61 ∷ name (codes "tx-sender") ∷ [])) (Aborted BySupply) ((Literal, 17) ∷ (Context, 22) ∷ (WriteToken, 39) ∷ [])
    -- (begin (ft-mint? coin u60 tx-sender) (ft-get-supply coin))
    ∷ of (form (codes "begin") (form (codes "ft-mint?") (name (codes "coin") ∷ uint 60 ∷ name (codes "tx-sender") ∷ []) ∷ form (codes "ft-get-supply") (name (codes "coin") ∷ []) ∷ [])) (Given (UintV 100)) ((Control, 2) ∷ (Literal, 17) ∷ (Context, 22) ∷ (WriteToken, 39) ∷ (ReadToken, 0) ∷ [])
    -- (ft-transfer? coin u0 tx-sender tx-sender)
    ∷ of (form (codes "ft-transfer?") (name (codes "coin") ∷ uint 0 ∷ name (codes "tx-sender") ∷ name (codes "tx-sender") ∷ [])) (Given (ResponseV false (UintV 3))) ((Literal, 17) ∷ (Context, 22) ∷ (Context, 22) ∷ (WriteToken, 61) ∷ [])
    -- (ft-transfer? coin u1 tx-sender tx-sender)
    ∷ of (form (codes "ft-transfer?") (name (codes "coin") ∷ uint 1 ∷ name (codes "tx-sender") ∷ name (codes "tx-sender") ∷ [])) (Given (ResponseV false (UintV 2))) ((Literal, 17) ∷ (Context, 22) ∷ (Context, 22) ∷ (WriteToken, 61) ∷ [])
    -- (ft-transfer? coin u41 tx-sender .home)
    ∷ of (form (codes "ft-transfer?") (name (codes "coin") ∷ uint 41 ∷ name (codes "tx-sender") ∷ beside_it (codes "home") ∷ [])) (Given (ResponseV false (UintV 1))) ((Literal, 17) ∷ (Context, 22) ∷ (Literal, 27) ∷ (WriteToken, 66) ∷ [])
    -- (begin (ft-transfer? coin u15 tx-sender .home) (list (ft-get-balance coin tx-sender) (ft-get-balance coin .home)))
    ∷ of (form (codes "begin") (form (codes "ft-transfer?") (name (codes "coin") ∷ uint 15 ∷ name (codes "tx-sender") ∷ beside_it (codes "home") ∷ []) ∷ form (codes "list") (form (codes "ft-get-balance") (name (codes "coin") ∷ name (codes "tx-sender") ∷ []) ∷ form (codes "ft-get-balance") (name (codes "coin") ∷ beside_it (codes "home") ∷ []) ∷ []) ∷ [])) (Given (ListV (items_of (UintV 25 ∷ UintV 15 ∷ [])))) ((Control, 2) ∷ (Literal, 17) ∷ (Context, 22) ∷ (Literal, 27) ∷ (WriteToken, 66) ∷ (Context, 22) ∷ (ReadToken, 22) ∷ (Literal, 27) ∷ (ReadToken, 27) ∷ (Make, 34) ∷ [])
    -- (ft-burn? coin u0 tx-sender)
    ∷ of (form (codes "ft-burn?") (name (codes "coin") ∷ uint 0 ∷ name (codes "tx-sender") ∷ [])) (Given (ResponseV false (UintV 1))) ((Literal, 17) ∷ (Context, 22) ∷ (WriteToken, 39) ∷ [])
    -- (ft-burn? coin u41 tx-sender)
    ∷ of (form (codes "ft-burn?") (name (codes "coin") ∷ uint 41 ∷ name (codes "tx-sender") ∷ [])) (Given (ResponseV false (UintV 1))) ((Literal, 17) ∷ (Context, 22) ∷ (WriteToken, 39) ∷ [])
    -- (begin (ft-burn? coin u15 tx-sender) (list (ft-get-balance coin tx-sender) (ft-get-supply coin)))
    ∷ of (form (codes "begin") (form (codes "ft-burn?") (name (codes "coin") ∷ uint 15 ∷ name (codes "tx-sender") ∷ []) ∷ form (codes "list") (form (codes "ft-get-balance") (name (codes "coin") ∷ name (codes "tx-sender") ∷ []) ∷ form (codes "ft-get-supply") (name (codes "coin") ∷ []) ∷ []) ∷ [])) (Given (ListV (items_of (UintV 25 ∷ UintV 25 ∷ [])))) ((Control, 2) ∷ (Literal, 17) ∷ (Context, 22) ∷ (WriteToken, 39) ∷ (Context, 22) ∷ (ReadToken, 22) ∷ (ReadToken, 0) ∷ (Make, 34) ∷ [])
    -- (nft-mint? tok u1 tx-sender)
    ∷ of (form (codes "nft-mint?") (name (codes "tok") ∷ uint 1 ∷ name (codes "tx-sender") ∷ [])) (Given (ResponseV false (UintV 1))) ((Literal, 17) ∷ (Context, 22) ∷ (WriteToken, 39) ∷ [])
    -- (begin (nft-mint? tok u2 .home) (nft-get-owner? tok u2))
    ∷ of (form (codes "begin") (form (codes "nft-mint?") (name (codes "tok") ∷ uint 2 ∷ beside_it (codes "home") ∷ []) ∷ form (codes "nft-get-owner?") (name (codes "tok") ∷ uint 2 ∷ []) ∷ [])) (Given (SomeV (PrincipalV (of_P0 (codes "home"))))) ((Control, 2) ∷ (Literal, 17) ∷ (Literal, 27) ∷ (WriteToken, 44) ∷ (Literal, 17) ∷ (ReadToken, 17) ∷ [])
    -- (nft-transfer? tok u1 tx-sender tx-sender)
    ∷ of (form (codes "nft-transfer?") (name (codes "tok") ∷ uint 1 ∷ name (codes "tx-sender") ∷ name (codes "tx-sender") ∷ [])) (Given (ResponseV false (UintV 2))) ((Literal, 17) ∷ (Context, 22) ∷ (Context, 22) ∷ (WriteToken, 61) ∷ [])
    -- (nft-transfer? tok u2 tx-sender .home)
    ∷ of (form (codes "nft-transfer?") (name (codes "tok") ∷ uint 2 ∷ name (codes "tx-sender") ∷ beside_it (codes "home") ∷ [])) (Given (ResponseV false (UintV 3))) ((Literal, 17) ∷ (Context, 22) ∷ (Literal, 27) ∷ (WriteToken, 66) ∷ [])
    -- (nft-transfer? tok u1 .home tx-sender)
    ∷ of (form (codes "nft-transfer?") (name (codes "tok") ∷ uint 1 ∷ beside_it (codes "home") ∷ name (codes "tx-sender") ∷ [])) (Given (ResponseV false (UintV 1))) ((Literal, 17) ∷ (Literal, 27) ∷ (Context, 22) ∷ (WriteToken, 66) ∷ [])
    -- (begin (nft-transfer? tok u1 tx-sender .home) (nft-get-owner? tok u1))
    ∷ of (form (codes "begin") (form (codes "nft-transfer?") (name (codes "tok") ∷ uint 1 ∷ name (codes "tx-sender") ∷ beside_it (codes "home") ∷ []) ∷ form (codes "nft-get-owner?") (name (codes "tok") ∷ uint 1 ∷ []) ∷ [])) (Given (SomeV (PrincipalV (of_P0 (codes "home"))))) ((Control, 2) ∷ (Literal, 17) ∷ (Context, 22) ∷ (Literal, 27) ∷ (WriteToken, 66) ∷ (Literal, 17) ∷ (ReadToken, 17) ∷ [])
    -- (nft-burn? tok u2 tx-sender)
    ∷ of (form (codes "nft-burn?") (name (codes "tok") ∷ uint 2 ∷ name (codes "tx-sender") ∷ [])) (Given (ResponseV false (UintV 3))) ((Literal, 17) ∷ (Context, 22) ∷ (WriteToken, 39) ∷ [])
    -- (nft-burn? tok u1 .home)
    ∷ of (form (codes "nft-burn?") (name (codes "tok") ∷ uint 1 ∷ beside_it (codes "home") ∷ [])) (Given (ResponseV false (UintV 1))) ((Literal, 17) ∷ (Literal, 27) ∷ (WriteToken, 44) ∷ [])
    -- (begin (nft-burn? tok u1 tx-sender) (nft-get-owner? tok u1))
    ∷ of (form (codes "begin") (form (codes "nft-burn?") (name (codes "tok") ∷ uint 1 ∷ name (codes "tx-sender") ∷ []) ∷ form (codes "nft-get-owner?") (name (codes "tok") ∷ uint 1 ∷ []) ∷ [])) (Given NoneV) ((Control, 2) ∷ (Literal, 17) ∷ (Context, 22) ∷ (WriteToken, 39) ∷ (Literal, 17) ∷ (ReadToken, 17) ∷ [])
    -- (stx-transfer? u0 .home .home)
    ∷ of (form (codes "stx-transfer?") (uint 0 ∷ beside_it (codes "home") ∷ beside_it (codes "home") ∷ [])) (Given (ResponseV false (UintV 3))) ((Literal, 17) ∷ (Literal, 27) ∷ (Literal, 27) ∷ (WriteToken, 71) ∷ [])
    -- (stx-transfer? u1 .home .home)
    ∷ of (form (codes "stx-transfer?") (uint 1 ∷ beside_it (codes "home") ∷ beside_it (codes "home") ∷ [])) (Given (ResponseV false (UintV 2))) ((Literal, 17) ∷ (Literal, 27) ∷ (Literal, 27) ∷ (WriteToken, 71) ∷ [])
    -- (stx-transfer? u1 .home tx-sender)
    ∷ of (form (codes "stx-transfer?") (uint 1 ∷ beside_it (codes "home") ∷ name (codes "tx-sender") ∷ [])) (Given (ResponseV false (UintV 4))) ((Literal, 17) ∷ (Literal, 27) ∷ (Context, 22) ∷ (WriteToken, 66) ∷ [])
    -- (stx-transfer? u1001 tx-sender .home)
    ∷ of (form (codes "stx-transfer?") (uint 1001 ∷ name (codes "tx-sender") ∷ beside_it (codes "home") ∷ [])) (Given (ResponseV false (UintV 1))) ((Literal, 17) ∷ (Context, 22) ∷ (Literal, 27) ∷ (WriteToken, 66) ∷ [])
    -- (begin (stx-transfer? u400 tx-sender .home) (list (stx-get-balance tx-sender) (stx-get-balance .home)))
    ∷ of (form (codes "begin") (form (codes "stx-transfer?") (uint 400 ∷ name (codes "tx-sender") ∷ beside_it (codes "home") ∷ []) ∷ form (codes "list") (form (codes "stx-get-balance") (name (codes "tx-sender") ∷ []) ∷ form (codes "stx-get-balance") (beside_it (codes "home") ∷ []) ∷ []) ∷ [])) (Given (ListV (items_of (UintV 600 ∷ UintV 400 ∷ [])))) ((Control, 2) ∷ (Literal, 17) ∷ (Context, 22) ∷ (Literal, 27) ∷ (WriteToken, 66) ∷ (Context, 22) ∷ (ReadToken, 22) ∷ (Literal, 27) ∷ (ReadToken, 27) ∷ (Make, 34) ∷ [])
    -- (begin (stx-transfer? u400 tx-sender .home) (as-contract (stx-transfer? u100 tx-sender .other)))
    ∷ of (form (codes "begin") (form (codes "stx-transfer?") (uint 400 ∷ name (codes "tx-sender") ∷ beside_it (codes "home") ∷ []) ∷ form (codes "as-contract") (form (codes "stx-transfer?") (uint 100 ∷ name (codes "tx-sender") ∷ beside_it (codes "other") ∷ []) ∷ []) ∷ [])) (Given (ResponseV true (BoolV true))) ((Control, 2) ∷ (Literal, 17) ∷ (Context, 22) ∷ (Literal, 27) ∷ (WriteToken, 66) ∷ (Control, 1) ∷ (Literal, 17) ∷ (Context, 27) ∷ (Literal, 28) ∷ (WriteToken, 72) ∷ [])
    -- (stx-burn? u0 .home)
    ∷ of (form (codes "stx-burn?") (uint 0 ∷ beside_it (codes "home") ∷ [])) (Given (ResponseV false (UintV 3))) ((Literal, 17) ∷ (Literal, 27) ∷ (WriteToken, 44) ∷ [])
    -- (stx-burn? u1 .home)
    ∷ of (form (codes "stx-burn?") (uint 1 ∷ beside_it (codes "home") ∷ [])) (Given (ResponseV false (UintV 4))) ((Literal, 17) ∷ (Literal, 27) ∷ (WriteToken, 44) ∷ [])
    -- (stx-burn? u1001 tx-sender)
    ∷ of (form (codes "stx-burn?") (uint 1001 ∷ name (codes "tx-sender") ∷ [])) (Given (ResponseV false (UintV 1))) ((Literal, 17) ∷ (Context, 22) ∷ (WriteToken, 39) ∷ [])
    -- (begin (stx-burn? u400 tx-sender) (stx-get-balance tx-sender))
    ∷ of (form (codes "begin") (form (codes "stx-burn?") (uint 400 ∷ name (codes "tx-sender") ∷ []) ∷ form (codes "stx-get-balance") (name (codes "tx-sender") ∷ []) ∷ [])) (Given (UintV 600)) ((Control, 2) ∷ (Literal, 17) ∷ (Context, 22) ∷ (WriteToken, 39) ∷ (Context, 22) ∷ (ReadToken, 22) ∷ [])
    -- (print {a: u1})
    ∷ of (form (codes "print") (braces ((codes "a", uint 1) ∷ []) ∷ [])) (Given (TupleV (entries_of ((codes "a", UintV 1) ∷ [])))) ((Literal, 17) ∷ (Make, 17) ∷ (Event, 24) ∷ [])
    ∷ []

abbrev pub sequence_examples : List Example
sequence_examples =
    -- (map + (list 1 2 3) (list 10 20))
    of (form (codes "map") (name (codes "+") ∷ form (codes "list") (int (pos 1) ∷ int (pos 2) ∷ int (pos 3) ∷ []) ∷ form (codes "list") (int (pos 10) ∷ int (pos 20) ∷ []) ∷ [])) (Given (ListV (items_of (IntV (pos 11) ∷ IntV (pos 22) ∷ [])))) ((Literal, 17) ∷ (Literal, 17) ∷ (Literal, 17) ∷ (Make, 51) ∷ (Literal, 17) ∷ (Literal, 17) ∷ (Make, 34) ∷ (Iterate, 95) ∷ (Arith, 2) ∷ (Arith, 2) ∷ [])
    -- (map small (list u1 u5))
    ∷ of (form (codes "map") (name (codes "small") ∷ form (codes "list") (uint 1 ∷ uint 5 ∷ []) ∷ [])) (Given (ListV (items_of (BoolV true ∷ BoolV false ∷ [])))) ((Literal, 17) ∷ (Literal, 17) ∷ (Make, 34) ∷ (Iterate, 39) ∷ (Call, 1) ∷ (Bind, 17) ∷ (Lookup, 17) ∷ (Literal, 17) ∷ (Compare, 34) ∷ (Call, 1) ∷ (Bind, 17) ∷ (Lookup, 17) ∷ (Literal, 17) ∷ (Compare, 34) ∷ [])
    -- (map not (list true false))
    ∷ of (form (codes "map") (name (codes "not") ∷ form (codes "list") (name (codes "true") ∷ name (codes "false") ∷ []) ∷ [])) (Given (ListV (items_of (BoolV false ∷ BoolV true ∷ [])))) ((Literal, 1) ∷ (Literal, 1) ∷ (Make, 2) ∷ (Iterate, 7) ∷ (Arith, 1) ∷ (Arith, 1) ∷ [])
    -- (map add (list u1 u2) (list u3))
    ∷ of (form (codes "map") (name (codes "add") ∷ form (codes "list") (uint 1 ∷ uint 2 ∷ []) ∷ form (codes "list") (uint 3 ∷ []) ∷ [])) (Given (ListV (items_of (UintV 4 ∷ [])))) ((Literal, 17) ∷ (Literal, 17) ∷ (Make, 34) ∷ (Literal, 17) ∷ (Make, 17) ∷ (Iterate, 61) ∷ (Call, 2) ∷ (Bind, 17) ∷ (Bind, 17) ∷ (Lookup, 17) ∷ (Lookup, 17) ∷ (Arith, 2) ∷ [])
    -- (map and (list true true) (list true false))
    ∷ of (form (codes "map") (name (codes "and") ∷ form (codes "list") (name (codes "true") ∷ name (codes "true") ∷ []) ∷ form (codes "list") (name (codes "true") ∷ name (codes "false") ∷ []) ∷ [])) (Given (ListV (items_of (BoolV true ∷ BoolV false ∷ [])))) ((Literal, 1) ∷ (Literal, 1) ∷ (Make, 2) ∷ (Literal, 1) ∷ (Literal, 1) ∷ (Make, 2) ∷ (Iterate, 14) ∷ (Control, 2) ∷ (Control, 2) ∷ [])
    -- (filter small (list u1 u5 u2))
    ∷ of (form (codes "filter") (name (codes "small") ∷ form (codes "list") (uint 1 ∷ uint 5 ∷ uint 2 ∷ []) ∷ [])) (Given (ListV (items_of (UintV 1 ∷ UintV 2 ∷ [])))) ((Literal, 17) ∷ (Literal, 17) ∷ (Literal, 17) ∷ (Make, 51) ∷ (Iterate, 56) ∷ (Call, 1) ∷ (Bind, 17) ∷ (Lookup, 17) ∷ (Literal, 17) ∷ (Compare, 34) ∷ (Call, 1) ∷ (Bind, 17) ∷ (Lookup, 17) ∷ (Literal, 17) ∷ (Compare, 34) ∷ (Call, 1) ∷ (Bind, 17) ∷ (Lookup, 17) ∷ (Literal, 17) ∷ (Compare, 34) ∷ [])
    -- (filter is-one 0x010201)
    ∷ of (form (codes "filter") (name (codes "is-one") ∷ buffer (1 ∷ 2 ∷ 1 ∷ []) ∷ [])) (Given (BuffV (1 ∷ 1 ∷ []))) ((Literal, 8) ∷ (Iterate, 8) ∷ (Call, 1) ∷ (Bind, 6) ∷ (Lookup, 6) ∷ (Literal, 6) ∷ (Compare, 12) ∷ (Call, 1) ∷ (Bind, 6) ∷ (Lookup, 6) ∷ (Literal, 6) ∷ (Compare, 12) ∷ (Call, 1) ∷ (Bind, 6) ∷ (Lookup, 6) ∷ (Literal, 6) ∷ (Compare, 12) ∷ [])
    -- (fold + (list 1 2 3) 0)
    ∷ of (form (codes "fold") (name (codes "+") ∷ form (codes "list") (int (pos 1) ∷ int (pos 2) ∷ int (pos 3) ∷ []) ∷ int (pos 0) ∷ [])) (Given (IntV (pos 6))) ((Literal, 17) ∷ (Literal, 17) ∷ (Literal, 17) ∷ (Make, 51) ∷ (Literal, 17) ∷ (Iterate, 73) ∷ (Arith, 2) ∷ (Arith, 2) ∷ (Arith, 2) ∷ [])
    -- (fold or (list false true) false)
    ∷ of (form (codes "fold") (name (codes "or") ∷ form (codes "list") (name (codes "false") ∷ name (codes "true") ∷ []) ∷ name (codes "false") ∷ [])) (Given (BoolV true)) ((Literal, 1) ∷ (Literal, 1) ∷ (Make, 2) ∷ (Literal, 1) ∷ (Iterate, 8) ∷ (Control, 2) ∷ (Control, 2) ∷ [])
    -- (fold add (list u1 u2) u10)
    ∷ of (form (codes "fold") (name (codes "add") ∷ form (codes "list") (uint 1 ∷ uint 2 ∷ []) ∷ uint 10 ∷ [])) (Given (UintV 13)) ((Literal, 17) ∷ (Literal, 17) ∷ (Make, 34) ∷ (Literal, 17) ∷ (Iterate, 56) ∷ (Call, 2) ∷ (Bind, 17) ∷ (Bind, 17) ∷ (Lookup, 17) ∷ (Lookup, 17) ∷ (Arith, 2) ∷ (Call, 2) ∷ (Bind, 17) ∷ (Bind, 17) ∷ (Lookup, 17) ∷ (Lookup, 17) ∷ (Arith, 2) ∷ [])
    ∷ []

abbrev pub call_examples : List Example
call_examples =
    -- (add u1 u2)
    of (form (codes "add") (uint 1 ∷ uint 2 ∷ [])) (Given (UintV 3)) ((Literal, 17) ∷ (Literal, 17) ∷ (Call, 2) ∷ (Bind, 17) ∷ (Bind, 17) ∷ (Lookup, 17) ∷ (Lookup, 17) ∷ (Arith, 2) ∷ [])
    -- (early)
    ∷ of (form (codes "early") []) (Given (ResponseV false (UintV 9))) ((Call, 0) ∷ (Control, 2) ∷ (Control, 1) ∷ (Literal, 17) ∷ (Wrap, 17) ∷ [])
    -- (fail u9)
    ∷ of (form (codes "fail") (uint 9 ∷ [])) (Given (ResponseV false (UintV 9))) ((Literal, 17) ∷ (Call, 1) ∷ (Bind, 17) ∷ (Control, 2) ∷ (Lookup, 17) ∷ (WriteVar, 17) ∷ (Lookup, 17) ∷ (Wrap, 17) ∷ [])
    -- (begin (is-err (fail u9)) (var-get v))
    ∷ of (form (codes "begin") (form (codes "is-err") (form (codes "fail") (uint 9 ∷ []) ∷ []) ∷ form (codes "var-get") (name (codes "v") ∷ []) ∷ [])) (Given (UintV 5)) ((Control, 2) ∷ (Literal, 17) ∷ (Call, 1) ∷ (Bind, 17) ∷ (Control, 2) ∷ (Lookup, 17) ∷ (WriteVar, 17) ∷ (Lookup, 17) ∷ (Wrap, 17) ∷ (Wrap, 18) ∷ (ReadVar, 17) ∷ [])
    -- (contract-call? .other note)
    ∷ of (form (codes "contract-call?") (beside_it (codes "other") ∷ name (codes "note") ∷ [])) (Given (ResponseV true (BoolV true))) ((ContractCall, 162) ∷ (Call, 0) ∷ (Context, 27) ∷ (WriteVar, 27) ∷ (Wrap, 1) ∷ [])
    -- (contract-call? .other who)
    ∷ of (form (codes "contract-call?") (beside_it (codes "other") ∷ name (codes "who") ∷ [])) (Given (PrincipalV P1)) ((ContractCall, 162) ∷ (Call, 0) ∷ (Context, 22) ∷ [])
    -- (as-contract (contract-call? .other who))
    ∷ of (form (codes "as-contract") (form (codes "contract-call?") (beside_it (codes "other") ∷ name (codes "who") ∷ []) ∷ [])) (Given (PrincipalV (of_P0 (codes "home")))) ((Control, 1) ∷ (ContractCall, 162) ∷ (Call, 0) ∷ (Context, 27) ∷ [])
    ∷ []

-- expressions that no accepted contract has
abbrev pub wrong_examples : List Tree
wrong_examples =
    -- zzz
    name (codes "zzz")
    -- ()
    ∷ group []
    -- (5 6)
    ∷ group (int (pos 5) ∷ int (pos 6) ∷ [])
    -- ((add u1) u2)
    ∷ group (form (codes "add") (uint 1 ∷ []) ∷ uint 2 ∷ [])
    -- (zzz u1)
    ∷ form (codes "zzz") (uint 1 ∷ [])
    -- (add u1)
    ∷ form (codes "add") (uint 1 ∷ [])
    -- (if true 1)
    ∷ form (codes "if") (name (codes "true") ∷ int (pos 1) ∷ [])
    -- (if 1 2 3)
    ∷ form (codes "if") (int (pos 1) ∷ int (pos 2) ∷ int (pos 3) ∷ [])
    -- (var-get zzz)
    ∷ form (codes "var-get") (name (codes "zzz") ∷ [])
    -- (map-get? zzz u1)
    ∷ form (codes "map-get?") (name (codes "zzz") ∷ uint 1 ∷ [])
    -- (ft-mint? zzz u1 tx-sender)
    ∷ form (codes "ft-mint?") (name (codes "zzz") ∷ uint 1 ∷ name (codes "tx-sender") ∷ [])
    -- (+ 1 u1)
    ∷ form (codes "+") (int (pos 1) ∷ uint 1 ∷ [])
    -- (let (5) 1)
    ∷ form (codes "let") (group (int (pos 5) ∷ []) ∷ int (pos 1) ∷ [])
    -- (let ((a 1)))
    ∷ form (codes "let") (group (form (codes "a") (int (pos 1) ∷ []) ∷ []) ∷ [])
    -- (tuple (a))
    ∷ form (codes "tuple") (form (codes "a") [] ∷ [])
    -- (get c {a: 1})
    ∷ form (codes "get") (name (codes "c") ∷ braces ((codes "a", int (pos 1)) ∷ []) ∷ [])
    -- (map zzz (list 1))
    ∷ form (codes "map") (name (codes "zzz") ∷ form (codes "list") (int (pos 1) ∷ []) ∷ [])
    -- (map if (list true))
    ∷ form (codes "map") (name (codes "if") ∷ form (codes "list") (name (codes "true") ∷ []) ∷ [])
    -- (contract-call? .home early)
    ∷ form (codes "contract-call?") (beside_it (codes "home") ∷ name (codes "early") ∷ [])
    -- (contract-call? .other hidden)
    ∷ form (codes "contract-call?") (beside_it (codes "other") ∷ name (codes "hidden") ∷ [])
    -- (contract-call? .nobody who)
    ∷ form (codes "contract-call?") (beside_it (codes "nobody") ∷ name (codes "who") ∷ [])
    ∷ []

abbrev pub wrong_outcomes : List (Outcome Val)
wrong_outcomes = map (λ e. (at_home e).outcome) wrong_examples
