-- The bounds of the token contract, by computing.
use Rattle.std.specs.Prelude.{◌≡◌, ℕ, List, [], ◌∷◌, ◌++◌, codes, Some}
use Rattle.cl_types.specs.Types.{NoType, UintType, BoolType, ResponseType}
use Rattle.cl_shapes.specs.Costs.{cost5}
use Rattle.cl_rules.specs.Samples.{line, deployment}

-- a line of a text with its LF
abbrev text_line : List ℕ → List ℕ → List ℕ
text_line l rest = l ++ 10 ∷ rest

abbrev pub token : List ℕ
token =
    text_line (codes ";; token.clar")
    (text_line (codes "(define-constant owner tx-sender)")
    (text_line (codes "(define-constant err-owner (err u100))")
    (text_line (codes "(define-constant err-sender (err u101))")
    (text_line (codes "(define-fungible-token coin u1000000000000)")
    (text_line (codes "(define-data-var uri (optional (string-utf8 256)) none)")
    (text_line (codes "(define-read-only (get-name) (ok \"Coin\"))")
    (text_line (codes "(define-read-only (get-symbol) (ok \"CN\"))")
    (text_line (codes "(define-read-only (get-decimals) (ok u6))")
    (text_line (codes "(define-read-only (get-balance (who principal)) (ok (ft-get-balance coin who)))")
    (text_line (codes "(define-read-only (get-total-supply) (ok (ft-get-supply coin)))")
    (text_line (codes "(define-read-only (get-token-uri) (ok (var-get uri)))")
    (text_line (codes "(define-public (set-token-uri (value (string-utf8 256)))")
    (text_line (codes "  (begin")
    (text_line (codes "    (asserts! (is-eq tx-sender owner) err-owner)")
    (text_line (codes "    (ok (var-set uri (some value)))))")
    (text_line (codes "(define-public (mint (amount uint) (to principal))")
    (text_line (codes "  (begin")
    (text_line (codes "    (asserts! (is-eq tx-sender owner) err-owner)")
    (text_line (codes "    (ft-mint? coin amount to)))")
    (text_line (codes "(define-public (transfer (amount uint) (sender principal) (to principal) (memo (optional (buff 34))))")
    (text_line (codes "  (begin")
    (text_line (codes "    (asserts! (is-eq tx-sender sender) err-sender)")
    (text_line (codes "    (try! (ft-transfer? coin amount sender to))")
    (text_line (codes "    (match memo note (print note) 0x)")
    (text_line (codes "    (ok true)))") [])))))))))))))))))))))))))

pub record TokenBounds : Type 0 where
  pub balance_line : line (codes "get-balance") token ≡ Some (cost5 5 1 151 0 0, ResponseType UintType NoType)
  pub mint_line : line (codes "mint") token ≡ Some (cost5 12 0 0 1 168, ResponseType BoolType UintType)
  pub transfer_line : line (codes "transfer") token ≡ Some (cost5 23 0 0 1 319, ResponseType BoolType UintType)
  -- the text has 1,109 bytes, and what is defined has 205
  pub token_deployment : deployment token ≡ Some (cost5 22 0 0 15 1314)
