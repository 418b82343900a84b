-- Each text reads, or breaks a rule first.
use Rattle.std.proofs.Common.{◌≡◌, inl, inr, ℕ, zero, suc, ◌+◌, ◌-◌, ◌<◌, ◌≤◌, leb, List, [], ◌∷◌, ◌++◌, length, drop, Bool, true, false, Option, Some, None, Result, Ok, Err, refl, arith, sym, ap, ◌∙◌, subst}
use Rattle.std.specs.Option.{option_and_then}
use Rattle.std.proofs.lemmas.List.{length-drop}
use Rattle.std.proofs.lemmas.Bool.Decides.{nat_tests}
use Rattle.cl_sexpr.specs.declared.rule.Break.{Break}
use Rattle.cl_sexpr.specs.Tree.{Tree, forest}
use Rattle.cl_sexpr.specs.Token.{Token, Separator, Comment, Colon, Comma, Opens, Closes, OpensTuple, ClosesTuple, Key, Is, Faulty, Open, bare, next, open_after, in_place}
use Rattle.cl_sexpr.specs.Text.{Spells, Cuts, ReadsOrBreaks, too_long, first, token_at, misplaced, unless_stands, break_by}
use Rattle.cl_sexpr.proofs.Steps.{leaf_spelled, bare-append, open_after-append}
use Rattle.cl_sexpr.proofs.Rows.{whole_row}
use Rattle.cl_sexpr.proofs.Lexing.{is_raw, token_within}
use Rattle.cl_sexpr.proofs.Standing.{Level, brackets, spelled, taken}

-- a token as it is found, in its place
placed_spelled : (os : List Open) (t : Token) (n at : ℕ) (bytes : List ℕ) → is_raw t ≡ true → token_at at bytes ≡ Ok (t, n) → Spells (in_place os t) n at bytes
placed_spelled os Separator n at bytes raw h = h
placed_spelled os Comment n at bytes raw h = h
placed_spelled os Colon n at bytes raw h = h
placed_spelled os Comma n at bytes raw h = h
placed_spelled os (Opens p) n at bytes raw h = h
placed_spelled os (Closes p) n at bytes raw h = h
placed_spelled os (OpensTuple p) n at bytes raw h = h
placed_spelled os (ClosesTuple p) n at bytes raw h = h
placed_spelled os (Key k) n at bytes raw h = absurd cc
placed_spelled os (Is leaf span) n at bytes raw h = leaf_spelled os leaf span n at bytes h
placed_spelled os (Faulty r) n at bytes raw h = h

one_more : (at : ℕ) (bytes : List ℕ) (ts : List Token) (mid : ℕ) (rest : List ℕ) (t : Token) (n : ℕ) → Cuts at bytes ts mid rest → 0 < n → n ≤ length rest → Spells t n mid rest → Cuts at bytes (ts ++ t ∷ []) (mid + n) (drop n rest)
one_more at bytes [] mid rest t n a some few h =
    subst (λ (m : ℕ). Cuts m bytes (t ∷ []) (mid + n) (drop n rest)) a.0 (subst (λ (x : List ℕ). Cuts mid x (t ∷ []) (mid + n) (drop n rest)) (sym a.1) (n, some, few, h, (refl, refl)))
one_more at bytes (u ∷ ts) mid rest t n a some few h =
    (a.0, a.1, a.2, a.3, one_more (at + a.0) (drop a.0 bytes) ts mid rest t n a.4 some few h)

-- what was read of a text up to a place
record Read (bytes : List ℕ) (at : ℕ) (rest : List ℕ) (levels : List Level) : Type 0 where
  tokens : List Token
  items : List Tree
  cut : Cuts 0 bytes tokens at rest
  begun : open_after [] tokens ≡ Some (brackets levels)
  are : bare tokens ≡ spelled items levels
  place : at + length rest ≡ length bytes

module _ (bytes : List ℕ) (size : length bytes ≤ 1048576) where
  -- at the end of the text
  ended : (at : ℕ) (levels : List Level) → Read bytes at [] levels → ReadsOrBreaks bytes
  ended at [] s =
      let row = whole_row (forest s.items) s.tokens s.begun s.are in
      let here : at ≡ length bytes = omega (arith, s.place) in
      inl (forest s.items, record { size = size; depth = row.1; tokens = s.tokens; cut = subst (λ (n : ℕ). Cuts 0 bytes s.tokens n []) here s.cut; row = row.0 })
  ended at (l ∷ ls) s =
      inr (_, first (record { size = size; tokens = s.tokens; at = at; rest = []; opens = brackets (l ∷ ls); cut = s.cut; begun = s.begun; breaks = refl }))

  -- a token that can stand there
  went_on : (at c : ℕ) (cs : List ℕ) (levels : List Level) → (s : Read bytes at (c ∷ cs) levels) → (t : Token) (n : ℕ) → token_at at (c ∷ cs) ≡ Ok (t, n) → (os : List Open) → next (brackets levels) (in_place (brackets levels) t) ≡ Some os
      → (after : List Level) × Read bytes (at + n) (drop n (c ∷ cs)) after
  went_on at c cs levels s t n e os can =
      let w = token_within at c cs t n e in
      let placed = in_place (brackets levels) t in
      let took = taken s.items levels placed os can in
      let shorter : length (drop n (c ∷ cs)) ≡ length (c ∷ cs) - n = length-drop n (c ∷ cs) in (
        took.levels,
        record {
          tokens = s.tokens ++ placed ∷ [];
          items = took.items;
          cut = one_more 0 bytes s.tokens at (c ∷ cs) placed n s.cut w.0 w.1 (placed_spelled (brackets levels) t n at (c ∷ cs) w.2 e);
          begun = open_after-append [] s.tokens (brackets levels) (placed ∷ []) s.begun ∙ (ap (option_and_then (λ (o : List Open). Some o)) can ∙ ap (λ (o : List Open). Some o) (sym took.open_are));
          are = bare-append s.tokens (placed ∷ []) ∙ (ap (λ (z : List Token). z ++ bare (placed ∷ [])) s.are ∙ sym took.more);
          place = omega (arith, s.place, shorter, w.1);
        },
      )

  -- the answer of what is left, where that is at most so many bytes
  abbrev GoesOn : ℕ → Type 0
  GoesOn fuel = (at : ℕ) (rest : List ℕ) (levels : List Level) → length rest ≤ fuel → Read bytes at rest levels → ReadsOrBreaks bytes

  by_place : (fuel : ℕ) → GoesOn fuel → (at c : ℕ) (cs : List ℕ) (levels : List Level) → suc (length cs) ≤ suc fuel → Read bytes at (c ∷ cs) levels → (t : Token × ℕ) → token_at at (c ∷ cs) ≡ Ok t → (o : Option (List Open)) → next (brackets levels) (in_place (brackets levels) t.0) ≡ o → ReadsOrBreaks bytes
  by_place fuel go_on at c cs levels h s t e None can't =
      inr (
        _,
        first (record {
          size = size;
          tokens = s.tokens;
          at = at;
          rest = c ∷ cs;
          opens = brackets levels;
          cut = s.cut;
          begun = s.begun;
          breaks = ap (break_by (brackets levels) at) e ∙ ap (λ (o : Option (List Open)). unless_stands o (misplaced (brackets levels) t.0 at (at + t.1))) can't;
        }),
      )
  by_place fuel go_on at c cs levels h s t e (Some os) can =
      let w = token_within at c cs t.0 t.1 e in
      let shorter : length (drop t.1 (c ∷ cs)) ≡ length (c ∷ cs) - t.1 = length-drop t.1 (c ∷ cs) in
      let next_one = went_on at c cs levels s t.0 t.1 e os can in
      go_on (at + t.1) (drop t.1 (c ∷ cs)) next_one.0 (omega (arith, shorter, h, w.0)) next_one.1

  by_token : (fuel : ℕ) → GoesOn fuel → (at c : ℕ) (cs : List ℕ) (levels : List Level) → suc (length cs) ≤ suc fuel → Read bytes at (c ∷ cs) levels → (r : Result (Token × ℕ) Break) → token_at at (c ∷ cs) ≡ r → ReadsOrBreaks bytes
  by_token fuel go_on at c cs levels h s (Err b) e =
      inr (b, first (record { size = size; tokens = s.tokens; at = at; rest = c ∷ cs; opens = brackets levels; cut = s.cut; begun = s.begun; breaks = ap (break_by (brackets levels) at) e }))
  by_token fuel go_on at c cs levels h s (Ok t) e = by_place fuel go_on at c cs levels h s t e (next (brackets levels) (in_place (brackets levels) t.0)) refl

  go : (fuel : ℕ) → GoesOn fuel
  go fuel at [] levels h s = ended at levels s
  go zero at (c ∷ cs) levels h s = absurd (omega (arith, h))
  go (suc fuel) at (c ∷ cs) levels h s = by_token fuel (go fuel) at c cs levels h s (token_at at (c ∷ cs)) refl

  pub short_answer : ReadsOrBreaks bytes
  short_answer = go (length bytes) 0 bytes [] (omega arith) (record { tokens = []; items = []; cut = (refl, refl); begun = refl; are = refl; place = omega arith })

-- each text reads or breaks a rule
pub each_text : (bytes : List ℕ) → ReadsOrBreaks bytes
each_text bytes = by_size (leb (length bytes) 1048576) refl
  where
    fits : (n : ℕ) → leb n 1048576 ≡ true → n ≤ 1048576
    fits n h = grind (arith, nat_tests)

    exceeds : (n : ℕ) → leb n 1048576 ≡ false → 1048576 < n
    exceeds n h = grind (arith, nat_tests)

    by_size : (b : Bool) → leb (length bytes) 1048576 ≡ b → ReadsOrBreaks bytes
    by_size true e = short_answer bytes (fits (length bytes) e)
    by_size false e = inr (_, too_long (exceeds (length bytes) e) refl)
