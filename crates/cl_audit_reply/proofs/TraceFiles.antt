-- A trace file, one line after another.
use Rattle.std.proofs.Common.{◌≡◌, ◌≢◌, ℕ, zero, suc, ◌+◌, ◌<◌, ◌≤◌, ◌==◌, Bool, true, false, List, [], ◌∷◌, ◌++◌, length, map, replicate, set, get_or, Option, Some, None, Ok, Err, refl, sym, ap, subst, ◌∙◌, arith, add-one, eqb-true}
use Rattle.std.specs.Prelude.{filter_map}
use Rattle.std.specs.List.{All, cons_option, flat_map}
use Rattle.std.proofs.lemmas.List.{length-map, nil_from_length}
use Rattle.std.proofs.lemmas.List.Elements.{All-nil, All-cons}
use Rattle.cl_audit.specs.declared.trace.Trace.{Trace}
use Rattle.cl_audit_walk.specs.declared.cursor.Claim.{Claim}
use Rattle.cl_claims.specs.declared.spelled.ClaimLine.{ClaimLine}
use Rattle.cl_claims.specs.Files.{IsBadHere, IsFirstBad}
use Rattle.cl_claims.specs.Lines.{line_text}
use Rattle.cl_claims.specs.Parsed.{Claims, before, claims_in, claims_of as claims_from_text}
use Rattle.cl_claims.proofs.Lined.{IsRead, read_more}
use Rattle.cl_audit_reply.specs.Grouped.{AreTraces, claim_at, claim_of, grouped, grouped_from, grouped_result, put, traces_in}
use Rattle.cl_audit_results.specs.Audits.{claims_of}
use Rattle.cl_audit_reply.proofs.Grouping.{put_to}

-- ---- lines in front of others

abbrev pub in_front : List ClaimLine → Claims → Claims
in_front [] r = r
in_front (c ∷ cs) r = before c (in_front cs r)

front_push : (cs : List ClaimLine) (c : ClaimLine) (r : Claims) → in_front (cs ++ c ∷ []) r ≡ in_front cs (before c r)
front_push [] c r = refl
front_push (d ∷ cs) c r = ap (before d) (front_push cs c r)

front_ok : (cs : List ClaimLine) → in_front cs (Ok []) ≡ Ok cs
front_ok [] = refl
front_ok (d ∷ cs) = ap (before d) (front_ok cs)

front_bad : (cs : List ClaimLine) → in_front cs (Err 0) ≡ Err (length cs)
front_bad [] = refl
front_bad (d ∷ cs) = ap (before d) (front_bad cs) ∙ ap (λ (n : ℕ). Err n) (add-one (length cs))

length_push : (cs : List ClaimLine) (c : ClaimLine) → length (cs ++ c ∷ []) ≡ length cs + 1
length_push [] c = refl
length_push (d ∷ cs) c = ap suc (length_push cs c) ∙ omega arith

-- ---- groups

pub grouped_length : (ls : List ClaimLine) (k n : ℕ) → length (grouped_from ls k n) ≡ n
grouped_length ls k zero = refl
grouped_length ls k (suc n) = ap suc (grouped_length ls (k + 1) n)

found_at_most : (f : ClaimLine → Option Claim) (ls : List ClaimLine) → length (filter_map f ls) ≤ length ls
found_at_most f [] = omega arith
found_at_most f (l ∷ ls) = by (f l) (filter_map f ls) (found_at_most f ls)
  where
    by : (o : Option Claim) (cs : List Claim) → length cs ≤ length ls → length (cons_option o cs) ≤ suc (length ls)
    by None cs h = omega (arith, h)
    by (Some c) cs h = omega (arith, h)

pub groups_few : (ls : List ClaimLine) (most k n : ℕ) → length ls ≤ most → All (λ c. length c ≤ most) (grouped_from ls k n)
groups_few ls most k zero h = All-nil (λ (c : List Claim). length c ≤ most)
groups_few ls most k (suc n) h =
    let few : length (filter_map (claim_at k) ls) ≤ length ls = found_at_most (claim_at k) ls in
    All-cons (λ (c : List Claim). length c ≤ most) (filter_map (claim_at k) ls) (grouped_from ls (k + 1) n) (omega (arith, few, h)) (groups_few ls most (k + 1) n h)

no_groups : (k n : ℕ) → replicate n [] ≡ grouped_from [] k n
no_groups k zero = refl
no_groups k (suc n) = ap (λ (cs : List (List Claim)). [] ∷ cs) (no_groups (k + 1) n)

pub claims_length : (traces : List Trace) → length (claims_of traces) ≡ length traces
claims_length traces = length-map traces (λ (t : Trace). t.claims.items)

-- ---- whether something is left

pub nothing_left : (xs : List ℕ) (b : Bool) → b ≡ (length xs == 0) → b ≡ true → xs ≡ []
nothing_left xs b is empty = nil_from_length xs (eqb-true (length xs) 0 (sym is ∙ empty))

pub something_left : (xs : List ℕ) (b : Bool) → b ≡ (length xs == 0) → b ≡ false → xs ≢ []
something_left xs b is more empty =
    let none : (length xs == 0) ≡ true = ap (λ (l : List ℕ). length l == 0) empty in
    absurd cc

-- ---- what the loop keeps

-- so many lines were read, and the claims are those of them
pub record IsReadTo (entries : ℕ) (text rest : List ℕ) (least count : ℕ) (claims : List (List Claim)) : Type 0 where
  pub lines : List ClaimLine
  pub read : IsRead text rest entries least lines
  pub counted : length lines ≡ count
  pub room : count + length rest ≤ length text
  pub spelled : claims_in entries text ≡ in_front lines (claims_from_text least entries rest)
  pub are : claims ≡ grouped lines entries

pub read_first : (entries : ℕ) (text : List ℕ) (claims : List (List Claim)) → claims ≡ replicate entries [] → IsReadTo entries text text 0 0 claims
read_first entries text claims is = record {
  lines = [];
  read = record { are = refl; rise = tt; last = refl };
  counted = refl;
  room = omega arith;
  spelled = refl;
  are = is ∙ no_groups 0 entries;
}

module _ (entries : ℕ) (text rest : List ℕ) (least count : ℕ) (claims : List (List Claim)) (so_far : IsReadTo entries text rest least count claims) where
  pub read_next : (line : ClaimLine) (behind : List ℕ) (next : List (List Claim)) → claims_from_text least entries rest ≡ before line (claims_from_text line.entry entries behind) → rest ≡ line_text line ++ behind → least ≤ line.entry → line.entry < entries → length behind < length rest → next ≡ put claims line →
      IsReadTo entries text behind line.entry (count + 1) next
  read_next line behind next reads front low within shorter is =
      let room : count + length rest ≤ length text = so_far.room in
      let pushed : length (so_far.lines ++ line ∷ []) ≡ length so_far.lines + 1 = length_push so_far.lines line in
      let counted : length so_far.lines ≡ count = so_far.counted in
      record {
        lines = so_far.lines ++ line ∷ [];
        read = read_more text rest behind entries least so_far.lines (so_far.lines ++ line ∷ []) line so_far.read refl front low within;
        counted = pushed ∙ ap (λ (n : ℕ). n + 1) counted;
        room = omega (arith, room, shorter);
        spelled = so_far.spelled ∙ ap (in_front so_far.lines) reads ∙ sym (front_push so_far.lines line (claims_from_text line.entry entries behind));
        are = is ∙ ap (λ (cs : List (List Claim)). put cs line) so_far.are ∙ sym (put_to line so_far.lines entries within);
      }

  -- the next line isn't in the format
  pub read_bad : claims_from_text least entries rest ≡ Err 0 → traces_in entries text ≡ Err count
  read_bad bad = ap (grouped_result entries) (so_far.spelled ∙ ap (in_front so_far.lines) bad ∙ front_bad so_far.lines) ∙ ap (λ (n : ℕ). Err n) so_far.counted

  pub read_first_bad : rest ≢ [] → IsBadHere least entries rest → IsFirstBad entries text count
  read_first_bad more bad = record {
    lines = so_far.lines;
    counted = so_far.counted;
    rise = so_far.read.rise;
    rest = rest;
    are = so_far.read.are;
    more = more;
    bad = subst (λ (n : ℕ). IsBadHere n entries rest) (sym so_far.read.last) bad;
  }

  pub length_kept : length claims ≡ entries
  length_kept = ap length so_far.are ∙ grouped_length so_far.lines 0 entries

  pub few_kept : All (λ c. length c ≤ length text) claims
  few_kept =
      let counted : length so_far.lines ≡ count = so_far.counted in
      let room : count + length rest ≤ length text = so_far.room in
      subst (All (λ (c : List Claim). length c ≤ length text)) (sym so_far.are) (groups_few so_far.lines (length text) 0 entries (omega (arith, counted, room)))

  module _ (all : rest ≡ []) where
    pub read_all : traces_in entries text ≡ Ok claims
    read_all =
        ap (grouped_result entries) (so_far.spelled ∙ ap (λ (r : List ℕ). in_front so_far.lines (claims_from_text least entries r)) all ∙ front_ok so_far.lines)
        ∙ ap (λ (cs : List (List Claim)). Ok cs) (sym so_far.are)

    pub lines_all : AreTraces entries text claims
    lines_all = record {
      lines = so_far.lines;
      are_lines = record { are = so_far.read.are ∙ ap (λ (r : List ℕ). flat_map line_text so_far.lines ++ r) all ∙ nothing_behind (flat_map line_text so_far.lines); rise = so_far.read.rise };
      are = so_far.are;
    }
      where
        nothing_behind : (xs : List ℕ) → xs ++ [] ≡ xs
        nothing_behind [] = refl
        nothing_behind (x ∷ xs) = ap (λ (ys : List ℕ). x ∷ ys) (nothing_behind xs)

-- ---- one more claim in the code's traces

module _ (line : ClaimLine) (old t : Trace) (more : t.claims.items ≡ old.claims.items ++ claim_of line ∷ []) where
  set_claims : (ts : List Trace) (i : ℕ) → i < length ts → old ≡ get_or ts i old → claims_of (set ts i t) ≡ set (claims_of ts) i (get_or (claims_of ts) i [] ++ claim_of line ∷ [])
  set_claims [] i h e = absurd (omega (arith, h))
  set_claims (s ∷ ts) zero h e = ap (λ (c : List Claim). c ∷ claims_of ts) (more ∙ ap (λ (o : Trace). o.claims.items ++ claim_of line ∷ []) e)
  set_claims (s ∷ ts) (suc i) h e = ap (λ (cs : List (List Claim)). s.claims.items ∷ cs) (set_claims ts i (omega (arith, h)) e)

  pub put_there : (traces : List Trace) → line.entry < length traces → old ≡ get_or traces line.entry old → claims_of (set traces line.entry t) ≡ put (claims_of traces) line
  put_there traces here is = set_claims traces line.entry here is
