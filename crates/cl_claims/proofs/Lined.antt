-- Lines one after another.
use Rattle.std.proofs.Common.{◌≡◌, ℕ, ◌<◌, ◌≤◌, ◌^◌, List, [], ◌∷◌, ◌++◌, Some, None, refl, sym, ap, subst, ◌∙◌, append_assoc, arith}
use Rattle.std.specs.Prelude.{decimal}
use Rattle.std.specs.List.{flat_map}
use Rattle.std.proofs.lemmas.List.{flat_map_more}
use Rattle.std.proofs.lemmas.Fmt.{decimal_injective}
use Rattle.hex.specs.Hex.{encode_lower}
use Rattle.cl_values.specs.Wire.{wire}
use Rattle.cl_sexpr.specs.declared.sexpr.Span.{Span}
use Rattle.cl_values.specs.Tree.{Tree}
use Rattle.cl_claims.specs.declared.spelled.ClaimLine.{ClaimLine}
use Rattle.cl_claims.specs.Files.{IsBadHere, Rise, last_entry}
use Rattle.cl_claims.specs.Lines.{claim_line, claim_text, line_text, span_text}
use Rattle.cl_claims.specs.Parts.{IsNoClaim, IsSpan, split_at}
use Rattle.cl_claims.proofs.Splitting.{cut_none, cut_so, split_parts, split_there}
use Rattle.cl_claims.proofs.LineParts.{claim_free, decimal_free}

-- ---- the next line

behind_line : (entry : ℕ) (at : Span) (v : Tree) (behind : List ℕ) → claim_line entry at v ++ behind ≡ claim_text entry at v ++ 10 ∷ behind
behind_line entry at v behind = append_assoc (claim_text entry at v) (10 ∷ []) behind

pub no_line : (least entries : ℕ) (text : List ℕ) → split_at 10 text ≡ None → IsBadHere least entries text
no_line least entries text none entry at v behind rises within small is val text_is =
    cut_none 10 text (claim_text entry at v) behind none (text_is ∙ behind_line entry at v behind) (claim_free entry at v small is)

line_so : (text line rest : List ℕ) (entry : ℕ) (at : Span) (v : Tree) (behind : List ℕ) → split_at 10 text ≡ Some (line, rest) → entry < 2 ^ 32 → IsSpan at → text ≡ claim_line entry at v ++ behind → line ≡ claim_text entry at v
line_so text line rest entry at v behind cut small is text_is = (cut_so 10 text line rest (claim_text entry at v) behind cut (text_is ∙ behind_line entry at v behind) (claim_free entry at v small is)).0

pub no_claim : (least entries : ℕ) (text line rest : List ℕ) → split_at 10 text ≡ Some (line, rest) → IsNoClaim line → IsBadHere least entries text
no_claim least entries text line rest cut none entry at v behind rises within small is val text_is = none entry at v small is val (line_so text line rest entry at v behind cut small is text_is)

pub line_front : (text line behind : List ℕ) (entry : ℕ) (at : Span) (v : Tree) → split_at 10 text ≡ Some (line, behind) → claim_text entry at v ≡ line → text ≡ claim_line entry at v ++ behind
line_front text line behind entry at v cut claim =
    split_parts 10 text line behind cut
    ∙ ap (λ (l : List ℕ). l ++ 10 ∷ behind) (sym claim)
    ∙ sym (behind_line entry at v behind)

-- ---- so many lines

rise_then : (least entries : ℕ) (cs : List ClaimLine) (c : ClaimLine) → Rise least entries cs → last_entry least cs ≤ c.entry → c.entry < entries → Rise least entries (cs ++ c ∷ [])
rise_then least entries [] c rise low within = (low, within, tt)
rise_then least entries (d ∷ cs) c rise low within = (rise.0, rise.1, rise_then d.entry entries cs c rise.2 low within)

last_then : (least : ℕ) (cs : List ClaimLine) (c : ClaimLine) → last_entry least (cs ++ c ∷ []) ≡ c.entry
last_then least [] c = refl
last_then least (d ∷ cs) c = last_then d.entry cs c

-- a text begins with these lines, and the next entry is at least this
pub record IsRead (text rest : List ℕ) (entries least : ℕ) (lines : List ClaimLine) : Type 0 where
  pub are : text ≡ flat_map line_text lines ++ rest
  pub rise : Rise 0 entries lines
  pub last : last_entry 0 lines ≡ least

pub read_more : (text rest behind : List ℕ) (entries least : ℕ) (cs ds : List ClaimLine) (c : ClaimLine) → IsRead text rest entries least cs → ds ≡ cs ++ c ∷ [] → rest ≡ line_text c ++ behind → least ≤ c.entry → c.entry < entries → IsRead text behind entries c.entry ds
read_more text rest behind entries least cs ds c so_far pushed front low within =
    let last : last_entry 0 cs ≤ c.entry = omega (arith, so_far.last, low) in
    subst (IsRead text behind entries c.entry) (sym pushed) (record {
      are =
          so_far.are
          ∙ ap (λ (l : List ℕ). flat_map line_text cs ++ l) front
          ∙ sym (append_assoc (flat_map line_text cs) (line_text c) behind)
          ∙ ap (λ (l : List ℕ). l ++ behind) (flat_map_more line_text [] cs c);
      rise = rise_then 0 entries cs c so_far.rise last within;
      last = last_then 0 cs c;
    })

-- ---- a claim that may not follow

one_entry : (e f : ℕ) (at bt : Span) (v w : Tree) → e < 2 ^ 32 → f < 2 ^ 32 → claim_text e at v ≡ claim_text f bt w → e ≡ f
unfolding claim_text
one_entry e f at bt v w small_e small_f is =
    let behind : List ℕ = span_text at ++ 32 ∷ encode_lower (wire v) in
    let cut : split_at 32 (decimal e ++ 32 ∷ behind) ≡ Some (decimal e, behind) = split_there 32 (decimal e) behind (decimal_free 32 e (omega arith) small_e) in
    decimal_injective e f (omega (arith, small_e)) (omega (arith, small_f)) (cut_so 32 (decimal e ++ 32 ∷ behind) (decimal e) behind (decimal f) (span_text bt ++ 32 ∷ encode_lower (wire w)) cut is (decimal_free 32 f (omega arith) small_f)).0

pub too_low : (least entries : ℕ) (text line rest : List ℕ) (e : ℕ) (at : Span) (v : Tree) → split_at 10 text ≡ Some (line, rest) → claim_text e at v ≡ line → e < 2 ^ 32 → e < least → IsBadHere least entries text
too_low least entries text line rest e at v cut claim small_e low f bt w behind rises within small_f is val text_is =
    let same : e ≡ f = one_entry e f at bt v w small_e small_f (claim ∙ line_so text line rest f bt w behind cut small_f is text_is) in
    absurd (omega (arith, same, low, rises))

pub too_high : (least entries : ℕ) (text line rest : List ℕ) (e : ℕ) (at : Span) (v : Tree) → split_at 10 text ≡ Some (line, rest) → claim_text e at v ≡ line → e < 2 ^ 32 → entries ≤ e → IsBadHere least entries text
too_high least entries text line rest e at v cut claim small_e high f bt w behind rises within small_f is val text_is =
    let same : e ≡ f = one_entry e f at bt v w small_e small_f (claim ∙ line_so text line rest f bt w behind cut small_f is text_is) in
    absurd (omega (arith, same, high, within))
