-- What is found of sources, one after another.
use Rattle.std.proofs.Common.{◌≡◌, inl, inr, ℕ, ◌+◌, ◌<◌, Bool, true, false, List, [], ◌∷◌, ◌++◌, map, length, drop, get_or, not, Option, Some, None, refl, sym, ap, subst, ◌∙◌, append_assoc, append-nil}
use Rattle.std.proofs.lemmas.List.{drop_more}
use Rattle.std.specs.Prelude.{filter_map, if◌then◌else◌, ◌&&◌, ◌||◌, nat_eq}
use Rattle.std.specs.List.{list_all, list_any}
use Rattle.std.specs.Cmp.Lexicographic.{pointwise}
use Rattle.cl_types.specs.Types.{PlainType}
use Rattle.cl_c32.specs.Address.{AddressParts}
use Rattle.cl_c32.specs.declared.principal.Principal.{Principal}
use Rattle.cl_sexpr.specs.declared.sexpr.Span.{Span}
use Rattle.cl_sexpr.specs.declared.rule.Rule.{Rule}
use Rattle.cl_sexpr.specs.declared.rule.Rule.TheVariants.{BoundTooLarge}
use Rattle.cl_shapes.specs.declared.cost.Dimension.{Dimension}
use Rattle.cl_forms.specs.declared.version.Version.{Version}
use Rattle.cl_forms.specs.Texts.{text_of}
use Rattle.cl_rules.specs.Context.{CostTable, Known, same_principal, same_part}
use Rattle.cl_rules.specs.FormRules.{Defined, nothing_defined}
use Rattle.cl_rules.specs.Acceptance.{FirstBreakBeforeBounds, FirstBreakOf, NoneWrites, TypedAs, before_bounds, in_bounds, in_deployment, known_of}
use Rattle.cl_rules.specs.Laws.{IsFirstAboveLimit}
use Rattle.cl_contracts.specs.declared.checked.Checked.{Checked}
use Rattle.cl_contracts.specs.declared.contract.Contract.{Contract}
use Rattle.cl_contracts.specs.Seen.{IsIndexed, contract_under, forms_of}
use Rattle.cl_contracts.specs.Standings.{AllStand, AreStanding, StandsAfter, definitions_in_order}
use Rattle.cl_contracts.specs.Known.{DefinedAsKept}
use Rattle.cl_contracts.proofs.Fitting.{standing_push}
use Rattle.cl_tx.specs.declared.outcome.Bounds.{Bounds}
use Rattle.cl_tx.specs.Nodes.{Told}
use Rattle.cl_tx.specs.Seen.{SourceBreak}
use Rattle.cl_tx.specs.Step.{told_of, return_of}
use Rattle.cl_lines.specs.Checks.{accepted_lines, refused_line}
use Rattle.cl_words.specs.declared.sources.Source.{Source}
use Rattle.cl_replies.specs.Checked.{IsReport, accepted_reply, all_checked, refused_source_reply}
use Rattle.cl_replies.specs.Kept.{Contracts, IsAccepted, IsBounded, IsChecked, IsKept, IsRefused, AcceptedSoFar, AreApart, AreNew, AreOthers}
use Rattle.cl_entries.specs.declared.status.Status.TheVariants.{Done, Refused}
use Rattle.cl_words.specs.Seen.{text_in}
use Rattle.cl_words.specs.Sources.{are_sources, contract_at, has_name, have_one_name, names_differ, source_name}
use Rattle.cl_nodes.specs.Accepting.{type_returned}
use Rattle.cl_nodes.proofs.Knowing.{types_told}

-- ---- one source

-- what the checker finds
pub is_checked : (contracts : Contracts) (source : Source) (text : List ℕ) (c : Checked) → text ≡ source.text → c.principal ≡ source.principal → c.version ≡ source.version → c.source_length ≡ length text → IsIndexed c →
    ((known : List Known) → AreStanding [] contracts known → (defined : Defined) × TypedAs known source.principal (text_of text source.version) (forms_of c) c.order.items defined × NoneWrites known source.principal (forms_of c) × AllStand (nothing_defined known source.principal source.version (length text)) (definitions_in_order c) defined) →
    IsChecked contracts source c
is_checked contracts source text c same principal version size indexed found = record {
  principal_is = principal;
  version_is = version;
  size = size ∙ ap length same;
  indexed = indexed;
  found = λ known stand.
      let f = found known stand in (
        f.0,
        subst (λ (t : List ℕ). TypedAs known source.principal (text_of t source.version) (forms_of c) c.order.items f.0) same f.1,
        f.2,
        subst (λ (n : ℕ). AllStand (nothing_defined known c.principal c.version n) (definitions_in_order c) f.0) (sym size)
            (subst (λ (v : Version). AllStand (nothing_defined known c.principal v (length text)) (definitions_in_order c) f.0) (sym version)
            (subst (λ (p : Principal). AllStand (nothing_defined known p source.version (length text)) (definitions_in_order c) f.0) (sym principal) f.3)),
      );
}

module _ (table : CostTable) (before : Contracts) (source : Source) (c : Checked) (checked : IsChecked before source c) where
  -- a bound above the limit is the first break
  above_breaks : (known : List Known) → AreStanding [] before known → (dimension : Dimension) (rule : Rule) (span : Span) (names : List (List ℕ)) → rule ≡ BoundTooLarge dimension → names ≡ [] →
      ((known : List Known) (defined : Defined) → AreStanding [] before known → StandsAfter known c defined → IsFirstAboveLimit defined (forms_of c) c.order.items table dimension span) → FirstBreakOf known source.principal table (text_in source) rule span names
  above_breaks known stand dimension rule span names r n above =
      let f = checked.found known stand in
      by f.0 f.1 f.2 (above known f.0 stand f.3)
    where
      by : (defined : Defined) → TypedAs known source.principal (text_in source) (forms_of c) c.order.items defined → NoneWrites known source.principal (forms_of c) → IsFirstAboveLimit defined (forms_of c) c.order.items table dimension span → FirstBreakOf known source.principal table (text_in source) rule span names
      by defined typed none (inl first) = in_bounds (forms_of c) c.order.items defined dimension typed none first r n
      by defined typed none (inr whole) = in_deployment (forms_of c) c.order.items defined dimension typed none whole.0 r whole.1 n

  pub bound_is_refused : (dimension : Dimension) (broken : SourceBreak) (text : List ℕ) → broken.rule ≡ BoundTooLarge dimension → broken.names ≡ [] →
      ((known : List Known) (defined : Defined) → AreStanding [] before known → StandsAfter known c defined → IsFirstAboveLimit defined (forms_of c) c.order.items table dimension broken.span) →
      text ≡ refused_line source.principal broken → IsRefused table before source text
  bound_is_refused dimension broken text r n above line = record {
    broken = broken;
    first = λ known stand. above_breaks known stand dimension broken.rule broken.span broken.names r n above;
    line = line;
  }

  -- a contract whose bounds are within the limit is accepted
  pub is_accepted : DefinedAsKept → (bounds : Bounds) → IsBounded table before c bounds → (text : List ℕ) → text ≡ accepted_lines c.principal (Some bounds) (filter_map type_returned c.definitions.items) → (after : Contracts) → IsKept before c after → IsAccepted table before source text after
  is_accepted law bounds bounded text lines after kept = record {
    contract = kept.contract;
    behind = kept.behind ∙ ap (λ (p : Principal). before ++ (p, kept.contract) ∷ []) checked.principal_is;
    found = λ known stand.
        let f = checked.found known stand in
        let told : Told = told_of table f.0 (forms_of c) in
        let same_bounds : told.bounds ≡ Some bounds = bounded.told known f.0 stand f.3 in
        let same_types : filter_map (return_of f.0) (forms_of c) ≡ filter_map type_returned c.definitions.items = types_told law known c f.0 checked.indexed f.3 in (
          record { forms = forms_of c; order = c.order.items; defined = f.0; typed = f.1; none_writes = f.2; bounded = bounded.within known f.0 stand f.3 },
          lines
              ∙ ap (λ (p : Principal). accepted_lines p (Some bounds) (filter_map type_returned c.definitions.items)) checked.principal_is
              ∙ ap (λ (b : Option Bounds). accepted_lines source.principal b (filter_map type_returned c.definitions.items)) (sym same_bounds)
              ∙ ap (λ (ts : List PlainType). accepted_lines source.principal told.bounds ts) (sym same_types),
          stands known stand f.0 f.3,
        );
  }
    where
      stands : (known : List Known) → AreStanding [] before known → (defined : Defined) → StandsAfter known c defined → AreStanding [] after (known ++ known_of source.principal (length source.text) defined ∷ [])
      stands known stand defined stand_after =
          let e : Principal × Contract = (c.principal, kept.contract) in
          let so : AllStand (nothing_defined known c.principal kept.contract.checked.version kept.contract.checked.source_length) (definitions_in_order kept.contract.checked) defined =
          subst (λ (d : Checked). AllStand (nothing_defined known c.principal d.version d.source_length) (definitions_in_order d) defined) (sym kept.is) stand_after
          in
          let pushed = standing_push [] before known e defined stand so in
          let size : kept.contract.checked.source_length ≡ length source.text = ap (λ (d : Checked). d.source_length) kept.is ∙ checked.size in
          let one : known_of c.principal kept.contract.checked.source_length defined ≡ known_of source.principal (length source.text) defined = λ i. known_of (checked.principal_is i) (size i) defined in
          subst (λ (k : Known). AreStanding [] after (known ++ k ∷ [])) one
          (subst (λ (es : Contracts). AreStanding [] es (known ++ known_of c.principal kept.contract.checked.source_length defined ∷ [])) (sym kept.behind) pushed)

-- ---- one source after another

-- a contract that isn't of a source is put behind
still_new : (es : Contracts) (p q : Principal) (c : Contract) → contract_under q es ≡ None → same_principal p q ≡ false → contract_under q (es ++ (p, c) ∷ []) ≡ None
still_new [] p q c new other = ap (λ (b : Bool). if b then Some c else None) other
still_new (e ∷ es) p q c new other = by (same_principal e.0 q) new (λ h. still_new es p q c h other)
  where
    by : (b : Bool) → (if b then Some e.1 else contract_under q es) ≡ None → (contract_under q es ≡ None → contract_under q (es ++ (p, c) ∷ []) ≡ None) → (if b then Some e.1 else contract_under q (es ++ (p, c) ∷ [])) ≡ None
    by true h rest = absurd cc
    by false h rest = rest h

all_still_new : (sources : List Source) (es : Contracts) (p : Principal) (c : Contract) → AreNew sources es → AreOthers p sources → AreNew sources (es ++ (p, c) ∷ [])
all_still_new [] es p c new others = tt
all_still_new (s ∷ sources) es p c new others = (still_new es p s.principal c new.0 others.0, all_still_new sources es p c new.1 others.1)

none_stands : (sources : List Source) → AreNew sources []
none_stands [] = tt
none_stands (s ∷ sources) = (refl, none_stands sources)

pub accepted_first : (table : CostTable) (sources : List Source) (es : Contracts) → AreApart sources → es ≡ [] → AcceptedSoFar table sources sources [] es
accepted_first table sources es apart none = record {
  known = [];
  stand = subst (λ (cs : Contracts). AreStanding [] cs []) (sym none) refl;
  report = λ reply h. h;
  new = subst (AreNew sources) (sym none) (none_stands sources);
  apart = apart;
}

pub next_is_new : (table : CostTable) (sources rest more : List Source) (source : Source) (text : List ℕ) (es : Contracts) → AcceptedSoFar table sources rest text es → rest ≡ source ∷ more → contract_under source.principal es ≡ None
next_is_new table sources rest more source text es so_far e = (subst (λ (ss : List Source). AreNew ss es) e so_far.new).0

pub accepted_next : (table : CostTable) (sources rest more : List Source) (source : Source) (text lines : List ℕ) (es after : Contracts) → AcceptedSoFar table sources rest text es → rest ≡ source ∷ more → IsAccepted table es source lines after → AcceptedSoFar table sources more (text ++ lines) after
accepted_next table sources rest more source text lines es after so_far e one =
    let f = one.found so_far.known so_far.stand in
    let apart = subst AreApart e so_far.apart in
    let new = subst (λ (ss : List Source). AreNew ss es) e so_far.new in
    let told : Told = told_of table f.0.defined f.0.forms in
    record {
      known = so_far.known ++ known_of source.principal (length source.text) f.0.defined ∷ [];
      stand = f.2;
      report = λ reply h.
          let joined : text ++ (accepted_lines source.principal told.bounds told.types ++ reply.text) ≡ (text ++ lines) ++ reply.text =
          ap (λ (t : List ℕ). text ++ (t ++ reply.text)) (sym f.1) ∙ sym (append_assoc text lines reply.text)
          in
          subst (λ (all : List ℕ). IsReport table [] sources (record { text = all; status = reply.status })) joined
          (so_far.report (accepted_reply source told reply) (subst (λ (ss : List Source). IsReport table so_far.known ss (accepted_reply source told reply)) (sym e) (inl (f.0, reply, h, refl))));
      new = subst (AreNew more) (sym one.behind) (all_still_new more es source.principal one.contract new.1 apart.0);
      apart = apart.1;
    }

pub refused_next : (table : CostTable) (sources rest more : List Source) (source : Source) (text line : List ℕ) (es : Contracts) → AcceptedSoFar table sources rest text es → rest ≡ source ∷ more → IsRefused table es source line → IsReport table [] sources (record { text = text ++ line; status = Refused })
refused_next table sources rest more source text line es so_far e one =
    subst (λ (l : List ℕ). IsReport table [] sources (record { text = text ++ l; status = Refused })) (sym one.line)
    (so_far.report (refused_source_reply source one.broken)
    (subst (λ (ss : List Source). IsReport table so_far.known ss (refused_source_reply source one.broken)) (sym e) (inr (one.broken, one.first so_far.known so_far.stand, refl))))

pub accepted_all : (table : CostTable) (sources rest : List Source) (text : List ℕ) (es : Contracts) → AcceptedSoFar table sources rest text es → rest ≡ [] → IsReport table [] sources (record { text = text; status = Done })
accepted_all table sources rest text es so_far e =
    subst (λ (t : List ℕ). IsReport table [] sources (record { text = t; status = Done })) (append-nil text)
    (so_far.report all_checked (subst (λ (ss : List Source). IsReport table so_far.known ss all_checked) (sym e) refl))

-- ---- paths whose names differ are of contracts of their own

none_same : (a b : Bool) (o p : Option (List ℕ)) → same_part o p ≡ false → (a && b && same_part o p) ≡ false
none_same a b o p h = by a b (same_part o p) h
  where
    by : (a b c : Bool) → c ≡ false → (a && b && c) ≡ false
    by true true c h = h
    by true false c h = refl
    by false b c h = refl

none_of_more : (b c : Bool) → (b || c) ≡ false → (b ≡ false) × (c ≡ false)
none_of_more true c h = absurd cc
none_of_more false c h = (refl, h)

not_and : (a b : Bool) → (not a && b) ≡ true → (a ≡ false) × (b ≡ true)
not_and true b h = absurd cc
not_and false b h = (refl, h)

same_head : (p q : Principal) (ps qs : List Principal) → p ∷ ps ≡ q ∷ qs → (p ≡ q) × (ps ≡ qs)
same_head p q ps qs h = (cc, cc)

others_by : (address : AddressParts) (path : List ℕ) (sources : List Source) (paths : List (List ℕ)) → map (λ (s : Source). s.principal) sources ≡ map (contract_at address) paths → list_any (have_one_name path) paths ≡ false → AreOthers (contract_at address path) sources
others_by address path [] paths same none = tt
others_by address path (s ∷ sources) [] same none = absurd cc
others_by address path (s ∷ sources) (q ∷ paths) same none =
    let heads = same_head s.principal (contract_at address q) (map (λ (s : Source). s.principal) sources) (map (contract_at address) paths) same in
    let each = none_of_more (have_one_name path q) (list_any (have_one_name path) paths) none in
    let apart : same_principal (contract_at address path) (contract_at address q) ≡ false =
    none_same (nat_eq address.version address.version) (pointwise nat_eq address.hash address.hash) (source_name path) (source_name q) each.0
    in
    (subst (λ (p : Principal). same_principal (contract_at address path) p ≡ false) (sym heads.0) apart, others_by address path sources paths heads.1 each.1)

pub are_apart : (address : AddressParts) (sources : List Source) (paths : List (List ℕ)) → map (λ (s : Source). s.principal) sources ≡ map (contract_at address) paths → names_differ paths ≡ true → AreApart sources
are_apart address [] paths same differ = tt
are_apart address (s ∷ sources) [] same differ = absurd cc
are_apart address (s ∷ sources) (path ∷ paths) same differ =
    let heads = same_head s.principal (contract_at address path) (map (λ (s : Source). s.principal) sources) (map (contract_at address) paths) same in
    let each = not_and (list_any (have_one_name path) paths) (names_differ paths) differ in
    (subst (λ (p : Principal). AreOthers p sources) (sym heads.0) (others_by address path sources paths heads.1 each.0), are_apart address sources paths heads.1 each.1)

pub names_apart : (paths : List (List ℕ)) → are_sources paths ≡ true → names_differ paths ≡ true
names_apart [] h = absurd cc
names_apart (path ∷ paths) h = second (list_all has_name (path ∷ paths)) (names_differ (path ∷ paths)) h
  where
    second : (a b : Bool) → (a && b) ≡ true → b ≡ true
    second true b h = h
    second false b h = absurd cc

-- ---- as the code goes

-- what the checker refuses
pub break_is_refused : (table : CostTable) (before : Contracts) (source : Source) (text : List ℕ) (broken : SourceBreak) (line : List ℕ) → text ≡ source.text →
    ((known : List Known) → AreStanding [] before known → FirstBreakBeforeBounds known source.principal (text_of text source.version) broken.rule broken.span broken.names) → line ≡ refused_line source.principal broken → IsRefused table before source line
break_is_refused table before source text broken line same first is = record {
  broken = broken;
  first = λ known stand. subst (λ (t : List ℕ). FirstBreakOf known source.principal table (text_of t source.version) broken.rule broken.span broken.names) same (before_bounds (first known stand));
  line = is;
}

pub source_in_front : (sources : List Source) (i : ℕ) (source : Source) → i < length sources → source ≡ get_or sources i source → drop i sources ≡ source ∷ drop (i + 1) sources
source_in_front sources i source h e = drop_more sources i source h ∙ ap (λ (s : Source). s ∷ drop (i + 1) sources) (sym e)
