-- The parts of a tree, one by one.
use Rattle.std.proofs.Common.{◌≡◌, ℕ, ◌+◌, ◌<◌, ◌≤◌, Bool, true, false, List, [], ◌∷◌, length, map, drop, get_or, refl, sym, ap, subst, ◌∙◌}
use Rattle.std.specs.Prelude.{◌||◌}
use Rattle.std.specs.List.{list_any}
use Rattle.std.proofs.lemmas.List.{drop_all, length-map}
use Rattle.std.proofs.lemmas.Bool.{or_parts}
use Rattle.cl_types.specs.Types.{PlainType}
use Rattle.cl_values.proofs.Lists.{rest_of}
use Rattle.cl_sexpr.specs.declared.sexpr.Span.{Span}
use Rattle.cl_sexpr.specs.Tree.{Leaf}
use Rattle.cl_rules.specs.Context.{Context, Names}
use Rattle.cl_rules.specs.Verdicts.{Found}
use Rattle.cl_rules.specs.Shapes.{Plan, Ends, Part, Gives}
use Rattle.cl_rules.specs.Table.{shape}
use Rattle.cl_code.specs.declared.op.Op.{Op}
use Rattle.cl_code.specs.Nodes.{has_parts, versions_of}
use Rattle.cl_code.proofs.Versions.{has_goes}
use Rattle.cl_code.specs.Expression.{expression}
use Rattle.cl_code.specs.Typed.{Typed, TypedAs, typeds, expression_of}
use Rattle.cl_contracts.specs.Standing.{Stands, StandAll}
use Rattle.cl_forms.specs.Names.{is_one_of}
use Rattle.cl_forms.specs.Writes.{has_write}
use Rattle.cl_readonly.specs.Writing.{node_writes, AreFunctions}
use Rattle.cl_readonly.specs.Naming.{NamesUnknown, AllNameUnknown}
use Rattle.cl_readonly.proofs.WritesOfParts.{node_has}
use Rattle.cl_readonly.proofs.NodeNames.{node_named, all_named}

module _ (fs : List (List ℕ)) (is_public : Leaf → List ℕ → Bool) (G : Context) where
  abbrev pub any_of : List Typed → Bool
  any_of qs = list_any (has_write (is_one_of fs) is_public) (map expression_of qs)

  -- of parts that stand, those that are left decide
  abbrev pub LeftOf : List Typed → List Typed → Type 0
  LeftOf whole rest = (p : Plan) (gs : List Found) → StandAll G p (typeds whole) gs → (q : Plan) × (hs : List Found) × StandAll G q (typeds rest) hs × (any_of whole ≡ any_of rest) × (AllNameUnknown G rest → AllNameUnknown G whole)

  -- This tells whether a tree has a call that writes; where it has none, the tree names what it calls.
  abbrev pub Tells : Typed → Bool → Type 0
  Tells code b = (b ≡ has_write (is_one_of fs) is_public (expression_of code)) × (b ≡ false → NamesUnknown G (expression_of code))

  -- so it is whatever stands for the tree
  abbrev pub TellsOf : Typed → Bool → Type 0
  TellsOf code b = (B : Names) (f : Found) → Stands G B code f → Tells code b

  abbrev pub TellsAll : List Typed → Bool → Type 0
  TellsAll qs b = (b ≡ any_of qs) × (b ≡ false → AllNameUnknown G qs)

  pub none_gone : (whole : List Typed) → LeftOf whole whole
  none_gone whole p gs s = (p, gs, s, refl, λ all. all)

  -- the first part of those that are left
  first_tells : (q : Typed) (rest : List Typed) (b : Bool) (p : Plan) (gs : List Found) → TellsOf q b → StandAll G p (typeds (q ∷ rest)) gs → (r : Plan) × (hs : List Found) × StandAll G r (typeds rest) hs × Tells q b
  first_tells q rest b Ends gs tells s = absurd s
  first_tells q rest b (Part B e p) [] tells s = absurd s
  first_tells q rest b (Part B e p) (f ∷ gs) tells s = (p, gs, s.2, tells B f s.1)
  first_tells q rest b (Gives B e k) [] tells s = absurd s
  first_tells q rest b (Gives B e k) (f ∷ gs) tells s = (k f, gs, s.2, tells B f s.1)

  module _ (whole : List Typed) (i : ℕ) (q : Typed) (b : Bool) (lt : i < length whole) (at : get_or whole i q ≡ q) (tells : TellsOf q b) (left : LeftOf whole (drop i whole)) where
    pub one_gone : b ≡ false → LeftOf whole (drop (i + 1) whole)
    one_gone h p gs s =
        let here = left p gs s in
        let one = first_tells q (drop (i + 1) whole) b here.0 here.1 tells (subst (λ (qs : List Typed). StandAll G here.0 (typeds qs) here.1) (rest_of whole i q lt at) here.2) in (
          one.0,
          one.1,
          one.2,
          here.3 ∙ ap any_of (rest_of whole i q lt at) ∙ ap (λ c. c || any_of (drop (i + 1) whole)) (sym one.3.0 ∙ h),
          λ all. here.4 (subst (AllNameUnknown G) (sym (rest_of whole i q lt at)) (one.3.1 h, all)),
        )

    pub found_one : b ≡ true → (p : Plan) (gs : List Found) → StandAll G p (typeds whole) gs → TellsAll whole true
    found_one h p gs s =
        let here = left p gs s in
        let one = first_tells q (drop (i + 1) whole) b here.0 here.1 tells (subst (λ (qs : List Typed). StandAll G here.0 (typeds qs) here.1) (rest_of whole i q lt at) here.2) in (
          sym (here.3 ∙ ap any_of (rest_of whole i q lt at) ∙ ap (λ c. c || any_of (drop (i + 1) whole)) (sym one.3.0 ∙ h)),
          λ k. absurd (clash k),
        )
      where
        clash : true ≡ false → ⊥
        clash h = cc

  pub all_gone : (whole : List Typed) (i : ℕ) → length whole ≤ i → LeftOf whole (drop i whole) → (p : Plan) (gs : List Found) → StandAll G p (typeds whole) gs → TellsAll whole false
  all_gone whole i far left p gs s =
      let here = left p gs s in
      (sym (here.3 ∙ ap any_of (drop_all i whole far)), λ no. here.4 (subst (AllNameUnknown G) (sym (drop_all i whole far)) tt))

  -- a node, of which this tells what it calls by itself, and this what its parts do
  pub tree_tells : (B : Names) (f : Found) (op : Op) (qs : List Typed) (at : Span) (t : PlainType) (code : Typed) (mine inner : Bool) → AreFunctions G fs → has_parts op (length qs) ≡ true → TypedAs (expression op (map expression_of qs) at) t (versions_of op) (typeds qs) ≡ code → Stands G B code f →
      mine ≡ node_writes fs is_public op → ((p : Plan) (gs : List Found) → StandAll G p (typeds qs) gs → TellsAll qs inner) → Tells code (mine || inner)
  tree_tells B f op qs at t code mine inner own fit is stands mine_is inner_is =
      let s : Stands G B (TypedAs (expression op (map expression_of qs) at) t (versions_of op) (typeds qs)) f = subst (λ (q : Typed). Stands G B q f) (sym is) stands in
      let count : has_parts op (length (map expression_of qs)) ≡ true = ap (has_parts op) (length-map qs expression_of) ∙ fit in
      let inside = inner_is (shape G B (expression op (map expression_of qs) at)).plan s.0 s.2 in
      subst (λ (q : Typed). Tells q (mine || inner)) is (
        (λ i. mine_is i || inside.0 i) ∙ sym (node_has fs is_public G own B op (map expression_of qs) at (sym (has_goes G.version op) ∙ s.6) count s.1),
        λ k x none unknown.
            node_named x G none B op (map expression_of qs) at unknown (sym (has_goes G.version op) ∙ s.6) s.1 (all_named x G qs none unknown (inside.1 (or_parts mine inner k).1)),
      )

  -- a node that writes by itself
  pub tree_writes_here : (B : Names) (f : Found) (op : Op) (qs : List Typed) (at : Span) (t : PlainType) (code : Typed) → AreFunctions G fs → has_parts op (length qs) ≡ true → TypedAs (expression op (map expression_of qs) at) t (versions_of op) (typeds qs) ≡ code → Stands G B code f →
      true ≡ node_writes fs is_public op → Tells code true
  tree_writes_here B f op qs at t code own fit is stands here =
      let s : Stands G B (TypedAs (expression op (map expression_of qs) at) t (versions_of op) (typeds qs)) f = subst (λ (q : Typed). Stands G B q f) (sym is) stands in
      let count : has_parts op (length (map expression_of qs)) ≡ true = ap (has_parts op) (length-map qs expression_of) ∙ fit in (
        ap (λ b. b || any_of qs) here ∙ sym (node_has fs is_public G own B op (map expression_of qs) at (sym (has_goes G.version op) ∙ s.6) count s.1) ∙ ap (λ (q : Typed). has_write (is_one_of fs) is_public (expression_of q)) is,
        λ k. absurd (clash k),
      )
    where
      clash : true ≡ false → ⊥
      clash h = cc
