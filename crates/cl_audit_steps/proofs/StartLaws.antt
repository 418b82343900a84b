-- The first steps of nodes.
use Rattle.std.proofs.Common.{◌≡◌, ℕ, List, [], ◌∷◌, Some, None, Result, refl, sym, ap, ◌∙◌, subst, Vec, Global}
use Rattle.std.specs.Prelude.{ℤ}
use Rattle.std.specs.Borrow.{Bor}
use Rattle.cl_c32.specs.declared.principal.Principal.{Principal}
use Rattle.cl_shapes.specs.declared.name.CostName.{CostName}
use Rattle.cl_shapes.specs.declared.name.CostName.TheVariants.{Literal}
use Rattle.cl_sexpr.specs.declared.sexpr.Span.{Span}
use Rattle.cl_sexpr.specs.declared.sexpr.Node.{Node}
use Rattle.cl_sexpr.specs.declared.sexpr.Node.TheVariants as nodes
use Rattle.cl_sexpr.specs.Tree.{Tree, LeafAt, ListAt, Named, forest, pairs}
use Rattle.cl_sexpr.specs.View.{tree_of}
use Rattle.cl_values.specs.declared.native.Native.{Native}
use Rattle.cl_values.specs.Tree.{Tree as Val, IntV, UintV, BuffV, AsciiV, Utf8V, PrincipalV}
use Rattle.cl_values.specs.Valid.{made}
use Rattle.cl_forms.specs.declared.head.Head.{Head}
use Rattle.cl_forms.specs.Heads.{Row}
use Rattle.cl_forms.specs.Shapes.{trees_of, pairs_of, beside}
use Rattle.cl_events.specs.State.{State}
use Rattle.cl_meaning.specs.Answers.{wrong, and_then}
use Rattle.cl_meaning.specs.Calls.{call_form}
use Rattle.cl_meaning.specs.Deployed.{native_of}
use Rattle.cl_meaning.specs.Meaning.{head_form, operator, node}
use Rattle.cl_meaning.specs.Names.{standing, literal, name_form, leaf_form}
use Rattle.cl_meaning.specs.Scope.{Scope, Take, Enter, home, parts}
use Rattle.cl_meaning.specs.Values.{on_values, strict_form, tuple_form}
use Rattle.cl_audit_steps.specs.declared.step.OnAll.TheVariants as all
use Rattle.cl_audit_steps.specs.declared.step.Start.{Start}
use Rattle.cl_audit_steps.specs.Items.{headed}
use Rattle.cl_audit_steps.specs.Lists.{listed, list_form}
use Rattle.cl_audit_steps.specs.Steps.{behind, on_all, IsStart, StartsSo}

pub strict_is : (n : Native) (cost : CostName) (es : List Tree) (take : Take) (S : Scope) (s : State) → strict_form n cost take S es s ≡ behind None (and_then (parts take S es s) (on_values n cost))
unfolding strict_form behind
strict_is n cost es take S s = refl

pub trees_again : (es : List Tree) → trees_of (forest es) ≡ es
trees_again [] = refl
trees_again (e ∷ es) = ap (λ fs. e ∷ fs) (trees_again es)

pub list_is : (es : List Tree) (at : Span) (take : Take) (enter : Enter) (S : Scope) (s : State) → node take enter S (ListAt (forest es) at) s ≡ list_form take enter S es s
unfolding node
list_is [] at take enter S s = refl
list_is (LeafAt (Named x) at' ∷ es) at take enter S s = ap (λ fs. operator (native_of x (home S)) x take enter S fs s) (trees_again es)
list_is (LeafAt l at' ∷ es) at take enter S s = refl
list_is (e ∷ es) at take enter S s = refl

pub not_listed : (es : List Tree) (take : Take) (enter : Enter) (S : Scope) (s : State) → None ≡ headed es → list_form take enter S es s ≡ wrong s
not_listed es take enter S s h = sym (ap (λ o. listed take enter S o s) h)

pub native_listed : (es fs : List Tree) (x : List ℕ) (r : Row) (take : Take) (enter : Enter) (S : Scope) (s : State) → Some (x, fs) ≡ headed es → Some r ≡ native_of x (home S) → list_form take enter S es s ≡ head_form r.head r.cost take enter S fs s
native_listed es fs x r take enter S s found is = sym (ap (λ o. listed take enter S o s) found) ∙ sym (ap (λ o. operator o x take enter S fs s) is)

pub call_listed : (es fs : List Tree) (x : List ℕ) (take : Take) (enter : Enter) (S : Scope) (s : State) → Some (x, fs) ≡ headed es → None ≡ native_of x (home S) → list_form take enter S es s ≡ call_form x take enter S fs s
call_listed es fs x take enter S s found is = sym (ap (λ o. listed take enter S o s) found) ∙ sym (ap (λ o. operator o x take enter S fs s) is)

pub at_head : {E : Type 0} (S : Scope) (cost : CostName) (es : List Tree) (h k : Head) (r : Result Start E) → h ≡ k → IsStart S (λ take enter s. head_form k cost take enter S es s) r → IsStart S (λ take enter s. head_form h cost take enter S es s) r
at_head S cost es h k r same is = subst (λ i. IsStart S (λ take enter s. head_form i cost take enter S es s) r) (sym same) is

pub starts_head : (S : Scope) (cost : CostName) (es : List Tree) (h k : Head) (b : Start) → h ≡ k → StartsSo S (λ take enter s. head_form k cost take enter S es s) b → StartsSo S (λ take enter s. head_form h cost take enter S es s) b
starts_head S cost es h k b same is = subst (λ i. StartsSo S (λ take enter s. head_form i cost take enter S es s) b) (sym same) is

pub call_is : (x : Bor (List ℕ)) (es : List Tree) (take : Take) (enter : Enter) (S : Scope) (s : State) → call_form x.now take enter S es s ≡ behind None (and_then (parts take S es s) (on_all enter S (all.Call x)))
unfolding call_form behind
call_is x es take enter S s = refl

-- ---- items

pub pairs_again : (ps : List (List ℕ × Tree)) → pairs_of (pairs ps) ≡ ps
pairs_again [] = refl
pairs_again (p ∷ ps) = ap (λ qs. p ∷ qs) (pairs_again ps)

module _ (take : Take) (enter : Enter) (S : Scope) (s : State) (n : Node) (at : Span) (e : Tree) (view : tree_of n at ≡ e) where
  at_node : (m : Node) → n ≡ m → node take enter S e s ≡ node take enter S (tree_of m at) s
  at_node m is = sym (ap (λ t. node take enter S t s) view) ∙ ap (λ m. node take enter S (tree_of m at) s) is

  pub int_is : (z : ℤ) (v : Val) → n ≡ nodes.Int z → v ≡ IntV z → node take enter S e s ≡ standing Literal v s
  unfolding node leaf_form
  int_is z v is same = at_node (nodes.Int z) is ∙ sym (ap (λ w. standing Literal w s) same)

  pub uint_is : (z : ℕ) (v : Val) → n ≡ nodes.Uint z → v ≡ UintV z → node take enter S e s ≡ standing Literal v s
  unfolding node leaf_form
  uint_is z v is same = at_node (nodes.Uint z) is ∙ sym (ap (λ w. standing Literal w s) same)

  pub buff_is : (v : Vec ℕ Global) (bytes : List ℕ) → n ≡ nodes.Buff v → bytes ≡ v.items → node take enter S e s ≡ literal (made (BuffV bytes)) s
  unfolding node leaf_form
  buff_is v bytes is same = at_node (nodes.Buff v) is ∙ sym (ap (λ b. literal (made (BuffV b)) s) same)

  pub ascii_is : (v : Vec ℕ Global) (bytes : List ℕ) → n ≡ nodes.Ascii v → bytes ≡ v.items → node take enter S e s ≡ literal (made (AsciiV bytes)) s
  unfolding node leaf_form
  ascii_is v bytes is same = at_node (nodes.Ascii v) is ∙ sym (ap (λ b. literal (made (AsciiV b)) s) same)

  pub utf8_is : (v : Vec ℕ Global) (text : List ℕ) → n ≡ nodes.Utf8 v → text ≡ v.items → node take enter S e s ≡ literal (made (Utf8V text)) s
  unfolding node leaf_form
  utf8_is v text is same = at_node (nodes.Utf8 v) is ∙ sym (ap (λ b. literal (made (Utf8V b)) s) same)

  pub principal_is : (p : Principal) → n ≡ nodes.Standing p → node take enter S e s ≡ standing Literal (PrincipalV p) s
  unfolding node leaf_form
  principal_is p is = at_node (nodes.Standing p) is

  pub local_is : (x : List ℕ) → n ≡ nodes.Local x → node take enter S e s ≡ standing Literal (PrincipalV (beside S.frame.contract x)) s
  unfolding node leaf_form
  local_is x is = at_node (nodes.Local x) is

  pub items_are : (v : Vec Tree Global) (es : List Tree) → n ≡ nodes.List v → es ≡ v.items → node take enter S e s ≡ list_form take enter S es s
  items_are v es is same = at_node (nodes.List v) is ∙ list_is v.items at take enter S s ∙ sym (ap (λ fs. list_form take enter S fs s) same)

  pub pairs_are : (v : Vec (List ℕ × Tree) Global) (ps : List (List ℕ × Tree)) → n ≡ nodes.Tuple v → ps ≡ v.items → node take enter S e s ≡ tuple_form take S ps s
  unfolding node
  pairs_are v ps is same = at_node (nodes.Tuple v) is ∙ ap (λ qs. tuple_form take S qs s) (pairs_again v.items) ∙ sym (ap (λ qs. tuple_form take S qs s) same)

  pub atom_is : (x : List ℕ) → n ≡ nodes.Atom x → node take enter S e s ≡ name_form S x s
  unfolding node leaf_form
  atom_is x is = at_node (nodes.Atom x) is
