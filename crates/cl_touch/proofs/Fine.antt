-- Expressions whose uses are fine. A predicate says which uses are fine.
use Rattle.std.proofs.Common.{List, [], ◌∷◌, ◌++◌}
use Rattle.cl_c32.specs.declared.principal.Principal.{Principal}
use Rattle.cl_sexpr.specs.Tree.{Tree, LeafAt, ListAt, TupleAt, Named, Forest, Empty, Then, Pairs, NoPair, Pair}
use Rattle.cl_touch.specs.Uses.{Use, Natives, Way, Plain, AtBindings, AtPairs, way_of, uses_of_call, uses_in, uses_of_list, uses_behind, uses_of_pair, uses_of_bindings, uses_of_pairs}

module _ (Fine : Use → Type 0) where
  abbrev pub AllFine : List Use → Type 0
  AllFine [] = Unit {0}
  AllFine (u ∷ us) = Fine u × AllFine us

  all_front : (us vs : List Use) → AllFine (us ++ vs) → AllFine us
  all_front [] vs h = tt
  all_front (u ∷ us) vs h = (h.0, all_front us vs h.1)

  all_back : (us vs : List Use) → AllFine (us ++ vs) → AllFine vs
  all_back [] vs h = h
  all_back (u ∷ us) vs h = all_back us vs h.1

  module _ (natives : Natives) (p : Principal) where
    abbrev mutual
      pub IsFine : Tree → Type 0
      IsFine (LeafAt leaf at) = Unit {0}
      IsFine (ListAt items at) = IsFineList items
      IsFine (TupleAt ps at) = AreFinePairs ps

      pub IsFineList : Forest → Type 0
      IsFineList (Then (LeafAt (Named x) at) es) = AllFine (uses_of_call natives p (natives x) x es) × AreFineBehind (way_of (natives x)) es
      IsFineList es = Unit {0}

      pub AreFineBehind : Way → Forest → Type 0
      AreFineBehind way Empty = Unit {0}
      AreFineBehind Plain (Then e es) = IsFine e × AreFineBehind Plain es
      AreFineBehind AtBindings (Then e es) = AreFineBindings e × AreFineBehind Plain es
      AreFineBehind AtPairs (Then e es) = IsFinePair e × AreFineBehind AtPairs es

      pub IsFinePair : Tree → Type 0
      IsFinePair (ListAt (Then (LeafAt (Named k) at) (Then e Empty)) at') = IsFine e
      IsFinePair e = Unit {0}

      pub AreFineBindings : Tree → Type 0
      AreFineBindings (ListAt bs at) = AreFineBehind AtPairs bs
      AreFineBindings e = Unit {0}

      pub AreFinePairs : Pairs → Type 0
      AreFinePairs NoPair = Unit {0}
      AreFinePairs (Pair k e ps) = IsFine e × AreFinePairs ps

    abbrev pub EachFine : List Tree → Type 0
    EachFine [] = Unit {0}
    EachFine (e ∷ es) = IsFine e × EachFine es

    abbrev pub EachFinePair : List Tree → Type 0
    EachFinePair [] = Unit {0}
    EachFinePair (e ∷ es) = IsFinePair e × EachFinePair es

    -- ---- from the list of all uses

    mutual
      pub fine_tree : (e : Tree) → AllFine (uses_in natives p e) → IsFine e
      fine_tree (LeafAt leaf at) h = tt
      fine_tree (ListAt items at) h = fine_list items h
      fine_tree (TupleAt ps at) h = fine_pairs ps h

      fine_list : (items : Forest) → AllFine (uses_of_list natives p items) → IsFineList items
      fine_list (Then (LeafAt (Named x) at) es) h =
          (all_front (uses_of_call natives p (natives x) x es) (uses_behind natives p (way_of (natives x)) es) h, fine_behind (way_of (natives x)) es (all_back (uses_of_call natives p (natives x) x es) (uses_behind natives p (way_of (natives x)) es) h))
      fine_list es h = tt

      fine_behind : (way : Way) (es : Forest) → AllFine (uses_behind natives p way es) → AreFineBehind way es
      fine_behind way Empty h = tt
      fine_behind Plain (Then e es) h = (fine_tree e (all_front (uses_in natives p e) (uses_behind natives p Plain es) h), fine_behind Plain es (all_back (uses_in natives p e) (uses_behind natives p Plain es) h))
      fine_behind AtBindings (Then e es) h = (fine_bindings e (all_front (uses_of_bindings natives p e) (uses_behind natives p Plain es) h), fine_behind Plain es (all_back (uses_of_bindings natives p e) (uses_behind natives p Plain es) h))
      fine_behind AtPairs (Then e es) h = (fine_pair e (all_front (uses_of_pair natives p e) (uses_behind natives p AtPairs es) h), fine_behind AtPairs es (all_back (uses_of_pair natives p e) (uses_behind natives p AtPairs es) h))

      fine_pair : (e : Tree) → AllFine (uses_of_pair natives p e) → IsFinePair e
      fine_pair (ListAt (Then (LeafAt (Named k) at) (Then e Empty)) at') h = fine_tree e h
      fine_pair e h = tt

      fine_bindings : (e : Tree) → AllFine (uses_of_bindings natives p e) → AreFineBindings e
      fine_bindings (ListAt bs at) h = fine_behind AtPairs bs h
      fine_bindings (LeafAt leaf at) h = tt
      fine_bindings (TupleAt ps at) h = tt

      fine_pairs : (ps : Pairs) → AllFine (uses_of_pairs natives p ps) → AreFinePairs ps
      fine_pairs NoPair h = tt
      fine_pairs (Pair k e ps) h = (fine_tree e (all_front (uses_in natives p e) (uses_of_pairs natives p ps) h), fine_pairs ps (all_back (uses_in natives p e) (uses_of_pairs natives p ps) h))
