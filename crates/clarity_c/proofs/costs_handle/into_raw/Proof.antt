-- `into_raw` takes a handle apart. One that is open owns its box, and one that is closed nothing.
use Rattle.std.proofs.Common.{◌≡◌, List, [], ◌∷◌, ◌++◌, refl, sym, subst, ◌∙◌, Bool, true, false, Option, None, Some, lit<}
use seplogic.Ra.Ura.{Ura}
use mir.Raw.{raw as bare}
use mir.Val.{Val, vptr, vstruct, vcons, vnil, vbool, of_list, has_ty, WT}
use types.Match.{live}
use mir.Syntax.{impl, tnil, dnil, ty_ptr}
use lib.Dec.{T}
use base.Logic.{SProp, ent, emp, sep, id⊢, via, fst∗, never, never_e}
use base.Fml.{ftrue}
use prog.Memory.{Memory}
use prog.Routine.{Routine}
use prog.Wp.{Calls, Loops, WpFn}
use types.Logic.{Logic, sem}
use contract.Monad.{Fun, fact, fact_i}
use types.Kit.{Item, ⋆, use0, ‵, raw, ◌⊛◌, at_ret, ◌$◌, ◌∵◌, !, qed, by, move, keep, drop, split, fsplit, fjoin, fpick, feq_l, suffices, use1}
use types.Run.{stop, fld, of_opd, un, lit, no_more, and_then, first, branches, skips, exec, returns, returns_within, enter}
use types.ByLocal.{alloc_all, pass_all, free_all, look_at, get, get_in, sets, env}
use types.Part.{agg, sub, whole}
use contract.Running.{tables}
use denote.Exit.{yes}
use denote.Memory.{lone}
use denote.RattleType.{RattleType, owns}
use denote.RawPtr.{Ptr, block_ptr, null_ptr, ptr_val}
use denote.Signature.{types_at, plain}
use denote.Steps.{nothing}
use denote.Param.{layout}
use denote.Triple.Walked.{Stays, stay_dropped, Goes-dropped, walk_of}
use Rattle.core.proofs.alloc.Calls.{Al, handle_tells}
use Rattle.core.proofs.cell.Inside.{Good}
use Rattle.core.proofs.option.Made.{Some-of, none_of}
use Rattle.core.specs.contracts.option.Option as option
use Rattle.std.proofs.raw_atomic.Walks.{proved_at, leaves}
use Rattle.std_alloc.proofs.ResultValues.{and_tt}
use Rattle.std_heap.specs.contracts.Global as heap
use Rattle.std_heap.proofs.Global.TheLaws as heap-laws
use Rattle.std.specs.contracts.impls.GlobalAllocator.TheImpl.{ghosts}
use Rattle.cl_handle.proofs.Values.{both, RawBox, raw_good, raw_in}
use Rattle.clarity_c.specs.Owned.{owned_table as owned, token}
use Rattle.cl_costs.specs.contracts.table.CostTable as table
use Rattle.clarity_c.specs.contracts.costs_handle.ClarityCosts as handle
use Rattle.clarity_c.specs.contracts.costs_handle.into_raw as f
use Rattle.clarity_c.proofs.costs_handle.into_raw.Statement.{statement}
use Rattle.clarity_c.proofs.costs_handle.into_raw.Code as code

abbrev K : RattleType
K = table.the_row

abbrev Z : RattleType
Z = heap.the_row

abbrev L : RattleType
L = RawBox K Z heap-laws.the_row_laws ghosts

abbrev Out : RattleType
Out = option.the_row L

abbrev al : Al
al = record { row = Z; laws = heap-laws.the_row_laws; g = ghosts; d = impl [] tnil dnil; drops = impl [] tnil dnil }

abbrev stayed : Stays f.ended.signature.params f.ended.kept
stayed = (stay_dropped (plain (λ _. Z)) yes, (stay_dropped (plain (λ _. handle.the_row)) yes, tt))

module _ {M : Type 1} {𝓤 : Ura M} (𝓛 : Logic 𝓤) (at_mem : Memory → SProp 𝓤) (run : Routine → Fun 𝓤) (C : Calls 𝓤 𝓛.H) (Λ : Loops 𝓤 𝓛.H)
    (a : Z.Denot) (hv : Val) (fits : Good (layout Z) hv) (us vs : List Val) where
  abbrev y : Bool → Ptr → Option K.Denot → (walk_of 𝓛 f.ended stayed (f.clauses 𝓛 at_mem run)).Ghost
  y t p k = ((tt, tt, tt, (a, (record { at = p; is_open = t; kept = k }, tt)), (us, (vs, tt))), tt)

  abbrev Has : Bool → Ptr → Option K.Denot → List (Item 𝓤)
  Has t p k = ‵ (owned t p k) ∷ ‵ (Z.own_val a (hv ∷ [])) ∷ ‵ ftrue ∷ []

  abbrev Runs : Bool → Ptr → Option K.Denot → SProp 𝓤
  Runs t p k = WpFn 𝓤 𝓛.H C Λ code.function (hv ∷ both (ptr_val p) (vbool t) ∷ []) ((walk_of 𝓛 f.ended stayed (f.clauses 𝓛 at_mem run)).post (y t p k))

  opened : (b o : _) (x : K.Denot) → ent 𝓤 (⋆ 𝓛 (Has true (block_ptr b o) (Some x))) (Runs true (block_ptr b o) (Some x))
  opened b o x =
      let l : L.Denot = record { at = block_ptr b o; alloc = a; value = x } in let w : Val = both (vptr b o) hv in let v : Val = live 1 (vcons w vnil) in let good = raw_good K Z heap-laws.the_row_laws ghosts b o hv fits in
      qed 𝓛 (Has true (block_ptr b o) (Some x)) ∵ enter ! C Λ code.function (hv ∷ both (vptr b o) (vbool true) ∷ []) _ $ alloc_all ! (λ ls. pass_all ! refl (fits, ((tt, (tt, (tt, tt))), tt)) $
      sets ! (of_opd ! (get_in ! (fld ! refl (stop !)) (sub ! 0 refl (whole !)))) refl (tt, tt) $ sets ! (of_opd ! (get_in ! (fld ! refl (stop !)) (sub ! 1 refl (whole !)))) refl (tt, tt) $
      sets ! (un ! (get ! refl) tt) refl (tt, tt) $ first ! $ branches ! (get ! refl) (λ wrong. absurd wrong) (λ _. skips ! $ exec ! C Λ (env code.Mir.locals ls) code.Mir.t-5 (at_ret _ ((walk_of 𝓛 f.ended stayed (f.clauses 𝓛 at_mem run)).post (y true (block_ptr b o) (Some x)))) $
      sets ! (of_opd ! (get ! refl)) refl (tt, tt) $ sets ! (agg ! (and_then ! (get ! refl) (and_then ! (get ! refl) (no_more !)))) refl good $
      sets ! (agg ! (and_then ! (lit ! tt) (and_then ! (get ! refl) (no_more !)))) refl (and_tt _ good.0, (record { fits = lit< tt }, (good.1, tt))) $
      returns ! (look_at ! 0 refl) $ free_all ! refl $ raw_in K Z heap-laws.the_row_laws ghosts ! b o hv a x $
      use1 𝓛 (‵ (Out.own_val (Some l) (v ∷ []))) (Some-of 𝓛 L l w) $
      use0 𝓛 (raw (fact 𝓤 (Some x ≡ Some x))) (fact_i 𝓤 (Some x ≡ Some x) (emp 𝓤) refl) $ nothing ! $ nothing ! $ fjoin ! $ nothing ! $ fjoin ! $
      keep ! (3 ∷ 0 ∷ 2 ∷ 1 ∷ []) $ by ! (leaves 𝓛 f.ended stayed (f.clauses 𝓛 at_mem run) (y true (block_ptr b o) (Some x)) v (Some l) (tt, (tt, tt)) (tt, (tt, tt)))))

  ptr_good : (p : Ptr) → T (has_ty ty_ptr (ptr_val p)) × WT (ptr_val p)
  ptr_good null_ptr = (tt, record { fits = lit< tt })
  ptr_good (block_ptr b o) = (tt, tt)

  shut : (p : Ptr) → ent 𝓤 (⋆ 𝓛 (Has false p None)) (Runs false p None)
  shut p =
      let good = ptr_good p in let no : Option K.Denot = None in
      qed 𝓛 (Has false p None) ∵ enter ! C Λ code.function (hv ∷ both (ptr_val p) (vbool false) ∷ []) _ $ alloc_all ! (λ ls. pass_all ! refl (fits, ((and_tt _ good.0, (good.1, (tt, tt))), tt)) $
      sets ! (of_opd ! (get_in ! (fld ! refl (stop !)) (sub ! 0 refl (whole !)))) refl good $ sets ! (of_opd ! (get_in ! (fld ! refl (stop !)) (sub ! 1 refl (whole !)))) refl (tt, tt) $
      sets ! (un ! (get ! refl) tt) refl (tt, tt) $ first ! $ branches ! (get ! refl) (λ _.
      sets ! (agg ! (and_then ! (lit ! tt) (no_more !))) refl (tt, (record { fits = lit< tt }, tt)) $
      returns_within ! ((walk_of 𝓛 f.ended stayed (f.clauses 𝓛 at_mem run)).post (y false p None)) refl (look_at ! 0 refl) $ free_all ! refl $
      use0 𝓛 (‵ (Out.own_val None (live 0 vnil ∷ []))) (none_of 𝓛 L) $
      use0 𝓛 (raw (fact 𝓤 (no ≡ no))) (fact_i 𝓤 (no ≡ no) (emp 𝓤) refl) $ nothing ! $ nothing ! $ fjoin ! $ nothing ! $ fjoin ! $
      -- [what is left of the parameters; the fact; the result; nothing; the handle; the tokens]
      keep ! (3 ∷ 0 ∷ 2 ∷ 1 ∷ []) $ by ! (leaves 𝓛 f.ended stayed (f.clauses 𝓛 at_mem run) (y false p None) (live 0 vnil) None (tt, (tt, tt)) (tt, (tt, tt)))) (λ wrong. absurd wrong))

  abbrev Rest : SProp 𝓤
  Rest = sep 𝓤 (sem 𝓛 (Z.own_val a (hv ∷ []))) (sem 𝓛 ftrue)

  stage : (t : Bool) (p : Ptr) (k : Option K.Denot) → ent 𝓤 (⋆ 𝓛 (Has t p k)) (Runs t p k)
  stage true (block_ptr b o) (Some x) = opened b o x
  stage true null_ptr (Some x) =
      via 𝓤 (sem 𝓛 (owned true null_ptr (Some x))) (fst∗ 𝓤 (sem 𝓛 (owned true null_ptr (Some x))) Rest) (via 𝓤 (never 𝓤) (fst∗ 𝓤 (never 𝓤) (sem 𝓛 (token (bare (lone K.mir)) null_ptr))) (never_e 𝓤 _))
  stage true p None = via 𝓤 (never 𝓤) (fst∗ 𝓤 (never 𝓤) Rest) (never_e 𝓤 _)
  stage false p (Some x) = via 𝓤 (never 𝓤) (fst∗ 𝓤 (never 𝓤) Rest) (never_e 𝓤 _)
  stage false p None = shut p

pub into_raw_spec : {M : Type 1} → statement M
into_raw_spec 𝓤 𝓛 𝓜 𝓡 wired =
    let c = f.clauses 𝓛 𝓜.mem 𝓡.returns in let 𝓣 = tables 𝓤 𝓛.H 𝓜 𝓡 𝓡.env in
    proved_at 𝓛 f.ended stayed c 𝓜 𝓡 (Goes-dropped 𝓛 0 (plain (λ _. Z)) yes (λ κs x f. refl), (Goes-dropped 𝓛 0 (plain (λ _. handle.the_row)) yes (λ κs x f. refl), tt)) f.Key.name code.function (code.unfolded 𝓤 𝓛.H 𝓜 𝓡 wired) (λ z are.
    let a = z.0.3.0 in let hd = z.0.3.1.0 in let Post = (walk_of 𝓛 f.ended stayed c).post z in let Run : List Val → SProp 𝓤 = λ ws. WpFn 𝓤 𝓛.H 𝓣.C 𝓣.Λ code.function ws Post in
    qed 𝓛 ((‵ ftrue ⊛ ‵ (owns (types_at f.ended.signature.params z.0.0) z.0.3 z.0.4)) ∷ ‵ ftrue ∷ []) ∵ split ! $ move ! (1 ∷ []) $ fsplit ! $ handle_tells al ! a z.0.4.0 (λ hv ea fits.
    move ! (1 ∷ []) $ fsplit ! $ fsplit ! $ fpick ! (λ vss. fsplit ! $ feq_l ! (λ ev. fsplit ! $ feq_l ! (λ ep. fsplit ! $ feq_l ! (λ eb. drop ! $
    -- [what it owns; nothing; the allocator; the tokens; nothing]
    let w : Val = both (ptr_val hd.at) (vbool hd.is_open) in let ew : z.0.4.1.0 ≡ w ∷ [] = ev ∙ (λ j. vstruct (of_list (ep j ++ (eb j ++ []))) ∷ []) in
    suffices ! (Run (hv ∷ w ∷ [])) (subst (λ (us : List Val). ent 𝓤 (Run (hv ∷ w ∷ [])) (Run us)) (sym (λ i. ea i ++ (ew i ++ []))) (id⊢ 𝓤 (Run (hv ∷ w ∷ [])))) $
    keep ! (0 ∷ 2 ∷ 3 ∷ []) $ by ! (stage 𝓛 𝓜.mem 𝓡.returns 𝓣.C 𝓣.Λ a hv fits z.0.4.0 z.0.4.1.0 hd.is_open hd.at hd.kept)))))))
