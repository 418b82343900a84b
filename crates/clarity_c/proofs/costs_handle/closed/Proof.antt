-- `closed` makes a handle that owns nothing.
use Rattle.std.proofs.Common.{◌≡◌, List, [], ◌∷◌, refl, false, None, lit<}
use mir.Val.{Val, vstruct, vcons, vnil, vbool}
use base.Logic.{emp, id⊢}
use base.Fml.{ftrue}
use contract.Monad.{fact, fact_i}
use types.Kit.{use0, ‵, raw, ◌⊛◌, ◌$◌, ◌∵◌, !, qed, by, keep, split, fjoin, use1, feq_i, fpack}
use types.Run.{no_more, and_then, returns, enter, lit, false_lit}
use types.ByLocal.{alloc_all, pass_all, free_all, look_at, sets}
use types.Part.{agg}
use contract.Running.{tables}
use denote.RattleType.{Valss}
use denote.Builtin.{RawPtr, bool}
use denote.RawPtr.{null_ptr, ptr_val}
use denote.Steps.{nothing}
use denote.Struct.Struct.{within}
use denote.Struct.Owning.{shape}
use denote.Triple.Entry.{on_entry}
use Rattle.std.proofs.raw_atomic.Walks.{proved_at, leaves}
use Rattle.clarity_c.specs.contracts.costs_handle.ClarityCosts as handle
use Rattle.clarity_c.specs.contracts.costs_handle.closed as f
use Rattle.clarity_c.proofs.costs_handle.closed.Statement.{statement}
use Rattle.clarity_c.proofs.costs_handle.closed.Code as code

pub closed_spec : {M : Type 1} → statement M
closed_spec 𝓤 𝓛 𝓜 𝓡 wired =
    let c = f.clauses 𝓛 𝓜.mem 𝓡.returns in let 𝓣 = tables 𝓤 𝓛.H 𝓜 𝓡 𝓡.env in
    let d : (handle.the_row).Denot = record { at = null_ptr; is_open = false; kept = None } in
    let v : Val = vstruct (vcons (ptr_val null_ptr) (vcons (vbool false) vnil)) in
    proved_at 𝓛 f.ended tt c 𝓜 𝓡 tt f.Key.name code.function (code.unfolded 𝓤 𝓛.H 𝓜 𝓡 wired) (λ z are.
    qed 𝓛 (raw (on_entry 𝓛 f.signature z.0.0 z.0.1 z.0.3 z.0.4) ∷ ‵ ftrue ∷ []) ∵ use1 𝓛 (‵ ftrue ⊛ ‵ ftrue) (id⊢ 𝓤 _) $ split ! $
    enter ! _ _ _ _ _ $ alloc_all ! (λ l. pass_all ! refl tt $
    sets ! (agg ! (and_then ! (lit ! tt) (and_then ! (false_lit !) (no_more !)))) refl (tt, (record { fits = lit< tt }, (tt, tt))) $
    returns ! (look_at ! 0 refl) $ free_all ! refl $
    nothing ! $ nothing ! $ feq_i ! (List Val) (vbool false ∷ []) (vbool false ∷ []) refl $ fjoin ! $ feq_i ! (List Val) (ptr_val null_ptr ∷ []) (ptr_val null_ptr ∷ []) refl $ fjoin ! $
    feq_i ! (List Val) (v ∷ []) (v ∷ []) refl $ fjoin ! $
    fpack ! (Valss (RawPtr ∷ bool ∷ [])) (within (shape handle.the_type) (null_ptr, (false, tt)) (v ∷ [])) (ptr_val null_ptr ∷ [], (vbool false ∷ [], tt)) $ fjoin ! $
    use0 𝓛 (raw (fact 𝓤 (d.kept ≡ None))) (fact_i 𝓤 (d.kept ≡ None) (emp 𝓤) refl) $
    keep ! (2 ∷ 3 ∷ 1 ∷ 0 ∷ []) $ by ! (leaves 𝓛 f.ended tt c z v d tt tt)))
