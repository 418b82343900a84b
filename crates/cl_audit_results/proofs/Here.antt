-- One entry, audited where it stands.
use Rattle.std.proofs.Common.{◌≡◌, ℕ, suc, ◌+◌, ◌<◌, ◌≤◌, Bool, true, false, List, [], ◌∷◌, length, get_or, Ok, Err, IfOk, sym, ap, subst, ◌∙◌, arith}
use Rattle.std.specs.Prelude.{Result}
use Rattle.cl_costs.specs.Schedules.{ScheduleSeen}
use Rattle.cl_meaning.specs.Trace.{Claim as Told}
use Rattle.cl_file.specs.declared.entry.Entry.{Entry}
use Rattle.cl_tx.specs.declared.outcome.TxResult.{TxResult}
use Rattle.cl_nodes.specs.Seen.{Seen}
use Rattle.cl_audit_walk.specs.declared.cursor.Claim.{Claim}
use Rattle.cl_audit_walk.specs.Looking.{is_claim}
use Rattle.cl_audit.specs.declared.trace.Trace.{Trace}
use Rattle.cl_audit.specs.Agrees.{DiffersBehind, FirstDifference}
use Rattle.cl_audit_results.specs.Turns.{IsAudited, IsAuditedAt}
use Rattle.cl_audit_results.proofs.Taken.{items_same}

behind_within : (b : Bool) (n m : ℕ) (Rest : ℕ → Type 0) → DiffersBehind b n Rest → ((k : ℕ) → Rest k → k ≤ m) → n ≤ suc m
behind_within false n m Rest d each =
    let zero_is : n ≡ 0 = d in
    omega (arith, zero_is)
behind_within true n m Rest d each =
    let is : n ≡ d.0 + 1 = d.1 in
    let rest : d.0 ≤ m = each d.0 d.2 in
    omega (arith, is, rest)

-- claims differ at one of them or behind all
pub difference_within : (ts : List Told) (cs : List Claim) (n : ℕ) → FirstDifference ts cs n → n ≤ length cs
difference_within [] [] n d = absurd d
difference_within [] (c ∷ cs) n d =
    let is : n ≡ 0 = d in
    omega (arith, is)
difference_within (t ∷ ts) [] n d =
    let is : n ≡ 0 = d in
    omega (arith, is)
difference_within (t ∷ ts) (c ∷ cs) n d = behind_within (is_claim t.span t.value c) n (length cs) (FirstDifference ts cs) d (difference_within ts cs)

-- what is so of the entry and the trace that stand there
pub audited_here : {E : Type 0} (r : Result TxResult E) (schedule : ScheduleSeen) (before : Seen) (entries : List Entry) (traces : List Trace) (at : ℕ) (after : Seen) (e : Entry) (t : Trace) → at < length entries → at < length traces → e ≡ get_or entries at e → t ≡ get_or traces at t
    → IfOk r (λ given. IsAudited schedule before e t.claims.items given after) → IfOk r (λ given. IsAuditedAt schedule before entries traces at given after)
audited_here (Ok given) schedule before entries traces at after e t here there e_is t_is audited = λ f u f_is u_is.
    subst (λ (p : Entry × Trace). IsAudited schedule before p.0 p.1.claims.items given after)
    (λ i. (items_same entries at e f here e_is f_is i, items_same traces at t u there t_is u_is i)) audited
audited_here (Err why) schedule before entries traces at after e t here there e_is t_is audited = tt
