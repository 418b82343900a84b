-- Rows of sequences.
use Rattle.std.proofs.Common.{◌≡◌, ℕ, ◌+◌, Result, sym, ap, subst, ◌∙◌}
use Rattle.cl_types.specs.Types.{PlainType, ListType}
use Rattle.cl_types.specs.TypeKinds.{entry_of}
use Rattle.cl_types.specs.Lattice.{least_supertype}
use Rattle.cl_types.specs.declared.fault.Fault.{Fault}
use Rattle.cl_sexpr.specs.declared.rule.Rule.{Rule}
use Rattle.cl_rules.specs.NativeTypes.{and_lub, made, append_row, concat_row}
use Rattle.cl_typing.specs.Verdicts.{Rules}

list_at : (a b u : PlainType) (m n : ℕ) (r : Result PlainType (Fault Rule)) → a ≡ b → m ≡ n → Rules (and_lub (least_supertype a u) (λ c. made (ListType m c))) r → Rules (and_lub (least_supertype b u) (λ c. made (ListType n c))) r
list_at a b u m n r same count h =
    subst (λ (k : ℕ). Rules (and_lub (least_supertype b u) (λ c. made (ListType k c))) r) count (subst (λ (x : PlainType). Rules (and_lub (least_supertype x u) (λ c. made (ListType m c))) r) same h)

pub appended : (n : ℕ) (part t u e : PlainType) (m : ℕ) (r : Result PlainType (Fault Rule)) → ListType n part ≡ t → e ≡ entry_of t → m ≡ n + 1 → Rules (and_lub (least_supertype e u) (λ c. made (ListType m c))) r → Rules (append_row t u) r
appended n part t u e m r is entry count h =
    subst (λ (s : PlainType). Rules (append_row s u) r) is (list_at e part u m (n + 1) r (entry ∙ ap entry_of (sym is)) count h)

pub joined_lists : (m n : ℕ) (part other t u d e : PlainType) (k : ℕ) (r : Result PlainType (Fault Rule)) → ListType m part ≡ t → ListType n other ≡ u → d ≡ entry_of t → e ≡ entry_of u → k ≡ m + n → Rules (and_lub (least_supertype d e) (λ c. made (ListType k c))) r → Rules (concat_row t u) r
joined_lists m n part other t u d e k r is also first second count h =
    subst (λ (s : PlainType). Rules (concat_row s u) r) is (subst (λ (s : PlainType). Rules (concat_row (ListType m part) s) r) also
    (list_at d part other k (m + n) r (first ∙ ap entry_of (sym is)) count (subst (λ (x : PlainType). Rules (and_lub (least_supertype d x) (λ c. made (ListType k c))) r) (second ∙ ap entry_of (sym also)) h)))
