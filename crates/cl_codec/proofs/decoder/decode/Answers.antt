use Rattle.std.proofs.Common.{◌≡◌, arith, ap, sym, ◌∙◌}
use Rattle.std.specs.Prelude.{Result, Ok, Err}
use Rattle.cl_values.specs.declared.refusal.ValueRefusal.{ValueRefusal}
use Rattle.cl_values.specs.Tree.{Tree}
use Rattle.cl_codec.proofs.Levels.{Decodes, whole_input}
use Rattle.cl_codec.proofs.decoder.decode.Goals as goal

pub make-requires : goal.make-requires
make-requires c =
    let d : Decodes c.args.bytes.now c.in-Ok.value = whole_input c.reads_only_spellings.ensures.within c.args.bytes.now c.in-Ok.rest.now c.in-Ok.value c.type_inv.bytes (omega arith) c.in-Ok.ensures.found c.if-not-is_empty.ensures in
    omega (arith, d.depth)

pub unreachable-requires : goal.unreachable-requires
unreachable-requires c =
    let d : Decodes c.args.bytes.now c.in-Ok.value = whole_input c.reads_only_spellings.ensures.within c.args.bytes.now c.in-Ok.rest.now c.in-Ok.value c.type_inv.bytes (omega arith) c.in-Ok.ensures.found c.if-not-is_empty.ensures in
    let refused : ◌≡◌ {A = Result Tree ValueRefusal} (Ok c.in-Ok.value) (Err c.in-Err-make.field-0) = sym d.made ∙ sym c.make.ensures ∙ c.in-Err-make.is in
    cc

pub returns-in-Ok-make-clause-found : goal.returns-in-Ok-make-clause-found
returns-in-Ok-make-clause-found c =
    let d : Decodes c.args.bytes.now c.in-Ok.value = whole_input c.reads_only_spellings.ensures.within c.args.bytes.now c.in-Ok.rest.now c.in-Ok.value c.type_inv.bytes (omega arith) c.in-Ok.ensures.found c.if-not-is_empty.ensures in
    let taken : ◌≡◌ {A = Result Tree ValueRefusal} (Ok c.in-Ok.value) (Ok c.in-Ok-make.value) = sym d.made ∙ sym c.make.ensures ∙ c.in-Ok-make.is in
    let same : c.in-Ok.value ≡ c.in-Ok-make.value = cc in
    d.found ∙ ap (λ (v : Tree). Ok v) same
