use Rattle.std.proofs.Common.{◌≡◌, ◌∙◌, ◌++◌, ◌∷◌, [], length, sym, ap, arith, length-set, length-take-le}
use Rattle.std.proofs.lemmas.List.{take_more_set}
use Rattle.cl_c32.proofs.Padding.{padding_less}
use Rattle.cl_c32.proofs.address_text.AddressText.push.Goals as goal

pub invariant_of-self : goal.invariant_of-self
invariant_of-self c =
    let shown : length c.args.self.now ≡ c.self.inside.len =
    ap length (sym c.self.view_is) ∙ length-take-le c.self.inside.len c.self.inside.bytes (omega (arith, c.self.told)) in
    record {
      size = length-set c.self.inside.bytes c.self.inside.len c.args.character ∙ c.self.told;
      within = omega (arith, shown, c.requires);
      padding = padding_less 48 c.self.inside.bytes c.self.inside.len c.args.character (omega (arith, shown, c.requires)) c.self.invariant.padding;
    }

pub returns : goal.returns
returns c =
    let shown : length c.args.self.now ≡ c.self.inside.len =
    ap length (sym c.self.view_is) ∙ length-take-le c.self.inside.len c.self.inside.bytes (omega (arith, c.self.told)) in
    take_more_set c.self.inside.bytes c.self.inside.len c.args.character (omega (arith, shown, c.requires, c.self.told))
    ∙ ap (λ xs. xs ++ c.args.character ∷ []) c.self.view_is
