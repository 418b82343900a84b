use Rattle.std.proofs.Common.{◌≡◌, ◌++◌, ◌∷◌, ◌+◌, ◌-◌, length, drop, ap, sym, ◌∙◌, arith, append_assoc, length-take-le}
use Rattle.std.proofs.lemmas.List.{drop-drop, length-append}
use Rattle.cl_c32.specs.Address.{address_bytes}
use Rattle.cl_c32.specs.Principals.{part_bytes, principal_bytes}
use Rattle.cl_c32.proofs.Padding.{put_mid-behind}
use Rattle.cl_c32.proofs.principal.Principal.write_bytes.Goals as goal

pub returns-clause-written : goal.returns-clause-written
returns-clause-written c =
    let out = c.args.out.now in
    let address = address_bytes c.args.self.now.address in
    let part = part_bytes c.args.self.now.contract in
    let front = length part ∷ address in
    let count = 22 + length c.part_bytes-part.result.now - 22 in
    let both = length-append address part in
    let size : length c.part_bytes-part.result.now ≡ length part = ap length c.part_bytes-part.ensures.value in
    let first : length c.copy_from_slice.new.self ≡ 22 = c.copy_from_slice.ensures.len ∙ length-take-le 22 out (omega (arith, c.requires)) in
    let made : c.copy_from_slice.new.self ≡ front = c.copy_from_slice.ensures.after ∙ c.front.ensures ∙ ap (λ n. n ∷ address) size in
    let named : c.copy_from_slice-2.new.self ≡ part = c.copy_from_slice-2.ensures.after ∙ c.part_bytes-part.ensures.value in
    let short : length front ≡ 22 = sym (ap length made) ∙ first in
    let end : 22 + count ≡ length (principal_bytes c.args.self.now) = omega (arith, both, short, size) in
    let rest : drop count (drop 22 out) ≡ drop (length (principal_bytes c.args.self.now)) out = drop-drop count 22 out ∙ ap (λ n. drop n out) end in
    put_mid-behind c.copy_from_slice.new.self c.copy_from_slice-2.new.self (drop 22 out) 22 count first
    ∙ (λ i. made i ++ (named i ++ rest i))
    ∙ sym (append_assoc front part (drop (length (principal_bytes c.args.self.now)) out))
