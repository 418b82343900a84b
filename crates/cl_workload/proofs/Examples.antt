-- Examples of the definitions. The numbers were reckoned outside.
use Rattle.std.proofs.Common.{◌≡◌, [], ◌∷◌, length, refl}
use Rattle.cl_workload.specs.declared.source.TheConstants.{TOKEN}
use Rattle.cl_workload.specs.Workload.{mint, transfer, number_after, calls}

token_length : length TOKEN.now ≡ 1109
token_length = refl

second_number : number_after 2 2 ≡ 16917806452429146372
unfolding number_after
second_number = refl

after_the_greatest : number_after 18446744073709551615 1 ≡ 13525302890751722018
unfolding number_after
after_the_greatest = refl

no_calls : calls 7 0 ≡ []
unfolding calls
no_calls = refl

two_calls : calls 0 2 ≡ transfer 807 ∷ mint 424 ∷ []
unfolding calls number_after
two_calls = refl

three_transfers : calls 7 3 ≡ transfer 278 ∷ transfer 231 ∷ transfer 753 ∷ []
unfolding calls number_after
three_transfers = refl

one_mint : calls 2 1 ≡ mint 740 ∷ []
unfolding calls number_after
one_mint = refl
