-- What the natives on tokens do, by the values of their parts.
use Rattle.std.proofs.Common.{◌≡◌, ◌∷◌, [], List, ℕ, refl}
use Rattle.std.specs.Prelude.{option_map}
use Rattle.cl_values.specs.Tree.{Tree as Val, UintV, PrincipalV}
use Rattle.cl_forms.specs.declared.head.TokenNative.TheVariants.{MintFt, BurnFt, SendFt, MintNft, BurnNft, SendNft, SendStx, BurnStx}
use Rattle.cl_events.specs.declared.event.EventKind.TheVariants.{FtMint, FtTransfer, FtBurn, NftMint, NftTransfer, NftBurn, StxTransfer, StxBurn}
use Rattle.cl_meaning.specs.Tokens.{act_of}
use Rattle.cl_operands.specs.ActParts.{amount_and_one, amount_and_two, asset_and_one, asset_and_two}

pub mint_ft_by : (x : List ℕ) (vs : List Val) → act_of MintFt x vs ≡ option_map (λ r. FtMint x r.0 r.1) (amount_and_one vs)
mint_ft_by x [] = refl
mint_ft_by x (UintV n ∷ []) = refl
mint_ft_by x (a ∷ []) = refl
mint_ft_by x (UintV n ∷ PrincipalV p ∷ []) = refl
mint_ft_by x (UintV n ∷ b ∷ []) = refl
mint_ft_by x (a ∷ b ∷ []) = refl
mint_ft_by x (UintV n ∷ PrincipalV p ∷ c ∷ us) = refl
mint_ft_by x (UintV n ∷ b ∷ c ∷ us) = refl
mint_ft_by x (a ∷ b ∷ c ∷ us) = refl

pub burn_ft_by : (x : List ℕ) (vs : List Val) → act_of BurnFt x vs ≡ option_map (λ r. FtBurn x r.0 r.1) (amount_and_one vs)
burn_ft_by x [] = refl
burn_ft_by x (UintV n ∷ []) = refl
burn_ft_by x (a ∷ []) = refl
burn_ft_by x (UintV n ∷ PrincipalV p ∷ []) = refl
burn_ft_by x (UintV n ∷ b ∷ []) = refl
burn_ft_by x (a ∷ b ∷ []) = refl
burn_ft_by x (UintV n ∷ PrincipalV p ∷ c ∷ us) = refl
burn_ft_by x (UintV n ∷ b ∷ c ∷ us) = refl
burn_ft_by x (a ∷ b ∷ c ∷ us) = refl

pub send_ft_by : (x : List ℕ) (vs : List Val) → act_of SendFt x vs ≡ option_map (λ r. FtTransfer x r.0 r.1.0 r.1.1) (amount_and_two vs)
send_ft_by x [] = refl
send_ft_by x (UintV n ∷ []) = refl
send_ft_by x (a ∷ []) = refl
send_ft_by x (UintV n ∷ PrincipalV p ∷ []) = refl
send_ft_by x (UintV n ∷ b ∷ []) = refl
send_ft_by x (a ∷ b ∷ []) = refl
send_ft_by x (UintV n ∷ PrincipalV p ∷ PrincipalV q ∷ []) = refl
send_ft_by x (UintV n ∷ PrincipalV p ∷ c ∷ []) = refl
send_ft_by x (UintV n ∷ b ∷ c ∷ []) = refl
send_ft_by x (a ∷ b ∷ c ∷ []) = refl
send_ft_by x (UintV n ∷ PrincipalV p ∷ PrincipalV q ∷ d ∷ us) = refl
send_ft_by x (UintV n ∷ PrincipalV p ∷ c ∷ d ∷ us) = refl
send_ft_by x (UintV n ∷ b ∷ c ∷ d ∷ us) = refl
send_ft_by x (a ∷ b ∷ c ∷ d ∷ us) = refl

pub mint_nft_by : (x : List ℕ) (vs : List Val) → act_of MintNft x vs ≡ option_map (λ r. NftMint x r.0 r.1) (asset_and_one vs)
mint_nft_by x [] = refl
mint_nft_by x (a ∷ []) = refl
mint_nft_by x (a ∷ PrincipalV p ∷ []) = refl
mint_nft_by x (a ∷ b ∷ []) = refl
mint_nft_by x (a ∷ PrincipalV p ∷ c ∷ us) = refl
mint_nft_by x (a ∷ b ∷ c ∷ us) = refl

pub burn_nft_by : (x : List ℕ) (vs : List Val) → act_of BurnNft x vs ≡ option_map (λ r. NftBurn x r.0 r.1) (asset_and_one vs)
burn_nft_by x [] = refl
burn_nft_by x (a ∷ []) = refl
burn_nft_by x (a ∷ PrincipalV p ∷ []) = refl
burn_nft_by x (a ∷ b ∷ []) = refl
burn_nft_by x (a ∷ PrincipalV p ∷ c ∷ us) = refl
burn_nft_by x (a ∷ b ∷ c ∷ us) = refl

pub send_nft_by : (x : List ℕ) (vs : List Val) → act_of SendNft x vs ≡ option_map (λ r. NftTransfer x r.0 r.1.0 r.1.1) (asset_and_two vs)
send_nft_by x [] = refl
send_nft_by x (a ∷ []) = refl
send_nft_by x (a ∷ PrincipalV p ∷ []) = refl
send_nft_by x (a ∷ b ∷ []) = refl
send_nft_by x (a ∷ PrincipalV p ∷ PrincipalV q ∷ []) = refl
send_nft_by x (a ∷ PrincipalV p ∷ c ∷ []) = refl
send_nft_by x (a ∷ b ∷ c ∷ []) = refl
send_nft_by x (a ∷ PrincipalV p ∷ PrincipalV q ∷ d ∷ us) = refl
send_nft_by x (a ∷ PrincipalV p ∷ c ∷ d ∷ us) = refl
send_nft_by x (a ∷ b ∷ c ∷ d ∷ us) = refl

pub send_stx_by : (x : List ℕ) (vs : List Val) → act_of SendStx x vs ≡ option_map (λ r. StxTransfer r.0 r.1.0 r.1.1) (amount_and_two vs)
send_stx_by x [] = refl
send_stx_by x (UintV n ∷ []) = refl
send_stx_by x (a ∷ []) = refl
send_stx_by x (UintV n ∷ PrincipalV p ∷ []) = refl
send_stx_by x (UintV n ∷ b ∷ []) = refl
send_stx_by x (a ∷ b ∷ []) = refl
send_stx_by x (UintV n ∷ PrincipalV p ∷ PrincipalV q ∷ []) = refl
send_stx_by x (UintV n ∷ PrincipalV p ∷ c ∷ []) = refl
send_stx_by x (UintV n ∷ b ∷ c ∷ []) = refl
send_stx_by x (a ∷ b ∷ c ∷ []) = refl
send_stx_by x (UintV n ∷ PrincipalV p ∷ PrincipalV q ∷ d ∷ us) = refl
send_stx_by x (UintV n ∷ PrincipalV p ∷ c ∷ d ∷ us) = refl
send_stx_by x (UintV n ∷ b ∷ c ∷ d ∷ us) = refl
send_stx_by x (a ∷ b ∷ c ∷ d ∷ us) = refl

pub burn_stx_by : (x : List ℕ) (vs : List Val) → act_of BurnStx x vs ≡ option_map (λ r. StxBurn r.0 r.1) (amount_and_one vs)
burn_stx_by x [] = refl
burn_stx_by x (UintV n ∷ []) = refl
burn_stx_by x (a ∷ []) = refl
burn_stx_by x (UintV n ∷ PrincipalV p ∷ []) = refl
burn_stx_by x (UintV n ∷ b ∷ []) = refl
burn_stx_by x (a ∷ b ∷ []) = refl
burn_stx_by x (UintV n ∷ PrincipalV p ∷ c ∷ us) = refl
burn_stx_by x (UintV n ∷ b ∷ c ∷ us) = refl
burn_stx_by x (a ∷ b ∷ c ∷ us) = refl
