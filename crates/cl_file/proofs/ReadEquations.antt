-- What each object is read by, as an equation.
use Rattle.std.proofs.Common.{◌≡◌, ℕ, List, [], Ok, Err, refl, codes, nat_lt, nat_le, ◌^◌}
use Rattle.serde_json.specs.Data.{Data}
use Rattle.serde_json.specs.Find.{as_array}
use Rattle.cl_file.specs.Paths.{below, and_then, said, each_from}
use Rattle.cl_file.specs.Objects.{Values, object_by, sole, plain, needed, only}
use Rattle.cl_file.specs.Names.{names_of, condition_kind, entry_kind}
use Rattle.cl_file.specs.Conditions.{stx_table, ft_table, nft_table, stx_found, ft_found, nft_found, stx, ft, nft, condition, condition_by, condition_at, post}
use Rattle.cl_file.specs.Entries.{block_table, deploy_table, call_table, common_in, deployment, block, deploy, call, entry, entry_by, rising, entry_after, entry_at}
use Rattle.cl_file.specs.declared.entry.Entry.TheVariants as entry_
use Rattle.cl_file.specs.Kinds.{an_amount}
use Rattle.cl_file.specs.Files.{tested, total, count, new_holder, holder_at, items, epochs_of, entries_of, file_by, members_of, second_members_of}
use Rattle.cl_file.specs.Epochs.{height_above, costs, epoch_above, next_epoch}
use Rattle.std.specs.Str.{chars}
use Rattle.cl_c32.specs.declared.principal.Principal.{Principal}
use Rattle.cl_file.specs.declared.refusal.TxRefusal.TheVariants.{BadValue, GenesisTooBig, TooMany}
use Rattle.serde_json.specs.Data.{Items, no_items}
use Rattle.cl_file.specs.declared.names.Object.TheVariants.{Stx, Ft, Nft, Block, Deploy, Call, Holder, Epoch, File, SecondFile}

pub stx_is : (values : Values) (path : List ℕ) (d : Data) → stx values path d ≡ and_then (object_by (names_of Stx) stx_table values path d) (λ r. Ok (stx_found r))
unfolding stx
stx_is values path d = refl

pub ft_is : (values : Values) (path : List ℕ) (d : Data) → ft values path d ≡ and_then (object_by (names_of Ft) ft_table values path d) (λ r. Ok (ft_found r))
unfolding ft
ft_is values path d = refl

pub nft_is : (values : Values) (path : List ℕ) (d : Data) → nft values path d ≡ and_then (object_by (names_of Nft) nft_table values path d) (λ r. Ok (nft_found r))
unfolding nft
nft_is values path d = refl

pub condition_is : (values : Values) (path : List ℕ) (d : Data) → condition values path d ≡ and_then (said path (sole d)) (λ p. condition_by (condition_kind p.0) values (below path p.0) p.1)
unfolding condition
condition_is values path d = refl

pub post_is : (values : Values) (path : List ℕ) (d : Data) → post values path d ≡ and_then (said path (as_array d)) (each_from (condition_at values) path [] 0)
unfolding post
post_is values path d = refl

-- ---- entries

pub block_is : (values : Values) (path : List ℕ) (d : Data) → block values path d ≡ and_then (object_by (names_of Block) block_table values path d) (λ r. Ok (entry_.Block r.0))
unfolding block
block_is values path d = refl

pub deploy_is : (values : Values) (path : List ℕ) (d : Data)
    → deploy values path d ≡ and_then (object_by (names_of Deploy) deploy_table values path d) (λ r. Ok (deployment r.0 r.1.0 r.1.1.0 r.1.1.1))
unfolding deploy
deploy_is values path d = refl

pub call_is : (values : Values) (path : List ℕ) (d : Data)
    → call values path d ≡ and_then (object_by (names_of Call) call_table values path d) (λ r. Ok (entry_.Call (common_in r.0 r.1.1.1.1) r.1.0.principal r.1.1.0 r.1.1.1.0))
unfolding call
call_is values path d = refl

pub entry_is : (values : Values) (path : List ℕ) (d : Data) → entry values path d ≡ and_then (said path (sole d)) (λ p. entry_by (entry_kind p.0) values (below path p.0) p.1)
unfolding entry
entry_is values path d = refl

pub after_is : (values : Values) (height : ℕ) (path : List ℕ) (d : Data) → entry_after values height path d ≡ and_then (entry values path d) (rising height path)
unfolding entry_after
after_is values height path d = refl

-- ---- the file

pub holder_is : (values : Values) (done : List (Principal × ℕ)) (path : List ℕ) (d : Data) → holder_at values done path d ≡
    and_then (only path (names_of Holder) d) (λ _. and_then (needed (plain (new_holder done)) values path (codes "principal") d) (λ p.
    and_then (needed an_amount values path (codes "stx") d) (λ n. Ok (p, n))))
unfolding holder_at
holder_is values done path d = refl

pub epoch_is : (values : Values) (height : ℕ) (path : List ℕ) (d : Data) → epoch_above values height path d ≡
    and_then (only path (names_of Epoch) d) (λ _. and_then (needed (plain (height_above height)) values path (codes "height") d) (λ begins.
    and_then (needed (plain costs) values path (codes "costs") d) (λ table. Ok (begins, table))))
unfolding epoch_above
epoch_is values height path d = refl

pub epochs_is : (values : Values) (list : Items) → epochs_of values list ≡
    and_then (tested (nat_le (count list) 64) (Err (BadValue (chars (codes "/epochs"))))) (λ _. each_from (next_epoch values) (codes "/epochs") [] 0 list)
unfolding epochs_of
epochs_is values list = refl

pub entries_is : (values : Values) (list : Items) → entries_of values list ≡
    and_then (tested (nat_le (count list) 100000) (Err TooMany)) (λ _. each_from (entry_at values) (codes "/entries") [] 0 list)
unfolding entries_of
entries_is values list = refl

pub members_is : (values : Values) (d : Data) → members_of values d ≡
    and_then (only [] (names_of File) d) (λ _. and_then (needed items values [] (codes "genesis") d) (λ holders.
    and_then (needed items values [] (codes "entries") d) (λ entries. file_by values holders no_items entries)))
unfolding members_of
members_is values d = refl

pub second_members_is : (values : Values) (d : Data) → second_members_of values d ≡
    and_then (only [] (names_of SecondFile) d) (λ _. and_then (needed items values [] (codes "genesis") d) (λ holders.
    and_then (needed items values [] (codes "epochs") d) (λ epochs. and_then (needed items values [] (codes "entries") d) (λ entries. file_by values holders epochs entries))))
unfolding second_members_of
second_members_is values d = refl

pub file_is : (values : Values) (holders epochs list : Items) → file_by values holders epochs list ≡
    and_then (each_from (holder_at values) (codes "/genesis") [] 0 holders) (λ genesis.
    and_then (tested (nat_lt (total genesis) (2 ^ 128)) (Err GenesisTooBig)) (λ _.
    and_then (epochs_of values epochs) (λ begun.
    and_then (entries_of values list) (λ entries.
    Ok (record { genesis = genesis; epochs = begun; entries = entries })))))
unfolding file_by
file_is values holders epochs list = refl
