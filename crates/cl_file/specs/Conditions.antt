-- Post-conditions as the file has them.
use Rattle.std.specs.Prelude.{ℕ, Bool, List, [], Option, Some, None, Ok, Err, if◌then◌else◌}
use Rattle.std.specs.Str.{chars}
use Rattle.serde_json.specs.Data.{Data}
use Rattle.serde_json.specs.Find.{as_bool, as_array}
use Rattle.cl_c32.specs.declared.principal.Principal.{Principal}
use Rattle.cl_values.specs.Tree.{Tree}
use Rattle.cl_events.specs.declared.event.Asset.TheVariants as asset
use Rattle.cl_post.specs.declared.condition.Code5.{Code5}
use Rattle.cl_post.specs.declared.condition.Test.{Test}
use Rattle.cl_post.specs.declared.condition.Test.TheVariants.{Amount, Sent, NotSent}
use Rattle.cl_post.specs.declared.condition.Condition.{Condition}
use Rattle.cl_file.specs.Paths.{Read, below, and_then, said, each_from}
use Rattle.cl_file.specs.Objects.{Values, Kind, Table, plain, needed, and_more, no_more, object_by, sole}
use Rattle.cl_file.specs.Kinds.{principal, contract, token, code, an_amount, a_literal}
use Rattle.cl_file.specs.Names.{names_of, condition_kind}
use Rattle.cl_file.specs.declared.kind.Contract.{Contract}
use Rattle.cl_file.specs.declared.names.Object.TheVariants.{Stx, Ft, Nft}
use Rattle.cl_file.specs.declared.names.ConditionKind.{ConditionKind}
use Rattle.cl_file.specs.declared.names.ConditionKind.TheVariants as on
use Rattle.cl_file.specs.declared.refusal.TxRefusal.TheVariants.{Field}

-- ---- the three objects, each a table of its members' kinds

abbrev pub stx_table : Table (Principal × (Code5 × (ℕ × Unit {0})))
stx_table = and_more (needed (plain principal)) (and_more (needed (plain code)) (and_more (needed an_amount) no_more))

abbrev pub ft_table : Table (Principal × (Contract × (List ℕ × (Code5 × (ℕ × Unit {0})))))
ft_table = and_more (needed (plain principal)) (and_more (needed (plain contract)) (and_more (needed (plain token)) (and_more (needed (plain code)) (and_more (needed an_amount) no_more))))

abbrev pub nft_table : Table (Principal × (Contract × (List ℕ × (Tree × (Bool × Unit {0})))))
nft_table = and_more (needed (plain principal)) (and_more (needed (plain contract)) (and_more (needed (plain token)) (and_more (needed a_literal) (and_more (needed (plain as_bool)) no_more))))

abbrev pub sent_test : Bool → Test
sent_test sent = if sent then Sent else NotSent

abbrev pub stx_found : Principal × (Code5 × (ℕ × Unit {0})) → Condition
stx_found r = record { principal = r.0; asset = asset.Stx; test = Amount r.1.0 r.1.1.0 }

abbrev pub ft_found : Principal × (Contract × (List ℕ × (Code5 × (ℕ × Unit {0})))) → Condition
ft_found r = record { principal = r.0; asset = asset.Ft r.1.0.principal r.1.1.0; test = Amount r.1.1.1.0 r.1.1.1.1.0 }

abbrev pub nft_found : Principal × (Contract × (List ℕ × (Tree × (Bool × Unit {0})))) → Condition
nft_found r = record { principal = r.0; asset = asset.Nft r.1.0.principal r.1.1.0 r.1.1.1.0; test = sent_test r.1.1.1.1.0 }

unfoldable pub stx : Kind Condition
stx values path d = and_then (object_by (names_of Stx) stx_table values path d) (λ r. Ok (stx_found r))

unfoldable pub ft : Kind Condition
ft values path d = and_then (object_by (names_of Ft) ft_table values path d) (λ r. Ok (ft_found r))

unfoldable pub nft : Kind Condition
nft values path d = and_then (object_by (names_of Nft) nft_table values path d) (λ r. Ok (nft_found r))

-- ---- a condition, by the name of its one member

abbrev pub condition_by : Option ConditionKind → Kind Condition
condition_by (Some on.Stx) = stx
condition_by (Some on.Ft) = ft
condition_by (Some on.Nft) = nft
condition_by None = λ values path d. Err (Field (chars path))

unfoldable pub condition : Kind Condition
condition values path d = and_then (said path (sole d)) (λ p. condition_by (condition_kind p.0) values (below path p.0) p.1)

abbrev pub condition_at : Values → List Condition → List ℕ → Data → Read Condition
condition_at values done path d = condition values path d

-- the array of conditions
unfoldable pub post : Kind (List Condition)
post values path d = and_then (said path (as_array d)) (each_from (condition_at values) path [] 0)
