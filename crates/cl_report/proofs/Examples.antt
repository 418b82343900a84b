-- The definitions compute: the lines of each outcome, refusal, rule and event, and of a deployment with its bounds.
use Rattle.std.proofs.Common.{refl}
use Rattle.std.specs.Prelude.{◌≡◌, ℕ, true, List, [], ◌∷◌, ◌++◌, map, replicate, codes, Some, None}
use Rattle.std.specs.List.{flat_map}
use Rattle.std.specs.Fmt.{digits}
use Rattle.sha2.specs.Sha256.{sha256, first_words, schedule, rounds, compress, hash_after, digest_bytes}
use Rattle.cl_types.specs.Types.{IntType, BuffType}
use Rattle.cl_c32.specs.Address.{AddressParts}
use Rattle.cl_c32.specs.Alphabet.{alphabet}
use Rattle.cl_c32.specs.Digits.{digits_within, digits_in, regrouped_digits}
use Rattle.cl_c32.specs.Codec.{checksum_of, address_text}
use Rattle.cl_c32.specs.declared.principal.Principal.{Principal}
use Rattle.cl_shapes.specs.Costs.{cost5}
use Rattle.cl_shapes.specs.declared.cost.Dimension.TheVariants.{Runtime, ReadCount, WriteCount, WriteLength}
use Rattle.cl_sexpr.specs.declared.rule.Rule.{Rule}
use Rattle.cl_sexpr.specs.declared.rule.Rule.TheVariants.{Cycle, BoundTooLarge, BadType}
use Rattle.cl_values.specs.Tree.{BoolV, UintV, AsciiV, ResponseV}
use Rattle.cl_forms.specs.declared.version.Version.TheVariants.{One}
use Rattle.cl_events.specs.declared.event.Event.{Event}
use Rattle.cl_events.specs.declared.event.EventKind.TheVariants.{Print, FtMint, FtTransfer, FtBurn, NftMint, NftTransfer, NftBurn, StxTransfer, StxBurn}
use Rattle.cl_tx.specs.Seen.{SourceBreak}
use Rattle.cl_post.specs.declared.condition.Mode.TheVariants.{Allow}
use Rattle.cl_file.specs.declared.entry.Common.{Common}
use Rattle.cl_file.specs.declared.entry.Entry.{Entry}
use Rattle.cl_file.specs.declared.entry.Entry.TheVariants.{Deploy, Call, Block}
use Rattle.cl_file.specs.Entries.{no_limit}
use Rattle.cl_tx.specs.declared.outcome.Outcome.{Outcome}
use Rattle.cl_tx.specs.declared.outcome.Outcome.TheVariants.{Moved, Done, Good, Bad, Plain, Aborted, Refused}
use Rattle.cl_tx.specs.declared.outcome.Stop.TheVariants.{Overflow, Underflow, DivideByZero, NegativeArgument, Panic, SupplyOverflow, EarlyTop, CostLimit, PostCondition}
use Rattle.cl_tx.specs.declared.outcome.EntryRefusal.TheVariants.{NoContract, NoFunction, NotPublic, ArgumentCount, Argument, NameTaken, ContractRefused, NoBound}
use Rattle.cl_tx.specs.declared.outcome.Reach.TheVariants.{Bound, Over}
use Rattle.cl_tx.specs.declared.outcome.TxResult.{TxResult}
use Rattle.cl_lines.specs.Costs.{cost_text, bound_text, bound_line}
use Rattle.cl_lines.specs.Refusals.{span_text, refusal_text, stop_text, entry_refusal_text}
use Rattle.cl_lines.specs.Events.{amount_text, word_of, details, event_line}
use Rattle.cl_lines.specs.Rebounds.{reach_text, rebound_line}
use Rattle.cl_report.specs.Lines.{outcome_text, entry_text, entry_line, lines_of}

outcomes : map outcome_text (
    Done ∷ Good (BoolV true) ∷ Bad (UintV 1) ∷ Plain (ResponseV true (UintV 0))
    ∷ Aborted Overflow ∷ Aborted Underflow ∷ Aborted DivideByZero ∷ Aborted NegativeArgument ∷ Aborted Panic ∷ Aborted SupplyOverflow ∷ Aborted EarlyTop
    ∷ Aborted (CostLimit (record { dimension = WriteLength; attempted = cost5 6 0 1 2 17; limit = 16 })) ∷ Aborted (PostCondition 2)
    ∷ []) ≡
    codes "done" ∷ codes "ok true" ∷ codes "err u1" ∷ codes "value (ok u0)"
    ∷ codes "aborted A1 Overflow" ∷ codes "aborted A2 Underflow" ∷ codes "aborted A3 DivideByZero" ∷ codes "aborted A4 NegativeArgument"
    ∷ codes "aborted A5 Panic" ∷ codes "aborted A6 SupplyOverflow" ∷ codes "aborted A7 EarlyTop" ∷ codes "aborted A8 CostLimit write_length 17 16" ∷ codes "aborted A9 PostCondition 2" ∷ []
unfolding digits outcome_text stop_text
outcomes = refl

refusals : map entry_refusal_text (NoContract ∷ NoFunction ∷ NotPublic ∷ ArgumentCount ∷ Argument 2 ∷ NameTaken ∷ NoBound WriteCount ∷ []) ≡
    codes "E1 NoContract" ∷ codes "E2 NoFunction" ∷ codes "E3 NotPublic" ∷ codes "E4 ArgumentCount" ∷ codes "E5 Argument 2" ∷ codes "E6 NameTaken" ∷ codes "E8 NoBound write_count" ∷ []
unfolding digits entry_refusal_text
refusals = refl

-- a source that breaks a rule at bytes 3 to 27
abbrev breaks : Rule → List (List ℕ) → SourceBreak
breaks rule names = record { rule = rule; span = record { start = 3; end = 27 }; names = names }

rules : map (λ r. entry_refusal_text (ContractRefused r)) (breaks Cycle (codes "a" ∷ codes "b" ∷ []) ∷ breaks (BoundTooLarge ReadCount) [] ∷ breaks BadType [] ∷ []) ≡
    codes "E7 ContractRefused O1 Cycle 3..27 a b" ∷ codes "E7 ContractRefused B1 BoundTooLarge 3..27 read_count" ∷ codes "E7 ContractRefused F2 BadType 3..27" ∷ []
unfolding digits entry_refusal_text refusal_text span_text
rules = refl

abbrev address : AddressParts
address = record { version = 22; hash = replicate 20 0 }

abbrev person : Principal
person = record { address = address; contract = None }

abbrev home : Principal
home = record { address = address; contract = Some (codes "c") }

abbrev events : List Event
events = map (λ kind. record { contract = home; kind = kind }) (
    Print (AsciiV (codes "hi"))
    ∷ FtMint (codes "coin") 200 home
    ∷ FtTransfer (codes "coin") 200 person home
    ∷ FtBurn (codes "coin") 200 person
    ∷ NftMint (codes "coin") (UintV 5) home
    ∷ NftTransfer (codes "coin") (UintV 5) person home
    ∷ NftBurn (codes "coin") (UintV 5) person
    ∷ StxTransfer 200 person home
    ∷ StxBurn 200 person
    ∷ [])

abbrev lines_of_events : List (List ℕ)
lines_of_events =
    codes "  event print 'SP000000000000000000002Q6VF78.c \"hi\"\n"
    ∷ codes "  event ft-mint 'SP000000000000000000002Q6VF78.c coin u200 'SP000000000000000000002Q6VF78.c\n"
    ∷ codes "  event ft-transfer 'SP000000000000000000002Q6VF78.c coin u200 'SP000000000000000000002Q6VF78 'SP000000000000000000002Q6VF78.c\n"
    ∷ codes "  event ft-burn 'SP000000000000000000002Q6VF78.c coin u200 'SP000000000000000000002Q6VF78\n"
    ∷ codes "  event nft-mint 'SP000000000000000000002Q6VF78.c coin u5 'SP000000000000000000002Q6VF78.c\n"
    ∷ codes "  event nft-transfer 'SP000000000000000000002Q6VF78.c coin u5 'SP000000000000000000002Q6VF78 'SP000000000000000000002Q6VF78.c\n"
    ∷ codes "  event nft-burn 'SP000000000000000000002Q6VF78.c coin u5 'SP000000000000000000002Q6VF78\n"
    ∷ codes "  event stx-transfer 'SP000000000000000000002Q6VF78.c u200 'SP000000000000000000002Q6VF78 'SP000000000000000000002Q6VF78.c\n"
    ∷ codes "  event stx-burn 'SP000000000000000000002Q6VF78.c u200 'SP000000000000000000002Q6VF78\n"
    ∷ []

each_event : map event_line events ≡ lines_of_events
unfolding digits event_line word_of details amount_text address_text alphabet checksum_of regrouped_digits digits_in digits_within sha256 first_words schedule rounds compress hash_after digest_bytes
each_event = refl

abbrev common : Common
common = record { sender = address; limit = no_limit; mode = Allow; conditions = [] }

-- a call of a function of the contract
abbrev call : List ℕ → Entry
call function = Call common home function []

abbrev result : Outcome → List Event → TxResult
result outcome events = record { outcome = outcome; cost = Some (cost5 1 0 1 2 2); bounds = None; types = []; events = events; rebounds = [] }

-- the events stand behind the cost of what was committed
committed : lines_of 100000 (call (codes "go now")) (result (Plain (UintV 1)) events) ≡ codes "100000 call 'SP000000000000000000002Q6VF78.c go now value u1\n  cost 1 0 1 2 2\n" ++ flat_map (λ line. line) lines_of_events
unfolding digits lines_of entry_line entry_text outcome_text cost_text event_line word_of details amount_text address_text alphabet checksum_of regrouped_digits digits_in digits_within sha256 first_words schedule rounds compress hash_after digest_bytes
committed = refl

-- and an err hands out none
undone : lines_of 0 (call (codes "f")) (result (Bad (UintV 5)) events) ≡ codes "0 call 'SP000000000000000000002Q6VF78.c f err u5\n  cost 1 0 1 2 2\n"
unfolding digits lines_of entry_line entry_text outcome_text cost_text address_text alphabet checksum_of regrouped_digits digits_in digits_within sha256 first_words schedule rounds compress hash_after digest_bytes
undone = refl

abbrev deployment : Entry
deployment = Deploy common (codes "c") [] One

with_its_bounds : lines_of 0 deployment (record {
  outcome = Done;
  cost = Some (cost5 5 0 1 2 164);
  bounds = Some (record { deploy = cost5 6 0 1 2 165; functions = (codes "put", cost5 9 0 1 2 17) ∷ (codes "no", cost5 7 0 1 2 0) ∷ [] });
  types = IntType ∷ BuffType 34 ∷ [];
  events = [];
  rebounds = [];
}) ≡ codes "0 deploy 'SP000000000000000000002Q6VF78.c done\n  cost 5 0 1 2 164\n  deploy-bound 6 0 1 2 165\n  bound put 9 0 1 2 17 int\n  bound no 7 0 1 2 0 (buff 34)\n"
unfolding digits lines_of entry_line entry_text outcome_text cost_text bound_text bound_line address_text alphabet checksum_of regrouped_digits digits_in digits_within sha256 first_words schedule rounds compress hash_after digest_bytes
with_its_bounds = refl

refused : lines_of 7 deployment (record { outcome = Refused NameTaken; cost = None; bounds = None; types = []; events = []; rebounds = [] }) ≡ codes "7 deploy 'SP000000000000000000002Q6VF78.c refused E6 NameTaken\n"
unfolding digits lines_of entry_line entry_text outcome_text entry_refusal_text address_text alphabet checksum_of regrouped_digits digits_in digits_within sha256 first_words schedule rounds compress hash_after digest_bytes
refused = refl

-- a block without a change of bounds has one line
moved : lines_of 3 (Block 18446744073709551615) (record { outcome = Moved; cost = None; bounds = None; types = []; events = []; rebounds = [] }) ≡ codes "3 block 18446744073709551615\n"
unfolding digits lines_of entry_line entry_text outcome_text
moved = refl

-- and behind it stand the bounds that change with it, each with its type, or the dimension in which it is above the limit
begun : lines_of 2 (Block 10) (record {
  outcome = Moved;
  cost = None;
  bounds = None;
  types = [];
  events = [];
  rebounds =
      record { contract = home; name = codes "add1"; reach = Bound (cost5 9 0 0 0 0); returns = IntType }
      ∷ record { contract = home; name = codes "g"; reach = Over Runtime; returns = BuffType 34 }
      ∷ [];
}) ≡ codes "2 block 10\n  rebound 'SP000000000000000000002Q6VF78.c add1 9 0 0 0 0 int\n  rebound 'SP000000000000000000002Q6VF78.c g over runtime\n"
unfolding digits lines_of entry_line entry_text outcome_text cost_text bound_text reach_text rebound_line address_text alphabet checksum_of regrouped_digits digits_in digits_within sha256 first_words schedule rounds compress hash_after digest_bytes
begun = refl
