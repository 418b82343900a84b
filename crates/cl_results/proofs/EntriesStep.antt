-- Each entry has a result, and each file has results.
use Rattle.std.proofs.Common.{◌≡◌, ◌⊎◌, inl, inr, ℕ, List, [], ◌∷◌, Option, Some, None, refl}
use Rattle.std.specs.List.{All}
use Rattle.std.proofs.lemmas.List.Elements.{All-head, All-tail}
use Rattle.cl_forms.specs.declared.version.Version.{Version}
use Rattle.cl_forms.specs.Texts.{text_of}
use Rattle.cl_sexpr.specs.declared.sexpr.Span.{Span}
use Rattle.cl_sexpr.specs.declared.rule.Rule.{Rule}
use Rattle.cl_costs.specs.Schedules.{ScheduleSeen}
use Rattle.cl_rules.specs.Context.{Known, known_at}
use Rattle.cl_rules.specs.Acceptance.{Accepted, FirstBreakOf}
use Rattle.cl_file.specs.declared.entry.Common.{Common}
use Rattle.cl_file.specs.declared.entry.Entry.{Entry}
use Rattle.cl_file.specs.declared.entry.Entry.TheVariants.{Deploy, Call, Block}
use Rattle.cl_tx.specs.declared.outcome.EntryRefusal.TheVariants.{NameTaken, ContractRefused}
use Rattle.cl_tx.specs.declared.outcome.TxResult.{TxResult}
use Rattle.cl_tx.specs.Nodes.{NodeSeen, Stepped, contract_of, refused, moved}
use Rattle.cl_tx.specs.Step.{Steps, name_taken, source_refused, AllStep, costs_for, first_node, committed}
use Rattle.cl_tx.specs.Rebounds.{rebounds_at}
use Rattle.cl_node_sound.specs.Sound.{IsSoundNode, HasParts}
use Rattle.cl_node_sound.specs.Laws.{FirstIsSound, SoundStay, CallsStep, DeploymentsStep}
use Rattle.cl_answers.specs.Laws.{EachHasAnswer}
use Rattle.cl_results.specs.Laws.{EachSteps, EachRuns, EachCommits}

-- ---- one entry

module _ (answers : EachHasAnswer) (calls : CallsStep) (deployments : DeploymentsStep) (schedule : ScheduleSeen) (node : NodeSeen) (sound : IsSoundNode node) where
  module _ (common : Common) (name source : List ℕ) (version : Version) (parts : HasParts (Deploy common name source version)) where
    abbrev Comes : Type 0
    Comes = (s : Stepped) × Steps schedule node (Deploy common name source version) s

    new_comes : known_at (contract_of common.sender name) node.known ≡ None →
        Accepted node.known (contract_of common.sender name) (costs_for schedule node) (text_of source version) ⊎ ((rule : Rule) × (span : Span) × (names : List (List ℕ)) × FirstBreakOf node.known (contract_of common.sender name) (costs_for schedule node) (text_of source version) rule span names) → Comes
    new_comes new (inl accepted) = deployments schedule node common name source version parts sound new accepted
    new_comes new (inr first) = (refused node (ContractRefused (record { rule = first.0; span = first.1; names = first.2 })), source_refused first.0 first.1 first.2 new first.3 refl)

    deployment_comes : (o : Option Known) → known_at (contract_of common.sender name) node.known ≡ o → Comes
    deployment_comes (Some known) there = (refused node NameTaken, name_taken known there refl)
    deployment_comes None new = new_comes new (answers node.known (contract_of common.sender name) (costs_for schedule node) (text_of source version))

  entry_comes : (entry : Entry) → HasParts entry → (s : Stepped) × Steps schedule node entry s
  entry_comes (Deploy common name source version) parts = deployment_comes common name source version parts (known_at (contract_of common.sender name) node.known) refl
  entry_comes (Call common contract function args) parts = calls schedule node common contract function args parts sound
  entry_comes (Block height) parts = (moved node height (rebounds_at schedule node height), refl)

pub each_steps : EachHasAnswer → CallsStep → DeploymentsStep → EachSteps
each_steps answers calls deployments schedule node entry parts sound = entry_comes answers calls deployments schedule node sound entry parts

-- ---- one after another

entries_come : EachSteps → SoundStay → (schedule : ScheduleSeen) (node : NodeSeen) (entries : List Entry) → All HasParts entries → IsSoundNode node → (results : List TxResult) × (after : NodeSeen) × AllStep schedule node entries results after
entries_come steps stay schedule node [] parts sound = ([], node, (refl, refl))
entries_come steps stay schedule node (e ∷ es) parts sound =
    let here = All-head HasParts e es parts in
    let s = steps schedule node e here sound in
    let rest = entries_come steps stay schedule s.0.node es (All-tail HasParts e es parts) (stay schedule node e s.0 here sound s.1) in
    (s.0.result ∷ rest.0, rest.1, (s.0, rest.0, s.1, rest.2, refl))

pub each_runs : EachSteps → FirstIsSound → SoundStay → EachRuns
each_runs steps first stay schedule file parts =
    let run = entries_come steps stay schedule (first_node file.genesis) file.entries parts.entries (first file.genesis parts.holders) in
    (run.0, run.1, record { steps = run.2 })

pub each_commits : EachRuns → EachCommits
each_commits runs schedule file parts = let run = runs schedule file parts in (committed run.0, record { results = run.0; after = run.1; runs = run.2; events_are = refl })
