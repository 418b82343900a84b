-- Entries of a file one after another, whose results aren't kept, and the replies to `root` and `prove` behind them.
use Rattle.std.proofs.Common.{◌≡◌, ℕ, ◌+◌, ◌<◌, ◌≤◌, List, [], ◌∷◌, ◌++◌, length, take, get_or, sym, ap, subst, ◌∙◌, arith}
use Rattle.std.specs.List.{All}
use Rattle.std.proofs.lemmas.List.{take_all, take_more}
use Rattle.cl_c32.specs.declared.principal.Principal.{Principal}
use Rattle.cl_shapes.specs.declared.function.CostFn.{CostFn}
use Rattle.cl_costs.specs.Schedules.{ScheduleSeen}
use Rattle.cl_values.specs.Valid.{IsPrincipal}
use Rattle.cl_events.specs.State.{State}
use Rattle.cl_file.specs.Entries.{height_after, NeverFall}
use Rattle.cl_file.specs.declared.entry.Entry.{Entry}
use Rattle.cl_file.specs.Files.{FileSeen}
use Rattle.cl_tx.specs.Laws.{HeightIsLast}
use Rattle.cl_tx.specs.declared.outcome.TxResult.{TxResult}
use Rattle.cl_tx.specs.Nodes.{NodeSeen}
use Rattle.cl_tx.specs.Step.{AllStep, first_node, schedule_of}
use Rattle.cl_node_sound.specs.Sound.{HasParts}
use Rattle.cl_nodes.specs.Seen.{Seen}
use Rattle.cl_nodes.specs.Laws.{OneNode}
use Rattle.cl_nodes.specs.Steps.{Makes}
use Rattle.cl_root.specs.HashTree.{IsRoot}
use Rattle.cl_entries.specs.declared.status.Reply.{Reply}
use Rattle.cl_entries.specs.Entries.{IsFirst, Reaches}
use Rattle.cl_entries.proofs.Reached.{reaches_first, reaches_next, may_follow}
use Rattle.cl_replies.specs.Reports.{HasRoot, IsProved, IsRootReply, IsProveReply}
use Rattle.cl_replies.specs.Kept.{HasReached, IsRootOf, IsProofOf}

module _ (schedule : ScheduleSeen) (file : FileSeen) where
  pub reached_first : (n : Seen) → All (λ (h : Principal × ℕ). IsPrincipal h.0) file.genesis → IsFirst file.genesis n → HasReached schedule file 0 n
  reached_first n who is = ([], reaches_first schedule file.genesis n who is)

  pub follows : HeightIsLast → (entries : List Entry) (place : ℕ) (n : Seen) (e : Entry) → entries ≡ file.entries → place < length file.entries → e ≡ get_or entries place e → NeverFall 0 entries → HasReached schedule file place n
      → n.height ≤ height_after n.height e
  follows law entries place n e told low is rises reached =
      may_follow law schedule file.genesis entries reached.0 n place e (subst (λ (es : List Entry). place < length es) (sym told) low) is rises
      (subst (λ (es : List Entry). Reaches schedule file.genesis (take place es) reached.0 n) (sym told) reached.1)

  pub reached_next : OneNode → (entries : List Entry) (place : ℕ) (n m : Seen) (e : Entry) (r : TxResult) → entries ≡ file.entries → place < length file.entries → e ≡ get_or entries place e → HasParts e → Makes schedule n e r m
      → HasReached schedule file place n → HasReached schedule file (place + 1) m
  reached_next one entries place n m e r told low is parts makes reached =
      let here : e ≡ get_or file.entries place e = is ∙ ap (λ (es : List Entry). get_or es place e) told in
      let more : take (place + 1) file.entries ≡ take place file.entries ++ e ∷ [] = take_more file.entries place e low ∙ ap (λ (x : Entry). take place file.entries ++ x ∷ []) (sym here) in (
        reached.0 ++ r ∷ [],
        subst (λ (es : List Entry). Reaches schedule file.genesis es (reached.0 ++ r ∷ []) m) (sym more)
            (reaches_next one schedule file.genesis (take place file.entries) reached.0 n m e r reached.1 parts makes),
      )

  module _ (table : List CostFn) (is_schedule : schedule ≡ schedule_of table file) (n : Seen) (reached : HasReached schedule file (length file.entries) n) where
    has_root : (digest : List ℕ) → IsRoot digest n.state → HasRoot table file n.state digest
    has_root digest is = record {
      results = reached.0;
      after = reached.1.node;
      runs = record {
        steps =
            subst (λ (x : ScheduleSeen × List Entry). AllStep x.0 (first_node file.genesis) x.1 reached.0 reached.1.node)
            (λ i. (is_schedule i, take_all (length file.entries) file.entries (omega arith) i)) reached.1.steps;
      };
      state_is = sym (ap (λ (m : NodeSeen). m.state) reached.1.is_node.is);
      is_root = is;
    }

    pub root_replied : (s : State) (reply : Reply) → s ≡ n.state → IsRootOf s reply → IsRootReply table file reply
    root_replied s reply top given = record {
      state = n.state;
      digest = given.digest;
      has_root = has_root given.digest (subst (IsRoot given.digest) top given.is_root);
      is = given.is;
    }

    pub proof_replied : (number : ℕ) (s : State) (reply : Reply) → s ≡ n.state → IsProofOf s number reply → IsProveReply table file number reply
    proof_replied number s reply top given = record {
      state = n.state;
      digest = given.digest;
      has_root = has_root given.digest (subst (IsRoot given.digest) top given.is_root);
      is_proved = subst (λ (t : State). IsProved t number given.digest reply) top given.is_proved;
    }
