-- A call that is refused leaves the bench as it is.
use Rattle.std.proofs.Common.{◌≡◌, ℕ, List, sym, ap, subst, ◌∙◌}
use Rattle.memo_core.specs.declared.keys.Node.{Node}
use Rattle.memo_core.specs.Graph.{Memo, Net, IsSettled}
use Rattle.bench_values.specs.Givens.{GivenContent}
use Rattle.bench_values.specs.Values.{NodeContent, outcome_in}
use Rattle.outcome_states.specs.declared.answer.Outcome.{Outcome}
use Rattle.cells.specs.declared.shown.Shown.{Shown}
use Rattle.cells.specs.declared.shown.Shown.TheVariants.{Settled, Open, NoCell}
use Rattle.cells.specs.Cells.{Carries, IsSettledCell, IsOpenCell, IsCellShown}
use Rattle.bench_instance.specs.StampedTexts.{stamped_net, verdict_of}
use Rattle.bench_instance.specs.Lemmas.StampedLaws.{since_itself}
use Rattle.bench_laws.specs.Live.{live_cells}
use Rattle.bench_laws.specs.There.{LiveState}
use Rattle.bench_laws.specs.Refusals.{RefusedChangesNothing, RefusedEditChangesNothing}
use Rattle.bench_laws.proofs.Runs.{sound_after}
use Rattle.bench_laws.proofs.SameVerdicts.{same_verdicts}

-- two benches with the same nodes, memos and verdicts
module _ (b c : LiveState) (nodes : stamped_net c.texts ≡ stamped_net b.texts) (memos : c.memos ≡ b.memos)
    (verdicts : (test model : List ℕ)
    → verdict_of c.texts test model ≡ verdict_of b.texts test model) where
  settled_alike : (n : Node) → IsSettled (stamped_net b.texts) b.memos n
      → IsSettled (stamped_net c.texts) c.memos n
  settled_alike n s =
      subst (λ (net : Net GivenContent). IsSettled net c.memos n) (sym nodes)
      (subst (λ (ms : List (Memo NodeContent)). IsSettled (stamped_net b.texts) ms n) (sym memos) s)

  settled_before : (n : Node) → IsSettled (stamped_net c.texts) c.memos n
      → IsSettled (stamped_net b.texts) b.memos n
  settled_before n s =
      subst (λ (net : Net GivenContent). IsSettled net b.memos n) nodes
      (subst (λ (ms : List (Memo NodeContent)). IsSettled (stamped_net c.texts) ms n) memos s)

  settled_cell : (test model : List ℕ) (o : Outcome)
      → IsSettledCell stamped_net live_cells b test model o
      → IsSettledCell stamped_net live_cells c test model o
  settled_cell test model o h = record {
    verdict = h.verdict;
    is = verdicts test model ∙ h.is;
    settled = settled_alike h.verdict h.settled;
    carries =
        subst (λ (ms : List (Memo NodeContent)). Carries outcome_in ms h.verdict o) (sym memos)
        h.carries;
  }

  open_cell : (test model : List ℕ) → IsOpenCell stamped_net live_cells b test model
      → IsOpenCell stamped_net live_cells c test model
  open_cell test model h = record {
    verdict = h.verdict;
    is = verdicts test model ∙ h.is;
    unsettled = λ s. h.unsettled (settled_before h.verdict s);
  }

  shown_alike : (test model : List ℕ) (shown : Shown Outcome)
      → IsCellShown stamped_net live_cells b test model shown → IsCellShown stamped_net live_cells c test model shown
  shown_alike test model (Settled o) h = settled_cell test model o.now h
  shown_alike test model Open h = open_cell test model h
  shown_alike test model NoCell h = verdicts test model ∙ h

pub refused_changes_nothing : RefusedChangesNothing
refused_changes_nothing events start old new s run step =
    let sound = sound_after events start old s run in
    let since = step.texts.since old.texts (since_itself old.texts sound) in
    let texts = since.same step.texts.last in
    let nodes = step.texts.net in
    let verdicts = same_verdicts old.texts new.texts sound since.sound texts (ap (λ (net : Net GivenContent). net.used) nodes) in
    record {
      texts = texts;
      nodes = nodes;
      memos = step.memos;
      claims = step.claims;
      taken = step.taken;
      cells = λ test model shown. (
        (λ is. shown_alike new old (sym nodes) (sym step.memos) (λ t m. sym (verdicts t m)) test
            model shown is),
        (λ is. shown_alike old new nodes step.memos verdicts test model shown is),
      );
    }

pub refused_edit_changes_nothing : RefusedEditChangesNothing
refused_edit_changes_nothing events start old new e fault s run edited =
    refused_changes_nothing events start old new s run edited.1
