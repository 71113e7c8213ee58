-- What a test gives depends on what it says, and not on where it lies in memory.
use Rattle.std.proofs.Common.{◌≡◌, ℕ, ◌<◌, List, [], ◌++◌, length, map, Vec, vec_len, sym, ap, ◌∙◌, subst, arith}
use Rattle.std.specs.Prelude.{slice_index_or}
use Rattle.std.specs.List.{flat_map}
use Rattle.std.specs.declared.alloc.Global.{Global}
use Rattle.std.proofs.lemmas.List.{get_or-map, length-map}
use Rattle.text_values.specs.declared.test.Step.{Step}
use Rattle.text_values.specs.declared.test.Thread.{Thread}
use Rattle.text_values.specs.declared.test.Test.{Test}
use Rattle.text_values.specs.TestValue.{Content, thread_steps, content_of}
use Rattle.litmus_printing.specs.Printing.{condition_text}
use Rattle.text_values.specs.declared.model.ModelText.{ModelText}
use Rattle.thread_runs.specs.declared.instruction.Line.{Line}
use Rattle.thread_runs.specs.declared.instruction.Program.{Program}
use Rattle.thread_runs.specs.declared.value.Value.{Value}
use Rattle.ppc_lowering.specs.Lowering.{AreNamesOf, AreInitial, AreFiles, LowersTo, AreThreadLines, IsProgram, entry_names, place_names, formula_names}
use Rattle.candidate_spaces.specs.declared.candidate.Space.{Space}
use Rattle.ppc_lowering.specs.declared.fault.EvalRefusal.{EvalRefusal}
use Rattle.ppc_lowering.specs.declared.fault.EvalRefusal.TheVariants.{TooManyEvents, TooManyValues, TooManyRuns, TooManyCandidates, AddressFault, TooManyCombinations}
use Rattle.candidates.specs.Executions.{Execution}
use Rattle.candidates.specs.Listed.{AreTestExecutions, ListsExecutions, IsSpaceRefusal}
use Rattle.binding_graph.specs.declared.resolved.ResolvedItem.{ResolvedItem}
use Rattle.outcome_states.specs.declared.answer.Evaluation.{Evaluation}
use Rattle.outcome_states.specs.declared.answer.OutcomeResult.{OutcomeResult}
use Rattle.outcome_states.specs.declared.answer.OutcomeResult.TheVariants.{Refused, Evaluated}
use Rattle.outcome_states.specs.declared.answer.Refusal.TheVariants as refusals
use Rattle.verdict.specs.Evaluated.{IsEvaluation}
use Rattle.candidate_spaces.specs.Space.{shown_in}
use Rattle.from_scratch.specs.Cell.{IsEvaluationBy}
use Rattle.from_scratch.specs.FromScratch.{IsResultOf}
use Rattle.evaluation_laws.specs.SliceLaws.{GiveTheSame}

-- the names of the locations of a test that says this
abbrev names_in : Content → List (List ℕ)
names_in c =
    (flat_map entry_names c.init ++ formula_names c.condition) ++ flat_map place_names c.observed

steps_at : (threads others : List Thread) → map thread_steps threads ≡ map thread_steps others
    → (k : ℕ) (thread : Thread) → k < length others
    → (slice_index_or threads k thread).steps.items ≡ (slice_index_or others k thread).steps.items
steps_at threads others same k thread lt =
    let many : length threads ≡ length others = sym (length-map threads thread_steps) ∙ (ap length same ∙ length-map others thread_steps) in
    sym (get_or-map thread_steps threads k thread [] (omega arith))
    ∙ (ap (λ (l : List (List Step)). slice_index_or l k []) same
    ∙ get_or-map thread_steps others k thread [] lt)

threads_kept : (threads others : List Thread) (lines : List (Vec Line Global))
    → map thread_steps threads ≡ map thread_steps others → AreThreadLines threads lines
    → AreThreadLines others lines
threads_kept threads others lines same h =
    let many : length threads ≡ length others = sym (length-map threads thread_steps) ∙ (ap length same ∙ length-map others thread_steps) in
    record {
      each_one = h.each_one ∙ many;
      each =
          λ k thread made lt. subst
          (λ (steps : List Step). LowersTo steps (slice_index_or lines k made).items)
          (steps_at threads others same k thread lt) (h.each k thread made (omega arith));
    }

module _ (test other : Test) (same : content_of test ≡ content_of other) where
  count_kept : vec_len test.threads ≡ vec_len other.threads
  count_kept =
      let many : length test.threads.items ≡ length other.threads.items = sym (length-map test.threads.items thread_steps) ∙ (ap (λ (c : Content). length c.threads) same ∙ length-map other.threads.items thread_steps) in
      omega (arith, test.threads.ok.0, other.threads.ok.0)

  program_kept : (p : Program) → IsProgram test p → IsProgram other p
  program_kept p h = record {
    locations = subst (λ (c : Content). AreNamesOf (names_in c) p.locations.items) same h.locations;
    initial =
        subst (λ (c : Content). AreInitial c.init p.locations.items p.initial.items) same h.initial;
    threads =
        threads_kept test.threads.items other.threads.items p.threads.items
        (ap (λ (c : Content). c.threads) same) h.threads;
    registers =
        subst (λ (n : ℕ). AreFiles other.init.items p.locations.items n p.registers.items)
        count_kept (subst
        (λ (c : Content).
        AreFiles c.init p.locations.items (vec_len test.threads) p.registers.items) same
        h.registers);
  }

  executions_kept : (initial : List Value) (xs : List Execution) → AreTestExecutions test initial xs
      → AreTestExecutions other initial xs
  executions_kept initial xs h =
      record {
        program = h.program;
        values = h.values;
        of_test = program_kept h.program h.of_test;
        starts = h.starts;
        domain = h.domain;
        executions = h.executions;
      }

  pub lists_kept : (space : Space) → ListsExecutions test space → ListsExecutions other space
  lists_kept space h = record {
    initial = h.initial;
    all = h.all;
    executions = executions_kept h.initial h.all h.executions;
    few = h.few;
    sound = h.sound;
    shown = h.shown;
    locations =
        subst (λ (c : Content). AreNamesOf (names_in c) space.locations.items) same h.locations;
  }

  pub refusal_kept : (r : EvalRefusal) → IsSpaceRefusal test r → IsSpaceRefusal other r
  refusal_kept TooManyEvents h = (h.0, program_kept h.0 h.1, h.2)
  refusal_kept TooManyValues h = (h.0, program_kept h.0 h.1, h.2)
  refusal_kept TooManyRuns h = (h.0, program_kept h.0 h.1, h.2)
  refusal_kept TooManyCombinations h = (h.0, program_kept h.0 h.1, h.2)
  refusal_kept TooManyCandidates h =
      record {
        initial = h.initial;
        all = h.all;
        executions = executions_kept h.initial h.all h.executions;
        many = h.many;
      }
  refusal_kept AddressFault h =
      record {
        initial = h.initial;
        all = h.all;
        executions = executions_kept h.initial h.all h.executions;
        few = h.few;
        execution = h.execution;
        there = h.there;
        fault = h.fault;
      }

  evaluation_kept : (items : List ResolvedItem) (space : Space) (e : Evaluation)
      → IsEvaluationBy items space test e → IsEvaluationBy items space other e
  evaluation_kept items space e h = (
    h.0,
    h.1,
    h.2,
    subst
        (λ (c : Content). IsEvaluation space.locations.items (shown_in space) c.quantifier
        c.condition c.observed h.0 h.1 e) same h.3,
  )

  result_kept : (model : ModelText) (r : OutcomeResult) → IsResultOf test model r
      → IsResultOf other model r
  result_kept model (Refused (refusals.Model k)) h = h
  result_kept model (Refused (refusals.Space r)) h = (h.0, refusal_kept r h.1)
  result_kept model (Evaluated e) h =
      (h.0, (h.1.0, h.1.1, h.1.2, lists_kept h.1.2 h.1.3, evaluation_kept h.1.0 h.1.2 e h.1.4))

pub equal_tests : (test other : Test) (model : ModelText) → GiveTheSame test other model
equal_tests test other model same o h = record {
  kind = h.kind ∙ ap (λ (c : Content). c.quantifier) same;
  condition = h.condition ∙ ap (λ (c : Content). condition_text c.quantifier c.condition) same;
  result = result_kept test other same model o.result h.result;
}
