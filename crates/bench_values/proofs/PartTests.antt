-- The space of a test depends on its parts alone.
use Rattle.std.proofs.Common.{ℕ, ◌<◌, ◌≡◌, List, length, get_or, map, vec_len, sym, ap, subst, ◌∙◌}
use Rattle.std.proofs.Math.ListN.{get_or-map}
use Rattle.std.proofs.lemmas.List.{length-map}
use Rattle.text_values.specs.declared.test.InitEntry.{InitEntry}
use Rattle.text_values.specs.declared.test.Step.{Step}
use Rattle.text_values.specs.declared.test.Test.{Test}
use Rattle.text_values.specs.declared.test.Thread.{Thread}
use Rattle.text_values.specs.TestValue.{thread_steps}
use Rattle.thread_runs.specs.declared.instruction.Program.{Program}
use Rattle.thread_runs.specs.declared.value.Value.{Value}
use Rattle.ppc_lowering.specs.Lowering.{IsProgram, AreNamesOf, AreInitial, AreFiles, LowersTo, test_names}
use Rattle.candidate_spaces.specs.declared.candidate.Space.{Space}
use Rattle.ppc_lowering.specs.declared.fault.EvalRefusal.{EvalRefusal}
use Rattle.ppc_lowering.specs.declared.fault.EvalRefusal.TheVariants.{TooManyEvents, TooManyValues, TooManyRuns, TooManyCandidates, AddressFault, TooManyCombinations}
use Rattle.candidates.specs.Executions.{Execution}
use Rattle.candidates.specs.Listed.{ListsExecutions, AreTestExecutions, HasNoDomain, IsSpaceRefusal}
use Rattle.candidates.proofs.Outcomes.{shown_alike}
use Rattle.bench_values.specs.Laws.{HasOneSpace, IsOfEachTest}
use Rattle.bench_values.specs.Parts.{SpacePartsContent, HasParts}
use Rattle.bench_values.specs.Spaces.{space_content}

module _ (parts : SpacePartsContent) (t u : Test) (h : HasParts parts t) (k : HasParts parts u)
  where
    inits : t.init.items ≡ u.init.items
    inits = h.init ∙ sym k.init

    steps : map thread_steps t.threads.items ≡ map thread_steps u.threads.items
    steps = h.threads ∙ sym k.threads

    lengths : length t.threads.items ≡ length u.threads.items
    lengths =
        sym (length-map t.threads.items thread_steps) ∙ ap (λ (l : List (List Step)). length l) steps
        ∙ length-map u.threads.items thread_steps

    counts : vec_len t.threads ≡ vec_len u.threads
    counts = t.threads.ok.0 ∙ lengths ∙ sym u.threads.ok.0

    same_names : (names : List (List ℕ)) → AreNamesOf (test_names t) names
        → AreNamesOf (test_names u) names
    same_names names are = record {
      rising = are.rising;
      exact =
          λ n. (
            (λ c. (k.locations n).1 ((h.locations n).0 ((are.exact n).0 c))),
            (λ c. (are.exact n).1 ((h.locations n).1 ((k.locations n).0 c))),
          );
    }

    same_lines : (n : ℕ) (thread : Thread)
        → thread_steps (get_or t.threads.items n thread) ≡ thread_steps (get_or u.threads.items n thread)
    same_lines n thread =
        sym (get_or-map thread_steps t.threads.items n thread)
        ∙ ap (λ (l : List (List Step)). get_or l n (thread_steps thread)) steps
        ∙ get_or-map thread_steps u.threads.items n thread

    same_program : (p : Program) → IsProgram t p → IsProgram u p
    same_program p is = record {
      locations = same_names p.locations.items is.locations;
      initial =
          subst (λ (l : List InitEntry). AreInitial l p.locations.items p.initial.items) inits
          is.initial;
      threads = record {
        each_one = is.threads.each_one ∙ lengths;
        each =
            λ n thread made lt. subst
            (λ (l : List Step). LowersTo l (get_or p.threads.items n made).items)
            (same_lines n thread) (is.threads.each n thread made
            (subst (λ (m : ℕ). n < m) (sym lengths) lt));
      };
      registers =
          subst (λ (m : ℕ). AreFiles u.init.items p.locations.items m p.registers.items) counts
          (subst
          (λ (l : List InitEntry).
          AreFiles l p.locations.items (vec_len t.threads) p.registers.items) inits
          is.registers);
    }

    same_executions : (initial : List Value) (xs : List Execution) → AreTestExecutions t initial xs
        → AreTestExecutions u initial xs
    same_executions initial xs h = record {
      program = h.program;
      values = h.values;
      of_test = same_program h.program h.of_test;
      starts = h.starts;
      domain = h.domain;
      executions = h.executions;
    }

    pub same_lists : (s : Space) → ListsExecutions t s → ListsExecutions u s
    same_lists s h = record {
      initial = h.initial;
      all = h.all;
      executions = same_executions h.initial h.all h.executions;
      few = h.few;
      sound = h.sound;
      shown = h.shown;
      locations = same_names s.locations.items h.locations;
    }

    no_domain : (r : EvalRefusal) → HasNoDomain t r → HasNoDomain u r
    no_domain r h = (h.0, same_program h.0 h.1, h.2)

    pub same_refusal : (r : EvalRefusal) → IsSpaceRefusal t r → IsSpaceRefusal u r
    same_refusal TooManyEvents h = no_domain TooManyEvents h
    same_refusal TooManyValues h = no_domain TooManyValues h
    same_refusal TooManyRuns h = no_domain TooManyRuns h
    same_refusal TooManyCombinations h = no_domain TooManyCombinations h
    same_refusal TooManyCandidates h =
        record {
          initial = h.initial;
          all = h.all;
          executions = same_executions h.initial h.all h.executions;
          many = h.many;
        }
    same_refusal AddressFault h = record {
      initial = h.initial;
      all = h.all;
      executions = same_executions h.initial h.all h.executions;
      few = h.few;
      execution = h.execution;
      there = h.there;
      fault = h.fault;
    }

pub of_each : (parts : SpacePartsContent) (t : Test) → IsOfEachTest parts t
of_each parts t has = (
  (λ s h. record {
    space = h.space;
    lists = same_lists parts h.test t h.has_parts has h.space h.lists;
    content = h.content;
  }),
  (λ r h. same_refusal parts h.test t h.has_parts has r h.of_test),
)

pub one_space : (parts : SpacePartsContent) → HasOneSpace parts
one_space parts s r h k =
    let lists : ListsExecutions h.test k.space = same_lists parts k.test h.test k.has_parts h.has_parts k.space k.lists in
    let same = shown_alike h.test h.space k.space h.lists lists in
    let contents : space_content h.space ≡ space_content k.space = λ i. record { locations = same.0 i; executions = same.1 i } in
    h.content ∙ contents ∙ sym k.content
