-- What the reader holds of a text, as the machine sees it.
use Rattle.std.specs.Prelude.{◌≡◌, ℕ, List, Bool, true, false, Option, Some, Result, Ok, Err}
use Rattle.litmus_tokens.specs.declared.rule.LitmusRule.{LitmusRule}
use Rattle.text_values.specs.TestValue.{Content, formula_of}
use Rattle.litmus_tokens.specs.declared.step.StepError.{StepError}
use Rattle.litmus_tokens.specs.declared.condition.Frame as code_frame
use Rattle.litmus_tokens.specs.declared.condition.Expectation as code_expectation
use Rattle.litmus_tokens.specs.ConditionReading.{condition_stack_of, condition_expectation_of}
use Rattle.text_values.specs.declared.test.Quantifier.{Quantifier}
use Rattle.litmus_table.specs.Laws.{steps_of}
use Rattle.litmus_table.specs.Reading.{table_state_of}
use Rattle.litmus_words.specs.Taking.{RefusesStep}
use Rattle.litmus_ppc.specs.declared.fault.LitmusFault.{LitmusFault}
use Rattle.litmus_ppc.specs.declared.fault.LitmusFault.TheVariants as faults
use Rattle.litmus_ppc.specs.declared.parts.Part as code_part
use Rattle.litmus_ppc.specs.declared.draft.Draft as code_draft
use Rattle.litmus_ppc.specs.declared.reader.Reader.{Reader}
use Rattle.litmus_ppc.specs.InitReading.{block_of}
use Rattle.litmus_ppc.specs.PartReading.{part_of}
use Rattle.litmus_grammar.specs.TextMachine as machine

abbrev pub draft_of : code_draft.Draft → machine.Draft
draft_of h = record {
  name = h.name;
  init = block_of h.init;
  table = table_state_of h.table;
  observed = h.observed.items;
  quantifier = h.condition.quantifier;
  formula = formula_of h.condition.proposition;
}

-- the test of a draft
abbrev pub test_of : machine.Draft → Content
test_of h = record {
  name = h.name;
  init = h.init.entries;
  threads = steps_of h.table.threads;
  observed = h.observed;
  quantifier = h.quantifier;
  condition = h.formula;
}

abbrev pub state_of : Reader → machine.TextState
state_of r =
    record {
      kind = r.kind;
      threads = r.threads;
      stage = r.stage;
      part = part_of r.part;
      draft = draft_of r.draft;
    }

-- The step that a function took is that of the machine, unless memory ran out: the next part and
-- the next draft,
abbrev pub StepsText : Result (Unit {0}) StepError → code_part.Part → code_draft.Draft
    → Option machine.Next → Type 0
StepsText (Ok u) p h made = made ≡ Some (record { part = part_of p; draft = draft_of h })
StepsText (Err e) p h made = RefusesStep e made

-- the same in a proposition, which ends or not,
abbrev pub ReadsProposition : Result Bool StepError → Quantifier → List code_frame.Frame → ℕ
    → code_expectation.Expectation → code_draft.Draft → Option machine.Next → Type 0
ReadsProposition (Ok true) q frames used expected h made =
    made ≡ Some (record { part = machine.Done; draft = draft_of h })
ReadsProposition (Ok false) q frames used expected h made =
    made
    ≡ Some (record {
      part =
          machine.Proposition q (condition_stack_of frames) used (condition_expectation_of expected);
      draft = draft_of h;
    })
ReadsProposition (Err e) q frames used expected h made = RefusesStep e made

-- and the reader behind a token at an offset.
abbrev pub FailsAt : {Y : Type 0} → LitmusFault → Result Y (LitmusRule × ℕ) → Type 0
FailsAt (faults.OutOfMemory e) made = Unit {0}
FailsAt (faults.Refused rule offset) made = made ≡ Err (rule, offset)

abbrev pub StepsAt : Result (Unit {0}) LitmusFault → Reader → machine.TextResult → Type 0
StepsAt (Ok u) r made = made ≡ Ok (state_of r)
StepsAt (Err e) r made = FailsAt e made

-- the reader behind a whole text
abbrev pub Runs : Result Reader LitmusFault → machine.TextResult → Type 0
Runs (Ok r) made = made ≡ Ok (state_of r)
Runs (Err e) made = FailsAt e made
