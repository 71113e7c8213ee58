-- How the checks of labels go from step to step. What they find is defined in Late, which does not
-- rest on this.
use Rattle.std.specs.Prelude.{◌≡◌, ℕ, ◌+◌, List, [], ◌∷◌, nat_lt, Option, Some, None, if◌then◌else◌}
use Rattle.std.specs.Str.{bytes_eq}
use Rattle.std.specs.Ordering.{nat_cmp}
use Rattle.std.specs.Cmp.Lexicographic.{slice_cmp}
use Rattle.std.specs.BTreeMap.{BTreeMap, get_by}
use denote.Ref.{Bor}
use Rattle.litmus_tokens.specs.declared.rule.LitmusRule.{LitmusRule}
use Rattle.litmus_tokens.specs.declared.rule.LitmusRule.TheVariants as rules
use Rattle.litmus_tokens.specs.Texts as texts
use Rattle.litmus_tokens.specs.Texts.{StandsAt}
use Rattle.text_values.specs.declared.instruction.Instruction.{Instruction}
use Rattle.text_values.specs.declared.instruction.Instruction.TheVariants as instructions
use Rattle.text_values.specs.declared.test.Step.{Step}
use Rattle.text_values.specs.declared.test.Step.TheVariants as steps
use Rattle.litmus_table.specs.declared.late.LateFault.{LateFault}
use Rattle.litmus_table.specs.Late.{Late}

-- the number of the step that first defines a label, where the first step has this number
abbrev pub first_from : List ℕ → ℕ → List Step → Option ℕ
first_from w k [] = None
first_from w k (steps.Label v ∷ ss) = if bytes_eq v w then Some k else first_from w (k + 1) ss
first_from w k (steps.Instruction i ∷ ss) = first_from w (k + 1) ss

-- a map has just the labels that these steps define, with the number of the first step that defines
-- each
abbrev pub AreFirst : BTreeMap (Bor (List ℕ)) ℕ → List Step → Type 0
AreFirst m ss = (w : List ℕ) → get_by (λ k. slice_cmp nat_cmp w k.now) m ≡ first_from w 0 ss

-- a label, as the step of this number, that is first defined there
abbrev pub label_rule : Option ℕ → ℕ → Option LitmusRule
label_rule None i = None
label_rule (Some first) i = if nat_lt first i then Some rules.Label else None

-- a branch to it
abbrev pub target_rule : Option ℕ → ℕ → Option LitmusRule
target_rule None i = Some rules.Label
target_rule (Some first) i = if nat_lt first i then Some rules.BackwardBranch else None

abbrev pub instruction_rule : (List ℕ → Option ℕ) → Instruction → ℕ → Option LitmusRule
instruction_rule first (instructions.BranchIf condition label) i = target_rule (first label) i
instruction_rule first (instructions.Branch label) i = target_rule (first label) i
instruction_rule first instruction i = None

abbrev pub step_rule : (List ℕ → Option ℕ) → Step → ℕ → Option LitmusRule
step_rule first (steps.Label label) i = label_rule (first label) i
step_rule first (steps.Instruction instruction) i = instruction_rule first instruction i

abbrev pub or_later : Option LitmusRule → ℕ → Option LateFault → Option LateFault
or_later None offset later = later
or_later (Some rule) offset later = Some (record { rule = rule; offset = offset })

-- the first step from this number on that breaks a rule
abbrev pub first_fault : (List ℕ → Option ℕ) → ℕ → List Step → List ℕ → Option LateFault
first_fault first i [] offsets = None
first_fault first i (s ∷ ss) [] = None
first_fault first i (s ∷ ss) (p ∷ ps) =
    or_later (step_rule first s i) p (first_fault first (i + 1) ss ps)

-- what was found is what the definitions find, and its byte is where it stands
abbrev pub IsFoundAt : List texts.TokenAt → Option LateFault → Option Late → Type 0
IsFoundAt text None None = Unit {0}
IsFoundAt text (Some fault) (Some late) =
    (fault.rule ≡ late.rule) × StandsAt text late.before fault.offset
IsFoundAt text found late = ⊥
