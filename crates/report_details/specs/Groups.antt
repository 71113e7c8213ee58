-- Which models say the same of a test.
use Rattle.std.specs.Prelude.{ℕ, ◌+◌, ◌%◌, ◌/◌, ◌==◌, not, nat_lt, Bool, true, false, if◌then◌else◌, List, [], ◌∷◌, ◌++◌, map, decimal, codes}
use Rattle.std.specs.List.{list_any, flat_map}
use Rattle.outcome_states.specs.declared.answer.Outcome.{Outcome}
use Rattle.outcome_states.specs.declared.answer.OutcomeResult.{OutcomeResult}
use Rattle.outcome_states.specs.declared.answer.OutcomeResult.TheVariants.{Refused, Evaluated}
use Rattle.outcome_texts.specs.Differences.{results_differ}

-- the index of the first of these outcomes that does not differ from another, where the first of
-- them has this index
abbrev pub first_like : ℕ → List Outcome → Outcome → ℕ
first_like index [] o = index
first_like index (p ∷ outcomes) o =
    if results_differ p.result o.result then first_like (index + 1) outcomes o else index

-- for each model the first model that says the same of the test
abbrev pub groups_of : List Outcome → List ℕ
groups_of outcomes = map (first_like 0 outcomes) outcomes

-- whether a group is another than that of the first model
abbrev pub is_other : ℕ → Bool
is_other group = not (group == 0)

abbrev pub has_other : (groups : List ℕ) → Bool
has_other groups = list_any is_other groups

-- whether two of the models say something else of the test
abbrev pub are_told_apart : List Outcome → Bool
are_told_apart outcomes = has_other (groups_of outcomes)

abbrev pub is_refusal : OutcomeResult → Bool
is_refusal (Refused refusal) = true
is_refusal (Evaluated e) = false

-- whether a model refuses the test, or has a fault
abbrev pub has_refusal : List Outcome → Bool
has_refusal outcomes = list_any (λ o. is_refusal o.result) outcomes

-- behind `z` the letters come again, with a number
abbrev pub letter_number : ℕ → List ℕ
letter_number group = if nat_lt group 26 then [] else decimal (group / 26)

-- the letter of a group
unfoldable pub letter : ℕ → List ℕ
letter group = (97 + group % 26) ∷ letter_number group

-- the letter of a group, and a space
unfoldable pub key : ℕ → List ℕ
key group = letter group ++ codes " "

-- the letters of the models' groups
abbrev pub keys_text : (groups : List ℕ) → List ℕ
keys_text groups = flat_map key groups
