-- The table of a test's final states, with their counts in each group of models.
use Rattle.std.specs.Prelude.{ℕ, ◌==◌, if◌then◌else◌, Option, Some, None, List, [], ◌++◌, decimal, codes, slice_get}
use Rattle.std.specs.List.{flat_map}
use Rattle.escaped_texts.specs.Elements.{element}
use Rattle.escaped_texts.specs.Escaped.{escaped}
use Rattle.outcome_texts.specs.Cells.{holds_sign}
use Rattle.outcome_states.specs.declared.answer.CountedState.{CountedState}
use Rattle.outcome_states.specs.declared.answer.Outcome.{Outcome}
use Rattle.report_details.specs.Reported.{ReportedModel}
use Rattle.report_details.specs.Groups.{letter}
use Rattle.report_details.specs.Marks.{class_of, scope_of, heading}
use Rattle.report_details.specs.States.{all_states, count_in, is_counted_apart}
use Rattle.report_details.specs.Names.{group_text}

-- a dot for none
unfoldable pub count_text : ℕ → List ℕ
count_text count = if count == 0 then codes "&#183;" else decimal count

unfoldable pub count_cell : CountedState → Outcome → List ℕ
count_cell s o = element (codes "td") [] (count_text (count_in s o))

abbrev pub count_if : CountedState → Option Outcome → List ℕ
count_if s None = []
count_if s (Some o) = count_cell s o

-- the count under the first model of a group
abbrev pub count_of : CountedState → List Outcome → ℕ → List ℕ
count_of s outcomes first = count_if s (slice_get outcomes first)

abbrev pub counts_text : CountedState → List Outcome → (firsts : List ℕ) → List ℕ
counts_text s outcomes firsts = flat_map (count_of s outcomes) firsts

-- a state whose counts differ is marked
unfoldable pub state_class : List Outcome → CountedState → List ℕ
state_class outcomes s = if is_counted_apart outcomes s then codes "d" else []

unfoldable pub state_name : CountedState → List ℕ
state_name s =
    element (codes "th") (scope_of (codes "row")) (element (codes "code") [] (escaped s.text))

-- a state, whether it satisfies the proposition, and its count in each group
unfoldable pub state_row : List Outcome → (firsts : List ℕ) → CountedState → List ℕ
state_row outcomes firsts s =
    element (codes "tr") (class_of (state_class outcomes s))
    (state_name s ++ heading (codes "td") (holds_sign s.holds) ++ counts_text s outcomes firsts)

abbrev pub state_rows : List Outcome → (firsts : List ℕ) → List ℕ
state_rows outcomes firsts = flat_map (state_row outcomes firsts) (all_states outcomes)

-- the letter of a group and its models
unfoldable pub group_head : List ReportedModel → (groups : List ℕ) → ℕ → List ℕ
group_head models groups first =
    element (codes "th") (scope_of (codes "col"))
    (letter first ++ escaped (codes ": ") ++ escaped (group_text models groups first))

abbrev pub group_heads : List ReportedModel → (groups firsts : List ℕ) → List ℕ
group_heads models groups firsts = flat_map (group_head models groups) firsts

unfoldable pub state_heads : List ReportedModel → (groups firsts : List ℕ) → List ℕ
state_heads models groups firsts =
    element (codes "tr") []
    (heading (codes "th") (codes "State") ++ heading (codes "th") (codes "P")
    ++ group_heads models groups firsts)

unfoldable pub states_table : List ReportedModel → (groups firsts : List ℕ) → List Outcome → List ℕ
states_table models groups firsts outcomes =
    element (codes "table") (class_of (codes "num"))
    (element (codes "thead") [] (state_heads models groups firsts)
    ++ element (codes "tbody") [] (state_rows outcomes firsts))

unfoldable pub states_heading : List ℕ
states_heading =
    heading (codes "h3") (codes "Final states and how many kept executions end in them")

unfoldable pub states_part : List ReportedModel → (groups firsts : List ℕ) → List Outcome → List ℕ
states_part models groups firsts outcomes =
    element (codes "div") []
    (states_heading
    ++ element (codes "div") (class_of (codes "wrap")) (states_table models groups firsts outcomes))
