-- What a cell shows, and how a cell is told on one line: read this first, then Log, Columns and
-- Differences.
use Rattle.std.specs.Prelude.{ℕ, List, [], ◌++◌, Bool, true, false, decimal, codes}
use Rattle.std.specs.List.{flat_map}
use Rattle.outcome_states.specs.declared.answer.CountedState.{CountedState}
use Rattle.outcome_states.specs.declared.answer.Outcome.{Outcome}
use Rattle.outcome_states.specs.declared.answer.OutcomeResult.{OutcomeResult}
use Rattle.outcome_states.specs.declared.answer.OutcomeResult.TheVariants.{Refused, Evaluated}
use Rattle.outcome_texts.specs.declared.cell.Shown.{Shown}
use Rattle.outcome_texts.specs.declared.cell.Shown.TheVariants as shown
use Rattle.outcome_texts.specs.Log.{line_end, observation_text, refusal_text, refusal_line, log_of}

-- a test under a model: there is no such cell, its outcome is not known yet, or this is its outcome
pub data Cell : Type 0 where
  NoCell : Cell
  Open : Cell
  Settled : Outcome → Cell

abbrev pub cell_of : Shown → Cell
cell_of shown.NoCell = NoCell
cell_of shown.Open = Open
cell_of (shown.Settled outcome) = Settled outcome.now

-- an outcome as a field: the observation with its counts, or the refusal
abbrev pub result_field : OutcomeResult → List ℕ
result_field (Refused refusal) = refusal_text refusal
result_field (Evaluated e) = observation_text e

abbrev pub cell_field : Cell → List ℕ
cell_field NoCell = codes "none"
cell_field Open = codes "open"
cell_field (Settled o) = result_field o.result

-- the log of a cell of a test of this name
abbrev pub cell_log : List ℕ → Cell → List ℕ
cell_log name NoCell = []
cell_log name Open = codes "Open\n"
cell_log name (Settled o) = log_of name o

-- whether a state satisfies the proposition
abbrev pub holds_sign : Bool → List ℕ
holds_sign true = codes "*>"
holds_sign false = codes ":>"

-- a state with its count, on a line
abbrev pub count_line : CountedState → List ℕ
count_line s = decimal s.count ++ holds_sign s.holds ++ s.text ++ line_end

abbrev pub result_counts : OutcomeResult → List ℕ
result_counts (Refused refusal) = refusal_line refusal
result_counts (Evaluated e) = flat_map count_line e.states

-- the counts of a cell
abbrev pub cell_counts : Cell → List ℕ
cell_counts NoCell = []
cell_counts Open = codes "Open\n"
cell_counts (Settled o) = result_counts o.result
