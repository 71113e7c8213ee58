-- The answers of a check where candidates are kept: what it says of the others is not asked.
use Rattle.std.specs.Prelude.{ℕ, ◌≡◌, ◌-◌, ◌&&◌, Bool, true, false, Option, Some, None, List, length, slice_index_or}
use denote.Ref.{Bor}
use Rattle.binding_graph.specs.declared.resolved.CheckCode.{CheckCode}
use Rattle.binding_graph.specs.declared.resolved.Role.{Role}
use Rattle.candidate_spaces.specs.declared.candidate.Space.{Space}
use Rattle.cat_machine.specs.declared.column.Column.{Column}
use Rattle.cat_eval.specs.OverNames.{IsAnswerOver, AreAnswersOver}
use Rattle.cat_machine.specs.Seen.{NamedValues}
use Rattle.cat_machine.specs.Steady.{HasAsLast}
use Rattle.cat_machine.specs.Values.{AnswersOf}

-- whether the candidate of that number is kept
abbrev pub is_kept_at : List Bool → ℕ → Bool
is_kept_at kept k = slice_index_or kept k false

-- the answers of all candidates where they are kept, and elsewhere false
pub record AreWhere (is_kept : ℕ → Bool) (all answers : List Bool) : Type 0 where
  pub long : length answers ≡ length all
  pub each : (k : ℕ) → slice_index_or answers k false ≡ (is_kept k && slice_index_or all k false)

-- the answers of an item that is a check over the candidates of a space, where they are kept, and
-- elsewhere false
abbrev pub KeptAnswersOf : List Bool → Role → List (Bor Column) → Space → List Bool → Type 0
KeptAnswersOf kept role inputs space answers =
    (all : List Bool) × AnswersOf role inputs space all × AreWhere (is_kept_at kept) all answers

-- ---- on the way through the candidates

-- whether it is among those that are kept, where they are told, and else all are
abbrev pub is_asked_at : Option (Bor (List Bool)) → ℕ → Bool
is_asked_at None k = true
is_asked_at (Some kept) k = is_kept_at kept.now k

abbrev pub AreAskedOver : CheckCode → List (Bor Column) → Option (Bor (List Bool))
    → List NamedValues → List Bool → Type 0
AreAskedOver check inputs kept bases answers =
    (all : List Bool) × AreAnswersOver check inputs bases all
    × AreWhere (is_asked_at kept) all answers

-- what is known of the last candidate is its answer
abbrev pub IsLastAnswer : CheckCode → List (Bor Column) → List NamedValues → Option Bool → Type 0
IsLastAnswer check inputs bases known =
    (answer : Bool) (base : NamedValues) → known ≡ Some answer → HasAsLast bases base
    → IsAnswerOver check inputs base (length bases - 1) check.code.kind answer
