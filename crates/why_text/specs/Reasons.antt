-- How the reason is told why a check refuses an execution: the check, the events of the reason, and
-- the steps that lead from the first of them round to it.
use Rattle.std.specs.Prelude.{ℕ, List, ◌++◌, Bool, Option, Some, None, codes}
use Rattle.std.specs.List.{flat_map}
use Rattle.why_text.specs.declared.reason.Reason.{Reason}
use Rattle.why_text.specs.declared.reason.ToldStep.{ToldStep}
use Rattle.why_text.specs.Events.{event_name, event_line}

-- a step, with the name that carries it: ` -rfe-> b`
unfoldable pub step_text : ℕ → ToldStep → List ℕ
step_text initial step = codes " -" ++ step.label.items ++ codes "-> " ++ event_name initial step.to

-- the steps from the first event on; a negated check has none
unfoldable pub walk_line : ℕ → Option ℕ → List ToldStep → List ℕ
walk_line initial None steps = codes "  What the check asks for holds, and it is negated.\n"
walk_line initial (Some first) steps =
    codes "  " ++ event_name initial first ++ flat_map (step_text initial) steps ++ codes "\n"

unfoldable pub check_line : List ℕ → List ℕ
check_line check = check ++ codes "\n"

-- with values or without, over locations of these names, the first so many events being initial
-- stores
abbrev pub reason_text : Bool → List (List ℕ) → ℕ → Reason → List ℕ
reason_text shows locations initial r =
    check_line r.check.items ++ flat_map (event_line shows locations initial) r.events.items
    ++ walk_line initial r.first r.steps.items
