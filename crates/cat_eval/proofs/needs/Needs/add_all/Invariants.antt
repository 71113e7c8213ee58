use Rattle.std.proofs.Common.{◌≡◌, ◌||◌, ◌++◌, take}
use Rattle.cat_eval.specs.Needed.{ListsNeeded, predefined_names_in, steps_read, steps_order}
use Rattle.cat_eval.proofs.needs.Needs.add_all.Given as goal

abbrev pub invariant-loop-step : goal.invariant-loop-step
invariant-loop-step l =
    (l.self.reads ≡ (l.initial.self.reads || steps_read (take l.step-index l.steps)))
    × (l.self.orders ≡ (l.initial.self.orders || steps_order (take l.step-index l.steps)))
    × ListsNeeded l.self.names.items (l.initial.self.names.items
    ++ predefined_names_in (take l.step-index l.steps))
