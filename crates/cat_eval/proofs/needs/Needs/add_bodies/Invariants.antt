use Rattle.std.proofs.Common.{◌≡◌, ◌||◌, ◌++◌, take}
use Rattle.cat_eval.specs.Needed.{ListsNeeded, bodies_names, bodies_read, bodies_order}
use Rattle.cat_eval.proofs.needs.Needs.add_bodies.Given as goal

abbrev pub invariant-loop-body : goal.invariant-loop-body
invariant-loop-body l =
    (l.self.reads ≡ (l.initial.self.reads || bodies_read (take l.body-index l.bodies)))
    × (l.self.orders ≡ (l.initial.self.orders || bodies_order (take l.body-index l.bodies)))
    × ListsNeeded l.self.names.items (l.initial.self.names.items
    ++ bodies_names (take l.body-index l.bodies))
