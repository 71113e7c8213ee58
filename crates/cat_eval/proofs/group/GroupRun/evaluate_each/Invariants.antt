use Rattle.std.proofs.Common.{ℕ, ◌≡◌, ◌<◌, ◌≤◌, [], length, slice_index_or}
use Rattle.bit_rows.specs.Relation.{Events, Relation}
use Rattle.binding_graph.specs.declared.resolved.Body.{Body}
use Rattle.cat_machine.specs.declared.column.Column.{Column}
use Rattle.cat_eval.specs.OverNames.{IsMeaningOver}
use Rattle.cat_eval.specs.Wanted.{is_wanted, AddsIf}
use Rattle.cat_eval.proofs.group.GroupRun.evaluate_each.Given as goal

abbrev pub invariant-loop-position : goal.invariant-loop-position
invariant-loop-position l =
    (l.self.bodies ≡ l.initial.self.bodies) × (l.self.inputs ≡ l.initial.self.inputs)
    × (l.self.recursive ≡ l.initial.self.recursive)
    × (l.self.solver.own ≡ l.initial.self.solver.own)
    × (length l.self.columns.items ≡ length l.initial.self.columns.items)
    × ((j : ℕ) → l.position ≤ j → (c : Column)
    → slice_index_or l.self.columns.items j c
    ≡ slice_index_or l.initial.self.columns.items j c)
    × (l.initial.self.solver.own.items ≡ [] → (j : ℕ) → j < l.position
    → j < length l.initial.self.columns.items → (c : Column)
    → (s : Events) × (r : Relation)
    × AddsIf (is_wanted l.initial.self.wanted.now j)
    (slice_index_or l.initial.self.columns.items j c)
    (slice_index_or l.self.columns.items j c) s r
    × ((b : Body)
    → IsMeaningOver (slice_index_or l.initial.self.bodies.now j b).code.kind
    (slice_index_or l.initial.self.bodies.now j b).code.steps.items
    l.initial.self.inputs.now l.base l.candidate s r))
    × (l.self.steady ≡ l.initial.self.steady) × (l.self.wanted ≡ l.initial.self.wanted)
