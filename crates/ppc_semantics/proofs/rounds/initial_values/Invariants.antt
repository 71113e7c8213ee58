use Rattle.std.proofs.Common.{◌↔◌, take}
use Rattle.std.specs.List.{Contains}
use Rattle.thread_runs.specs.declared.value.Value.{Value}
use Rattle.thread_runs.specs.ValueSet.{IsProperValue, IsValueSet}
use Rattle.ppc_semantics.proofs.rounds.initial_values.Given as goal

abbrev pub invariant-loop-value : goal.invariant-loop-value
invariant-loop-value l = record {
  set : IsValueSet l.values.items;
  exact : (u : Value)
      → Contains l.values.items u
      ↔ (Contains (take l.value-index l.program.initial.items) u × IsProperValue u);
}
