use Rattle.std.proofs.Common.{◌≡◌, List, [], reverse, map}
use Rattle.binding_kinds.specs.Value.{entry_of}
use Rattle.binding_kinds.specs.Senses.{Sense, HaveSenses}
use Rattle.binding_kinds.specs.Fits.{AreSoundSenses, AreKnown}
use Rattle.binding_graph.specs.Inputs.{IsIndexed}
use Rattle.binding_graph.specs.Usages.{usage_of}
use Rattle.binding_graph.proofs.Groups.{AreFaultless, AreNamedTo, AreMade, AreUsed}
use Rattle.binding_graph.proofs.bodies.read_bodies.Given as goal

abbrev pub invariant-loop-index : goal.invariant-loop-index
invariant-loop-index l =
    let us = map usage_of l.sight.functions.now in
    let names = reverse (map entry_of l.sight.entries.now) in
    record {
      faults : (senses : List Sense) → HaveSenses l.sight.functions.now senses
          → l.sight.parameters.now ≡ []
          → AreFaultless senses names l.sight.from l.recursive l.group l.index;
      named : (senses : List Sense) → HaveSenses l.sight.functions.now senses
          → l.sight.parameters.now ≡ [] → AreNamedTo senses names l.group l.index l.bodies.items;
      bodies : (senses : List Sense) → HaveSenses l.sight.functions.now senses → AreSoundSenses senses
          → AreKnown names → l.sight.parameters.now ≡ []
          → IsIndexed l.fn.work.uses.indexes.items l.fn.work.uses.values.items →
          AreMade senses us names l.sight.from l.fn.work.uses l.work.uses l.group l.index
          l.bodies.items;
      uses : l.sight.parameters.now ≡ []
          → AreUsed us names l.sight.from l.fn.work.uses l.work.uses l.group l.index;
      indexed : IsIndexed l.fn.work.uses.indexes.items l.fn.work.uses.values.items
          → IsIndexed l.work.uses.indexes.items l.work.uses.values.items;
    }
