use Rattle.std.proofs.Common.{◌≡◌, List, [], length, map, take, reverse}
use Rattle.std.specs.List.{AllZip}
use Rattle.binding_kinds.specs.Value.{entry_of}
use Rattle.binding_kinds.specs.Senses.{Sense, HasSense, HaveSenses}
use Rattle.binding_functions.specs.Templates.{IsTemplate}
use Rattle.binding_functions.proofs.Filling.{argument_pieces}
use Rattle.binding_graph.specs.Usages.{usage_of}
use Rattle.binding_graph.proofs.Walks.{AreJudgedTo, AreNotedTo}
use Rattle.binding_graph.proofs.reading.+reading.Given as goal

abbrev pub invariant-read_unapplied-loop-argument : goal.invariant-read_unapplied-loop-argument
invariant-read_unapplied-loop-argument l =
    AreNotedTo (map usage_of l.sight.functions.now) (reverse (map entry_of l.sight.entries.now))
    l.sight.parameters.now l.sight.from l.arguments l.argument-index l.initial.uses l.uses

abbrev pub invariant-read_arguments-loop-index : goal.invariant-read_arguments-loop-index
invariant-read_arguments-loop-index l =
    let names = reverse (map entry_of l.sight.entries.now) in
    record {
      judged : (senses : List Sense) (s : Sense) → HaveSenses l.sight.functions.now senses
          → l.sight.parameters.now ≡ [] → HasSense l.function s → length l.arguments ≡ s.arity
          → AreJudgedTo senses names l.sight.from l.under l.function s l.arguments l.index l.known;
      templates : (senses : List Sense) → HaveSenses l.sight.functions.now senses
          → AllZip IsTemplate l.templates.items (argument_pieces senses names l.sight.parameters.now
          (take l.index l.arguments));
      uses : AreNotedTo (map usage_of l.sight.functions.now) names l.sight.parameters.now
          l.sight.from l.arguments l.index l.initial.uses l.uses;
    }
