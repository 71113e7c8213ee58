use Rattle.std.proofs.Common.{◌≡◌, List, length, map, take, reverse}
use Rattle.std.specs.List.{AllZip}
use Rattle.binding_kinds.specs.Value.{entry_of}
use Rattle.binding_kinds.specs.Senses.{Sense, HasSense, HaveSenses}
use Rattle.binding_functions.specs.Templates.{IsTemplate}
use Rattle.binding_functions.specs.Parts.{AreBodyParts}
use Rattle.binding_functions.proofs.Filling.{argument_pieces}
use Rattle.binding_graph.specs.Usages.{usage_of}
use Rattle.binding_graph.proofs.Walks.{AreNotedTo}
use Rattle.binding_graph.proofs.inside.+inside.Given as goal

abbrev pub invariant-inside_arguments-loop-index : goal.invariant-inside_arguments-loop-index
invariant-inside_arguments-loop-index l =
    let names = reverse (map entry_of l.sight.entries.now) in
    record {
      body : (senses : List Sense) (s : Sense) → HaveSenses l.sight.functions.now senses
          → HasSense l.function s → length l.arguments ≡ s.arity
          → AreBodyParts senses names l.sight.parameters.now l.columns.rows l.under s.is_under
          (take l.index l.arguments) l.body;
      templates : (senses : List Sense) → HaveSenses l.sight.functions.now senses
          → AllZip IsTemplate l.templates.items (argument_pieces senses names l.sight.parameters.now
          (take l.index l.arguments));
      uses : AreNotedTo (map usage_of l.sight.functions.now) names l.sight.parameters.now
          l.sight.from l.arguments l.index l.initial.uses l.uses;
    }
