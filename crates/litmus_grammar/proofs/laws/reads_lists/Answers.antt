use Rattle.litmus_tokens.specs.declared.stage.Stage.TheVariants.{Tail}
use Rattle.litmus_grammar.specs.declared.parts.TextKind.TheVariants as kinds
use Rattle.litmus_grammar.specs.Grammar.{IsLocationsText}
use Rattle.litmus_grammar.specs.TextMachine.{nothing}
use Rattle.litmus_grammar.proofs.Listed.{list_taken, list_reading}
use Rattle.litmus_grammar.proofs.Lists.{list_whole}
use Rattle.litmus_grammar.proofs.Outcomes.{fault_found}
use Rattle.litmus_grammar.proofs.laws.reads_lists.Goals as goal

pub returns-clause-found : goal.returns-clause-found
returns-clause-found c =
    λ threads ps s e d. list_whole threads ps Tail (nothing kinds.Locations) s e d

pub returns-clause-complete : goal.returns-clause-complete
returns-clause-complete c = λ threads ps x few.
    let t = list_taken threads few ps x in
    record { after = t.0; by = t.1; holds = t.2 }

pub returns-clause-fault : goal.returns-clause-fault
returns-clause-fault c = λ threads ps rule offset few e.
    fault_found (IsLocationsText threads) kinds.Locations threads (list_reading threads few) ps rule
    offset e
