use Rattle.std.proofs.Common.{true, false}
use Rattle.litmus_tokens.specs.declared.stage.Stage.TheVariants as stages
use Rattle.litmus_grammar.specs.declared.parts.TextKind.TheVariants as kinds
use Rattle.litmus_grammar.specs.Grammar.{IsInitText}
use Rattle.litmus_grammar.specs.Texts.{IsStart}
use Rattle.litmus_grammar.proofs.InitLeft.{init_whole}
use Rattle.litmus_grammar.proofs.InitStarts.{init_reading}
use Rattle.litmus_grammar.proofs.InitAcceptance.{init_taken}
use Rattle.litmus_grammar.proofs.Outcomes.{fault_found}
use Rattle.litmus_grammar.proofs.laws.reads_init_blocks.Goals as goal

pub returns-clause-found : goal.returns-clause-found
returns-clause-found c = λ threads ps s e d. init_whole threads ps s e d

pub returns-clause-complete : goal.returns-clause-complete
returns-clause-complete c = λ threads ps x.
    let t = init_taken threads x.entries ps x.fine x.whole in
    record { after = t.state; by = t.by; holds = record { entries = t.entries; stand = t.stand } }

pub returns-clause-fault : goal.returns-clause-fault
returns-clause-fault c = λ threads ps rule offset e.
    fault_found (IsStart IsInitText (stages.Init true false)) kinds.Init threads
    (init_reading threads) ps rule offset e
