use Rattle.litmus_tokens.specs.Conditions.{condition_limits, IsConditionText}
use Rattle.litmus_grammar.specs.declared.parts.TextKind.TheVariants as kinds
use Rattle.litmus_grammar.proofs.Conditions.{condition_whole, condition_taken, condition_reading}
use Rattle.litmus_grammar.proofs.Outcomes.{fault_found}
use Rattle.litmus_grammar.proofs.laws.reads_conditions.Goals as goal

pub returns-clause-found : goal.returns-clause-found
returns-clause-found c = λ threads ps s few e d. condition_whole threads few ps s e d

pub returns-clause-complete : goal.returns-clause-complete
returns-clause-complete c = λ threads ps x few.
    let t = condition_taken threads few ps x in
    record { after = t.0; by = t.1; holds = record { quantifier_is = t.2; formula_is = t.3 } }

pub returns-clause-fault : goal.returns-clause-fault
returns-clause-fault c = λ threads ps rule offset few e.
    fault_found (IsConditionText condition_limits threads) kinds.Condition threads
    (condition_reading threads few) ps rule offset e
