use Rattle.litmus_tokens.specs.declared.stage.Stage.TheVariants.{CellBegins}
use Rattle.litmus_tokens.specs.Texts.{test_lexing}
use Rattle.litmus_grammar.specs.declared.parts.TextKind.TheVariants as kinds
use Rattle.litmus_grammar.specs.Grammar.{IsThreadText}
use Rattle.litmus_grammar.proofs.Inner.{AreInner, lexed_inner}
use Rattle.litmus_grammar.proofs.Outcomes.{fault_where}
use Rattle.litmus_grammar.proofs.Threads.{thread_whole, thread_taken, thread_reading}
use Rattle.litmus_grammar.proofs.laws.reads_threads.Goals as goal

pub returns-clause-found : goal.returns-clause-found
returns-clause-found c = λ threads ps s e d. thread_whole threads ps s e d

pub returns-clause-complete : goal.returns-clause-complete
returns-clause-complete c = λ threads ps x.
    let t = thread_taken threads ps x in
    record { after = _; by = t.by; holds = record { meant = t.meant; noted = t.noted } }

pub returns-clause-fault : goal.returns-clause-fault
returns-clause-fault c = λ threads bytes rule offset e.
    fault_where AreInner IsThreadText kinds.Thread threads (thread_reading threads)
    (test_lexing CellBegins bytes) (lexed_inner CellBegins bytes) rule offset e
