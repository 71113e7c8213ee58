use Rattle.std.proofs.Common.{length, ap, sym, subst, ◌∙◌}
use Rattle.litmus_table.specs.Reading.{first_steps}
use Rattle.litmus_grammar.specs.declared.parts.TextKind.TheVariants as kinds
use Rattle.litmus_grammar.specs.Texts.{ReadsThread}
use Rattle.litmus_grammar.specs.TextMachine.{Draft}
use Rattle.litmus_ppc.specs.TextReading.{state_of}
use Rattle.litmus_grammar.proofs.Bounds.{kept_short}
use Rattle.litmus_ppc.proofs.ThreadReader.{thread_found, thread_only, thread_only_memory, thread_only_late, thread_fault, thread_fault_late}
use Rattle.litmus_ppc.proofs.read.read_thread.Goals as goal

pub returns-in-Err-clause-only : goal.returns-in-Err-clause-only
returns-in-Err-clause-only c =
    λ v r. thread_only_memory c.args.bytes.now c.in-Err.fault c.in-Err.ensures.runs v r

pub returns-in-Err-clause-fault : goal.returns-in-Err-clause-fault
returns-in-Err-clause-fault c =
    thread_fault c.args.bytes.now c.in-Err.fault c.in-Err.ensures.runs c.in-Err.ensures.too_long

pub returns-in-Ok-check_labels-clause-found : goal.returns-in-Ok-check_labels-clause-found
returns-in-Ok-check_labels-clause-found c =
    subst (ReadsThread c.args.bytes.now) (sym (c.into_thread.ensures
    ∙ ap (λ (h : Draft). first_steps h.table.threads) c.into_draft-draft.ensures))
    (thread_found c.args.bytes.now (state_of c.in-Ok.reader) tt c.in-Ok.ensures.runs
    c.in-Ok.ensures.too_long c.in-Ok-check_labels.ensures.found)

pub returns-in-Ok-check_labels-clause-only : goal.returns-in-Ok-check_labels-clause-only
returns-in-Ok-check_labels-clause-only c = λ v r.
    c.into_thread.ensures
    ∙ ap (λ (h : Draft). first_steps h.table.threads) c.into_draft-draft.ensures
    ∙ thread_only c.args.bytes.now (state_of c.in-Ok.reader) c.in-Ok.ensures.runs v r

pub returns-in-Err-check_labels-clause-only : goal.returns-in-Err-check_labels-clause-only
returns-in-Err-check_labels-clause-only c = λ v r.
    thread_only_late c.args.bytes.now (state_of c.in-Ok.reader) c.in-Err-check_labels.fault
    c.in-Ok.ensures.runs c.in-Err-check_labels.ensures.found v r

pub returns-in-Err-check_labels-clause-fault : goal.returns-in-Err-check_labels-clause-fault
returns-in-Err-check_labels-clause-fault c =
    thread_fault_late c.args.bytes.now (state_of c.in-Ok.reader) c.in-Err-check_labels.fault
    c.in-Ok.ensures.runs c.in-Ok.ensures.too_long c.in-Err-check_labels.ensures.found

pub returns-in-Err-check_labels-clause-within : goal.returns-in-Err-check_labels-clause-within
returns-in-Err-check_labels-clause-within c =
    c.in-Err-check_labels.ensures.within (length c.args.bytes.now) (kept_short kinds.Thread 1
    c.args.bytes.now (state_of c.in-Ok.reader) c.in-Ok.ensures.runs
    c.in-Ok.ensures.too_long)
