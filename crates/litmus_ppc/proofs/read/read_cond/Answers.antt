use Rattle.std.proofs.Common.{ap, subst, sym, ◌∙◌}
use Rattle.litmus_ppc.specs.TextReading.{state_of}
use Rattle.litmus_grammar.specs.TextMachine.{Draft}
use Rattle.litmus_grammar.specs.Texts.{ReadsCondition}
use Rattle.litmus_ppc.proofs.Readers.{condition_found, condition_only, condition_only_memory, condition_fault}
use Rattle.litmus_ppc.proofs.read.read_cond.Goals as goal

pub returns-in-Ok-clause-found : goal.returns-in-Ok-clause-found
returns-in-Ok-clause-found c =
    subst (λ (h : Draft). ReadsCondition c.args.threads c.args.bytes.now (h.quantifier, h.formula))
    (sym c.into_draft-draft.ensures) (condition_found c.args.threads c.ranges.threads.fits
    c.args.bytes.now (state_of c.in-Ok.reader) c.in-Ok.ensures.runs
    c.in-Ok.ensures.too_long)

pub returns-in-Ok-clause-only : goal.returns-in-Ok-clause-only
returns-in-Ok-clause-only c = λ v r.
    ap (λ (h : Draft). (h.quantifier, h.formula)) c.into_draft-draft.ensures
    ∙ condition_only c.args.threads c.ranges.threads.fits c.args.bytes.now
    (state_of c.in-Ok.reader) c.in-Ok.ensures.runs v r

pub returns-in-Err-clause-only : goal.returns-in-Err-clause-only
returns-in-Err-clause-only c =
    λ v r. condition_only_memory c.args.threads c.ranges.threads.fits c.args.bytes.now
    c.in-Err.fault c.in-Err.ensures.runs v r

pub returns-in-Err-clause-fault : goal.returns-in-Err-clause-fault
returns-in-Err-clause-fault c =
    condition_fault c.args.threads c.ranges.threads.fits c.args.bytes.now c.in-Err.fault
    c.in-Err.ensures.runs c.in-Err.ensures.too_long
