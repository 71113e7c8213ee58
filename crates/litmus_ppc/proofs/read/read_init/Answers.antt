use Rattle.std.proofs.Common.{length, ap, subst, sym, ◌∙◌}
use Rattle.litmus_grammar.specs.declared.parts.TextKind.TheVariants as kinds
use Rattle.litmus_ppc.specs.TextReading.{state_of}
use Rattle.litmus_grammar.specs.TextMachine.{Draft}
use Rattle.litmus_grammar.specs.Texts.{ReadsInit}
use Rattle.litmus_grammar.proofs.Bounds.{kept_short}
use Rattle.litmus_ppc.proofs.InitReaders.{init_found, init_only, init_only_memory, init_only_there, init_fault, init_missing}
use Rattle.litmus_ppc.proofs.read.read_init.Goals as goal

pub returns-in-Ok-check_init-clause-found : goal.returns-in-Ok-check_init-clause-found
returns-in-Ok-check_init-clause-found c =
    subst (ReadsInit c.args.threads c.args.bytes.now) (sym (c.into_init.ensures
    ∙ ap (λ (h : Draft). h.init.entries) c.into_draft-draft.ensures))
    (init_found c.args.threads c.ranges.threads.fits c.args.bytes.now (state_of c.in-Ok.reader)
    c.in-Ok.ensures.runs c.in-Ok.ensures.too_long c.in-Ok-check_init.ensures.found)

pub returns-in-Ok-check_init-clause-only : goal.returns-in-Ok-check_init-clause-only
returns-in-Ok-check_init-clause-only c = λ v r.
    c.into_init.ensures ∙ ap (λ (h : Draft). h.init.entries) c.into_draft-draft.ensures
    ∙ init_only c.args.threads c.ranges.threads.fits c.args.bytes.now (state_of c.in-Ok.reader)
    c.in-Ok.ensures.runs v r

pub returns-in-Err-clause-only : goal.returns-in-Err-clause-only
returns-in-Err-clause-only c =
    λ v r. init_only_memory c.args.threads c.ranges.threads.fits c.args.bytes.now c.in-Err.fault
    c.in-Err.ensures.runs v r

pub returns-in-Err-clause-fault : goal.returns-in-Err-clause-fault
returns-in-Err-clause-fault c =
    init_fault c.args.threads c.ranges.threads.fits c.args.bytes.now c.in-Err.fault
    c.in-Err.ensures.runs c.in-Err.ensures.too_long

pub returns-in-Err-check_init-clause-only : goal.returns-in-Err-check_init-clause-only
returns-in-Err-check_init-clause-only c = λ v r.
    init_only_there c.args.threads c.ranges.threads.fits c.args.bytes.now (state_of c.in-Ok.reader)
    c.in-Err-check_init.fault c.in-Ok.ensures.runs c.in-Err-check_init.ensures.found v r

pub returns-in-Err-check_init-clause-fault : goal.returns-in-Err-check_init-clause-fault
returns-in-Err-check_init-clause-fault c =
    init_missing c.args.threads c.ranges.threads.fits c.args.bytes.now (state_of c.in-Ok.reader)
    c.in-Err-check_init.fault c.in-Ok.ensures.runs c.in-Ok.ensures.too_long
    c.in-Err-check_init.ensures.found

pub returns-in-Err-check_init-clause-within : goal.returns-in-Err-check_init-clause-within
returns-in-Err-check_init-clause-within c =
    c.in-Err-check_init.ensures.within (length c.args.bytes.now) (kept_short kinds.Init
    c.args.threads c.args.bytes.now (state_of c.in-Ok.reader) c.in-Ok.ensures.runs
    c.in-Ok.ensures.too_long)
