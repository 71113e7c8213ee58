use Rattle.std.proofs.Common.{length, ap, sym, subst, ◌∙◌}
use Rattle.litmus_grammar.specs.declared.parts.TextKind.TheVariants as kinds
use Rattle.litmus_grammar.specs.Texts.{ReadsTest}
use Rattle.litmus_ppc.specs.TextReading.{state_of, test_of}
use Rattle.litmus_grammar.proofs.Bounds.{kept_short}
use Rattle.litmus_ppc.proofs.TestReader.{test_found, test_only, test_only_memory, test_only_missing, test_only_labels, test_fault, test_fault_missing, test_fault_labels}
use Rattle.litmus_ppc.proofs.read.read_test.Goals as goal

pub returns-in-Err-clause-only : goal.returns-in-Err-clause-only
returns-in-Err-clause-only c =
    λ v r. test_only_memory c.args.bytes.now c.in-Err.fault c.in-Err.ensures.runs v r

pub returns-in-Err-clause-fault : goal.returns-in-Err-clause-fault
returns-in-Err-clause-fault c =
    test_fault c.args.bytes.now c.in-Err.fault c.in-Err.ensures.runs c.in-Err.ensures.too_long

pub returns-in-Err-check_init-clause-only : goal.returns-in-Err-check_init-clause-only
returns-in-Err-check_init-clause-only c = λ v r.
    test_only_missing c.args.bytes.now (state_of c.in-Ok.reader) c.in-Err-check_init.fault
    c.in-Ok.ensures.runs c.in-Err-check_init.ensures.found v r

pub returns-in-Err-check_init-clause-fault : goal.returns-in-Err-check_init-clause-fault
returns-in-Err-check_init-clause-fault c =
    test_fault_missing c.args.bytes.now (state_of c.in-Ok.reader) c.in-Err-check_init.fault
    c.in-Ok.ensures.runs c.in-Ok.ensures.too_long c.in-Err-check_init.ensures.found

pub returns-in-Err-check_init-clause-within : goal.returns-in-Err-check_init-clause-within
returns-in-Err-check_init-clause-within c =
    c.in-Err-check_init.ensures.within (length c.args.bytes.now) (kept_short kinds.Test 0
    c.args.bytes.now (state_of c.in-Ok.reader) c.in-Ok.ensures.runs
    c.in-Ok.ensures.too_long)

pub returns-in-Err-check_labels-clause-only : goal.returns-in-Err-check_labels-clause-only
returns-in-Err-check_labels-clause-only c = λ v r.
    test_only_labels c.args.bytes.now (state_of c.in-Ok.reader) c.in-Err-check_labels.fault
    c.in-Ok.ensures.runs c.in-Err-check_labels.ensures.found v r

pub returns-in-Err-check_labels-clause-fault : goal.returns-in-Err-check_labels-clause-fault
returns-in-Err-check_labels-clause-fault c =
    test_fault_labels c.args.bytes.now (state_of c.in-Ok.reader) c.in-Err-check_labels.fault
    c.in-Ok.ensures.runs c.in-Ok.ensures.too_long c.in-Ok-check_init.ensures.found
    c.in-Err-check_labels.ensures.found

pub returns-in-Err-check_labels-clause-within : goal.returns-in-Err-check_labels-clause-within
returns-in-Err-check_labels-clause-within c =
    c.in-Err-check_labels.ensures.within (length c.args.bytes.now) (kept_short kinds.Test 0
    c.args.bytes.now (state_of c.in-Ok.reader) c.in-Ok.ensures.runs
    c.in-Ok.ensures.too_long)

pub returns-in-Ok-into_test-clause-found : goal.returns-in-Ok-into_test-clause-found
returns-in-Ok-into_test-clause-found c =
    subst (ReadsTest c.args.bytes.now) (sym (c.in-Ok-into_test.ensures
    ∙ ap test_of c.into_draft-draft.ensures))
    (test_found c.args.bytes.now (state_of c.in-Ok.reader) tt c.in-Ok.ensures.runs
    c.in-Ok.ensures.too_long c.in-Ok-check_init.ensures.found
    c.in-Ok-check_labels.ensures.found)

pub returns-in-Ok-into_test-clause-only : goal.returns-in-Ok-into_test-clause-only
returns-in-Ok-into_test-clause-only c =
    λ v r. c.in-Ok-into_test.ensures ∙ ap test_of c.into_draft-draft.ensures
    ∙ test_only c.args.bytes.now (state_of c.in-Ok.reader) c.in-Ok.ensures.runs v r
