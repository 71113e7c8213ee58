use Rattle.std.proofs.Common.{◌≡◌, ap, sym, ◌∙◌, List, true}
use Rattle.cat_expressions.specs.declared.frames.Frame as code_frame
use Rattle.cat_expressions.specs.declared.frames.Frame.TheVariants as frames
use Rattle.text_values.specs.ModelValues.{term_of}
use Rattle.cat_expressions.specs.Reading.{term_stack_of, takes_operand}
use Rattle.cat_expressions.proofs.Stack.{popped_prefix, popped_left, popped_takes}
use Rattle.cat_expressions.proofs.frames.join.Goals as goal

pub loop-alloc-preserved-in-Some-Prefix : goal.loop-alloc-preserved-in-Some-Prefix
loop-alloc-preserved-in-Some-Prefix c =
    popped_prefix _ _ _ _ _ c.loop-alloc.invariant _ c.in-Some-Prefix.ensures.items
    c.in-Some-Prefix.field-0-is _ (ap term_of (c.in_ok-new-in-Some-Prefix.ensures.ok
    ∙ c.replace-right.ensures.value))

pub loop-alloc-preserved : goal.loop-alloc-preserved
loop-alloc-preserved c =
    let taken : takes_operand c.args.least (term_stack_of c.loop-alloc.frames.items) ≡ true = ap (λ (fs : List code_frame.Frame). takes_operand c.args.least (term_stack_of fs)) (sym c.deref.ensures.value) ∙ sym c.takes.ensures ∙ c.loop-alloc-test.true in
    popped_left _ _ _ _ _ c.loop-alloc.invariant _ c.in-Some-Left.ensures.items _ _ _ _
    c.in-Some-Left.field-0-is c.in_ok-left-in-Some-Left.ensures.ok
    (ap term_of (c.in_ok-new-in-Some-Left.ensures.ok ∙ c.replace-right.ensures.value))
    (popped_takes _ _ _ _ _ taken c.in-Some-Left.ensures.items c.in-Some-Left.field-0-is)

pub unreachable-requires : goal.unreachable-requires
unreachable-requires c =
    let taken : takes_operand c.args.least (term_stack_of c.loop-alloc.frames.items) ≡ true = ap (λ (fs : List code_frame.Frame). takes_operand c.args.least (term_stack_of fs)) (sym c.deref.ensures.value) ∙ sym c.takes.ensures ∙ c.loop-alloc-test.true in
    let h = popped_takes c.args.least _ _ _ frames.Group taken c.in-Some-Group.ensures.items c.in-Some-Group.field-0-is in cc

pub unreachable-requires-in-Some-Square : goal.unreachable-requires-in-Some-Square
unreachable-requires-in-Some-Square c =
    let taken : takes_operand c.args.least (term_stack_of c.loop-alloc.frames.items) ≡ true = ap (λ (fs : List code_frame.Frame). takes_operand c.args.least (term_stack_of fs)) (sym c.deref.ensures.value) ∙ sym c.takes.ensures ∙ c.loop-alloc-test.true in
    let h = popped_takes c.args.least _ _ _ frames.Square taken c.in-Some-Square.ensures.items c.in-Some-Square.field-0-is in cc

pub unreachable-requires-in-Some-Applied : goal.unreachable-requires-in-Some-Applied
unreachable-requires-in-Some-Applied c =
    let taken : takes_operand c.args.least (term_stack_of c.loop-alloc.frames.items) ≡ true = ap (λ (fs : List code_frame.Frame). takes_operand c.args.least (term_stack_of fs)) (sym c.deref.ensures.value) ∙ sym c.takes.ensures ∙ c.loop-alloc-test.true in
    let h = popped_takes c.args.least _ _ _ (frames.Applied c.in-Some-Applied.field-0-0 c.in-Some-Applied.field-0-1) taken c.in-Some-Applied.ensures.items c.in-Some-Applied.field-0-is in cc
