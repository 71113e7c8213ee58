use Rattle.std.proofs.Common.{ap, ◌∙◌, ◌∷◌}
use Rattle.text_values.specs.TestValue.{formula_of}
use Rattle.litmus_tokens.specs.ConditionMachine.{condition_closed}
use Rattle.litmus_tokens.specs.ConditionReading.{frame_of, condition_stack_of}
use Rattle.litmus_tokens.specs.declared.condition.Frame as code_frame
use Rattle.litmus_tokens.proofs.Stack.{popped_of}
use Rattle.litmus_tokens.proofs.condition.closed.Goals as goal

pub returns-in-Some-Group : goal.returns-in-Some-Group
returns-in-Some-Group c =
    ap (condition_closed c.args.operators) (popped_of _ _ _ _ _ c.in_ok-operand.ensures
    c.in-Some-Group.ensures.items)
    ∙ ap
    (λ (f : code_frame.Frame). condition_closed c.args.operators (
      frame_of f
          ∷ condition_stack_of c.pop.new.self.items,
      formula_of c.in_ok-operand.operand,
    ))
    c.in-Some-Group.field-0-is

pub returns-in-Some-Prefix : goal.returns-in-Some-Prefix
returns-in-Some-Prefix c =
    ap (condition_closed c.args.operators) (popped_of _ _ _ _ _ c.in_ok-operand.ensures
    c.in-Some-Prefix.ensures.items)
    ∙ ap
    (λ (f : code_frame.Frame). condition_closed c.args.operators (
      frame_of f
          ∷ condition_stack_of c.pop.new.self.items,
      formula_of c.in_ok-operand.operand,
    ))
    c.in-Some-Prefix.field-0-is

pub returns-in-Some-Left : goal.returns-in-Some-Left
returns-in-Some-Left c =
    ap (condition_closed c.args.operators) (popped_of _ _ _ _ _ c.in_ok-operand.ensures
    c.in-Some-Left.ensures.items)
    ∙ ap
    (λ (f : code_frame.Frame). condition_closed c.args.operators (
      frame_of f
          ∷ condition_stack_of c.pop.new.self.items,
      formula_of c.in_ok-operand.operand,
    ))
    c.in-Some-Left.field-0-is
