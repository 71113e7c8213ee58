use Rattle.std.proofs.Common.{arith}
use Rattle.std.proofs.lemmas.Grind.{common_steps}
use Rattle.session_script.proofs.Steps.{part_ends, part_goes_on}
use Rattle.session_script.proofs.state.ScriptReader.take_part.Goals as goal

pub returns-then-ends-clause-part : goal.returns-then-ends-clause-part
returns-then-ends-clause-part c =
    part_ends c.args.self.now.waiting.items c.deref.result.now _ c.args.line.now.items
    c.put_bytes.new.text.items c.args.self.now.start c.line_length-length.result
    c.deref.ensures.value c.line_length-length.ensures.value (grind (arith, common_steps))
    (grind (arith, common_steps)) c.in_ok-put_bytes.ensures

pub returns-else-ends-clause-part : goal.returns-else-ends-clause-part
returns-else-ends-clause-part c =
    part_goes_on c.args.self.now.waiting.items c.deref.result.now _ c.args.line.now.items
    c.put_bytes.new.text.items c.args.self.now.start c.line_length-length.result
    c.args.self.now.in_range c.deref.ensures.value c.line_length-length.ensures.value
    (grind (arith, common_steps)) (grind (arith, common_steps)) c.in_ok-put_bytes.ensures
