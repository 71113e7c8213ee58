use Rattle.std.proofs.Common.{rules, ℕ, List, subst}
use Rattle.command_answers.proofs.Answering.{unread}
use Rattle.command_answers.proofs.Kept.{streamed_prefix}
use Rattle.command_answers.specs.Cut.{IsInputCut}
use Rattle.command_answers.proofs.stream.eval_stream_heard.Goals as goal

pub returns-in-Err-clause-written : goal.returns-in-Err-clause-written
returns-in-Err-clause-written g c = unread _ _ c.in-Err.fault (search rules) (search rules)

pub returns-clause-written : goal.returns-clause-written
returns-clause-written g c =
    let cut : IsInputCut c.in-Ok.bytes.items c.cut_at_dot.result.0.now c.cut_at_dot.result.1.now =
    subst (λ (l : List ℕ). IsInputCut l c.cut_at_dot.result.0.now c.cut_at_dot.result.1.now)
    c.deref.ensures.value c.cut_at_dot.ensures in
    streamed_prefix _ _ _ c.write_answer-answered.result c.in-Ok.bytes.items
    c.cut_at_dot.result.0.now c.cut_at_dot.result.1.now c.in-Ok.ensures.bytes cut
    c.write_answer-answered.ensures.written
