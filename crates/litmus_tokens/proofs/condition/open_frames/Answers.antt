use Rattle.std.proofs.Common.{◌≡◌, rules, ◌∙◌, sym}
use Rattle.std.specs.Prelude.{count_by}
use Rattle.litmus_tokens.specs.ConditionReading.{is_open}
use Rattle.litmus_tokens.proofs.Stack.{open_count-stack}
use Rattle.litmus_tokens.proofs.condition.open_frames.Goals as goal

pub returns : goal.returns
returns c =
    let e : c.count.result ≡ count_by is_open c.args.frames.now = search rules in
    e ∙ sym (open_count-stack c.args.frames.now)
