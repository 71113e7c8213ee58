use Rattle.std.proofs.Common.{◌≡◌, rules, ◌∙◌, sym}
use Rattle.std.specs.Prelude.{count_by}
use Rattle.cat_expressions.specs.Reading.{is_open}
use Rattle.cat_expressions.proofs.Stack.{open_count-stack}
use Rattle.cat_expressions.proofs.frames.open_frames.Goals as goal

pub returns : goal.returns
returns c =
    let e : c.count.result ≡ count_by is_open c.args.frames.now = search rules in
    e ∙ sym (open_count-stack c.args.frames.now)
