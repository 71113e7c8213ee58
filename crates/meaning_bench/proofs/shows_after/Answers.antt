use Rattle.meaning_bench.proofs.Headline.{shown_after}
use Rattle.meaning_bench.proofs.shows_after.Goals as goal

pub returns : goal.returns
returns g c =
    shown_after _ _ c.args.events.now c.in_ok-replies.replies.items c.args.test.now
    c.args.model.now c.args.outcome.now c.shows-is_shown.result c.in_ok-bench.ensures
    c.in_ok-replies.ensures.after c.shows-is_shown.ensures.says
