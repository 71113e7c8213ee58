use Rattle.meaning_bench.proofs.Headline.{shown_around}
use Rattle.meaning_bench.proofs.shows_around.Goals as goal

pub returns-in-Ok : goal.returns-in-Ok
returns-in-Ok g c =
    shown_around c.args.bench.now c.edit.new.self c.taken-taken.ensures.right
    c.locked_benches_are_right.ensures.kept c.args.edit c.args.test.now c.args.model.now
    c.args.outcome.now c.shows-before.result c.shows.result c.in-Ok.ensures.edited
    c.shows-before.ensures.settled c.shows-before.ensures.says c.shows.ensures.settled
    c.shows.ensures.says
