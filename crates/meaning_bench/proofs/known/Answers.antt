use Rattle.meaning_bench.proofs.Named.{shown_by}
use Rattle.meaning_bench.proofs.known.Goals as goal

pub returns-clause-right : goal.returns-clause-right
returns-clause-right g c =
    let bench = c.args.bench.now in
    let test = c.args.test.now in
    let model = c.args.model.now in
    shown_by bench.texts.texts c.tests_are_meant.ensures test model c.shown.result
    (c.locked_benches_are_right.ensures.shown bench c.taken-taken.ensures.right test model
    c.shown.result c.shown.ensures.shown)
