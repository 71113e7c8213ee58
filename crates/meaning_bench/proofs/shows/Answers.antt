use Rattle.std.proofs.Common.{subst}
use Rattle.outcome_texts.specs.Cells.{Cell}
use Rattle.bench_texts.specs.Held.{texts_of}
use Rattle.meaning_bench.specs.Says.{IsCellBy}
use Rattle.meaning_bench.proofs.Settled.{shows_settled}
use Rattle.meaning_bench.proofs.shows.Goals as goal

pub returns-clause-settled : goal.returns-clause-settled
returns-clause-settled g c =
    let same = c.is_outcome.ensures in
    let settled = shows_settled c.args.bench.now c.args.test.now c.args.model.now c.args.outcome.now c.known.result c.known.ensures.is in
    (λ t. settled.0 (same.0 t), λ s. same.1 (settled.1 s))

pub returns-clause-says : goal.returns-clause-says
returns-clause-says g c = λ t.
    subst
    (λ (cell : Cell). IsCellBy (texts_of c.args.bench.now.texts.texts) c.args.test.now c.args.model.now cell)
    (c.is_outcome.ensures.0 t) c.known.ensures.right
