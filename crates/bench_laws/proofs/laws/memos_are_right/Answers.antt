use Rattle.bench_laws.proofs.laws.memos_are_right.Goals as goal

pub returns : goal.returns
returns c = record {
  settled = c.headline.ensures.settled;
  matching = c.headline.ensures.solved;
  values = c.honest.ensures.values;
  given = c.honest.ensures.given;
}
