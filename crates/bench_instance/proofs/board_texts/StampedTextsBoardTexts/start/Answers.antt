use Rattle.bench_instance.proofs.Indexes.{after_nothing}
use Rattle.bench_instance.proofs.board_texts.StampedTextsBoardTexts.start.Goals as goal

pub returns-clause-after : goal.returns-clause-after
returns-clause-after c = after_nothing c.new.result c.new.ensures.texts
