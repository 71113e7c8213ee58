use Rattle.bench_instance.proofs.Indexes.{count_is_all}
use Rattle.bench_instance.proofs.board_texts.StampedTextsBoardTexts.cell_count.Goals as goal

pub returns-in-Some : goal.returns-in-Some
returns-in-Some c =
    count_is_all c.args.board.now c.test_count.result c.model_count.result c.checked_mul.result
    c.in-Some.count
    c.test_count.ensures c.model_count.ensures c.in-Some.is c.checked_mul.ensures
