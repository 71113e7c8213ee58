use Rattle.bench_instance.proofs.Indexes.{has_models}
use Rattle.bench_instance.proofs.board_texts.StampedTextsBoardTexts.settle.Goals as goal

pub cell_index-at-requires : goal.cell_index-at-requires
cell_index-at-requires c = has_models c.args.board.now c.args.index c.requires
