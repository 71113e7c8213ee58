use Rattle.draw_graph.proofs.Growing.{read_is_among, end_is_among}
use Rattle.draw_graph.proofs.events.is_named.Goals as goal

pub returns-then-is_read : goal.returns-then-is_read
returns-then-is_read c =
    read_is_among c.args.reads_from.now c.args.ends.now c.args.number c.is_read.result
    c.if-is_read.true c.is_read.ensures

pub returns : goal.returns
returns c =
    end_is_among c.args.reads_from.now c.args.ends.now c.args.number c.is_read.result c.is_end.result
    c.if-is_read.false c.is_read.ensures c.is_end.ensures
