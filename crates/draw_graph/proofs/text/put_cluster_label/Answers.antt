use Rattle.std.specs.Prelude.{decimal, codes}
use Rattle.draw_graph.specs.Texts.{cluster_label}
use Rattle.draw_graph.proofs.Steps.{three_parts}
use Rattle.draw_graph.proofs.text.put_cluster_label.Goals as goal

pub returns : goal.returns
unfolding cluster_label
returns c =
    rw (c.in_ok-put_bytes-2.ensures, c.in_ok-put_decimal.ensures, c.in_ok-put_bytes.ensures)
    (three_parts c.args.text.now.items (codes " {\nlabel=\"P") (decimal c.args.thread)
    (codes "\";\n"))
