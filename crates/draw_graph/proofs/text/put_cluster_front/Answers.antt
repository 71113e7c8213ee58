use Rattle.std.proofs.Common.{append_assoc}
use Rattle.std.specs.Prelude.{decimal, codes}
use Rattle.draw_graph.specs.Texts.{cluster_front}
use Rattle.draw_graph.proofs.text.put_cluster_front.Goals as goal

pub returns : goal.returns
unfolding cluster_front
returns c =
    rw (c.in_ok-put_decimal.ensures, c.in_ok-put_bytes.ensures) (append_assoc c.args.text.now.items
    (codes "subgraph cluster_") (decimal c.args.thread))
