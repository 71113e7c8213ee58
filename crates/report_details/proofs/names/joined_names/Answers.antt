use Rattle.std.proofs.Common.{List, ℕ, map, Bor}
use Rattle.std.specs.Prelude.{codes}
use Rattle.text_values.proofs.Separated.{from_first}
use Rattle.report_details.proofs.names.joined_names.Goals as goal

pub loop-index-init : goal.loop-index-init
loop-index-init c =
    rw c.new-text.ensures.items
    (from_first (codes ", ") (map (λ (n : Bor (List ℕ)). n.now) c.args.names.now))
