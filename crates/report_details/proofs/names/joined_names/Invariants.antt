use Rattle.std.proofs.Common.{◌≡◌, ◌++◌, drop, map}
use Rattle.std.specs.Prelude.{codes}
use Rattle.text_values.specs.Joined.{joined}
use Rattle.text_values.proofs.Separated.{from}
use Rattle.report_details.proofs.names.joined_names.Given as goal

abbrev pub invariant-loop-index : goal.invariant-loop-index
invariant-loop-index l =
    l.text.items ++ from (codes ", ") l.index (map (λ n. n.now) (drop l.index l.names))
    ≡ joined (codes ", ") (map (λ n. n.now) l.names)
