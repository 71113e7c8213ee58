use Rattle.std.proofs.Common.{ap, ◌∙◌, ◌++◌}
use Rattle.std.specs.Prelude.{codes, map}
use Rattle.std.proofs.lemmas.List.{map-id}
use Rattle.text_values.specs.Joined.{joined}
use Rattle.text_values.proofs.Separated.{from_first}
use Rattle.cat_printing.proofs.print.put_names.Goals as goal

pub loop-i-init : goal.loop-i-init
loop-i-init c =
    ap (λ l. c.args.text.now.items ++ l) (from_first (codes ", ") (map (λ n. n) c.args.names.now)
    ∙ ap (joined (codes ", ")) (map-id c.args.names.now))
