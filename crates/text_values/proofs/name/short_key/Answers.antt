use Rattle.std.proofs.Common.{rules, ap, ◌∙◌, ◌+◌, ◌*◌, ◌%◌}
use Rattle.text_values.proofs.InPlace.{shifted}
use Rattle.text_values.proofs.name.short_key.Goals as goal

pub returns-clause-key : goal.returns-clause-key
returns-clause-key c = λ small.
    ap
    (λ m. ((c.from_le_bytes-first.result * 256) % 18446744073709551616 + m) %
    18446744073709551616) c.from.ensures
    ∙ shifted c.args.n _ _ _ _ _ _ _ _ c.from_le_bytes-first.result small (search rules)
    (search rules) (search rules) (search rules) (search rules) (search rules) (search rules)
    c.from_le_bytes-first.ensures
