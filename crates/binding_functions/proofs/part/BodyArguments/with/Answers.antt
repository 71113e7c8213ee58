use Rattle.std.proofs.Common.{length, arith}
use Rattle.text_values.specs.ModelValues.{term_of}
use Rattle.binding_kinds.specs.Columns.{signature_in, gathered_in}
use Rattle.binding_kinds.proofs.Tables.{gathered_small}
use Rattle.binding_functions.proofs.Applied.{terms_in}
use Rattle.binding_functions.proofs.Parts.{more_parts}
use Rattle.binding_functions.proofs.part.BodyArguments.with.Goals as goal

pub returns : goal.returns
returns c = λ ss names ps rows under turned xs e long lt part all.
    more_parts ss names ps rows under turned xs e c.args.index c.args.self _ c.args.one long part
    all c.or_else.ensures c.either_of_each.ensures
    (λ few. c.in_ok-with_argument.ensures (length ps) rows (gathered_in ss names ps (terms_in xs))
    (signature_in ss names ps (term_of e)) lt (λ ks.
    gathered_small ss names ps xs ks (omega (arith, long, lt)))
    (rw c.deref.ensures.value (all.known few)) (rw c.deref-2.ensures.value (part.column few)))
