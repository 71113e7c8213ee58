use Rattle.std.proofs.Common.{false, length, sym, ap, ◌∙◌}
use Rattle.binding_kinds.specs.Kinds.{kind_found}
use Rattle.binding_kinds.specs.Verdict.{of_name}
use Rattle.binding_functions.proofs.Parts.{other_part}
use Rattle.binding_functions.proofs.part.BodyPart.other.Goals as goal

pub returns : goal.returns
returns c = λ ss names ps under x is one.
    let made = c.judged_name-judged.ensures in
    other_part ss names ps c.args.columns.rows under x c.judged_name-judged.result.kind _ is
    (made.fault ∙ ap (of_name 0 false) (sym one)) c.unmarked.ensures
    (made.kind ∙ ap kind_found (sym one)) (c.in_ok-constant_column.ensures (length ps))
