use Rattle.std.proofs.Common.{◌<◌, ◌∷◌, length, map, rules, ap, ◌∙◌, arith}
use Rattle.std.proofs.lemmas.List.{take_all}
use Rattle.outcome_texts.specs.Columns.{head_fields, row_fields, row_of}
use Rattle.outcome_texts.proofs.Loops.{mapped_more}
use Rattle.outcome_texts.proofs.table.lines.Goals as goal

pub loop-row-preserved : goal.loop-row-preserved
loop-row-preserved c =
    let inside : c.loop-row.row-index < length c.args.rows.now = omega (arith, c.loop-row-test.true) in
    mapped_more row_fields row_of (head_fields c.args.models.now) _ _ c.args.rows.now
    c.loop-row.row-index c.row-item.result inside c.row-item.is c.loop-row.invariant
    (search rules)

pub returns : goal.returns
returns c =
    c.loop-row.invariant
    ∙ ap (λ rs. head_fields c.args.models.now ∷ map row_fields (map row_of rs))
    (take_all c.loop-row.row-index c.args.rows.now (omega (arith, c.loop-row-test.false)))
