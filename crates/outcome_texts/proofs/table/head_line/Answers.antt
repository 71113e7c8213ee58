use Rattle.std.proofs.Common.{◌<◌, length, codes, rules, ap, ◌∙◌, arith}
use Rattle.std.proofs.lemmas.List.{take_all}
use Rattle.outcome_texts.specs.Columns.{head_fields}
use Rattle.outcome_texts.proofs.Loops.{listed_more}
use Rattle.outcome_texts.proofs.table.head_line.Goals as goal

pub loop-model-preserved : goal.loop-model-preserved
loop-model-preserved c =
    let inside : c.loop-model.model-index < length c.args.models.now = omega (arith, c.loop-model-test.true) in
    listed_more (codes "Test") _ _ c.args.models.now c.loop-model.model-index c.as_bytes.result.now
    inside (search rules) c.loop-model.invariant c.in_ok-push_name-2.ensures

pub returns : goal.returns
returns c =
    c.loop-model.invariant
    ∙ ap head_fields (take_all c.loop-model.model-index c.args.models.now
    (omega (arith, c.loop-model-test.false)))
