use Rattle.std.proofs.Common.{None, get_or, sym, ap, ◌∙◌, arith}
use Rattle.std.proofs.lemmas.Option.{slice_get-get_or}
use Rattle.bench_parts.specs.Contents.{fault_part}
use Rattle.bench_parts.proofs.Rows.{fault_at, no_model, no_fault}
use Rattle.bench_parts.proofs.content.fault_content.Goals as goal
use Rattle.bench_parts.proofs.content.fault_content.Goals.{else-index-models-via-then-index-models+else-index-faults, else-index-models-via-else-index-models}

pub returns-in-Some : goal.returns-in-Some
returns-in-Some c =
    let rows = c.args.models.now in
    let beside = c.args.faults.now in
    let index = c.model_index-index.result in
    let own = slice_get-get_or beside index None c.if-index-faults.true in
    ap fault_part (sym c.in-Some.is)
    ∙ sym (fault_at rows beside c.args.id index (get_or beside index None)
    (sym c.model_index-index.ensures.found) c.if-index-models.true own)

pub returns-in-None : goal.returns-in-None
returns-in-None c =
    let rows = c.args.models.now in
    let beside = c.args.faults.now in
    let index = c.model_index-index.result in
    let own = slice_get-get_or beside index None c.if-index-faults.true in
    ap fault_part (sym c.in-None.is)
    ∙ sym (fault_at rows beside c.args.id index (get_or beside index None)
    (sym c.model_index-index.ensures.found) c.if-index-models.true own)

pub returns-else-index-models : goal.returns-else-index-models
returns-else-index-models c =
    let rows = c.args.models.now in
    let beside = c.args.faults.now in
    let index = c.model_index-index.result in
    let found = sym c.model_index-index.ensures.found in
    elim c.else-index-models.branch [
      | else-index-models-via-then-index-models+else-index-faults w ↦ sym
          (no_fault rows beside c.args.id index found (omega (arith, w.if-index-faults.false)))
      | else-index-models-via-else-index-models w ↦ sym (no_model rows beside c.args.id index found
          (omega (arith, w.if-index-models.false)))
    ]
