use Rattle.std.proofs.Common.{rules}
use Rattle.line_answers.proofs.Results.{nothing_added, one_more}
use Rattle.line_answers.proofs.report.put_files.Goals as goal

pub loop-index-init : goal.loop-index-init
loop-index-init g c =
    nothing_added c.args.judges.now.lines c.args.judges.now.models.now c.args.report.now

pub loop-index-preserved : goal.loop-index-preserved
loop-index-preserved g c =
    one_more c.args.judges.now.lines c.args.judges.now.models.now c.args.files.now
    c.loop-index.index c.index-files-index.result c.args.report.now c.loop-index.report
    c.put_file.new.report (search rules) (search rules) c.loop-index.invariant
    c.in_ok-put_file.ensures
