use Rattle.std.proofs.Common.{rules}
use Rattle.report_answers.specs.Judges.{content_in}
use Rattle.report_answers.proofs.Known.{first_tests, no_test_known, tests_more}
use Rattle.report_answers.proofs.judged.known_tests.Goals as goal

pub loop-index-init : goal.loop-index-init
loop-index-init g c =
    no_test_known c.args.judges.now.is_all c.args.judges.now.models.now _ _
    (first_tests c.new-tests.result.items (record { left = c.args.most; left_out = 0 })
    c.args.faults.now.items c.new-tests.ensures.items)

pub loop-index-preserved : goal.loop-index-preserved
loop-index-preserved g c =
    tests_more c.args.judges.now.is_all c.args.judges.now.models.now _ c.args.files.now
    c.loop-index.index c.index-files-index.result
    (content_in c.loop-index.known c.loop-index.faults.items)
    (content_in c.add_test.new.known c.add_test.new.faults.items) (search rules) (search rules)
    c.loop-index.invariant c.in_ok-add_test.ensures
