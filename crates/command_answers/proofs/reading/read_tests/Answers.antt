use Rattle.std.proofs.Common.{rules}
use Rattle.command_answers.proofs.Reports.{no_tests, tests_more}
use Rattle.command_answers.proofs.reading.read_tests.Goals as goal

pub loop-file-init : goal.loop-file-init
loop-file-init c = no_tests c.args.faults.items c.new.result.items c.new.ensures.items

pub loop-file-preserved : goal.loop-file-preserved
loop-file-preserved c =
    tests_more c.args.faults.items c.args.files.now c.loop-file.file-index c.file-item.result
    c.loop-file.read.tests.items c.read_test_file.new.read.tests.items
    c.loop-file.read.faults.items c.read_test_file.new.read.faults.items (search rules)
    (search rules) c.loop-file.invariant c.in_ok-read_test_file.ensures
