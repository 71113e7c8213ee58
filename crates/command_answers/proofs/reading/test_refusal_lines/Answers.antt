use Rattle.command_answers.proofs.Reports.{test_told}
use Rattle.command_answers.proofs.reading.test_refusal_lines.Goals as goal

pub returns : goal.returns
returns c =
    test_told c.args.file.now c.new.result.items c.read_test_file.new.read.tests.items
    c.new-2.result.items c.read_test_file.new.read.faults.items c.new.ensures.items
    c.new-2.ensures.items c.in_ok-read_test_file.ensures
