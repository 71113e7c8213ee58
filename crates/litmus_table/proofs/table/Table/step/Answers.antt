use Rattle.litmus_table.specs.Reading.{threads_of, cell_expectation_of}
use Rattle.litmus_table.proofs.Places.{expectation_within}
use Rattle.litmus_table.proofs.table.Table.step.Goals as goal

pub returns-clause-within : goal.returns-clause-within
returns-clause-within c = λ n le h.
    expectation_within n c.args.offset le (threads_of c.args.self.now.threads.items)
    c.args.self.now.column h (cell_expectation_of c.args.self.now.cell) c.args.token _
    c.in_ok-go.ensures
