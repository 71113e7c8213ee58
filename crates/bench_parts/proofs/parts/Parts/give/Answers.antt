use Rattle.bench_parts.specs.Contents.{parts_state}
use Rattle.bench_parts.specs.States.{given_to_node}
use Rattle.bench_parts.specs.Views.{given_of}
use Rattle.bench_parts.proofs.Equality.{gives}
use Rattle.bench_parts.proofs.parts.Parts.give.Goals as goal

pub returns-clause-gives : goal.returns-clause-gives
returns-clause-gives c =
    let s = parts_state c.args.self.now c.args.tests.now in
    gives c.given_from.result (given_of s c.args.node.test c.in-Some.found) (given_to_node s c.args.node)
    c.in-Some.ensures c.given_from.ensures
