use Rattle.cat_machine.proofs.Same.{changed}
use Rattle.cat_eval.proofs.spread.Spread.write_relation.Goals as goal

pub returns-in-Some-clause-value : goal.returns-in-Some-clause-value
returns-in-Some-clause-value c =
    λ k low high. changed c.read_relation.new.target c.args.count _ _
    (λ a b. c.in-Some.ensures.pairs k c.args.count a b) (c.read_relation.ensures.value k low high)
