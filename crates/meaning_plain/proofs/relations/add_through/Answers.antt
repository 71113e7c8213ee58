use Rattle.meaning_plain.specs.Lists.{JoinsSteps, JoinsThrough}
use Rattle.meaning_plain.proofs.Growing.{grows_as, grows_not}
use Rattle.meaning_plain.proofs.relations.add_through.Goals as goal

pub returns-then-end-k : goal.returns-then-end-k
returns-then-end-k c =
    grows_not (JoinsThrough c.args.k c.args.steps.now c.args.pair) c.args.pairs.now.items
    (λ p h. c.if-end-k.true h.0)

pub returns : goal.returns
returns c =
    grows_as (JoinsSteps c.args.steps.now c.args.pair)
    (JoinsThrough c.args.k c.args.steps.now c.args.pair) c.args.pairs.now.items _
    (λ p. ((λ e. (c.if-end-k.false, e)), λ h. h.1)) c.in_ok-add_steps.ensures
