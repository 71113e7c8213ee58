use Rattle.std.proofs.Common.{◌≡◌, ℕ}
use Rattle.meaning_plain.specs.Lists.{Joins}
use Rattle.meaning_plain.proofs.Growing.{grows_as, grows_not}
use Rattle.meaning_plain.proofs.relations.add_step.Goals as goal

pub returns-then-begin-through : goal.returns-then-begin-through
returns-then-begin-through c =
    grows_not (Joins c.args.from c.args.through c.args.step) c.args.pairs.now.items
    (λ p h. c.if-begin-through.true h.0)

pub returns : goal.returns
returns c =
    grows_as (λ (p : ℕ × ℕ). p ≡ (c.args.from, c.args.step.1))
    (Joins c.args.from c.args.through c.args.step) c.args.pairs.now.items _
    (λ p. ((λ e. (c.if-begin-through.false, e)), λ h. h.1)) c.in_ok-add_pair.ensures
