use Rattle.std.proofs.Common.{◌≡◌, Contains, true}
use Rattle.meaning_plain.proofs.Growing.{grows_if, grows_unless}
use Rattle.meaning_plain.proofs.relations.add_common.Goals as goal

pub returns-then-not-has_pair : goal.returns-then-not-has_pair
returns-then-not-has_pair c =
    grows_unless (Contains c.args.others.now c.args.pair) c.args.pair c.args.pairs.now.items
    (λ is.
    let t : c.has_pair.result ≡ true = c.has_pair.ensures.1 is in
    let f = c.if-not-has_pair.true in cc)

pub returns : goal.returns
returns c =
    grows_if (Contains c.args.others.now c.args.pair) c.args.pair c.args.pairs.now.items _
    (c.has_pair.ensures.0 c.if-not-has_pair.false) c.in_ok-add_pair.ensures
