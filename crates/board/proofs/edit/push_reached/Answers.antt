use Rattle.std.proofs.Common.{◌≡◌, List, [], ◌∷◌, ◌++◌, true, sym, subst}
use Rattle.board.specs.declared.operation.CellIndex.{CellIndex}
use Rattle.board.specs.Legal.{tests_and_models}
use Rattle.board.specs.Lines.{ListsAmong}
use Rattle.board.proofs.Announcing.{one_listed, one_passed}
use Rattle.board.proofs.edit.push_reached.Goals as goal

pub returns-then-not-reaches : goal.returns-then-not-reaches
returns-then-not-reaches c = λ line l.
    one_passed (tests_and_models c.args.texts.now) c.args.prepared.now.whole c.args.prepared.now.replacement
    line c.args.reached.now.items l c.args.at
    (λ is.
    let t : c.reaches.result ≡ true = c.reaches.ensures.reached.1 is in
    let f = c.if-not-reaches.true in cc)
    (c.reaches.ensures.kept c.if-not-reaches.true)

pub returns : goal.returns
returns c = λ line l.
    subst
    (λ (xs : List CellIndex). ListsAmong (tests_and_models c.args.texts.now) c.args.prepared.now.whole
    c.args.prepared.now.replacement (line ++ c.args.at ∷ []) xs)
    (sym c.in_ok-push.ensures.items)
    (one_listed (tests_and_models c.args.texts.now) c.args.prepared.now.whole c.args.prepared.now.replacement
    line c.args.reached.now.items l c.args.at
    (c.reaches.ensures.reached.0 c.if-not-reaches.false))
