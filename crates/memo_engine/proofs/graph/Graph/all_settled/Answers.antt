use Rattle.memo_engine.proofs.MarkLemmas.{all_marked, some_unmarked}
use Rattle.memo_engine.proofs.graph.Graph.all_settled.Goals as goal

pub returns-clause-yes : goal.returns-clause-yes
returns-clause-yes g c =
    let s = c.args.self.now in
    λ t n has. all_marked (g.T.Texts.net s.texts) s.memos.entries
    (g.met.T.Texts.used_closed s.texts c.requires.right.0) c.requires.marks
    (c.are_used_marked.ensures.yes t) n has

pub returns-clause-no : goal.returns-clause-no
returns-clause-no g c =
    let s = c.args.self.now in
    λ f. some_unmarked (g.T.Texts.net s.texts) s.memos.entries
    (g.met.T.Texts.used_closed s.texts c.requires.right.0) c.requires.marks
    (c.are_used_marked.ensures.no f)
