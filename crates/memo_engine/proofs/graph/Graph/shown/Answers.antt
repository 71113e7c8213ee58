use Rattle.std.proofs.Common.{◌∙◌, sym}
use Rattle.memo_core.specs.Graph.{memo_of}
use Rattle.memo_core.specs.Right.{CountsAsComputed, IsMadeNow}
use Rattle.memo_core.proofs.Counted.{counted_made}
use Rattle.memo_core.specs.Views.{as_memos, shown_outputs}
use Rattle.memo_core.proofs.JudgeLemmas.{true_false}
use Rattle.memo_engine.proofs.MarkLemmas.{settled_marked}
use Rattle.memo_core.proofs.Headline.{settled_solved}
use Rattle.memo_engine.proofs.WorkLemmas.{outputs_made, no_outputs, has_there}
use Rattle.memo_engine.proofs.graph.Graph.shown.Goals as goal

pub returns-then-not-is_marked-clause-open : goal.returns-then-not-is_marked-clause-open
returns-then-not-is_marked-clause-open g c =
    let s = c.args.self.now in
    let t = g.T.Texts in
    λ is. true_false _ (settled_marked (t.net s.texts) s.memos.entries
    (g.met.T.Texts.used_closed s.texts c.requires.right.0) c.requires.marks is.0 c.args.node
    c.requires.used is.1)
    (sym c.is_marked.ensures ∙ c.if-not-is_marked.true)

pub unreachable-requires : goal.unreachable-requires
unreachable-requires g c =
    let s = c.args.self.now in
    let t = g.T.Texts in
    let is = c.requires.marks.sound c.args.node (sym c.is_marked.ensures ∙ c.if-not-is_marked.false) in
    let there = has_there (t.is_there s.texts) (t.net s.texts).used c.args.node (g.met.T.Texts.used_there s.texts c.requires.right.0) c.requires.used in
    let solved = settled_solved (CountsAsComputed t.since t.net t.makes s.texts) t.makes (t.net s.texts) (as_memos s.memos.entries) s.taken (t.is_there s.texts) (λ m is vs os k a. counted_made t.is_valid t.since t.net t.makes g.met.T.Texts.given_stays s.texts c.requires.right.0 m is vs os k a) c.requires.right.1 (g.met.T.Texts.sound s.texts c.requires.right.0) is.0 c.args.node there is.1 in
    no_outputs (memo_of c.args.node (as_memos s.memos.entries)) solved.memo
    (c.in-None.ensures.shown) solved.found

pub returns-clause-settled : goal.returns-clause-settled
returns-clause-settled g c =
    c.requires.marks.sound c.args.node (sym c.is_marked.ensures ∙ c.if-not-is_marked.false)

pub returns-clause-solved : goal.returns-clause-solved
returns-clause-solved g c =
    let s = c.args.self.now in
    let t = g.T.Texts in
    let is = c.requires.marks.sound c.args.node (sym c.is_marked.ensures ∙ c.if-not-is_marked.false) in
    let there = has_there (t.is_there s.texts) (t.net s.texts).used c.args.node (g.met.T.Texts.used_there s.texts c.requires.right.0) c.requires.used in
    let solved = settled_solved (CountsAsComputed t.since t.net t.makes s.texts) t.makes (t.net s.texts) (as_memos s.memos.entries) s.taken (t.is_there s.texts) (λ m is vs os k a. counted_made t.is_valid t.since t.net t.makes g.met.T.Texts.given_stays s.texts c.requires.right.0 m is vs os k a) c.requires.right.1 (g.met.T.Texts.sound s.texts c.requires.right.0) is.0 c.args.node there is.1 in (
      solved.values,
      solved.present,
      outputs_made (IsMadeNow t.makes (t.net s.texts) c.args.node solved.values)
          (memo_of c.args.node (as_memos s.memos.entries)) solved.memo
          (shown_outputs c.in-Some.outputs.now) (c.in-Some.ensures.shown) solved.found
          solved.made,
    )

pub returns-clause-stored : goal.returns-clause-stored
returns-clause-stored g c = sym c.in-Some.ensures.shown
