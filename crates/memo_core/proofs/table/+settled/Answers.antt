use Rattle.std.proofs.Common.{◌≡◌, sym, subst, ◌∙◌, arith, ◌∷◌, drop}
use Rattle.std.specs.List.{AllByRecursion as Each}
use Rattle.std.proofs.lemmas.List.{drop_all}
use Rattle.memo_core.specs.declared.keys.Key.{Key}
use Rattle.memo_core.specs.Graph.{input_nodes, IsSettled}
use Rattle.memo_core.specs.Views.{as_memos}
use Rattle.memo_core.proofs.JudgeLemmas.{true_false}
use Rattle.memo_core.proofs.Settling.{settled_above, settled_below, settled_matches}
use Rattle.memo_core.proofs.table.+settled.Goals as goal
use Rattle.memo_core.proofs.table.+settled.Goals.{in-Part, in-Output+else-not-settled}

pub returns-then-not-matches-clause-no : goal.returns-then-not-matches-clause-no
returns-then-not-matches-clause-no g t c =
    λ f s. true_false _
    (settled_matches (g.T.Texts.net c.args.texts.now) (as_memos c.args.memos.now.entries)
    c.args.node s) (sym c.matches.ensures ∙ c.if-not-matches.true)

pub loop-i-init : goal.loop-i-init
loop-i-init g t c = record {
  settled = λ all. all;
  left = λ all. all;
  low = g.met.T.Texts.falls c.args.texts.now c.requires c.args.node;
}

pub settled-requires : goal.settled-requires
settled-requires g t c κs within =
    let low = rw (c.input_at.ensures.rest, c.in-Output.is) at c.loop-i.invariant.low in (
      omega (arith, low.0, c.decreases),
      (
        within.0,
        (
          within.1.0,
          (
            within.1.1.0,
            (
              within.1.1.1.0,
              (within.1.1.1.1.0, (within.1.1.1.1.1.0, (within.1.1.1.1.1.1, c.requires))),
            ),
          ),
        ),
      ),
    )

pub returns-then-not-settled-clause-no : goal.returns-then-not-settled-clause-no
returns-then-not-settled-clause-no g t c =
    let net = g.T.Texts.net c.args.texts.now in
    let memos = as_memos c.args.memos.now.entries in
    λ f s.
    let left = rw (c.input_at.ensures.rest, c.in-Output.is) at (c.loop-i.invariant.left (settled_below net memos c.args.node s)) in
    c.settled.ensures.no c.if-not-settled.true left.0

pub loop-i-preserved : goal.loop-i-preserved
loop-i-preserved g t c = elim c.match-input_at.branch [
  | in-Part w ↦ record {
    settled = λ all. c.loop-i.invariant.settled (rw (c.input_at.ensures.rest, w.in-Part.is) all);
    left = λ all. rw (c.input_at.ensures.rest, w.in-Part.is) at (c.loop-i.invariant.left all);
    low = rw (c.input_at.ensures.rest, w.in-Part.is) at c.loop-i.invariant.low;
  }
  | in-Output+else-not-settled w ↦ record {
    settled =
        λ all. c.loop-i.invariant.settled (rw (c.input_at.ensures.rest, w.in-Output.is)
        (w.settled.ensures.yes w.if-not-settled.false, all));
    left =
        λ all. (rw (c.input_at.ensures.rest, w.in-Output.is) at (c.loop-i.invariant.left all)).1;
    low = (rw (c.input_at.ensures.rest, w.in-Output.is) at c.loop-i.invariant.low).1;
  }
]

pub returns-clause-yes : goal.returns-clause-yes
returns-clause-yes g t c =
    let net = g.T.Texts.net c.args.texts.now in
    let memos = as_memos c.args.memos.now.entries in
    let inputs = net.inputs c.args.node in
    λ t.
    settled_above net memos c.args.node (sym c.matches.ensures ∙ c.if-not-matches.false)
    (c.loop-i.invariant.settled (rw (drop_all c.loop-i.i inputs (omega arith)) tt))
