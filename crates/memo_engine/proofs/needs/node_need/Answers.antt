use Rattle.std.proofs.Common.{◌∙◌, true, map, inl, sym}
use Rattle.memo_core.specs.declared.keys.Input.{Input}
use Rattle.memo_core.specs.Graph.{present_inputs}
use Rattle.memo_core.specs.Views.{as_memos}
use Rattle.memo_core.specs.Tests.{all_nodes, same_inputs}
use Rattle.memo_core.specs.Marks.{mark_of}
use Rattle.memo_engine.proofs.NeedLemmas.{kept_mark, need_found, need_matched, need_place, no_mark, no_match}
use Rattle.memo_engine.proofs.needs.node_need.Goals as goal

pub returns-then-kept-clause-need : goal.returns-then-kept-clause-need
returns-then-kept-clause-need g c =
    λ are. inl (kept_mark (g.T.Texts.net c.args.texts.now) c.args.node c.args.memos.now.entries
    c.in-Some.kept.now c.in-Some.ensures.found ∙ c.if-kept.true)

pub returns-then-kept-2-clause-need : goal.returns-then-kept-2-clause-need
returns-then-kept-2-clause-need g c =
    λ are. need_matched (g.T.Texts.net c.args.texts.now) c.args.memos.now.entries c.args.node
    c.in-Some.index c.in-Some.kept.now c.matched_need.result c.in-Some.ensures.found
    c.if-kept.false c.if-kept-2.true are
    (rw c.as_slice-inputs.ensures.value at c.matched_need.ensures)

pub returns-then-kept-2-clause-place : goal.returns-then-kept-2-clause-place
returns-then-kept-2-clause-place g c =
    let ks = c.args.memos.now.entries in
    need_place ks c.args.node c.in-Some.index c.matched_need.result
    (all_nodes (mark_of ks) (map (λ (i : Input). i.key) c.as_slice-inputs.result.now)) true
    c.in-Some.ensures.at
    (kept_mark (g.T.Texts.net c.args.texts.now) c.args.node c.args.memos.now.entries
    c.in-Some.kept.now c.in-Some.ensures.found ∙ c.if-kept.false) c.matched_need.ensures

pub returns-else-kept-2-clause-need : goal.returns-else-kept-2-clause-need
returns-else-kept-2-clause-need g c =
    λ are. need_found (g.T.Texts.net c.args.texts.now) c.args.memos.now.entries c.args.node
    c.in-Some.index c.in-Some.kept.now c.found_need.result c.in-Some.ensures.found
    c.if-kept.false (rw c.as_slice-inputs.ensures.value at c.found_need.ensures)

pub returns-else-kept-2-clause-place : goal.returns-else-kept-2-clause-place
returns-else-kept-2-clause-place g c =
    let net = g.T.Texts.net c.args.texts.now in
    let ks = c.args.memos.now.entries in
    let keys = net.inputs c.args.node in
    need_place ks c.args.node c.in-Some.index c.found_need.result
    (all_nodes (mark_of ks) keys)
    (same_inputs c.as_slice-inputs.result.now (present_inputs net (as_memos ks) keys))
    c.in-Some.ensures.at
    (kept_mark (g.T.Texts.net c.args.texts.now) c.args.node c.args.memos.now.entries
    c.in-Some.kept.now c.in-Some.ensures.found ∙ c.if-kept.false) c.found_need.ensures

pub returns-then-inputs_marked-clause-need : goal.returns-then-inputs_marked-clause-need
returns-then-inputs_marked-clause-need g c =
    let net = g.T.Texts.net c.args.texts.now in
    let ks = c.args.memos.now.entries in
    λ are. (
      no_mark net c.args.node ks c.in-None.ensures.found,
      no_match net c.args.node ks c.in-None.ensures.found,
      sym c.inputs_marked.ensures ∙ c.if-inputs_marked.true,
    )
