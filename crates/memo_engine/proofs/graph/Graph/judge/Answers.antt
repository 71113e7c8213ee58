use Rattle.std.proofs.Common.{◌∙◌, ap, sym, option_copied}
use Rattle.memo_core.specs.Views.{as_memos, shown_outputs, shown_values}
use Rattle.memo_core.specs.Step.{return_of}
use Rattle.memo_engine.proofs.WorkLemmas.{has_there}
use Rattle.memo_engine.proofs.FindLemmas.{keys_claimed}
use Rattle.memo_core.proofs.JudgeLemmas.{has_yes, other_given, none_out, other_node, not_used, not_present, other_inputs, others_values, is_due}
use Rattle.memo_engine.proofs.graph.Graph.judge.Goals as goal

pub returns-in-None : goal.returns-in-None
returns-in-None g c =
    let s = c.args.self.now in
    let d = c.args.done.now in
    let r = return_of d.claim d.node d.given d.keys.items (shown_values d.values.items) (shown_outputs d.outputs.items) in
    none_out (g.T.Texts.net s.texts) (as_memos s.memos.entries) s.claims.entries s.taken r
    (ap option_copied (sym c.in-None.is) ∙ c.get.ensures.value)

pub returns-then-not-is_same_node : goal.returns-then-not-is_same_node
returns-then-not-is_same_node g c =
    let s = c.args.self.now in
    let d = c.args.done.now in
    let r = return_of d.claim d.node d.given d.keys.items (shown_values d.values.items) (shown_outputs d.outputs.items) in
    let is = ap option_copied (sym c.in-Some.is) ∙ c.get.ensures.value in
    other_node (g.T.Texts.net s.texts) (as_memos s.memos.entries) s.claims.entries s.taken r
    c.in-Some.claim.now is
    (sym c.is_same_node.ensures ∙ c.if-not-is_same_node.true)

pub returns-then-not-is_used : goal.returns-then-not-is_used
returns-then-not-is_used g c =
    let s = c.args.self.now in
    let d = c.args.done.now in
    let r = return_of d.claim d.node d.given d.keys.items (shown_values d.values.items) (shown_outputs d.outputs.items) in
    let is = ap option_copied (sym c.in-Some.is) ∙ c.get.ensures.value in
    not_used (g.T.Texts.net s.texts) (as_memos s.memos.entries) s.claims.entries s.taken r
    c.in-Some.claim.now is
    (sym c.is_same_node.ensures ∙ c.if-not-is_same_node.false)
    (sym c.is_used.ensures ∙ c.if-not-is_used.true)

pub returns-then-not-are_present : goal.returns-then-not-are_present
returns-then-not-are_present g c =
    let s = c.args.self.now in
    let d = c.args.done.now in
    let r = return_of d.claim d.node d.given d.keys.items (shown_values d.values.items) (shown_outputs d.outputs.items) in
    let is = ap option_copied (sym c.in-Some.is) ∙ c.get.ensures.value in
    not_present (g.T.Texts.net s.texts) (as_memos s.memos.entries) s.claims.entries s.taken r
    c.in-Some.claim.now is
    (sym c.is_same_node.ensures ∙ c.if-not-is_same_node.false)
    (sym c.is_used.ensures ∙ c.if-not-is_used.false)
    c.first_stale-stamp.result (rw c.as_slice.ensures.value at
    (sym c.are_present.ensures ∙ c.if-not-are_present.true))
    (rw c.as_slice-then-not-are_present.ensures.value at c.first_stale-stamp.ensures)

pub returns-then-not-keys_are : goal.returns-then-not-keys_are
returns-then-not-keys_are g c =
    let s = c.args.self.now in
    let d = c.args.done.now in
    let r = return_of d.claim d.node d.given d.keys.items (shown_values d.values.items) (shown_outputs d.outputs.items) in
    let claimed = keys_claimed (g.T.Texts.net s.texts) (as_memos s.memos.entries) ((g.T.Texts.net s.texts).inputs d.node) c.in-Some.claim.now.inputs.items (rw c.as_slice.ensures.value at (sym c.are_present.ensures ∙ c.if-not-are_present.false)) in
    let is = ap option_copied (sym c.in-Some.is) ∙ c.get.ensures.value in
    other_inputs (g.T.Texts.net s.texts) (as_memos s.memos.entries) s.claims.entries s.taken r
    c.in-Some.claim.now is
    (sym c.is_same_node.ensures ∙ c.if-not-is_same_node.false)
    (sym c.is_used.ensures ∙ c.if-not-is_used.false)
    (rw c.as_slice.ensures.value at (sym c.are_present.ensures ∙ c.if-not-are_present.false))
    (rw (c.as_slice-2.ensures.value, c.as_slice-3.ensures.value, claimed) at
    (sym c.keys_are.ensures ∙ c.if-not-keys_are.true))

pub is_given-requires : goal.is_given-requires
is_given-requires g c =
    let s = c.args.self.now in
    let t = g.T.Texts in
    let laws = g.met.T.Texts in
    has_there (t.is_there s.texts) (t.net s.texts).used c.args.done.now.node
    (laws.used_there s.texts c.requires.0) (has_yes c.args.done.now.node (t.net s.texts).used
    (sym c.is_used.ensures ∙ c.if-not-is_used.false))

pub returns-then-not-is_given : goal.returns-then-not-is_given
returns-then-not-is_given g c =
    let s = c.args.self.now in
    let d = c.args.done.now in
    let r = return_of d.claim d.node d.given d.keys.items (shown_values d.values.items) (shown_outputs d.outputs.items) in
    let is = ap option_copied (sym c.in-Some.is) ∙ c.get.ensures.value in
    other_given (g.T.Texts.net s.texts) (as_memos s.memos.entries) s.claims.entries s.taken r
    c.in-Some.claim.now is
    (sym c.is_same_node.ensures ∙ c.if-not-is_same_node.false)
    (sym c.is_used.ensures ∙ c.if-not-is_used.false)
    (rw c.as_slice.ensures.value at (sym c.are_present.ensures ∙ c.if-not-are_present.false))
    (sym c.is_given.ensures ∙ c.if-not-is_given.true)

pub returns-then-not-values_are : goal.returns-then-not-values_are
returns-then-not-values_are g c =
    let s = c.args.self.now in
    let d = c.args.done.now in
    let r = return_of d.claim d.node d.given d.keys.items (shown_values d.values.items) (shown_outputs d.outputs.items) in
    let claimed = keys_claimed (g.T.Texts.net s.texts) (as_memos s.memos.entries) ((g.T.Texts.net s.texts).inputs d.node) c.in-Some.claim.now.inputs.items (rw c.as_slice.ensures.value at (sym c.are_present.ensures ∙ c.if-not-are_present.false)) in
    let is = ap option_copied (sym c.in-Some.is) ∙ c.get.ensures.value in
    others_values (g.T.Texts.net s.texts) (as_memos s.memos.entries) s.claims.entries s.taken r
    c.in-Some.claim.now is
    (sym c.is_same_node.ensures ∙ c.if-not-is_same_node.false)
    (sym c.is_used.ensures ∙ c.if-not-is_used.false)
    (rw c.as_slice.ensures.value at (sym c.are_present.ensures ∙ c.if-not-are_present.false))
    g.T.Texts.same g.met.T.Texts.same_exact (rw
    (c.as_slice-2.ensures.value, c.as_slice-3.ensures.value, claimed) at
    (sym c.keys_are.ensures ∙ c.if-not-keys_are.false))
    (rw (c.as_slice-4.ensures.value, c.as_slice-values.ensures.value) at
    (sym c.values_are.ensures ∙ c.if-not-values_are.true))

pub returns : goal.returns
returns g c =
    let s = c.args.self.now in
    let d = c.args.done.now in
    let r = return_of d.claim d.node d.given d.keys.items (shown_values d.values.items) (shown_outputs d.outputs.items) in
    let claimed = keys_claimed (g.T.Texts.net s.texts) (as_memos s.memos.entries) ((g.T.Texts.net s.texts).inputs d.node) c.in-Some.claim.now.inputs.items (rw c.as_slice.ensures.value at (sym c.are_present.ensures ∙ c.if-not-are_present.false)) in
    let is = ap option_copied (sym c.in-Some.is) ∙ c.get.ensures.value in
    is_due (g.T.Texts.net s.texts) (as_memos s.memos.entries) s.claims.entries s.taken r
    c.in-Some.claim.now is
    (sym c.is_same_node.ensures ∙ c.if-not-is_same_node.false)
    (sym c.is_used.ensures ∙ c.if-not-is_used.false)
    (rw c.as_slice.ensures.value at (sym c.are_present.ensures ∙ c.if-not-are_present.false))
    g.T.Texts.same g.met.T.Texts.same_exact (rw
    (c.as_slice-2.ensures.value, c.as_slice-3.ensures.value, claimed) at
    (sym c.keys_are.ensures ∙ c.if-not-keys_are.false))
    (sym c.is_given.ensures ∙ c.if-not-is_given.false) (rw
    (c.as_slice-4.ensures.value, c.as_slice-values.ensures.value) at
    (sym c.values_are.ensures ∙ c.if-not-values_are.false))
