use Rattle.std.proofs.Common.{◌≡◌, ◌<◌, ◌+◌, ℕ, List, Bor, length, get_or, drop, Option, None, nat_cmp, sym, ap, ◌∙◌, arith}
use Rattle.std.specs.BTreeMap.{get_by}
use Rattle.std.specs.Cmp.Lexicographic.{slice_cmp}
use Rattle.litmus_tokens.specs.declared.rule.LitmusRule.{LitmusRule}
use Rattle.text_values.specs.declared.test.Step.{Step}
use Rattle.litmus_table.specs.Checks.{first_from, step_rule, or_later, first_fault}
use Rattle.litmus_table.proofs.First.{step_rule-same, checked_here}
use Rattle.litmus_table.proofs.late.PlacedThread.check_labels.Goals as goal

pub loop-i-preserved : goal.loop-i-preserved
loop-i-preserved c =
    let ss = c.args.self.now.steps.items in
    let ps = c.args.self.now.offsets.items in
    let i = c.loop-i.i in
    let d = c.step-item.result in
    let f : List ℕ → Option ℕ = λ w. first_from w 0 ss in
    let lt : i < length ss = omega arith in
    let there : i < length ps = omega arith in
    let item : get_or ss i d ≡ d = ap (λ (l : List Step). get_or l i d) (sym c.deref-step-items.ensures.value) ∙ sym c.step-item.is in
    let found : c.step_rule.result ≡ step_rule f d i
    =
    c.step_rule.ensures
    ∙ step_rule-same
    (λ w. get_by {K = Bor (List ℕ)} (λ k. slice_cmp nat_cmp w k.now)
    c.in_ok-definitions.definitions) f
    (λ w. c.in_ok-definitions.ensures w) i d in
    let none : step_rule f (get_or ss i d) i ≡ None = ap (λ (s : Step). step_rule f s i) item ∙ sym found ∙ c.in_default.is in
    c.loop-i.invariant ∙ checked_here f ss ps i d 0 lt there
    ∙ ap
    (λ (o : Option LitmusRule). or_later o (get_or ps i 0)
    (first_fault f (i + 1) (drop (i + 1) ss) (drop (i + 1) ps))) none
