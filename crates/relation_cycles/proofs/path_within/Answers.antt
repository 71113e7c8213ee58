use Rattle.std.proofs.Common.{ℕ, ◌<◌, ◌≤◌, ◌-◌, sym, ◌∙◌, arith}
use Rattle.std.proofs.lemmas.Bool.{false≢true}
use Rattle.bit_rows.specs.Relation.{Has}
use Rattle.relation_cycles.specs.Cycles.{IsReachableIn}
use Rattle.relation_cycles.proofs.Steps.{begins_inside, begun, closes, comes_first, left_below, left_some, level_is, steps_on, traced}
use Rattle.relation_cycles.proofs.path_within.Goals as goal

pub contains-requires-clause-from : goal.contains-requires-clause-from
contains-requires-clause-from c =
    begins_inside c.args.relation.now c.requires.regular _ _ _ c.tracing.invariant.ahead

pub middle-at-requires-clause-from : goal.middle-at-requires-clause-from
middle-at-requires-clause-from c =
    begins_inside c.args.relation.now c.requires.regular _ _ _ c.tracing.invariant.ahead

pub middle-at-requires-clause-some : goal.middle-at-requires-clause-some
middle-at-requires-clause-some c =
    let t = c.tracing.invariant in
    let below : c.tracing.left ≤ c.args.steps = left_below _ _ _ _ _ _ _ t in
    let some : 0 < c.tracing.left = left_some _ _ _ _ _ _ _ t in
    let level = level_is c.args.relation.now c.args.levels.now c.requires.levels c.index-levels-left.result (c.tracing.left - 1) (omega arith) c.index-levels-left.is in
    let on = steps_on _ _ _ _ _ _ _ t (λ r. absurd (false≢true (sym c.tracing-test.true ∙ c.contains.ensures.1 r))) in
    (on.0, on.1, (level.pairs on.0 c.args.to).1 on.2)

pub tracing-init : goal.tracing-init
tracing-init c =
    rw (c.in_ok-push.ensures.items, c.new-path.ensures.items)
    (begun _ c.args.from c.args.to c.args.steps c.requires.some)

pub tracing-preserved : goal.tracing-preserved
tracing-preserved c =
    let t = c.tracing.invariant in
    let below : c.tracing.left ≤ c.args.steps = left_below _ _ _ _ _ _ _ t in
    let some : 0 < c.tracing.left = left_some _ _ _ _ _ _ _ t in
    let level = level_is c.args.relation.now c.args.levels.now c.requires.levels c.index-levels-left.result (c.tracing.left - 1) (omega arith) c.index-levels-left.is in
    let R = Has c.args.relation.now in
    let other : R c.tracing.at c.args.to → ⊥ = λ r. absurd (false≢true (sym c.tracing-test.true ∙ c.contains.ensures.1 r)) in
    let none : (event : ℕ) → event < c.middle-at.result → R c.tracing.at event → IsReachableIn R (c.tracing.left - 1) event c.args.to → ⊥ =
    λ event lt r w. c.middle-at.ensures.least event lt r ((level.pairs event c.args.to).1 w) in
    rw c.in_ok-push-2.ensures.items (traced _ _ _ _ _ _ _ t c.middle-at.result
    c.middle-at.ensures.left
    ((level.pairs c.middle-at.result c.args.to).0 c.middle-at.ensures.right) other none)

pub returns-clause-path : goal.returns-clause-path
returns-clause-path c =
    closes _ _ _ _ _ _ _ c.tracing.invariant (c.contains.ensures.0 c.tracing-test.false)

pub returns-clause-first : goal.returns-clause-first
returns-clause-first c = comes_first _ _ _ _ _ _ _ c.tracing.invariant
