use Rattle.std.proofs.Common.{rules, ◌∷◌, [], ℕ, List, map, nat_lt, ap, ◌∙◌, subst, Vec, Global, arith}
use Rattle.std.proofs.lemmas.List.{map-append}
use Rattle.report_answers.specs.Drawn.{IsNextDrawing}
use Rattle.report_answers.proofs.Drawn.{none_drawn, one_drawn, all_drawn}
use Rattle.report_answers.proofs.drawings.drawings_of.Goals as goal

pub loop-index-init : goal.loop-index-init
loop-index-init c =
    none_drawn c.args.test.now c.args.budget.now (map (λ d. d.items) c.in_ok-drawings.drawings.items)
    (ap (λ (l : List (Vec ℕ Global)). map (λ d. d.items) l) c.in_ok-drawings.ensures.items)

pub loop-index-preserved : goal.loop-index-preserved
loop-index-preserved c =
    let next = subst (λ (l : List (Vec ℕ Global)). IsNextDrawing (nat_lt 0 c.loop-index.budget.left) c.args.test.now c.index-models-index.result.model c.index-outcomes-index.result.result (map (λ d. d.items) l) c.loop-index.budget c.in_ok-drawing.drawing.items c.next_drawing.new.budget) c.deref.ensures.value c.in_ok-drawing.ensures in
    one_drawn c.args.test.now c.args.budget.now c.loop-index.budget c.next_drawing.new.budget
    c.args.models.now c.args.outcomes.now c.loop-index.index c.index-models-index.result
    c.index-outcomes-index.result (map (λ d. d.items) c.loop-index.drawings.items)
    (map (λ d. d.items) c.push.new.self.items) c.in_ok-drawing.drawing.items (search rules)
    (search rules) (search rules) (search rules)
    (ap (λ (l : List (Vec ℕ Global)). map (λ d. d.items) l) c.in_ok-push.ensures.items
    ∙ map-append (λ (d : Vec ℕ Global). d.items) c.loop-index.drawings.items
    (c.in_ok-drawing.drawing ∷ []))
    c.loop-index.invariant next

pub returns : goal.returns
returns c =
    all_drawn c.args.test.now c.args.budget.now c.loop-index.budget c.args.models.now
    c.args.outcomes.now c.loop-index.index (map (λ d. d.items) c.loop-index.drawings.items)
    (omega arith) (omega arith) c.loop-index.invariant
