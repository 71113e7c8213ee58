-- The steps of a reason, one after another.
use Rattle.std.proofs.Common.{ℕ, suc, ◌≡◌, ◌<◌, ◌+◌, ◌∙◌, List, ◌∷◌, ◌++◌, length, get_or, drop, append_assoc, drop-cons, ap, sym, subst, arith}
use Rattle.why_text.specs.declared.reason.ToldStep.{ToldStep}
use Rattle.draw_graph.specs.Texts.{steps_text, thick_line}

pub steps_go : (initial from i : ℕ) (text whole : List ℕ) (steps : List ToldStep) (step : ToldStep)
    → i < length steps → step ≡ get_or steps i step
    → text ++ steps_text initial from (drop i steps) ≡ whole
    → (text ++ thick_line initial from step.to step.label.items)
    ++ steps_text initial step.to (drop (i + 1) steps) ≡ whole
steps_go initial from i text whole steps step lt is old =
    let one : suc i ≡ i + 1 = omega arith in
    let cut : drop i steps ≡ get_or steps i step ∷ drop (i + 1) steps = subst (λ (k : ℕ). drop i steps ≡ get_or steps i step ∷ drop k steps) one (drop-cons steps i step lt) in
    let next : drop i steps ≡ step ∷ drop (i + 1) steps = cut ∙ ap (λ (s : ToldStep). s ∷ drop (i + 1) steps) (sym is) in
    append_assoc text (thick_line initial from step.to step.label.items)
    (steps_text initial step.to (drop (i + 1) steps))
    ∙ ap (λ (rest : List ToldStep). text ++ steps_text initial from rest) (sym next) ∙ old

pub three_parts : (t a b c : List ℕ) → ((t ++ a) ++ b) ++ c ≡ t ++ (a ++ (b ++ c))
three_parts t a b c = append_assoc (t ++ a) b c ∙ append_assoc t a (b ++ c)
