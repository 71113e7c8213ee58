use Rattle.std.proofs.Common.{◌≡◌, ◌∙◌, sym, ap, drop, ◌+◌, Bool, false, arith}
use Rattle.std.specs.List.{list_all}
use Rattle.std.specs.Prelude.{◌&&◌}
use Rattle.std.proofs.lemmas.List.{at_drop_more, at_drop_all}
use Rattle.cat_expressions.specs.Reading.{is_no_bracket}
use Rattle.cat_expressions.proofs.Stack.{is_outermost-stack}
use Rattle.cat_expressions.proofs.frames.are_outermost.Goals as goal

pub returns-then-not-is_no_bracket : goal.returns-then-not-is_no_bracket
returns-then-not-is_no_bracket c =
    let here : is_no_bracket c.f-item.result ≡ false = sym c.is_no_bracket.ensures ∙ c.if-not-is_no_bracket.true in
    let fs = c.args.frames.now in
    let i = c.loop-f.f-index in
    sym (is_outermost-stack fs ∙ c.loop-f.invariant
    ∙ at_drop_more (list_all is_no_bracket) fs i c.f-item.result (omega arith)
    ∙ ap (λ (f : _). is_no_bracket f && list_all is_no_bracket (drop (i + 1) fs))
    (sym c.f-item.is)
    ∙ ap (λ (b : Bool). b && list_all is_no_bracket (drop (i + 1) fs)) here)

pub returns : goal.returns
returns c = let fs = c.args.frames.now in
    sym (is_outermost-stack fs ∙ c.loop-f.invariant
    ∙ at_drop_all (list_all is_no_bracket) fs c.loop-f.f-index (omega arith))
