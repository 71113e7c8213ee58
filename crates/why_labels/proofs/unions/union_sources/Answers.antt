use Rattle.std.proofs.Common.{ℕ, ◌≡◌, ◌∙◌, drop, reverse, subst, arith}
use Rattle.why_labels.specs.Scanning.{names_from}
use Rattle.why_labels.proofs.Scanned.{names_are}
use Rattle.why_labels.proofs.unions.union_sources.Goals as goal

pub returns : goal.returns
returns c = λ t code.
    let none : c.back.left ≡ 0 = omega arith in
    let read = subst (λ (n : ℕ). reverse c.back.sources.items ≡ names_from (drop n c.args.steps.now)) none c.back.invariant.2 in
    c.reverse.ensures.items ∙ read ∙ names_are c.args.steps.now t code
