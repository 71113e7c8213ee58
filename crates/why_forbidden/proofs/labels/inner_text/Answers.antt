use Rattle.std.proofs.Common.{Some, None, ap, ◌∙◌, ◌++◌, List, ℕ}
use Rattle.std.specs.Prelude.{codes}
use Rattle.std.proofs.lemmas.Result.{IfOk-weaker}
use Rattle.why_forbidden.proofs.labels.inner_text.Goals as goal

pub returns-in-Some : goal.returns-in-Some
returns-in-Some c =
    IfOk-weaker c.behind_colon.result _ _
    (λ v e. record {
      found = Some c.in-Some.inner;
      innermost = rw c.in-Some.is at c.in_ok-inner.ensures;
      told = e ∙ ap (λ (name : List ℕ). codes ":" ++ name) c.spelled.ensures;
    }) c.behind_colon.ensures

pub returns-in-None : goal.returns-in-None
returns-in-None c = record {
  found = None;
  innermost = rw c.in-None.is at c.in_ok-inner.ensures;
  told = c.new.ensures.items;
}
