use mathlib.Core.Path.{subst, subst⁻¹}
use Rattle.meaning.specs.Executions.{IsEvent}
use Rattle.meaning.specs.Evaluates.{outermost}
use Rattle.meaning.proofs.Renaming.{renaming_keeps}
use Rattle.meaning.proofs.laws.renaming_keeps_all.Goals as goal

pub returns : goal.returns
returns c = λ t before behind n m e free are x.
    let same : _ =
    renaming_keeps (IsEvent t x) (outermost t x) before behind n m e free are in (
      λ kept. (kept.0, subst (λ P. P) same kept.1),
      λ kept. (kept.0, subst⁻¹ (λ P. P) same kept.1),
    )
