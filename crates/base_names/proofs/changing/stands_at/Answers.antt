use Rattle.std.proofs.Common.{Some, ap, sym, ◌∙◌}
use Rattle.std.proofs.lemmas.Bool.{eqb-true, eq-eqb, false≢true}
use Rattle.base_names.proofs.Rising.{same_number, none_stands}
use Rattle.base_names.proofs.changing.stands_at.Goals as goal

pub returns-in-Some : goal.returns-in-Some
returns-in-Some c =
    let told = c.location_at.ensures c.args.location in (
      (λ e. told.0 (c.in-Some.is ∙ ap Some (eqb-true c.in-Some.found c.args.location e))),
      (λ h. eq-eqb c.in-Some.found c.args.location
          (same_number (sym c.in-Some.is ∙ told.1 h))),
    )

pub returns-in-None : goal.returns-in-None
returns-in-None c = (
  (λ t. absurd (false≢true t)),
  (λ h. absurd (none_stands (sym c.in-None.is
      ∙ (c.location_at.ensures c.args.location).1 h))),
)
