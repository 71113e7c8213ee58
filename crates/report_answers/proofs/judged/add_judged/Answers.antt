use Rattle.std.proofs.Common.{◌∷◌, [], List, map, refl, ap, ◌∙◌}
use Rattle.std.proofs.lemmas.List.{map-append}
use Rattle.report_answers.specs.declared.judged.KnownTest.{KnownTest}
use Rattle.report_answers.specs.Known.{shown_test, IsKnownTest}
use Rattle.report_answers.proofs.Known.{row_under}
use Rattle.report_answers.proofs.judged.add_judged.Goals as goal

pub drawings_if-requires : goal.drawings_if-requires
drawings_if-requires c =
    let has = c.in_ok-row.ensures c.requires.judges.texts c.requires.judges.resolved_are in
    row_under c.args.test.now c.args.judges.now.models.now c.requires.judges.texts
    c.in_ok-row.row.outcomes.items c.requires.judges.same has.outcomes

pub returns : goal.returns
returns c = λ lines.
    let has = c.in_ok-row.ensures c.requires.judges.texts c.requires.judges.resolved_are in
    let t : KnownTest = record { file = c.args.file; row = c.in_ok-row.row; drawings = c.in_ok-drawings.drawings } in
    IsKnownTest (shown_test t) (record {
      known = c.args.test.now;
      read = c.requires.read;
      name = has.name;
      text = refl;
      outcomes = row_under c.args.test.now c.args.judges.now.models.now c.requires.judges.texts
          c.in_ok-row.row.outcomes.items c.requires.judges.same has.outcomes;
      drawings = c.in_ok-drawings.ensures;
    }) (ap (λ (l : List KnownTest). map shown_test l) c.in_ok-push.ensures.items
    ∙ map-append shown_test c.args.known.now.tests.items (t ∷ [])) refl
