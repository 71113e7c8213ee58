use Rattle.std.proofs.Common.{ap, ◌∙◌}
use Rattle.std.proofs.lemmas.Bool.Decides.{same_from_decides}
use Rattle.bench_parts.specs.Contents.{parts_state}
use Rattle.bench_parts.specs.Equal.{same_given}
use Rattle.bench_parts.specs.States.{is_given}
use Rattle.bench_parts.specs.Views.{given_of}
use Rattle.bench_parts.proofs.Equality.{given_exact}
use Rattle.bench_parts.proofs.parts.Parts.is_given.Goals as goal

pub returns-in-Some : goal.returns-in-Some
returns-in-Some c =
    let given = c.args.given.now in
    let present = given_of (parts_state c.args.self.now c.args.tests.now) c.args.node.test c.in-Some.found in
    same_from_decides c.is_given_from.result (same_given present given) c.is_given_from.ensures
    (given_exact present given) ∙ ap (λ o. is_given o given) c.in-Some.ensures
