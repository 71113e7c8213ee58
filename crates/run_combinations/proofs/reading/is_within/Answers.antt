use Rattle.std.proofs.Common.{◌≡◌, rules}
use Rattle.run_combinations.proofs.Members.{member_not_not}
use Rattle.run_combinations.proofs.reading.is_within.Goals as goal

pub returns-then-count : goal.returns-then-count
returns-then-count c =
    let same : c.args.set.now.count ≡ c.args.other.now.count = search rules in (
      (λ t. (
        same,
        λ a m. member_not_not c.args.other.now a (λ never.
            c.is_empty.ensures.0 t a ((c.minus.ensures.members a).1 (m, never))),
      )),
      (λ inside. c.is_empty.ensures.1 (λ a m. ((c.minus.ensures.members a).0 m).1
          (inside.1 a ((c.minus.ensures.members a).0 m).0))),
    )
