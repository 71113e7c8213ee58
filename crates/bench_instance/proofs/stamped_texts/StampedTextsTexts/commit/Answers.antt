use Rattle.std.proofs.Common.{subst, arith}
use Rattle.bench_edits.specs.Edited.{Commits}
use Rattle.bench_instance.proofs.Counting.{few_used}
use Rattle.bench_instance.proofs.stamped_texts.StampedTextsTexts.commit.Goals as goal

pub returns-clause-used : goal.returns-clause-used
returns-clause-used c =
    let parts = c.into_parts-texts.ensures.parts in
    let commits = subst (λ p. Commits c.args.self.now.parts c.args.number p c.commit_parts.new.parts) parts c.commit_parts.ensures in
    let few = few_used c.args.self.now.parts c.commit_parts.new.parts c.args.number c.args.prepared.parts commits in
    let most = c.requires.ready.used in
    omega (arith, few, most)
