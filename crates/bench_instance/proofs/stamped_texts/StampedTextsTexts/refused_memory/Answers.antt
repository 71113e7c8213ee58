use Rattle.std.proofs.Common.{false}
use Rattle.bench_texts.specs.Edits.{edit_of}
use Rattle.bench_texts.specs.Held.{texts_of}
use Rattle.bench_texts.proofs.Refusing.{wants_memory}
use Rattle.bench_instance.proofs.stamped_texts.StampedTextsTexts.refused_memory.Goals as goal

-- a prepared edit is accepted
pub returns : goal.returns
returns c = λ t u e prepared.
    wants_memory (texts_of t.texts) _ false (edit_of e) c.args.error prepared.applies
