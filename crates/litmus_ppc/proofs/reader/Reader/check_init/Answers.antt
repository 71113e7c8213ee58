use Rattle.std.proofs.Common.{sym}
use Rattle.litmus_ppc.specs.TextReading.{draft_of}
use Rattle.litmus_grammar.proofs.Bounds.{missing_kept}
use Rattle.litmus_ppc.proofs.reader.Reader.check_init.Goals as goal

pub returns-in-Some-clause-within : goal.returns-in-Some-clause-within
returns-in-Some-clause-within c =
    λ n k. missing_kept n c.threads-threads.result c.in-Some.offset (draft_of c.args.self.now.draft)
    k (sym c.in-Some.ensures)
