use Rattle.std.proofs.Common.{subst}
use Rattle.litmus_table.specs.Bounds.{IsFoundWithin}
use Rattle.litmus_ppc.proofs.reader.Reader.check_labels.Goals as goal

pub returns-in-Ok-Some-clause-within : goal.returns-in-Ok-Some-clause-within
returns-in-Ok-Some-clause-within c =
    λ n k. subst (IsFoundWithin n) c.in-Ok-Some.field-0-is (c.in-Ok-Some.ensures.within n k.1)
