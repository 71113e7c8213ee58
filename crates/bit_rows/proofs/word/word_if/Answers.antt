use Rattle.std.proofs.Common.{IsTrue}
use Rattle.bit_rows.proofs.Bits.{Bit-zero}
use Rattle.bit_rows.proofs.word.word_if.Goals as goal

pub returns-else-is_wanted : goal.returns-else-is_wanted
returns-else-is_wanted c =
    λ b. (
      (λ h. absurd (Bit-zero b h)),
      (λ h. let t : IsTrue c.args.is_wanted = h.0 in let f = c.if-is_wanted.false in absurd cc),
    )
