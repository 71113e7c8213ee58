use Rattle.std.proofs.Common.{arith}
use Rattle.text_values.proofs.Bytes.{no_comment}
use Rattle.text_values.proofs.layout.comment_length.Goals as goal

pub returns-then-bytes-lt2-clause-value : goal.returns-then-bytes-lt2-clause-value
returns-then-bytes-lt2-clause-value c = no_comment c.args.bytes.now (omega arith)
