use Rattle.std.proofs.Common.{ap, ◌++◌}
use Rattle.std.specs.Prelude.{codes, map}
use Rattle.text_values.proofs.Separated.{from_first}
use Rattle.escaped_texts.specs.Strings.{string_text}
use Rattle.outcome_lines.proofs.json.put_flags.Goals as goal

pub loop-index-init : goal.loop-index-init
loop-index-init c =
    ap (λ l. c.put_bytes.new.text.items ++ l)
    (from_first (codes ",") (map string_text c.args.flags.now))
