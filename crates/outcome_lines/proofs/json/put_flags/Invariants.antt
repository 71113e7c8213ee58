use Rattle.std.proofs.Common.{◌≡◌, ◌++◌, drop}
use Rattle.std.specs.Prelude.{codes, map}
use Rattle.text_values.specs.Joined.{joined}
use Rattle.text_values.proofs.Separated.{from}
use Rattle.escaped_texts.specs.Strings.{string_text}
use Rattle.outcome_lines.proofs.json.put_flags.Given as goal

abbrev pub invariant-loop-index : goal.invariant-loop-index
invariant-loop-index l =
    l.text.items ++ from (codes ",") l.index (map string_text (drop l.index l.flags))
    ≡ l.initial.text.items ++ joined (codes ",") (map string_text l.flags)
