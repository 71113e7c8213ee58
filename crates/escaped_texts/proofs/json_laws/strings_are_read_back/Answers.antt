use Rattle.escaped_texts.proofs.Said.{string_says, string_is_printable}
use Rattle.escaped_texts.proofs.json_laws.strings_are_read_back.Goals as goal

pub returns : goal.returns
returns c = record { said = string_says; bytes = string_is_printable }
