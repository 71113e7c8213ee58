use Rattle.escaped_texts.proofs.Read.{field_is_inside, lines_are_read}
use Rattle.escaped_texts.proofs.tab_laws.lines_are_read_back.Goals as goal

pub returns : goal.returns
returns c = record { fields = field_is_inside; lines = lines_are_read }
