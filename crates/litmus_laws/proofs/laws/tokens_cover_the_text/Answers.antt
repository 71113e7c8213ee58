use Rattle.litmus_laws.proofs.Pieces.{is_cut, is_rising}
use Rattle.litmus_laws.proofs.Unique.{only_cut}
use Rattle.litmus_laws.proofs.laws.tokens_cover_the_text.Goals as goal

pub returns : goal.returns
returns c = record { cut = is_cut; only = only_cut; rising = is_rising }
