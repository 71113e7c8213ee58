use Rattle.cat_laws.proofs.Cuts.{is_cut, is_rising}
use Rattle.cat_laws.proofs.Unique.{only_cut}
use Rattle.cat_laws.proofs.laws.tokens_cover_the_text.Goals as goal

pub returns : goal.returns
returns c = record { cut = is_cut; only = only_cut; rising = is_rising }
