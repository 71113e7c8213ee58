use Rattle.binding_laws.proofs.AlikeTexts.{alike_by_text}
use Rattle.binding_laws.proofs.items_by_what_they_say.Goals as goal

pub returns : goal.returns
returns c = alike_by_text c.args.model.now c.args.other.now
