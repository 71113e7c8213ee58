use Rattle.std.proofs.Common.{◌↔◌, IsTrue, sym, subst}
use Rattle.text_values.specs.declared.model.CheckWord.{CheckWord}
use Rattle.meaning.specs.Cat.{ASet, HasProperty}
use Rattle.meaning_plain.specs.Lists.{SetOf}
use Rattle.plain_models.proofs.Checking.{set_empty}
use Rattle.plain_models.proofs.item.set_has_property.Goals as goal

pub returns-in-Empty : goal.returns-in-Empty
returns-in-Empty c =
    subst
    (λ (w : CheckWord). IsTrue c.is_empty.result ↔ HasProperty w (ASet (SetOf c.args.events.now)))
    (sym c.in-Empty.is) (set_empty c.args.events.now c.is_empty.result c.is_empty.ensures)
