use Rattle.order_growth.proofs.Naming.{set_same, names_grown}
use Rattle.order_growth.proofs.laws.predefined_names_grow.Goals as goal

pub returns : goal.returns
returns c = λ one more n name inside. (set_same one more inside n name, names_grown one more inside n name)
