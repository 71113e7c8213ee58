use Rattle.std.proofs.lemmas.List.{map-set}
use Rattle.plain_machine.proofs.state.with_register.Goals as goal

pub returns : goal.returns
returns c = rw (c.from.ensures, c.number.ensures.value) (simp map-set)
