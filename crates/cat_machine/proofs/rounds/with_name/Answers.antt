use Rattle.cat_machine.proofs.Among.{among_set}
use Rattle.cat_machine.proofs.rounds.with_name.Goals as goal

pub returns : goal.returns
returns c =
    λ k.
    rw (← c.bit_of.ensures.bit) (among_set c.args.names c.bit_of.result k c.bit_of.ensures.small)
