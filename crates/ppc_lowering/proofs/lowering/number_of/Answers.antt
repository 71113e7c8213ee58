use Rattle.std.proofs.Common.{refl}
use Rattle.ppc_lowering.proofs.Sorting.{number_found, number_none}
use Rattle.ppc_lowering.proofs.lowering.number_of.Goals as goal

pub returns-in-Ok : goal.returns-in-Ok
returns-in-Ok c =
    number_found c.args.names.now c.args.name.now c.in-Ok.index c.requires c.in-Ok.ensures.bound
    c.in-Ok.ensures.position

pub returns-in-Err : goal.returns-in-Err
returns-in-Err c =
    number_none c.args.names.now c.args.name.now _ _ c.requires refl c.in-Err.ensures.position
