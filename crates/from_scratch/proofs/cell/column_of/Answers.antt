use Rattle.std.proofs.Common.{length, refl}
use Rattle.std.proofs.lemmas.Option.{slice_get_read}
use Rattle.from_scratch.proofs.Knowing.{column_read, no_column}
use Rattle.from_scratch.proofs.cell.column_of.Goals as goal

pub returns-in-Some : goal.returns-in-Some
returns-in-Some c =
    column_read c.args.columns.now c.args.name.now c.in-Some.names.now c.deref.result.now
    c.get-in-Some.result
    (slice_get_read c.args.columns.now (length c.args.columns.now) c.args.name.now.item
    c.in-Some.names.now refl c.in-Some.ensures.lookup.3.0 c.in-Some.ensures.lookup.1)
    c.deref.ensures.value c.get-in-Some.ensures.lookup

pub returns-in-None : goal.returns-in-None
returns-in-None c = no_column c.args.columns.now c.args.name.now c.in-None.ensures.lookup.3
