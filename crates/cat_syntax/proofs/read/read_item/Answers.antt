use Rattle.std.proofs.Common.{arith, [], ◌∷◌}
use Rattle.cat_syntax.proofs.Readers.{item_found, item_only, some_item}
use Rattle.cat_syntax.proofs.read.read_item.Goals as goal

pub returns-in-Err-clause-only : goal.returns-in-Err-clause-only
returns-in-Err-clause-only c = λ v m. c.in-Err.ensures.only (v ∷ []) m

pub returns-in-Some-clause-found : goal.returns-in-Some-clause-found
returns-in-Some-clause-found c =
    item_found c.args.bytes.now _ c.pop.new.self.items c.in-Some.item c.in-Ok.ensures.found
    c.in-Some.ensures.items

pub returns-in-Some-clause-only : goal.returns-in-Some-clause-only
returns-in-Some-clause-only c =
    item_only c.args.bytes.now _ c.pop.new.self.items c.in-Some.item c.in-Ok.ensures.found
    c.in-Some.ensures.items c.in-Ok.ensures.only

pub returns-clause-only : goal.returns-clause-only
returns-clause-only c =
    λ v m.
    some_item c.args.bytes.now _ c.in-Ok.ensures.found (omega (arith, c.in-None.ensures.cases.0))

pub returns-clause-fault : goal.returns-clause-fault
returns-clause-fault c =
    absurd (some_item c.args.bytes.now _ c.in-Ok.ensures.found
    (omega (arith, c.in-None.ensures.cases.0)))
