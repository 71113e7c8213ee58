use Rattle.candidates.proofs.Totals.{none_searched, fault_searched, parts_searched, fits_layout}
use Rattle.candidates.proofs.space_parts.parts_of.Goals as goal

pub returns-in-None : goal.returns-in-None
returns-in-None c =
    λ key vs keyed initial. none_searched c.args.layout c.in_ok-find_combinations.field-0
    c.in-None.is (c.in_ok-find_combinations.ensures {u = tt} key keyed
    (fits_layout c.args.layout vs initial c.requires))

pub returns-then-found : goal.returns-then-found
returns-then-found c =
    λ key vs keyed initial. fault_searched c.args.layout c.in_ok-find_combinations.field-0
    c.in-Some.found c.in-Some.is c.if-found.true (c.in_ok-find_combinations.ensures {u = tt} key
    keyed (fits_layout c.args.layout vs initial c.requires))

pub returns-in_ok-parts_with-in-Some : goal.returns-in_ok-parts_with-in-Some
returns-in_ok-parts_with-in-Some c =
    λ key vs keyed initial. parts_searched c.args.layout c.in_ok-find_combinations.field-0
    c.in-Some.found c.in_ok-parts_with-in-Some.field-0 c.in-Some.is c.if-found.false
    (c.in_ok-find_combinations.ensures {u = tt} key keyed
    (fits_layout c.args.layout vs initial c.requires))
    c.in_ok-parts_with-in-Some.ensures.combinations c.in_ok-parts_with-in-Some.ensures.locations
    c.in_ok-parts_with-in-Some.ensures.many c.in_ok-parts_with-in-Some.ensures.registers
    c.in_ok-parts_with-in-Some.ensures.count
