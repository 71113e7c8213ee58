use Rattle.std.proofs.Common.{Ok, ap, ◌∙◌}
use Rattle.candidate_spaces.specs.declared.fault.SpaceFault.TheVariants.{Refused}
use Rattle.candidates.proofs.Small.{layout_small}
use Rattle.candidates.proofs.Telling.{space_lists, refused_told}
use Rattle.candidates.proofs.Totals.{count_told, fault_told, parts_told, refusal_told}
use Rattle.candidates.proofs.space_parts.parts.Goals as goal

pub parts_of-requires : goal.parts_of-requires
parts_of-requires c = layout_small c.args.test.now c.in-Ok.layout c.in-Ok.ensures.layout.0

pub returns-in-Err-clause-refused : goal.returns-in-Err-clause-refused
returns-in-Err-clause-refused c =
    refused_told c.args.test.now c.in-Err.fault (fault_told c.args.test.now c.in-Err.fault
    c.in-Err.ensures.fault)

pub returns-in-Ok-Err-clause-refused : goal.returns-in-Ok-Err-clause-refused
returns-in-Ok-Err-clause-refused c =
    refused_told c.args.test.now (Refused c.in-Ok-Err.refusal) (refusal_told c.args.test.now
    c.in-Ok.layout c.parts_of.result c.in-Ok-Err.refusal
    (c.in-Ok-Err.is ∙ ap Ok c.in-Ok-Err.field-0-is) c.in-Ok.ensures.layout c.parts_of.ensures)

pub returns-in-Ok-Ok-clause-parts : goal.returns-in-Ok-Ok-clause-parts
returns-in-Ok-Ok-clause-parts c =
    λ s whole. space_lists c.args.test.now s (parts_told c.args.test.now c.in-Ok.layout
    c.parts_of.result c.in-Ok-Ok.parts (c.in-Ok-Ok.is ∙ ap Ok c.in-Ok-Ok.field-0-is)
    c.in-Ok.ensures.layout c.parts_of.ensures s whole)

pub returns-in-Ok-Ok-clause-count : goal.returns-in-Ok-Ok-clause-count
returns-in-Ok-Ok-clause-count c =
    count_told c.args.test.now c.in-Ok.layout c.parts_of.result c.in-Ok-Ok.parts
    (c.in-Ok-Ok.is ∙ ap Ok c.in-Ok-Ok.field-0-is) c.in-Ok.ensures.layout c.parts_of.ensures
