use Rattle.std.proofs.Common.{ap, subst, sym, ◌∙◌}
use Rattle.litmus_ppc.specs.TextReading.{state_of}
use Rattle.litmus_grammar.specs.TextMachine.{Draft}
use Rattle.litmus_grammar.specs.Texts.{ReadsLocations}
use Rattle.litmus_ppc.proofs.ListReaders.{locations_found, locations_only, locations_only_memory, locations_fault}
use Rattle.litmus_ppc.proofs.read.read_locations.Goals as goal

pub returns-in-Ok-clause-found : goal.returns-in-Ok-clause-found
returns-in-Ok-clause-found c =
    subst (λ (h : Draft). ReadsLocations c.args.threads c.args.bytes.now h.observed)
    (sym c.into_draft-draft.ensures) (locations_found c.args.threads c.ranges.threads.fits
    c.args.bytes.now (state_of c.in-Ok.reader) c.in-Ok.ensures.runs
    c.in-Ok.ensures.too_long)

pub returns-in-Ok-clause-only : goal.returns-in-Ok-clause-only
returns-in-Ok-clause-only c = λ v r.
    ap (λ (h : Draft). h.observed) c.into_draft-draft.ensures
    ∙ locations_only c.args.threads c.ranges.threads.fits c.args.bytes.now
    (state_of c.in-Ok.reader) c.in-Ok.ensures.runs v r

pub returns-in-Err-clause-only : goal.returns-in-Err-clause-only
returns-in-Err-clause-only c =
    λ v r. locations_only_memory c.args.threads c.ranges.threads.fits c.args.bytes.now
    c.in-Err.fault c.in-Err.ensures.runs v r

pub returns-in-Err-clause-fault : goal.returns-in-Err-clause-fault
returns-in-Err-clause-fault c =
    locations_fault c.args.threads c.ranges.threads.fits c.args.bytes.now c.in-Err.fault
    c.in-Err.ensures.runs c.in-Err.ensures.too_long
