use Rattle.std.proofs.Common.{refl}
use Rattle.session_run.specs.Untold.{IsPutOff, IsRefused}
use Rattle.session_run.proofs.editing.tell_desk.Goals as goal

pub returns-in-Ok-Later-clause-same : goal.returns-in-Ok-Later-clause-same
returns-in-Ok-Later-clause-same g c =
    let told = rw c.in-Ok-Later.field-0-is at c.in-Ok-Later.ensures.told in
    told.0

pub returns-in-Ok-Later-clause-untold : goal.returns-in-Ok-Later-clause-untold
returns-in-Ok-Later-clause-untold g c =
    let told = rw c.in-Ok-Later.field-0-is at c.in-Ok-Later.ensures.told in
    IsPutOff c.in-Ok-Later.field-0-0 told.1.0 told.1.1 refl

pub returns-in-Err-clause-untold : goal.returns-in-Err-clause-untold
returns-in-Err-clause-untold g c =
    IsRefused c.in-Err.fault c.in-Err.ensures.fault c.fault_of.ensures.is
