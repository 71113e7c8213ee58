-- The answer to an edit that is refused.
use Rattle.std.proofs.Common.{◌≡◌, false, Result, Ok, Err, IfOk}
use Rattle.std.specs.declared.alloc.AllocError.{AllocError}
use Rattle.bench_texts.specs.BenchTexts.{BenchTexts}
use Rattle.bench_texts.specs.Edits.{Edit, RefusesEdit}
use Rattle.bench_texts.specs.declared.fault.EditFault.{EditFault}
use Rattle.session_edits.specs.Answer.{SessionAnswer, refusal_answer}
use Rattle.session_edits.specs.Faults.{fault_line, HasFaultLine}
use Rattle.session_edits.specs.Edits.{IsEditAnswer, IsRefused}

pub refused : (t after : BenchTexts) (e : Edit) (fault : EditFault) (r : Result SessionAnswer AllocError)
    → RefusesEdit t false e fault → after ≡ t → IfOk r (λ a. a ≡ refusal_answer (fault_line fault))
    → IfOk r (λ a. HasFaultLine fault) → IfOk r (λ said. IsEditAnswer t e said after)
refused t after e fault (Ok said) refuses same line answer =
    IsRefused fault answer refuses line same
refused t after e fault (Err f) refuses same line answer = tt
