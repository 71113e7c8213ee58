-- What a session says to an edit, and the texts that it then holds.
use Rattle.std.specs.Prelude.{◌≡◌, false, codes}
use Rattle.bench_texts.specs.BenchTexts.{BenchTexts}
use Rattle.bench_texts.specs.Edits.{Edit, Applies, RefusesEdit}
use Rattle.bench_texts.specs.declared.fault.EditFault.{EditFault}
use Rattle.session_edits.specs.Answer.{SessionAnswer, plain_answer, refusal_answer}
use Rattle.session_edits.specs.Faults.{fault_line, HasFaultLine}

-- `ok` and the texts that the edit makes, or the line of its refusal and the same texts: the
-- numbers of edits are never spent
pub data IsEditAnswer (texts : BenchTexts) (edit : Edit) (said : SessionAnswer) (after : BenchTexts)
    : Type 0 where
  IsAccepted : Applies texts false edit after → said ≡ plain_answer (codes "ok\n")
      → IsEditAnswer texts edit said after
  IsRefused : (fault : EditFault) → HasFaultLine fault → RefusesEdit texts false edit fault
      → said ≡ refusal_answer (fault_line fault) → after ≡ texts → IsEditAnswer texts edit said after
