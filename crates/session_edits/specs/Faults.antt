-- The line of a refused edit.
use Rattle.std.specs.Prelude.{ℕ, List, [], Option, Some, None}
use Rattle.litmus_tokens.specs.Numbers.{number_of as test_rule_number}
use Rattle.litmus_ppc.specs.declared.fault.LitmusFault.{LitmusFault}
use Rattle.litmus_ppc.specs.declared.fault.LitmusFault.TheVariants as litmus
use Rattle.cat_tokens.specs.Tokens.{digits_number as model_rule_number}
use Rattle.cat_syntax.specs.declared.fault.CatFault.{CatFault}
use Rattle.cat_syntax.specs.declared.fault.CatFault.TheVariants as cat
use Rattle.bench_texts.specs.Numbers.{edit_fault_number}
use Rattle.bench_texts.specs.declared.fault.EditFault.{EditFault}
use Rattle.bench_texts.specs.declared.fault.EditFault.TheVariants as faults
use Rattle.session_edits.specs.Answer.{refusal_line, refused_line}

-- of the text of a test or of its part: `L`, rule and offset
abbrev pub test_line : LitmusFault → List ℕ
test_line (litmus.Refused rule offset) = refused_line 76 (test_rule_number rule) offset
test_line (litmus.OutOfMemory e) = []

-- of the text of a model or of its item: `C`, rule and offset
abbrev pub model_line : CatFault → List ℕ
model_line (cat.Refused rule offset) = refused_line 67 (model_rule_number rule) offset
model_line (cat.OutOfMemory e) = []

-- by the bench: `X` and the number
abbrev pub bench_line : Option ℕ → List ℕ
bench_line None = []
bench_line (Some number) = refusal_line 88 number

abbrev pub fault_line : EditFault → List ℕ
fault_line (faults.Test f) = test_line f
fault_line (faults.Model f) = model_line f
fault_line fault = bench_line (edit_fault_number fault)

-- want of memory is no answer, nor is it where a text was read
abbrev pub HasFaultLine : EditFault → Type 0
HasFaultLine (faults.OutOfMemory e) = ⊥
HasFaultLine (faults.Test (litmus.OutOfMemory e)) = ⊥
HasFaultLine (faults.Model (cat.OutOfMemory e)) = ⊥
HasFaultLine fault = Unit {0}
