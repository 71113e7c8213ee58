-- What preparing an edit answers.
use Rattle.std.specs.Prelude.{◌≡◌, Bool, Some, None, Result, Ok, Err, MatchResult}
use Rattle.bench_texts.specs.declared.change.Change.{Change}
use Rattle.bench_texts.specs.declared.fault.EditFault.{EditFault}
use Rattle.bench_texts.specs.declared.fault.EditFault.TheVariants as faults
use Rattle.bench_texts.specs.declared.replacement.Replacement.{Replacement}
use Rattle.litmus_ppc.specs.declared.fault.LitmusFault.{LitmusFault}
use Rattle.litmus_ppc.specs.declared.fault.LitmusFault.TheVariants as litmus
use Rattle.cat_syntax.specs.declared.fault.CatFault.{CatFault}
use Rattle.cat_syntax.specs.declared.fault.CatFault.TheVariants as cat
use Rattle.bench_texts.specs.BenchTexts.{BenchTexts}
use Rattle.bench_texts.specs.Changes.{changed_texts, IsPutFor}
use Rattle.bench_texts.specs.Edits.{Edit, limit_fault, Applies, RefusesEdit}
use Rattle.bench_texts.specs.Replacements.{IsPutBy}

-- what is put or dropped for the change is what the edit puts or drops
abbrev pub IsChangeBy : BenchTexts → Edit → Change → Type 0
IsChangeBy t e change = (r : Replacement) → IsPutFor change r → IsPutBy t e r

abbrev pub Answers : BenchTexts → Bool → Edit → Result Change EditFault → Type 0
Answers t spent e (Ok change) = Applies t spent e (changed_texts change t) × IsChangeBy t e change
Answers t spent e (Err fault) = RefusesEdit t spent e fault

-- the change, unless the texts that it makes are over a limit
abbrev pub IsLimited : BenchTexts → Bool → Change → BenchTexts → Result Change EditFault → Type 0
IsLimited t spent change new r =
    MatchResult r (λ c. (c ≡ change) × (limit_fault t spent new ≡ None))
    (λ f. limit_fault t spent new ≡ Some f)

-- what is answered where a reader refuses, or is refused memory
abbrev pub test_fault_of : LitmusFault → EditFault
test_fault_of (litmus.Refused rule offset) = faults.Test (litmus.Refused rule offset)
test_fault_of (litmus.OutOfMemory e) = faults.OutOfMemory e

abbrev pub model_fault_of : CatFault → EditFault
model_fault_of (cat.Refused rule offset) = faults.Model (cat.Refused rule offset)
model_fault_of (cat.OutOfMemory e) = faults.OutOfMemory e
