-- Each test says something under each model.
use Rattle.std.proofs.Common.{◌≡◌, ◌⊎◌, inl, inr, List, [], ◌∷◌, refl}
use Rattle.text_values.specs.TestValue.{Content}
use Rattle.text_values.specs.ModelValue.{Clause}
use Rattle.meaning.specs.Sets.{IsListOf}
use Rattle.meaning.specs.Executions.{Execution, IsExecution}
use Rattle.meaning.specs.Faults.{ModelFault, faults}
use Rattle.meaning.specs.Refusals.{Refusal, IsRefusal, IsAccepted}
use Rattle.meaning.specs.Evaluates.{Outcome, Faulty, Refused, Evaluated, Evaluates}
use Rattle.meaning_laws.specs.Words.{IsTestOfWords}
use Rattle.meanings_exist.proofs.Executions.{executions_listed}
use Rattle.meanings_exist.proofs.Limits.{refused_or_accepted}
use Rattle.meanings_exist.proofs.Items.{checks_decided, flags_decided}
use Rattle.meanings_exist.specs.Laws.{AMeaningExists}
use Rattle.meanings_exist.proofs.Evaluating.{evaluation_of}

abbrev Says : Content → List Clause → Type 0
Says t items = (o : Outcome) × Evaluates t items o

module _ (t : Content) (items : List Clause) (of : IsTestOfWords t) (sound : faults items ≡ [])
  where
    accepted_says : IsAccepted t → Says t items
    accepted_says accepted =
        let all : (xs : List Execution) × IsListOf (IsExecution t) xs = executions_listed t in
        let found : _ =
        evaluation_of t of items all.0 all.1 (λ x. checks_decided t x items sound)
        (λ i x. flags_decided t x items i sound) in
        (Evaluated found.0, (sound, accepted, found.1))

    faultless : Says t items
    faultless = which (refused_or_accepted t)
      where
        which : ((r : Refusal) × IsRefusal t r) ⊎ IsAccepted t → Says t items
        which (inl (r, is)) = (Refused r, (sound, is))
        which (inr accepted) = accepted_says accepted

pub says_something : AMeaningExists
says_something t of items = by (faults items) refl
  where
    by : (fs : List ModelFault) → faults items ≡ fs → Says t items
    by [] e = faultless t items of e
    by (k ∷ rest) e = (Faulty k, (rest, e))
