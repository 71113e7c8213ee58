-- A check that is read from a list.
use Rattle.std.proofs.Common.{ℕ, ◌≡◌, ◌<◌, List, length, get_or, Option, subst}
use Rattle.std.proofs.lemmas.List.{get_or_read}
use Rattle.why_witness.specs.declared.witness.Witness.{Witness}
use Rattle.why_witness.specs.Refusals.{IsWitness}
use Rattle.why_forbidden.specs.declared.checks.CheckValues.{CheckValues}

pub refused_at : (checks : List CheckValues) (i k : ℕ) (x : CheckValues) (found : Option Witness)
    → i < length checks → x ≡ get_or checks i x → IsWitness x.check.now x.values k found
    → (d : CheckValues) → IsWitness (get_or checks i d).check.now (get_or checks i d).values k found
refused_at checks i k x found lt is h d =
    subst (λ (c : CheckValues). IsWitness c.check.now c.values k found)
    (get_or_read checks i x lt is d) h
