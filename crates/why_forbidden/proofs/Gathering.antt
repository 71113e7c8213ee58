-- What is found of the candidates, one more.
use Rattle.std.proofs.Common.{ℕ, ◌≤◌, ◌+◌, List, [], ◌∷◌, ◌++◌, sym, subst, arith}
use Rattle.why_text.specs.declared.event.ToldEvent.{ToldEvent}
use Rattle.why_text.specs.declared.finding.Findings.{Findings}
use Rattle.why_text.specs.declared.reason.Reason.{Reason}
use Rattle.why_forbidden.specs.declared.answer.Outcome.{Outcome}
use Rattle.why_forbidden.specs.declared.answer.Outcome.TheVariants as outcomes
use Rattle.why_forbidden.specs.Outcomes.{Case, AreFindings, OtherNext, KeptNext, ForbiddenNext, first_shown}
use Rattle.why_forbidden.specs.Views.{AreFoundOf, AreWith, IsOutcomeAdded, IsOutcome}

by_with : (c : Case) (k kept : ℕ) (shown : List ToldEvent) (reasons : List Reason) (new : Findings)
    → AreWith kept shown reasons new
    → AreFindings c k kept shown reasons → AreFoundOf c k new
by_with c k kept shown reasons new w h =
    subst (λ (n : ℕ). AreFindings c k n new.shown.items new.reasons.items) (sym w.kept)
    (subst (λ (s : List ToldEvent). AreFindings c k kept s new.reasons.items) (sym w.shown)
    (subst (λ (r : List Reason). AreFindings c k kept shown r) (sym w.reasons) h))

pub found_more : (c : Case) (k : ℕ) (old new : Findings) (o : Outcome) → AreFoundOf c k old
    → IsOutcome c k o → IsOutcomeAdded o old new → AreFoundOf c (k + 1) new
found_more c k old new outcomes.Other h is w =
    by_with c (k + 1) old.kept old.shown.items old.reasons.items new w
    (OtherNext k old.kept old.shown.items old.reasons.items h is)
found_more c k old new (outcomes.Kept events) h is w =
    by_with c (k + 1) (old.kept + 1) (first_shown old.kept old.shown.items events.items)
    old.reasons.items new w
    (KeptNext k old.kept old.shown.items events.items old.reasons.items h is)
found_more c k old new (outcomes.Forbidden reason) h is w =
    by_with c (k + 1) old.kept old.shown.items (old.reasons.items ++ reason ∷ []) new w
    (ForbiddenNext k old.kept old.shown.items old.reasons.items reason h is)

pub few_more : (k : ℕ) (old new : Findings) (o : Outcome) → old.kept ≤ k → IsOutcomeAdded o old new
    → new.kept ≤ k + 1
few_more k old new outcomes.Other few w = omega (arith, w.kept)
few_more k old new (outcomes.Kept events) few w = omega (arith, w.kept)
few_more k old new (outcomes.Forbidden reason) few w = omega (arith, w.kept)
