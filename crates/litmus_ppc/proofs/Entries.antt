-- The loop over the entries of the init block.
use Rattle.std.proofs.Common.{◌≡◌, ℕ, zero, suc, ◌+◌, ◌<◌, false, List, [], ◌∷◌, length, get_or, drop, Some, None, refl, sym, ap, ◌∙◌, arith}
use Rattle.std.specs.Prelude.{if◌then◌else◌}
use Rattle.std.proofs.lemmas.List.{drop_all}
use Rattle.text_values.specs.declared.test.InitEntry.{InitEntry}
use Rattle.litmus_grammar.specs.InitMachine.{lacks_thread, missing}

none_left : (threads : ℕ) (es : List InitEntry) → missing threads es [] ≡ None
none_left threads [] = refl
none_left threads (e ∷ es) = refl

no_starts : (threads : ℕ) (es : List InitEntry) (i : ℕ) → missing threads es (drop i []) ≡ None
no_starts threads es i =
    ap (missing threads es) (drop_all i [] (omega arith)) ∙ none_left threads es

pub missing_more : (threads : ℕ) (es : List InitEntry) (ss : List ℕ) (i : ℕ) (e : InitEntry)
    → i < length es → e ≡ get_or es i e → lacks_thread threads e.place ≡ false
    → missing threads (drop i es) (drop i ss) ≡ missing threads (drop (i + 1) es) (drop (i + 1) ss)
missing_more threads [] ss i e lt is h = absurd (omega arith)
missing_more threads (x ∷ es) [] i e lt is h =
    no_starts threads (drop i (x ∷ es)) i ∙ sym (no_starts threads (drop (i + 1) (x ∷ es)) (i + 1))
missing_more threads (x ∷ es) (s ∷ ss) zero e lt is h =
    ap (λ b. if b then Some s else missing threads es ss) (ap
    (λ (y : InitEntry). lacks_thread threads y.place) (sym is) ∙ h)
missing_more threads (x ∷ es) (s ∷ ss) (suc i) e lt is h =
    let less : i < length es = omega arith in
    let next : suc i + 1 ≡ suc (i + 1) = omega arith in
    missing_more threads es ss i e less is h
    ∙ ap (λ k. missing threads (drop k (x ∷ es)) (drop k (s ∷ ss))) (sym next)
