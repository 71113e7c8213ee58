-- Copies of applications.
use Rattle.std.proofs.Common.{◌≡◌, ℕ, List, map, ap, sym, ◌∙◌, Vec, Global}
use Rattle.text_values.specs.declared.model.Expression.{Expression}
use Rattle.text_values.specs.declared.model.Expression.TheVariants as expressions
use Rattle.text_values.specs.ModelValue.{Apply, gathered}
use Rattle.text_values.specs.ModelValues.{term_of}
use Rattle.text_values.proofs.Arguments.{applied_term}

-- applications of one function with equal arguments are equal
pub copied_application : (e : Expression) (n m : List ℕ) (copies args : Vec Expression Global)
    (xs : List Expression)
    → e ≡ expressions.Applied m args → n ≡ m → xs ≡ args.items
    → map term_of copies.items ≡ map term_of xs
    → term_of (expressions.Applied n copies) ≡ term_of e
copied_application e n m copies args xs is names items_are same =
    applied_term n copies
    ∙ ap (λ k. Apply k (gathered (map term_of copies.items))) names
    ∙ ap (λ l. Apply m (gathered l)) (same ∙ ap (λ (l : List Expression). map term_of l) items_are)
    ∙ sym (applied_term m args)
    ∙ sym (ap term_of is)
