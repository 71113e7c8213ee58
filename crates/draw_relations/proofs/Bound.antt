-- The items over which a shown relation has its value.
use Rattle.std.proofs.Common.{ℕ, zero, suc, ◌≡◌, ◌∙◌, List, [], ◌∷◌, ◌++◌, ap, refl, take}
use Rattle.std.specs.Prelude.{filter}
use Rattle.std.proofs.lemmas.List.{map-append}
use Rattle.text_values.specs.declared.model.Item.{Item}
use Rattle.text_values.specs.ModelValue.{Clause, Term}
use Rattle.text_values.specs.ModelValues.{clause_of, clauses_of}
use Rattle.draw_relations.specs.declared.names.ShownName.{ShownName}
use Rattle.draw_relations.specs.Shown.{check_on, clauses_for, is_binding}

taken : (items : List Item) (n : ℕ) → clauses_of (take n items) ≡ take n (clauses_of items)
taken [] zero = refl
taken [] (suc n) = refl
taken (x ∷ items) zero = refl
taken (x ∷ items) (suc n) = ap (λ (cs : List Clause). clause_of x ∷ cs) (taken items n)

-- the definitions before the item, and the check
pub clauses_are : (items found : List Item) (x : ShownName) (body : Term) (check : Item)
    → clauses_of found ≡ filter is_binding (clauses_of (take x.item items))
    → clause_of check ≡ check_on body
    → clauses_of (found ++ check ∷ []) ≡ clauses_for (clauses_of items) x body
clauses_are items found x body check bound last =
    map-append clause_of found (check ∷ [])
    ∙ ap (λ (cs : List Clause). cs ++ clause_of check ∷ [])
    (bound ∙ ap (filter is_binding) (taken items x.item))
    ∙ ap (λ (c : Clause). filter is_binding (take x.item (clauses_of items)) ++ c ∷ []) last
