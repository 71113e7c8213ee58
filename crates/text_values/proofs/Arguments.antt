-- The arguments of a function.
use Rattle.std.proofs.Common.{◌≡◌, ◌↔◌, IsTrue, Bool, ℕ, List, [], ◌∷◌, map, ap, refl, sym, ◌∙◌, Vec, Global}
use mathlib.Core.Former.{Count}
use Rattle.text_values.specs.declared.model.Expression.{Expression, Row_of-Expression, end_of-Expression, more_of-Expression, items-the_row-Expression, items_hidden-the_row-Expression-0}
use Rattle.text_values.specs.declared.model.Expression.TheVariants as expressions
use Rattle.text_values.specs.declared.model.Expression.TheVariants.{Applied'}
use Rattle.text_values.specs.ModelValue.{Term, Terms, Apply, NoTerm, OneMore, gathered}
use Rattle.text_values.specs.ModelValues.{term_of, terms_of}

-- the arguments of a function, as a list
terms_row : (n : _) (row : Row_of-Expression n)
    → terms_of row ≡ gathered (map term_of (items-the_row-Expression n row))
terms_row n end_of-Expression = refl
terms_row n (more_of-Expression a others) = ap (OneMore (term_of a)) (terms_row _ others)

abbrev row_of : Expression → (n : Count) × Row_of-Expression n
row_of (Applied' n _ row) = (_, row)
row_of _ = (_, end_of-Expression)

pub applied_term : (n : List ℕ) (args : Vec Expression Global)
    → term_of (expressions.Applied n args) ≡ Apply n (gathered (map term_of args.items))
applied_term n args =
    let row = row_of (expressions.Applied n args) in
    ap (Apply n) (terms_row row.0 row.1
    ∙ ap (λ (l : List Expression). gathered (map term_of l))
    (items_hidden-the_row-Expression-0 args))

-- the terms once more
abbrev listed : Terms → List Term
listed NoTerm = []
listed (OneMore a others) = a ∷ listed others

listed-gathered : (ts : List Term) → listed (gathered ts) ≡ ts
listed-gathered [] = refl
listed-gathered (t ∷ ts) = ap (λ l. t ∷ l) (listed-gathered ts)

abbrev arguments_in : Term → Terms
arguments_in (Apply n arguments) = arguments
arguments_in _ = NoTerm

same_arguments : (n m : List ℕ) (vs ws : List Term) → Apply n (gathered vs) ≡ Apply m (gathered ws)
    → vs ≡ ws
same_arguments n m vs ws e =
    sym (listed-gathered vs) ∙ ap (λ t. listed (arguments_in t)) e ∙ listed-gathered ws

-- the applications of one function are the same where their arguments are
pub same_applications : (e : Expression) (t : Term) (n m : List ℕ) (args : Vec Expression Global)
    (xs ys : List Expression) (b : Bool)
    → e ≡ expressions.Applied n args → xs ≡ args.items → t ≡ Apply m (gathered (map term_of ys))
    → n ≡ m → (IsTrue b ↔ (map term_of xs ≡ map term_of ys)) → IsTrue b ↔ (term_of e ≡ t)
same_applications e t n m args xs ys b is items_are other names decides =
    let whole : term_of e ≡ Apply n (gathered (map term_of xs)) = ap term_of is ∙ applied_term n args ∙ ap (λ (l : List Expression). Apply n (gathered (map term_of l))) (sym items_are) in (
      (λ h. whole ∙ ap (λ k. Apply k (gathered (map term_of xs))) names
          ∙ ap (λ l. Apply m (gathered l)) (decides.0 h) ∙ sym other),
      (λ h. decides.1 (same_arguments n m (map term_of xs) (map term_of ys)
          (sym whole ∙ h ∙ other))),
    )
