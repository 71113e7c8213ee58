-- The text of a function's application.
use Rattle.std.proofs.Common.{◌≡◌, ℕ, List, [], ◌∷◌, ◌++◌, map, Vec, Global, refl, sym, ap, ◌∙◌, append_assoc}
use Rattle.std.specs.Prelude.{codes}
use Rattle.text_values.specs.declared.model.Expression.{Expression}
use Rattle.text_values.specs.declared.model.Expression.TheVariants as expressions
use Rattle.text_values.specs.ModelValue.{Term, gathered}
use Rattle.text_values.specs.ModelValues.{term_of}
use Rattle.cat_printing.specs.Printing.{printed_term, printed_terms}
use Rattle.text_values.specs.Joined.{joined}
use Rattle.text_values.proofs.Arguments.{applied_term}

texts_gathered : (ts : List Term) → printed_terms (gathered ts) ≡ map printed_term ts
texts_gathered [] = refl
texts_gathered (t ∷ ts) = ap (λ l. printed_term t ∷ l) (texts_gathered ts)

pub applied_text : (n : List ℕ) (arguments : Vec Expression Global)
    → printed_term (term_of (expressions.Applied n arguments))
    ≡ n ++ (codes "("
    ++ (joined (codes ", ") (map printed_term (map term_of arguments.items)) ++ codes ")"))
applied_text n arguments =
    ap printed_term (applied_term n arguments)
    ∙ ap (λ l. n ++ (codes "(" ++ (joined (codes ", ") l ++ codes ")")))
    (texts_gathered (map term_of arguments.items))

-- a name, a parenthesis, the arguments and a parenthesis, one after another
pub applied_whole : (old one two three bytes n : List ℕ) (e : Expression)
    (arguments : Vec Expression Global) (xs : List Expression)
    → e ≡ expressions.Applied n arguments → bytes ≡ n → xs ≡ arguments.items → one ≡ old ++ bytes
    → two ≡ one ++ codes "("
    → three ≡ two ++ joined (codes ", ") (map printed_term (map term_of xs))
    → three ++ codes ")" ≡ old ++ printed_term (term_of e)
applied_whole old one two three bytes n e arguments xs is bytes_are items_are first second third =
    let J = joined (codes ", ") (map printed_term (map term_of arguments.items)) in
    ap (λ l. l ++ codes ")") (third
    ∙ ap (λ l. l ++ joined (codes ", ") (map printed_term (map term_of xs)))
    (second ∙ ap (λ l. l ++ codes "(") (first ∙ ap (λ l. old ++ l) bytes_are))
    ∙ ap
    (λ ys. ((old ++ n) ++ codes "(") ++ joined (codes ", ") (map printed_term (map term_of ys)))
    items_are)
    ∙ append_assoc ((old ++ n) ++ codes "(") J (codes ")")
    ∙ append_assoc (old ++ n) (codes "(") (J ++ codes ")")
    ∙ append_assoc old n (codes "(" ++ (J ++ codes ")"))
    ∙ ap (λ l. old ++ l) (sym (applied_text n arguments)
    ∙ ap (λ x. printed_term (term_of x)) (sym is))
