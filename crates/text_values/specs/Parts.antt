-- What an expression is not.
use Rattle.std.specs.Prelude.{◌≡◌, ℕ, List}
use Rattle.text_values.specs.declared.model.Infix.{Infix}
use Rattle.text_values.specs.declared.model.Postfix.{Postfix}
use Rattle.text_values.specs.ModelValue.{Term, Terms, Join, Mark, Not, On, Apply}

abbrev pub IsNoJoin : Term → Type 0
IsNoJoin t = (op : Infix) (a b : Term) → Join op a b ≡ t → ⊥

abbrev pub IsNoMark : Term → Type 0
IsNoMark t = (op : Postfix) (a : Term) → Mark op a ≡ t → ⊥

abbrev pub IsNoComplement : Term → Type 0
IsNoComplement t = (a : Term) → Not a ≡ t → ⊥

abbrev pub IsNoIdentity : Term → Type 0
IsNoIdentity t = (a : Term) → On a ≡ t → ⊥

abbrev pub IsNoApplication : Term → Type 0
IsNoApplication t = (n : List ℕ) (arguments : Terms) → Apply n arguments ≡ t → ⊥
