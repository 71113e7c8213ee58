-- What stands where a refusal has a number of its own: the string of an include, and the `=` of a
-- binding.
use Rattle.std.specs.Prelude.{◌≡◌, List, ◌∷◌, ◌++◌, true}
use Rattle.cat_tokens.specs.declared.token.Token.{Token}
use Rattle.cat_tokens.specs.declared.token.Token.TheVariants as tokens
use Rattle.text_values.specs.ModelValue.{Clause}
use Rattle.cat_grammar.specs.declared.form.Form.{Form}
use Rattle.cat_grammar.specs.Grammar.{Limits, Means, has_no_effect}

-- a file that has no effect
abbrev pub IsPath : Token → Type 0
IsPath (tokens.Quoted path) = has_no_effect path ≡ true
IsPath _ = ⊥

-- some text goes on with this token behind these
pub record TextGoesOn (most : Limits) (form : Form) (before : List Token) (here : Token)
    : Type 0 where
  pub rest : List Token
  pub items : List Clause
  pub text : Means most form (before ++ here ∷ rest) items
