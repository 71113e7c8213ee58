-- How the reader goes over the tokens of a text.
use Rattle.std.specs.Prelude.{ℕ, List, [], ◌∷◌, Result, Ok, Err}
use Rattle.cat_tokens.specs.declared.rule.CatRule.{CatRule}
use Rattle.cat_grammar.specs.declared.form.Form.{Form}
use Rattle.text_values.specs.ModelValue.{Clause}
use Rattle.cat_grammar.specs.Grammar.{Limits}
use Rattle.cat_tokens.specs.Tokens.{TokenAt}
use Rattle.cat_grammar.specs.ItemMachine.{Fault, Here, Before, ItemState, clause_step}

abbrev pub ItemsResult : Type 0
ItemsResult = Result ItemState (CatRule × ℕ)

-- the fault of a token at an offset, where the token before it began at `before`
abbrev pub with_offset : ℕ → ℕ → Result ItemState Fault → ItemsResult
with_offset before offset (Ok s) = Ok s
with_offset before offset (Err (Here r)) = Err (r, offset)
with_offset before offset (Err (Before r)) = Err (r, before)

abbrev pub and_then : ItemsResult → (ItemState → ItemsResult) → ItemsResult
and_then (Ok s) f = f s
and_then (Err e) f = Err e

-- the tokens one after another, with the offset of the first fault
abbrev pub run_items : Limits → Form → ℕ → ItemState → List TokenAt → ItemsResult
run_items most form before s [] = Ok s
run_items most form before s (p ∷ ps) =
    and_then (with_offset before p.offset (clause_step most form s p.token))
    (λ s'. run_items most form p.offset s' ps)

abbrev pub items_of : ItemsResult → Result (List Clause) (CatRule × ℕ)
items_of (Ok s) = Ok s.items
items_of (Err e) = Err e
