-- What reading a text answers.
use Rattle.std.specs.Prelude.{◌≡◌, ℕ, List, Result, Ok, Err, length, nat_lt, if◌then◌else◌}
use Rattle.std.specs.declared.vec.Vec.{Vec}
use Rattle.std.specs.declared.alloc.Global.{Global}
use Rattle.cat_tokens.specs.declared.rule.CatRule.{CatRule}
use Rattle.cat_tokens.specs.declared.rule.CatRule.TheVariants.{TooLong}
use Rattle.cat_syntax.specs.declared.fault.CatFault.{CatFault}
use Rattle.cat_syntax.specs.declared.fault.CatFault.TheVariants as faults
use Rattle.cat_grammar.specs.declared.form.Form.{Form}
use Rattle.cat_syntax.specs.declared.items.Parser.{Parser}
use Rattle.text_values.specs.declared.model.Item.{Item}
use Rattle.cat_tokens.specs.Lexer.{model_lexing}
use Rattle.text_values.specs.ModelValue.{Clause}
use Rattle.cat_grammar.specs.Grammar.{model_limits}
use Rattle.cat_grammar.specs.ItemMachine.{clause_start}
use Rattle.cat_grammar.specs.Running.{ItemsResult, run_items, items_of}
use Rattle.text_values.specs.ModelValues.{clauses_of}
use Rattle.cat_syntax.specs.ParserState.{state_of}

-- the items of a text, or the rule that it breaks and where
unfoldable pub reading : Form → List ℕ → Result (List Clause) (CatRule × ℕ)
reading form bytes =
    if nat_lt 65536 (length bytes) then Err (TooLong, 65536)
    else items_of (run_items model_limits form 0 (clause_start form) (model_lexing bytes))

-- ---- what the code answers

abbrev pub FailsAt : {Y : Type 0} → CatFault → Result Y (CatRule × ℕ) → Type 0
FailsAt (faults.OutOfMemory e) made = Unit {0}
FailsAt (faults.Refused rule offset) made = made ≡ Err (rule, offset)

abbrev pub StepsAt : Result (Unit {0}) CatFault → Parser → ItemsResult → Type 0
StepsAt (Ok _) p made = made ≡ Ok (state_of p)
StepsAt (Err e) p made = FailsAt e made

abbrev pub ReadsTo : Result (Vec Item Global) CatFault → Result (List Clause) (CatRule × ℕ) → Type 0
ReadsTo (Ok v) made = made ≡ Ok (clauses_of v.items)
ReadsTo (Err e) made = FailsAt e made
