-- What a refusal says.
use Rattle.std.specs.Prelude.{◌≡◌, ℕ, ◌≤◌, List}
use Rattle.cat_syntax.specs.declared.fault.CatFault.{CatFault}
use Rattle.cat_syntax.specs.declared.fault.CatFault.TheVariants.{Refused, OutOfMemory}
use Rattle.cat_tokens.specs.declared.rule.CatRule.TheVariants.{TooLong}
use Rattle.cat_grammar.specs.declared.form.Form.{Form}
use Rattle.cat_grammar.specs.Reads.{FaultAt}

-- the offset is at most this
abbrev pub HasCatOffset : ℕ → CatFault → Type 0
HasCatOffset n (Refused rule offset) = offset ≤ n
HasCatOffset n (OutOfMemory e) = Unit {0}

-- the text is longer than any may be
abbrev pub IsCatTooLong : CatFault → Type 0
IsCatTooLong (Refused rule offset) = (rule ≡ TooLong) × (offset ≡ 65536)
IsCatTooLong (OutOfMemory e) = ⊥

-- memory ran out
abbrev pub IsCatMemory : CatFault → Type 0
IsCatMemory (Refused rule offset) = ⊥
IsCatMemory (OutOfMemory e) = Unit {0}

-- a refusal is the text's
abbrev pub IsCatFaultOf : Form → List ℕ → CatFault → Type 0
IsCatFaultOf form bytes (Refused rule offset) = FaultAt form bytes rule offset
IsCatFaultOf form bytes (OutOfMemory e) = Unit {0}
