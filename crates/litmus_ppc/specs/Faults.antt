-- What a refusal says.
use Rattle.std.specs.Prelude.{◌≡◌, ℕ, ◌≤◌, List, Option, Some, None, Result, Ok, Err}
use Rattle.litmus_tokens.specs.Texts.{TokenAt}
use Rattle.litmus_tokens.specs.declared.rule.LitmusRule.{LitmusRule}
use Rattle.litmus_tokens.specs.declared.rule.LitmusRule.TheVariants.{TooLong, Init}
use Rattle.litmus_table.specs.Checks.{IsFoundAt}
use Rattle.litmus_table.specs.Late.{Late}
use Rattle.litmus_ppc.specs.declared.fault.LitmusFault.{LitmusFault}
use Rattle.litmus_ppc.specs.declared.fault.LitmusFault.TheVariants.{Refused, OutOfMemory}

-- the offset is at most this
abbrev pub HasLitmusOffset : ℕ → LitmusFault → Type 0
HasLitmusOffset n (Refused rule offset) = offset ≤ n
HasLitmusOffset n (OutOfMemory e) = Unit {0}

-- the text is longer than any may be
abbrev pub IsLitmusTooLong : LitmusFault → Type 0
IsLitmusTooLong (Refused rule offset) = (rule ≡ TooLong) × (offset ≡ 65536)
IsLitmusTooLong (OutOfMemory e) = ⊥

-- memory ran out
abbrev pub IsLitmusMemory : LitmusFault → Type 0
IsLitmusMemory (Refused rule offset) = ⊥
IsLitmusMemory (OutOfMemory e) = Unit {0}

-- what a refusal says is so, unless memory ran out
abbrev pub IsLitmusFaultOf : (LitmusRule → ℕ → Type 0) → LitmusFault → Type 0
IsLitmusFaultOf IsAt (Refused rule offset) = IsAt rule offset
IsLitmusFaultOf IsAt (OutOfMemory e) = Unit {0}

-- What a later check answers is what is found, unless memory ran out: the entry that begins there,
abbrev pub IsMissingFound : Result (Unit {0}) LitmusFault → Option ℕ → Type 0
IsMissingFound (Ok u) found = found ≡ None
IsMissingFound (Err (Refused rule offset)) found = (rule ≡ Init) × (found ≡ Some offset)
IsMissingFound (Err (OutOfMemory e)) found = ⊥

-- and the label or the branch.
abbrev pub IsLateFound : List TokenAt → Result (Unit {0}) LitmusFault → Option Late → Type 0
IsLateFound text (Ok u) found = IsFoundAt text None found
IsLateFound text (Err (Refused rule offset)) found =
    IsFoundAt text (Some (record { rule = rule; offset = offset })) found
IsLateFound text (Err (OutOfMemory e)) found = Unit {0}
