-- What reading a script leaves to read. `ScriptReader::next` cites IsNextCommand and IsPaid.
use Rattle.std.specs.Prelude.{◌≡◌, ℕ, ◌+◌, ◌*◌, ◌≤◌, List, [], ◌∷◌, ◌++◌, Bool, true, false, Option, Some, None, length, drop}
use Rattle.std.specs.Io.KnownBytes.{prepend_known}
use Rattle.session_script.specs.declared.command.Command.{Command}
use Rattle.session_script.specs.declared.command.Command.TheVariants.{Asked, Refused}
use Rattle.session_script.specs.declared.command.ScriptRule.TheVariants.{NoTextEnd}
use Rattle.session_script.specs.declared.state.ScriptReader.{ScriptReader}
use Rattle.session_script.specs.declared.request.Request.{Request}
use Rattle.session_script.specs.Lines.{lines_of, IsUnbroken}
use Rattle.session_script.specs.Commands.{commands_of, commands_from, ReadingText, said_by, stage_behind}
use Rattle.session_script.specs.Requests.{request_of}

-- what is read and not yet used
abbrev pub waiting_in : ScriptReader → List ℕ
waiting_in r = drop r.start r.waiting.items

-- the bytes of the script that are left, where the source's are known
abbrev pub left_to : ScriptReader → Option (List ℕ) → Option (List ℕ)
left_to r source = prepend_known (waiting_in r) source

-- no more than one read's bytes wait, if no more did before
abbrev pub ReadsFewAhead : (old new : ScriptReader) → Type 0
ReadsFewAhead old new = length (waiting_in old) ≤ 4096 → length (waiting_in new) ≤ 4096

-- so many reads that give bytes may still come
abbrev pub turns_of : ScriptReader → ℕ
turns_of r = r.turns

-- each turn that was taken between the two gave a byte of the source at least
abbrev pub IsPaid : (turns now : ℕ) → (old new : Option (List ℕ)) → Type 0
IsPaid turns now None new = Unit {0}
IsPaid turns now (Some old) None = ⊥
IsPaid turns now (Some old) (Some new) = turns + length new ≤ now + length old

-- no more lines than this are left
abbrev pub work_of : ScriptReader → ℕ
work_of r = turns_of r * 4097 + length (waiting_in r)

-- what waited went to the line, up to the line's end, if it has one there
abbrev pub IsPart : Bool → List ℕ → List ℕ → List ℕ → List ℕ → Type 0
IsPart true old new before line =
    (more : List ℕ) × IsUnbroken more × (line ≡ before ++ more) × (old ≡ more ++ 10 ∷ new)
IsPart false old new before line =
    (more : List ℕ) × IsUnbroken more × (line ≡ before ++ more) × (old ≡ more) × (new ≡ [])

-- the first line that was left is this one
abbrev pub IsNextLine : Option (List ℕ) → Option (List ℕ) → Option (List ℕ) → Type 0
IsNextLine None new line = Unit {0}
IsNextLine (Some old) None line = ⊥
IsNextLine (Some old) (Some new) None = (lines_of old ≡ []) × (lines_of new ≡ [])
IsNextLine (Some old) (Some new) (Some line) = lines_of old ≡ line ∷ lines_of new

-- the request, of which the text was left, is this command
abbrev pub HasText : Option (List ℕ) → Option (List ℕ) → Request → Command → Type 0
HasText None new r command = Unit {0}
HasText (Some old) None r command = ⊥
HasText (Some old) (Some new) r command =
    commands_from (ReadingText r []) (lines_of old) ≡ command ∷ commands_of new

-- a request and its text, or its lack of one
abbrev pub answer_of : Request → Option (List ℕ) → Command
answer_of r None = Refused NoTextEnd
answer_of r (Some text) = Asked r text

-- the text that was left of any request is this one
abbrev pub IsNextText : Option (List ℕ) → Option (List ℕ) → Option (List ℕ) → Type 0
IsNextText old new text = (r : Request) → HasText old new r (answer_of r text)

-- the line of these words, of which the text was left, if it has one, is this command
abbrev pub IsCommandOfWords : Option (List ℕ) → Option (List ℕ) → List (List ℕ) → Command → Type 0
IsCommandOfWords None new words command = Unit {0}
IsCommandOfWords (Some old) None words command = ⊥
IsCommandOfWords (Some old) (Some new) words command =
    said_by (request_of words) ++ commands_from (stage_behind (request_of words)) (lines_of old)
    ≡ command ∷ commands_of new

-- the first command that was left is this one
abbrev pub IsNextCommand : Option (List ℕ) → Option (List ℕ) → Option Command → Type 0
IsNextCommand None new command = Unit {0}
IsNextCommand (Some old) None command = ⊥
IsNextCommand (Some old) (Some new) None = (commands_of old ≡ []) × (commands_of new ≡ [])
IsNextCommand (Some old) (Some new) (Some command) = commands_of old ≡ command ∷ commands_of new
