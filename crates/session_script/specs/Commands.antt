-- The commands of a script.
use Rattle.std.specs.Prelude.{ℕ, List, [], ◌∷◌, ◌++◌, Bool, ◌==◌, ◌||◌, if◌then◌else◌, Option, Some, None, length, take, slice_index}
use Rattle.session_script.specs.declared.command.Command.{Command}
use Rattle.session_script.specs.declared.command.Command.TheVariants.{Asked, Refused}
use Rattle.session_script.specs.declared.command.ScriptRule.TheVariants.{NoCommand, NoTextEnd}
use Rattle.session_script.specs.declared.request.Request.{Request}
use Rattle.session_script.specs.Lines.{lines_of}
use Rattle.session_script.specs.Words.{words_of}
use Rattle.session_script.specs.Requests.{has_text, request_of, is_word}

-- lines without a word, and those that begin with `#`, say nothing
abbrev pub skips : List ℕ → List (List ℕ) → Bool
skips line words = slice_index line 0 == 35 || length words == 0

abbrev pub is_skipped : List ℕ → Bool
is_skipped line = skips line (words_of line)

-- a line is the full stop that ends a text
abbrev pub is_dot : List ℕ → Bool
is_dot line = is_word line (46 ∷ [])

-- the lines stand between two commands, or behind so much of the text of a request
pub data Stage : Type 0 where
  Between : Stage
  ReadingText : Request → List ℕ → Stage

-- what a line says that is no part of a text,
abbrev pub said_by : Option Request → List Command
said_by None = Refused NoCommand ∷ []
said_by (Some r) = if has_text r then [] else Asked r [] ∷ []

-- and where it leads
abbrev pub stage_behind : Option Request → Stage
stage_behind None = Between
stage_behind (Some r) = if has_text r then ReadingText r [] else Between

-- of a text the first 65,537 bytes are kept: with so many it is too long, whatever follows
unfoldable pub kept_text : List ℕ → List ℕ
kept_text text = take 65537 text

abbrev pub commands_from : Stage → List (List ℕ) → List Command
commands_from Between [] = []
commands_from (ReadingText r text) [] = Refused NoTextEnd ∷ []
commands_from Between (line ∷ lines) =
    if is_skipped line then commands_from Between lines
    else said_by (request_of (words_of line))
    ++ commands_from (stage_behind (request_of (words_of line))) lines
commands_from (ReadingText r text) (line ∷ lines) =
    if is_dot line then Asked r (kept_text text) ∷ commands_from Between lines
    else commands_from (ReadingText r (text ++ line ++ 10 ∷ [])) lines

-- the commands of a whole script
abbrev pub commands_of : List ℕ → List Command
commands_of bytes = commands_from Between (lines_of bytes)
