-- The options of a command line, and which command has which. Read before Words.
use Rattle.std.specs.Prelude.{ℕ, ◌==◌, List, [], ◌∷◌, Bool, true, false, Option, Some, None, if◌then◌else◌, nat_eq, length, take, drop, codes}
use Rattle.std.specs.Cmp.Lexicographic.{pointwise}
use Rattle.std.specs.List.{list_all}
use Rattle.session_script.specs.Words.{word_number}
use Rattle.session_script.specs.Requests.{is_word}
use Rattle.command_line.specs.declared.option.Command.{Command}
use Rattle.command_line.specs.declared.option.Command.TheVariants as commands
use Rattle.command_line.specs.declared.option.GivenOption.{GivenOption}
use Rattle.command_line.specs.declared.option.OptionName.{OptionName}
use Rattle.command_line.specs.declared.option.OptionName.TheVariants.{Shown, Forbidden, All, Deep, Svg, Tab, Json, Workers, Most, Nth, Poll, Dashes, Unknown}

-- ---- a word as an option

-- an option without a number
abbrev pub flag_of : List ℕ → Option OptionName
flag_of word =
    if is_word word (codes "--") then Some Dashes
    else (if is_word word (codes "--shown") then Some Shown
    else (if is_word word (codes "--forbidden") then Some Forbidden
    else (if is_word word (codes "--all") then Some All
    else (if is_word word (codes "--deep") then Some Deep
    else (if is_word word (codes "--svg") then Some Svg
    else (if is_word word (codes "--tab") then Some Tab
    else (if is_word word (codes "--json") then Some Json else None)))))))

-- an option whose number is the next word
abbrev pub awaiting_of : List ℕ → Option OptionName
awaiting_of word =
    if is_word word (codes "--workers") then Some Workers
    else (if is_word word (codes "--most") then Some Most
    else (if is_word word (codes "--nth") then Some Nth
    else (if is_word word (codes "--poll") then Some Poll else None)))

abbrev pub unknown : GivenOption
unknown = record { name = Unknown; number = 0 }

-- an option with its number, where the digits make one
abbrev pub numbered : OptionName → Option ℕ → GivenOption
numbered name (Some n) = record { name = name; number = n }
numbered name None = unknown

-- the number below 2^64 that the digits of a word make; the empty word makes none
abbrev pub number_in : List ℕ → Option ℕ
number_in word = if length word == 0 then None else word_number word

-- whether a word begins so
abbrev pub has_front : List ℕ → List ℕ → Bool
has_front word front = pointwise nat_eq (take (length front) word) front

-- the number that stands behind this front of a word, as that behind `--workers=`
abbrev pub number_behind : List ℕ → List ℕ → Option ℕ
number_behind word front = if has_front word front then number_in (drop (length front) word) else None

-- an option and its number in one word
abbrev pub setting_of : List ℕ → GivenOption
setting_of word =
    if has_front word (codes "--workers=") then numbered Workers (number_behind word (codes "--workers="))
    else (if has_front word (codes "--most=") then numbered Most (number_behind word (codes "--most="))
    else (if has_front word (codes "--nth=") then numbered Nth (number_behind word (codes "--nth="))
    else (if has_front word (codes "--poll=") then numbered Poll (number_behind word (codes "--poll="))
    else unknown)))

-- ---- options that are given

abbrev pub is_same_option : OptionName → OptionName → Bool
is_same_option Shown Shown = true
is_same_option Forbidden Forbidden = true
is_same_option All All = true
is_same_option Deep Deep = true
is_same_option Svg Svg = true
is_same_option Tab Tab = true
is_same_option Json Json = true
is_same_option Workers Workers = true
is_same_option Most Most = true
is_same_option Nth Nth = true
is_same_option Poll Poll = true
is_same_option Dashes Dashes = true
is_same_option Unknown Unknown = true
is_same_option a b = false

-- the number of the first option of this name
abbrev pub number_given : OptionName → List GivenOption → Option ℕ
number_given name [] = None
number_given name (o ∷ os) = if is_same_option o.name name then Some o.number else number_given name os

abbrev pub is_some : Option ℕ → Bool
is_some (Some n) = true
is_some None = false

abbrev pub has_option : OptionName → List GivenOption → Bool
has_option name options = is_some (number_given name options)

-- ---- the options of a command

abbrev pub is_of_draw : OptionName → Bool
is_of_draw Shown = true
is_of_draw Forbidden = true
is_of_draw All = true
is_of_draw Most = true
is_of_draw Nth = true
is_of_draw Svg = true
is_of_draw name = false

abbrev pub takes_option : Command → OptionName → Bool
takes_option commands.Eval Json = true
takes_option commands.Table Dashes = true
takes_option commands.Table Tab = true
takes_option commands.Table Json = true
takes_option commands.Diff Tab = true
takes_option commands.Diff Json = true
takes_option commands.Report Dashes = true
takes_option commands.Report All = true
takes_option commands.Report Most = true
takes_option commands.Session Workers = true
takes_option commands.Why Forbidden = true
takes_option commands.Why Deep = true
takes_option commands.Watch Dashes = true
takes_option commands.Watch Workers = true
takes_option commands.Watch Poll = true
takes_option commands.Draw name = is_of_draw name
takes_option command name = false

abbrev pub takes_all : Command → List GivenOption → Bool
takes_all command options = list_all (λ o. takes_option command o.name) options
