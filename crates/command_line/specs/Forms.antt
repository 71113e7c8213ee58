-- What the words of a command line ask for. The first word is the program's own name. Read Options
-- and Words first.
use Rattle.std.specs.Prelude.{◌≡◌, ℕ, ◌==◌, ◌&&◌, ◌||◌, List, [], ◌∷◌, Bool, true, false, not, Option, Some, None, if◌then◌else◌, nat_lt, length, take, drop, codes, option_map}
use denote.Ref.{Bor}
use Rattle.session_script.specs.Requests.{is_word, word_at}
use Rattle.command_usage.specs.declared.fault.UsageFault.{UsageFault}
use Rattle.command_usage.specs.declared.fault.UsageFault.TheVariants as usage_faults
use Rattle.command_line.specs.declared.form.Form.{Form}
use Rattle.command_line.specs.declared.form.Form.TheVariants as forms
use Rattle.command_line.specs.declared.form.Drawn.{Drawn}
use Rattle.command_line.specs.declared.form.Drawn.TheVariants as drawns
use Rattle.command_line.specs.declared.form.Pictures.{Pictures}
use Rattle.command_line.specs.declared.form.Pictures.TheVariants.{Graphs, Graph, Svg, Svgs}
use Rattle.command_line.specs.declared.form.ResultFormat.{ResultFormat}
use Rattle.command_line.specs.declared.form.ResultFormat.TheVariants.{Plain, Tab, Json}
use Rattle.command_line.specs.declared.option.Command.{Command}
use Rattle.command_line.specs.declared.option.Command.TheVariants as commands
use Rattle.command_line.specs.declared.option.GivenOption.{GivenOption}
use Rattle.command_line.specs.declared.option.OptionName.{OptionName}
use Rattle.command_line.specs.declared.option.OptionName.TheVariants as names
use Rattle.command_line.specs.Options.{number_given, has_option, takes_all}
use Rattle.command_line.specs.Words.{Words, borrowed_words, words_given}

-- a model and a test on standard input; a model and a test in files, and whether their outcome is
-- told as JSON; a table of tests under models; where two models tell tests apart; a page of tests
-- under models, with drawings of all tests or of those that tell models apart, so many at most; a
-- session of a file's script, or of standard input's, with so many workers; why a model forbids what
-- a test asks for, by a forbidden execution and in depth where these are asked for; the tests of
-- files under models as the files change, with so many workers, and looks so far apart; pictures of
-- these executions
pub data CommandAsked : Type 0 where
  Stream : CommandAsked
  Eval : List ℕ → List ℕ → Bool → CommandAsked
  Table : List (List ℕ) → List (List ℕ) → ResultFormat → CommandAsked
  Diff : List ℕ → List ℕ → List (List ℕ) → ResultFormat → CommandAsked
  Report : List (List ℕ) → List (List ℕ) → Bool → ℕ → CommandAsked
  Session : Option (List ℕ) → ℕ → CommandAsked
  Why : List ℕ → List ℕ → Bool → Bool → CommandAsked
  Watch : List (List ℕ) → List (List ℕ) → ℕ → ℕ → CommandAsked
  Draw : List ℕ → List ℕ → Drawn → Pictures → CommandAsked

abbrev pub borrowed_word : Option (Bor (List ℕ)) → Option (List ℕ)
borrowed_word word = option_map (λ w. w.now) word

abbrev pub asked_by_form : Form → CommandAsked
asked_by_form forms.Stream = Stream
asked_by_form (forms.Eval model test is_json) = Eval model.now test.now is_json
asked_by_form (forms.Table models tests format) =
    Table (borrowed_words models.items) (borrowed_words tests.items) format
asked_by_form (forms.Diff first second tests format) =
    Diff first.now second.now (borrowed_words tests.items) format
asked_by_form (forms.Report models tests is_all most) =
    Report (borrowed_words models.items) (borrowed_words tests.items) is_all most
asked_by_form (forms.Session script workers) = Session (borrowed_word script) workers
asked_by_form (forms.Why model test is_forbidden is_deep) =
    Why model.now test.now is_forbidden is_deep
asked_by_form (forms.Watch models tests workers poll) =
    Watch (borrowed_words models.items) (borrowed_words tests.items) workers poll
asked_by_form (forms.Draw model test drawn pictures) = Draw model.now test.now drawn pictures

abbrev pub asked_if : Bool → CommandAsked → Option CommandAsked
asked_if true asked = Some asked
asked_if false asked = None

-- ---- what options say

-- a number from one to another, or the usual one where none is given
abbrev pub within : ℕ → ℕ → ℕ → Option ℕ → Option ℕ
within usual least most None = Some usual
within usual least most (Some n) = if nat_lt n least || nat_lt most n then None else Some n

abbrev pub number_within : OptionName → ℕ → ℕ → ℕ → List GivenOption → Option ℕ
number_within name usual least most options = within usual least most (number_given name options)

-- --tab, --json or neither
abbrev pub format_by : Bool → Bool → Option ResultFormat
format_by false false = Some Plain
format_by true false = Some Tab
format_by false true = Some Json
format_by true true = None

abbrev pub format_in : List GivenOption → Option ResultFormat
format_in options = format_by (has_option names.Tab options) (has_option names.Json options)

-- --shown, --forbidden, --all or none of them
abbrev pub drawn_by : Bool → Bool → Bool → Option Drawn
drawn_by is_shown false false = Some drawns.Shown
drawn_by false true false = Some drawns.Forbidden
drawn_by false false true = Some drawns.All
drawn_by is_shown is_forbidden is_all = None

abbrev pub drawn_in : List GivenOption → Option Drawn
drawn_in options =
    drawn_by (has_option names.Shown options) (has_option names.Forbidden options)
    (has_option names.All options)

abbrev pub one_picture : Bool → Option ℕ → Option Pictures
one_picture true (Some n) = Some (Svg n)
one_picture false (Some n) = Some (Graph n)
one_picture is_svg None = None

abbrev pub more_pictures : Bool → Option ℕ → Option Pictures
more_pictures true (Some n) = Some (Svgs n)
more_pictures false (Some n) = Some (Graphs n)
more_pictures is_svg None = None

abbrev pub pictures_by : (is_svg has_most : Bool) → List GivenOption → Option Pictures
pictures_by is_svg has_most options =
    if has_most && has_option names.Nth options then None
    else (if has_option names.Nth options || (is_svg && not has_most)
    then one_picture is_svg (number_within names.Nth 1 1 16384 options)
    else more_pictures is_svg (number_within names.Most 16 1 64 options))

-- one picture by --nth, and by --svg without --most; else as many as --most says
abbrev pub pictures_in : List GivenOption → Option Pictures
pictures_in options =
    pictures_by (has_option names.Svg options) (has_option names.Most options) options

abbrev pub workers_in : List GivenOption → Option ℕ
workers_in options = number_within names.Workers 0 0 32 options

-- ---- commands

-- MODEL TEST
abbrev pub eval_of : Words → Option CommandAsked
eval_of g =
    asked_if (length g.paths == 2)
    (Eval (word_at g.paths 0) (word_at g.paths 1) (has_option names.Json g.options))

abbrev pub has_both : Words → Bool
has_both g = nat_lt 0 (length g.paths) && nat_lt 0 (length g.last_paths)

-- MODEL .. -- TEST ..
abbrev pub table_with : Words → Option ResultFormat → Option CommandAsked
table_with g None = None
table_with g (Some format) = asked_if (has_both g) (Table g.paths g.last_paths format)

abbrev pub table_command : Words → Option CommandAsked
table_command g = table_with g (format_in g.options)

-- MODEL MODEL TEST ..
abbrev pub diff_with : Words → Option ResultFormat → Option CommandAsked
diff_with g None = None
diff_with g (Some format) =
    asked_if (nat_lt 2 (length g.paths))
    (Diff (word_at g.paths 0) (word_at g.paths 1) (drop 2 g.paths) format)

abbrev pub diff_of : Words → Option CommandAsked
diff_of g = diff_with g (format_in g.options)

abbrev pub most_in : List GivenOption → Option ℕ
most_in options = number_within names.Most 200 1 4096 options

-- MODEL .. -- TEST ..
abbrev pub report_with : Words → Option ℕ → Option CommandAsked
report_with g None = None
report_with g (Some most) =
    asked_if (has_both g) (Report g.paths g.last_paths (has_option names.All g.options) most)

abbrev pub report_of : Words → Option CommandAsked
report_of g = report_with g (most_in g.options)

abbrev pub script_in : List (List ℕ) → Option (List ℕ)
script_in paths = if length paths == 0 then None else Some (word_at paths 0)

-- SCRIPT, or nothing
abbrev pub session_with : Words → Option ℕ → Option CommandAsked
session_with g None = None
session_with g (Some workers) =
    asked_if (nat_lt (length g.paths) 2) (Session (script_in g.paths) workers)

abbrev pub session_of : Words → Option CommandAsked
session_of g = session_with g (workers_in g.options)

-- MODEL TEST
abbrev pub why_of : Words → Option CommandAsked
why_of g =
    asked_if (length g.paths == 2)
    (Why (word_at g.paths 0) (word_at g.paths 1) (has_option names.Forbidden g.options)
    (has_option names.Deep g.options))

abbrev pub poll_in : List GivenOption → Option ℕ
poll_in options = number_within names.Poll 500 0 60000 options

-- MODEL TEST ..
abbrev pub watch_model : Words → (workers poll : ℕ) → Option CommandAsked
watch_model g workers poll =
    asked_if (nat_lt 1 (length g.paths))
    (Watch (word_at g.paths 0 ∷ []) (drop 1 g.paths) workers poll)

-- MODEL .. -- TEST ..
abbrev pub watch_models : Words → (workers poll : ℕ) → Option CommandAsked
watch_models g workers poll = asked_if (has_both g) (Watch g.paths g.last_paths workers poll)

abbrev pub watch_with : Words → Option ℕ → Option ℕ → Option CommandAsked
watch_with g (Some workers) (Some poll) =
    if has_option names.Dashes g.options then watch_models g workers poll
    else watch_model g workers poll
watch_with g workers poll = None

abbrev pub watch_of : Words → Option CommandAsked
watch_of g = watch_with g (workers_in g.options) (poll_in g.options)

-- MODEL TEST
abbrev pub draw_with : Words → Option Drawn → Option Pictures → Option CommandAsked
draw_with g (Some drawn) (Some pictures) =
    asked_if (length g.paths == 2) (Draw (word_at g.paths 0) (word_at g.paths 1) drawn pictures)
draw_with g drawn pictures = None

abbrev pub draw_of : Words → Option CommandAsked
draw_of g = draw_with g (drawn_in g.options) (pictures_in g.options)

abbrev pub command_of : List ℕ → Option Command
command_of word =
    if is_word word (codes "eval") then Some commands.Eval
    else (if is_word word (codes "table") then Some commands.Table
    else (if is_word word (codes "diff") then Some commands.Diff
    else (if is_word word (codes "report") then Some commands.Report
    else (if is_word word (codes "session") then Some commands.Session
    else (if is_word word (codes "why") then Some commands.Why
    else (if is_word word (codes "watch") then Some commands.Watch
    else (if is_word word (codes "draw") then Some commands.Draw else None)))))))

-- what a command asks for, each of whose options it has
abbrev pub taken : Command → Words → Option CommandAsked
taken commands.Eval g = eval_of g
taken commands.Table g = table_command g
taken commands.Diff g = diff_of g
taken commands.Report g = report_of g
taken commands.Session g = session_of g
taken commands.Why g = why_of g
taken commands.Watch g = watch_of g
taken commands.Draw g = draw_of g

-- no option lacks its number
abbrev pub is_complete : Option OptionName → Bool
is_complete None = true
is_complete (Some name) = false

abbrev pub by_words : Command → Words → Option CommandAsked
by_words command g =
    if is_complete g.awaiting && takes_all command g.options then taken command g else None

abbrev pub by_command : Option Command → List (List ℕ) → Option CommandAsked
by_command None words = None
by_command (Some command) words = by_words command (words_given words)

-- what these words ask for, if they have a form
abbrev pub asked_by_words : List (List ℕ) → Option CommandAsked
asked_by_words words =
    if nat_lt (length words) 2 then Some Stream
    else by_command (command_of (word_at words 1)) (drop 2 words)

-- a form of words that have one
abbrev pub IsFormOf : List (List ℕ) → Form → Type 0
IsFormOf words f = asked_by_words words ≡ Some (asked_by_form f)

-- words that have none, or want of memory
abbrev pub IsNoForm : List (List ℕ) → UsageFault → Type 0
IsNoForm words (usage_faults.Words text) = asked_by_words words ≡ None
IsNoForm words (usage_faults.Memory e) = Unit {0}
