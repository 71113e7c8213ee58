-- The words behind a command, as options and paths in any order. Read Options first, Forms next.
use Rattle.std.specs.Prelude.{ℕ, ◌==◌, ◌&&◌, List, [], ◌∷◌, ◌++◌, Bool, not, Option, Some, None, if◌then◌else◌, nat_lt, length, map, slice_index, fold}
use denote.Ref.{Bor}
use Rattle.command_line.specs.declared.option.GivenOption.{GivenOption}
use Rattle.command_line.specs.declared.option.OptionName.{OptionName}
use Rattle.command_line.specs.declared.option.OptionName.TheVariants.{Dashes}
use Rattle.command_line.specs.declared.words.GivenWords.{GivenWords}
use Rattle.command_line.specs.Options.{flag_of, awaiting_of, setting_of, unknown, numbered, number_in, has_option}

-- the options; the option whose number is the next word; the paths before `--` and those behind it
pub record Words : Type 0 where
  pub options : List GivenOption
  pub awaiting : Option OptionName
  pub paths : List (List ℕ)
  pub last_paths : List (List ℕ)

abbrev pub borrowed_words : List (Bor (List ℕ)) → List (List ℕ)
borrowed_words words = map (λ w. w.now) words

abbrev pub words_of : GivenWords → Words
words_of g = record {
  options = g.options.items;
  awaiting = g.awaiting;
  paths = borrowed_words g.paths.items;
  last_paths = borrowed_words g.last_paths.items;
}

-- a word that begins with `-` and goes on is no path
abbrev pub is_path : List ℕ → Bool
is_path word = not (nat_lt 1 (length word) && (slice_index word 0 == 45))

-- an option that stands twice is unknown
abbrev pub with_option : List GivenOption → GivenOption → List GivenOption
with_option options o =
    if has_option o.name options then options ++ unknown ∷ [] else options ++ o ∷ []

abbrev pub add_option : Words → GivenOption → Words
add_option g o = record {
  options = with_option g.options o;
  awaiting = None;
  paths = g.paths;
  last_paths = g.last_paths;
}

abbrev pub await : Words → OptionName → Words
await g name = record {
  options = g.options;
  awaiting = Some name;
  paths = g.paths;
  last_paths = g.last_paths;
}

abbrev pub add_path : Words → List ℕ → Words
add_path g word = record {
  options = g.options;
  awaiting = None;
  paths = g.paths ++ word ∷ [];
  last_paths = g.last_paths;
}

abbrev pub add_last_path : Words → List ℕ → Words
add_last_path g word = record {
  options = g.options;
  awaiting = None;
  paths = g.paths;
  last_paths = g.last_paths ++ word ∷ [];
}

-- a word that begins with `-`: an option without a number, one that awaits it, or one that has it
abbrev pub awaiting_or_set : Words → List ℕ → Option OptionName → Words
awaiting_or_set g word (Some name) = await g name
awaiting_or_set g word None = add_option g (setting_of word)

abbrev pub flag_or_number : Words → List ℕ → Option OptionName → Words
flag_or_number g word (Some name) = add_option g (record { name = name; number = 0 })
flag_or_number g word None = awaiting_or_set g word (awaiting_of word)

abbrev pub after_unawaited : Words → List ℕ → Words
after_unawaited g word =
    if has_option Dashes g.options then add_last_path g word
    else (if is_path word then add_path g word else flag_or_number g word (flag_of word))

-- a number that is awaited, a path behind `--`, a path before it, or an option
abbrev pub after_word_of : Words → List ℕ → Option OptionName → Words
after_word_of g word (Some name) = add_option g (numbered name (number_in word))
after_word_of g word None = after_unawaited g word

abbrev pub after_word : Words → List ℕ → Words
after_word g word = after_word_of g word g.awaiting

abbrev pub no_words : Words
no_words = record { options = []; awaiting = None; paths = []; last_paths = [] }

abbrev pub words_given : List (List ℕ) → Words
words_given words = fold after_word no_words words
