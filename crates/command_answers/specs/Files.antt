-- Files: the name of a model, and the lines that say where a text is refused.
use Rattle.std.specs.Prelude.{◌≡◌, ℕ, ◌-◌, List, ◌++◌, Bool, true, false, nat_eq, length, take, drop, codes}
use Rattle.std.specs.Cmp.Lexicographic.{pointwise}
use Rattle.fault_texts.specs.Lines.{fault_lines}
use Rattle.fault_texts.specs.Positions.{count_behind}
use Rattle.fault_texts.specs.Words.{rule_words}

-- the part of a path behind its last slash
abbrev pub file_name : List ℕ → List ℕ
file_name path = drop (length path - count_behind 47 path) path

abbrev pub cut_suffix : Bool → List ℕ → List ℕ → List ℕ
cut_suffix true suffix text = take (length text - length suffix) text
cut_suffix false suffix text = text

-- the text without this suffix, where it ends in it
abbrev pub without_suffix : List ℕ → List ℕ → List ℕ
without_suffix suffix text =
    cut_suffix (pointwise nat_eq (drop (length text - length suffix) text) suffix) suffix text

-- a model is called as its file, without `.cat`
abbrev pub model_stem : List ℕ → List ℕ
model_stem path = without_suffix (codes ".cat") (file_name path)

-- behind these bytes stand the lines of a text that is refused
abbrev pub AddsFault : (old new path text : List ℕ) (letter number offset : ℕ) → Type 0
AddsFault old new path text letter number offset =
    new ≡ old ++ fault_lines path text letter number (rule_words letter number) offset
