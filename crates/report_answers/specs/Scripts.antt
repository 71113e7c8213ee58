-- How many scripts a text opens, to the reader of escaped_texts. Read this first, then Whole.
use Rattle.std.specs.Prelude.{◌≡◌, ℕ, ◌+◌, List, [], ◌∷◌, Bool, true, false, ◌==◌, ◌&&◌, codes}
use Rattle.std.specs.Str.{bytes_eq}
use Rattle.escaped_texts.specs.Balanced.{ElementNames, MarkupReader, Content, Angle, Opening, Attributes, Quoted, Closing, Broken, markup_step, markup_behind}

abbrev pub is_script : List ℕ → Bool
is_script name = bytes_eq name (codes "script")

-- whether a byte ends the tag that opens a script
abbrev pub opens_script : MarkupReader → ℕ → Bool
opens_script (Content around) b = false
opens_script (Angle around) b = false
opens_script (Opening name around) b = b == 62 && is_script name
opens_script (Attributes name around) b = b == 62 && is_script name
opens_script (Quoted name around) b = false
opens_script (Closing name around) b = false
opens_script Broken b = false

abbrev pub one_if : Bool → ℕ
one_if true = 1
one_if false = 0

-- how many scripts a text opens, from where the reader stands
abbrev pub script_count : MarkupReader → List ℕ → ℕ
script_count reader [] = 0
script_count reader (b ∷ bs) =
    one_if (opens_script reader b) + script_count (markup_step reader b) bs

-- a text that leads the reader from one place to another, and opens no script
pub record Passes (from to : MarkupReader) (text : List ℕ) : Type 0 where
  pub goes : markup_behind from text ≡ to
  pub opens_none : script_count from text ≡ 0

-- Whatever elements are open before the text, just these are open behind it, and it opens no script.
abbrev pub IsPlainMarkup : List ℕ → Type 0
IsPlainMarkup text = (around : ElementNames) → Passes (Content around) (Content around) text
