-- Tags that close in order: a reader of bytes that keeps the names of the elements that are open.
use Rattle.std.specs.Prelude.{◌≡◌, ℕ, List, [], ◌∷◌, ◌++◌, Bool, false, ◌==◌, ◌||◌, ◌&&◌, nat_le, fold, if◌then◌else◌, codes}
use Rattle.std.specs.List.{list_all, list_any}
use Rattle.std.specs.Str.{bytes_eq}
use Rattle.escaped_texts.specs.Elements.{Attribute}

abbrev pub ElementNames : Type 0
ElementNames = List (List ℕ)

-- Where the reader stands. `around` are the names of the elements that are open, the innermost
-- first.
pub data MarkupReader : Type 0 where
  -- between two tags
  Content : (around : ElementNames) → MarkupReader
  -- behind `<`
  Angle : (around : ElementNames) → MarkupReader
  -- in the name of a tag that opens
  Opening : (name : List ℕ) (around : ElementNames) → MarkupReader
  -- behind that name
  Attributes : (name : List ℕ) (around : ElementNames) → MarkupReader
  -- in the value of an attribute
  Quoted : (name : List ℕ) (around : ElementNames) → MarkupReader
  -- in the name of a tag that closes
  Closing : (name : List ℕ) (around : ElementNames) → MarkupReader
  -- the tags do not close in order, whatever follows
  Broken : MarkupReader

abbrev pub is_name_letter : ℕ → Bool
is_name_letter b = nat_le 97 b && nat_le b 122

abbrev pub is_name_byte : ℕ → Bool
is_name_byte b = is_name_letter b || (nat_le 48 b && nat_le b 57)

-- elements that have no tag that closes
abbrev pub void_names : ElementNames
void_names =
    codes "area" ∷ codes "base" ∷ codes "br" ∷ codes "col" ∷ codes "embed" ∷ codes "hr"
    ∷ codes "img" ∷ codes "input" ∷ codes "link" ∷ codes "meta" ∷ codes "source"
    ∷ codes "track" ∷ codes "wbr" ∷ []

unfoldable pub is_void : List ℕ → Bool
is_void name = list_any (bytes_eq name) void_names

abbrev pub element_opened : List ℕ → ElementNames → MarkupReader
element_opened name around = if is_void name then Content around else Content (name ∷ around)

-- only the innermost element closes
abbrev pub element_closed : List ℕ → ElementNames → MarkupReader
element_closed name [] = Broken
element_closed name (inner ∷ around) = if bytes_eq name inner then Content around else Broken

abbrev pub markup_step : MarkupReader → ℕ → MarkupReader
markup_step (Content around) b = if b == 60 then Angle around else Content around
markup_step (Angle around) b =
    if b == 47 then Closing [] around else (
    if is_name_letter b then Opening (b ∷ []) around else Broken)
markup_step (Opening name around) b =
    if is_name_byte b then Opening (name ++ b ∷ []) around else (
    if b == 32 then Attributes name around else (
    if b == 62 then element_opened name around else Broken))
markup_step (Attributes name around) b =
    if b == 34 then Quoted name around else (
    if b == 62 then element_opened name around else (
    if b == 60 || b == 39 then Broken else Attributes name around))
markup_step (Quoted name around) b = if b == 34 then Attributes name around else Quoted name around
markup_step (Closing name around) b =
    if is_name_byte b then Closing (name ++ b ∷ []) around else (
    if b == 62 then element_closed name around else Broken)
markup_step Broken b = Broken

-- where the reader stands behind a text
abbrev pub markup_behind : MarkupReader → List ℕ → MarkupReader
markup_behind reader text = fold markup_step reader text

-- Whatever elements are open before the text, just these are open behind it.
abbrev pub IsBalanced : List ℕ → Type 0
IsBalanced text = (around : ElementNames) → markup_behind (Content around) text ≡ Content around

-- ---- names that elements are built with

-- a letter, then letters and digits
abbrev pub is_tag_name : List ℕ → Bool
is_tag_name [] = false
is_tag_name (b ∷ bs) = is_name_letter b && list_all is_name_byte bs

-- letters and dashes
abbrev pub is_attribute_name : List ℕ → Bool
is_attribute_name name = list_all (λ b. is_name_letter b || b == 45) name

abbrev pub are_named : List Attribute → Bool
are_named attributes = list_all (λ a. is_attribute_name a.0) attributes
