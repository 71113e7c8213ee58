-- What a JSON string says: a reader of bytes, after RFC 8259. It reads strings whose bytes are
-- ASCII, as all that `put_string` writes, and answers the numbers of their characters.
use Rattle.std.specs.Prelude.{◌≡◌, ℕ, zero, suc, List, [], ◌∷◌, ◌++◌, ◌+◌, ◌-◌, ◌*◌, ◌==◌, ◌||◌, ◌&&◌, nat_le, fold, if◌then◌else◌, Option, Some, None}
use Rattle.escaped_texts.specs.Strings.{is_ascii_printable}

-- where the reader stands, with the characters so far
pub data StringReader : Type 0 where
  -- before the quote that opens
  Start : StringReader
  -- between two characters
  Inside : (said : List ℕ) → StringReader
  -- behind a backslash
  Escape : (said : List ℕ) → StringReader
  -- behind `\u` and some digits, of which `left` more must follow
  Digits : (said : List ℕ) (left number : ℕ) → StringReader
  -- behind the quote that closes
  Ended : (said : List ℕ) → StringReader
  -- this is no string
  Broken : StringReader

abbrev pub digit_value : ℕ → Option ℕ
digit_value b =
    if nat_le 48 b && nat_le b 57 then Some (b - 48) else (
    if nat_le 97 b && nat_le b 102 then Some (b - 87) else (
    if nat_le 65 b && nat_le b 70 then Some (b - 55) else None))

-- the character of a letter behind a backslash
abbrev pub escape_value : ℕ → Option ℕ
escape_value b =
    if b == 34 || b == 47 || b == 92 then Some b else (
    if b == 98 then Some 8 else (
    if b == 102 then Some 12 else (
    if b == 110 then Some 10 else (
    if b == 114 then Some 13 else (
    if b == 116 then Some 9 else None)))))

abbrev pub plus_character : List ℕ → Option ℕ → StringReader
plus_character said None = Broken
plus_character said (Some character) = Inside (said ++ character ∷ [])

abbrev pub plus_digit : List ℕ → ℕ → ℕ → Option ℕ → StringReader
plus_digit said left number None = Broken
plus_digit said zero number (Some digit) = Broken
plus_digit said (suc zero) number (Some digit) = Inside (said ++ (16 * number + digit) ∷ [])
plus_digit said (suc (suc left)) number (Some digit) = Digits said (suc left) (16 * number + digit)

abbrev pub string_step : StringReader → ℕ → StringReader
string_step Start b = if b == 34 then Inside [] else Broken
string_step (Inside said) b =
    if b == 34 then Ended said else (
    if b == 92 then Escape said else (
    if is_ascii_printable b then Inside (said ++ b ∷ []) else Broken))
string_step (Escape said) b =
    if b == 117 then Digits said 4 0 else plus_character said (escape_value b)
string_step (Digits said left number) b = plus_digit said left number (digit_value b)
string_step (Ended said) b = Broken
string_step Broken b = Broken

abbrev pub string_behind : StringReader → List ℕ → StringReader
string_behind reader text = fold string_step reader text

-- the text is one string, which says this
abbrev pub IsStringOf : List ℕ → List ℕ → Type 0
IsStringOf text said = string_behind Start text ≡ Ended said
