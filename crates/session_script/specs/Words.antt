-- The words of a line, and numbers.
use Rattle.std.specs.Prelude.{ℕ, ◌+◌, ◌*◌, ◌-◌, ◌^◌, List, [], ◌∷◌, Bool, true, ◌==◌, ◌&&◌, ◌||◌, if◌then◌else◌, nat_lt, Option, Some, None}
use Rattle.text_values.specs.Letters.{is_digit}
use Rattle.session_script.specs.Lines.{onto_first}

-- spaces and tabs part words
unfoldable pub is_gap : ℕ → Bool
is_gap b = b == 32 || b == 9

-- no word goes on with these bytes
abbrev pub ends_word : List ℕ → Bool
ends_word [] = true
ends_word (b ∷ bs) = is_gap b

abbrev pub words_of : List ℕ → List (List ℕ)
words_of [] = []
words_of (b ∷ bs) =
    if is_gap b then words_of bs
    else (if ends_word bs then (b ∷ []) ∷ words_of bs else onto_first b (words_of bs))

-- a number and one digit more, where that is a digit and the number stays below 2^64
abbrev pub with_digit : ℕ → ℕ → Option ℕ
with_digit n d =
    if is_digit d && nat_lt (n * 10 + (d - 48)) (2 ^ 64) then Some (n * 10 + (d - 48)) else None

abbrev pub number_from : Option ℕ → List ℕ → Option ℕ
number_from None ds = None
number_from (Some n) [] = Some n
number_from (Some n) (d ∷ ds) = number_from (with_digit n d) ds

-- the number below 2^64 that the digits of a word make
abbrev pub word_number : List ℕ → Option ℕ
word_number word = number_from (Some 0) word
