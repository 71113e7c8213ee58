-- Words and numbers.
use Rattle.std.specs.Prelude.{ℕ, zero, suc, ◌+◌, ◌-◌, ◌*◌, List, [], ◌∷◌, Bool, true, false, ◌||◌, ◌&&◌, ◌==◌, not, nat_le, nat_lt, Option, Some, None, length, codes, ℤ, pos, negsuc, if◌then◌else◌}
use Rattle.std.specs.Str.{bytes_eq}
use Rattle.text_values.specs.Letters.{is_digit}

-- ---- numbers

abbrev pub decimal_from : ℕ → List ℕ → ℕ
decimal_from n [] = n
decimal_from n (d ∷ ds) = decimal_from (n * 10 + (d - 48)) ds

-- the number that decimal digits make
abbrev pub decimal : List ℕ → ℕ
decimal ds = decimal_from 0 ds

abbrev pub signed : Bool → ℕ → ℤ
signed false n = pos n
signed true zero = pos 0
signed true (suc n) = negsuc n

-- from -2147483648 to 2147483647
abbrev pub is_int : Bool → List ℕ → Bool
is_int false ds = nat_lt (decimal ds) 2147483648
is_int true ds = nat_le (decimal ds) 2147483648

-- the number of 32 bits that a sign and digits make, if they make one
abbrev pub int_of : Bool → List ℕ → Option ℤ
int_of negative ds = if is_int negative ds then Some (signed negative (decimal ds)) else None

-- ---- registers

abbrev pub is_empty : List ℕ → Bool
is_empty [] = true
is_empty (d ∷ ds) = false

abbrev pub are_digits : List ℕ → Bool
are_digits [] = true
are_digits (d ∷ ds) = is_digit d && are_digits ds

-- digits that no zero leads, or a zero
abbrev pub is_plain : List ℕ → Bool
is_plain [] = false
is_plain (d ∷ ds) = are_digits (d ∷ ds) && (is_empty ds || not (d == 48))

-- the number in `r0` to `r31`
abbrev pub register_of : List ℕ → Option ℕ
register_of [] = None
register_of (r ∷ ds) =
    if r == 114 && is_plain ds && nat_lt (decimal ds) 32 then Some (decimal ds) else None

abbrev pub or_zero : Option ℕ → ℕ
or_zero None = 0
or_zero (Some n) = n

abbrev pub is_known : Option ℕ → Bool
is_known None = false
is_known (Some n) = true

abbrev pub is_register : List ℕ → Bool
is_register w = is_known (register_of w)

-- ---- words

abbrev pub is_printable : ℕ → Bool
is_printable b = nat_lt 32 b && nat_lt b 127

abbrev pub are_printable : List ℕ → Bool
are_printable [] = true
are_printable (b ∷ bs) = is_printable b && are_printable bs

-- the name of a test: at most 255 bytes, each of them printable
abbrev pub is_test_name : List ℕ → Bool
is_test_name w = not (is_empty w) && nat_le (length w) 255 && are_printable w

-- what begins the text behind the table, beside a tilde
abbrev pub ends_table : List ℕ → Bool
ends_table w =
    bytes_eq w (codes "locations") || bytes_eq w (codes "exists") || bytes_eq w (codes "forall")

abbrev pub is_filter : List ℕ → Bool
is_filter w = bytes_eq w (codes "filter") || bytes_eq w (codes "final")

-- `P0`, `P1` and so on: a column's name
abbrev pub column_name : ℕ → List ℕ
column_name k = 80 ∷ (48 + k) ∷ []

abbrev pub names_column : ℕ → List ℕ → Bool
names_column k w = bytes_eq w (column_name k)
