-- What the words of a line ask for.
use Rattle.std.specs.Prelude.{ℕ, List, [], Bool, true, false, ◌==◌, ◌||◌, if◌then◌else◌, nat_eq, nat_lt, Option, Some, None, length, drop, codes, slice_index_or}
use Rattle.std.specs.Cmp.Lexicographic.{pointwise}
use Rattle.session_script.specs.declared.request.Request.{Request}
use Rattle.session_script.specs.declared.request.Request.TheVariants.{PutTest, PutModel, SetInit, SetThread, SetCondition, SetLocations, SetItem, InsertItem, RemoveItem, DropTest, DropModel, Items, Show, Counts, Table, Difference}
use Rattle.session_script.specs.Words.{word_number}

-- these requests have a text
abbrev pub has_text : Request → Bool
has_text PutTest = true
has_text (PutModel m) = true
has_text (SetInit t) = true
has_text (SetThread t k) = true
has_text (SetCondition t) = true
has_text (SetLocations t) = true
has_text (SetItem m n) = true
has_text (InsertItem m n) = true
has_text _ = false

abbrev pub is_word : List ℕ → List ℕ → Bool
is_word text word = pointwise nat_eq text word

abbrev pub word_at : List (List ℕ) → ℕ → List ℕ
word_at words index = slice_index_or words index []

-- one word
abbrev pub alone : List ℕ → Option Request
alone command = if is_word command (codes "test") then Some PutTest else None

-- a word and a name
abbrev pub with_name : List ℕ → List ℕ → Option Request
with_name command name =
    if is_word command (codes "model") then Some (PutModel name) else (
    if is_word command (codes "init") then Some (SetInit name) else (
    if is_word command (codes "cond") then Some (SetCondition name) else (
    if is_word command (codes "locations") then Some (SetLocations name) else (
    if is_word command (codes "items") then Some (Items name) else None))))

-- a word, a name and a number
abbrev pub takes_number : List ℕ → Bool
takes_number command =
    is_word command (codes "thread") || is_word command (codes "item")
    || is_word command (codes "insert") || is_word command (codes "remove")

abbrev pub with_number : List ℕ → List ℕ → Option ℕ → Option Request
with_number command name None = None
with_number command name (Some n) =
    if is_word command (codes "thread") then Some (SetThread name n) else (
    if is_word command (codes "item") then Some (SetItem name n) else (
    if is_word command (codes "insert") then Some (InsertItem name n)
    else Some (RemoveItem name n)))

-- `drop`, a kind and a name
abbrev pub dropped : List ℕ → List ℕ → Option Request
dropped kind name =
    if is_word kind (codes "test") then Some (DropTest name) else (
    if is_word kind (codes "model") then Some (DropModel name) else None)

-- a word and two words more
abbrev pub with_two : List ℕ → List ℕ → List ℕ → Option Request
with_two command first second =
    if takes_number command then with_number command first (word_number second) else (
    if is_word command (codes "drop") then dropped first second else (
    if is_word command (codes "show") then Some (Show first second) else (
    if is_word command (codes "counts") then Some (Counts first second) else (
    if is_word command (codes "diff") then Some (Difference first second) else None))))

abbrev pub by_count : List (List ℕ) → Option Request
by_count words =
    if length words == 1 then alone (word_at words 0) else (
    if length words == 2 then with_name (word_at words 0) (word_at words 1) else (
    if length words == 3 then with_two (word_at words 0) (word_at words 1) (word_at words 2)
    else None))

-- what these words ask for, if they are a command
abbrev pub request_of : List (List ℕ) → Option Request
request_of words =
    if is_word (word_at words 0) (codes "table") then (if nat_lt 1 (length words) then Some
    (Table (drop 1 words))
    else None)
    else by_count words
