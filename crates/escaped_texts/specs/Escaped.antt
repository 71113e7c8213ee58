-- A text of anyone as it stands in a page, between tags or as the value of an attribute. Read this
-- first; `put_escaped` cites `escaped`.
use Rattle.std.specs.Prelude.{◌≡◌, ℕ, zero, suc, List, [], ◌∷◌, ◌++◌, Bool, true, false, ◌==◌, ◌||◌, ◌&&◌, not, nat_le, if◌then◌else◌, codes}
use Rattle.std.specs.List.{flat_map, list_any}

-- a tab, a line feed, and what ASCII prints
abbrev pub is_shown : ℕ → Bool
is_shown b = b == 9 || b == 10 || (nat_le 32 b && nat_le b 126)

-- five bytes are written as entities, and what is not shown as a question mark
unfoldable pub escaped_byte : ℕ → List ℕ
escaped_byte b =
    if b == 38 then codes "&amp;" else (
    if b == 60 then codes "&lt;" else (
    if b == 62 then codes "&gt;" else (
    if b == 34 then codes "&quot;" else (
    if b == 39 then codes "&#39;" else (
    if is_shown b then b ∷ [] else codes "?")))))

abbrev pub escaped : List ℕ → List ℕ
escaped text = flat_map escaped_byte text

-- ---- what is read of it

abbrev pub begins_with : List ℕ → List ℕ → Bool
begins_with [] text = true
begins_with (a ∷ prefix) [] = false
begins_with (a ∷ prefix) (b ∷ text) = a == b && begins_with prefix text

-- a byte that is not shown is read as a question mark
abbrev pub shown_byte : ℕ → ℕ
shown_byte b = if is_shown b then b else 63

-- A text whose entities are read as the bytes that they stand for; skip bytes are passed over.
unfoldable pub read_from : ℕ → List ℕ → List ℕ
read_from skip [] = []
read_from (suc skip) (b ∷ bs) = read_from skip bs
read_from zero (b ∷ bs) =
    if not (b == 38) then b ∷ read_from 0 bs else (
    if begins_with (codes "amp;") bs then 38 ∷ read_from 4 bs else (
    if begins_with (codes "lt;") bs then 60 ∷ read_from 3 bs else (
    if begins_with (codes "gt;") bs then 62 ∷ read_from 3 bs else (
    if begins_with (codes "quot;") bs then 34 ∷ read_from 5 bs else (
    if begins_with (codes "#39;") bs then 39 ∷ read_from 4 bs else b ∷ read_from 0 bs)))))

-- ---- what is never in it

-- an angle bracket or a quote
abbrev pub is_markup : ℕ → Bool
is_markup b = b == 60 || b == 62 || b == 34 || b == 39

abbrev pub is_safe : ℕ → Bool
is_safe b = is_shown b && not (is_markup b)

abbrev pub entities : List (List ℕ)
entities =
    codes "&amp;" ∷ codes "&lt;" ∷ codes "&gt;" ∷ codes "&quot;" ∷ codes "&#39;" ∷ []

abbrev pub begins_entity : List ℕ → Bool
begins_entity text = list_any (λ entity. begins_with entity text) entities

-- each `&` of a text begins an entity
abbrev pub HasEntitiesOnly : List ℕ → Type 0
HasEntitiesOnly text =
    (before after : List ℕ) → text ≡ before ++ 38 ∷ after → begins_entity (38 ∷ after) ≡ true
