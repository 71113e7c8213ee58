-- What an escaped text never holds.
use Rattle.std.proofs.Common.{◌≡◌, ℕ, List, [], ◌∷◌, ◌++◌, Bool, true, false, refl, sym, ap, subst, ◌∙◌}
use Rattle.std.specs.Prelude.{map, ◌==◌, ◌||◌, ◌&&◌, not, codes}
use Rattle.std.specs.List.{list_all, AllPass}
use Rattle.std.proofs.lemmas.Bool.{cond_both, cond-true, cond-false, eqb-true, and_from, and_parts, or_from, or_left, not_from_false}
use Rattle.std.proofs.lemmas.List.Folds.{list_all-append}
use Rattle.std.proofs.lemmas.List.Sums.{AllPass-from_list_all}
use Rattle.escaped_texts.specs.Escaped.{is_shown, is_safe, escaped_byte, escaped, begins_entity, HasEntitiesOnly, shown_byte, read_from}

shown_is_safe : (b : ℕ) → is_shown b ≡ true → (b == 60) ≡ false → (b == 62) ≡ false
    → (b == 34) ≡ false → (b == 39) ≡ false → list_all is_safe (b ∷ []) ≡ true
shown_is_safe b shown less greater quote apostrophe =
    let none = or_from _ _ (or_from _ _ (or_from _ _ less greater) quote) apostrophe in
    and_from _ _ (and_from _ _ shown (not_from_false _ none)) refl

safe_byte : (b : ℕ) → list_all is_safe (escaped_byte b) ≡ true
unfolding escaped_byte
safe_byte b =
    let IsAllSafe : List ℕ → Type 0 = λ t. list_all is_safe t ≡ true in
    cond_both (b == 38) _ _ IsAllSafe (λ _. refl) (λ ampersand.
    cond_both (b == 60) _ _ IsAllSafe (λ _. refl) (λ less.
    cond_both (b == 62) _ _ IsAllSafe (λ _. refl) (λ greater.
    cond_both (b == 34) _ _ IsAllSafe (λ _. refl) (λ quote.
    cond_both (b == 39) _ _ IsAllSafe (λ _. refl) (λ apostrophe.
    cond_both (is_shown b) _ _ IsAllSafe
    (λ shown. shown_is_safe b shown less greater quote apostrophe) (λ _. refl))))))

pub all_safe : (text : List ℕ) → list_all is_safe (escaped text) ≡ true
all_safe [] = refl
all_safe (b ∷ bs) =
    list_all-append is_safe (escaped_byte b) (escaped bs)
    ∙ and_from _ _ (safe_byte b) (all_safe bs)

pub each_is_safe : (text : List ℕ) → AllPass is_safe (escaped text)
each_is_safe text = AllPass-from_list_all is_safe (escaped text) (all_safe text)

-- ---- entities

-- each `&` begins an entity, byte by byte
abbrev pub all_begin : List ℕ → Bool
all_begin [] = true
all_begin (b ∷ bs) = (not (b == 38) || begins_entity (b ∷ bs)) && all_begin bs

byte_begins : (b : ℕ) (rest : List ℕ) → all_begin rest ≡ true
    → all_begin (escaped_byte b ++ rest) ≡ true
unfolding escaped_byte
byte_begins b rest so =
    let AllBegin : List ℕ → Type 0 = λ t. all_begin (t ++ rest) ≡ true in
    cond_both (b == 38) _ _ AllBegin (λ _. so) (λ ampersand.
    cond_both (b == 60) _ _ AllBegin (λ _. so) (λ less.
    cond_both (b == 62) _ _ AllBegin (λ _. so) (λ greater.
    cond_both (b == 34) _ _ AllBegin (λ _. so) (λ quote.
    cond_both (b == 39) _ _ AllBegin (λ _. so) (λ apostrophe.
    cond_both (is_shown b) _ _ AllBegin
    (λ shown. and_from _ _ (or_left _ _ (not_from_false _ ampersand)) so) (λ _. so))))))

all_begin_escaped : (text : List ℕ) → all_begin (escaped text) ≡ true
all_begin_escaped [] = refl
all_begin_escaped (b ∷ bs) = byte_begins b (escaped bs) (all_begin_escaped bs)

begins_there : (before after : List ℕ) → all_begin (before ++ 38 ∷ after) ≡ true
    → begins_entity (38 ∷ after) ≡ true
begins_there [] after so = (and_parts _ _ so).0
begins_there (b ∷ bs) after so = begins_there bs after ((and_parts _ _ so).1)

pub has_entities_only : (text : List ℕ) → HasEntitiesOnly (escaped text)
has_entities_only text before after is =
    begins_there before after
    (subst (λ (t : List ℕ). all_begin t ≡ true) is (all_begin_escaped text))

-- ---- reading

plain_is_read : (b : ℕ) (rest : List ℕ) → (b == 38) ≡ false
    → read_from 0 (b ∷ rest) ≡ b ∷ read_from 0 rest
unfolding read_from
plain_is_read b rest plain = cond-true (not (b == 38)) _ _ (not_from_false _ plain)

-- an entity is read as the byte that it stands for
byte_is_read : (b : ℕ) (rest : List ℕ)
    → read_from 0 (escaped_byte b ++ rest) ≡ shown_byte b ∷ read_from 0 rest
unfolding escaped_byte read_from
byte_is_read b rest =
    let IsRead : List ℕ → Type 0 = λ t. read_from 0 (t ++ rest) ≡ shown_byte b ∷ read_from 0 rest in
    let Reads : List ℕ → ℕ → Type 0 = λ t k. read_from 0 (t ++ rest) ≡ shown_byte k ∷ read_from 0 rest in
    cond_both (b == 38) _ _ IsRead
    (λ is. subst (λ (k : ℕ). Reads (codes "&amp;") k) (sym (eqb-true b 38 is)) refl) (λ ampersand.
    cond_both (b == 60) _ _ IsRead
    (λ is. subst (λ (k : ℕ). Reads (codes "&lt;") k) (sym (eqb-true b 60 is)) refl) (λ _.
    cond_both (b == 62) _ _ IsRead
    (λ is. subst (λ (k : ℕ). Reads (codes "&gt;") k) (sym (eqb-true b 62 is)) refl) (λ _.
    cond_both (b == 34) _ _ IsRead
    (λ is. subst (λ (k : ℕ). Reads (codes "&quot;") k) (sym (eqb-true b 34 is)) refl) (λ _.
    cond_both (b == 39) _ _ IsRead
    (λ is. subst (λ (k : ℕ). Reads (codes "&#39;") k) (sym (eqb-true b 39 is)) refl) (λ _.
    cond_both (is_shown b) _ _ IsRead
    (λ shown. plain_is_read b rest ampersand
    ∙ ap (λ k. k ∷ read_from 0 rest) (sym (cond-true (is_shown b) b 63 shown)))
    (λ hidden. ap (λ k. k ∷ read_from 0 rest) (sym (cond-false (is_shown b) b 63 hidden))))))))

pub text_is_read : (text : List ℕ) → read_from 0 (escaped text) ≡ map shown_byte text
unfolding read_from
text_is_read [] = refl
text_is_read (b ∷ bs) =
    byte_is_read b (escaped bs) ∙ ap (λ t. shown_byte b ∷ t) (text_is_read bs)
