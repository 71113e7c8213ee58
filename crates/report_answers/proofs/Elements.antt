-- Elements that open no script.
use Rattle.std.proofs.Common.{◌≡◌, ℕ, ◌≤◌, inl, inr, List, [], ◌∷◌, ◌++◌, true, false, refl, sym, ap, subst, ◌∙◌, arith, append_assoc}
use Rattle.std.specs.Prelude.{◌==◌, ◌||◌, ◌&&◌, codes, nat_le}
use Rattle.std.specs.List.{list_all, list_any, flat_map}
use Rattle.std.specs.Str.{bytes_eq}
use Rattle.std.proofs.lemmas.Bool.{and_parts, or_from, or_cases, or_left, and_from, cond-true, cond-false, ne_eqb, eqb-true, leb-true, false≢true}
use Rattle.std.proofs.lemmas.List.{append-nil}
use Rattle.escaped_texts.specs.Escaped.{escaped}
use Rattle.escaped_texts.specs.Elements.{Attribute, attribute_text, open_tag, close_tag, element}
use Rattle.escaped_texts.specs.Balanced.{ElementNames, MarkupReader, Content, Angle, Opening, Attributes, Quoted, Closing, is_name_letter, is_name_byte, is_void, void_names, element_opened, element_closed, markup_step, is_tag_name, is_attribute_name, are_named}
use Rattle.escaped_texts.proofs.Balancing.{tag_closes}
use Rattle.report_answers.specs.Scripts.{is_script, opens_script, Passes, IsPlainMarkup}
use Rattle.report_answers.proofs.Passing.{nothing, one_byte, onward, stays, in_quotes}

-- a byte of a name is no bracket
name_byte_is_none : (b : ℕ) → is_name_byte b ≡ true → (b == 62) ≡ false
name_byte_is_none b is = ne_eqb b 62 (λ e. absurd (false≢true (subst (λ (n : ℕ). is_name_byte n ≡ true) e is)))

opening_step : (b : ℕ) (prefix : List ℕ) (around : ElementNames) → is_name_byte b ≡ true
    → Passes (Opening prefix around) (Opening (prefix ++ b ∷ []) around) (b ∷ [])
opening_step b prefix around is =
    one_byte (Opening prefix around) (Opening (prefix ++ b ∷ []) around) b
    (cond-true (is_name_byte b) _ _ is)
    (ap (λ x. x && is_script prefix) (name_byte_is_none b is))

opening_grows : (prefix name : List ℕ) (around : ElementNames) → list_all is_name_byte name ≡ true
    → Passes (Opening prefix around) (Opening (prefix ++ name) around) name
opening_grows prefix [] around letters =
    subst (λ (n : List ℕ). Passes (Opening prefix around) (Opening n around) [])
    (sym (append-nil prefix)) (nothing (Opening prefix around))
opening_grows prefix (b ∷ bs) around letters =
    let parts = and_parts _ _ letters in
    let more = prefix ++ b ∷ [] in
    onward (Opening prefix around) (Opening more around) (Opening (prefix ++ b ∷ bs) around) (b ∷ []) bs
    (opening_step b prefix around parts.0)
    (subst (λ (n : List ℕ). Passes (Opening more around) (Opening n around) bs)
    (append_assoc prefix (b ∷ []) bs) (opening_grows more bs around parts.1))

letter_is_high : (b : ℕ) → is_name_letter b ≡ true → 97 ≤ b
letter_is_high b letter = leb-true 97 b ((and_parts _ _ letter).0)

-- ---- attributes

passed : (b : ℕ) (name : List ℕ) (around : ElementNames) → (b ≡ 34 → ⊥) → (b ≡ 62 → ⊥) → (b ≡ 60 → ⊥)
    → (b ≡ 39 → ⊥)
    → (markup_step (Attributes name around) b ≡ Attributes name around)
    × (opens_script (Attributes name around) b ≡ false)
passed b name around quote greater less apostrophe = (
  cond-false (b == 34) _ _ (ne_eqb b 34 quote) ∙ cond-false (b == 62) _ _ (ne_eqb b 62 greater)
      ∙ cond-false (b == 60 || b == 39) _ _ (or_from _ _ (ne_eqb b 60 less) (ne_eqb b 39 apostrophe)),
  ap (λ x. x && is_script name) (ne_eqb b 62 greater),
)

name_stays : (b : ℕ) (name : List ℕ) (around : ElementNames) → (is_name_letter b || b == 45) ≡ true
    → (markup_step (Attributes name around) b ≡ Attributes name around)
    × (opens_script (Attributes name around) b ≡ false)
name_stays b name around is = elim (or_cases _ _ is) [
  | inl letter ↦ let high = letter_is_high b letter in passed b name around
      (λ e. omega (arith, high, e)) (λ e. omega (arith, high, e))
      (λ e. omega (arith, high, e)) (λ e. omega (arith, high, e))
  | inr dash ↦ let same = eqb-true b 45 dash in passed b name around
      (λ e. omega (arith, same, e)) (λ e. omega (arith, same, e))
      (λ e. omega (arith, same, e)) (λ e. omega (arith, same, e))
]

-- the value of an attribute and its quotes, behind its name
value_passes : (value name : List ℕ) (around : ElementNames)
    → Passes (Attributes name around) (Attributes name around)
    (codes "=\"" ++ escaped value ++ codes "\"")
value_passes value name around =
    let there = Attributes name around in
    let quoted = Quoted name around in
    onward there quoted there (codes "=\"" ++ escaped value) (codes "\"")
    (onward there quoted quoted (codes "=\"") (escaped value)
    (record { goes = refl; opens_none = refl }) (in_quotes name around value))
    (one_byte quoted there 34 refl refl)

-- a name and its value
pair_passes : (a : Attribute) (name : List ℕ) (around : ElementNames) → is_attribute_name a.0 ≡ true
    → Passes (Attributes name around) (Attributes name around)
    (a.0 ++ (codes "=\"" ++ escaped a.1 ++ codes "\""))
pair_passes a name around named =
    let there = Attributes name around in
    onward there there there a.0 (codes "=\"" ++ escaped a.1 ++ codes "\"")
    (stays there (λ b. is_name_letter b || b == 45) (λ b is. name_stays b name around is) a.0 named)
    (value_passes a.1 name around)

regrouped : (n value : List ℕ)
    → codes " " ++ (n ++ (codes "=\"" ++ escaped value ++ codes "\""))
    ≡ codes " " ++ n ++ codes "=\"" ++ escaped value ++ codes "\""
regrouped n value = simp append_assoc

attribute_passes : (r : MarkupReader) (a : Attribute) (name : List ℕ) (around : ElementNames)
    → Passes r (Attributes name around) (codes " ") → is_attribute_name a.0 ≡ true
    → Passes r (Attributes name around) (attribute_text a)
unfolding attribute_text
attribute_passes r a name around space named =
    let there = Attributes name around in
    subst (λ (t : List ℕ). Passes r there t) (regrouped a.0 a.1)
    (onward r there there (codes " ") (a.0 ++ (codes "=\"" ++ escaped a.1 ++ codes "\"")) space
    (pair_passes a name around named))

attributes_pass : (attributes : List Attribute) (name : List ℕ) (around : ElementNames)
    → are_named attributes ≡ true
    → Passes (Attributes name around) (Attributes name around) (flat_map attribute_text attributes)
attributes_pass [] name around named = nothing (Attributes name around)
attributes_pass (a ∷ rest) name around named =
    let parts = and_parts _ _ named in
    let there = Attributes name around in
    onward there there there (attribute_text a) (flat_map attribute_text rest)
    (attribute_passes there a name around (one_byte there there 32 refl refl) parts.0)
    (attributes_pass rest name around parts.1)

-- ---- tags

tag_ends : (attributes : List Attribute) (name : List ℕ) (around : ElementNames)
    → are_named attributes ≡ true → is_script name ≡ false
    → Passes (Opening name around) (element_opened name around)
    (flat_map attribute_text attributes ++ codes ">")
tag_ends [] name around named other =
    one_byte (Opening name around) (element_opened name around) 62 refl other
tag_ends (a ∷ rest) name around named other =
    let parts = and_parts _ _ named in
    let there = Attributes name around in
    onward (Opening name around) there (element_opened name around)
    (attribute_text a ++ flat_map attribute_text rest) (codes ">")
    (onward (Opening name around) there there (attribute_text a) (flat_map attribute_text rest)
    (attribute_passes (Opening name around) a name around
    (one_byte (Opening name around) there 32 refl refl) parts.0)
    (attributes_pass rest name around parts.1))
    (one_byte there (element_opened name around) 62 refl other)

letter_opens : (b : ℕ) (around : ElementNames) → is_name_letter b ≡ true
    → Passes (Angle around) (Opening (b ∷ []) around) (b ∷ [])
letter_opens b around letter =
    let high = letter_is_high b letter in
    let other : (b == 47) ≡ false = ne_eqb b 47 (λ e. omega (arith, high, e)) in
    one_byte (Angle around) (Opening (b ∷ []) around) b
    (cond-false (b == 47) _ _ other ∙ cond-true (is_name_letter b) _ _ letter) refl

name_opens : (name : List ℕ) (around : ElementNames) → is_tag_name name ≡ true
    → Passes (Angle around) (Opening name around) name
name_opens [] around named = absurd (false≢true named)
name_opens (b ∷ bs) around named =
    let parts = and_parts _ _ named in
    onward (Angle around) (Opening (b ∷ []) around) (Opening (b ∷ bs) around) (b ∷ []) bs
    (letter_opens b around parts.0) (opening_grows (b ∷ []) bs around parts.1)

pub open_passes : (name : List ℕ) (attributes : List Attribute) (around : ElementNames)
    → is_tag_name name ≡ true → are_named attributes ≡ true → is_script name ≡ false
    → Passes (Content around) (element_opened name around) (open_tag name attributes)
unfolding open_tag
open_passes name attributes around is named other =
    let others = flat_map attribute_text attributes in
    subst (λ (t : List ℕ). Passes (Content around) (element_opened name around) t)
    (sym (append_assoc (codes "<" ++ name) others (codes ">")))
    (onward (Content around) (Opening name around) (element_opened name around)
    (codes "<" ++ name) (others ++ codes ">")
    (onward (Content around) (Angle around) (Opening name around) (codes "<") name
    (one_byte (Content around) (Angle around) 60 refl refl) (name_opens name around is))
    (tag_ends attributes name around named other))

closing_step : (b : ℕ) (prefix : List ℕ) (around : ElementNames) → is_name_byte b ≡ true
    → Passes (Closing prefix around) (Closing (prefix ++ b ∷ []) around) (b ∷ [])
closing_step b prefix around is =
    one_byte (Closing prefix around) (Closing (prefix ++ b ∷ []) around) b
    (cond-true (is_name_byte b) _ _ is) refl

closing_grows : (prefix name : List ℕ) (around : ElementNames) → list_all is_name_byte name ≡ true
    → Passes (Closing prefix around) (Closing (prefix ++ name) around) name
closing_grows prefix [] around letters =
    subst (λ (n : List ℕ). Passes (Closing prefix around) (Closing n around) [])
    (sym (append-nil prefix)) (nothing (Closing prefix around))
closing_grows prefix (b ∷ bs) around letters =
    let parts = and_parts _ _ letters in
    let more = prefix ++ b ∷ [] in
    onward (Closing prefix around) (Closing more around) (Closing (prefix ++ b ∷ bs) around) (b ∷ []) bs
    (closing_step b prefix around parts.0)
    (subst (λ (n : List ℕ). Passes (Closing more around) (Closing n around) bs)
    (append_assoc prefix (b ∷ []) bs) (closing_grows more bs around parts.1))

letters_are_bytes : (name : List ℕ) → is_tag_name name ≡ true → list_all is_name_byte name ≡ true
letters_are_bytes [] named = absurd (false≢true named)
letters_are_bytes (b ∷ bs) named =
    let parts = and_parts (is_name_letter b) (list_all is_name_byte bs) named in
    and_from (is_name_byte b) (list_all is_name_byte bs)
    (or_left (is_name_letter b) (nat_le 48 b && nat_le b 57) parts.0) parts.1

-- that the innermost element closes is known; no script is opened
close_passes : (name : List ℕ) (around : ElementNames) → is_tag_name name ≡ true
    → Passes (Content (name ∷ around)) (Content around) (close_tag name)
unfolding close_tag
close_passes name around is =
    let inner = name ∷ around in
    let behind = element_closed name inner in
    let all = onward (Content inner) (Closing name inner) behind (codes "</" ++ name) (codes ">")
    (onward (Content inner) (Closing [] inner) (Closing name inner) (codes "</") name
    (record { goes = refl; opens_none = refl })
    (closing_grows [] name inner (letters_are_bytes name is)))
    (one_byte (Closing name inner) behind 62 refl refl) in
    record { goes = tag_closes name around is; opens_none = all.opens_none }

pub element_is_plain : (name : List ℕ) (attributes : List Attribute) {inside : List ℕ}
    → is_tag_name name ≡ true → list_any (bytes_eq name) void_names ≡ false
    → is_script name ≡ false → are_named attributes ≡ true → IsPlainMarkup inside
    → IsPlainMarkup (element name attributes inside)
unfolding element is_void
element_is_plain name attributes {inside} is pair other named plain around =
    let inner = Content (name ∷ around) in
    let opened : element_opened name around ≡ inner = cond-false (is_void name) (Content around) inner pair in
    onward (Content around) inner (Content around) (open_tag name attributes ++ inside) (close_tag name)
    (onward (Content around) inner inner (open_tag name attributes) inside
    (subst (λ (r : MarkupReader). Passes (Content around) r (open_tag name attributes)) opened
    (open_passes name attributes around is named other))
    (plain (name ∷ around)))
    (close_passes name around is)
