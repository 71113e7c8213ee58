-- Texts that are balanced, and how they are put together.
use Rattle.std.proofs.Common.{◌≡◌, ℕ, ◌≤◌, inl, inr, List, [], ◌∷◌, ◌++◌, true, false, refl, sym, ap, subst, ◌∙◌, suc, arith, append_assoc}
use Rattle.std.specs.Prelude.{◌==◌, ◌||◌, ◌&&◌, codes, All, nat_le}
use Rattle.std.specs.List.{list_all, flat_map, concat}
use Rattle.std.specs.Str.{bytes_eq}
use Rattle.std.proofs.lemmas.Bool.{and_parts, or_parts, or_from, not-true, cond-true, cond-false, ne_eqb, eqb-true, leb-true, or_cases, or_left, and_from, false≢true}
use Rattle.std.proofs.lemmas.List.{append-nil}
use Rattle.std.proofs.lemmas.List.Folds.{list_all-append}
use Rattle.std.proofs.lemmas.List.Sums.{fold-append}
use Rattle.std.proofs.lemmas.Slice.Eq.{bytes_eq-Decides}
use Rattle.escaped_texts.specs.Escaped.{is_safe, escaped}
use Rattle.escaped_texts.specs.Elements.{Attribute, attribute_text, open_tag, close_tag, element}
use Rattle.escaped_texts.specs.Balanced.{ElementNames, Content, Angle, Opening, Attributes, Quoted, Closing, Broken, is_name_letter, is_name_byte, is_void, element_opened, markup_step, markup_behind, IsBalanced, is_tag_name, is_attribute_name, are_named}
use Rattle.escaped_texts.proofs.Escaping.{all_safe}

pub together : (s t : List ℕ) → IsBalanced s → IsBalanced t → IsBalanced (s ++ t)
together s t first second around =
    fold-append markup_step (Content around) s t ∙ ap (λ r. markup_behind r t) (first around) ∙ second around

pub each_together : {X : Type 0} (f : X → List ℕ) (xs : List X) → ((x : X) → IsBalanced (f x))
    → IsBalanced (flat_map f xs)
each_together f [] each = λ around. refl
each_together f (x ∷ xs) each =
    together (f x) (flat_map f xs) (each x) (each_together f xs each)

pub parts_together : (parts : List (List ℕ)) → All IsBalanced parts → IsBalanced (concat parts)
parts_together [] each = λ around. refl
parts_together (part ∷ parts) each =
    together part (concat parts) (each 0 [] (omega arith))
    (parts_together parts (λ k d inside. each (suc k) d (omega (arith, inside))))

-- ---- texts

safe_is_no_markup : (b : ℕ) → is_safe b ≡ true → ((b == 60) ≡ false) × ((b == 34) ≡ false)
safe_is_no_markup b safe =
    let others = or_parts _ _ (not-true _ ((and_parts _ _ safe).1)) in
    let quotes = or_parts _ _ others.0 in
    ((or_parts _ _ quotes.0).0, quotes.1)

pub safe_in_content : (around : ElementNames) (text : List ℕ) → list_all is_safe text ≡ true
    → markup_behind (Content around) text ≡ Content around
safe_in_content around [] safe = refl
safe_in_content around (b ∷ bs) safe =
    let parts = and_parts _ _ safe in
    ap (λ r. markup_behind r bs) (cond-false (b == 60) (Angle around) (Content around) ((safe_is_no_markup b parts.0).0))
    ∙ safe_in_content around bs parts.1

pub safe_in_quotes : (name : List ℕ) (around : ElementNames) (text : List ℕ) → list_all is_safe text ≡ true
    → markup_behind (Quoted name around) text ≡ Quoted name around
safe_in_quotes name around [] safe = refl
safe_in_quotes name around (b ∷ bs) safe =
    let parts = and_parts _ _ safe in
    ap (λ r. markup_behind r bs) (cond-false (b == 34) (Attributes name around) (Quoted name around) ((safe_is_no_markup b parts.0).1))
    ∙ safe_in_quotes name around bs parts.1

prefix_is_safe : (text before after : List ℕ) → escaped text ≡ before ++ after
    → list_all is_safe before ≡ true
prefix_is_safe text before after is =
    let whole = subst (λ (t : List ℕ). list_all is_safe t ≡ true) is (all_safe text) in
    (and_parts _ _ (sym (list_all-append is_safe before after) ∙ whole)).0

pub stays_in_content : (text before after : List ℕ) (around : ElementNames) → escaped text ≡ before ++ after
    → markup_behind (Content around) before ≡ Content around
stays_in_content text before after around is =
    safe_in_content around before (prefix_is_safe text before after is)

pub stays_in_quotes : (text before after name : List ℕ) (around : ElementNames)
    → escaped text ≡ before ++ after → markup_behind (Quoted name around) before ≡ Quoted name around
stays_in_quotes text before after name around is =
    safe_in_quotes name around before (prefix_is_safe text before after is)

pub text_is_balanced : (text : List ℕ) → IsBalanced (escaped text)
text_is_balanced text around = safe_in_content around (escaped text) (all_safe text)

-- ---- tags

letter_is_high : (b : ℕ) → is_name_letter b ≡ true → 97 ≤ b
letter_is_high b letter = leb-true 97 b ((and_parts _ _ letter).0)

name_grows : (prefix name : List ℕ) (around : ElementNames) → list_all is_name_byte name ≡ true
    → markup_behind (Opening prefix around) name ≡ Opening (prefix ++ name) around
name_grows prefix [] around letters = ap (λ n. Opening n around) (sym (append-nil prefix))
name_grows prefix (b ∷ bs) around letters =
    let parts = and_parts _ _ letters in
    ap (λ r. markup_behind r bs) (cond-true (is_name_byte b) _ _ parts.0)
    ∙ name_grows (prefix ++ b ∷ []) bs around parts.1
    ∙ ap (λ n. Opening n around) (append_assoc prefix (b ∷ []) bs)

ending_grows : (prefix name : List ℕ) (around : ElementNames) → list_all is_name_byte name ≡ true
    → markup_behind (Closing prefix around) name ≡ Closing (prefix ++ name) around
ending_grows prefix [] around letters = ap (λ n. Closing n around) (sym (append-nil prefix))
ending_grows prefix (b ∷ bs) around letters =
    let parts = and_parts _ _ letters in
    ap (λ r. markup_behind r bs) (cond-true (is_name_byte b) _ _ parts.0)
    ∙ ending_grows (prefix ++ b ∷ []) bs around parts.1
    ∙ ap (λ n. Closing n around) (append_assoc prefix (b ∷ []) bs)

letter_opens : (b : ℕ) (around : ElementNames) → is_name_letter b ≡ true
    → markup_step (Angle around) b ≡ Opening (b ∷ []) around
letter_opens b around letter =
    let high = letter_is_high b letter in
    let other : (b == 47) ≡ false = ne_eqb b 47 (λ e. omega (arith, high, e)) in
    cond-false (b == 47) _ _ other ∙ cond-true (is_name_letter b) _ _ letter

name_opens : (name : List ℕ) (around : ElementNames) → is_tag_name name ≡ true
    → markup_behind (Angle around) name ≡ Opening name around
name_opens [] around named = absurd (false≢true named)
name_opens (b ∷ bs) around named =
    let parts = and_parts _ _ named in
    ap (λ r. markup_behind r bs) (letter_opens b around parts.0) ∙ name_grows (b ∷ []) bs around parts.1

-- ---- attributes

passed : (b : ℕ) (name : List ℕ) (around : ElementNames) → (b ≡ 34 → ⊥) → (b ≡ 62 → ⊥) → (b ≡ 60 → ⊥)
    → (b ≡ 39 → ⊥) → markup_step (Attributes name around) b ≡ Attributes name around
passed b name around quote greater less apostrophe =
    cond-false (b == 34) _ _ (ne_eqb b 34 quote) ∙ cond-false (b == 62) _ _ (ne_eqb b 62 greater)
    ∙ cond-false (b == 60 || b == 39) _ _ (or_from _ _ (ne_eqb b 60 less) (ne_eqb b 39 apostrophe))

stays_behind_name : (b : ℕ) (name : List ℕ) (around : ElementNames)
    → (is_name_letter b || b == 45) ≡ true → markup_step (Attributes name around) b ≡ Attributes name around
stays_behind_name b name around is = elim (or_cases _ _ is) [
  | inl letter ↦ let high = letter_is_high b letter in passed b name around
      (λ e. omega (arith, high, e)) (λ e. omega (arith, high, e))
      (λ e. omega (arith, high, e)) (λ e. omega (arith, high, e))
  | inr dash ↦ let same = eqb-true b 45 dash in passed b name around
      (λ e. omega (arith, same, e)) (λ e. omega (arith, same, e))
      (λ e. omega (arith, same, e)) (λ e. omega (arith, same, e))
]

name_is_passed : (n name : List ℕ) (around : ElementNames) → is_attribute_name n ≡ true
    → markup_behind (Attributes name around) n ≡ Attributes name around
name_is_passed [] name around named = refl
name_is_passed (b ∷ bs) name around named =
    let parts = and_parts _ _ named in
    ap (λ r. markup_behind r bs) (stays_behind_name b name around parts.0)
    ∙ name_is_passed bs name around parts.1

-- a name, the quoted value, and what follows
value_is_passed : (n value rest name : List ℕ) (around : ElementNames) → is_attribute_name n ≡ true
    → markup_behind (Attributes name around) (n ++ codes "=\"" ++ escaped value ++ codes "\"" ++ rest)
    ≡ markup_behind (Attributes name around) rest
value_is_passed n value rest name around named =
    let start = Attributes name around in
    let quoted = Quoted name around in
    fold-append markup_step start (n ++ codes "=\"" ++ escaped value ++ codes "\"") rest
    ∙ ap (λ r. markup_behind r rest) (fold-append markup_step start (n ++ codes "=\"" ++ escaped value) (codes "\"")
    ∙ ap (λ r. markup_behind r (codes "\"")) (fold-append markup_step start (n ++ codes "=\"") (escaped value)
    ∙ ap (λ r. markup_behind r (escaped value)) (fold-append markup_step start n (codes "=\"")
    ∙ ap (λ r. markup_behind r (codes "=\"")) (name_is_passed n name around named))
    ∙ safe_in_quotes name around (escaped value) (all_safe value)))

attribute_is_passed : (a : Attribute) (rest name : List ℕ) (around : ElementNames)
    → is_attribute_name a.0 ≡ true
    → markup_behind (Attributes name around) (attribute_text a ++ rest)
    ≡ markup_behind (Attributes name around) rest
unfolding attribute_text
attribute_is_passed a rest name around named = value_is_passed a.0 a.1 rest name around named

-- the first byte of an attribute ends the name of the tag
first_attribute : (a : Attribute) (rest name : List ℕ) (around : ElementNames)
    → markup_behind (Opening name around) (attribute_text a ++ rest)
    ≡ markup_behind (Attributes name around) (attribute_text a ++ rest)
unfolding attribute_text
first_attribute a rest name around = refl

attributes_are_passed : (attributes : List Attribute) (name : List ℕ) (around : ElementNames)
    → are_named attributes ≡ true
    → markup_behind (Attributes name around) (flat_map attribute_text attributes ++ codes ">")
    ≡ element_opened name around
attributes_are_passed [] name around named = refl
attributes_are_passed (a ∷ rest) name around named =
    let parts = and_parts _ _ named in
    let others = flat_map attribute_text rest in
    ap (λ t. markup_behind (Attributes name around) t) (append_assoc (attribute_text a) others (codes ">"))
    ∙ attribute_is_passed a (others ++ codes ">") name around parts.0
    ∙ attributes_are_passed rest name around parts.1

name_ends : (attributes : List Attribute) (name : List ℕ) (around : ElementNames)
    → are_named attributes ≡ true
    → markup_behind (Opening name around) (flat_map attribute_text attributes ++ codes ">")
    ≡ element_opened name around
name_ends [] name around named = refl
name_ends (a ∷ rest) name around named =
    let others = flat_map attribute_text rest in
    let cut = append_assoc (attribute_text a) others (codes ">") in
    ap (λ t. markup_behind (Opening name around) t) cut ∙ first_attribute a (others ++ codes ">") name around
    ∙ sym (ap (λ t. markup_behind (Attributes name around) t) cut)
    ∙ attributes_are_passed (a ∷ rest) name around named

pub tag_opens : (name : List ℕ) (attributes : List Attribute) (around : ElementNames)
    → is_tag_name name ≡ true → are_named attributes ≡ true
    → markup_behind (Content around) (open_tag name attributes) ≡ element_opened name around
unfolding open_tag
tag_opens name attributes around is named =
    let others = flat_map attribute_text attributes in
    ap (λ t. markup_behind (Content around) t) (append_assoc (codes "<" ++ name) others (codes ">"))
    ∙ fold-append markup_step (Angle around) name (others ++ codes ">")
    ∙ ap (λ r. markup_behind r (others ++ codes ">")) (name_opens name around is)
    ∙ name_ends attributes name around named

-- ---- elements

is_itself : (name : List ℕ) → bytes_eq name name ≡ true
is_itself name = (bytes_eq-Decides name name).1 refl

letters_are_bytes : (name : List ℕ) → is_tag_name name ≡ true → list_all is_name_byte name ≡ true
letters_are_bytes [] named = refl
letters_are_bytes (b ∷ bs) named =
    let parts = and_parts (is_name_letter b) (list_all is_name_byte bs) named in
    and_from (is_name_byte b) (list_all is_name_byte bs)
    (or_left (is_name_letter b) (nat_le 48 b && nat_le b 57) parts.0) parts.1

pub tag_closes : (name : List ℕ) (around : ElementNames) → is_tag_name name ≡ true
    → markup_behind (Content (name ∷ around)) (close_tag name) ≡ Content around
unfolding close_tag
tag_closes name around is =
    fold-append markup_step (Closing [] (name ∷ around)) name (codes ">")
    ∙ ap (λ r. markup_behind r (codes ">")) (ending_grows [] name (name ∷ around) (letters_are_bytes name is))
    ∙ cond-true (bytes_eq name name) (Content around) Broken (is_itself name)

pub element_is_balanced : (name inside : List ℕ) (attributes : List Attribute)
    → is_tag_name name ≡ true → is_void name ≡ false → are_named attributes ≡ true
    → IsBalanced inside → IsBalanced (element name attributes inside)
unfolding element
element_is_balanced name inside attributes is pair named balanced around =
    let prefix = open_tag name attributes in
    let opens = tag_opens name attributes around is named ∙ cond-false (is_void name) (Content around) (Content (name ∷ around)) pair in
    fold-append markup_step (Content around) (prefix ++ inside) (close_tag name)
    ∙ ap (λ r. markup_behind r (close_tag name)) (fold-append markup_step (Content around) prefix inside
    ∙ ap (λ r. markup_behind r inside) opens ∙ balanced (name ∷ around))
    ∙ tag_closes name around is

pub void_is_balanced : (name : List ℕ) (attributes : List Attribute) → is_tag_name name ≡ true
    → is_void name ≡ true → are_named attributes ≡ true → IsBalanced (open_tag name attributes)
void_is_balanced name attributes is alone named around =
    tag_opens name attributes around is named
    ∙ cond-true (is_void name) (Content around) (Content (name ∷ around)) alone
