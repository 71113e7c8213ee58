-- Texts that lead a reader on.
use Rattle.std.proofs.Common.{◌≡◌, ℕ, zero, suc, ◌+◌, ◌/◌, ◌%◌, List, [], ◌∷◌, ◌++◌, Bool, true, false, refl, ap, ◌∙◌, arith}
use Rattle.std.specs.Prelude.{◌==◌, not, nat_lt}
use Rattle.std.specs.List.{list_all, flat_map}
use Rattle.std.specs.Fmt.{digit_glyph, digits_onto, digits, decimal}
use Rattle.std.proofs.lemmas.Bool.{and_parts, and_from, or_parts, not-true, not_from_false, cond_both, cond-false, ne_eqb, ltb-true}
use Rattle.std.proofs.lemmas.List.Sums.{fold-append}
use Rattle.escaped_texts.specs.Escaped.{is_safe, escaped}
use Rattle.escaped_texts.specs.Balanced.{ElementNames, MarkupReader, Content, Angle, Attributes, Quoted, markup_step, markup_behind}
use Rattle.escaped_texts.proofs.Escaping.{all_safe}
use Rattle.report_answers.specs.Scripts.{opens_script, one_if, script_count, Passes, IsPlainMarkup}

count_append : (r : MarkupReader) (s t : List ℕ)
    → script_count r (s ++ t) ≡ script_count r s + script_count (markup_behind r s) t
count_append r [] t = omega arith
count_append r (b ∷ bs) t =
    let rest = count_append (markup_step r b) bs t in
    omega (arith, rest)

pub nothing : (r : MarkupReader) → Passes r r []
nothing r = record { goes = refl; opens_none = refl }

pub one_byte : (r s : MarkupReader) (b : ℕ) → markup_step r b ≡ s → opens_script r b ≡ false
    → Passes r s (b ∷ [])
one_byte r s b goes opens =
    let none : one_if (opens_script r b) ≡ 0 = ap one_if opens in
    record { goes = goes; opens_none = omega (arith, none) }

pub onward : (p q r : MarkupReader) (s t : List ℕ) → Passes p q s → Passes q r t → Passes p r (s ++ t)
onward p q r s t first second =
    let apart = count_append p s t in
    let there = ap (λ k. script_count k t) (first.goes) in
    record {
      goes = fold-append markup_step p s t ∙ ap (λ k. markup_behind k t) (first.goes) ∙ second.goes;
      opens_none = omega (arith, apart, there, first.opens_none, second.opens_none);
    }

-- the scripts of what stands behind a text
pub count_behind : (p q : MarkupReader) (s t : List ℕ) (n : ℕ) → Passes p q s
    → script_count q t ≡ n → script_count p (s ++ t) ≡ n
count_behind p q s t n passed here =
    let apart = count_append p s t in
    let there = ap (λ k. script_count k t) (passed.goes) in
    omega (arith, apart, there, passed.opens_none, here)

-- bytes that leave the reader where it stands
pub stays : (r : MarkupReader) (p : ℕ → Bool)
    → ((b : ℕ) → p b ≡ true → (markup_step r b ≡ r) × (opens_script r b ≡ false))
    → (text : List ℕ) → list_all p text ≡ true → Passes r r text
stays r p each [] all = nothing r
stays r p each (b ∷ bs) all =
    let parts = and_parts _ _ all in
    let here = each b parts.0 in
    onward r r r (b ∷ []) bs (one_byte r r b here.0 here.1) (stays r p each bs parts.1)

-- ---- texts of anyone

pub safe_is_no_markup : (b : ℕ) → is_safe b ≡ true → ((b == 60) ≡ false) × ((b == 34) ≡ false)
safe_is_no_markup b safe =
    let others = or_parts _ _ (not-true _ ((and_parts _ _ safe).1)) in
    let quotes = or_parts _ _ others.0 in
    ((or_parts _ _ quotes.0).0, quotes.1)

in_content : (around : ElementNames) (b : ℕ) → (b == 60) ≡ false
    → (markup_step (Content around) b ≡ Content around) × (opens_script (Content around) b ≡ false)
in_content around b other = (cond-false (b == 60) (Angle around) (Content around) other, refl)

pub plain_text : (p : ℕ → Bool) → ((b : ℕ) → p b ≡ true → (b == 60) ≡ false) → (text : List ℕ)
    → list_all p text ≡ true → IsPlainMarkup text
plain_text p each text all around =
    stays (Content around) p (λ b passes. in_content around b (each b passes)) text all

pub escaped_is_plain : (text : List ℕ) → IsPlainMarkup (escaped text)
escaped_is_plain text =
    plain_text is_safe (λ b safe. (safe_is_no_markup b safe).0) (escaped text) (all_safe text)

pub in_quotes : (name : List ℕ) (around : ElementNames) (text : List ℕ)
    → Passes (Quoted name around) (Quoted name around) (escaped text)
in_quotes name around text =
    stays (Quoted name around) is_safe
    (λ b safe. (cond-false (b == 34) (Attributes name around) (Quoted name around) ((safe_is_no_markup b safe).1), refl))
    (escaped text) (all_safe text)

-- ---- put together

pub none_plain : IsPlainMarkup []
none_plain around = nothing (Content around)

pub beside : {s t : List ℕ} → IsPlainMarkup s → IsPlainMarkup t → IsPlainMarkup (s ++ t)
beside {s} {t} first second around =
    onward (Content around) (Content around) (Content around) s t (first around) (second around)

pub each_beside : {X : Type 0} (f : X → List ℕ) (xs : List X)
    → ((x : X) → IsPlainMarkup (f x)) → IsPlainMarkup (flat_map f xs)
each_beside f [] each = none_plain
each_beside f (x ∷ xs) each = beside (each x) (each_beside f xs each)

-- ---- numbers

glyph_is_plain : (d : ℕ) → (digit_glyph false d == 60) ≡ false
glyph_is_plain d =
    cond_both (nat_lt d 10) (48 + d) (87 + d) (λ g. (g == 60) ≡ false)
    (λ less. let small = ltb-true d 10 less in ne_eqb (48 + d) 60 (λ e. omega (arith, small, e)))
    (λ more. ne_eqb (87 + d) 60 (λ e. omega (arith, e)))

abbrev pub is_no_angle : ℕ → Bool
is_no_angle b = not (b == 60)

pub no_angle_is_plain : (text : List ℕ) → list_all is_no_angle text ≡ true → IsPlainMarkup text
no_angle_is_plain text all = plain_text is_no_angle (λ b is. not-true (b == 60) is) text all

glyph_passes : (d : ℕ) (acc : List ℕ) → list_all is_no_angle acc ≡ true
    → list_all is_no_angle (digit_glyph false d ∷ acc) ≡ true
glyph_passes d acc all = and_from _ _ (not_from_false _ (glyph_is_plain d)) all

digits_pass : (k n : ℕ) (acc : List ℕ) → list_all is_no_angle acc ≡ true
    → list_all is_no_angle (digits_onto k 10 false n acc) ≡ true
digits_pass zero n acc all = all
digits_pass (suc k) n acc all =
    let more = glyph_passes (n % 10) acc all in
    cond_both (n / 10 == 0) (digit_glyph false (n % 10) ∷ acc)
    (digits_onto k 10 false (n / 10) (digit_glyph false (n % 10) ∷ acc))
    (λ t. list_all is_no_angle t ≡ true) (λ _. more)
    (λ _. digits_pass k (n / 10) (digit_glyph false (n % 10) ∷ acc) more)

pub decimal_is_plain : (n : ℕ) → IsPlainMarkup (decimal n)
unfolding digits
decimal_is_plain n = no_angle_is_plain (decimal n) (digits_pass 64 n [] refl)

-- a byte that is no angle bracket
pub byte_is_plain : (b : ℕ) → (b == 60) ≡ false → IsPlainMarkup (b ∷ [])
byte_is_plain b other =
    no_angle_is_plain (b ∷ []) (and_from _ _ (not_from_false _ other) refl)
