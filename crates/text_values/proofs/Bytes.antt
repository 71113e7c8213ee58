-- Where the search for a byte ends, and the turns of the loop over a comment.
use Rattle.std.proofs.Common.{◌≡◌, ℕ, zero, suc, ◌+◌, ◌-◌, ◌<◌, ◌≤◌, List, [], ◌∷◌, length, get_or, take, drop, subst, Some, None, refl, sym, ap, ◌∙◌, arith}
use Rattle.std.specs.Prelude.{◌==◌, ◌&&◌, if◌then◌else◌, slice_index}
use Rattle.std.specs.List.{position_or_len}
use Rattle.std.proofs.lemmas.Bool.Decides.{nat_tests}
use Rattle.std.proofs.lemmas.List.{at_drop_more, at_drop_all, take_all, get_or-drop}
use Rattle.std.proofs.lemmas.List.Sums.{position_or_len_is}
use Rattle.std.proofs.lemmas.Bool.{false_from_ne_true}
use Rattle.memchr.specs.Find.{IsFirstByte, is_byte}
use Rattle.text_values.specs.Layout.{is_quote, quoted_from, comment_from, comment_of}

pub first_found : (k : ℕ) (text : List ℕ) (at : ℕ) → IsFirstByte (is_byte k) text (Some at)
    → at ≡ position_or_len (is_byte k) text
first_found k text at h =
    let n = h.0 in
    sym (position_or_len_is (is_byte k) text at 0 (let x = n.high in omega arith)
    (λ i lt. false_from_ne_true (is_byte k (get_or text i 0)) (n.before i (omega arith) lt))
    (λ _. h.1))

pub none_found : (k : ℕ) (text : List ℕ) → IsFirstByte (is_byte k) text None
    → length text ≡ position_or_len (is_byte k) text
none_found k text h =
    sym (position_or_len_is (is_byte k) text (length text) 0 (omega arith)
    (λ i lt. false_from_ne_true (is_byte k (get_or text i 0)) (h i (omega arith) lt))
    (λ bad. absurd (omega arith)))

-- a string ends at its next quote, if it has one
ends_before : (p n : ℕ) → p < n → Some (p + 2) ≡ (if p == n then None else Some (p + 2))
ends_before p n lt = grind (arith, nat_tests)

does_not_end : (p n : ℕ) → p ≡ n → None ≡ (if p == n then None else Some (p + 2))
does_not_end p n e = grind (arith, nat_tests)

pub quote_found : (bytes : List ℕ) (at : ℕ) → 0 < length bytes
    → IsFirstByte (is_byte 34) (take (length bytes - 1) (drop 1 bytes)) (Some at)
    → Some (at + 2) ≡ quoted_from bytes
quote_found [] at lt h = absurd (omega arith)
quote_found (b ∷ bs) at lt h =
    let found : IsFirstByte (is_byte 34) bs (Some at) = subst (λ (l : List ℕ). IsFirstByte (is_byte 34) l (Some at)) (take_all (length (b ∷ bs) - 1) bs (omega arith)) h in
    let e : at ≡ position_or_len is_quote bs = first_found 34 bs at found in
    let n = found.0 in
    let below : at < length bs = let x = n.high in omega arith in
    ap (λ p. Some (p + 2)) e ∙ ends_before (position_or_len is_quote bs) (length bs) (omega arith)

pub no_quote : (bytes : List ℕ) → 0 < length bytes
    → IsFirstByte (is_byte 34) (take (length bytes - 1) (drop 1 bytes)) None
    → None ≡ quoted_from bytes
no_quote [] lt h = absurd (omega arith)
no_quote (b ∷ bs) lt h =
    does_not_end (position_or_len is_quote bs) (length bs) (sym (none_found 34 bs
    (subst (λ (l : List ℕ). IsFirstByte (is_byte 34) l None)
    (take_all (length (b ∷ bs) - 1) bs (omega arith)) h)))

-- fewer than two bytes are no comment
pub no_comment : (bytes : List ℕ) → length bytes < 2 → None ≡ comment_of bytes
unfolding comment_from
no_comment [] lt = refl
no_comment (b ∷ []) lt = refl
no_comment (a ∷ b ∷ bs) lt = absurd (omega arith)

-- one byte of a comment
pub comment_skips : (text : List ℕ) (depth i : ℕ) → i < length text
    → comment_from 1 depth i (drop i text) ≡ comment_from 0 depth (i + 1) (drop (i + 1) text)
unfolding comment_from
comment_skips text depth i lt = at_drop_more (comment_from 1 depth i) text i 0 lt

pub comment_turn : (text : List ℕ) (depth i : ℕ) → i < length text
    → comment_from 0 depth i (drop i text)
    ≡ (if slice_index text i == 42 && slice_index text (i + 1) == 41 then (if depth == 1 then Some
    (i + 2)
    else comment_from 1 (depth - 1) (i + 1) (drop (i + 1) text)) else (
    if slice_index text i == 40 && slice_index text (i + 1) == 42 then comment_from 1 (depth + 1)
    (i + 1) (drop (i + 1) text)
    else comment_from 0 depth (i + 1) (drop (i + 1) text)))
unfolding comment_from
comment_turn text depth i lt =
    at_drop_more (comment_from 0 depth i) text i 0 lt
    ∙ ap (λ n. if slice_index text i == 42 && n == 41 then (if depth == 1 then Some (i + 2)
    else comment_from 1 (depth - 1) (i + 1) (drop (i + 1) text)) else (
    if slice_index text i == 40 && n == 42 then comment_from 1 (depth + 1) (i + 1)
    (drop (i + 1) text)
    else comment_from 0 depth (i + 1) (drop (i + 1) text))) (next (i + 1))
  where
    next : (j : ℕ) → slice_index (drop j text) 0 ≡ slice_index text j
    next j = simp get_or-drop (ap (slice_index text) (omega arith))

pub comment_ends : (text : List ℕ) (skip depth i : ℕ) → length text ≤ i
    → comment_from skip depth i (drop i text) ≡ None
unfolding comment_from
comment_ends text skip depth i le = at_drop_all (comment_from skip depth i) text i le ∙ nothing skip
  where
    nothing : (n : ℕ) → comment_from n depth i [] ≡ None
    nothing zero = refl
    nothing (suc n) = refl
