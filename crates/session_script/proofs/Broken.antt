-- Lines, read part by part.
use Rattle.std.proofs.Common.{◌≡◌, ℕ, zero, suc, ◌+◌, ◌-◌, ◌<◌, ◌==◌, ◌&&◌, List, [], ◌∷◌, ◌++◌, length, get_or, take, drop, Bool, true, false, refl, sym, ap, ◌∙◌, arith, drop-cons}
use Rattle.std.specs.Prelude.{slice_index}
use Rattle.std.specs.List.{position_or_len}
use Rattle.std.proofs.lemmas.List.{take-append-drop, take_all}
use Rattle.std.proofs.lemmas.List.Sums.{fails_before_first, passes_at_first}
use Rattle.std.proofs.lemmas.Grind.{common_steps}
use Rattle.std.proofs.lemmas.Bool.{and_right}
use Rattle.text_values.specs.Layout.{is_line_end}
use Rattle.session_script.specs.Lines.{onto_first, lines_of, IsUnbroken, without_return}

on_line : (b : ℕ) (bs : List ℕ) → (b == 10) ≡ false → (b == 13 && slice_index bs 0 == 10) ≡ false
    → lines_of (b ∷ bs) ≡ onto_first b (lines_of bs)
on_line b bs e f = rw (e, f) refl

past_return : (b : ℕ) (bs : List ℕ) → (b == 10) ≡ false → (b == 13 && slice_index bs 0 == 10) ≡ true
    → lines_of (b ∷ bs) ≡ lines_of bs
past_return b bs e f = rw (e, f) refl

-- a line and its line feed
pub ended_line : (line rest : List ℕ) → IsUnbroken line
    → lines_of (line ++ 10 ∷ rest) ≡ without_return line ∷ lines_of rest
ended_line [] rest h = refl
ended_line (b ∷ []) rest h = by (b == 13) refl
  where
    by : (x : Bool) → (b == 13) ≡ x
        → lines_of (b ∷ 10 ∷ rest) ≡ without_return (b ∷ []) ∷ lines_of rest
    by true e = past_return b (10 ∷ rest) h.0 (ap (λ (y : Bool). y && true) e) ∙ rw e refl
    by false e = on_line b (10 ∷ rest) h.0 (ap (λ (y : Bool). y && true) e) ∙ rw e refl
ended_line (b ∷ c ∷ cs) rest h =
    on_line b (c ∷ cs ++ 10 ∷ rest) h.0 (and_right (b == 13) (c == 10) h.1.0)
    ∙ ap (λ (ls : List (List ℕ)). onto_first b ls) (ended_line (c ∷ cs) rest h.1)

-- the last line, without a line feed
pub last_line : (b : ℕ) (line : List ℕ) → IsUnbroken (b ∷ line)
    → lines_of (b ∷ line) ≡ (b ∷ line) ∷ []
last_line b [] h = on_line b [] h.0 (and_right (b == 13) false refl)
last_line b (c ∷ cs) h =
    on_line b (c ∷ cs) h.0 (and_right (b == 13) (c == 10) h.1.0)
    ∙ ap (λ (ls : List (List ℕ)). onto_first b ls) (last_line c cs h.1)

pub unbroken_joined : (a b : List ℕ) → IsUnbroken a → IsUnbroken b → IsUnbroken (a ++ b)
unbroken_joined [] b h k = k
unbroken_joined (x ∷ xs) b h k = (h.0, unbroken_joined xs b h.1 k)

unbroken_prefix : (bs : List ℕ) (n : ℕ) → ((k : ℕ) → k < n → is_line_end (get_or bs k 0) ≡ false)
    → IsUnbroken (take n bs)
unbroken_prefix [] zero h = tt
unbroken_prefix [] (suc n) h = tt
unbroken_prefix (b ∷ bs) zero h = tt
unbroken_prefix (b ∷ bs) (suc n) h =
    (h 0 (omega arith), unbroken_prefix bs n (λ k l. h (suc k) (omega arith)))

-- the bytes before the first line feed
pub unbroken_line : (bs : List ℕ) (n : ℕ) → n ≡ position_or_len is_line_end bs
    → IsUnbroken (take n bs)
unbroken_line bs n e =
    unbroken_prefix bs n (λ k l. fails_before_first is_line_end bs k 0 (omega arith))

is_ten : (b : ℕ) → is_line_end b ≡ true → b ≡ 10
is_ten b h = grind (arith, common_steps)

-- what waits, cut at the first line feed
pub cut_at_end : (bs : List ℕ) (n : ℕ) → n ≡ position_or_len is_line_end bs → n < length bs
    → bs ≡ take n bs ++ 10 ∷ drop (suc n) bs
cut_at_end bs n e inside =
    let at : is_line_end (get_or bs (position_or_len is_line_end bs) 0) ≡ true = passes_at_first is_line_end bs 0 (omega arith) in
    let ten : get_or bs n 0 ≡ 10 = ap (λ (k : ℕ). get_or bs k 0) e ∙ is_ten _ at in
    sym (take-append-drop n bs)
    ∙ ap (λ (l : List ℕ). take n bs ++ l) (drop-cons bs n 0 inside
    ∙ ap (λ (b : ℕ). b ∷ drop (suc n) bs) ten)

-- ---- the carriage return before a line feed

pub return_dropped : (line : List ℕ) (n : ℕ) → n + 1 ≡ length line → get_or line n 0 ≡ 13
    → without_return line ≡ take n line
return_dropped [] n h e = absurd (omega arith)
return_dropped (b ∷ []) zero h e = rw e refl
return_dropped (b ∷ []) (suc n) h e = absurd (omega arith)
return_dropped (b ∷ c ∷ cs) zero h e = absurd (omega arith)
return_dropped (b ∷ c ∷ cs) (suc n) h e =
    ap (λ (l : List ℕ). b ∷ l) (return_dropped (c ∷ cs) n (omega arith) e)

pub no_return : (line : List ℕ) → ((n : ℕ) → n + 1 ≡ length line → get_or line n 0 ≡ 13 → ⊥)
    → without_return line ≡ line
no_return [] h = refl
no_return (b ∷ []) h = by (b == 13) refl
  where
    is_return : (b == 13) ≡ true → b ≡ 13
    is_return e = grind (arith, common_steps)

    by : (x : Bool) → (b == 13) ≡ x → without_return (b ∷ []) ≡ b ∷ []
    by true e = absurd (h 0 (omega arith) (is_return e))
    by false e = rw e refl
no_return (b ∷ c ∷ cs) h =
    ap (λ (l : List ℕ). b ∷ l) (no_return (c ∷ cs) (λ n k e. h (suc n) (omega arith) e))

-- ---- how much of a line stays

pub none_stays : (line : List ℕ) → length line ≡ 0 → take 0 line ≡ without_return line
none_stays [] h = refl
none_stays (b ∷ bs) h = absurd (omega arith)

pub return_goes : (line : List ℕ) (n : ℕ) → n + 1 ≡ length line → get_or line n 0 ≡ 13
    → take n line ≡ without_return line
return_goes line n h e = sym (return_dropped line n h e)

pub all_stays : (line : List ℕ) (n : ℕ) → n ≡ length line → 0 < n → (get_or line (n - 1) 0 ≡ 13 → ⊥)
    → take n line ≡ without_return line
all_stays line n size some h =
    let last = λ (m : ℕ) (k : m + 1 ≡ length line) (e : get_or line m 0 ≡ 13). (let same : m ≡ n - 1 = omega arith in h (sym (ap (λ (i : ℕ). get_or line i 0) same) ∙ e)) in
    take_all n line (omega arith) ∙ sym (no_return line last)
