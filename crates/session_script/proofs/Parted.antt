-- Words, one after another.
use Rattle.std.proofs.Common.{◌≡◌, ℕ, suc, ◌+◌, ◌-◌, ◌<◌, List, [], ◌∷◌, ◌++◌, length, get_or, take, drop, Bool, true, false, refl, sym, ap, ◌∙◌, arith, drop-cons, drop-drop, append_assoc}
use Rattle.std.specs.List.{position_or_len}
use Rattle.std.proofs.lemmas.List.{take_all, length-drop}
use Rattle.std.proofs.lemmas.List.Sums.{passes_at_first, position_or_len_is}
use Rattle.session_script.specs.Lines.{onto_first}
use Rattle.session_script.specs.Words.{is_gap, ends_word, words_of}

past_gap : (b : ℕ) (bs : List ℕ) → is_gap b ≡ true → words_of (b ∷ bs) ≡ words_of bs
past_gap b bs e = rw e refl

word_ends : (b : ℕ) (bs : List ℕ) → is_gap b ≡ false → ends_word bs ≡ true
    → words_of (b ∷ bs) ≡ (b ∷ []) ∷ words_of bs
word_ends b bs e f = rw (e, f) refl

word_goes_on : (b : ℕ) (bs : List ℕ) → is_gap b ≡ false → ends_word bs ≡ false
    → words_of (b ∷ bs) ≡ onto_first b (words_of bs)
word_goes_on b bs e f = rw (e, f) refl

at_gap : (b : ℕ) (bs : List ℕ) → is_gap b ≡ true → position_or_len is_gap (b ∷ bs) ≡ 0
at_gap b bs e = rw e refl

one_more : (n : ℕ) → 1 + n ≡ suc n
one_more n = omega arith

past_letter : (b : ℕ) (bs : List ℕ) → is_gap b ≡ false
    → position_or_len is_gap (b ∷ bs) ≡ suc (position_or_len is_gap bs)
past_letter b bs e =
    let next : position_or_len is_gap (b ∷ bs) ≡ 1 + position_or_len is_gap bs = rw e refl in
    next ∙ one_more (position_or_len is_gap bs)

-- the first word of some bytes, which do not begin with a gap
first_word : (b : ℕ) (bs : List ℕ) → is_gap b ≡ false
    → words_of (b ∷ bs)
    ≡ (b ∷ take (position_or_len is_gap bs) bs) ∷ words_of (drop (position_or_len is_gap bs) bs)
first_word b [] e = word_ends b [] e refl
first_word b (c ∷ cs) e = by (is_gap c) refl (λ f. first_word c cs f)
  where
    by : (x : Bool) → is_gap c ≡ x
        → (is_gap c ≡ false
        → words_of (c ∷ cs)
        ≡ (c ∷ take (position_or_len is_gap cs) cs)
        ∷ words_of (drop (position_or_len is_gap cs) cs))
        → words_of (b ∷ c ∷ cs)
        ≡ (b ∷ take (position_or_len is_gap (c ∷ cs)) (c ∷ cs))
        ∷ words_of (drop (position_or_len is_gap (c ∷ cs)) (c ∷ cs))
    by true f more =
        word_ends b (c ∷ cs) e f
        ∙ ap (λ (n : ℕ). (b ∷ take n (c ∷ cs)) ∷ words_of (drop n (c ∷ cs)))
        (sym (at_gap c cs f))
    by false f more =
        word_goes_on b (c ∷ cs) e f ∙ ap (λ (ls : List (List ℕ)). onto_first b ls) (more f)
        ∙ ap (λ (n : ℕ). (b ∷ take n (c ∷ cs)) ∷ words_of (drop n (c ∷ cs)))
        (sym (past_letter c cs f))

first_word_cut : (bs : List ℕ) (n : ℕ) → n ≡ position_or_len is_gap bs → 0 < n
    → words_of bs ≡ take n bs ∷ words_of (drop n bs)
first_word_cut [] n e some = absurd (omega arith)
first_word_cut (b ∷ bs) n e some = by (is_gap b) refl
  where
    by : (x : Bool) → is_gap b ≡ x
        → words_of (b ∷ bs) ≡ take n (b ∷ bs) ∷ words_of (drop n (b ∷ bs))
    by true f = let z = at_gap b bs f in absurd (omega arith)
    by false f =
        first_word b bs f
        ∙ ap (λ (k : ℕ). take k (b ∷ bs) ∷ words_of (drop k (b ∷ bs)))
        (sym (past_letter b bs f) ∙ sym e)

rest : (bs : List ℕ) (i : ℕ) → take (length bs - i) (drop i bs) ≡ drop i bs
rest bs i = take_all (length bs - i) (drop i bs) (let l = length-drop i bs in omega arith)

-- past a byte that parts words
pub gap_passed : (bs : List ℕ) (i n : ℕ) → i < length bs
    → n ≡ position_or_len is_gap (take (length bs - i) (drop i bs)) → n ≡ 0
    → words_of (drop i bs) ≡ words_of (drop (i + 1) bs)
gap_passed bs i n inside e z =
    let at : n ≡ position_or_len is_gap (drop i bs) = e ∙ ap (λ (l : List ℕ). position_or_len is_gap l) (rest bs i) in
    let some : 0 < length (drop i bs) = let l = length-drop i bs in omega arith in
    let cons : drop i bs ≡ get_or bs i 0 ∷ drop (suc i) bs = drop-cons bs i 0 inside in
    let passes : is_gap (get_or (drop i bs) (position_or_len is_gap (drop i bs)) 0) ≡ true = passes_at_first is_gap (drop i bs) 0 (omega arith) in
    let first : is_gap (get_or (drop i bs) 0 0) ≡ true = ap (λ (k : ℕ). is_gap (get_or (drop i bs) k 0)) (sym z ∙ at) ∙ passes in
    let gap : is_gap (get_or bs i 0) ≡ true = ap (λ (l : List ℕ). is_gap (get_or l 0 0)) (sym cons) ∙ first in
    let next : suc i ≡ i + 1 = omega arith in
    ap (λ (l : List ℕ). words_of l) cons ∙ past_gap (get_or bs i 0) (drop (suc i) bs) gap
    ∙ ap (λ (k : ℕ). words_of (drop k bs)) next

-- past a word
pub word_passed : (bs : List ℕ) (i n : ℕ) → i < length bs
    → n ≡ position_or_len is_gap (take (length bs - i) (drop i bs)) → 0 < n
    → words_of (drop i bs) ≡ take n (drop i bs) ∷ words_of (drop n (drop i bs))
word_passed bs i n inside e some =
    first_word_cut (drop i bs) n (e ∙ ap (λ (l : List ℕ). position_or_len is_gap l) (rest bs i))
    some

-- a word more
pub word_pushed : (bs : List ℕ) (old new : List (List ℕ)) (i n : ℕ) (word : List ℕ) → i < length bs
    → n ≡ position_or_len is_gap (take (length bs - i) (drop i bs)) → 0 < n
    → word ≡ take n (drop i bs) → new ≡ old ++ word ∷ [] → words_of bs ≡ old ++ words_of (drop i bs)
    → words_of bs ≡ new ++ words_of (drop (i + n) bs)
word_pushed bs old new i n word inside e some is pushed before =
    let whole = λ (l : List (List ℕ)). l ++ words_of (drop (i + n) bs) in
    before
    ∙ ap (λ (l : List (List ℕ)). old ++ l) (word_passed bs i n inside e some
    ∙ ap (λ (l : List ℕ). take n (drop i bs) ∷ words_of l) (drop-drop n i bs)
    ∙ ap (λ (w : List ℕ). w ∷ words_of (drop (i + n) bs)) (sym is))
    ∙ sym (append_assoc old (word ∷ []) (words_of (drop (i + n) bs)))
    ∙ ap whole (sym pushed)

-- ---- the first gap

pub gap_found : (bs : List ℕ) (i : ℕ) → i < length bs
    → ((k : ℕ) → k < i → is_gap (get_or bs k 0) ≡ false) → is_gap (get_or bs i 0) ≡ true
    → i ≡ position_or_len is_gap bs
gap_found bs i inside before here =
    sym (position_or_len_is is_gap bs i 0 (omega arith) before (λ h. here))

pub gap_absent : (bs : List ℕ) (i : ℕ) → i ≡ length bs
    → ((k : ℕ) → k < i → is_gap (get_or bs k 0) ≡ false) → length bs ≡ position_or_len is_gap bs
gap_absent bs i end before =
    sym end
    ∙ sym (position_or_len_is is_gap bs i 0 (omega arith) before (λ h. absurd (omega arith)))
