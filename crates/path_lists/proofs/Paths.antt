-- The definitions of specs/Lists at what the code knows of a text.
use Rattle.std.proofs.Common.{◌≡◌, ◌≢◌, ◌<◌, ◌+◌, ◌-◌, ℕ, zero, suc, Bool, true, false, cond, ◌||◌, ◌==◌, List, [], ◌∷◌, ◌++◌, length, get_or, take, map, Bor, true≢false, refl, sym, ap, ◌∙◌, append_assoc, append-nil, arith}
use Rattle.std.specs.List.{list_any}
use Rattle.std.specs.Prelude.{slice_range}
use Rattle.std.specs.Str.{trim}
use Rattle.std.proofs.lemmas.List.{map-append, length-map}
use Rattle.std.proofs.lemmas.Bool.Decides.{nat_tests}
use Rattle.path_lists.specs.Lists.{ListedPath, folder, located, one_path, paths_of_word, paths_from}

-- ---- folders

either : (a b : Bool) → b ≡ true → (a || b) ≡ true
either true b e = refl
either false b e = e

neither : (a b : Bool) → a ≡ false → b ≡ false → (a || b) ≡ false
neither true b p q = p
neither false b p q = q

first_either : (a b : Bool) → a ≡ true → (a || b) ≡ true
first_either true b e = refl
first_either false b e = absurd (true≢false (sym e))

same_byte : (b k : ℕ) → b ≡ k → (b == k) ≡ true
same_byte b k e = grind (arith, nat_tests)

other_byte : (b k : ℕ) → b ≢ k → (b == k) ≡ false
other_byte b k h = grind (arith, nat_tests)

no_slash : (bs : List ℕ) → ((i : ℕ) → i < length bs → get_or bs i 0 ≢ 47)
    → list_any (λ c. c == 47) bs ≡ false
no_slash [] h = refl
no_slash (b ∷ bs) h =
    neither (b == 47) (list_any (λ c. c == 47) bs) (other_byte b 47 (h zero (omega arith)))
    (no_slash bs (λ i q. h (suc i) (omega arith)))

slash_at : (bs : List ℕ) (k : ℕ) → k < length bs → get_or bs k 0 ≡ 47
    → list_any (λ c. c == 47) bs ≡ true
slash_at [] k h e = absurd (omega arith)
slash_at (b ∷ bs) zero h e =
    first_either (b == 47) (list_any (λ c. c == 47) bs) (same_byte b 47 e)
slash_at (b ∷ bs) (suc k) h e =
    either (b == 47) (list_any (λ c. c == 47) bs) (slash_at bs k (omega arith) e)

pub folder_none : (bs : List ℕ) → ((i : ℕ) → i < length bs → get_or bs i 0 ≢ 47) → folder bs ≡ []
folder_none [] h = refl
folder_none (b ∷ bs) h =
    ap (λ (t : Bool). cond t (b ∷ folder bs) []) (no_slash (b ∷ bs) h)

pub folder_some : (bs : List ℕ) (k : ℕ) → k < length bs → get_or bs k 0 ≡ 47
    → ((i : ℕ) → k < i → i < length bs → get_or bs i 0 ≢ 47) → folder bs ≡ take (suc k) bs
folder_some [] k h e after = absurd (omega arith)
folder_some (b ∷ bs) zero h e after =
    ap (λ (t : Bool). cond t (b ∷ folder bs) []) (slash_at (b ∷ bs) zero h e)
    ∙ ap (λ (l : List ℕ). b ∷ l) (folder_none bs (λ i q. after (suc i) (omega arith) (omega arith)))
folder_some (b ∷ bs) (suc k) h e after =
    ap (λ (t : Bool). cond t (b ∷ folder bs) []) (slash_at (b ∷ bs) (suc k) h e)
    ∙ ap (λ (l : List ℕ). b ∷ l)
    (folder_some bs k (omega arith) e (λ i p q. after (suc i) (omega arith) (omega arith)))

-- what a range of the text up to an index is
pub front : (bs : List ℕ) (i : ℕ) → slice_range bs 0 (i + 1) ≡ take (suc i) bs
front bs i =
    let n : (i + 1) - 0 ≡ suc i = omega arith in
    ap (λ (k : ℕ). take k bs) n

-- ---- paths

pub located_whole : (list path : List ℕ) → get_or path 0 0 ≡ 47 → path ≡ located list path
located_whole list [] e = absurd (omega (arith, e))
located_whole list (b ∷ bs) e =
    ap (λ (t : Bool). cond t (b ∷ bs) (folder list ++ b ∷ bs)) (sym (same_byte b 47 e))

pub located_behind : (list path : List ℕ) → get_or path 0 0 ≢ 47
    → folder list ++ path ≡ located list path
located_behind list [] e = append-nil (folder list)
located_behind list (b ∷ bs) e =
    ap (λ (t : Bool). cond t (b ∷ bs) (folder list ++ b ∷ bs)) (sym (other_byte b 47 e))

-- ---- lines

pub empty_word : (list : List ℕ) (line : ℕ) (word : List ℕ) → length word ≡ 0
    → paths_of_word list line word ≡ []
empty_word list line [] e = refl
empty_word list line (b ∷ bs) e = absurd (omega (arith, e))

pub comment_word : (list : List ℕ) (line : ℕ) (word : List ℕ) → get_or word 0 0 ≡ 35
    → paths_of_word list line word ≡ []
comment_word list line [] e = refl
comment_word list line (b ∷ bs) e =
    ap (λ (t : Bool). cond t [] (cond (b == 64) (one_path line true (located list bs)) (one_path line false (located list (b ∷ bs)))))
    (same_byte b 35 e)

pub list_word : (list : List ℕ) (line : ℕ) (word path : List ℕ) → word ≡ 64 ∷ path
    → paths_of_word list line word ≡ one_path line true (located list path)
list_word list line word path e = ap (λ (l : List ℕ). paths_of_word list line l) e

pub path_word : (list : List ℕ) (line : ℕ) (word : List ℕ) → length word ≢ 0
    → get_or word 0 0 ≢ 35 → ((rest : List ℕ) → word ≢ 64 ∷ rest)
    → paths_of_word list line word ≡ one_path line false (located list word)
path_word list line [] some p q = absurd (some refl)
path_word list line (b ∷ bs) some p q =
    ap (λ (t : Bool). cond t [] (cond (b == 64) (one_path line true (located list bs)) (one_path line false (located list (b ∷ bs)))))
    (other_byte b 35 p)
    ∙ ap (λ (t : Bool). cond t (one_path line true (located list bs)) (one_path line false (located list (b ∷ bs))))
    (other_byte b 64 (λ e. q bs (ap (λ (x : ℕ). x ∷ bs) e)))

pub none_added : (ps more : List ListedPath) → more ≡ [] → ps ≡ ps ++ more
none_added ps more e = sym (ap (λ (l : List ListedPath). ps ++ l) e ∙ append-nil ps)

-- one line more
pub paths_more : (list : List ℕ) (line n : ℕ) (texts : List (List ℕ)) (text : List ℕ)
    → n ≡ line + length texts
    → paths_from list line (texts ++ text ∷ [])
    ≡ paths_from list line texts ++ paths_of_word list n (trim text)
paths_more list line n [] text e =
    let same : line ≡ n = omega (arith, e) in
    append-nil (paths_of_word list line (trim text))
    ∙ ap (λ (k : ℕ). paths_of_word list k (trim text)) same
paths_more list line n (t ∷ ts) text e =
    let rest : n ≡ (line + 1) + length ts = omega (arith, e) in
    ap (λ (l : List ListedPath). paths_of_word list line (trim t) ++ l)
    (paths_more list (line + 1) n ts text rest)
    ∙ sym (append_assoc (paths_of_word list line (trim t)) (paths_from list (line + 1) ts)
    (paths_of_word list n (trim text)))

-- one turn of the loop over lines
pub turned : (list : List ℕ) (line : ℕ) (before : List (Bor (List ℕ))) (text : Bor (List ℕ))
    (word : List ℕ) (old new : List ListedPath) → new ≡ old ++ paths_of_word list line word
    → old ≡ paths_from list 1 (map (λ t. t.now) before) → word ≡ trim text.now
    → line ≡ length before + 1
    → new ≡ paths_from list 1 (map (λ t. t.now) (before ++ text ∷ []))
turned list line before text word old new p q r e =
    let n : line ≡ 1 + length (map (λ (t : Bor (List ℕ)). t.now) before) = omega (arith, e, length-map before (λ (t : Bor (List ℕ)). t.now)) in
    p ∙ ap (λ (l : List ListedPath). l ++ paths_of_word list line word) q
    ∙ ap (λ (w : List ℕ). paths_from list 1 (map (λ (t : Bor (List ℕ)). t.now) before) ++ paths_of_word list line w) r
    ∙ sym (paths_more list 1 line (map (λ (t : Bor (List ℕ)). t.now) before) text.now n)
    ∙ ap (λ (l : List (List ℕ)). paths_from list 1 l)
    (sym (map-append (λ (t : Bor (List ℕ)). t.now) before (text ∷ [])))
