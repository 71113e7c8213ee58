-- Words that are found one behind another.
use Rattle.std.proofs.Common.{◌≡◌, ℕ, ◌+◌, ◌<◌, ◌≤◌, List, [], ◌∷◌, ◌++◌, length, drop, append_assoc, sym, ap, ◌∙◌, arith, Bor}
use Rattle.std.proofs.lemmas.List.{append-nil, at_drop_more, drop_all, length-map, map-append}
use Rattle.session_script.specs.Requests.{word_at}
use Rattle.command_line.specs.Words.{borrowed_words}

next_word : (words : List (List ℕ)) (i : ℕ) → i < length words
    → drop i words ≡ word_at words i ∷ drop (i + 1) words
next_word words i lt = at_drop_more (λ l. l) words i [] lt

-- one word more is found
pub found_more : (found more : List (Bor (List ℕ))) (w : Bor (List ℕ)) (words : List (Bor (List ℕ)))
    (i index : ℕ) → more ≡ found ++ w ∷ [] → w.now ≡ word_at (borrowed_words words) i
    → i < length words
    → borrowed_words found ++ drop i (borrowed_words words) ≡ drop index (borrowed_words words)
    → borrowed_words more ++ drop (i + 1) (borrowed_words words) ≡ drop index (borrowed_words words)
found_more found more w words i index e is lt h =
    let ws = borrowed_words words in
    let long : i < length ws = omega (arith, lt, length-map words (λ (b : Bor (List ℕ)). b.now)) in
    let next : w.now ∷ drop (i + 1) ws ≡ drop i ws = ap (λ (l : List ℕ). l ∷ drop (i + 1) ws) is ∙ sym (next_word ws i long) in
    ap (λ (l : List (Bor (List ℕ))). borrowed_words l ++ drop (i + 1) ws) e
    ∙ ap (λ (l : List (List ℕ)). l ++ drop (i + 1) ws) (map-append (λ (b : Bor (List ℕ)). b.now) found (w ∷ []))
    ∙ append_assoc (borrowed_words found) (w.now ∷ []) (drop (i + 1) ws)
    ∙ ap (λ (l : List (List ℕ)). borrowed_words found ++ l) next ∙ h

-- all words are found
pub found_all : (found : List (Bor (List ℕ))) (words : List (Bor (List ℕ))) (i : ℕ)
    → length words ≤ i
    → borrowed_words found ++ drop i (borrowed_words words) ≡ borrowed_words found
found_all found words i past =
    let long : length (borrowed_words words) ≤ i = omega (arith, past, length-map words (λ (b : Bor (List ℕ)). b.now)) in
    ap (λ (l : List (List ℕ)). borrowed_words found ++ l) (drop_all i (borrowed_words words) long)
    ∙ append-nil (borrowed_words found)
