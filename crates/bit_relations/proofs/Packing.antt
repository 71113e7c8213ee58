-- Packed relations come back.
use Rattle.std.proofs.Common.{ℕ, ◌≡◌, ◌<◌, ◌≤◌, ◌+◌, ◌-◌, ◌*◌, ◌/◌, ◌%◌, ◌^◌, ◌↔◌, zero, suc, min, List, [], ◌∷◌, ◌++◌, length, take, drop, map, replicate, get_or, inl, inr, arith, refl, ap, sym, subst, ◌∙◌}
use Rattle.std.specs.Prelude.{flat_map, All}
use Rattle.std.proofs.lemmas.Bool.{cases_lt, lt-ltb, le-ltb}
use Rattle.std.proofs.lemmas.List.{ext_get_or, get_or-take, get_or_append_left, length-append, length-take, length-replicate, get_or-append_right}
use Rattle.std.proofs.lemmas.List.Concat.{get_or-flat_map}
use Rattle.std.proofs.lemmas.List.Elements.{All-append, All-cons}
use Rattle.std.proofs.lemmas.Grind.{flat_map-append}
use Rattle.std.proofs.lemmas.List.{map-append, append_assoc, append-nil, get_or-map, length-map}
use Rattle.std.proofs.lemmas.List.Folds.{length-flat_map-take}
use Rattle.std.proofs.Math.Seq.{take-append_seam, drop-append_seam}
use Rattle.bit_relations.specs.Packing.{high_rows, packed, starts_from, ArePacked, padded, relation_of, unpacked}
use Rattle.bit_rows.specs.Relation.{Bit, Has, Relation, IsRegular, IsRelation, AreRelColumns, no_slot, wide_word, wide, low_words, high_words}
use Rattle.bit_rows.specs.Rows.{StoredPairs, AreStored}
use Rattle.bit_rows.proofs.Bits.{Bit-zero, same_word, word_fits}
use Rattle.bit_relations.proofs.Laws.{same_relation}
use Rattle.bit_rows.proofs.Wide.{Bit-low, Bit-high}
use Rattle.bit_rows.proofs.Writing.{zeros}

pub high_rows-none : (n : ℕ) → n ≤ 64 → high_rows n ≡ 0
high_rows-none n le = rw (le-ltb 64 n le) refl

pub high_rows-all : (n : ℕ) → 64 < n → high_rows n ≡ n
high_rows-all n lt = rw (lt-ltb 64 n lt) refl

pub high_rows-le : (n : ℕ) → high_rows n ≤ n
high_rows-le n =
    elim (cases_lt 64 n) [
      | inl lt ↦ let e : high_rows n ≡ n = high_rows-all n lt in omega arith
      | inr ge ↦ let e : high_rows n ≡ 0 = high_rows-none n ge in omega arith
    ]

-- words and rows
length-low : (ws : List ℕ) → length (low_words ws) ≡ length ws
length-low [] = refl
length-low (w ∷ ws) = let e : length (low_words ws) ≡ length ws = length-low ws in omega arith

length-high : (ws : List ℕ) → length (high_words ws) ≡ length ws
length-high [] = refl
length-high (w ∷ ws) = let e : length (high_words ws) ≡ length ws = length-high ws in omega arith

get_or-low : (ws : List ℕ) (a : ℕ) → get_or (low_words ws) a 0 ≡ get_or ws a 0 % 2 ^ 64
get_or-low [] a = refl
get_or-low (w ∷ ws) zero = refl
get_or-low (w ∷ ws) (suc a) = get_or-low ws a

get_or-high : (ws : List ℕ) (a : ℕ) → get_or (high_words ws) a 0 ≡ get_or ws a 0 / 2 ^ 64
get_or-high [] a = refl
get_or-high (w ∷ ws) zero = refl
get_or-high (w ∷ ws) (suc a) = get_or-high ws a

wide_again : (ws : List ℕ) → wide (low_words ws) (high_words ws) ≡ ws
wide_again [] = refl
wide_again (w ∷ ws) =
    let e : wide_word (w % 2 ^ 64) (w / 2 ^ 64) ≡ w = omega arith in
    ap (λ (x : ℕ). x ∷ wide (low_words ws) (high_words ws)) e
    ∙ ap (λ (xs : List ℕ). w ∷ xs) (wide_again ws)

pub length-packed : (r : Relation) → IsRegular r → length (packed r) ≡ r.count + high_rows r.count
unfolding packed
length-packed r g =
    let ll : length (low_words r.rows) ≡ length r.rows = length-low r.rows in
    let lh : length (high_words r.rows) ≡ length r.rows = length-high r.rows in
    let tl : length (take r.count (low_words r.rows)) ≡ min r.count (length (low_words r.rows)) = length-take r.count (low_words r.rows) in
    let th : length (take (high_rows r.count) (high_words r.rows)) ≡ min (high_rows r.count) (length (high_words r.rows)) = length-take (high_rows r.count) (high_words r.rows) in
    let le : high_rows r.count ≤ r.count = high_rows-le r.count in
    let both : length (take r.count (low_words r.rows) ++ take (high_rows r.count) (high_words r.rows)) ≡ length (take r.count (low_words r.rows)) + length (take (high_rows r.count) (high_words r.rows)) = length-append (take r.count (low_words r.rows)) (take (high_rows r.count) (high_words r.rows)) in
    omega (arith, g.few, g.height)

-- a part of a list
prefix : (xs ys : List ℕ) (n : ℕ) → length xs ≡ n → take n (xs ++ ys) ≡ xs
prefix xs ys n e = rw (← e) (take-append_seam xs ys)

back : (xs ys : List ℕ) (n : ℕ) → length xs ≡ n → drop n (xs ++ ys) ≡ ys
back xs ys n e = rw (← e) (drop-append_seam xs ys)

length-part : (n : ℕ) (xs : List ℕ) → n ≤ length xs → length (take n xs) ≡ n
length-part n xs le =
    let e : length (take n xs) ≡ min n (length xs) = length-take n xs in omega arith

padded_again : (xs : List ℕ) (n : ℕ) → length xs ≡ 128 → n ≤ 128
    → ((i : ℕ) → n ≤ i → get_or xs i 0 ≡ 0) → padded (take n xs) ≡ xs
padded_again xs n height le none = ext_get_or 0 (padded (take n xs)) xs total each
  where
    part : length (take n xs) ≡ n
    part = length-part n xs (rw height le)

    filling : length (replicate {A = ℕ} (128 - length (take n xs)) 0) ≡ 128 - length (take n xs)
    filling = length-replicate {A = ℕ} (128 - length (take n xs)) 0

    total : length (padded (take n xs)) ≡ length xs
    total =
        let e : length (padded (take n xs))
        ≡ length (take n xs) + length (replicate {A = ℕ} (128 - length (take n xs)) 0) =
        length-append (take n xs) (replicate (128 - length (take n xs)) 0) in
        omega (arith, part, filling, height)

    each : (i : ℕ) → i < length (padded (take n xs))
        → get_or (padded (take n xs)) i 0 ≡ get_or xs i 0
    each i lt = elim (cases_lt i n) [
      | inl less ↦ get_or_append_left (take n xs) (replicate (128 - length (take n xs)) 0) 0 i
          (rw part less) ∙ get_or-take n xs i 0 less
      | inr more ↦ get_or-append_right (take n xs) (replicate (128 - length (take n xs)) 0) n i 0
          part more ∙ zeros (128 - length (take n xs)) (i - n) ∙ sym (none i more)
    ]

-- rows past the count are empty
row_past : (r : Relation) → IsRegular r → (a : ℕ) → r.count ≤ a → get_or r.rows a 0 ≡ 0
row_past r g a le = same_word (get_or r.rows a 0) 0 (λ b. (
  (λ h. absurd (apart (g.within a b h).0 le)),
  (λ h. absurd (Bit-zero b h)),
))
  where
    apart : {x y : ℕ} → x < y → y ≤ x → ⊥
    apart p q = omega arith

low_past : (r : Relation) → IsRegular r → (a : ℕ) → r.count ≤ a → get_or (low_words r.rows) a 0 ≡ 0
low_past r g a le = get_or-low r.rows a ∙ ap (λ (w : ℕ). w % 2 ^ 64) (row_past r g a le)

high_past : (r : Relation) → IsRegular r → (a : ℕ) → high_rows r.count ≤ a
    → get_or (high_words r.rows) a 0 ≡ 0
high_past r g a le =
    elim (cases_lt 64 r.count) [
      | inl over ↦
          let e : high_rows r.count ≡ r.count = high_rows-all r.count over in
          get_or-high r.rows a ∙ ap (λ (w : ℕ). w / 2 ^ 64) (row_past r g a (rw e at le))
      | inr under ↦ get_or-high r.rows a
          ∙ small (get_or r.rows a 0) (word_fits (get_or r.rows a 0)
          (λ b h. narrow (g.within a b h).1 under))
    ]
  where
    small : (w : ℕ) → w < 2 ^ 64 → w / 2 ^ 64 ≡ 0
    small w lt = omega arith

    narrow : {x y : ℕ} → x < y → y ≤ 64 → x < 64
    narrow p q = omega arith

abbrev of_words : ℕ → List ℕ → List ℕ → Relation
of_words n ls hs = record { count = n; rows = wide ls hs }

-- what is packed is unpacked again
pub relation_again : (r : Relation) (rest : List ℕ) → IsRegular r
    → relation_of r.count (packed r ++ rest) ≡ r
unfolding packed relation_of
relation_again r rest g =
    ap (λ (ls : List ℕ). of_words r.count ls (padded (take (high_rows r.count) (drop r.count ws))))
    low
    ∙ ap (λ (hs : List ℕ). of_words r.count (low_words r.rows) hs) high
    ∙ ap (λ (rows : List ℕ). of_rows r.count rows) (wide_again r.rows)
  where
    of_rows : ℕ → List ℕ → Relation
    of_rows n rows = record { count = n; rows = rows }

    ls : List ℕ
    ls = take r.count (low_words r.rows)

    hs : List ℕ
    hs = take (high_rows r.count) (high_words r.rows)

    ws : List ℕ
    ws = (ls ++ hs) ++ rest

    height_low : length (low_words r.rows) ≡ 128
    height_low = length-low r.rows ∙ g.height

    height_high : length (high_words r.rows) ≡ 128
    height_high = length-high r.rows ∙ g.height

    few : high_rows r.count ≤ 128
    few = let le : high_rows r.count ≤ r.count = high_rows-le r.count in omega (arith, g.few)

    apart : ws ≡ ls ++ (hs ++ rest)
    apart = append_assoc ls hs rest

    low : padded (take r.count ws) ≡ low_words r.rows
    low =
        ap (λ (xs : List ℕ). padded (take r.count xs)) apart
        ∙ ap (λ (xs : List ℕ). padded xs) (prefix ls (hs ++ rest) r.count
        (length-part r.count (low_words r.rows) (rw height_low g.few)))
        ∙ padded_again (low_words r.rows) r.count height_low g.few (low_past r g)

    high : padded (take (high_rows r.count) (drop r.count ws)) ≡ high_words r.rows
    high =
        ap (λ (xs : List ℕ). padded (take (high_rows r.count) (drop r.count xs))) apart
        ∙ ap (λ (xs : List ℕ). padded (take (high_rows r.count) xs)) (back ls (hs ++ rest) r.count
        (length-part r.count (low_words r.rows) (rw height_low g.few)))
        ∙ ap (λ (xs : List ℕ). padded xs) (prefix hs rest (high_rows r.count)
        (length-part (high_rows r.count) (high_words r.rows) (rw height_high few)))
        ∙ padded_again (high_words r.rows) (high_rows r.count) height_high few (high_past r g)

pub unpacked_again : (rs : List Relation) → All IsRegular rs
    → unpacked (map (λ x. x.count) rs) (flat_map packed rs) ≡ rs
unpacked_again [] g = refl
unpacked_again (r ∷ rs) g =
    ap
    (λ (x : Relation). x
    ∷ unpacked (map (λ x. x.count) rs) (drop (r.count + high_rows r.count)
    (packed r ++ flat_map packed rs)))
    (relation_again r (flat_map packed rs) first)
    ∙ ap (λ (ws : List ℕ). r ∷ unpacked (map (λ x. x.count) rs) ws) (back (packed r)
    (flat_map packed rs) (r.count + high_rows r.count) (length-packed r first))
    ∙ ap (λ (xs : List Relation). r ∷ xs) (unpacked_again rs (λ k d lt. g (suc k) d (omega arith)))
  where
    first : IsRegular r
    first = g 0 r (omega arith)

-- the lists that keep relations are unpacked to them
pub told : {ns ss ws : List ℕ} {rs : List Relation} → ArePacked ns ss ws rs → unpacked ns ws ≡ rs
told {ns} {ss} {ws} {rs} p =
    ap (λ (xs : List ℕ). unpacked xs ws) p.counts
    ∙ ap (λ (xs : List ℕ). unpacked (map (λ x. x.count) rs) xs) p.words
    ∙ unpacked_again rs p.regular

-- and so they keep them
pub kept : {ns ss ws : List ℕ} {rs : List Relation} → ArePacked ns ss ws rs
    → ArePacked ns ss ws (unpacked ns ws)
kept {ns} {ss} {ws} p = subst (λ (xs : List Relation). ArePacked ns ss ws xs) (sym (told p)) p

starts-append : (at : ℕ) (rs : List Relation) (r : Relation)
    → starts_from at (rs ++ r ∷ []) ≡ starts_from at rs ++ (at + length (flat_map packed rs)) ∷ []
starts-append at [] r = let e : at ≡ at + 0 = omega arith in ap (λ (x : ℕ). x ∷ []) e
starts-append at (s ∷ rs) r =
    let more : length (packed s ++ flat_map packed rs) ≡ length (packed s) + length (flat_map packed rs) = length-append (packed s) (flat_map packed rs) in
    let e : (at + length (packed s)) + length (flat_map packed rs) ≡ at + length (packed s ++ flat_map packed rs) = omega arith in
    ap (λ (xs : List ℕ). at ∷ xs) (starts-append (at + length (packed s)) rs r
    ∙ ap (λ (x : ℕ). starts_from (at + length (packed s)) rs ++ x ∷ []) e)

-- one more at the end
pub one_more : {ns ss ws : List ℕ} {rs : List Relation} (r : Relation) → ArePacked ns ss ws rs
    → IsRegular r
    → ArePacked (ns ++ r.count ∷ []) (ss ++ length ws ∷ []) (ws ++ packed r) (rs ++ r ∷ [])
one_more {ns} {ss} {ws} {rs} r p g = record {
  counts =
      ap (λ (xs : List ℕ). xs ++ r.count ∷ []) p.counts
      ∙ sym (map-append (λ (x : Relation). x.count) rs (r ∷ []));
  starts =
      ap (λ (xs : List ℕ). xs ++ length ws ∷ []) p.starts
      ∙ ap (λ (xs : List ℕ). starts_from 0 rs ++ length xs ∷ []) p.words
      ∙ ap (λ (x : ℕ). starts_from 0 rs ++ x ∷ []) from_zero ∙ sym (starts-append 0 rs r);
  words =
      ap (λ (xs : List ℕ). xs ++ packed r) p.words
      ∙ ap (λ (xs : List ℕ). flat_map packed rs ++ xs) (sym (append-nil (packed r)))
      ∙ sym (flat_map-append packed rs (r ∷ []));
  regular =
      All-append IsRegular rs (r ∷ []) p.regular (All-cons IsRegular r [] g
      (λ k d lt. absurd (omega (arith, lt))));
}
  where
    from_zero : length (flat_map packed rs) ≡ 0 + length (flat_map packed rs)
    from_zero = omega arith

-- how many there are, and their counts
pub as_many : {ns ss ws : List ℕ} {rs : List Relation} → ArePacked ns ss ws rs
    → length rs ≡ length ns
as_many {rs = rs} p = sym (ap (λ (xs : List ℕ). length xs) p.counts ∙ length-map rs (λ x. x.count))

pub count_there : {ns ss ws : List ℕ} {rs : List Relation} (k : ℕ) (d : Relation)
    → ArePacked ns ss ws rs → k < length rs → get_or ns k 0 ≡ (get_or rs k d).count
count_there {rs = rs} k d p lt =
    ap (λ (xs : List ℕ). get_or xs k 0) p.counts
    ∙ get_or-map (λ (x : Relation). x.count) rs k d 0 lt

-- where the words of one of them begin
start_there : (at : ℕ) (rs : List Relation) (k : ℕ) → k < length rs
    → get_or (starts_from at rs) k 0 ≡ at + length (flat_map packed (take k rs))
start_there at [] k lt = absurd (omega (arith, lt))
start_there at (r ∷ rs) zero lt = omega arith
start_there at (r ∷ rs) (suc k) lt =
    let more : length (packed r ++ flat_map packed (take k rs)) ≡ length (packed r) + length (flat_map packed (take k rs)) = length-append (packed r) (flat_map packed (take k rs)) in
    let e : (at + length (packed r)) + length (flat_map packed (take k rs)) ≡ at + length (packed r ++ flat_map packed (take k rs)) = omega arith in
    start_there (at + length (packed r)) rs k (omega arith) ∙ e

start_is : {ns ss ws : List ℕ} {rs : List Relation} (k : ℕ) → ArePacked ns ss ws rs → k < length rs
    → get_or ss k 0 ≡ length (flat_map packed (take k rs))
start_is {rs = rs} k p lt =
    let e : 0 + length (flat_map packed (take k rs)) ≡ length (flat_map packed (take k rs)) = omega arith in
    ap (λ (xs : List ℕ). get_or xs k 0) p.starts ∙ start_there 0 rs k lt ∙ e

-- the words of one of them stand in the list
room_there : {ns ss ws : List ℕ} {rs : List Relation} (k : ℕ) (d : Relation) → ArePacked ns ss ws rs
    → k < length rs → get_or ss k 0 + (get_or ns k 0 + high_rows (get_or ns k 0)) ≤ length ws
room_there {ns} {ss} {ws} {rs} k d p lt =
    let e : get_or ss k 0 ≡ length (flat_map packed (take k rs)) = start_is k p lt in
    let c : get_or ns k 0 ≡ (get_or rs k d).count = count_there k d p lt in
    let s : length (packed (get_or rs k d)) ≡ (get_or rs k d).count + high_rows (get_or rs k d).count = length-packed (get_or rs k d) (p.regular k d lt) in
    let t : length (flat_map packed (take k rs)) + length (packed (get_or rs k d)) ≤ length (flat_map packed rs) = length-flat_map-take packed rs k d lt in
    let w : length ws ≡ length (flat_map packed rs) = ap (λ (xs : List ℕ). length xs) p.words in
    rw (e, c, w, ← s) t

pub low_room : {ns ss ws : List ℕ} {rs : List Relation} (k : ℕ) (d : Relation)
    → ArePacked ns ss ws rs → k < length rs → get_or ss k 0 + get_or ns k 0 ≤ length ws
low_room {ns} {ss} {ws} k d p lt =
    let r : get_or ss k 0 + (get_or ns k 0 + high_rows (get_or ns k 0)) ≤ length ws = room_there k d p lt in
    omega arith

pub high_room : {ns ss ws : List ℕ} {rs : List Relation} (k : ℕ) (d : Relation)
    → ArePacked ns ss ws rs → k < length rs → 64 < get_or ns k 0
    → get_or ss k 0 + get_or ns k 0 + get_or ns k 0 ≤ length ws
high_room {ns} {ss} {ws} k d p lt over =
    let r : get_or ss k 0 + (get_or ns k 0 + high_rows (get_or ns k 0)) ≤ length ws = room_there k d p lt in
    let h : high_rows (get_or ns k 0) ≡ get_or ns k 0 = high_rows-all (get_or ns k 0) over in
    omega arith

pub few_there : {ns ss ws : List ℕ} {rs : List Relation} (k : ℕ) (d : Relation)
    → ArePacked ns ss ws rs → k < length rs → get_or ns k 0 ≤ 128
few_there k d p lt = rw (count_there k d p lt) (p.regular k d lt).few

-- the words of a relation, one by one
packed_low : (r : Relation) → IsRegular r → (a : ℕ) → a < r.count
    → get_or (packed r) a 0 ≡ get_or r.rows a 0 % 2 ^ 64
unfolding packed
packed_low r g a lt =
    let height : length (low_words r.rows) ≡ 128 = length-low r.rows ∙ g.height in
    let part : length (take r.count (low_words r.rows)) ≡ r.count = length-part r.count (low_words r.rows) (rw height g.few) in
    get_or_append_left (take r.count (low_words r.rows))
    (take (high_rows r.count) (high_words r.rows)) 0 a (rw part lt)
    ∙ get_or-take r.count (low_words r.rows) a 0 lt
    ∙ get_or-low r.rows a

packed_high : (r : Relation) → IsRegular r → 64 < r.count → (a : ℕ) → a < r.count
    → get_or (packed r) (r.count + a) 0 ≡ get_or r.rows a 0 / 2 ^ 64
unfolding packed
packed_high r g over a lt =
    let height : length (low_words r.rows) ≡ 128 = length-low r.rows ∙ g.height in
    let part : length (take r.count (low_words r.rows)) ≡ r.count = length-part r.count (low_words r.rows) (rw height g.few) in
    let e : r.count + a - r.count ≡ a = omega arith in
    let h : high_rows r.count ≡ r.count = high_rows-all r.count over in
    get_or-append_right (take r.count (low_words r.rows))
    (take (high_rows r.count) (high_words r.rows)) r.count (r.count + a) 0 part (omega arith)
    ∙ ap (λ (x : ℕ). get_or (take (high_rows r.count) (high_words r.rows)) x 0) e
    ∙ get_or-take (high_rows r.count) (high_words r.rows) a 0 (rw h lt)
    ∙ get_or-high r.rows a

-- the bits of both words of a row
low_half : (w b : ℕ) → b < 64 → Bit (w % 2 ^ 64) b ↔ Bit w b
low_half w b lt =
    ((λ h. subst (λ (x : ℕ). Bit x b) e (t.1 h)), (λ h. t.0 (subst (λ (x : ℕ). Bit x b) (sym e) h)))
  where
    e : (w / 2 ^ 64) * 2 ^ 64 + w % 2 ^ 64 ≡ w
    e = omega arith

    t : Bit ((w / 2 ^ 64) * 2 ^ 64 + w % 2 ^ 64) b ↔ Bit (w % 2 ^ 64) b
    t = Bit-low (w / 2 ^ 64) (w % 2 ^ 64) b lt

high_half : (w k : ℕ) → Bit (w / 2 ^ 64) k ↔ Bit w (k + 64)
high_half w k = (
  (λ h. subst (λ (x : ℕ). Bit x (k + 64)) e (t.1 h)),
  (λ h. t.0 (subst (λ (x : ℕ). Bit x (k + 64)) (sym e) h)),
)
  where
    e : (w / 2 ^ 64) * 2 ^ 64 + w % 2 ^ 64 ≡ w
    e = omega arith

    fits : w % 2 ^ 64 < 2 ^ 64
    fits = omega arith

    less : k + 64 - 64 ≡ k
    less = omega arith

    t : Bit ((w / 2 ^ 64) * 2 ^ 64 + w % 2 ^ 64) (k + 64) ↔ Bit (w / 2 ^ 64) k
    t =
        subst (λ (x : ℕ). Bit ((w / 2 ^ 64) * 2 ^ 64 + w % 2 ^ 64) (k + 64) ↔ Bit (w / 2 ^ 64) x)
        less (Bit-high (w / 2 ^ 64) (w % 2 ^ 64) (k + 64) fits (omega arith))

-- the pairs that are stored are those of the relation
stored_here : (ws : List ℕ) (start : ℕ) (r : Relation) → IsRegular r
    → ((a : ℕ) → a < r.count → get_or ws (start + a) 0 ≡ get_or r.rows a 0 % 2 ^ 64)
    → (64 < r.count → (a : ℕ) → a < r.count
    → get_or ws (start + r.count + a) 0 ≡ get_or r.rows a 0 / 2 ^ 64) → (a b : ℕ)
    → StoredPairs ws start r.count a b ↔ Has r a b
stored_here ws start r g low high a b = (
  (λ h. elim h.2 [
    | inl t ↦ (low_half (get_or r.rows a 0) b t.0).0 (subst (λ (x : ℕ). Bit x b) (low a h.0) t.1)
    | inr t ↦ subst (λ (x : ℕ). Has r a x) (sym t.1) ((high_half (get_or r.rows a 0) t.0).0
        (subst (λ (x : ℕ). Bit x t.0) (high (over t.0 t.1 h.1) a h.0) t.2))
  ]),
  (λ h. let w = g.within a b h in elim (cases_lt b 64) [
    | inl lt ↦ (
      w.0,
      w.1,
      inl (
        lt,
        subst (λ (x : ℕ). Bit x b) (sym (low a w.0))
            ((low_half (get_or r.rows a 0) b lt).1 h),
      ),
    )
    | inr ge ↦ (
      w.0,
      w.1,
      inr (
        b - 64,
        more ge,
        subst (λ (x : ℕ). Bit x (b - 64))
            (sym (high (over (b - 64) (more ge) w.1) a w.0)) ((high_half
            (get_or r.rows a 0) (b - 64)).1
            (subst (λ (x : ℕ). Has r a x) (more ge) h)),
      ),
    )
  ]),
)
  where
    over : (k : ℕ) → b ≡ k + 64 → b < r.count → 64 < r.count
    over k e lt = omega arith

    more : 64 ≤ b → b ≡ b - 64 + 64
    more ge = omega arith

-- the words of one of them stand in the list
stored_there : {ns ss ws : List ℕ} {rs : List Relation} (k : ℕ) (d : Relation)
    → ArePacked ns ss ws rs → k < length rs → AreStored ws (get_or ss k 0) (get_or rs k d)
stored_there {ns} {ss} {ws} {rs} k d p lt = record { low = low; high = high }
  where
    r : Relation
    r = get_or rs k d

    g : IsRegular r
    g = p.regular k d lt

    size : length (packed r) ≡ r.count + high_rows r.count
    size = length-packed r g

    at : get_or ss k 0 ≡ length (flat_map packed (take k rs))
    at = start_is k p lt

    word : (j : ℕ) → j < length (packed r) → get_or ws (get_or ss k 0 + j) 0 ≡ get_or (packed r) j 0
    word j less =
        ap (λ (xs : List ℕ). get_or xs (get_or ss k 0 + j) 0) p.words
        ∙ ap (λ (x : ℕ). get_or (flat_map packed rs) (x + j) 0) at
        ∙ get_or-flat_map packed rs k j d 0 lt less

    low : (a : ℕ) → a < r.count → get_or ws (get_or ss k 0 + a) 0 ≡ get_or r.rows a 0 % 2 ^ 64
    low a less = word a (omega (arith, size, less)) ∙ packed_low r g a less

    high : 64 < r.count → (a : ℕ) → a < r.count
        → get_or ws (get_or ss k 0 + r.count + a) 0 ≡ get_or r.rows a 0 / 2 ^ 64
    high over a less =
        let h : high_rows r.count ≡ r.count = high_rows-all r.count over in
        let e : get_or ss k 0 + r.count + a ≡ get_or ss k 0 + (r.count + a) = omega arith in
        ap (λ (x : ℕ). get_or ws x 0) e ∙ word (r.count + a) (omega (arith, size, h, less))
        ∙ packed_high r g over a less

-- what is read is the relation that was kept
pub read_again : {ns ss ws : List ℕ} {rs : List Relation} (k : ℕ) (d v : Relation)
    → ArePacked ns ss ws rs → k < length rs
    → IsRelation v (get_or ns k 0) (StoredPairs ws (get_or ss k 0) (get_or ns k 0)) → v ≡ get_or rs k d
read_again {ns} {ss} {ws} {rs} k d v p lt read =
    same_relation v r read.regular g (read.count ∙ count) (λ a b. (
      (λ h. (here a b).0 (subst (λ (n : ℕ). StoredPairs ws (get_or ss k 0) n a b) count
          ((read.pairs a b).0 h))),
      (λ h. (read.pairs a b).1 (subst (λ (n : ℕ). StoredPairs ws (get_or ss k 0) n a b) (sym count)
          ((here a b).1 h))),
    ))
  where
    r : Relation
    r = get_or rs k d

    g : IsRegular r
    g = p.regular k d lt

    count : get_or ns k 0 ≡ r.count
    count = count_there k d p lt

    there : AreStored ws (get_or ss k 0) r
    there = stored_there k d p lt

    here : (a b : ℕ) → StoredPairs ws (get_or ss k 0) r.count a b ↔ Has r a b
    here = stored_here ws (get_or ss k 0) r g there.low there.high

-- relations on as many events whose words stand in one part of the list are the same
stored_once : (ws : List ℕ) (start : ℕ) (r s : Relation) → IsRegular r → IsRegular s
    → r.count ≡ s.count → AreStored ws start r → AreStored ws start s → r ≡ s
stored_once ws start r s g h count left right =
    same_relation r s g h count (λ a b. (
      (λ x. (stored_here ws start s h right.low right.high a b).0 (subst
          (λ (n : ℕ). StoredPairs ws start n a b) count
          ((stored_here ws start r g left.low left.high a b).1 x))),
      (λ x. (stored_here ws start r g left.low left.high a b).0 (subst
          (λ (n : ℕ). StoredPairs ws start n a b) (sym count)
          ((stored_here ws start s h right.low right.high a b).1 x))),
    ))

-- the columns of words of a relation, one by one
pub low_word : (low high : List ℕ) (a : ℕ) → low_words (wide low high) ≡ low
    → get_or low a 0 ≡ get_or (wide low high) a 0 % 2 ^ 64
low_word low high a kept =
    ap (λ (ws : List ℕ). get_or ws a 0) (sym kept) ∙ get_or-low (wide low high) a

pub high_word : (low high : List ℕ) (a : ℕ) → high_words (wide low high) ≡ high
    → get_or high a 0 ≡ get_or (wide low high) a 0 / 2 ^ 64
high_word low high a kept =
    ap (λ (ws : List ℕ). get_or ws a 0) (sym kept) ∙ get_or-high (wide low high) a

-- the words of a relation stand in a list where its columns of words do
pub are_stored : (n : ℕ) (low high list : List ℕ) (at end : ℕ) → AreRelColumns n low high
    → (64 < n → end ≡ n) → ((a : ℕ) → a < n → get_or list (at + a) 0 ≡ get_or low a 0)
    → ((a : ℕ) → a < end → get_or list (at + n + a) 0 ≡ get_or high a 0)
    → AreStored list at (of_words n low high)
are_stored n low high list at end c all first then = record {
  low = λ a lt. first a lt ∙ low_word low high a c.low_kept;
  high = λ over a lt. then a (rw (all over) lt) ∙ high_word low high a c.high_kept;
}

pub stored_low : (n : ℕ) (low high list : List ℕ) (at : ℕ) → AreRelColumns n low high
    → AreStored list at (of_words n low high) → (a : ℕ) → a < n
    → get_or list (at + a) 0 ≡ get_or low a 0
stored_low n low high list at c s a lt = s.low a lt ∙ sym (low_word low high a c.low_kept)

pub stored_high : (n : ℕ) (low high list : List ℕ) (at end : ℕ) → AreRelColumns n low high
    → (n ≤ 64 → end ≡ 0) → (64 < n → end ≡ n) → AreStored list at (of_words n low high) → (a : ℕ)
    → a < end → get_or list (at + n + a) 0 ≡ get_or high a 0
stored_high n low high list at end c none all s a lt = elim (cases_lt 64 n) [
  | inl over ↦ s.high over a (rw (← all over) lt) ∙ sym (high_word low high a c.high_kept)
  | inr under ↦ absurd (nothing (none under))
]
  where
    nothing : end ≡ 0 → ⊥
    nothing e = omega arith

-- the words that a `Rel` appends
pub appended : (n : ℕ) (low high : List ℕ) (end : ℕ) → AreRelColumns n low high → (n ≤ 64 → end ≡ 0)
    → (64 < n → end ≡ n) → take n low ++ take end high ≡ packed (of_words n low high)
unfolding packed
appended n low high end c none all = rw (c.low_kept, c.high_kept, same) refl
  where
    same : end ≡ high_rows n
    same = elim (cases_lt 64 n) [
      | inl over ↦ all over ∙ sym (high_rows-all n over)
      | inr under ↦ none under ∙ sym (high_rows-none n under)
    ]

pub put_behind : {xs xs' ys zs ls hs : List ℕ} (n : ℕ) (low high : List ℕ) (end : ℕ)
    → AreRelColumns n low high → (n ≤ 64 → end ≡ 0) → (64 < n → end ≡ n) → xs' ≡ xs → ls ≡ take n low
    → hs ≡ take end high → ys ≡ xs' ++ ls → zs ≡ ys ++ hs → zs ≡ xs ++ packed (of_words n low high)
put_behind {xs} {xs'} {ys} {zs} {ls} {hs} n low high end c none all same is_low is_high first then =
    then
    ∙ ap (λ (ws : List ℕ). ws ++ hs) first
    ∙ append_assoc xs' ls hs
    ∙ ap (λ (ws : List ℕ). ws ++ (ls ++ hs)) same
    ∙ ap (λ (ws : List ℕ). xs ++ (ws ++ hs)) is_low
    ∙ ap (λ (ws : List ℕ). xs ++ (take n low ++ ws)) is_high
    ∙ ap (λ (ws : List ℕ). xs ++ ws) (appended n low high end c none all)

-- one of them is a relation where the words of that stand in its part of the list
pub same_there : {ns ss ws : List ℕ} {rs : List Relation} (k : ℕ) (r : Relation)
    → ArePacked ns ss ws rs → k < length rs → get_or ns k 0 ≡ r.count → IsRegular r
    → AreStored ws (get_or ss k 0) r ↔ (get_or rs k no_slot ≡ r)
same_there {ns} {ss} {ws} {rs} k r p lt count g = (
  (λ h. stored_once ws (get_or ss k 0) (get_or rs k no_slot) r (p.regular k no_slot lt) g
      (sym (count_there k no_slot p lt) ∙ count) here h),
  (λ t. subst (λ (v : Relation). AreStored ws (get_or ss k 0) v) t here),
)
  where
    here : AreStored ws (get_or ss k 0) (get_or rs k no_slot)
    here = stored_there k no_slot p lt
