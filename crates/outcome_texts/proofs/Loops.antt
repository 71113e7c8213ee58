-- Loops over lists, one element after another.
use Rattle.std.proofs.Common.{◌≡◌, ℕ, suc, ◌+◌, ◌<◌, ◌≤◌, ◌==◌, List, [], ◌∷◌, ◌++◌, Bool, true, false, length, get_or, take, drop, map, drop-cons, add-one, append_assoc, refl, sym, ap, ◌∙◌, arith}
use Rattle.std.proofs.lemmas.Grind.{common_steps}
use Rattle.std.proofs.lemmas.List.{take_more, take_all, flat_map_more, map-append, length-append, length-drop}
use Rattle.std.proofs.lemmas.List.Elements.{filter-append}
use Rattle.std.specs.List.{flat_map, filter}
use Rattle.std.specs.Prelude.{cond}
use Rattle.outcome_texts.specs.Columns.{padded_field, line_from}

front_more : {X : Type 0} (xs : List X) (i : ℕ) (x : X) → i < length xs → x ≡ get_or xs i x
    → take i xs ++ x ∷ [] ≡ take (i + 1) xs
front_more xs i x inside is = sym (take_more xs i x inside ∙ ap (λ y. take i xs ++ y ∷ []) (sym is))

-- what is printed of an element more
pub printed_more : {X A : Type 0} (f : X → List A) (first before after : List A) (xs : List X)
    (i : ℕ) (x : X) → i < length xs → x ≡ get_or xs i x
    → before ≡ first ++ flat_map f (take i xs) → after ≡ before ++ f x
    → after ≡ first ++ flat_map f (take (i + 1) xs)
printed_more f first before after xs i x inside is so more =
    more ∙ ap (λ t. t ++ f x) so ∙ flat_map_more f first (take i xs) x
    ∙ ap (λ ys. first ++ flat_map f ys) (front_more xs i x inside is)

pub printed_all : {X A : Type 0} (f : X → List A) (first after : List A) (xs : List X) (i : ℕ)
    → length xs ≤ i → after ≡ first ++ flat_map f (take i xs) → after ≡ first ++ flat_map f xs
printed_all f first after xs i all so = so ∙ ap (λ ys. first ++ flat_map f ys) (take_all i xs all)

-- a list that begins with a head, and an element more
pub listed_more : {X : Type 0} (head : X) (before after xs : List X) (i : ℕ) (x : X) → i < length xs
    → x ≡ get_or xs i x → before ≡ head ∷ take i xs → after ≡ before ++ x ∷ []
    → after ≡ head ∷ take (i + 1) xs
listed_more head before after xs i x inside is so more =
    more ∙ ap (λ l. l ++ x ∷ []) so ∙ ap (λ l. head ∷ l) (front_more xs i x inside is)

mapped_last : {X Y Z : Type 0} (f : Y → Z) (g : X → Y) (xs : List X) (x : X)
    → map f (map g xs) ++ f (g x) ∷ [] ≡ map f (map g (xs ++ x ∷ []))
mapped_last f g xs x =
    sym (ap (λ l. map f l) (map-append g xs (x ∷ [])) ∙ map-append f (map g xs) (g x ∷ []))

pub mapped_more : {X Y Z : Type 0} (f : Y → Z) (g : X → Y) (head : Z) (before after : List Z)
    (xs : List X) (i : ℕ) (x : X) → i < length xs → x ≡ get_or xs i x
    → before ≡ head ∷ map f (map g (take i xs)) → after ≡ before ++ f (g x) ∷ []
    → after ≡ head ∷ map f (map g (take (i + 1) xs))
mapped_more f g head before after xs i x inside is so more =
    more ∙ ap (λ l. l ++ f (g x) ∷ []) so
    ∙ ap (λ l. head ∷ l) (mapped_last f g (take i xs) x
    ∙ ap (λ ys. map f (map g ys)) (front_more xs i x inside is))

mapped_front : {X Y : Type 0} (g : X → Y) (xs : List X) (i : ℕ) (x : X) → i < length xs
    → x ≡ get_or xs i x → map g (take i xs) ++ g x ∷ [] ≡ map g (take (i + 1) xs)
mapped_front g xs i x inside is =
    sym (map-append g (take i xs) (x ∷ [])) ∙ ap (λ ys. map g ys) (front_more xs i x inside is)

-- what is printed of what an element more stands for
pub printed_mapped : {X Y A : Type 0} (f : Y → List A) (g : X → Y) (first before after : List A)
    (xs : List X) (i : ℕ) (x : X) → i < length xs → x ≡ get_or xs i x
    → before ≡ first ++ flat_map f (map g (take i xs)) → after ≡ before ++ f (g x)
    → after ≡ first ++ flat_map f (map g (take (i + 1) xs))
printed_mapped f g first before after xs i x inside is so more =
    more ∙ ap (λ t. t ++ f (g x)) so ∙ flat_map_more f first (map g (take i xs)) (g x)
    ∙ ap (λ ys. first ++ flat_map f ys) (mapped_front g xs i x inside is)

one_counted : {Y : Type 0} (p : Y → Bool) (front : List Y) (y : Y) (b : Bool) (count : ℕ) → b ≡ p y
    → count ≡ length (filter p front)
    → cond b (count + 1) count ≡ length (filter p (front ++ y ∷ []))
one_counted p front y true count e so =
    let whole = ap length (filter-append p front (y ∷ [])) ∙ length-append (filter p front) (filter p (y ∷ [])) in
    let one : length (filter p (y ∷ [])) ≡ 1 = rw (← e) refl in omega (arith, so, whole, one)
one_counted p front y false count e so =
    let whole = ap length (filter-append p front (y ∷ [])) ∙ length-append (filter p front) (filter p (y ∷ [])) in
    let none : length (filter p (y ∷ [])) ≡ 0 = rw (← e) refl in omega (arith, so, whole, none)

-- how many pass a test, and an element more
pub counted_mapped : {X Y : Type 0} (p : Y → Bool) (g : X → Y) (count : ℕ) (xs : List X) (i : ℕ)
    (x : X) (b : Bool) → i < length xs → x ≡ get_or xs i x → b ≡ p (g x)
    → count ≡ length (filter p (map g (take i xs)))
    → cond b (count + 1) count ≡ length (filter p (map g (take (i + 1) xs)))
counted_mapped p g count xs i x b inside is passes so =
    one_counted p (map g (take i xs)) (g x) b count passes so
    ∙ ap (λ ys. length (filter p ys)) (mapped_front g xs i x inside is)

is_last_field : (line : List (List ℕ)) (i : ℕ) → i < length line
    → (i + 1 == length line) ≡ (length (drop (i + 1) line) == 0)
is_last_field line i inside = let rest = length-drop (i + 1) line in grind (arith, common_steps)

-- a field of a line more
pub field_printed : (width : ℕ → ℕ) (line : List (List ℕ)) (i : ℕ) (field : List ℕ) (is_last : Bool)
    (size : ℕ) (before after total : List ℕ) → i < length line → field ≡ get_or line i field
    → is_last ≡ (i + 1 == length line) → size ≡ width i
    → after ≡ before ++ padded_field is_last size field
    → before ++ line_from width i (drop i line) ≡ total
    → after ++ line_from width (i + 1) (drop (i + 1) line) ≡ total
field_printed width line i field is_last size before after total inside is last sized more so =
    let rest = drop (i + 1) line in
    let text = padded_field (length rest == 0) (width i) field in
    let cut : drop i line ≡ field ∷ rest = drop-cons line i field inside ∙ ap (λ x. x ∷ drop (suc i) line) (sym is) ∙ ap (λ n. field ∷ drop n line) (sym (add-one i)) in
    let printed : padded_field is_last size field ≡ text = ap (λ b. padded_field b size field) (last ∙ is_last_field line i inside) ∙ ap (λ n. padded_field (length rest == 0) n field) sized in
    ap (λ t. t ++ line_from width (i + 1) rest) (more ∙ ap (λ t. before ++ t) printed)
    ∙ append_assoc before text (line_from width (i + 1) rest)
    ∙ ap (λ n. before ++ (text ++ line_from width n rest)) (add-one i)
    ∙ sym (ap (λ l. before ++ line_from width i l) cut) ∙ so
