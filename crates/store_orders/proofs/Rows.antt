-- Rows that are kept, orders that are followed by rows, and how many rows there are.
use Rattle.std.proofs.Common.{ℕ, zero, suc, ◌≡◌, ◌<◌, ◌≤◌, ◌+◌, ◌-◌, ◌*◌, ◌/◌, ◌^◌, Bool, true, false, cond, List, [], ◌∷◌, ◌++◌, take, drop, length, get_or, min, refl, sym, ap, subst, ◌∙◌, arith}
use Rattle.std.specs.List.{concat, flat_map}
use Rattle.std.proofs.lemmas.Grind.{flat_map-append}
use Rattle.std.proofs.lemmas.List.{append_assoc, append-nil, length-append, length-map, length-take, length-drop, take_more, map-append}
use Rattle.std.proofs.lemmas.List.Folds.{concat-append}
use Rattle.std.proofs.Math.Nat.{zero-mul, suc-mul, le-mul_of_pos_right, mul-div_cancel, mul_comm}
use Rattle.store_orders.specs.Lists.{rows_in, each_behind}
use Rattle.store_orders.specs.OrderPrefixes.{rows_from, orders_from}
use Rattle.store_orders.specs.Orders.{orders_of, stores_of}
use Rattle.store_orders.specs.Rows.{rows_of, rows_kept}
use Rattle.store_orders.specs.declared.combination.Event.{Event}
use Rattle.store_orders.proofs.Flat.{HaveWidth, rows_joined, joined_long, both_wide, rows_wide, few_stores}
use Rattle.store_orders.proofs.OrderPrefixLaws.{location_orders, one_each}

-- ---- widths

pub rows_in_wide : (n count : ℕ) (xs : List ℕ) → length xs ≡ count * n
    → HaveWidth n (rows_in n count xs)
rows_in_wide n zero xs long = tt
rows_in_wide n (suc count) xs long =
    let more : suc count * n ≡ count * n + n = suc-mul count n in
    let begin : length (take n xs) ≡ min n (length xs) = length-take n xs in
    let rest : length (drop n xs) ≡ length xs - n = length-drop n xs in (
      omega (arith, begin, long, more),
      rows_in_wide n count (drop n xs) (omega (arith, rest, long, more)),
    )

kept_wide : (n : ℕ) (rows : List (List ℕ)) (answers : List Bool) → HaveWidth n rows
    → HaveWidth n (rows_kept rows answers)
kept_wide n [] answers h = tt
kept_wide n (r ∷ rs) [] h = tt
kept_wide n (r ∷ rs) (true ∷ bs) h = (h.0, kept_wide n rs bs h.1)
kept_wide n (r ∷ rs) (false ∷ bs) h = kept_wide n rs bs h.1

-- ---- rows that are kept

-- those of the first rows
abbrev pub first_kept : ℕ → List (List ℕ) → List Bool → List (List ℕ)
first_kept k rows answers = rows_kept (take k rows) (take k answers)

one_more : (k : ℕ) (rows : List (List ℕ)) (answers : List Bool) → k < length rows
    → k < length answers → (d : List ℕ) (e : Bool)
    → first_kept (suc k) rows answers
    ≡ first_kept k rows answers ++ cond (get_or answers k e) (get_or rows k d ∷ []) []
one_more k [] answers lt inside d e = absurd (omega (arith, lt))
one_more k (r ∷ rs) [] lt inside d e = absurd (omega (arith, inside))
one_more zero (r ∷ rs) (true ∷ bs) lt inside d e = refl
one_more zero (r ∷ rs) (false ∷ bs) lt inside d e = refl
one_more (suc k) (r ∷ rs) (true ∷ bs) lt inside d e =
    ap (λ (l : List (List ℕ)). r ∷ l) (one_more k rs bs (omega (arith, lt)) (omega (arith, inside)) d e)
one_more (suc k) (r ∷ rs) (false ∷ bs) lt inside d e =
    one_more k rs bs (omega (arith, lt)) (omega (arith, inside)) d e

next : (k : ℕ) (rows : List (List ℕ)) (answers : List Bool) → k < length rows → k < length answers
    → (d : List ℕ) (e b : Bool) → get_or answers k e ≡ b
    → first_kept (k + 1) rows answers
    ≡ first_kept k rows answers ++ cond b (get_or rows k d ∷ []) []
next k rows answers lt inside d e b is =
    ap (λ (m : ℕ). first_kept m rows answers) (let s : k + 1 ≡ suc k = omega arith in s)
    ∙ one_more k rows answers lt inside d e
    ∙ ap (λ (x : Bool). first_kept k rows answers ++ cond x (get_or rows k d ∷ []) []) is

pub row_stays : (k : ℕ) (rows : List (List ℕ)) (answers : List Bool) (stores row after : List ℕ)
    (count : ℕ) (e : Bool) → k < length rows → k < length answers → get_or answers k e ≡ true
    → row ≡ get_or rows k [] → stores ≡ concat (first_kept k rows answers)
    → count ≡ length (first_kept k rows answers) → after ≡ stores ++ row
    → (after ≡ concat (first_kept (k + 1) rows answers))
    × (count + 1 ≡ length (first_kept (k + 1) rows answers))
row_stays k rows answers stores row after count e lt inside is here have many grown =
    let old : List (List ℕ) = first_kept k rows answers in
    let more : first_kept (k + 1) rows answers ≡ old ++ row ∷ [] =
    next k rows answers lt inside [] e true is ∙ ap (λ (x : List ℕ). old ++ x ∷ []) (sym here) in (
      grown
          ∙ ap (λ (l : List ℕ). l ++ row) have
          ∙ ap (λ (l : List ℕ). concat old ++ l) (sym (append-nil row))
          ∙ sym (concat-append old (row ∷ []))
          ∙ ap (λ (l : List (List ℕ)). concat l) (sym more),
      let long : length (old ++ row ∷ []) ≡ length old + 1 = length-append old (row ∷ []) in
          let same : length (first_kept (k + 1) rows answers) ≡ length (old ++ row ∷ []) = ap (λ (l : List (List ℕ)). length l) more in
          omega (arith, long, same, many),
    )

pub row_goes : (k : ℕ) (rows : List (List ℕ)) (answers : List Bool) (stores : List ℕ) (count : ℕ)
    (e : Bool) → k < length rows → k < length answers → get_or answers k e ≡ false
    → stores ≡ concat (first_kept k rows answers)
    → count ≡ length (first_kept k rows answers)
    → (stores ≡ concat (first_kept (k + 1) rows answers))
    × (count ≡ length (first_kept (k + 1) rows answers))
row_goes k rows answers stores count e lt inside is have many =
    let old : List (List ℕ) = first_kept k rows answers in
    let same : first_kept (k + 1) rows answers ≡ old = next k rows answers lt inside [] e false is ∙ append-nil old in (
      have ∙ ap (λ (l : List (List ℕ)). concat l) (sym same),
      many ∙ ap (λ (l : List (List ℕ)). length l) (sym same),
    )

enough : (rows : List (List ℕ)) (answers : List Bool) → length rows ≤ length answers
    → first_kept (length rows) rows answers ≡ rows_kept rows answers
enough [] answers le = refl
enough (r ∷ rs) [] le = absurd (omega (arith, le))
enough (r ∷ rs) (true ∷ bs) le = ap (λ (l : List (List ℕ)). r ∷ l) (enough rs bs (omega (arith, le)))
enough (r ∷ rs) (false ∷ bs) le = enough rs bs (omega (arith, le))

-- the rows of a list of stores, of which those were kept
pub kept_found : (width count : ℕ) (stores : List ℕ) (rows : List (List ℕ)) (answers : List Bool)
    (found : List ℕ) (many k : ℕ) → rows_in width count stores ≡ rows
    → length stores ≡ count * width → length rows ≤ length answers → k ≡ length rows
    → found ≡ concat (first_kept k rows answers) → many ≡ length (first_kept k rows answers)
    → (length found ≡ many * width) × (rows_in width many found ≡ rows_kept rows answers)
kept_found width count stores rows answers found many k are long le all have counted =
    let wide : HaveWidth width rows = subst (λ (l : List (List ℕ)). HaveWidth width l) are (rows_in_wide width count stores long) in
    let kept : List (List ℕ) = rows_kept rows answers in
    let whole : first_kept k rows answers ≡ kept = ap (λ (m : ℕ). first_kept m rows answers) all ∙ enough rows answers le in
    let total : length (concat kept) ≡ length kept * width = joined_long width kept (kept_wide width rows answers wide) in
    let is : found ≡ concat kept = have ∙ ap (λ (l : List (List ℕ)). concat l) whole in
    let n : many ≡ length kept = counted ∙ ap (λ (l : List (List ℕ)). length l) whole in (
      ap (λ (l : List ℕ). length l) is ∙ total ∙ ap (λ (m : ℕ). m * width) (sym n),
      ap (λ (m : ℕ). rows_in width m found) n
          ∙ ap (λ (l : List ℕ). rows_in width (length kept) l) is
          ∙ rows_joined width kept (kept_wide width rows answers wide),
    )

-- ---- orders that are followed by rows

pub one_behind : (rows : List (List ℕ)) (front order before stores first after : List ℕ) (k : ℕ)
    (d : List ℕ) → k < length rows → order ≡ get_or rows k d
    → stores ≡ before ++ concat (each_behind (take k rows) front) → first ≡ stores ++ front
    → after ≡ first ++ order
    → after ≡ before ++ concat (each_behind (take (k + 1) rows) front)
one_behind rows front order before stores first after k d lt is have one two =
    let old : List (List ℕ) = each_behind (take k rows) front in
    let more : each_behind (take (k + 1) rows) front ≡ old ++ (front ++ order) ∷ [] =
    ap (λ (l : List (List ℕ)). each_behind l front) (take_more rows k d lt)
    ∙ map-append (λ (o : List ℕ). front ++ o) (take k rows) (get_or rows k d ∷ [])
    ∙ ap (λ (o : List ℕ). old ++ (front ++ o) ∷ []) (sym is) in
    two
    ∙ ap (λ (l : List ℕ). l ++ order) (one ∙ ap (λ (l : List ℕ). l ++ front) have)
    ∙ append_assoc (before ++ concat old) front order
    ∙ append_assoc before (concat old) (front ++ order)
    ∙ ap (λ (l : List ℕ). before ++ (concat old ++ l)) (sym (append-nil (front ++ order)))
    ∙ ap (λ (l : List ℕ). before ++ l) (sym (concat-append old ((front ++ order) ∷ [])))
    ∙ ap (λ (l : List (List ℕ)). before ++ concat l) (sym more)

pub one_followed : (rows orders : List (List ℕ)) (order stores after : List ℕ) (k : ℕ) (d : List ℕ)
    → k < length orders → order ≡ get_or orders k d
    → stores ≡ concat (flat_map (each_behind rows) (take k orders))
    → after ≡ stores ++ concat (each_behind rows order)
    → after ≡ concat (flat_map (each_behind rows) (take (k + 1) orders))
one_followed rows orders order stores after k d lt is have grown =
    let old : List (List ℕ) = flat_map (each_behind rows) (take k orders) in
    let more : flat_map (each_behind rows) (take (k + 1) orders) ≡ old ++ each_behind rows order =
    ap (λ (l : List (List ℕ)). flat_map (each_behind rows) l) (take_more orders k d lt)
    ∙ flat_map-append (each_behind rows) (take k orders) (get_or orders k d ∷ [])
    ∙ ap (λ (l : List (List ℕ)). old ++ l) (append-nil (each_behind rows (get_or orders k d)))
    ∙ ap (λ (o : List ℕ). old ++ each_behind rows o) (sym is) in
    grown
    ∙ ap (λ (l : List ℕ). l ++ concat (each_behind rows order)) have
    ∙ sym (concat-append old (each_behind rows order))
    ∙ ap (λ (l : List (List ℕ)). concat l) (sym more)

behind_wide : (m n : ℕ) (order : List ℕ) (rows : List (List ℕ)) → length order ≡ m
    → HaveWidth n rows → HaveWidth (m + n) (each_behind rows order)
behind_wide m n order [] e h = tt
behind_wide m n order (r ∷ rs) e h = (
  let long : length (order ++ r) ≡ length order + length r = length-append order r in
      omega (arith, long, e, h.0),
  behind_wide m n order rs e h.1,
)

followed_wide : (m n : ℕ) (orders rows : List (List ℕ)) → HaveWidth m orders → HaveWidth n rows
    → HaveWidth (m + n) (flat_map (each_behind rows) orders)
followed_wide m n [] rows h g = tt
followed_wide m n (o ∷ os) rows h g =
    both_wide (m + n) (each_behind rows o) (flat_map (each_behind rows) os)
    (behind_wide m n o rows h.0 g) (followed_wide m n os rows h.1 g)

followed_long : (orders rows : List (List ℕ))
    → length (flat_map (each_behind rows) orders) ≡ length orders * length rows
followed_long [] rows = sym (zero-mul (length rows))
followed_long (o ∷ os) rows =
    let both : length (each_behind rows o ++ flat_map (each_behind rows) os) ≡ length (each_behind rows o) + length (flat_map (each_behind rows) os) = length-append (each_behind rows o) (flat_map (each_behind rows) os) in
    let here : length (each_behind rows o) ≡ length rows = length-map rows (λ (r : List ℕ). o ++ r) in
    let rest : length (flat_map (each_behind rows) os) ≡ length os * length rows = followed_long os rows in
    let more : suc (length os) * length rows ≡ length os * length rows + length rows = suc-mul (length os) (length rows) in
    omega (arith, both, here, rest, more)

-- where the widths and the numbers are exact
found_exact : (m n : ℕ) (orders rows : List (List ℕ)) (found : List ℕ) (width count : ℕ)
    → HaveWidth m orders → HaveWidth n rows
    → found ≡ concat (flat_map (each_behind rows) orders)
    → count ≡ length orders * length rows
    → (0 < count → width ≡ m + n)
    → (length found ≡ count * width)
    × (rows_in width count found ≡ flat_map (each_behind rows) orders)
found_exact m n orders rows found width zero h g is many w =
    let none : length (flat_map (each_behind rows) orders) ≡ 0 = followed_long orders rows ∙ sym many in (
      ap (λ (l : List ℕ). length l) (is ∙ nothing (flat_map (each_behind rows) orders) none)
          ∙ sym (zero-mul width),
      sym (empty (flat_map (each_behind rows) orders) none),
    )
  where
    empty : (l : List (List ℕ)) → length l ≡ 0 → l ≡ []
    empty [] e = refl
    empty (x ∷ xs) e = absurd (omega (arith, e))

    nothing : (l : List (List ℕ)) → length l ≡ 0 → concat l ≡ []
    nothing [] e = refl
    nothing (x ∷ xs) e = absurd (omega (arith, e))
found_exact m n orders rows found width (suc c) h g is many w =
    let all : List (List ℕ) = flat_map (each_behind rows) orders in
    let same : width ≡ m + n = w (omega arith) in
    let wide : HaveWidth width all = subst (λ (k : ℕ). HaveWidth k all) (sym same) (followed_wide m n orders rows h g) in
    let count : length all ≡ suc c = followed_long orders rows ∙ sym many in (
      ap (λ (l : List ℕ). length l) is ∙ joined_long width all wide
          ∙ ap (λ (k : ℕ). k * width) count,
      ap (λ (k : ℕ). rows_in width k found) (sym count)
          ∙ ap (λ (l : List ℕ). rows_in width (length all) l) is ∙ rows_joined width all wide,
    )

-- no number was cut off, as the list holds all of these stores
pub followed_found : (m n c d : ℕ) (front back : List ℕ) (orders rows : List (List ℕ))
    (found : List ℕ) (width count most : ℕ) → rows_in m c front ≡ orders → rows_in n d back ≡ rows
    → length front ≡ c * m → length back ≡ d * n → c ≡ length orders → d ≡ length rows
    → ((k : ℕ) (e : List ℕ) → k < length rows → 0 < length (get_or rows k e))
    → found ≡ concat (flat_map (each_behind rows) orders) → length found ≤ most
    → width ≡ min (m + n) most → count ≡ min (c * d) most
    → (length found ≡ count * width)
    × (rows_in width count found ≡ flat_map (each_behind rows) orders)
followed_found m n c d front back orders rows found width count most are were long wide many more
    some is fits w number =
    exact orders rows h g is product some
  where
    h : HaveWidth m orders
    h = subst (λ (l : List (List ℕ)). HaveWidth m l) are (rows_in_wide m c front long)

    g : HaveWidth n rows
    g = subst (λ (l : List (List ℕ)). HaveWidth n l) were (rows_in_wide n d back wide)

    product : count ≡ min (length orders * length rows) most
    product = number ∙ ap (λ (x : ℕ). min (x * d) most) many
        ∙ ap (λ (x : ℕ). min (length orders * x) most) more

    exact : (os rs : List (List ℕ)) → HaveWidth m os → HaveWidth n rs
        → found ≡ concat (flat_map (each_behind rs) os) → count ≡ min (length os * length rs) most
        → ((k : ℕ) (e : List ℕ) → k < length rs → 0 < length (get_or rs k e))
        → (length found ≡ count * width)
        × (rows_in width count found ≡ flat_map (each_behind rs) os)
    exact os [] a b e f p =
        let none : length os * 0 ≡ 0 = mul_comm (length os) 0 ∙ zero-mul (length os) in
        found_exact m n os [] found width count a b e (omega (arith, f, none)) (λ lt. absurd (omega (arith, lt, f, none)))
    exact [] (r ∷ rs) a b e f p =
        let none : 0 * length (r ∷ rs) ≡ 0 = zero-mul (length (r ∷ rs)) in
        found_exact m n [] (r ∷ rs) found width count a b e (omega (arith, f, none)) (λ lt. absurd (omega (arith, lt, f, none)))
    exact (o ∷ os) (r ∷ rs) a b e f p =
        let all : List (List ℕ) = flat_map (each_behind (r ∷ rs)) (o ∷ os) in
        let total : length (concat all) ≡ length all * (m + n) = joined_long (m + n) all (followed_wide m n (o ∷ os) (r ∷ rs) a b) in
        let counted : length all ≡ length (o ∷ os) * length (r ∷ rs) = followed_long (o ∷ os) (r ∷ rs) in
        let is_long : length found ≡ length (concat all) = ap (λ (l : List ℕ). length l) e in
        let positive : 0 < length r = p 0 r (omega arith) in
        let less : length all ≤ length all * (m + n) = le-mul_of_pos_right (length all) (omega (arith, positive, b.0)) in
        let twice : length (o ∷ os) ≤ length (o ∷ os) * length (r ∷ rs) = le-mul_of_pos_right (length (o ∷ os)) (omega arith) in
        let turned : (m + n) * length all ≡ length all * (m + n) = mul_comm (m + n) (length all) in
        let other : m + n ≤ (m + n) * length all = le-mul_of_pos_right (m + n) (omega (arith, counted, twice)) in
        found_exact m n (o ∷ os) (r ∷ rs) found width count a b e
        (omega (arith, f, total, counted, is_long, fits, less))
        (λ lt. omega (arith, w, other, turned, total, is_long, fits))

-- ---- the rows of one location

nothing_before : (rows : List (List ℕ)) → each_behind rows [] ≡ rows
nothing_before [] = refl
nothing_before (r ∷ rs) = ap (λ (l : List (List ℕ)). r ∷ l) (nothing_before rs)

pub rows_are : (location : ℕ) (others : List ℕ)
    → rows_from others 0 (length others) (location ∷ []) ≡ orders_of location others
rows_are location others = location_orders location others [] ∙ nothing_before (orders_of location others)

rows_long : (location : ℕ) (others : List ℕ)
    → HaveWidth (length others + 1) (orders_of location others)
rows_long location others =
    subst (λ (l : List (List ℕ)). HaveWidth (length others + 1) l) (rows_are location others)
    (rows_wide others 0 (length others) (location ∷ []) (length others + 1) (omega arith))

pub location_found : (location : ℕ) (others found : List ℕ) (width count many : ℕ)
    → found ≡ concat (flat_map (orders_from []) (rows_from others 0 (length others) (location ∷ [])))
    → width ≡ length others + 1 → many ≡ length found → count ≡ many / width
    → (length found ≡ count * width) × (rows_in width count found ≡ orders_of location others)
location_found location others found width count many is wide long quotient =
    let rows : List (List ℕ) = orders_of location others in
    let all : HaveWidth width rows = subst (λ (n : ℕ). HaveWidth n rows) (sym wide) (rows_long location others) in
    let joined : found ≡ concat rows =
    is ∙ ap (λ (l : List (List ℕ)). concat l) (one_each (rows_from others 0 (length others) (location ∷ [])))
    ∙ ap (λ (l : List (List ℕ)). concat l) (rows_are location others) in
    let total : length (concat rows) ≡ length rows * width = joined_long width rows all in
    let whole : many ≡ length rows * width = long ∙ ap (λ (l : List ℕ). length l) joined ∙ total in
    let counted : count ≡ length rows =
    quotient ∙ ap (λ (m : ℕ). m / width) whole
    ∙ mul-div_cancel (length rows) (let some : 0 < width = omega (arith, wide) in some) in (
      ap (λ (l : List ℕ). length l) joined ∙ total ∙ ap (λ (k : ℕ). k * width) (sym counted),
      ap (λ (k : ℕ). rows_in width k found) counted
          ∙ ap (λ (l : List ℕ). rows_in width (length rows) l) joined ∙ rows_joined width rows all,
    )

-- each row has the initial store
pub rows_some : (location : ℕ) (others : List ℕ) (k : ℕ) (d : List ℕ)
    → k < length (orders_of location others) → 0 < length (get_or (orders_of location others) k d)
rows_some location others = at (length others + 1) (omega arith) (orders_of location others) (rows_long location others)
  where
    at : (n : ℕ) → 0 < n → (rows : List (List ℕ)) → HaveWidth n rows → (k : ℕ) (d : List ℕ)
        → k < length rows → 0 < length (get_or rows k d)
    at n some [] h k d lt = absurd (omega (arith, lt))
    at n some (r ∷ rs) h zero d lt = omega (arith, h.0, some)
    at n some (r ∷ rs) h (suc k) d lt = at n some rs h.1 k d (omega (arith, lt))

-- the same, as the code makes them
pub location_rows : (events : List Event) (location : ℕ)
    (others slice prefix pushed before found : List ℕ) (n m many width : ℕ)
    → others ≡ stores_of events location → slice ≡ others → n ≡ length others → m ≡ length others
    → prefix ≡ [] → pushed ≡ prefix ++ location ∷ [] → before ≡ []
    → found
    ≡ before ++ concat (flat_map (orders_from []) (rows_from slice 0 m pushed))
    → many ≡ length found → width ≡ min (n + 1) (2 ^ 64 - 1)
    → (length found ≡ many / width * width)
    × (rows_in width (many / width) found ≡ rows_of events location)
location_rows events location others slice prefix pushed before found n m many width are same long
    longs none first empty joined counted wide =
    let stores : List ℕ = stores_of events location in
    let few : length stores ≤ 128 = few_stores events location in
    let total : length others ≡ length stores = ap (λ (l : List ℕ). length l) are in
    let is : found ≡ concat (flat_map (orders_from []) (rows_from stores 0 (length stores) (location ∷ []))) =
    joined
    ∙ ap (λ (l : List ℕ). l ++ concat (flat_map (orders_from []) (rows_from slice 0 m pushed))) empty
    ∙ ap (λ (l : List ℕ). concat (flat_map (orders_from []) (rows_from l 0 m pushed))) (same ∙ are)
    ∙ ap (λ (k : ℕ). concat (flat_map (orders_from []) (rows_from stores 0 k pushed))) (longs ∙ total)
    ∙ ap (λ (l : List ℕ). concat (flat_map (orders_from []) (rows_from stores 0 (length stores) l)))
    (first ∙ ap (λ (l : List ℕ). l ++ location ∷ []) none) in
    location_found location stores found width (many / width) many is
    (omega (arith, wide, long, total, few)) counted refl
