-- Lists of one width in one flat list, and the width of orders.
use Rattle.std.proofs.Common.{ℕ, zero, suc, ◌≡◌, ◌<◌, ◌≤◌, ◌+◌, ◌-◌, ◌*◌, ◌/◌, ◌^◌, Bool, true, false, not, cond, inl, inr, Option, Some, None, List, [], ◌∷◌, ◌++◌, map, filter, take, drop, length, get_or, min, refl, sym, ap, subst, ◌∙◌, arith}
use Rattle.std.specs.List.{concat, flat_map}
use Rattle.std.specs.Option.{SomeIff, unwrap_or}
use Rattle.std.proofs.lemmas.Bool.{cases_lt}
use Rattle.std.proofs.lemmas.Grind.{flat_map-append}
use Rattle.std.proofs.lemmas.List.Elements.{filter-append}
use Rattle.std.proofs.Math.Nat.{zero-mul, suc-mul, mul-le-mul_right, mul-div_cancel}
use Rattle.std.proofs.Math.Seq.{take-append_seam, drop-append_seam}
use Rattle.std.proofs.lemmas.List.{append_assoc, append-nil, length-append, length-take, drop-drop, take_more, map-append}
use Rattle.std.proofs.lemmas.List.Folds.{concat-append}
use Rattle.store_orders.specs.Lists.{rows_in}
use Rattle.store_orders.specs.Events.{numbers, has_store}
use Rattle.store_orders.specs.Orders.{is_thread_store, stores_of, all_orders}
use Rattle.store_orders.specs.OrderPrefixes.{with_new_from, rows_from, store_lists, all_stores, orders_from, width_of}
use Rattle.store_orders.specs.declared.combination.Event.{Event}
use Rattle.store_orders.specs.declared.orders.LocationStores.{LocationStores}
use Rattle.store_orders.proofs.Counting.{few_numbers}
use Rattle.store_orders.proofs.OrderPrefixLaws.{orders_are_all}

-- each of the lists has so many members
abbrev pub HaveWidth : ℕ → List (List ℕ) → Type 0
HaveWidth n [] = Unit {0}
HaveWidth n (x ∷ xs) = (length x ≡ n) × HaveWidth n xs

-- lists of one width are the rows of what they are joined to
pub rows_joined : (n : ℕ) (xs : List (List ℕ)) → HaveWidth n xs
    → rows_in n (length xs) (concat xs) ≡ xs
rows_joined n [] h = refl
rows_joined n (x ∷ xs) h =
    let prefix : take n (x ++ concat xs) ≡ x = subst (λ (k : ℕ). take k (x ++ concat xs) ≡ x) h.0 (take-append_seam x (concat xs)) in
    let back : drop n (x ++ concat xs) ≡ concat xs = subst (λ (k : ℕ). drop k (x ++ concat xs) ≡ concat xs) h.0 (drop-append_seam x (concat xs)) in
    ap (λ (l : List ℕ). l ∷ rows_in n (length xs) (drop n (x ++ concat xs))) prefix
    ∙ ap (λ (l : List ℕ). x ∷ rows_in n (length xs) l) back
    ∙ ap (λ (l : List (List ℕ)). x ∷ l) (rows_joined n xs h.1)

pub joined_long : (n : ℕ) (xs : List (List ℕ)) → HaveWidth n xs → length (concat xs) ≡ length xs * n
joined_long n [] h = sym (zero-mul n)
joined_long n (x ∷ xs) h =
    let both : length (x ++ concat xs) ≡ length x + length (concat xs) = length-append x (concat xs) in
    let rest : length (concat xs) ≡ length xs * n = joined_long n xs h.1 in
    let more : suc (length xs) * n ≡ length xs * n + n = suc-mul (length xs) n in
    omega (arith, both, rest, more, h.0)

pub row_count : (n count : ℕ) (xs : List ℕ) → length (rows_in n count xs) ≡ count
row_count n zero xs = refl
row_count n (suc count) xs = ap suc (row_count n count (drop n xs))

pub row_at : (n count k : ℕ) (xs : List ℕ) → k < count
    → get_or (rows_in n count xs) k [] ≡ take n (drop (k * n) xs)
row_at n zero k xs lt = absurd (omega (arith, lt))
row_at n (suc count) zero xs lt = ap (λ (i : ℕ). take n (drop i xs)) (sym (zero-mul n))
row_at n (suc count) (suc k) xs lt =
    let more : n + k * n ≡ suc k * n = let m : suc k * n ≡ k * n + n = suc-mul k n in omega (arith, m) in
    row_at n count k (drop n xs) (omega (arith, lt)) ∙ ap (take n) (drop-drop (k * n) n xs)
    ∙ ap (λ (i : ℕ). take n (drop i xs)) more

-- the width of orders
pub both_wide : (n : ℕ) (xs ys : List (List ℕ)) → HaveWidth n xs → HaveWidth n ys
    → HaveWidth n (xs ++ ys)
both_wide n [] ys h k = k
both_wide n (x ∷ xs) ys h k = (h.0, both_wide n xs ys h.1 k)

all_wide : (m n : ℕ) (f : List ℕ → List (List ℕ))
    → ((x : List ℕ) → length x ≡ m → HaveWidth n (f x)) → (xs : List (List ℕ)) → HaveWidth m xs
    → HaveWidth n (flat_map f xs)
all_wide m n f each [] h = tt
all_wide m n f each (x ∷ xs) h =
    both_wide n (f x) (flat_map f xs) (each x h.0) (all_wide m n f each xs h.1)

longer : (prefix stores : List ℕ)
    → HaveWidth (length prefix + 1) (map (λ store. prefix ++ store ∷ []) stores)
longer prefix [] = tt
longer prefix (x ∷ xs) = (length-append prefix (x ∷ []), longer prefix xs)

pub rows_wide : (others : List ℕ) (begin left : ℕ) (prefix : List ℕ) (n : ℕ) → n ≡ length prefix + left
    → HaveWidth n (rows_from others begin left prefix)
rows_wide others begin zero prefix n e = (omega (arith, e), tt)
rows_wide others begin (suc left) prefix n e =
    all_wide (length prefix + 1) n (rows_from others begin left)
    (λ x h. rows_wide others begin left x n (omega (arith, e, h)))
    (with_new_from begin others prefix) (longer prefix (filter _ others))

pub orders_wide : (locations : List (ℕ × List ℕ)) (prefix : List ℕ) (n : ℕ)
    → n ≡ length prefix + width_of locations → HaveWidth n (orders_from locations prefix)
orders_wide [] prefix n e = (omega (arith, e), tt)
orders_wide (s ∷ later) prefix n e =
    let more : length (prefix ++ s.0 ∷ []) ≡ length prefix + 1 = length-append prefix (s.0 ∷ []) in
    all_wide (length prefix + 1 + length s.1) n (orders_from later)
    (λ x h. orders_wide later x n (omega (arith, e, h))) (rows_from s.1 (length prefix)
    (length s.1) (prefix ++ s.0 ∷ []))
    (rows_wide s.1 (length prefix) (length s.1) (prefix ++ s.0 ∷ []) (length prefix + 1 + length s.1)
    (omega (arith, more)))

pub width_more : (locations : List (ℕ × List ℕ)) (s : ℕ × List ℕ)
    → width_of (locations ++ s ∷ []) ≡ width_of locations + (1 + length s.1)
width_more [] s = omega arith
width_more (l ∷ ls) s =
    let rest : width_of (ls ++ s ∷ []) ≡ width_of ls + (1 + length s.1) = width_more ls s in
    omega (arith, rest)

pub few_stores : (events : List Event) (location : ℕ) → length (stores_of events location) ≤ 128
unfolding stores_of
few_stores events location =
    let few : length (numbers (is_thread_store location) 0 (take 128 events)) ≤ length (take 128 events) = few_numbers (is_thread_store location) 0 (take 128 events) in
    let long : length (take 128 events) ≡ min 128 (length events) = length-take 128 events in
    omega (arith, few, long)

few_wide : (events : List Event) (n : ℕ) → width_of (all_stores events n) ≤ 129 * n
few_wide events zero = omega arith
few_wide events (suc n) =
    let more : width_of (all_stores events n ++ (n, stores_of events n) ∷ []) ≡ width_of (all_stores events n) + (1 + length (stores_of events n)) = width_more (all_stores events n) (n, stores_of events n) in
    let before : width_of (all_stores events n) ≤ 129 * n = few_wide events n in
    omega (arith, more, before, few_stores events n)

-- where an order has no store there is one
only_one : (events : List Event) (n : ℕ) → width_of (all_stores events n) ≡ 0
    → all_orders events n ≡ [] ∷ []
only_one events zero none = refl
only_one events (suc n) none =
    let more : width_of (all_stores events n ++ (n, stores_of events n) ∷ []) ≡ width_of (all_stores events n) + (1 + length (stores_of events n)) = width_more (all_stores events n) (n, stores_of events n) in
    absurd (omega (arith, more, none))

-- the row at an index
pub row_inside : (n count k : ℕ) (xs : List ℕ) (rows : List (List ℕ)) → rows_in n count xs ≡ rows
    → length xs ≡ count * n → k < length rows → k * n + n ≤ length xs
row_inside n count k xs rows are long lt =
    let many : length rows ≡ count = ap (λ (l : List (List ℕ)). length l) (sym are) ∙ row_count n count xs in
    let more : suc k * n ≡ k * n + n = suc-mul k n in
    let within : suc k * n ≤ count * n = mul-le-mul_right n (omega (arith, lt, many)) in
    omega (arith, more, within, long)

pub row_read : (n count k : ℕ) (xs : List ℕ) (rows : List (List ℕ)) → rows_in n count xs ≡ rows
    → k < length rows → take n (drop (k * n) xs) ≡ get_or rows k []
row_read n count k xs rows are lt =
    let many : length rows ≡ count = ap (λ (l : List (List ℕ)). length l) (sym are) ∙ row_count n count xs in
    sym (row_at n count k xs (omega (arith, lt, many)))
    ∙ ap (λ (l : List (List ℕ)). get_or l k []) are

-- the stores of one location more
pub one_location_wide : (locations : List LocationStores) (i : ℕ) (s : LocationStores)
    (most width many sum next : ℕ) → i < length locations → s ≡ get_or locations i s
    → width ≡ min (width_of (store_lists (take i locations))) most → many ≡ length s.others.items
    → sum ≡ min (width + many) most → next ≡ min (sum + 1) most
    → next ≡ min (width_of (store_lists (take (i + 1) locations))) most
one_location_wide locations i s most width many sum next lt is before m e f =
    let grown : take (i + 1) locations ≡ take i locations ++ s ∷ [] = take_more locations i s lt ∙ ap (λ (x : LocationStores). take i locations ++ x ∷ []) (sym is) in
    let more : store_lists (take (i + 1) locations) ≡ store_lists (take i locations) ++ (s.initial, s.others.items) ∷ [] = ap store_lists grown ∙ map-append (λ (x : LocationStores). (x.initial, x.others.items)) (take i locations) (s ∷ []) in
    let wide : width_of (store_lists (take (i + 1) locations)) ≡ width_of (store_lists (take i locations)) + (1 + length s.others.items) = ap width_of more ∙ width_more (store_lists (take i locations)) (s.initial, s.others.items) in
    omega (arith, wide, before, m, e, f)

-- the orders of all locations
pub all_found : (events : List Event) (n width : ℕ) (stores slice other : List LocationStores)
    (none prefix found : List ℕ) → n ≤ 128 → store_lists stores ≡ all_stores events n
    → slice ≡ stores → other ≡ stores → none ≡ [] → prefix ≡ []
    → width ≡ min (width_of (store_lists slice)) (2 ^ 64 - 1)
    → found ≡ none ++ concat (orders_from (store_lists other) prefix)
    → (width ≡ width_of (all_stores events n)) × (found ≡ concat (all_orders events n))
all_found events n width stores slice other none prefix found few all s o e f wide joined = (
  let long : width_of (store_lists slice) ≡ width_of (all_stores events n) = ap (λ (l : List LocationStores). width_of (store_lists l)) s ∙ ap width_of all in
      omega (arith, wide, long, few_wide events n, few),
  joined
      ∙ ap (λ (l : List ℕ). l ++ concat (orders_from (store_lists other) prefix)) e
      ∙ ap (λ (l : List ℕ). concat (orders_from (store_lists other) l)) f
      ∙ ap (λ (l : List LocationStores). concat (orders_from (store_lists l) [])) o
      ∙ ap (λ (l : List (ℕ × List ℕ)). concat (orders_from l [])) all
      ∙ ap concat (orders_are_all events n),
)

all_orders_wide : (events : List Event) (n : ℕ)
    → HaveWidth (width_of (all_stores events n)) (all_orders events n)
all_orders_wide events n =
    subst (HaveWidth (width_of (all_stores events n))) (orders_are_all events n)
    (orders_wide (all_stores events n) [] (width_of (all_stores events n)) (omega arith))

-- the count that is kept is that of the orders
pub count_right : (events : List Event) (n width many count : ℕ) (found : List ℕ)
    (quotient : Option ℕ)
    → (width ≡ width_of (all_stores events n)) × (found ≡ concat (all_orders events n))
    → many ≡ length found → SomeIff quotient (0 < width) (many / width)
    → count ≡ unwrap_or quotient 1 → count ≡ length (all_orders events n)
count_right events n width many count found None are long unless is =
    let none : width_of (all_stores events n) ≡ 0 = elim (cases_lt 0 width) [ inl some ↦ absurd (unless some) | inr nothing ↦ omega (arith, nothing, are.0) ] in
    is ∙ ap (λ (l : List (List ℕ)). length l) (sym (only_one events n none))
count_right events n width many count found (Some q) are long some is =
    let total : length (concat (all_orders events n)) ≡ length (all_orders events n) * width_of (all_stores events n) = joined_long (width_of (all_stores events n)) (all_orders events n) (all_orders_wide events n) in
    let whole : many ≡ length (all_orders events n) * width = long ∙ ap (λ (l : List ℕ). length l) are.1 ∙ total ∙ ap (λ (w : ℕ). length (all_orders events n) * w) (sym are.0) in
    is ∙ some.1 ∙ ap (λ (m : ℕ). m / width) whole
    ∙ mul-div_cancel (length (all_orders events n)) some.0

pub found_whole : (events : List Event) (n width count : ℕ) (found : List ℕ)
    → (width ≡ width_of (all_stores events n)) × (found ≡ concat (all_orders events n))
    → count ≡ length (all_orders events n) → length found ≡ count * width
found_whole events n width count found are many =
    ap (λ (l : List ℕ). length l) are.1
    ∙ joined_long (width_of (all_stores events n)) (all_orders events n) (all_orders_wide events n)
    ∙ ap (λ (w : ℕ). length (all_orders events n) * w) (sym are.0)
    ∙ ap (λ (k : ℕ). k * width) (sym many)

pub found_rows : (events : List Event) (n width count : ℕ) (found : List ℕ)
    → (width ≡ width_of (all_stores events n)) × (found ≡ concat (all_orders events n))
    → count ≡ length (all_orders events n) → rows_in width count found ≡ all_orders events n
found_rows events n width count found are many =
    ap (λ (w : ℕ). rows_in w count found) are.0
    ∙ ap (λ (k : ℕ). rows_in (width_of (all_stores events n)) k found) many
    ∙ ap (rows_in (width_of (all_stores events n)) (length (all_orders events n))) are.1
    ∙ rows_joined (width_of (all_stores events n)) (all_orders events n) (all_orders_wide events n)

-- the prefix with one more of the stores, if it lacks it
one_store_more : (begin : ℕ) (stores prefix : List ℕ) (i store d : ℕ) (has : Bool)
    → i < length stores → store ≡ get_or stores i d → has ≡ has_store (drop begin prefix) store
    → with_new_from begin (take (i + 1) stores) prefix
    ≡ with_new_from begin (take i stores) prefix ++ cond has [] ((prefix ++ store ∷ []) ∷ [])
one_store_more begin stores prefix i store d has lt is test =
    let behind : ℕ → List ℕ = λ x. prefix ++ x ∷ [] in
    let lacks : ℕ → Bool = λ x. not (has_store (drop begin prefix) x) in
    ap (λ (l : List ℕ). map behind (filter lacks l)) (take_more stores i d lt
    ∙ ap (λ (x : ℕ). take i stores ++ x ∷ []) (sym is))
    ∙ ap (map behind) (filter-append lacks (take i stores) (store ∷ []))
    ∙ map-append behind (filter lacks (take i stores)) (filter lacks (store ∷ []))
    ∙ ap (λ (l : List (List ℕ)). map behind (filter lacks (take i stores)) ++ l)
    (last has (has_store (drop begin prefix) store) test)
  where
    last : (b h : Bool) → b ≡ h
        → map (λ x. prefix ++ x ∷ []) (cond (not h) (store ∷ []) [])
        ≡ cond b [] ((prefix ++ store ∷ []) ∷ [])
    last true true e = refl
    last false false e = refl
    last true false e = absurd cc
    last false true e = absurd cc

pub store_passed : (on : List ℕ → List (List ℕ)) (begin : ℕ) (stores prefix before found : List ℕ)
    (i store d : ℕ) (has : Bool) → i < length stores → store ≡ get_or stores i d
    → has ≡ has_store (drop begin prefix) store → has ≡ true
    → found ≡ before ++ concat (flat_map on (with_new_from begin (take i stores) prefix))
    → found ≡ before ++ concat (flat_map on (with_new_from begin (take (i + 1) stores) prefix))
store_passed on begin stores prefix before found i store d has lt is test there e =
    let same : with_new_from begin (take (i + 1) stores) prefix ≡ with_new_from begin (take i stores) prefix =
    one_store_more begin stores prefix i store d has lt is test
    ∙ ap
    (λ (b : Bool). with_new_from begin (take i stores) prefix
    ++ cond b [] ((prefix ++ store ∷ []) ∷ [])) there
    ∙ append-nil (with_new_from begin (take i stores) prefix) in
    e ∙ ap (λ (l : List (List ℕ)). before ++ concat (flat_map on l)) (sym same)

pub store_found : (on : List ℕ → List (List ℕ)) (begin : ℕ)
    (stores prefix before found more : List ℕ) (i store d : ℕ) (has : Bool) → i < length stores
    → store ≡ get_or stores i d → has ≡ has_store (drop begin prefix) store → has ≡ false
    → found ≡ before ++ concat (flat_map on (with_new_from begin (take i stores) prefix))
    → more ≡ found ++ concat (on (prefix ++ store ∷ []))
    → more ≡ before ++ concat (flat_map on (with_new_from begin (take (i + 1) stores) prefix))
store_found on begin stores prefix before found more i store d has lt is test lacks e f =
    let old : List (List ℕ) = with_new_from begin (take i stores) prefix in
    let new : List ℕ = prefix ++ store ∷ [] in
    let grown : with_new_from begin (take (i + 1) stores) prefix ≡ old ++ new ∷ [] =
    one_store_more begin stores prefix i store d has lt is test
    ∙ ap (λ (b : Bool). old ++ cond b [] (new ∷ [])) lacks in
    let both : concat (flat_map on (old ++ new ∷ [])) ≡ concat (flat_map on old) ++ concat (on new) =
    ap concat (flat_map-append on old (new ∷ [])
    ∙ ap (λ (l : List (List ℕ)). flat_map on old ++ l) (append-nil (on new)))
    ∙ concat-append (flat_map on old) (on new) in
    f
    ∙ ap (λ (l : List ℕ). l ++ concat (on new)) e
    ∙ append_assoc before (concat (flat_map on old)) (concat (on new))
    ∙ ap (λ (l : List ℕ). before ++ l) (sym both)
    ∙ ap (λ (l : List (List ℕ)). before ++ concat (flat_map on l)) (sym grown)

-- a prefix that is cut back
pub cut_back : (prefix pushed longer after : List ℕ) (store n : ℕ) → pushed ≡ prefix ++ store ∷ []
    → longer ≡ pushed → n ≡ length longer → after ≡ take (n - 1) longer → after ≡ prefix
cut_back prefix pushed longer after store n p l many e =
    let whole : longer ≡ prefix ++ store ∷ [] = l ∙ p in
    let long : length (prefix ++ store ∷ []) ≡ length prefix + 1 = length-append prefix (store ∷ []) in
    let same : length longer ≡ length (prefix ++ store ∷ []) = ap (λ (xs : List ℕ). length xs) whole in
    let back : n - 1 ≡ length prefix = omega (arith, many, same, long) in
    e ∙ ap (λ (k : ℕ). take k longer) back ∙ ap (take (length prefix)) whole
    ∙ take-append_seam prefix (store ∷ [])
