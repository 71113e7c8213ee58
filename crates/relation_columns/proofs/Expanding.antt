-- Lemmas on runs.
use Rattle.std.proofs.Common.{ℕ, zero, suc, ◌≡◌, ◌+◌, ◌-◌, ◌<◌, ◌≤◌, inl, inr, List, [], ◌∷◌, ◌++◌, length, get_or, refl, sym, ap, subst, ◌∙◌, arith, append_assoc, length-append}
use Rattle.std.proofs.Math.ListN.{replicate, set, length-set}
use Rattle.std.proofs.lemmas.List.{length-replicate, get_or-replicate, append-nil, get_or-append_right, get_or_append_left, replicate-append-replicate, length-map, get_or-map, map-append}
use Rattle.std.proofs.lemmas.Bool.{cases_lt}
use Rattle.relation_columns.specs.declared.runs.Run.{Run}
use Rattle.relation_columns.specs.Runs.{expand, AreEndsRising, last_end, run_start, AreColumnRuns}
use Rattle.relation_columns.specs.Storage.{run_ends, run_values}

-- runs, by their ends and by their values
pub as_many_ends : {V : Type 0} (runs : List (Run V)) → length (run_ends runs) ≡ length runs
as_many_ends runs = length-map runs (λ r. r.end)

pub as_many_values : {V : Type 0} (runs : List (Run V)) → length (run_values runs) ≡ length runs
as_many_values runs = length-map runs (λ r. r.value)

pub end_there : {V : Type 0} (runs : List (Run V)) (k : ℕ) (d : Run V) → k < length runs
    → (get_or runs k d).end ≡ get_or (run_ends runs) k 0
end_there runs k d lt = sym (get_or-map (λ (r : Run _). r.end) runs k d 0 lt)

pub value_there : {V : Type 0} (runs : List (Run V)) (k : ℕ) (d : Run V) (e : V) → k < length runs
    → (get_or runs k d).value ≡ get_or (run_values runs) k e
value_there runs k d e lt = sym (get_or-map (λ (r : Run _). r.value) runs k d e lt)

pub ends_more : {V : Type 0} (runs now : List (Run V)) (r : Run V) → now ≡ runs ++ r ∷ []
    → run_ends now ≡ run_ends runs ++ r.end ∷ []
ends_more runs now r e = ap (λ rs. run_ends rs) e ∙ map-append (λ (x : Run _). x.end) runs (r ∷ [])

pub values_more : {V : Type 0} (runs now : List (Run V)) (r : Run V) → now ≡ runs ++ r ∷ []
    → run_values now ≡ run_values runs ++ r.value ∷ []
values_more runs now r e =
    ap (λ rs. run_values rs) e ∙ map-append (λ (x : Run _). x.value) runs (r ∷ [])

pub last_end-above : (at : ℕ) (es : List ℕ) → AreEndsRising at es → at ≤ last_end at es
last_end-above at [] h = omega arith
last_end-above at (e ∷ es) h = omega (arith, h.0, last_end-above e es h.1)

pub length-expand : {A : Type 0} (at : ℕ) (es : List ℕ) (vs : List A) → AreEndsRising at es
    → length es ≡ length vs → length (expand at es vs) + at ≡ last_end at es
length-expand at [] vs h e = omega arith
length-expand at (x ∷ es) [] h e = absurd (omega arith)
length-expand at (x ∷ es) (v ∷ vs) h e =
    omega (
      arith,
      h.0,
      length-append (replicate (x - at) v) (expand x es vs),
      length-replicate (x - at) v,
      length-expand x es vs h.1 (omega arith),
    )

pub length-runs : {A : Type 0} (es : List ℕ) (vs : List A) → AreColumnRuns es vs
    → length (expand 0 es vs) ≡ last_end 0 es
length-runs es vs h = omega (arith, length-expand 0 es vs h.rising h.as_many)

pub rising_push : (at : ℕ) (es : List ℕ) (e : ℕ) → AreEndsRising at es → last_end at es < e
    → AreEndsRising at (es ++ e ∷ [])
rising_push at [] e h b = (b, tt)
rising_push at (x ∷ es) e h b = (h.0, rising_push x es e h.1 b)

pub expand_push : {A : Type 0} (at : ℕ) (es : List ℕ) (vs : List A) (e : ℕ) (v : A)
    → length es ≡ length vs
    → expand at (es ++ e ∷ []) (vs ++ v ∷ []) ≡ expand at es vs ++ replicate (e - last_end at es) v
expand_push at [] [] e v h = append-nil (replicate (e - at) v)
expand_push at [] (w ∷ vs) e v h = absurd (omega arith)
expand_push at (x ∷ es) [] e v h = absurd (omega arith)
expand_push at (x ∷ es) (w ∷ vs) e v h =
    ap (λ l. replicate (x - at) w ++ l) (expand_push x es vs e v (omega arith))
    ∙ sym (append_assoc (replicate (x - at) w) (expand x es vs)
    (replicate (e - last_end x es) v))

pub rising_set : (at : ℕ) (es : List ℕ) (n e : ℕ) → AreEndsRising at es → length es ≡ n + 1
    → last_end at es ≤ e → AreEndsRising at (set es n e)
rising_set at [] n e h l b = absurd (omega arith)
rising_set at (x ∷ []) zero e h l b = (omega (arith, h.0), tt)
rising_set at (x ∷ y ∷ es) zero e h l b = absurd (omega arith)
rising_set at (x ∷ es) (suc n) e h l b = (h.0, rising_set x es n e h.1 (omega arith) b)

pub expand_set : {A : Type 0} (d : A) (at : ℕ) (es : List ℕ) (vs : List A) (n e : ℕ)
    → AreEndsRising at es → length es ≡ n + 1 → length es ≡ length vs → last_end at es ≤ e
    → expand at (set es n e) vs ≡ expand at es vs ++ replicate (e - last_end at es) (get_or vs n d)
expand_set d at [] vs n e h l m b = absurd (omega arith)
expand_set d at (x ∷ es) [] n e h l m b = absurd (omega arith)
expand_set d at (x ∷ []) (v ∷ []) zero e h l m b =
    let parts : e - at ≡ (x - at) + (e - x) = omega (arith, h.0) in
    append-nil (replicate (e - at) v)
    ∙ (ap (λ n. replicate n v) parts
    ∙ (sym (replicate-append-replicate (x - at) (e - x) v)
    ∙ ap (λ l. l ++ replicate (e - x) v)
    (sym (append-nil (replicate (x - at) v)))))
expand_set d at (x ∷ []) (v ∷ w ∷ vs) zero e h l m b = absurd (omega arith)
expand_set d at (x ∷ y ∷ es) (v ∷ vs) zero e h l m b = absurd (omega arith)
expand_set d at (x ∷ es) (v ∷ vs) (suc n) e h l m b =
    ap (λ l. replicate (x - at) v ++ l) (expand_set d x es vs n e h.1 (omega arith) (omega arith) b)
    ∙ sym (append_assoc (replicate (x - at) v) (expand x es vs)
    (replicate (e - last_end x es) (get_or vs n d)))

pub start_above : (at : ℕ) (es : List ℕ) (r : ℕ) → AreEndsRising at es → r < length es
    → at ≤ run_start at es r
start_above at es zero h l = omega arith
start_above at [] (suc r) h l = absurd (omega arith)
start_above at (x ∷ es) (suc r) h l = omega (arith, h.0, start_above x es r h.1 (omega arith))

-- the value of a candidate is that of the run that it lies in
pub in_run : {A : Type 0} (d : A) (at : ℕ) (es : List ℕ) (vs : List A) (r k : ℕ) → AreEndsRising at es
    → length es ≡ length vs → r < length es → run_start at es r ≤ k → k < get_or es r 0 → at ≤ k
    → get_or (expand at es vs) (k - at) d ≡ get_or vs r d
in_run d at [] vs r k h m l a b o = absurd (omega arith)
in_run d at (x ∷ es) [] r k h m l a b o = absurd (omega arith)
in_run d at (x ∷ es) (v ∷ vs) zero k h m l a b o =
    get_or_append_left (replicate (x - at) v) (expand x es vs) d (k - at)
    (omega (arith, length-replicate (x - at) v))
    ∙ get_or-replicate (x - at) (k - at) v d (omega arith)
in_run d at (x ∷ es) (v ∷ vs) (suc r) k h m l a b o =
    let past : x ≤ k = omega (arith, start_above x es r h.1 (omega arith)) in
    let shift : (k - at) - (x - at) ≡ k - x = omega (arith, h.0) in
    get_or-append_right (replicate (x - at) v) (expand x es vs) (x - at) (k - at) d
    (length-replicate (x - at) v) (omega arith)
    ∙ (ap (λ j. get_or (expand x es vs) j d) shift
    ∙ in_run d x es vs r k h.1 (omega arith) (omega arith) a b past)

-- a run begins where the one before it ends
pub start_at : (at : ℕ) (es : List ℕ) (r j : ℕ) → r ≡ j + 1 → j < length es
    → run_start at es r ≡ get_or es j 0
start_at at [] r j e l = absurd (omega arith)
start_at at (x ∷ es) zero j e l = absurd (omega arith)
start_at at (x ∷ es) (suc r) zero e l = let first : r ≡ 0 = omega arith in rw first refl
start_at at (x ∷ es) (suc r) (suc j) e l = start_at x es r j (omega arith) (omega arith)

-- the last run ends at the last end
pub last_is : (at : ℕ) (es : List ℕ) (n : ℕ) → length es ≡ n + 1 → get_or es n 0 ≡ last_end at es
last_is at [] n l = absurd (omega arith)
last_is at (x ∷ []) zero l = refl
last_is at (x ∷ y ∷ es) zero l = absurd (omega arith)
last_is at (x ∷ es) (suc n) l = last_is x es n (omega arith)

-- no end lies above the last
pub end_within : (at : ℕ) (es : List ℕ) (r : ℕ) → AreEndsRising at es → r < length es
    → get_or es r 0 ≤ last_end at es
end_within at [] r h l = absurd (omega arith)
end_within at (x ∷ es) zero h l = last_end-above x es h.1
end_within at (x ∷ es) (suc r) h l = end_within x es r h.1 (omega arith)

-- the last run made longer
pub longer : {A : Type 0} (es : List ℕ) (vs : List A) (old : List A) (n e : ℕ) → AreColumnRuns es vs
    → expand 0 es vs ≡ old → n ≡ length es → 0 < n → length old < e → AreColumnRuns (set es (n - 1) e) vs
longer es vs old n e h is l p b =
    record {
      as_many = length-set es (n - 1) e ∙ h.as_many;
      rising =
          rising_set 0 es (n - 1) e h.rising (omega arith)
          (omega (arith, length-runs es vs h, ap length is));
    }

pub longer_told : {A : Type 0} (d : A) (es : List ℕ) (vs : List A) (old : List A) (n e : ℕ) (v : A)
    → AreColumnRuns es vs → expand 0 es vs ≡ old → n ≡ length es → 0 < n → length old < e
    → get_or vs (n - 1) d ≡ v → expand 0 (set es (n - 1) e) vs ≡ old ++ replicate (e - length old) v
longer_told d es vs old n e v h is l p b w =
    let end : last_end 0 es ≡ length old = omega (arith, length-runs es vs h, ap length is) in
    let told : expand 0 (set es (n - 1) e) vs ≡ expand 0 es vs ++ replicate (e - last_end 0 es) (get_or vs (n - 1) d) = expand_set d 0 es vs (n - 1) e h.rising (omega arith) h.as_many (omega arith) in
    rw (told, is, end, w) refl

-- one run more
pub added : {A : Type 0} (es es1 es2 : List ℕ) (vs vs2 old : List A) (e : ℕ) (v : A) → AreColumnRuns es vs
    → expand 0 es vs ≡ old → length old < e → es1 ≡ es → es2 ≡ es1 ++ e ∷ [] → vs2 ≡ vs ++ v ∷ []
    → AreColumnRuns es2 vs2
added es es1 es2 vs vs2 old e v h is b same ends values =
    let end : last_end 0 es < e = omega (arith, length-runs es vs h, ap length is) in
    rw (ends, same, values) (record {
      as_many = omega (arith, h.as_many, length-append es (e ∷ []), length-append vs (v ∷ []));
      rising = rising_push 0 es e h.rising end;
    })

pub added_told : {A : Type 0} (es es1 es2 : List ℕ) (vs vs2 old : List A) (e : ℕ) (v : A)
    → AreColumnRuns es vs → expand 0 es vs ≡ old → es1 ≡ es → es2 ≡ es1 ++ e ∷ [] → vs2 ≡ vs ++ v ∷ []
    → expand 0 es2 vs2 ≡ old ++ replicate (e - length old) v
added_told es es1 es2 vs vs2 old e v h is same ends values =
    let end : last_end 0 es ≡ length old = omega (arith, length-runs es vs h, ap length is) in
    rw (ends, same, values, expand_push 0 es vs e v h.as_many, is, end) refl

-- a run that ends at a candidate or below it is not the last
pub not_last : (es : List ℕ) (r at : ℕ) → r < length es → get_or es r 0 ≤ at → at < last_end 0 es
    → r + 1 < length es
not_last es r at l b o =
    elim (cases_lt (r + 1) (length es)) [
      | inl a ↦ a
      | inr a ↦ absurd
          (omega (arith, last_is 0 es r (omega arith)))
    ]

pub start_next : (es : List ℕ) (r at : ℕ) → r < length es → get_or es r 0 ≤ at
    → run_start 0 es (r + 1) ≤ at
start_next es r at l b = rw (start_at 0 es (r + 1) r refl l) b

pub run_value : {A : Type 0} (d : A) (es : List ℕ) (vs old : List A) (r k : ℕ) → AreColumnRuns es vs
    → expand 0 es vs ≡ old → r < length es → run_start 0 es r ≤ k → k < get_or es r 0
    → get_or old k d ≡ get_or vs r d
run_value d es vs old r k h is l a b =
    let same : k ≡ k - 0 = omega arith in
    ap (λ xs. get_or xs k d) (sym is)
    ∙ (ap (λ j. get_or (expand 0 es vs) j d) same
    ∙ in_run d 0 es vs r k h.rising h.as_many l a b (omega arith))

pub inside_runs : {A : Type 0} (es ends : List ℕ) (vs old : List A) (at : ℕ) → AreColumnRuns es vs
    → expand 0 es vs ≡ old → ends ≡ es → at < length old → at < last_end 0 ends
inside_runs es ends vs old at h is same l =
    rw same (omega (arith, length-runs es vs h, ap length is))

pub end_inside : {A : Type 0} (es : List ℕ) (vs old : List A) (r : ℕ) → AreColumnRuns es vs
    → expand 0 es vs ≡ old → r < length es → get_or es r 0 ≤ length old
end_inside es vs old r h is l =
    omega (arith, length-runs es vs h, ap length is, end_within 0 es r h.rising l)

-- what a reader of a run is told, where the ends are those of the column
same_runs : {A : Type 0} (es ends : List ℕ) (vs : List A) → AreColumnRuns es vs → ends ≡ es
    → AreColumnRuns ends vs
same_runs es ends vs h same = subst (λ xs. AreColumnRuns xs vs) (sym same) h

same_view : {A : Type 0} (es ends : List ℕ) (vs old : List A) → expand 0 es vs ≡ old → ends ≡ es
    → expand 0 ends vs ≡ old
same_view es ends vs old is same = ap (λ xs. expand 0 xs vs) same ∙ is

pub read_value : {A : Type 0} (d : A) (es ends : List ℕ) (vs old : List A) (r at : ℕ) (value : A)
    → AreColumnRuns es vs → expand 0 es vs ≡ old → ends ≡ es → r < length ends → run_start 0 ends r ≤ at
    → at < get_or ends r 0 → value ≡ get_or vs r d → value ≡ get_or old at d
read_value d es ends vs old r at value h is same l a b read =
    read
    ∙ sym (run_value d ends vs old r at (same_runs es ends vs h same)
    (same_view es ends vs old is same) l a b)

pub read_end : {A : Type 0} (es ends : List ℕ) (vs old : List A) (r end : ℕ) → AreColumnRuns es vs
    → expand 0 es vs ≡ old → ends ≡ es → r < length ends → end ≡ get_or ends r 0 → end ≤ length old
read_end es ends vs old r end h is same l read =
    rw read (end_inside ends vs old r (same_runs es ends vs h same)
    (same_view es ends vs old is same) l)

pub read_same : {A : Type 0} (d : A) (es ends : List ℕ) (vs old : List A) (r at end : ℕ)
    → AreColumnRuns es vs → expand 0 es vs ≡ old → ends ≡ es → r < length ends → run_start 0 ends r ≤ at
    → at < get_or ends r 0 → end ≡ get_or ends r 0 → (k : ℕ) → at ≤ k → k < end
    → get_or old k d ≡ get_or old at d
read_same d es ends vs old r at end h is same l a b last k low high =
    let runs : AreColumnRuns ends vs = same_runs es ends vs h same in
    let view : expand 0 ends vs ≡ old = same_view es ends vs old is same in
    run_value d ends vs old r k runs view l (omega arith) (omega arith)
    ∙ sym (run_value d ends vs old r at runs view l a b)

-- a run holds its start
pub start_below : (at : ℕ) (es : List ℕ) (r : ℕ) → AreEndsRising at es → r < length es
    → run_start at es r < get_or es r 0
start_below at [] r h l = absurd (omega (arith, l))
start_below at (x ∷ es) zero h l = h.0
start_below at (x ∷ es) (suc r) h l = start_below x es r h.1 (omega (arith, l))

-- the last value once more
pub last_end_is : {A : Type 0} (es : List ℕ) (vs old : List A) (n end : ℕ) → AreColumnRuns es vs
    → expand 0 es vs ≡ old → n ≡ length es → 0 < n → end ≡ get_or es (n - 1) 0 → end ≡ length old
last_end_is es vs old n end h is l p read =
    omega (
      arith,
      read,
      last_is 0 es (n - 1) (omega (arith, l, p)),
      length-runs es vs h,
      ap length is,
    )

-- where there is a run, there is a candidate
pub some_there : {A : Type 0} (es : List ℕ) (vs old : List A) (n : ℕ) → AreColumnRuns es vs
    → expand 0 es vs ≡ old → n ≡ length es → 0 < n → 0 < length old
some_there es vs old n h is l p =
    let low : run_start 0 es (n - 1) < get_or es (n - 1) 0 = start_below 0 es (n - 1) h.rising (omega (arith, l, p)) in
    omega (
      arith,
      low,
      last_is 0 es (n - 1) (omega (arith, l, p)),
      length-runs es vs h,
      ap length is,
    )

pub last_value : {A : Type 0} (d : A) (es : List ℕ) (vs old : List A) (n : ℕ) → AreColumnRuns es vs
    → expand 0 es vs ≡ old → n ≡ length es → 0 < n
    → get_or old (length old - 1) d ≡ get_or vs (n - 1) d
last_value d es vs old n h is l p =
    let inside : n - 1 < length es = omega (arith, l, p) in
    let last : get_or es (n - 1) 0 ≡ length old = omega (arith, last_is 0 es (n - 1) (omega (arith, l, p)), length-runs es vs h, ap length is) in
    let low : run_start 0 es (n - 1) < get_or es (n - 1) 0 = start_below 0 es (n - 1) h.rising inside in
    run_value d es vs old (n - 1) (length old - 1) h is inside (omega (arith, low, last))
    (omega (arith, low, last))

pub last_told : {A : Type 0} (d : A) (es : List ℕ) (vs old : List A) (n e : ℕ) → AreColumnRuns es vs
    → expand 0 es vs ≡ old → n ≡ length es → 0 < n → e ≡ length old + 1
    → expand 0 (set es (n - 1) e) vs ≡ old ++ get_or old (length old - 1) d ∷ []
last_told d es vs old n e h is l p more =
    let one : e - length old ≡ 1 = omega (arith, more) in
    longer_told d es vs old n e (get_or old (length old - 1) d) h is l p (omega (arith, more))
    (sym (last_value d es vs old n h is l p))
    ∙ ap (λ (m : ℕ). old ++ replicate m (get_or old (length old - 1) d)) one
