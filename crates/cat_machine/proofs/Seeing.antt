-- What is seen of predefined names in one candidate after another.
use Rattle.std.proofs.Common.{ℕ, ◌≡◌, ◌+◌, ◌-◌, ◌↔◌, ◌++◌, ◌∙◌, zero, suc, List, [], ◌∷◌, length, length-append, append_assoc, sym, ap, refl, arith}
use Rattle.std.specs.Prelude.{Some, slice_get, map}
use Rattle.std.proofs.lemmas.List.{append-nil}
use Rattle.std.proofs.lemmas.Option.{none-some, same_Some}
use Rattle.store_orders.specs.declared.combination.Combination.{Combination}
use Rattle.base_names.specs.Known.{EventsFound}
use Rattle.candidate_spaces.specs.Space.{Candidate}
use Rattle.cat_machine.specs.declared.column.Column.{Column}
use Rattle.cat_machine.specs.declared.column.Column.TheVariants as columns
use Rattle.cat_machine.specs.declared.seen.NamedColumn.{NamedColumn}
use Rattle.cat_machine.specs.Executions.{events_of}
use Rattle.cat_machine.specs.Named.{ColumnEvents, ColumnPairs}
use Rattle.cat_machine.specs.Seen.{PairsFound, NamedValue, NamedValues, set_of, relation_of, value_at, columns_of, values_seen, seen_run, seen_in}
use Rattle.cat_machine.specs.Steady.{HasSame, HaveSameInputs}

-- what a column has for a candidate is what is found there
pub events_found : (c : Column) (k n a : ℕ) → ColumnEvents c k n a ↔ EventsFound (set_of c k) n a
events_found (columns.Sets values) k n a = ((λ x. x), (λ x. x))
events_found (columns.Relations values) k n a = ((λ x. x), (λ x. x))

pub pairs_found : (c : Column) (k n a b : ℕ)
    → ColumnPairs c k n a b ↔ PairsFound (relation_of c k) n a b
pairs_found (columns.Sets values) k n a b = ((λ x. x), (λ x. x))
pairs_found (columns.Relations values) k n a b = ((λ x. x), (λ x. x))

-- ---- where the columns have the same values in two candidates, the same is seen in both

set_same : (c : Column) (j k : ℕ) → HasSame c j k → set_of c j ≡ set_of c k
set_same (columns.Sets values) j k same = same
set_same (columns.Relations values) j k same = refl

relation_same : (c : Column) (j k : ℕ) → HasSame c j k → relation_of c j ≡ relation_of c k
relation_same (columns.Sets values) j k same = refl
relation_same (columns.Relations values) j k same = same

values_same : (xs : List NamedColumn) (j k : ℕ) → HaveSameInputs (columns_of xs) j k
    → map (value_at j) xs ≡ map (value_at k) xs
values_same [] j k same = refl
values_same (x ∷ xs) j k same =
    let e = set_same x.column.now j k (same 0 x.column refl) in
    let f = relation_same x.column.now j k (same 0 x.column refl) in
    let rest = values_same xs j k (λ index column at. same (suc index) column at) in
    rw (e, f, rest) refl

pub seen_same : (xs : List NamedColumn) (j k n : ℕ) → HaveSameInputs (columns_of xs) j k
    → values_seen xs j n ≡ values_seen xs k n
seen_same xs j k n same =
    ap (λ (vs : List NamedValue). record { count = n; values = vs }) (values_same xs j k same)

-- ---- many candidates

pub run_long : (xs : List NamedColumn) (k n m : ℕ) → length (seen_run xs k n m) ≡ m
run_long xs k n zero = refl
run_long xs k n (suc m) =
    let e : length (seen_run xs k n m) ≡ m = run_long xs k n m in
    omega (arith, e, length-append (seen_run xs k n m) (values_seen xs (k + m) n ∷ []))

pub run_step : (xs : List NamedColumn) (k n m : ℕ)
    → seen_run xs k n (m + 1) ≡ seen_run xs k n m ++ values_seen xs (k + m) n ∷ []
run_step xs k n m = let e : m + 1 ≡ suc m = omega arith in rw e refl

pub run_more : (xs : List NamedColumn) (k n a b : ℕ)
    → seen_run xs k n (a + b) ≡ seen_run xs k n a ++ seen_run xs (k + a) n b
run_more xs k n a zero =
    let e : a + 0 ≡ a = omega arith in
    rw e (sym (append-nil (seen_run xs k n a)))
run_more xs k n a (suc b) =
    let e : a + suc b ≡ suc (a + b) = omega arith in
    let f : k + (a + b) ≡ k + a + b = omega arith in
    rw e (ap (λ (ks : List NamedValues). ks ++ values_seen xs (k + (a + b)) n ∷ []) (run_more xs k n a b)
    ∙ append_assoc (seen_run xs k n a) (seen_run xs (k + a) n b) (values_seen xs (k + (a + b)) n ∷ [])
    ∙ ap (λ (j : ℕ). seen_run xs k n a ++ (seen_run xs (k + a) n b ++ values_seen xs j n ∷ [])) f)

pub in_append : (xs : List NamedColumn) (k : ℕ) (cs ds : List Candidate)
    → seen_in xs k (cs ++ ds) ≡ seen_in xs k cs ++ seen_in xs (k + length cs) ds
in_append xs k [] ds = let e : k + 0 ≡ k = omega arith in rw e refl
in_append xs k (c ∷ cs) ds =
    let e : k + 1 + length cs ≡ k + length (c ∷ cs) = omega arith in
    ap (λ (ks : List NamedValues). values_seen xs k (events_of c) ∷ ks) (in_append xs (k + 1) cs ds
    ∙ ap (λ (j : ℕ). seen_in xs (k + 1) cs ++ seen_in xs j ds) e)

pub in_run : (xs : List NamedColumn) (k : ℕ) (c : Combination) (ts : List (List ℕ × List ℕ))
    → seen_in xs k (map (λ t. (c, t)) ts) ≡ seen_run xs k (length c.events.items) (length ts)
in_run xs k c [] = refl
in_run xs k c (t ∷ ts) =
    let n = length c.events.items in
    let e : length (t ∷ ts) ≡ 1 + length ts = omega arith in
    let f : k + 0 ≡ k = omega arith in
    ap (λ (ks : List NamedValues). values_seen xs k n ∷ ks) (in_run xs (k + 1) c ts)
    ∙ ap (λ (j : ℕ). values_seen xs j n ∷ seen_run xs (k + 1) n (length ts)) (sym f)
    ∙ sym (ap (λ (m : ℕ). seen_run xs k n m) e ∙ run_more xs k n 1 (length ts))

pub in_long : (xs : List NamedColumn) (k : ℕ) (cs : List Candidate)
    → length (seen_in xs k cs) ≡ length cs
in_long xs k [] = refl
in_long xs k (c ∷ cs) =
    let e : length (seen_in xs (k + 1) cs) ≡ length cs = in_long xs (k + 1) cs in omega (arith, e)

pub in_at : (xs : List NamedColumn) (k : ℕ) (cs : List Candidate) (j : ℕ) (one : Candidate)
    → slice_get cs j ≡ Some one
    → slice_get (seen_in xs k cs) j ≡ Some (values_seen xs (k + j) (events_of one))
in_at xs k [] j one at = absurd (none-some one at)
in_at xs k (c ∷ cs) zero one at =
    let same : c ≡ one = same_Some c one at in
    let e : k + 0 ≡ k = omega arith in
    rw (e, same) refl
in_at xs k (c ∷ cs) (suc j) one at =
    let e : k + 1 + j ≡ k + suc j = omega arith in
    rw (← e) (in_at xs (k + 1) cs j one at)

-- likewise from the first candidate on
pub first_append : (xs : List NamedColumn) (cs ds : List Candidate)
    → seen_in xs 0 (cs ++ ds) ≡ seen_in xs 0 cs ++ seen_in xs (length cs) ds
first_append xs cs ds =
    let e : 0 + length cs ≡ length cs = omega arith in
    in_append xs 0 cs ds ∙ ap (λ (j : ℕ). seen_in xs 0 cs ++ seen_in xs j ds) e

pub first_at : (xs : List NamedColumn) (cs : List Candidate) (j : ℕ) (one : Candidate)
    → slice_get cs j ≡ Some one → slice_get (seen_in xs 0 cs) j ≡ Some (values_seen xs j (events_of one))
first_at xs cs j one at =
    let e : 0 + j ≡ j = omega arith in
    in_at xs 0 cs j one at ∙ ap (λ (k : ℕ). Some (values_seen xs k (events_of one))) e
