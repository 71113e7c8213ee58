-- The combinations of runs, as a list.
use Rattle.std.proofs.Common.{◌≡◌, ◌↔◌, ℕ, zero, suc, ◌+◌, ◌<◌, ◌≤◌, List, [], ◌∷◌, ◌++◌, map, length, get_or, refl, sym, ap, subst, ◌∙◌, arith, Vec}
use Rattle.std.specs.Prelude.{Option, Some, slice_get, option_to_list, option_map}
use Rattle.std.specs.List.{AllZip, range_with_len}
use Rattle.std.specs.declared.alloc.Global.{Global}
use Rattle.std.proofs.lemmas.List.{length-map}
use Rattle.std.proofs.lemmas.Option.{slice_get-map, slice_get_past, slice_get-get_or}
use Rattle.std.proofs.lemmas.List.Elements.{All-weaker}
use Rattle.text_values.specs.TestValue.{Content}
use Rattle.meaning.specs.Sets.{IsListOf, HasOver}
use Rattle.meaning.specs.Runs.{Run, IsRun}
use Rattle.meaning.specs.Domain.{InDomain}
use Rattle.meaning.specs.Executions.{AreRuns}
use Rattle.plain_machine.specs.declared.value.Value as values
use Rattle.plain_machine.specs.Values.{value_as}
use Rattle.plain_runs.specs.declared.run.Run as runs
use Rattle.plain_runs.specs.Runs.{ValuesOf}
use Rattle.plain_runs.proofs.Listing.{listed_as}
use Rattle.plain_runs.proofs.Counting.{has_over, has_not_over}
use Rattle.plain_runs.proofs.Running.{no_some, same_some}
use Rattle.plain_events.specs.Choices.{IsIndexChoice, pick, lists_as}
use Rattle.plain_events.proofs.Picking.{listed_picks}
use Rattle.plain_events.specs.Combinations.{run_lists_as, AreRunLists}

-- ---- what is said of each of a list, by its index

module _ {X : Type 0} (P : ℕ → X → Type 0) where
  pub zip_long : (a n : ℕ) (xs : List X) → AllZip P (range_with_len a n) xs → length xs ≡ n
  zip_long a zero [] is = refl
  zip_long a zero (x ∷ xs) is = absurd is
  zip_long a (suc n) [] is = absurd is
  zip_long a (suc n) (x ∷ xs) (at, is) =
      let rest : _ = zip_long (a + 1) n xs is in omega (arith, rest)

  pub zip_at : (a n : ℕ) (xs : List X) → AllZip P (range_with_len a n) xs → (k : ℕ) (x : X)
      → slice_get xs k ≡ Some x → P (a + k) x
  zip_at a n [] is k x e = absurd (no_some x e)
  zip_at a zero (y ∷ xs) is k x e = absurd is
  zip_at a (suc n) (y ∷ xs) (at, is) zero x e =
      subst (λ (i : ℕ). P i x) (let h : a ≡ a + 0 = omega arith in h)
      (subst (λ (z : X). P a z) (same_some y x e) at)
  zip_at a (suc n) (y ∷ xs) (at, is) (suc k) x e =
      subst (λ (i : ℕ). P i x) (let h : (a + 1) + k ≡ a + suc k = omega arith in h)
      (zip_at (a + 1) n xs is k x e)

  pub zip_of : (a n : ℕ) (xs : List X) → length xs ≡ n
      → ((k : ℕ) (x : X) → slice_get xs k ≡ Some x → P (a + k) x)
      → AllZip P (range_with_len a n) xs
  zip_of a zero [] long at = tt
  zip_of a zero (x ∷ xs) long at = absurd (omega (arith, long))
  zip_of a (suc n) [] long at = absurd (omega (arith, long))
  zip_of a (suc n) (x ∷ xs) long at = (
    subst (λ (i : ℕ). P i x) (let h : a + 0 ≡ a = omega arith in h) (at 0 x refl),
    zip_of (a + 1) n xs (omega (arith, long))
        (λ k y e. subst (λ (i : ℕ). P i y) (let h : a + suc k ≡ (a + 1) + k = omega arith in h) (at (suc k) y e)),
  )

  zip_behind : (a n : ℕ) (xs : List X) (x : X) → AllZip P (range_with_len a n) xs → P (a + n) x
      → AllZip P (range_with_len a (suc n)) (xs ++ x ∷ [])
  zip_behind a zero [] x is at =
      (subst (λ (i : ℕ). P i x) (let h : a + 0 ≡ a = omega arith in h) at, tt)
  zip_behind a zero (y ∷ xs) x is at = absurd is
  zip_behind a (suc n) [] x is at = absurd is
  zip_behind a (suc n) (y ∷ xs) x (first, is) at = (
    first,
    zip_behind (a + 1) n xs x is (subst (λ (i : ℕ). P i x) (let h : a + suc n ≡ (a + 1) + n = omega arith in h) at),
  )

  pub zip_more : (n : ℕ) (xs : List X) (x : X) → AllZip P (range_with_len 0 n) xs → P n x
      → AllZip P (range_with_len 0 (n + 1)) (xs ++ x ∷ [])
  zip_more n xs x is at =
      subst (λ (m : ℕ). AllZip P (range_with_len 0 m) (xs ++ x ∷ []))
      (let h : suc n ≡ n + 1 = omega arith in h)
      (zip_behind 0 n xs x is (subst (λ (i : ℕ). P i x) (let h : n ≡ 0 + n = omega arith in h) at))

-- ---- runs

pub runs_zipped : (t : Content) (rs : List Run)
    → AllZip (IsRun t (InDomain t)) (range_with_len 0 (length t.threads)) rs ↔ AreRuns t rs
runs_zipped t rs = (to, back)
  where
    to : AllZip (IsRun t (InDomain t)) (range_with_len 0 (length t.threads)) rs → AreRuns t rs
    to is = record {
      threads = zip_long (IsRun t (InDomain t)) 0 (length t.threads) rs is;
      each = λ thread r e. subst (λ (i : ℕ). IsRun t (InDomain t) i r) (let h : 0 + thread ≡ thread = omega arith in h) (zip_at (IsRun t (InDomain t)) 0 (length t.threads) rs is thread r e);
    }

    back : AreRuns t rs → AllZip (IsRun t (InDomain t)) (range_with_len 0 (length t.threads)) rs
    back are =
        zip_of (IsRun t (InDomain t)) 0 (length t.threads) rs are.threads
        (λ thread r e. subst (λ (i : ℕ). IsRun t (InDomain t) i r) (let h : thread ≡ 0 + thread = omega arith in h) (are.each thread r e))

pub lists_more : (t : Content) (n : ℕ) (lists : List (List Run)) (rs : List Run)
    → AreRunLists t n lists → IsListOf (IsRun t (InDomain t) n) rs
    → AreRunLists t (n + 1) (lists ++ rs ∷ [])
lists_more t n lists rs are listed =
    zip_more (λ thread l. IsListOf (IsRun t (InDomain t) thread) l) n lists rs are listed

pub combined : (t : Content) (lists : List (List Run)) (counts : List ℕ) (all : List (List ℕ))
    → AreRunLists t (length t.threads) lists → counts ≡ map (λ l. length l) lists
    → IsListOf (IsIndexChoice counts) all
    → IsListOf (AreRuns t) (map (pick lists) all)
combined t lists counts all are e listed =
    listed_as (λ rs. AllZip (IsRun t (InDomain t)) (range_with_len 0 (length t.threads)) rs)
    (AreRuns t) (map (pick lists) all) (runs_zipped t)
    (listed_picks (IsRun t (InDomain t)) (range_with_len 0 (length t.threads)) lists are all
    (subst (λ (ns : List ℕ). IsListOf (IsIndexChoice ns) all) e listed))

pub domain_listed : (t : Content) (thread : ℕ) (vs : List values.Value) (rs : List Run)
    → IsListOf (InDomain t) (map value_as vs)
    → IsListOf (IsRun t (ValuesOf vs) thread) rs → IsListOf (IsRun t (InDomain t) thread) rs
domain_listed t thread vs rs domain listed =
    listed_as (IsRun t (ValuesOf vs) thread) (IsRun t (InDomain t) thread) rs
    (λ r. (to r, back r)) listed
  where
    to : (r : Run) → IsRun t (ValuesOf vs) thread r → IsRun t (InDomain t) thread r
    to r (us, all, is) =
        (us, All-weaker (ValuesOf vs) (InDomain t) (λ v. (domain.exact v).0) us all, is)

    back : (r : Run) → IsRun t (InDomain t) thread r → IsRun t (ValuesOf vs) thread r
    back r (us, all, is) =
        (us, All-weaker (InDomain t) (ValuesOf vs) (λ v. (domain.exact v).1) us all, is)

-- ---- what stands at an index of a list that is mapped

pub got_none : {X Y : Type 0} (f : X → Y) (xs : List X) (k : ℕ) → length xs ≤ k
    → option_to_list (slice_get (map f xs) k) ≡ []
got_none {X} {Y} f xs k le =
    ap (λ (o : Option Y). option_to_list o)
    (slice_get-map f xs k ∙ ap (λ (o : Option X). option_map f o) (slice_get_past xs k le))

pub got_some : {X Y : Type 0} (f : X → Y) (xs : List X) (k : ℕ) (d : X) → k < length xs
    → option_to_list (slice_get (map f xs) k) ≡ f (get_or xs k d) ∷ []
got_some {X} {Y} f xs k d lt =
    ap (λ (o : Option Y). option_to_list o)
    (slice_get-map f xs k ∙ ap (λ (o : Option X). option_map f o) (slice_get-get_or xs k d lt))

-- ---- what the code lists

module _ (t : Content) (lists again : List (Vec runs.Run Global)) (counts same : List ℕ)
    (all : List (Vec ℕ Global)) (are : AreRunLists t (length t.threads) (run_lists_as lists))
    (copied : again ≡ lists) (counted : counts ≡ map (λ l. length l) (run_lists_as again))
    (also : same ≡ counts) (listed : IsListOf (IsIndexChoice same) (lists_as all)) where
  picks : List (List Run)
  picks = map (pick (run_lists_as lists)) (lists_as all)

  picks_listed : IsListOf (AreRuns t) picks
  unfolding picks
  picks_listed =
      combined t (run_lists_as lists) same (lists_as all) are
      (also ∙ counted
      ∙ ap (λ (l : List (Vec runs.Run Global)). map (λ rs. length rs) (run_lists_as l)) copied)
      listed

  picks_length : length picks ≡ length all
  unfolding picks
  picks_length =
      length-map (lists_as all) (pick (run_lists_as lists))
      ∙ length-map all (λ (v : Vec ℕ Global). v.items)

  pub too_many : 1048576 < length all → HasOver 1048576 (AreRuns t)
  too_many many =
      has_over (AreRuns t) picks 1048576 picks_listed
      (let e : _ = picks_length in omega (arith, e, many))

  pub few : (1048576 < length all → ⊥) → HasOver 1048576 (AreRuns t) → ⊥
  few not_many =
      has_not_over (AreRuns t) picks 1048576 picks_listed
      (let e : _ = picks_length in not_more e)
    where
      not_more : length picks ≡ length all → length picks ≤ 1048576
      not_more e = grind (arith, e, not_many)

  pub all_combined : (rs : List (List Run))
      → rs ≡ map (pick (run_lists_as lists)) (lists_as all) → IsListOf (AreRuns t) rs
  unfolding picks
  all_combined rs e = subst (λ (l : List (List Run)). IsListOf (AreRuns t) l) (sym e) picks_listed
