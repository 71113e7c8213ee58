-- The executions that a model keeps, one by one.
use Rattle.std.proofs.Common.{◌≡◌, ◌⊎◌, inl, inr, ℕ, ◌+◌, ◌<◌, ◌≤◌, List, [], ◌∷◌, ◌++◌, length, map, take, get_or, Contains, sym, subst, arith, ◌↔◌, ap, ◌∙◌}
use Rattle.std.specs.List.{AllZip}
use Rattle.std.proofs.lemmas.List.{length-map, get_or-map}
use Rattle.std.proofs.lemmas.List.Elements.{Contains-push, Contains-push_cases, Contains-append_left, Contains-append_right, Contains-append_cases}
use Rattle.std.proofs.lemmas.Slice.Zip.{all_zipped_more}
use Rattle.text_values.specs.ModelValue.{Clause}
use Rattle.text_values.specs.TestValue.{Content}
use Rattle.meaning.specs.Sets.{IsOnce, IsListOf}
use Rattle.meaning.specs.Executions.{Execution, IsExecution}
use Rattle.meaning.specs.Evaluates.{IsKept, MeetsFlag}
use Rattle.plain_runs.proofs.Counting.{Kept, kept_none, kept_more, kept_other}
use Rattle.plain_runs.proofs.Listing.{none_there, listed_as}
use Rattle.plain_runs.proofs.Mapping.{mapped_more, mapped_all}
use Rattle.plain_ends.specs.declared.ending.End.{End}
use Rattle.plain_ends.specs.Ends.{EndsSo}
use Rattle.plain_outcomes.specs.declared.kept.Kept as code
use Rattle.plain_outcomes.specs.Kept.{AreEndsOf, Adds, AddsIfKept}

-- the indexes of the flags of one execution more
pub flags_added : (Met : ℕ → Type 0) (old more same new : List ℕ) → same ≡ more
    → new ≡ old ++ same → ((i : ℕ) → Contains more i ↔ Met i) → (i : ℕ)
    → Contains new i ↔ (Contains old i ⊎ Met i)
flags_added Met old more same new copied e met i = (to, back)
  where
    whole : new ≡ old ++ more
    whole = e ∙ ap (λ (l : List ℕ). old ++ l) copied

    to : Contains new i → Contains old i ⊎ Met i
    to there = elim (Contains-append_cases old more i (subst (λ (l : List ℕ). Contains l i) whole there)) [
      | inl earlier ↦ inl earlier
      | inr later ↦ inr ((met i).0 later)
    ]

    back : Contains old i ⊎ Met i → Contains new i
    back (inl earlier) =
        subst (λ (l : List ℕ). Contains l i) (sym whole) (Contains-append_left old more i earlier)
    back (inr is) =
        subst (λ (l : List ℕ). Contains l i) (sym whole)
        (Contains-append_right old more i ((met i).1 is))

module _ (t : Content) (items : List Clause) where
  -- the kept ones among the first executions of a list
  abbrev pub KeptIn : List Execution → ℕ → Execution → Type 0
  KeptIn xs k = Kept (IsKept t items) xs k

  pub kept_begin : (xs : List Execution) (k : code.Kept) → k.ends.items ≡ [] → k.raised.items ≡ []
      → AreEndsOf t items (KeptIn xs 0) k
  kept_begin xs k no_end no_flag = record {
    executions = [];
    listed = kept_none (IsKept t items) xs;
    ends = subst (λ (es : List End). AllZip (EndsSo t) [] es) (sym no_end) tt;
    raised = λ i. (
      λ there. absurd (none_there i (subst (λ (l : List ℕ). Contains l i) no_flag there)),
      λ is. absurd (none_there is.0 is.1.0),
    );
  }

  module _ {A : Type 0} (f : A → Execution) (xs : List A) (k : ℕ) (d : A) (lt : k < length xs)
      (once : IsOnce (map f xs)) (old new : code.Kept)
      (before : AreEndsOf t items (KeptIn (map f xs) k) old) where
    abbrev x : Execution
    x = f (get_or xs k d)

    long : k < length (map f xs)
    long = let e : _ = length-map xs f in omega (arith, e, lt)

    at : get_or (map f xs) k (f d) ≡ x
    at = get_or-map f xs k d (f d) lt

    abbrev Earlier : Execution → Type 0
    Earlier y = Contains (take k (map f xs)) y

    abbrev Now : Execution → Type 0
    Now y = Contains (take (k + 1) (map f xs)) y

    still : (y : Execution) → Earlier y → Now y
    still y there =
        subst (λ (l : List Execution). Contains l y) (sym (mapped_more f xs k d lt))
        (Contains-append_left (take k (map f xs)) (x ∷ []) y there)

    last : Now x
    last =
        subst (λ (l : List Execution). Contains l x) (sym (mapped_more f xs k d lt))
        (Contains-push (take k (map f xs)) x)

    cases : (y : Execution) → Now y → Earlier y ⊎ (x ≡ y)
    cases y there =
        Contains-push_cases (take k (map f xs)) x y
        (subst (λ (l : List Execution). Contains l y) (mapped_more f xs k d lt) there)

    added : IsKept t items x → Adds t items x old new → AreEndsOf t items (KeptIn (map f xs) (k + 1)) new
    added kept adds = record {
      executions = before.executions ++ x ∷ [];
      listed = subst
          (λ (y : Execution). IsListOf (KeptIn (map f xs) (k + 1)) (before.executions ++ y ∷ [])) at
          (kept_more (IsKept t items) (map f xs) k (f d) long once before.executions before.listed
          (subst (λ (y : Execution). IsKept t items y) (sym at) kept));
      ends = subst (λ (es : List End). AllZip (EndsSo t) (before.executions ++ x ∷ []) es) (sym adds.ends)
          (all_zipped_more (EndsSo t) before.executions old.ends.items x adds.last before.ends adds.is_end);
      raised = λ i. (to i, back i);
    }
      where
        among : (i : ℕ) → Contains old.raised.items i ⊎ MeetsFlag t items i x
            → (y : Execution) × (Now y × IsKept t items y) × MeetsFlag t items i y
        among i (inl there) =
            let found : _ = (before.raised i).0 there in
            (found.0, (still found.0 found.1.0, found.1.1), found.2)
        among i (inr met) = (x, (last, kept), met)

        to : (i : ℕ) → Contains new.raised.items i
            → (y : Execution) × (Now y × IsKept t items y) × MeetsFlag t items i y
        to i there = among i ((adds.raised i).0 there)

        back : (i : ℕ) → (y : Execution) × (Now y × IsKept t items y) × MeetsFlag t items i y
            → Contains new.raised.items i
        back i (y, (there, is), met) = elim (cases y there) [
          | inl earlier ↦ (adds.raised i).1 (inl ((before.raised i).1 (y, (earlier, is), met)))
          | inr e ↦
              (adds.raised i).1
              (inr (subst (λ (z : Execution). MeetsFlag t items i z) (sym e) met))
        ]

    left_out : (IsKept t items x → ⊥) → AreEndsOf t items (KeptIn (map f xs) (k + 1)) old
    left_out never = record {
      executions = before.executions;
      listed = kept_other (IsKept t items) (map f xs) k (f d) long once before.executions before.listed
          (λ kept. never (subst (λ (y : Execution). IsKept t items y) at kept));
      ends = before.ends;
      raised = λ i. (to i, back i);
    }
      where
        to : (i : ℕ) → Contains old.raised.items i
            → (y : Execution) × (Now y × IsKept t items y) × MeetsFlag t items i y
        to i there =
            let found : _ = (before.raised i).0 there in
            (found.0, (still found.0 found.1.0, found.1.1), found.2)

        back : (i : ℕ) → (y : Execution) × (Now y × IsKept t items y) × MeetsFlag t items i y
            → Contains old.raised.items i
        back i (y, (there, is), met) = elim (cases y there) [
          | inl earlier ↦ (before.raised i).1 (y, (earlier, is), met)
          | inr e ↦ absurd (never (subst (λ (z : Execution). IsKept t items z) (sym e) is))
        ]

    pub kept_further : AddsIfKept t items x old new → AreEndsOf t items (KeptIn (map f xs) (k + 1)) new
    kept_further (inl (kept, adds)) = added kept adds
    kept_further (inr (never, e)) =
        subst (λ (g : code.Kept). AreEndsOf t items (KeptIn (map f xs) (k + 1)) g) (sym e) (left_out never)

  pub kept_whole : {A : Type 0} (f : A → Execution) (xs : List A) (k : ℕ) (g : code.Kept)
      → length xs ≤ k → IsListOf (IsExecution t) (map f xs)
      → AreEndsOf t items (KeptIn (map f xs) k) g → AreEndsOf t items (IsKept t items) g
  kept_whole f xs k g le all are = record {
    executions = are.executions;
    listed = listed_as (KeptIn (map f xs) k) (IsKept t items) are.executions
        (λ x. ((λ is. is.1), λ is. (there x is, is))) are.listed;
    ends = are.ends;
    raised = λ i. (
      (λ in_list. let found : _ = (are.raised i).0 in_list in (found.0, found.1.1, found.2)),
      λ is. (are.raised i).1 (is.0, (there is.0 is.1, is.1), is.2),
    );
  }
    where
      there : (x : Execution) → IsKept t items x → Contains (take k (map f xs)) x
      there x is =
          subst (λ (l : List Execution). Contains l x) (sym (mapped_all f xs k le)) ((all.exact x).1 is.0)
