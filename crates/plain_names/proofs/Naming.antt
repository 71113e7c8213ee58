-- The predefined names, one by one, and all events.
use Rattle.std.proofs.Common.{◌≡◌, ◌⊎◌, inl, inr, ℕ, ◌+◌, ◌<◌, ◌≤◌, List, [], ◌∷◌, ◌++◌, length, take, get_or, Contains, refl, sym, subst, ◌∙◌, arith}
use Rattle.std.specs.List.{AllZip}
use Rattle.std.proofs.lemmas.List.{take_more, take_all}
use Rattle.std.proofs.lemmas.List.Elements.{Contains-push, Contains-push_cases, Contains-append_left}
use Rattle.std.proofs.lemmas.Slice.Zip.{all_zipped_more}
use Rattle.predefined_names.specs.declared.predefined.Predefined.{Predefined}
use Rattle.predefined_names.specs.declared.predefined.TheConstants.{PREDEFINED}
use Rattle.meaning.specs.Predefined.{predefined_names}
use Rattle.meaning_plain.specs.Lists.{HasMembers}
use Rattle.plain_runs.proofs.Listing.{none_there}
use Rattle.plain_models.specs.declared.scope.Named.{Named}

pub all_begin : (ns : List ℕ) → ns ≡ [] → HasMembers (λ n. n < 0) ns
all_begin ns e n = (
  (λ there. absurd (none_there n (subst (λ (l : List ℕ). Contains l n) e there))),
  λ lt. absurd (omega (arith, lt)),
)

pub all_more : (k : ℕ) (old new : List ℕ) → HasMembers (λ n. n < k) old → new ≡ old ++ k ∷ []
    → HasMembers (λ n. n < k + 1) new
all_more k old new before e n = (to, back)
  where
    one_more : n < k + 1 → (n < k) ⊎ (n ≡ k)
    one_more lt = grind arith

    to : Contains new n → n < k + 1
    to there =
        elim (Contains-push_cases old k n (subst (λ (l : List ℕ). Contains l n) e there)) [
          | inl earlier ↦ (let lt : n < k = (before n).0 earlier in omega (arith, lt))
          | inr at ↦ omega (arith, at)
        ]

    split : (n < k) ⊎ (n ≡ k) → Contains (old ++ k ∷ []) n
    split (inl lt) = Contains-append_left old (k ∷ []) n ((before n).1 lt)
    split (inr at) = subst (λ (m : ℕ). Contains (old ++ k ∷ []) m) (sym at) (Contains-push old k)

    back : n < k + 1 → Contains new n
    back lt = subst (λ (l : List ℕ). Contains l n) (sym e) (split (one_more lt))

pub all_whole : (k m : ℕ) (ns : List ℕ) → k ≤ m → m ≤ k → HasMembers (λ n. n < k) ns
    → HasMembers (λ n. n < m) ns
all_whole k m ns le ge are n = (
  (λ there. let lt : n < k = (are n).0 there in omega (arith, lt, le)),
  λ lt. (are n).1 (omega (arith, lt, ge)),
)

pub named_more : (P : Predefined → Named → Type 0) (k : ℕ) (d : Predefined) (old new : List Named)
    (b : Named) → k < length PREDEFINED → AllZip P (take k PREDEFINED) old
    → P (get_or PREDEFINED k d) b → new ≡ old ++ b ∷ [] → AllZip P (take (k + 1) PREDEFINED) new
named_more P k d old new b lt before is e =
    subst (λ (ps : List Predefined). AllZip P ps new) (sym (take_more PREDEFINED k d lt))
    (subst (λ (bs : List Named). AllZip P (take k PREDEFINED ++ get_or PREDEFINED k d ∷ []) bs) (sym e)
    (all_zipped_more P (take k PREDEFINED) old (get_or PREDEFINED k d) b before is))

same_table : PREDEFINED ≡ predefined_names
same_table = refl

pub named_whole : (P : Predefined → Named → Type 0) (k : ℕ) (bs : List Named)
    → length PREDEFINED ≤ k → AllZip P (take k PREDEFINED) bs → AllZip P predefined_names bs
named_whole P k bs le are =
    subst (λ (ps : List Predefined). AllZip P ps bs) (take_all k PREDEFINED le ∙ same_table) are
