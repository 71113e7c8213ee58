-- One more item is read, and all are.
use Rattle.std.proofs.Common.{◌≡◌, ◌↔◌, ◌⊎◌, inl, inr, ℕ, ◌+◌, ◌<◌, ◌≤◌, zero, suc, List, [], ◌∷◌, length, drop, get_or, Bool, true, Contains, IsTrue, refl, sym, ap, subst, ◌∙◌, arith}
use Rattle.std.proofs.lemmas.List.{at_drop_all}
use Rattle.std.proofs.lemmas.Option.{slice_get-get_or}
use Rattle.text_values.specs.declared.model.Item.{Item}
use Rattle.text_values.specs.ModelValue.{Clause}
use Rattle.text_values.specs.ModelValues.{clause_of, clauses_of}
use Rattle.meaning.specs.Sets.{Set}
use Rattle.meaning.specs.Cat.{Names, names_after, IsItemMet, AreMet, IsFlagMet}
use Rattle.meaning.specs.Faults.{Scope, faults, faults_of_item, faults_from, known_after, outermost_scope}
use Rattle.meaning_plain.specs.Lists.{Grows}
use Rattle.meaning_plain.proofs.Growing.{nothing_there}
use Rattle.plain_models.specs.declared.scope.Named.{Named}
use Rattle.plain_models.specs.Scopes.{with_named}
use Rattle.plain_models.specs.declared.model.Answers as code
use Rattle.plain_models.specs.declared.model.Reading as code_reading
use Rattle.plain_models.specs.Groups.{IsSolvable}
use Rattle.plain_models.specs.Items.{Binds}
use Rattle.plain_models.specs.Answers.{AreModelAnswers, ArePredefined, IsReading}
use Rattle.plain_models.proofs.Behind.{turned_names, met_alike, flag_alike}
use Rattle.meaning_laws.proofs.Growing.{no_parts}
use Rattle.plain_models.proofs.Knowing.{outer_rises, predefined_know, item_solvable}
use Rattle.plain_models.proofs.Binding.{IsBehind, item_behind, IsReadTo, left_is, flag_head, flag_tail}

pub read_begin : (all : Set ℕ) (is : List Item) (bs : List Named) (flags : List ℕ)
    → ArePredefined bs → faults (clauses_of is) ≡ [] → flags ≡ []
    → IsReadTo all is (with_named all is bs []) 0 bs true flags
read_begin all is bs flags predefined faultless none = record {
  known = (outermost_scope, predefined_know is bs predefined, faultless);
  checks = ((λ h. (refl, h)), (λ h. h.1));
  flagged = λ j. (
    (λ h. inr (j, omega arith, h)),
    (λ h. elim h [
      | inl there ↦ absurd (nothing_there j (subst (λ (l : List ℕ). Contains l j) none there))
      | inr left ↦ subst (λ (k : ℕ). IsFlagMet all (with_named all is bs []) (clauses_of is) k)
          (let e : left.0 ≡ j = omega (arith, left.1) in e) left.2
    ]),
  );
}

-- what is known of the item that is read next
abbrev pub NextFaults : List Item → ℕ → Item → Scope → Type 0
NextFaults is i d S =
    (faults_of_item S (clause_of (get_or is i d)) ≡ [])
    × (faults_from (known_after S (clause_of (get_or is i d))) (clauses_of (drop (i + 1) is)) ≡ [])

next_faults : (is : List Item) (i : ℕ) (d : Item) (S : Scope) → i < length is
    → faults_from S (clauses_of (drop i is)) ≡ [] → NextFaults is i d S
next_faults is i d S lt e =
    let c : Clause = clause_of (get_or is i d) in
    no_parts (faults_of_item S c) (faults_from (known_after S c) (clauses_of (drop (i + 1) is)))
    (ap (faults_from S) (sym (left_is is i d lt)) ∙ e)

pub next_solvable : (all : Set ℕ) (is : List Item) (first : Names ℕ) (i : ℕ) (outer : List Named)
    (kept : Bool) (flags : List ℕ) (d : Item) → i < length is
    → IsReadTo all is first i outer kept flags
    → IsSolvable all (with_named all is outer []) (clause_of (get_or is i d))
next_solvable all is first i outer kept flags d lt h =
    item_solvable all h.known.0 (with_named all is outer [])
    (outer_rises all is outer h.known.0 h.known.1) (get_or is i d)
    (next_faults is i d h.known.0 lt h.known.2).0

-- what is met from this item on is met by the item and behind it
met_next : (all : Set ℕ) (is : List Item) (i : ℕ) (old new : List Named) (d : Item)
    → i < length is → IsBehind all is old new (clause_of (get_or is i d))
    → AreMet all (with_named all is old []) (clauses_of (drop i is))
    ↔ (IsItemMet all (with_named all is old []) (clause_of (get_or is i d))
    × AreMet all (with_named all is new []) (clauses_of (drop (i + 1) is)))
met_next all is i old new d lt behind = (to, back)
  where
    to : AreMet all (with_named all is old []) (clauses_of (drop i is))
        → IsItemMet all (with_named all is old []) (clause_of (get_or is i d))
        × AreMet all (with_named all is new []) (clauses_of (drop (i + 1) is))
    to h =
        let c : Clause = clause_of (get_or is i d) in
        let M : Names ℕ = names_after all (with_named all is old []) c in
        let both : AreMet all (with_named all is old []) (c ∷ clauses_of (drop (i + 1) is)) = subst (λ (l : List Clause). AreMet all (with_named all is old []) l) (left_is is i d lt) h in (
          both.0,
          met_alike all M (with_named all is new [])
              (turned_names (with_named all is new []) M behind.alike) (clauses_of (drop (i + 1) is)) both.1,
        )

    back : (IsItemMet all (with_named all is old []) (clause_of (get_or is i d))
        × AreMet all (with_named all is new []) (clauses_of (drop (i + 1) is)))
        → AreMet all (with_named all is old []) (clauses_of (drop i is))
    back h =
        let c : Clause = clause_of (get_or is i d) in
        let M : Names ℕ = names_after all (with_named all is old []) c in
        subst (λ (l : List Clause). AreMet all (with_named all is old []) l) (sym (left_is is i d lt))
        (h.0, met_alike all (with_named all is new []) M behind.alike (clauses_of (drop (i + 1) is)) h.1)

-- a flag from this item on is this item, or one behind it
flag_next : (all : Set ℕ) (is : List Item) (i : ℕ) (old new : List Named) (d : Item)
    → i < length is → IsBehind all is old new (clause_of (get_or is i d)) → (k : ℕ)
    → IsFlagMet all (with_named all is old []) (clauses_of (drop i is)) (suc k)
    ↔ IsFlagMet all (with_named all is new []) (clauses_of (drop (i + 1) is)) k
flag_next all is i old new d lt behind k =
    let N : Names ℕ = with_named all is old [] in
    let K : Names ℕ = with_named all is new [] in
    let c : Clause = clause_of (get_or is i d) in
    let rest : List Clause = clauses_of (drop (i + 1) is) in
    let M : Names ℕ = names_after all N c in
    let left : clauses_of (drop i is) ≡ c ∷ rest = left_is is i d lt in (
      (λ h. flag_alike all M K (turned_names K M behind.alike) rest k
          ((flag_tail all N c rest k).0 (subst (λ (l : List Clause). IsFlagMet all N l (suc k)) left h))),
      (λ h. subst (λ (l : List Clause). IsFlagMet all N l (suc k)) (sym left)
          ((flag_tail all N c rest k).1 (flag_alike all K M behind.alike rest k h))),
    )

flag_here : (all : Set ℕ) (is : List Item) (i : ℕ) (N : Names ℕ) (d : Item) → i < length is
    → IsFlagMet all N (clauses_of (drop i is)) 0
    ↔ IsFlagMet all N (clause_of (get_or is i d) ∷ []) 0
flag_here all is i N d lt =
    let c : Clause = clause_of (get_or is i d) in
    let rest : List Clause = clauses_of (drop (i + 1) is) in
    let left : clauses_of (drop i is) ≡ c ∷ rest = left_is is i d lt in (
      (λ h. flag_head all N c rest [] (subst (λ (l : List Clause). IsFlagMet all N l 0) left h)),
      (λ h. subst (λ (l : List Clause). IsFlagMet all N l 0) (sym left) (flag_head all N c [] rest h)),
    )

-- a flag is met from that item on
abbrev LeftFlag : Set ℕ → List Item → List Named → ℕ → ℕ → Type 0
LeftFlag all is outer from j =
    (k : ℕ) × (j ≡ from + k) × IsFlagMet all (with_named all is outer []) (clauses_of (drop from is)) k

pub read_more : (all : Set ℕ) (is : List Item) (first : Names ℕ) (i : ℕ) (old new : List Named)
    (kept now : Bool) (flags more : List ℕ) (d : Item) (r : code_reading.Reading)
    → i < length is → IsReadTo all is first i old kept flags
    → IsReading all (with_named all is old []) (get_or is i d) r
    → Binds (get_or is i d) i r.values.items old new
    → Grows (λ j. (j ≡ i) × IsTrue r.is_raised) flags more
    → IsTrue now ↔ (IsTrue kept × IsTrue r.is_met)
    → IsReadTo all is first (i + 1) new now more
read_more all is first i old new kept now flags more d r lt h reading binds grows both = record {
  known = (known_after h.known.0 (clause_of (get_or is i d)), behind.known h.known.0 h.known.1, (next_faults is i d h.known.0 lt h.known.2).1);
  checks = (
    (λ met. let before : _ = h.checks.0 met in
        let parts : _ = (met_next all is i old new d lt behind).0 before.1 in
        (both.1 (before.0, reading.met.1 parts.0), parts.1)),
    (λ met. let was : _ = both.0 met.0 in
        h.checks.1 (was.0, (met_next all is i old new d lt behind).1 (reading.met.0 was.1, met.1))),
  );
  flagged = λ j. ((λ flag. to j ((h.flagged j).0 flag)), (λ flag. (h.flagged j).1 (back j flag)));
}
  where
    behind : IsBehind all is old new (clause_of (get_or is i d))
    behind =
        item_behind all is (get_or is i d) i r.values.items old new (slice_get-get_or is i d lt)
        reading.bound binds

    to_left : (j k : ℕ) → j ≡ i + k
        → IsFlagMet all (with_named all is old []) (clauses_of (drop i is)) k
        → Contains more j ⊎ LeftFlag all is new (i + 1) j
    to_left j zero e flag =
        inl ((grows.exact j).1 (inr (omega (arith, e), reading.raised.1 ((flag_here all is i (with_named all is old []) d lt).0 flag))))
    to_left j (suc k) e flag =
        inr (k, omega (arith, e), (flag_next all is i old new d lt behind k).0 flag)

    to : (j : ℕ) → Contains flags j ⊎ LeftFlag all is old i j → Contains more j ⊎ LeftFlag all is new (i + 1) j
    to j (inl there) = inl ((grows.exact j).1 (inl there))
    to j (inr left) = to_left j left.0 left.1 left.2

    back_there : (j : ℕ) → Contains flags j ⊎ ((j ≡ i) × IsTrue r.is_raised)
        → Contains flags j ⊎ LeftFlag all is old i j
    back_there j (inl there) = inl there
    back_there j (inr own) =
        inr (0, omega (arith, own.0), (flag_here all is i (with_named all is old []) d lt).1 (reading.raised.0 own.1))

    back : (j : ℕ) → Contains more j ⊎ LeftFlag all is new (i + 1) j → Contains flags j ⊎ LeftFlag all is old i j
    back j (inl there) = back_there j ((grows.exact j).0 there)
    back j (inr left) =
        inr (suc left.0, omega (arith, left.1), (flag_next all is i old new d lt behind left.0).1 left.2)

pub read_all : (all : Set ℕ) (is : List Item) (first : Names ℕ) (i : ℕ) (outer : List Named)
    (flags : List ℕ) (a : code.Answers) → length is ≤ i
    → IsReadTo all is first i outer a.is_kept a.flags.items
    → AreModelAnswers all first (clauses_of is) a
read_all all is first i outer flags a le h = record {
  kept = ((λ is_kept. h.checks.1 (is_kept, subst (λ (l : List Clause). AreMet all (with_named all is outer []) l) (sym nothing_left) tt)), (λ met. (h.checks.0 met).0));
  flags = λ j. (
    (λ there. (h.flagged j).1 (inl there)),
    (λ flag. elim ((h.flagged j).0 flag) [
      | inl there ↦ there
      | inr left ↦ absurd (subst (λ (l : List Clause). IsFlagMet all (with_named all is outer []) l left.0) nothing_left left.2)
    ]),
  );
}
  where
    nothing_left : clauses_of (drop i is) ≡ []
    nothing_left = at_drop_all clauses_of is i le
