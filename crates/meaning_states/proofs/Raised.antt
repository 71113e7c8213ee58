-- The names of the flags that are raised, item by item.
use Rattle.std.proofs.Common.{ℕ, zero, suc, ◌≡◌, ◌<◌, ◌+◌, ◌↔◌, ◌⊎◌, inl, inr, Bool, true, false, not, bytes_eq, cond, IsTrue, List, [], ◌∷◌, map, filter, length, reverse, Contains, get_or, None, Some, Option, slice_get, refl, sym, ap, ap₂, subst, ◌∙◌, arith, true≢false}
use Rattle.std.specs.List.{AllZip}
use Rattle.std.proofs.lemmas.List.{length-map}
use Rattle.std.proofs.lemmas.Option.{slice_get_within, slice_get-get_or}
use Rattle.text_values.specs.declared.test.Test.{Test}
use Rattle.text_values.specs.declared.model.Item.{Item}
use Rattle.text_values.specs.ModelValue.{Clause, Binding, Function, Checking, Flagging, Showing, Including}
use Rattle.text_values.specs.ModelValues.{clauses_of}
use Rattle.text_values.specs.TestValue.{Content, content_of}
use Rattle.candidate_spaces.specs.declared.candidate.Space.{Space}
use Rattle.candidates.specs.Listed.{ListsExecutions, ShowsExecution}
use Rattle.candidate_spaces.specs.Space.{Shown, shown_in}
use Rattle.outcome_states.specs.Kept as program
use Rattle.outcome_states.specs.Kept.{Flag, holds_at, is_kept, kept, is_raised, names_of_flags, raised_names}
use Rattle.meaning.specs.Names.{Name}
use Rattle.meaning.specs.Executions.{Event, Execution, IsEvent, IsExecution}
use Rattle.meaning.specs.Cat.{Names, names_after, IsMet, IsFlagMet}
use Rattle.meaning.specs.Evaluates.{outermost, IsKept, MeetsFlag}
use Rattle.meaning.specs.Outcome.{AreRaised, each_once}
use Rattle.meaning_executions.proofs.Lists.{as_long, index_of}
use Rattle.meaning_executions.specs.Executions.{IsSameExecution}
use Rattle.meaning_items.specs.Laws.{AreMeant}
use Rattle.meaning_states.specs.Listed.{AreKeptByName}
use Rattle.meaning_states.proofs.Listing.{all_named, all_kept}
use Rattle.meaning_states.specs.Flags.{AreFlagsOf, FlagsAreRaised}
use Rattle.meaning_states.proofs.Raising.{IsOnSome, on_some, some_on}

chained : (P Q R : Type 0) → P ↔ Q → Q ↔ R → P ↔ R
chained P Q R h g = (λ p. g.0 (h.0 p), λ r. h.1 (g.1 r))

module _ (t : Content) (items : List Item) (checks : List (List Bool)) (flags : List Flag)
    (s : Space)
    (by_name : AreKeptByName t s items checks flags) (xs : List Shown)
    (long : length xs ≡ length by_name.named) where
  abbrev whole : List Clause
  whole = clauses_of items

  abbrev Raised : ℕ → Type 0
  Raised i = (y : Execution) × IsKept t whole y × MeetsFlag t whole i y

  abbrev test : Flag → Bool
  test = is_raised (kept checks xs)

  abbrev names_in : List Flag → List Name
  names_in fs = map (λ f. f.0) (filter test fs)

  abbrev At : ℕ → Execution → Type 0
  At k y = slice_get by_name.named k ≡ Some y

  -- ---- one flag

  flag_raised : (f : Flag) (i : ℕ)
      → ((k : ℕ) (y : Execution) → At k y → IsTrue (holds_at k f.1) ↔ MeetsFlag t whole i y)
      → (test f ≡ true) ↔ Raised i
  flag_raised f i meets = (
    λ h.
        let found : IsOnSome checks f.1 0 (length xs) = on_some checks f.1 0 xs h in
        let here : found.place ≡ found.index =
        let e : found.index ≡ 0 + found.place = found.at in omega (arith, e) in
        let within : found.index < length by_name.named =
        subst (λ (n : ℕ). found.index < n) long
        (subst (λ (k : ℕ). k < length xs) here found.below) in
        let y : Execution = at_index found.index within in
        let there : At found.index y = is_at found.index within in
        (y, (by_name.kept found.index y there).0 found.keeps, (meets found.index y there).0 found.holds),
    λ h.
        let at : _ = index_of by_name.named h.0 ((by_name.all.exact h.0).1 h.1.0) in
        let within : at.0 < length xs =
        subst (λ (n : ℕ). at.0 < n) (sym long) (slice_get_within by_name.named at.0 h.0 at.1) in
        some_on checks f.1 0 xs at.0 at.0 (omega arith) within
        ((by_name.kept at.0 h.0 at.1).1 h.1) ((meets at.0 h.0 at.1).1 h.2),
  )
    where
      at_index : (k : ℕ) → k < length by_name.named → Execution
      at_index k lt = get_or by_name.named k (record { runs = []; reads_from = []; coherence = [] })

      is_at : (k : ℕ) (lt : k < length by_name.named) → At k (at_index k lt)
      is_at k lt = slice_get-get_or by_name.named k (record { runs = []; reads_from = []; coherence = [] }) lt

  moved : (i j : ℕ) (y : Execution) (P : Type 0) → P ↔ MeetsFlag t whole (i + suc j) y
      → P ↔ MeetsFlag t whole (suc i + j) y
  moved i j y P h =
      let next : i + suc j ≡ suc i + j = omega arith in
      subst (λ (n : ℕ). P ↔ MeetsFlag t whole n y) next h

  -- ---- item by item

  module _ (first : Execution) (there : At 0 first) where
    raised_from : (cs : List Clause) (i : ℕ) (N : Execution → Names Event)
        (answers : List (List Bool)) (fs : List Flag)
        → ((k : ℕ) (y : Execution) → At k y
        → AreMeant k (IsEvent t y) (N y) cs answers fs)
        → ((j : ℕ) (y : Execution)
        → IsFlagMet (IsEvent t y) (N y) cs j ↔ MeetsFlag t whole (i + j) y)
        → AreRaised Raised i cs (names_in fs)
    raised_from [] i N [] [] m link = refl
    raised_from [] i N [] (f ∷ fs) m link = absurd (m 0 first there)
    raised_from [] i N (a ∷ answers) fs m link = absurd (m 0 first there)
    raised_from (Checking check label ∷ cs) i N [] fs m link = absurd (m 0 first there)
    raised_from (Checking check label ∷ cs) i N (a ∷ answers) fs m link =
        raised_from cs (suc i) N answers fs (λ k y at. (m k y at).1)
        (λ j y. moved i j y (IsFlagMet (IsEvent t y) (N y) cs j) (link (suc j) y))
    raised_from (Flagging check name ∷ cs) i N answers [] m link = absurd (m 0 first there)
    raised_from (Flagging check name ∷ cs) i N answers (f ∷ fs) m link =
        decided (test f) refl
        (raised_from cs (suc i) N answers fs (λ k y at. (m k y at).2)
        (λ j y. moved i j y (IsFlagMet (IsEvent t y) (N y) cs j) (link (suc j) y)))
      where
        raised_here : (test f ≡ true) ↔ Raised i
        raised_here =
            let zeroth : i + 0 ≡ i = omega arith in
            flag_raised f i
            (λ k y at. chained (IsTrue (holds_at k f.1)) (IsMet (IsEvent t y) (N y) check)
            (MeetsFlag t whole i y) (m k y at).1
            (subst (λ (n : ℕ). IsMet (IsEvent t y) (N y) check ↔ MeetsFlag t whole n y) zeroth
            (link 0 y)))

        decided : (b : Bool) → test f ≡ b → AreRaised Raised (suc i) cs (names_in fs)
            → AreRaised Raised i (Flagging check name ∷ cs)
            (map (λ g. g.0) (cond (test f) (f ∷ filter test fs) (filter test fs)))
        decided true e rest =
            subst
            (λ (b : Bool). AreRaised Raised i (Flagging check name ∷ cs)
            (map (λ g. g.0) (cond b (f ∷ filter test fs) (filter test fs)))) (sym e)
            (inl (
              raised_here.0 e,
              (
                names_in fs,
                ap (λ (n : Name). n ∷ names_in fs) (m 0 first there).0,
                rest,
              ),
            ))
        decided false e rest =
            subst
            (λ (b : Bool). AreRaised Raised i (Flagging check name ∷ cs)
            (map (λ g. g.0) (cond b (f ∷ filter test fs) (filter test fs)))) (sym e)
            (inr (λ raised. true≢false (sym (raised_here.1 raised) ∙ e), rest))
    raised_from (Binding recursive group ∷ cs) i N answers fs m link =
        raised_from cs (suc i) (λ y. names_after (IsEvent t y) (N y) (Binding recursive group))
        answers fs m
        (λ j y. moved i j y
        (IsFlagMet (IsEvent t y) (names_after (IsEvent t y) (N y) (Binding recursive group)) cs j)
        (link (suc j) y))
    raised_from (Function n ps body ∷ cs) i N answers fs m link =
        raised_from cs (suc i) (λ y. names_after (IsEvent t y) (N y) (Function n ps body)) answers fs
        m
        (λ j y. moved i j y
        (IsFlagMet (IsEvent t y) (names_after (IsEvent t y) (N y) (Function n ps body)) cs j)
        (link (suc j) y))
    raised_from (Showing hidden shown ∷ cs) i N answers fs m link =
        raised_from cs (suc i) N answers fs m
        (λ j y. moved i j y (IsFlagMet (IsEvent t y) (N y) cs j) (link (suc j) y))
    raised_from (Including path ∷ cs) i N answers fs m link =
        raised_from cs (suc i) N answers fs m
        (λ j y. moved i j y (IsFlagMet (IsEvent t y) (N y) cs j) (link (suc j) y))

    pub raised_all : AreRaised Raised 0 whole (names_in flags)
    raised_all =
        raised_from whole 0 (λ y. outermost t y) checks flags by_name.meant
        (λ j y. moved_first j y)
      where
        moved_first : (j : ℕ) (y : Execution)
            → IsFlagMet (IsEvent t y) (outermost t y) whole j ↔ MeetsFlag t whole (0 + j) y
        moved_first j y =
            let zeroth : j ≡ 0 + j = omega arith in
            subst
            (λ (n : ℕ). IsFlagMet (IsEvent t y) (outermost t y) whole j ↔ MeetsFlag t whole n y)
            zeroth (λ h. h, λ h. h)

  -- ---- where there is no execution

  nobody_raises : ((i : ℕ) → Raised i → ⊥) → (i : ℕ) (cs : List Clause)
      → AreRaised Raised i cs []
  nobody_raises never i [] = refl
  nobody_raises never i (Flagging check name ∷ cs) =
      inr (never i, nobody_raises never (suc i) cs)
  nobody_raises never i (Checking check label ∷ cs) = nobody_raises never (suc i) cs
  nobody_raises never i (Binding recursive group ∷ cs) = nobody_raises never (suc i) cs
  nobody_raises never i (Function n ps body ∷ cs) = nobody_raises never (suc i) cs
  nobody_raises never i (Showing hidden shown ∷ cs) = nobody_raises never (suc i) cs
  nobody_raises never i (Including path ∷ cs) = nobody_raises never (suc i) cs

-- ---- the names

no_names : (checks : List (List Bool)) (fs : List Flag)
    → map (λ f. f.0) (filter (is_raised {X = Shown} (kept checks [])) fs) ≡ []
no_names checks [] = refl
no_names checks (f ∷ fs) = no_names checks fs

none_of : {X : Type 0} (xs : List X) → length xs ≡ 0 → xs ≡ []
none_of [] e = refl
none_of (x ∷ xs) e = absurd (omega (arith, e))

first_of : (ys : List Execution) → (ys ≡ []) ⊎ ((y : Execution) × (slice_get ys 0 ≡ Some y))
first_of [] = inl refl
first_of (y ∷ ys) = inr (y, refl)

same_once : (ns : List Name) → program.each_once ns ≡ each_once ns
same_once [] = refl
same_once (n ∷ ns) =
    ap (λ (ms : List Name). n ∷ filter (λ m. not (bytes_eq n m)) ms) (same_once ns)

names_raised : (test : Flag → Bool) (fs : List Flag)
    → names_of_flags test fs ≡ each_once (map (λ f. f.0) (filter test fs))
unfolding names_of_flags
names_raised test fs = same_once (map (λ f. f.0) (filter test fs))

flags_named : (t : Content) (items : List Item) (checks : List (List Bool)) (flags : List Flag)
    (s : Space) → AreKeptByName t s items checks flags
    → AreFlagsOf t (clauses_of items) (raised_names (kept checks (shown_in s)) flags)
flags_named t items checks flags s by_name =
    go (first_of by_name.named)
  where
    go : (by_name.named ≡ []) ⊎ ((y : Execution) × (slice_get by_name.named 0 ≡ Some y))
        → AreFlagsOf t (clauses_of items) (raised_names (kept checks (shown_in s)) flags)
    go (inr (y, there)) = (
      map (λ f. f.0) (filter (is_raised (kept checks (shown_in s))) flags),
      raised_all t items checks flags s by_name (shown_in s) (sym by_name.as_many) y there,
      names_raised (is_raised (kept checks (shown_in s))) flags,
    )
    go (inl none) = (
      [],
      nobody_raises t items checks flags s by_name (shown_in s) (sym by_name.as_many)
          (λ i raised. nothing_in raised.0
          (subst (λ (ys : List Execution). Contains ys raised.0) none
          ((by_name.all.exact raised.0).1 raised.1.0))) 0 (clauses_of items),
      names_raised (is_raised (kept checks (shown_in s))) flags
          ∙ ap each_once
          (subst
          (λ (xs : List Shown). map (λ f. f.0) (filter (is_raised (kept checks xs)) flags) ≡ [])
          (sym no_candidates) (no_names checks flags)),
    )
      where
        nothing_in : {X : Type 0} (x : X) → Contains [] x → ⊥
        nothing_in x (k, lt, eq) = omega arith

        no_candidates : shown_in s ≡ []
        no_candidates =
            none_of (shown_in s) (sym by_name.as_many ∙ ap length none)

pub all_raised : FlagsAreRaised
all_raised t s lists items resolved faultless made labelled checks flags said =
    flags_named (content_of t) items checks flags s
    (all_kept t s lists items resolved faultless made labelled checks flags said)
