-- The names of flags, in the order of the items.
use denote.Ref.{Bor}
use Rattle.std.proofs.Common.{◌≡◌, ◌↔◌, inl, inr, ℕ, suc, ◌+◌, ◌<◌, ◌≤◌, List, [], ◌∷◌, ◌++◌, length, take, get_or, sym, ap, subst, arith, Bool, refl, ◌∙◌}
use Rattle.std.specs.Prelude.{filter}
use Rattle.std.proofs.lemmas.List.Elements.{filter-append}
use Rattle.std.proofs.lemmas.List.{length-map, length-take-le, append-nil}
use Rattle.text_values.specs.declared.model.Item.{Item}
use Rattle.text_values.specs.ModelValue.{Checked, Clause, Binding, Function, Checking, Flagging, Showing, Including}
use Rattle.text_values.specs.ModelValues.{clause_of, clauses_of}
use Rattle.meaning.specs.Names.{Name}
use Rattle.meaning.specs.Outcome.{AreRaised}
use Rattle.plain_runs.specs.Locations.{names_as}
use Rattle.plain_runs.proofs.Mapping.{mapped_more, mapped_all}
use Rattle.plain_outcomes.specs.Kept.{AddsRaised}

module _ (IsRaised : ℕ → Type 0) where
  -- the names of one item more
  raised_behind : (i j : ℕ) (cs : List Clause) (c : Clause) (ns more : List Name)
      → i + length cs ≡ j → AreRaised IsRaised i cs ns → AreRaised IsRaised j (c ∷ []) more
      → AreRaised IsRaised i (cs ++ c ∷ []) (ns ++ more)
  raised_behind i j [] c ns more e none last =
      let same : j ≡ i = omega (arith, e) in
      subst (λ (l : List Name). AreRaised IsRaised i (c ∷ []) (l ++ more)) (sym none)
      (subst (λ (k : ℕ). AreRaised IsRaised k (c ∷ []) more) same last)
  raised_behind i j (Flagging check name ∷ cs) c ns more e (inl (is, (rest, at, later))) last =
      inl (
        is,
        (
          rest ++ more,
          ap (λ (l : List Name). l ++ more) at,
          raised_behind (suc i) j cs c rest more (omega (arith, e)) later last,
        ),
      )
  raised_behind i j (Flagging check name ∷ cs) c ns more e (inr (never, later)) last =
      inr (never, raised_behind (suc i) j cs c ns more (omega (arith, e)) later last)
  raised_behind i j (Binding recursive group ∷ cs) c ns more e later last =
      raised_behind (suc i) j cs c ns more (omega (arith, e)) later last
  raised_behind i j (Function n ps body ∷ cs) c ns more e later last =
      raised_behind (suc i) j cs c ns more (omega (arith, e)) later last
  raised_behind i j (Checking check label ∷ cs) c ns more e later last =
      raised_behind (suc i) j cs c ns more (omega (arith, e)) later last
  raised_behind i j (Showing hidden shown ∷ cs) c ns more e later last =
      raised_behind (suc i) j cs c ns more (omega (arith, e)) later last
  raised_behind i j (Including path ∷ cs) c ns more e later last =
      raised_behind (suc i) j cs c ns more (omega (arith, e)) later last

  pub raised_more : (items : List Item) (k : ℕ) (d : Item) (old new : List Name)
      → k < length items → AreRaised IsRaised 0 (take k (clauses_of items)) old
      → AddsRaised IsRaised k (clause_of (get_or items k d)) old new
      → AreRaised IsRaised 0 (take (k + 1) (clauses_of items)) new
  raised_more items k d old new lt before (more, last, e) =
      subst (λ (cs : List Clause). AreRaised IsRaised 0 cs new) (sym (mapped_more clause_of items k d lt))
      (subst (λ (l : List Name). AreRaised IsRaised 0 (take k (clauses_of items) ++ clause_of (get_or items k d) ∷ []) l) (sym e)
      (raised_behind 0 k (take k (clauses_of items)) (clause_of (get_or items k d)) old more
      (let long : length (clauses_of items) ≡ length items = length-map items clause_of in
      let front : length (take k (clauses_of items)) ≡ k = length-take-le k (clauses_of items) (omega (arith, long, lt)) in
      omega (arith, front))
      before last))

  pub raised_all : (items : List Item) (k : ℕ) (ns : List Name) → length items ≤ k
      → AreRaised IsRaised 0 (take k (clauses_of items)) ns
      → AreRaised IsRaised 0 (clauses_of items) ns
  raised_all items k ns le are =
      subst (λ (cs : List Clause). AreRaised IsRaised 0 cs ns) (mapped_all clause_of items k le) are

-- the names that are raised, where it is the same which are
pub raised_as : (P Q : ℕ → Type 0) → ((i : ℕ) → P i ↔ Q i) → (i : ℕ) (cs : List Clause)
    (ns : List Name) → AreRaised P i cs ns → AreRaised Q i cs ns
raised_as P Q same i [] ns are = are
raised_as P Q same i (Flagging check name ∷ cs) ns (inl (is, (rest, e, later))) =
    inl ((same i).0 is, (rest, e, raised_as P Q same (suc i) cs rest later))
raised_as P Q same i (Flagging check name ∷ cs) ns (inr (never, later)) =
    inr ((λ is. never ((same i).1 is)), raised_as P Q same (suc i) cs ns later)
raised_as P Q same i (Binding recursive group ∷ cs) ns are = raised_as P Q same (suc i) cs ns are
raised_as P Q same i (Function n ps body ∷ cs) ns are = raised_as P Q same (suc i) cs ns are
raised_as P Q same i (Checking check label ∷ cs) ns are = raised_as P Q same (suc i) cs ns are
raised_as P Q same i (Showing hidden shown ∷ cs) ns are = raised_as P Q same (suc i) cs ns are
raised_as P Q same i (Including path ∷ cs) ns are = raised_as P Q same (suc i) cs ns are

-- ---- one item

pub raised_here : (IsRaised : ℕ → Type 0) (i : ℕ) (c : Clause) (check : Checked) (name : Name)
    (old new : List Name) → c ≡ Flagging check name → IsRaised i → new ≡ old ++ name ∷ []
    → AddsRaised IsRaised i c old new
raised_here IsRaised i c check name old new at is pushed = (
  name ∷ [],
  subst (λ (d : Clause). AreRaised IsRaised i (d ∷ []) (name ∷ [])) (sym at)
      (inl (is, ([], refl, refl))),
  pushed,
)

pub not_raised : (IsRaised : ℕ → Type 0) (i : ℕ) (c : Clause) (check : Checked) (name : Name)
    (old : List Name) → c ≡ Flagging check name → (IsRaised i → ⊥) → AddsRaised IsRaised i c old old
not_raised IsRaised i c check name old at never = (
  [],
  subst (λ (d : Clause). AreRaised IsRaised i (d ∷ []) []) (sym at) (inr (never, refl)),
  sym (append-nil old),
)

-- ---- names, each once

pub first_more : (p : Name → Bool) (name : Name) (others : List (Bor (List ℕ))) (k : ℕ)
    (d : Bor (List ℕ)) (old new : List Name) → k < length others
    → old ≡ name ∷ filter p (take k (names_as others))
    → new ≡ old ++ filter p ((get_or others k d).now ∷ [])
    → new ≡ name ∷ filter p (take (k + 1) (names_as others))
first_more p name others k d old new lt before step =
    step
    ∙ ap (λ (l : List Name). l ++ filter p ((get_or others k d).now ∷ [])) before
    ∙ ap (λ (l : List Name). name ∷ l)
    (sym (filter-append p (take k (names_as others)) ((get_or others k d).now ∷ []))
    ∙ ap (λ (l : List Name). filter p l) (sym (mapped_more (λ (n : Bor (List ℕ)). n.now) others k d lt)))
