-- The names of the flags that are raised, where it is decided of each item whether it is.
use Rattle.std.proofs.Common.{inl, inr, ℕ, suc, List, [], ◌∷◌, refl}
use Rattle.text_values.specs.ModelValue.{Clause, Binding, Function, Checking, Flagging, Showing, Including}
use Rattle.meaning.specs.Names.{Name}
use Rattle.meaning.specs.Outcome.{AreRaised, AreFlags, each_once}
use Rattle.meanings_exist.proofs.Decisions.{Decided}

raised : (IsRaised : ℕ → Type 0) (i : ℕ) (cs : List Clause) → ((k : ℕ) → Decided (IsRaised k))
    → (names : List Name) × AreRaised IsRaised i cs names
raised IsRaised i [] decisions = ([], refl)
raised IsRaised i (Flagging check name ∷ cs) decisions =
    let rest : _ = raised IsRaised (suc i) cs decisions in
    elim (decisions i) [
      | inl is ↦ (name ∷ rest.0, inl (is, (rest.0, refl, rest.1)))
      | inr not ↦ (rest.0, inr (not, rest.1))
    ]
raised IsRaised i (Binding recursive group ∷ cs) decisions =
    raised IsRaised (suc i) cs decisions
raised IsRaised i (Function n ps body ∷ cs) decisions = raised IsRaised (suc i) cs decisions
raised IsRaised i (Checking check label ∷ cs) decisions =
    raised IsRaised (suc i) cs decisions
raised IsRaised i (Showing hidden shown ∷ cs) decisions =
    raised IsRaised (suc i) cs decisions
raised IsRaised i (Including path ∷ cs) decisions = raised IsRaised (suc i) cs decisions

pub flags : (IsRaised : ℕ → Type 0) (items : List Clause) → ((k : ℕ) → Decided (IsRaised k))
    → (names : List Name) × AreFlags IsRaised items names
flags IsRaised items decisions =
    let found : _ = raised IsRaised 0 items decisions in
    (each_once found.0, (found.0, found.1, refl))
