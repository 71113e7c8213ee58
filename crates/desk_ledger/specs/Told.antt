-- What the desk's list is told of an edit before it is put in place.
use Rattle.std.specs.Prelude.{◌≡◌, ℕ, List, [], ◌∷◌, ◌++◌}
use Rattle.desk_history.specs.Histories.{Pressed}

module _ {T E P O : Type 0} (prepares : T → E → P → T → Type 0) (announces : T → P → ℕ → O → Type 0)
    (may_follow : List O → O → Type 0) where
  -- the edit was prepared on these texts, and its operation may come next
  pub record IsTellable (all : List O) (texts : T) (prepared : P) (number : ℕ) : Type 0 where
    pub before : T
    pub edit : E
    pub prepared_so : prepares before edit prepared texts
    pub follows : (op : O) → announces texts prepared number op → may_follow all op

-- its operation was appended
pub record IsAppended {T P O : Type 0} (announces : T → P → ℕ → O → Type 0) (old : Pressed O)
    (texts : T) (prepared : P) (number : ℕ) (new : Pressed O) : Type 0 where
  pub op : O
  pub announced : announces texts prepared number op
  pub all : new.all ≡ old.all ++ op ∷ []
  pub published : new.published ≡ old.published
