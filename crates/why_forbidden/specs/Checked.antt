-- The checks of a model over the candidates of a test, and the first that refuses one.
use Rattle.std.specs.Prelude.{ℕ, ◌≡◌, ◌<◌, ◌+◌, ◌++◌, Bool, true, false, List, [], ◌∷◌, map, length, Option, Some, None, Vec, slice_get, slice_index_or}
use Rattle.std.specs.declared.alloc.Global.{Global}
use denote.Ref.{Bor}
use Rattle.binding_graph.specs.declared.resolved.ResolvedItem.{ResolvedItem}
use Rattle.binding_graph.specs.declared.resolved.Role.{Role}
use Rattle.binding_graph.specs.declared.resolved.Role.TheVariants as roles
use Rattle.candidate_spaces.specs.declared.candidate.Space.{Space}
use Rattle.cat_machine.specs.declared.column.Column.{Column}
use Rattle.text_values.specs.declared.model.CheckWord.TheVariants as words
use Rattle.why_witness.specs.Refusals.{IsWitness}
use Rattle.why_witness.specs.Values.{AreValues}
use Rattle.why_walks.specs.Values.{AreFactorValues}
use Rattle.from_scratch.specs.Known.{AreFound}
use Rattle.why_forbidden.specs.declared.checks.CheckValues.{CheckValues}
use Rattle.why_forbidden.specs.declared.checks.FirstRefusal.{FirstRefusal}

-- the values are those of the expression of this check, and of its factors, where the names of
-- other items have the columns that are found
pub record IsChecked (space : Space) (columns : List (Vec Column Global))
    (items : List ResolvedItem) (c : CheckValues) : Type 0 where
  pub item : ResolvedItem
  pub stands : slice_get items c.item ≡ Some item
  pub check : item.role ≡ roles.Check c.check.now
  pub not_flag : c.check.now.flag ≡ None
  pub inputs : List (Bor Column)
  pub found : AreFound columns item.inputs.items inputs
  pub values : AreValues c.check.now.code inputs space c.values
  pub factors : c.check.now.word ≡ words.Irreflexive
      → AreFactorValues c.check.now.code inputs space c.factors.items

-- the item is a check and no flag
abbrev pub is_unnamed : {A : Type 0} → Option A → Bool
is_unnamed None = true
is_unnamed (Some name) = false

abbrev pub is_unnamed_check : Role → Bool
is_unnamed_check (roles.Group recursive bodies) = false
is_unnamed_check (roles.Check check) = is_unnamed check.flag
is_unnamed_check roles.Silent = false

abbrev pub index_if : Bool → ℕ → List ℕ
index_if true index = index ∷ []
index_if false index = []

-- the indexes of the items that are checks and no flags, where the first item has this index
abbrev pub check_indexes : ℕ → List ResolvedItem → List ℕ
check_indexes index [] = []
check_indexes index (item ∷ items) =
    index_if (is_unnamed_check item.role) index ++ check_indexes (index + 1) items

abbrev pub checked_items : List CheckValues → List ℕ
checked_items checks = map (λ c. c.item) checks

-- the check accepts the candidate, and the check refuses it for this reason
abbrev pub Accepts : CheckValues → ℕ → Type 0
Accepts c k = IsWitness c.check.now c.values k None

-- the checks before an index accept the candidate
abbrev pub AcceptBelow : List CheckValues → ℕ → ℕ → Type 0
AcceptBelow checks k end =
    (j : ℕ) → j < end → (d : CheckValues) → j < length checks
    → Accepts (slice_index_or checks j d) k

-- the first check that refuses the candidate, and why
pub record IsFirstRefusal (checks : List CheckValues) (k : ℕ) (first : FirstRefusal) : Type 0 where
  pub within : first.index < length checks
  pub before : AcceptBelow checks k first.index
  pub refuses : (d : CheckValues) → let c =
      slice_index_or checks first.index d in IsWitness c.check.now c.values k (Some first.witness)
