-- LAWS of the names that items have had: what `laws` states.
use Rattle.std.specs.Prelude.{◌≡◌, List}
use Rattle.bench_items.specs.Items.{RoleContent}
use Rattle.bench_items.specs.Naming.{SeenName, number_in_history, IsInHistory, AreInHistory, with_role_names}

-- a history grows at its end alone: each name keeps its number
abbrev pub KeepsNumbers : List SeenName → RoleContent → Type 0
KeepsNumbers history role =
    (name : SeenName) → IsInHistory history name
    → number_in_history (with_role_names history role) name ≡ number_in_history history name

-- a name tells its number, and a number its name
abbrev pub TellsNamesApart : List SeenName → Type 0
TellsNamesApart history =
    (a b : SeenName) → IsInHistory history a → number_in_history history a ≡ number_in_history history b → a ≡ b

-- the names of what an item does are in its history then, which stays the same where they were in
-- it before
abbrev pub HoldsNames : List SeenName → RoleContent → Type 0
HoldsNames history role =
    AreInHistory (with_role_names history role) role
    × (AreInHistory history role → with_role_names history role ≡ history)
