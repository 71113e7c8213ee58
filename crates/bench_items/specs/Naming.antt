-- The names of an item as other items see them, and the numbers by which they go: a name's number
-- is its index in the history of its item, which is the list of the names that the item has had, in
-- the order in which they came. A name stays the same whatever the kind of its value becomes.
use Rattle.std.specs.Prelude.{ℕ, ◌≡◌, ◌<◌, ◌==◌, zero, suc, List, [], ◌∷◌, ◌++◌, length, map, bytes_eq, if◌then◌else◌}
use Rattle.std.specs.List.{position_or_len, AllByRecursion as Each}
use Rattle.binding_graph.specs.Contents.{BodyContent, RoleContent, Group, Check, Silent, body_content, role_content}
use Rattle.binding_graph.specs.declared.resolved.Body.{Body}
use Rattle.binding_graph.specs.declared.resolved.ResolvedItem.{ResolvedItem}

-- what the item at an index does, nothing where none is there
abbrev pub role_at : List ResolvedItem → ℕ → RoleContent
role_at [] i = Silent
role_at (r ∷ rs) zero = role_content r.role
role_at (r ∷ rs) (suc i) = role_at rs i

-- ---- names

-- a name of a group as other items see it: how it is spelt
abbrev pub SeenName : Type 0
SeenName = List ℕ

abbrev pub names_of_bodies : List BodyContent → List SeenName
names_of_bodies bodies = map (λ b. b.name) bodies

-- the names of a group, in order; a check and a flag have none
abbrev pub seen_names_in : RoleContent → List SeenName
seen_names_in (Group recursive bodies) = names_of_bodies bodies
seen_names_in (Check negated word code flag) = []
seen_names_in Silent = []

abbrev pub body_names : List Body → List SeenName
body_names bodies = names_of_bodies (map body_content bodies)

-- ---- numbers

-- the index of a name in a history, or how many names that has where it is none of them
abbrev pub number_in_history : List SeenName → SeenName → ℕ
number_in_history history name = position_or_len (λ n. bytes_eq n name) history

-- of the names of a group, in order
abbrev pub numbers_of : List SeenName → RoleContent → List ℕ
numbers_of history role = map (number_in_history history) (seen_names_in role)

-- the name is one of the history
abbrev pub IsInHistory : List SeenName → SeenName → Type 0
IsInHistory history name = number_in_history history name < length history

-- so is each name of a group
abbrev pub AreInHistory : List SeenName → RoleContent → Type 0
AreInHistory history role = Each (IsInHistory history) (seen_names_in role)

-- the name has one number in two histories
abbrev pub IsNumberedAlike : List SeenName → List SeenName → SeenName → Type 0
IsNumberedAlike these those name = number_in_history these name ≡ number_in_history those name

-- ---- how a history grows

-- a name that is none of a history yet is added as the last
abbrev pub with_new_name : List SeenName → SeenName → List SeenName
with_new_name history name =
    if number_in_history history name == length history then history ++ name ∷ [] else history

abbrev pub with_names : List SeenName → List SeenName → List SeenName
with_names history [] = history
with_names history (n ∷ ns) = with_names (with_new_name history n) ns

-- the history of an item after it does this: that before, and then the names of a group that it has
-- not had yet
abbrev pub with_role_names : List SeenName → RoleContent → List SeenName
with_role_names history role = with_names history (seen_names_in role)

-- ---- the numbers by which the outputs of an item go, in the order of its values

-- each name of a group by its number in the history, the answers of a check or a flag by 0
abbrev pub item_outputs : RoleContent → List SeenName → List ℕ
item_outputs (Group recursive bodies) history = numbers_of history (Group recursive bodies)
item_outputs (Check negated word code flag) history = 0 ∷ []
item_outputs Silent history = []
