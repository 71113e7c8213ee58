-- What is told of the executions that satisfy a proposition: how many a model keeps, with the
-- events of the first of them, and how many it forbids, with the reasons. Reasons that differ in
-- values alone are told once, by the first, with their number.
use Rattle.std.specs.Prelude.{ℕ, ◌==◌, ◌||◌, List, [], ◌∷◌, ◌++◌, Bool, true, false, if◌then◌else◌}
use Rattle.std.specs.Prelude.{nat_eq, length, map, decimal, codes, Vec}
use Rattle.std.specs.List.{flat_map, list_any, count_by}
use Rattle.std.specs.declared.alloc.Global.{Global}
use Rattle.std.specs.Cmp.Lexicographic.{pointwise}
use Rattle.why_text.specs.declared.finding.Findings.{Findings}
use Rattle.why_text.specs.declared.reason.Reason.{Reason}
use Rattle.why_text.specs.Events.{event_line}
use Rattle.why_text.specs.Reasons.{reason_text}

-- what a reason has in common with those that differ from it in values alone
unfoldable pub kind_of : List (List ℕ) → Reason → List ℕ
kind_of locations reason = reason_text false locations (length locations) reason

abbrev pub is_of_kind : List ℕ → List ℕ → Bool
is_of_kind kind other = pointwise nat_eq kind other

abbrev pub texts_in : List (Vec ℕ Global) → List (List ℕ)
texts_in kinds = map (λ k. k.items) kinds

abbrev pub number_in : List (List ℕ) → List (List ℕ) → Reason → ℕ
number_in locations kinds reason = count_by (is_of_kind (kind_of locations reason)) kinds

-- a reason with the number of those of its kind
unfoldable pub once_text : List (List ℕ) → ℕ → Reason → List ℕ
once_text locations count reason =
    decimal count ++ codes " by " ++ reason_text true locations (length locations) reason

-- what is told of a reason where these kinds are told already, and the kinds that are told then
abbrev pub new_text : List (List ℕ) → List (List ℕ) → List (List ℕ) → Reason → List ℕ
new_text locations kinds told reason =
    if list_any (is_of_kind (kind_of locations reason)) told then []
    else once_text locations (number_in locations kinds reason) reason

-- the same for lists of texts
abbrev pub new_for : List (List ℕ) → List (Vec ℕ Global) → List (Vec ℕ Global) → Reason → List ℕ
new_for locations kinds told reason = new_text locations (texts_in kinds) (texts_in told) reason

abbrev pub told_with : List (List ℕ) → List (List ℕ) → Reason → List (List ℕ)
told_with locations told reason =
    if list_any (is_of_kind (kind_of locations reason)) told then told
    else told ++ kind_of locations reason ∷ []

-- the reasons where these kinds are told already
abbrev pub told_text : List (List ℕ) → List (List ℕ) → List (List ℕ) → List Reason → List ℕ
told_text locations kinds told [] = []
told_text locations kinds told (r ∷ rs) =
    new_text locations kinds told r ++ told_text locations kinds (told_with locations told r) rs

-- the reasons, the first of each kind
unfoldable pub reasons_text : List (List ℕ) → List Reason → List ℕ
reasons_text locations rs = told_text locations (map (kind_of locations) rs) [] rs

unfoldable pub count_line : List ℕ → ℕ → List ℕ
count_line word count = word ++ decimal count ++ codes "\n"

abbrev pub reasons_if : Bool → List (List ℕ) → List Reason → List ℕ
reasons_if told locations rs = if told then reasons_text locations rs else []

-- the reasons are told where no execution is kept, and where they are asked for
unfoldable pub findings_text : Bool → List (List ℕ) → Findings → List ℕ
findings_text asked locations f =
    count_line (codes "Kept ") f.kept
    ++ flat_map (event_line true locations (length locations)) f.shown.items
    ++ count_line (codes "Forbidden ") (length f.reasons.items)
    ++ reasons_if (asked || (f.kept == 0)) locations f.reasons.items
