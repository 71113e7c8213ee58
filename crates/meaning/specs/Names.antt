-- Names, as bytes, and the locations of a test. Read next: Machine.
use Rattle.std.specs.Prelude.{ℕ, Bool, false, List, [], ◌∷◌, ◌++◌, flat_map, bytes_eq, nat_eq, ◌&&◌, if◌then◌else◌}
use Rattle.std.specs.Ordering.{nat_cmp, is_lt}
use Rattle.std.specs.Cmp.Lexicographic.{slice_cmp}
use Rattle.text_values.specs.declared.test.Place.{Place}
use Rattle.text_values.specs.declared.test.Place.TheVariants.{Location, Register}
use Rattle.text_values.specs.declared.test.Value as written
use Rattle.text_values.specs.declared.test.Value.TheVariants.{Number, Address}
use Rattle.text_values.specs.declared.test.InitEntry.{InitEntry}
use Rattle.text_values.specs.TestValue.{Content, Formula, Constant, Holds, Not, Join}

-- A name of a location, a label, a flag, or of cat.
abbrev pub Name : Type 0
Name = List ℕ

-- Names are ordered by their bytes.
abbrev pub is_name_before : Name → Name → Bool
is_name_before a b = is_lt (slice_cmp nat_cmp a b)

-- a list in order, with one thing more unless it has the same already
abbrev pub with_one : {X : Type 0} → (X → X → Bool) → (X → X → Bool) → X → List X → List X
with_one is_same is_before x [] = x ∷ []
with_one is_same is_before x (y ∷ ys) =
    if is_same x y then y ∷ ys
    else if is_before x y then x ∷ y ∷ ys else y ∷ with_one is_same is_before x ys

-- the things of a list in order, each once
abbrev pub in_order : {X : Type 0} → (X → X → Bool) → (X → X → Bool) → List X → List X
in_order is_same is_before [] = []
in_order is_same is_before (x ∷ xs) =
    with_one is_same is_before x (in_order is_same is_before xs)

-- Two observables are the same location, or the same register of the same thread.
abbrev pub is_same_observable : Place → Place → Bool
is_same_observable (Location a) (Location b) = bytes_eq a b
is_same_observable (Register t r) (Register u q) = nat_eq t u && nat_eq r q
is_same_observable _ _ = false

-- the location that an observable is, if it is one
abbrev pub locations_of_observable : Place → List Name
locations_of_observable (Location l) = l ∷ []
locations_of_observable (Register t r) = []

-- the location whose address a value is, if it is one
abbrev pub locations_of_value : written.Value → List Name
locations_of_value (Address l) = l ∷ []
locations_of_value (Number n) = []

-- the locations that an entry of the init block names
abbrev pub locations_of_entry : InitEntry → List Name
locations_of_entry e = locations_of_observable e.place ++ locations_of_value e.value

-- the locations that a proposition names
abbrev pub locations_of_formula : Formula → List Name
locations_of_formula (Constant b) = []
locations_of_formula (Holds p v) = locations_of_observable p ++ locations_of_value v
locations_of_formula (Not a) = locations_of_formula a
locations_of_formula (Join op a b) = locations_of_formula a ++ locations_of_formula b

-- The locations of a test are those that its init block, its condition and its list of observed
-- locations and registers name.
abbrev pub locations : Content → List Name
locations t =
    in_order bytes_eq is_name_before
    (flat_map locations_of_entry t.init ++ locations_of_formula t.condition
    ++ flat_map locations_of_observable t.observed)
