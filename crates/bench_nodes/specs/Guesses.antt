-- Guesses of where elements stand, which are looked up in place of a search. Each element has a
-- spot among them; elements of one number have one spot. Places and the type `NodeTable` cite it.
use Rattle.std.specs.Prelude.{ℕ, suc, ◌-◌, ◌%◌, ◌==◌, ◌&&◌, nat_lt, nat_le, Bool, true, List, [], ◌∷◌, length, map, get_or, slice_set, if◌then◌else◌}
use Rattle.memo_core.specs.declared.keys.Kind.{Kind}
use Rattle.memo_core.specs.declared.keys.Kind.TheVariants.{Space, Group, Check, Verdict}
use Rattle.bench_nodes.specs.declared.table.ItemRow.{ItemRow}
use Rattle.bench_nodes.specs.declared.table.Slot.{Slot}

-- what is left of a number over a count
abbrev pub left_of : ℕ → ℕ → ℕ
left_of number count = if count == 0 then 0 else number % count

-- the spot of an item among so many
abbrev pub item_spot : ℕ → ItemRow → ℕ
item_spot count i = left_of i.number count

-- the spot of a slot: verdicts from behind
abbrev pub spot_of : Kind → ℕ → ℕ → ℕ
spot_of Space of count = left_of of count
spot_of Group of count = left_of of count
spot_of Check of count = left_of of count
spot_of Verdict of count = (count - 1) - left_of of count

abbrev pub slot_spot : ℕ → Slot → ℕ
slot_spot count s = spot_of s.kind s.of count

-- what is guessed at the spot of each element is at most the element's index, from this one on
abbrev pub are_first : List ℕ → ℕ → List ℕ → Bool
are_first guesses index [] = true
are_first guesses index (s ∷ ss) =
    nat_le (get_or guesses s 0) index && are_first guesses (suc index) ss

-- so it is of items and of slots: the first element of a spot is guessed there
abbrev pub are_items_guessed : List ℕ → List ItemRow → Bool
are_items_guessed guesses rows = are_first guesses 0 (map (item_spot (length guesses)) rows)

abbrev pub are_slots_guessed : List ℕ → List Slot → Bool
are_slots_guessed guesses slots = are_first guesses 0 (map (slot_spot (length guesses)) slots)

-- the guesses with an index at a spot, where no lower one is guessed
abbrev pub with_guess : List ℕ → ℕ → ℕ → List ℕ
with_guess guesses spot index =
    if nat_lt index (get_or guesses spot 0) then slice_set guesses spot index else guesses
