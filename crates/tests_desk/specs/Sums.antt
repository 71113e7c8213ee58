-- Numbers below ten that add up, for tests.
use Rattle.std.specs.Prelude.{◌<◌, ◌+◌, ◌%◌, ◌^◌, List, [], ◌∷◌}
use Rattle.tests_desk.specs.declared.sums.Sum.{Sum}
use Rattle.tests_desk.specs.declared.sums.Addend.{Addend}

abbrev pub IsSmall : Addend → Type 0
IsSmall a = a.number < 10

abbrev pub AreSmallNumbers : List Addend → Type 0
AreSmallNumbers [] = Unit {0}
AreSmallNumbers (a ∷ as') = IsSmall a × AreSmallNumbers as'

abbrev pub no_sum : Sum
no_sum = record { total = 0 }

abbrev pub sum_after : Sum → Addend → Sum
sum_after s a = record { total = (s.total + a.number) % 2 ^ 64 }
