-- By which code values of a store are told apart: an index, and the code of a value.
use base.Stored.{Coded, coded×, coded_ℕ, coded_via}
use Rattle.value_store.specs.Tokens.{TokenShown}

abbrev pub shown_coded : {V : Type 0} → Coded V → Coded (TokenShown V)
shown_coded {V} c =
    coded_via (coded× coded_ℕ c) (λ (s : TokenShown V). (s.index, s.value))
    (λ x y e i. record { index = (e i).0; value = (e i).1 })
