-- Combinations of the kinds of arguments as numbers.
use Rattle.std.specs.Prelude.{ℕ, ◌+◌, ◌*◌, List, [], ◌∷◌, Bool, true, false}
use Rattle.binding_kinds.specs.declared.kinds.Kind.{Kind}
use Rattle.binding_kinds.specs.declared.kinds.Kind.TheVariants.{OfSet, OfRelation, OfAny}
use Rattle.binding_kinds.specs.declared.signature.Signature.{Signature}

abbrev pub digit : Kind → ℕ
digit OfSet = 0
digit OfRelation = 1
digit OfAny = 2

-- the number in base three whose digits are the kinds, the lowest first
abbrev pub kinds_number : List Kind → ℕ
kinds_number [] = 0
kinds_number (k ∷ ks) = digit k + 3 * kinds_number ks

abbrev pub is_any : Kind → Bool
is_any OfSet = false
is_any OfRelation = false
is_any OfAny = true

-- one of the kinds fits every kind
abbrev pub has_any : List Kind → Bool
has_any [] = false
has_any (OfSet ∷ ks) = has_any ks
has_any (OfRelation ∷ ks) = has_any ks
has_any (OfAny ∷ ks) = true

-- what is said of a combination that is not in a table
abbrev pub unknown : Signature
unknown = record { kind = OfAny; clashes = false }
