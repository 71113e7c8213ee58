-- The tables that are made for each combination of kinds.
use Rattle.std.specs.Prelude.{◌≡◌, ℕ, ◌+◌, ◌*◌, ◌^◌, ◌<◌, List, length, get_or, false, not, ◌||◌, if◌then◌else◌}
use Rattle.text_values.specs.declared.model.Infix.{Infix}
use Rattle.text_values.specs.ModelValue.{Term, Terms}
use Rattle.binding_kinds.specs.declared.kinds.Kind.{Kind}
use Rattle.binding_kinds.specs.declared.kinds.Kind.TheVariants.{OfAny}
use Rattle.binding_kinds.specs.declared.signature.Signature.{Signature}
use Rattle.binding_kinds.specs.declared.column.Gathered.{Gathered}
use Rattle.binding_kinds.specs.declared.function.Function.{Function}
use Rattle.binding_kinds.specs.Value.{Naming}
use Rattle.binding_kinds.specs.Kinds.{joined_kind, takes, marked, narrowed, is_relation, is_set_kind}
use Rattle.binding_kinds.specs.Combinations.{digit, kinds_number, has_any, unknown}
use Rattle.binding_kinds.specs.Senses.{Sense}
use Rattle.binding_kinds.specs.Functions.{kind_of_body, clashes_in, kinds_of_body, clash_among}

-- The list has an entry for each of the first n combinations of so many kinds, which is made of its
-- kinds.
pub record IsFilled {X : Type 0} (other : X) (arity n : ℕ) (made : List Kind → X) (column : List X)
    : Type 0 where
  pub long : length column ≡ n
  pub entries : (kinds : List Kind) → length kinds ≡ arity → kinds_number kinds < n
      → get_or column (kinds_number kinds) other ≡ made kinds

abbrev pub plain : Kind → Signature
plain k = record { kind = k; clashes = false }

abbrev pub infix_signature : Infix → Signature → Signature → Signature
infix_signature op s t =
    record {
      kind = joined_kind op s.kind t.kind;
      clashes = s.clashes || t.clashes || not (takes op s.kind t.kind);
    }

abbrev pub postfix_signature : Signature → Signature
postfix_signature s = record { kind = marked s.kind; clashes = s.clashes || not (is_relation s.kind) }

abbrev pub identity_signature : Signature → Signature
identity_signature s = record { kind = narrowed s.kind; clashes = s.clashes || not (is_set_kind s.kind) }

-- no argument yet
abbrev pub none_gathered : Gathered
none_gathered = record { combination = 0; clashes = false }

-- with the argument at that index
abbrev pub with_one : ℕ → Gathered → Signature → Gathered
with_one index g s =
    record {
      combination = g.combination + digit s.kind * 3 ^ index;
      clashes = g.clashes || s.clashes;
    }

-- what the function makes of its arguments
abbrev pub of_applied : Function → Gathered → Signature
of_applied f g =
    let s = get_or f.signatures.items g.combination unknown in
    record { kind = s.kind; clashes = g.clashes || s.clashes }

-- what a function makes of arguments of these kinds, of which its body makes that
abbrev pub of_function : List Kind → Signature → Signature
of_function ks s = record { kind = if has_any ks then OfAny else s.kind; clashes = s.clashes }

-- an expression in the body of a function whose parameters have these kinds
abbrev pub signature_in : List Sense → List Naming → List (List ℕ) → Term → List Kind → Signature
signature_in ss names ps t ks =
    record { kind = kind_of_body ss names ps ks t; clashes = clashes_in ss names ps ks t }

-- these arguments there
abbrev pub gathered_in : List Sense → List Naming → List (List ℕ) → Terms → List Kind → Gathered
gathered_in ss names ps ts ks =
    record { combination = kinds_number (kinds_of_body ss names ps ks ts); clashes = clash_among ss names ps ks ts }
