-- The first fault with the sign that it stands at, as the two are looked for.
use Rattle.std.specs.Prelude.{ℕ, suc, ◌+◌, List, [], ◌∷◌, ◌||◌, Bool, true, false, length, reverse, codes, Option, Some, None}
use Rattle.text_values.specs.ModelValue.{Term, Terms, Atom, AllEvents, EmptyRelation, EmptySet, Join, Mark, Not, On, Apply, NoTerm, OneMore}
use Rattle.binding_kinds.specs.declared.fault.ModelFault.{ModelFault}
use Rattle.binding_kinds.specs.declared.fault.ModelFault.TheVariants as faults
use Rattle.binding_kinds.specs.Value.{Naming, Bound, BareItem, Group, Check, Mute, Defined}
use Rattle.binding_kinds.specs.Kinds.{found, takes, is_relation, is_set_kind, is_turned, takes_body}
use Rattle.binding_kinds.specs.Meanings.{parameter_of}
use Rattle.binding_kinds.specs.Verdict.{unless, of_name, of_parameter}
use Rattle.binding_kinds.specs.Senses.{Sense, sense_of, count_of, sizes_in, kind_in, kinds_in, under_of, fault_applied}
use Rattle.binding_kinds.specs.Faults.{with_own, names_after, senses_after}
use Rattle.binding_kinds.specs.First.{let_fault, fault_inside, apply_fault}
use Rattle.fault_texts.specs.declared.place.SignFault.{SignFault}
use Rattle.fault_texts.specs.declared.place.ItemFault.{ItemFault}
use Rattle.fault_texts.specs.Signs.{infix_sign, postfix_sign, check_sign}

-- a fault, and the name, the sign or the operator that it stands at
pub record SignedFault : Type 0 where
  pub fault : ModelFault
  pub sign : List ℕ

abbrev pub signed_fault_of : SignFault → SignedFault
signed_fault_of f = record { fault = f.fault; sign = f.sign.now }

-- the fault at this sign, if there is one
abbrev pub signed_fault : Option ModelFault → List ℕ → Option SignedFault
signed_fault None sign = None
signed_fault (Some k) sign = Some (record { fault = k; sign = sign })

-- the first that is there
abbrev pub or_later : Option SignedFault → Option SignedFault → Option SignedFault
or_later None later = later
or_later (Some f) later = Some f

abbrev mutual
  -- of an expression, seen under a complement or not
  pub first_fault_in : List Sense → List Naming → ℕ → Bool → Term → Option SignedFault
  first_fault_in ss names from under (Atom x) = signed_fault (of_name from under (found names x)) x
  first_fault_in ss names from under AllEvents = None
  first_fault_in ss names from under EmptyRelation = None
  first_fault_in ss names from under EmptySet = None
  first_fault_in ss names from under (Join op a b) =
      or_later (first_fault_in ss names from under a)
      (or_later (signed_fault
      (unless (takes op (kind_in ss names a) (kind_in ss names b)) faults.Kind)
      (infix_sign op))
      (first_fault_in ss names from (is_turned op under) b))
  first_fault_in ss names from under (Mark op a) =
      or_later (first_fault_in ss names from under a) (signed_fault
      (unless (is_relation (kind_in ss names a)) faults.Kind) (postfix_sign op))
  first_fault_in ss names from under (Not a) = first_fault_in ss names from true a
  first_fault_in ss names from under (On a) =
      or_later (signed_fault (unless (is_set_kind (kind_in ss names a)) faults.Kind) (codes "["))
      (first_fault_in ss names from under a)
  first_fault_in ss names from under (Apply x arguments) =
      let f = sense_of ss (count_of arguments) (found names x) in
      or_later (signed_fault
      (fault_applied f (sizes_in ss names arguments) (kinds_in ss names arguments) None) x)
      (first_fault_among ss names from under (under_of f) 0 arguments)

  -- of the arguments from that index on
  pub first_fault_among : List Sense → List Naming → ℕ → Bool → (ℕ → Bool) → ℕ → Terms
      → Option SignedFault
  first_fault_among ss names from under is_under index NoTerm = None
  first_fault_among ss names from under is_under index (OneMore a others) =
      or_later (first_fault_in ss names from (under || is_under index) a)
      (first_fault_among ss names from under is_under (suc index) others)

-- of the bindings of a group, behind these names
abbrev pub first_fault_in_group : List Sense → List Naming → ℕ → Bool → List (List ℕ) → List Bound
    → Option SignedFault
first_fault_in_group ss names from recursive earlier [] = None
first_fault_in_group ss names from recursive earlier (b ∷ bs) =
    or_later (signed_fault (let_fault ss names recursive earlier b) b.name)
    (or_later (first_fault_in ss names from false b.body) (first_fault_in_group ss names from
    recursive (b.name ∷ earlier) bs))

-- of parameters, behind these
abbrev pub first_fault_in_parameters : List (List ℕ) → List (List ℕ) → Option SignedFault
first_fault_in_parameters earlier [] = None
first_fault_in_parameters earlier (p ∷ ps) =
    or_later (signed_fault (of_parameter earlier p) p) (first_fault_in_parameters (p ∷ earlier) ps)

abbrev mutual
  -- of the body of a function
  pub first_fault_in_body : List Sense → List Naming → List (List ℕ) → Term → Option SignedFault
  first_fault_in_body ss names ps (Atom x) =
      signed_fault (fault_inside (parameter_of (reverse ps) x) (found names x)) x
  first_fault_in_body ss names ps AllEvents = None
  first_fault_in_body ss names ps EmptyRelation = None
  first_fault_in_body ss names ps EmptySet = None
  first_fault_in_body ss names ps (Join op a b) =
      or_later (first_fault_in_body ss names ps a) (first_fault_in_body ss names ps b)
  first_fault_in_body ss names ps (Mark op a) = first_fault_in_body ss names ps a
  first_fault_in_body ss names ps (Not a) = first_fault_in_body ss names ps a
  first_fault_in_body ss names ps (On a) = first_fault_in_body ss names ps a
  first_fault_in_body ss names ps (Apply x arguments) =
      or_later (signed_fault
      (apply_fault (parameter_of (reverse ps) x)
      (sense_of ss (count_of arguments) (found names x))) x)
      (first_fault_in_bodies ss names ps arguments)

  pub first_fault_in_bodies : List Sense → List Naming → List (List ℕ) → Terms → Option SignedFault
  first_fault_in_bodies ss names ps NoTerm = None
  first_fault_in_bodies ss names ps (OneMore a others) =
      or_later (first_fault_in_body ss names ps a) (first_fault_in_bodies ss names ps others)

abbrev pub first_fault_in_item : List Sense → List Naming → ℕ → BareItem → Option SignedFault
first_fault_in_item ss names item (Group true bs) =
    first_fault_in_group ss (with_own names item 0 bs) (length names) true [] bs
first_fault_in_item ss names item (Group false bs) =
    first_fault_in_group ss names (length names) false [] bs
first_fault_in_item ss names item (Check w e) =
    or_later (signed_fault (unless (takes_body w (kind_in ss names e)) faults.Kind) (check_sign w))
    (first_fault_in ss names (length names) false e)
first_fault_in_item ss names item Mute = None
first_fault_in_item ss names item (Defined n ps b) =
    or_later (first_fault_in_parameters [] ps) (first_fault_in_body ss names ps b)

-- the same, with the number of the item, from 0
pub record IndexedFault : Type 0 where
  pub item : ℕ
  pub fault : ModelFault
  pub sign : List ℕ

abbrev pub indexed_fault_of : ItemFault → IndexedFault
indexed_fault_of f = record { item = f.item; fault = f.fault; sign = f.sign.now }

abbrev pub indexed_fault : ℕ → Option SignedFault → Option IndexedFault → Option IndexedFault
indexed_fault item None later = later
indexed_fault item (Some f) later = Some (record { item = item; fault = f.fault; sign = f.sign })

-- of the items, the first of which has that number
abbrev pub first_fault_in_items : List Sense → List Naming → ℕ → List BareItem → Option IndexedFault
first_fault_in_items ss names from [] = None
first_fault_in_items ss names from (c ∷ cs) =
    indexed_fault from (first_fault_in_item ss names from c) (first_fault_in_items
    (senses_after ss names c) (names_after ss names from c) (from + 1) cs)
