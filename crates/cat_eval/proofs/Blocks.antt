-- Blocks of columns, and names that are found in them.
use Rattle.std.proofs.Common.{ℕ, ◌≡◌, ◌<◌, ◌⊎◌, ◌++◌, inl, inr, zero, suc, Bool, true, false, List, [], ◌∷◌, Vec, Global, length, length-append, get_or, Contains, sym, subst, refl, arith}
use Rattle.std.proofs.lemmas.List.{get_or_append_left}
use Rattle.std.proofs.lemmas.List.Elements.{Contains-append_cases}
use Rattle.std.proofs.Math.Seq.{get_or-append_seam}
use Rattle.predefined_names.specs.declared.predefined.Predefined.{Predefined}
use Rattle.candidate_spaces.specs.Space.{Candidate}
use Rattle.cat_machine.specs.declared.seen.NamedColumn.{NamedColumn}
use Rattle.cat_eval.specs.declared.table.Entry.{Entry}
use Rattle.cat_eval.specs.Tables.{IsColumnOf, IsBlock, AreBlocks, HasName, AreColumnsFor, entry_names}
use Rattle.cat_eval.proofs.Listed.{single}

-- an element of a list that has one
pub some_of : {X : Type 0} (xs : List X) (i : ℕ) → i < length xs → X
some_of [] i lt = absurd (omega (arith, lt))
some_of (x ∷ xs) i lt = x

-- ---- one block more

pub blocks_with : (blocks : List (Vec Entry Global)) (one : Vec Entry Global) (cs : List Candidate)
    → AreBlocks blocks cs → IsBlock one.items cs → (b : ℕ) → b < length (blocks ++ one ∷ [])
    → (d : Vec Entry Global) → IsBlock (get_or (blocks ++ one ∷ []) b d).items cs
blocks_with [] one cs right now zero lt d = now
blocks_with [] one cs right now (suc b) lt d = absurd (omega (arith, lt))
blocks_with (x ∷ xs) one cs right now zero lt d = right 0 (omega arith) d
blocks_with (x ∷ xs) one cs right now (suc b) lt d =
    blocks_with xs one cs (λ j less e. right (suc j) (omega (arith, less)) e) now b
    (omega (arith, lt)) d

pub has_kept : (blocks : List (Vec Entry Global)) (one : Vec Entry Global) (name : Predefined)
    → HasName blocks name → HasName (blocks ++ one ∷ []) name
has_kept blocks one name h = (
  h.0,
  omega (arith, h.1, length-append blocks (one ∷ [])),
  (λ d. rw (get_or_append_left blocks (one ∷ []) d h.0 h.1) (h.2 d)),
)

pub has_last : (blocks : List (Vec Entry Global)) (one : Vec Entry Global) (name : Predefined)
    → Contains (entry_names one.items) name → HasName (blocks ++ one ∷ []) name
has_last blocks one name inside = (
  length blocks,
  omega (arith, length-append blocks (one ∷ [])),
  (λ d. rw (get_or-append_seam blocks one [] d) inside),
)

-- a name that is in no block is not there
pub no_name : (blocks : List (Vec Entry Global)) (name : Predefined)
    → ((b : ℕ) → b < length blocks → (d : Vec Entry Global)
    → Contains (entry_names (get_or blocks b d).items) name → ⊥) → HasName blocks name → ⊥
no_name blocks name none h =
    let d : Vec Entry Global = some_of blocks h.0 h.1 in
    none h.0 h.1 d (h.2 d)

-- ---- one name more

pub nothing_in : (x : Predefined) → Contains [] x → ⊥
nothing_in x h = omega (arith, h.1)

-- each name of a sort is there, or among those that are to be made
pub missing_more : (P Q : Predefined → Type 0) (old new some : List Predefined) (n : Predefined)
    → ((x : Predefined) → Contains old x → Contains new x) → (P n → Q n ⊎ Contains new n)
    → ((x : Predefined) → Contains some x → P x → Q x ⊎ Contains old x) → (x : Predefined)
    → Contains (some ++ n ∷ []) x → P x → Q x ⊎ Contains new x
missing_more P Q old new some n kept here before x inside holds =
    elim (Contains-append_cases some (n ∷ []) x inside) [
      | inl h ↦ elim (before x h holds) [ inl q ↦ inl q | inr c ↦ inr (kept x c) ]
      | inr last ↦
          let same : n ≡ x = single n x last in
          subst (λ (y : Predefined). Q y ⊎ Contains new y) same
          (here (subst (λ (y : Predefined). P y) (sym same) holds))
    ]

-- each name of a sort is among those that were found
pub found_more : (P : Predefined → Type 0) (old new some : List Predefined) (n : Predefined)
    → ((x : Predefined) → Contains old x → Contains new x) → (P n → Contains new n)
    → ((x : Predefined) → Contains some x → P x → Contains old x) → (x : Predefined)
    → Contains (some ++ n ∷ []) x → P x → Contains new x
found_more P old new some n kept here before x inside holds =
    elim (Contains-append_cases some (n ∷ []) x inside) [
      | inl h ↦ kept x (before x h holds)
      | inr last ↦
          let same : n ≡ x = single n x last in
          subst (λ (y : Predefined). Contains new y) same
          (here (subst (λ (y : Predefined). P y) (sym same) holds))
    ]

pub columns_with : (xs : List NamedColumn) (one : NamedColumn) (cs : List Candidate)
    → AreColumnsFor xs cs → IsColumnOf one.column.now one.name cs → (i : ℕ)
    → i < length (xs ++ one ∷ []) → (d : NamedColumn)
    → IsColumnOf (get_or (xs ++ one ∷ []) i d).column.now (get_or (xs ++ one ∷ []) i d).name cs
columns_with [] one cs right now zero lt d = now
columns_with [] one cs right now (suc i) lt d = absurd (omega (arith, lt))
columns_with (x ∷ xs) one cs right now zero lt d = right 0 (omega arith) d
columns_with (x ∷ xs) one cs right now (suc i) lt d =
    columns_with xs one cs (λ j less e. right (suc j) (omega (arith, less)) e) now i
    (omega (arith, lt)) d

-- a name is of one sort or of the other
pub either_sort : (b : Bool) (P : Type 0) → (b ≡ false → P) → (b ≡ true → P) → P
either_sort true P if_not if_so = if_so refl
either_sort false P if_not if_so = if_not refl
