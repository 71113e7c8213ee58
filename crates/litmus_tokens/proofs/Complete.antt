-- The machine takes what a tree spells.
use Rattle.std.proofs.Common.{◌≡◌, ℕ, ◌+◌, ◌<◌, ◌≤◌, Bool, true, false, List, [], ◌∷◌, Option, Some, None, refl, sym, ap, ◌∙◌, arith}
use Rattle.std.specs.Prelude.{nat_lt, codes, if◌then◌else◌}
use Rattle.std.specs.Str.{bytes_eq}
use Rattle.std.proofs.lemmas.Slice.Eq.{bytes_eq-Decides}
use Rattle.std.proofs.lemmas.Bool.{le-leb, lt-leb, lt-ltb}
use Rattle.text_values.specs.declared.test.Place.{Place}
use Rattle.text_values.specs.declared.test.Place.TheVariants as places
use Rattle.text_values.specs.declared.test.Value as declared_value
use Rattle.text_values.specs.declared.test.Connective.{Connective}
use Rattle.text_values.specs.declared.test.Connective.TheVariants as connectives
use Rattle.text_values.specs.TestValue.{Formula, Constant, Holds, Join, level}
use Rattle.litmus_tokens.specs.declared.token.Token.{Token}
use Rattle.litmus_tokens.specs.declared.token.Token.TheVariants as tokens
use Rattle.litmus_tokens.specs.declared.token.Mark.TheVariants as marks
use Rattle.litmus_tokens.specs.Words.{register_of, is_known, or_zero}
use Rattle.litmus_tokens.specs.declared.place.PlaceExpectation.TheVariants.{WantsColon}
use Rattle.litmus_tokens.specs.declared.place.WrittenPlace.TheVariants as written
use Rattle.litmus_tokens.specs.Conditions.{PlaceTree, Location, Register, ValueTree, Number, Address, spelled_place, spelled_value, place_meaning, value_meaning, IsPlaceTree, HasThread, IsValueTree, FormulaTree, Word, Atom, Prefix, Pair, Group, constant_word, connective_token, spelled, tree_formula, tightness, IsGrouped, HasAtoms, depth, operators, Limits, IsProposition}
use Rattle.litmus_tokens.specs.PlaceMachine.{register_ends, place_of}
use Rattle.litmus_tokens.specs.ConditionMachine.{ConditionFrame, InGroup, InPrefix, LeftOf, ConditionExpectation, Wants, HasConstant, HasNot, InPlace, WantsEquals, WantsValue, Has, ConditionStepResult, Goes, Refuses, open_count, fold_to, expected_after_word, expected_after_place, in_place, operand, left_frames, condition_closed, condition_ended, atom_read, go_on, proposition}
use Rattle.litmus_tokens.proofs.Branches.{level-le}
use Rattle.litmus_tokens.proofs.Places.{place_of_written, value_taken}

-- what stands open, and the operand, once a tree is read
abbrev pub pending : FormulaTree → List ConditionFrame → List ConditionFrame × Formula
pending (Word b) fs = (fs, Constant b)
pending (Atom p v) fs = (fs, Holds (place_meaning p) (value_meaning v))
pending (Prefix tilde a) fs = pending a (InPrefix ∷ fs)
pending (Pair op a b) fs = pending b (LeftOf op (tree_formula a) ∷ fs)
pending (Group a) fs = (fs, tree_formula a)

abbrev pub wanted : List ConditionFrame → ℕ
wanted [] = 0
wanted (InGroup ∷ fs) = 0
wanted (InPrefix ∷ fs) = 4
wanted (LeftOf op a ∷ fs) = level op

fold_pending : (t : FormulaTree) (fs : List ConditionFrame) (l : ℕ) → IsGrouped t → l ≤ tightness t
    → fold_to l (pending t fs).0 (pending t fs).1 ≡ fold_to l fs (tree_formula t)
fold_pending (Word b) fs l g h = refl
fold_pending (Atom p v) fs l g h = refl
fold_pending (Prefix tilde a) fs l g h = fold_pending a (InPrefix ∷ fs) l g.1 (omega (arith, g.0))
fold_pending (Pair op a b) fs l g h =
    let e = le-leb l (level op) h in
    fold_pending b (LeftOf op (tree_formula a) ∷ fs) l g.3 (omega (arith, g.1))
    ∙ ap
    (λ (x : Bool). if x then fold_to l fs (Join op (tree_formula a) (tree_formula b))
    else (LeftOf op (tree_formula a) ∷ fs, tree_formula b)) e
fold_pending (Group a) fs l g h = refl

-- an operator joins nothing where it may stand
fold_stays : (op : Connective) (fs : List ConditionFrame) (v : Formula) → wanted fs ≤ level op
    → fold_to (level op + 1) fs v ≡ (fs, v)
fold_stays op [] v h = refl
fold_stays op (InGroup ∷ fs) v h = refl
fold_stays op (InPrefix ∷ fs) v h = let e = level-le op in absurd (omega arith)
fold_stays op (LeftOf o a ∷ fs) v h =
    ap (λ (x : Bool). if x then fold_to (level op + 1) fs (Join o a v) else (LeftOf o a ∷ fs, v))
    (lt-leb (level op + 1) (level o) (omega arith))

joins_pending : (op : Connective) (a : FormulaTree) (fs : List ConditionFrame) → IsGrouped a
    → level op + 1 ≤ tightness a → wanted fs ≤ level op
    → left_frames op (fold_to (level op + 1) (pending a fs).0 (pending a fs).1)
    ≡ LeftOf op (tree_formula a) ∷ fs
joins_pending op a fs g h w =
    ap (left_frames op) (fold_pending a fs (level op + 1) g h ∙ fold_stays op fs (tree_formula a) w)

-- what may stand behind a proposition
abbrev pub CanFollow : List Token → Type 0
CanFollow (tokens.Mark marks.Equals ∷ ts) = ⊥
CanFollow _ = Unit {0}

connective_follows : (op : Connective) (ts : List Token) → CanFollow (connective_token op ∷ ts)
connective_follows connectives.And ts = tt
connective_follows connectives.Or ts = tt
connective_follows connectives.Implies ts = tt

module _ (most : Limits) (threads : ℕ) where
  abbrev pub run : List ConditionFrame → ℕ → ConditionExpectation → List Token → Option Formula
  run fs used expected ts = proposition most threads fs used expected ts

  abbrev pub from : ConditionStepResult → List Token → Option Formula
  from x ts = go_on (λ gs u k. proposition most threads gs u k ts) ts x

  opened_run : (next : ConditionStepResult) (fs : List ConditionFrame) (ts : List Token)
      → open_count fs < most.nesting
      → from (if nat_lt (open_count fs) most.nesting then next else Refuses) ts ≡ from next ts
  opened_run next fs ts lt =
      ap (λ (x : Bool). from (if x then next else Refuses) ts) (lt-ltb _ _ lt)

  -- a word before no equals sign is no location
  word_drop : (b : Bool) (fs : List ConditionFrame) (used : ℕ) (rest : List Token) → CanFollow rest
      → run fs used (HasConstant b) rest ≡ run fs used (Has (Constant b)) rest
  word_drop b fs used [] c = refl
  word_drop b fs used (tokens.Mark marks.Equals ∷ ts) c = absurd c
  word_drop b fs used (_ ∷ ts) c = refl

  not_token : (t : Token) (fs : List ConditionFrame) (used : ℕ) (ts : List Token) → CanFollow (t ∷ [])
      → open_count fs < most.nesting
      → run fs used HasNot (t ∷ ts) ≡ run (InPrefix ∷ fs) used Wants (t ∷ ts)
  not_token (tokens.Mark marks.Equals) fs used ts c lt = absurd c
  not_token t fs used ts c lt = opened_run (operand most threads (InPrefix ∷ fs) used t) fs ts lt

  -- the word `not` before an operand
  not_operand : (a : FormulaTree) (fs : List ConditionFrame) (used : ℕ) (rest : List Token)
      → open_count fs < most.nesting
      → run fs used HasNot (spelled a rest) ≡ run (InPrefix ∷ fs) used Wants (spelled a rest)
  not_operand (Word b) fs used rest lt =
      not_token (tokens.Word (constant_word b)) fs used rest tt lt
  not_operand (Atom (Location false n) v) fs used rest lt =
      not_token (tokens.Word n) fs used (tokens.Mark marks.Equals ∷ spelled_value v rest) tt lt
  not_operand (Atom (Location true n) v) fs used rest lt =
      not_token (tokens.Mark marks.OpenBracket) fs used
      (tokens.Word n ∷ tokens.Mark marks.CloseBracket ∷ tokens.Mark marks.Equals
      ∷ spelled_value v rest) tt lt
  not_operand (Atom (Register t r) v) fs used rest lt =
      not_token (tokens.Number false t) fs used
      (tokens.Mark marks.Colon ∷ tokens.Word r ∷ tokens.Mark marks.Equals
      ∷ spelled_value v rest) tt lt
  not_operand (Prefix true a) fs used rest lt =
      not_token (tokens.Mark marks.Tilde) fs used (spelled a rest) tt lt
  not_operand (Prefix false a) fs used rest lt =
      not_token (tokens.Word (codes "not")) fs used (spelled a rest) tt lt
  not_operand (Pair op a b) fs used rest lt =
      not_operand a fs used (connective_token op ∷ spelled b rest) lt
  not_operand (Group a) fs used rest lt =
      not_token (tokens.Mark marks.Open) fs used (spelled a (tokens.Mark marks.Close ∷ rest)) tt lt

  -- a word before an equals sign is a location
  named_run : (w : List ℕ) (fs : List ConditionFrame) (used : ℕ) (rest : List Token)
      → run fs used (expected_after_word w) (tokens.Mark marks.Equals ∷ rest)
      ≡ run fs used (WantsValue (places.Location w)) rest
  named_run w fs used rest =
      first (bytes_eq w (codes "true")) ((bytes_eq-Decides w (codes "true")).0)
    where
      spelled_so : (u : List ℕ) → w ≡ u
          → run fs used (WantsValue (places.Location u)) rest
          ≡ run fs used (WantsValue (places.Location w)) rest
      spelled_so u e =
          ap (λ (x : List ℕ). run fs used (WantsValue (places.Location x)) rest) (sym e)

      third : (x : Bool) → (x ≡ true → w ≡ codes "not")
          → run fs used (if x then HasNot else WantsEquals (places.Location w))
          (tokens.Mark marks.Equals ∷ rest)
          ≡ run fs used (WantsValue (places.Location w)) rest
      third true h = spelled_so (codes "not") (h refl)
      third false h = refl

      second : (x : Bool) → (x ≡ true → w ≡ codes "false")
          → run fs used
          (if x then HasConstant false
          else (if bytes_eq w (codes "not") then HasNot
          else WantsEquals (places.Location w)))
          (tokens.Mark marks.Equals ∷ rest)
          ≡ run fs used (WantsValue (places.Location w)) rest
      second true h = spelled_so (codes "false") (h refl)
      second false h = third (bytes_eq w (codes "not")) ((bytes_eq-Decides w (codes "not")).0)

      first : (x : Bool) → (x ≡ true → w ≡ codes "true")
          → run fs used
          (if x then HasConstant true
          else (if bytes_eq w (codes "false") then HasConstant false
          else (if bytes_eq w (codes "not") then HasNot
          else WantsEquals (places.Location w))))
          (tokens.Mark marks.Equals ∷ rest)
          ≡ run fs used (WantsValue (places.Location w)) rest
      first true h = spelled_so (codes "true") (h refl)
      first false h = second (bytes_eq w (codes "false")) ((bytes_eq-Decides w (codes "false")).0)

  place_run : threads < 18446744073709551616
      → (p : PlaceTree) (fs : List ConditionFrame) (used : ℕ) (rest : List Token) → IsPlaceTree p
      → HasThread threads p
      → run fs used Wants (spelled_place p (tokens.Mark marks.Equals ∷ rest))
      ≡ run fs used (WantsValue (place_meaning p)) rest
  place_run few (Location false n) fs used rest i h = named_run n fs used rest
  place_run few (Location true n) fs used rest i h = refl
  place_run few (Register t r) fs used rest i h =
      ap
      (λ (x : Bool). from (if x then Goes fs used (InPlace (WantsColon t)) else Refuses)
      (tokens.Mark marks.Colon ∷ tokens.Word r ∷ tokens.Mark marks.Equals ∷ rest))
      (lt-ltb _ _ h)
      ∙ by_register (register_of r) i
      ∙ ap (λ (q : Place). run fs used (WantsValue q) rest)
      (place_of_written threads (Register t r) few h)
    where
      by_register : (o : Option ℕ) → is_known o ≡ true
          → from (in_place fs used (expected_after_place (register_ends t o)))
          (tokens.Mark marks.Equals ∷ rest)
          ≡ run fs used (WantsValue (place_of (written.Register t (or_zero o)))) rest
      by_register (Some k) e = refl
      by_register None e = absurd cc

  value_run : (v : ValueTree) (p : Place) (fs : List ConditionFrame) (used : ℕ) (rest : List Token)
      → IsValueTree v
      → run fs used (WantsValue p) (spelled_value v rest)
      ≡ run fs used (Has (Holds p (value_meaning v))) rest
  value_run (Number negative ds) p fs used rest i =
      ap (λ (o : Option declared_value.Value). from (atom_read fs used p o) rest)
      (value_taken (Number negative ds) i)
  value_run (Address n) p fs used rest i = refl

  -- an operator behind an operand
  joins_run : (op : Connective) (fs : List ConditionFrame) (used : ℕ) (v : Formula) (ts : List Token)
      → used < most.operators
      → run fs used (Has v) (connective_token op ∷ ts)
      ≡ run (left_frames op (fold_to (level op + 1) fs v)) (used + 1) Wants ts
  joins_run connectives.And fs used v ts lt =
      ap
      (λ (x : Bool). from
      (if x then Goes (left_frames connectives.And (fold_to 4 fs v)) (used + 1) Wants
      else Refuses) ts)
      (lt-ltb _ _ lt)
  joins_run connectives.Or fs used v ts lt =
      ap
      (λ (x : Bool). from
      (if x then Goes (left_frames connectives.Or (fold_to 3 fs v)) (used + 1) Wants
      else Refuses) ts)
      (lt-ltb _ _ lt)
  joins_run connectives.Implies fs used v ts lt =
      ap
      (λ (x : Bool). from
      (if x then Goes (left_frames connectives.Implies (fold_to 2 fs v)) (used + 1) Wants
      else Refuses) ts)
      (lt-ltb _ _ lt)

  word_run : (b : Bool) (fs : List ConditionFrame) (used : ℕ) (rest : List Token)
      → run fs used Wants (tokens.Word (constant_word b) ∷ rest) ≡ run fs used (HasConstant b) rest
  word_run true fs used rest = refl
  word_run false fs used rest = refl

  pub tree_run : threads < 18446744073709551616
      → (t : FormulaTree) (fs : List ConditionFrame) (used all : ℕ) (rest : List Token) → IsGrouped t
      → HasAtoms threads t → wanted fs ≤ tightness t → open_count fs + depth t ≤ most.nesting
      → used + operators t ≡ all → all ≤ most.operators → CanFollow rest
      → run fs used Wants (spelled t rest) ≡ run (pending t fs).0 all (Has (pending t fs).1) rest
  tree_run few (Word b) fs used all rest g h w d u m c =
      let e : used ≡ all = omega arith in
      word_run b fs used rest ∙ word_drop b fs used rest c
      ∙ ap (λ (k : ℕ). run fs k (Has (Constant b)) rest) e
  tree_run few (Atom p v) fs used all rest g h w d u m c =
      let e : used ≡ all = omega arith in
      place_run few p fs used (spelled_value v rest) h.0 h.1
      ∙ value_run v (place_meaning p) fs used rest h.2
      ∙ ap (λ (k : ℕ). run fs k (Has (Holds (place_meaning p) (value_meaning v))) rest) e
  tree_run few (Prefix true a) fs used all rest g h w d u m c =
      opened_run (Goes (InPrefix ∷ fs) used Wants) fs (spelled a rest) (omega arith)
      ∙ tree_run few a (InPrefix ∷ fs) used all rest g.1 h g.0 (omega arith) u m c
  tree_run few (Prefix false a) fs used all rest g h w d u m c =
      not_operand a fs used rest (omega arith)
      ∙ tree_run few a (InPrefix ∷ fs) used all rest g.1 h g.0 (omega arith) u m c
  tree_run few (Pair op a b) fs used all rest g h w d u m c =
      let p = pending a fs in
      let same = joins_pending op a fs g.2 g.0 w in
      tree_run few a fs used (used + operators a) (connective_token op ∷ spelled b rest) g.2 h.0
      (omega (arith, g.0)) (omega arith) refl (omega arith)
      (connective_follows op (spelled b rest))
      ∙ joins_run op p.0 (used + operators a) p.1 (spelled b rest) (omega arith)
      ∙ ap (λ (gs : List ConditionFrame). run gs (used + operators a + 1) Wants (spelled b rest)) same
      ∙ tree_run few b (LeftOf op (tree_formula a) ∷ fs) (used + operators a + 1) all rest g.3 h.1 g.1
      (omega arith) (omega arith) m c
  tree_run few (Group a) fs used all rest g h w d u m c =
      opened_run (Goes (InGroup ∷ fs) used Wants) fs (spelled a (tokens.Mark marks.Close ∷ rest))
      (omega arith)
      ∙ tree_run few a (InGroup ∷ fs) used all (tokens.Mark marks.Close ∷ rest) g h (omega arith)
      (omega arith) u m tt
      ∙ ap (λ (p : List ConditionFrame × Formula). from (condition_closed all p) rest)
      (fold_pending a (InGroup ∷ fs) 0 g (omega arith))

-- the machine takes each proposition, and gives what it means
pub complete : (most : Limits) (threads : ℕ) → threads < 18446744073709551616
    → (ts : List Token) (v : Formula) → IsProposition most threads ts v
    → proposition most threads [] 0 Wants ts ≡ Some v
complete most threads few ts v m =
    let i = m.fine in
    ap (proposition most threads [] 0 Wants) m.whole
    ∙ tree_run most threads few m.tree [] 0 (operators m.tree) (tokens.End ∷ []) i.grouped i.atoms
    (omega arith) (let d = i.shallow in omega arith) (omega arith) i.short tt
    ∙ ap (λ (p : List ConditionFrame × Formula). from most threads (condition_ended p) [])
    (fold_pending m.tree [] 0 i.grouped (omega arith))
    ∙ ap Some m.meant
