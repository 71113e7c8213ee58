-- The rule that the reader answers for a token that cannot stand is the one that the definitions
-- give it.
use Rattle.std.proofs.Common.{◌≡◌, ℕ, ◌+◌, ◌⊎◌, inl, inr, Bool, true, false, List, [], ◌∷◌, Option, Some, None, ℤ, refl, sym, ap, ◌∙◌, subst}
use Rattle.std.specs.Prelude.{◌==◌, ◌&&◌, ◌||◌, not, codes, if◌then◌else◌}
use Rattle.std.specs.Str.{bytes_eq}
use Rattle.std.proofs.lemmas.Slice.Eq.{bytes_eq-Decides}
use Rattle.std.proofs.lemmas.Bool.{and_parts, or_cases}
use Rattle.std.proofs.Math.Bool.{and-true, and-false}
use Rattle.litmus_tokens.specs.declared.rule.LitmusRule.{LitmusRule}
use Rattle.litmus_tokens.specs.declared.rule.LitmusRule.TheVariants as rules
use Rattle.litmus_tokens.specs.declared.stage.Stage.{Stage}
use Rattle.litmus_tokens.specs.declared.stage.Stage.TheVariants as stages
use Rattle.litmus_tokens.specs.declared.token.Token.{Token}
use Rattle.litmus_tokens.specs.declared.token.Token.TheVariants as tokens
use Rattle.litmus_tokens.specs.declared.token.Mark.TheVariants as marks
use Rattle.litmus_tokens.specs.Stage.{part_rule}
use Rattle.litmus_tokens.specs.Words.{is_filter, is_register, is_int, ends_table}
use Rattle.litmus_tokens.specs.Faults.{Ruling, Always, Where, RulingSays, cell_ruling}
use Rattle.litmus_words.specs.declared.opcode.DataOpcode.{DataOpcode}
use Rattle.litmus_words.specs.declared.opcode.Want.{Want}
use Rattle.litmus_words.specs.declared.opcode.Want.TheVariants as wants
use Rattle.litmus_words.specs.Words.{opcode_of, computing_of, accessing_of, fence_of, branch_of, token_fits}
use Rattle.litmus_words.specs.Machine.{ThreadSteps, Pending, CellExpectation, Begins, Labelled, InInstruction, WantsLabel, Whole, TableState, first_of, pending_with, at, is_last, operation, operand, table_step, is_row_start, is_begin, can_end, wanted, is_base, is_zero, separator_rule, table_rule_at}
use Rattle.litmus_table.specs.Laws.{is_whole_table, is_taken, ends_at, stands, IsInCell, GivesRules}
use Rattle.litmus_tokens.specs.Texts.{begins_tail, is_end}

no_opcode_r1 : opcode_of (codes "r1") ≡ None
unfolding computing_of accessing_of fence_of branch_of
no_opcode_r1 = refl

pub no_opcode_exists : opcode_of (codes "exists") ≡ None
unfolding computing_of accessing_of fence_of branch_of
no_opcode_exists = refl

pub no_opcode_forall : opcode_of (codes "forall") ≡ None
unfolding computing_of accessing_of fence_of branch_of
no_opcode_forall = refl

pub no_opcode_locations : opcode_of (codes "locations") ≡ None
unfolding computing_of accessing_of fence_of branch_of
no_opcode_locations = refl

is_word : (w v : List ℕ) → bytes_eq w v ≡ true → w ≡ v
is_word w v e = (bytes_eq-Decides w v).0 e

no_opcode_tail : (w : List ℕ) → ends_table w ≡ true → opcode_of w ≡ None
no_opcode_tail w e =
    first (or_cases (bytes_eq w (codes "locations") || bytes_eq w (codes "exists"))
    (bytes_eq w (codes "forall")) e)
  where
    second : (bytes_eq w (codes "locations") ≡ true) ⊎ (bytes_eq w (codes "exists") ≡ true)
        → opcode_of w ≡ None
    second (inl k) = ap opcode_of (is_word w (codes "locations") k) ∙ no_opcode_locations
    second (inr k) = ap opcode_of (is_word w (codes "exists") k) ∙ no_opcode_exists

    first : ((bytes_eq w (codes "locations") || bytes_eq w (codes "exists")) ≡ true)
        ⊎ (bytes_eq w (codes "forall") ≡ true) → opcode_of w ≡ None
    first (inl k) =
        second (or_cases (bytes_eq w (codes "locations")) (bytes_eq w (codes "exists")) k)
    first (inr k) = ap opcode_of (is_word w (codes "forall") k) ∙ no_opcode_forall

-- what stands behind the rows begins none
tail_refused : (threads : List ThreadSteps) (c offset : ℕ) (h : CellExpectation) (t : Token)
    → is_begin h ≡ true → begins_tail t ≡ true
    → table_step (record { threads = threads; column = c; expected = h }) t offset ≡ None
tail_refused threads c offset Begins (tokens.Word w) b e =
    ap (operation threads c offset) (no_opcode_tail w e)
tail_refused threads c offset Begins (tokens.Mark marks.Tilde) b e = refl
tail_refused threads c offset Begins t b e = absurd cc
tail_refused threads c offset h t b e = absurd cc

pub apart : (s : TableState) (t : Token) (offset : ℕ) → is_row_start s ≡ true → begins_tail t ≡ true
    → table_step s t offset ≡ None
apart s t offset b e =
    tail_refused s.threads s.column offset s.expected t
    ((and_parts (s.column == 0) (is_begin s.expected) b).1) e

-- ---- what can stand

taken_stands : (alone : Bool) (s : TableState) (t : Token) → is_taken (table_step s t 0) ≡ true
    → stands alone s t ≡ true
taken_stands alone s t e = ap (λ (b : Bool). b || ends_at alone s t) e

refused : (alone : Bool) (s : TableState) (t : Token) → stands alone s t ≡ false
    → is_taken (table_step s t 0) ≡ true → ⊥
refused alone s t out into = absurd (let e = taken_stands alone s t into in cc)

no_end : (alone : Bool) (s : TableState) (t : Token) → begins_tail t ≡ false → is_end t ≡ false
    → ends_at alone s t ≡ false
no_end false s t b e = ap (λ (x : Bool). is_row_start s && x) b ∙ and-false (is_row_start s)
no_end true s t b e = ap (λ (x : Bool). is_whole_table s && x) e ∙ and-false (is_whole_table s)

-- a token that is neither taken nor an end
cannot : (alone : Bool) (s : TableState) (t : Token) → table_step s t 0 ≡ None → ends_at alone s t ≡ false
    → stands alone s t ≡ true → ⊥
cannot alone s t none out into =
    absurd (
    let e : stands alone s t ≡ false =
    ap (λ (o : Option TableState). is_taken o || ends_at alone s t) none ∙ out in
    cc)

abbrev Can : Bool → TableState → Token → Type 0
Can alone s u = stands alone s u ≡ true

abbrev Ruled : Bool → TableState → Token → LitmusRule → LitmusRule → Type 0
Ruled alone s other n k =
    (Can alone s other × (k ≡ n)) ⊎ ((Can alone s other → ⊥) × (k ≡ rules.Instruction))

module _ (alone : Bool) (threads : List ThreadSteps) (c : ℕ) where
  abbrev here : CellExpectation → TableState
  here h = record { threads = threads; column = c; expected = h }

  -- ---- separators

  no_separator : (w : Want)
      → (token_fits w (tokens.Mark marks.Bar) ≡ false) × (token_fits w (tokens.Mark marks.Semicolon) ≡ false)
  no_separator wants.Register = (refl, refl)
  no_separator wants.Base = (refl, refl)
  no_separator wants.Immediate = (refl, refl)
  no_separator wants.Zero = (refl, refl)
  no_separator wants.Comma = (refl, refl)
  no_separator wants.Open = (refl, refl)
  no_separator wants.Close = (refl, refl)

  abbrev pending : DataOpcode → List Want → List ℕ → ℤ → Pending
  pending op ws rs v = record { opcode = op; wants = ws; registers = rs; value = v }

  abbrev inside : DataOpcode → List Want → List ℕ → ℤ → TableState
  inside op ws rs v = here (InInstruction (pending op ws rs v))

  unfit : (op : DataOpcode) (w : Want) (ws : List Want) (rs : List ℕ) (v : ℤ) (t : Token)
      → token_fits w t ≡ false → table_step (inside op (w ∷ ws) rs v) t 0 ≡ None
  unfit op w ws rs v t out =
      ap
      (λ (b : Bool). operand threads c
      (if b then Some (pending_with (pending op (w ∷ ws) rs v) ws t) else None) 0) out

  going : (op : DataOpcode) (ws : List Want) (rs : List ℕ) (v : ℤ)
      → is_taken (operand threads c (Some (pending op ws rs v)) 0) ≡ true
  going op [] rs v = refl
  going op (w ∷ ws) rs v = refl

  fit : (op : DataOpcode) (w : Want) (ws : List Want) (rs : List ℕ) (v : ℤ) (t : Token)
      → token_fits w t ≡ true → is_taken (table_step (inside op (w ∷ ws) rs v) t 0) ≡ true
  fit op w ws rs v t into =
      let p = pending_with (pending op (w ∷ ws) rs v) ws t in
      ap (λ (b : Bool). is_taken (operand threads c (if b then Some p else None) 0)) into
      ∙ going op ws p.registers p.value

  in_operands : (op : DataOpcode) (ws : List Want) (rs : List ℕ) (v : ℤ) (t : Token)
      → ((w : Want) → token_fits w t ≡ false) → table_step (inside op ws rs v) t 0 ≡ None
  in_operands op [] rs v t out = refl
  in_operands op (w ∷ ws) rs v t out = unfit op w ws rs v t (out w)

  semicolon_ruled : (h : CellExpectation) → stands alone (here h) (tokens.Mark marks.Semicolon) ≡ false
      → Ruled alone (here h) (tokens.Mark marks.Bar) rules.Columns (separator_rule h)
  semicolon_ruled (InInstruction p) out =
      inr (
        cannot alone (here (InInstruction p)) (tokens.Mark marks.Bar)
            (in_operands p.opcode p.wants p.registers p.value (tokens.Mark marks.Bar)
            (λ w. (no_separator w).0))
            (no_end alone (here (InInstruction p)) (tokens.Mark marks.Bar) refl refl),
        refl,
      )
  semicolon_ruled (WantsLabel condition) out =
      inr (
        cannot alone (here (WantsLabel condition)) (tokens.Mark marks.Bar) refl
            (no_end alone (here (WantsLabel condition)) (tokens.Mark marks.Bar) refl refl),
        refl,
      )
  semicolon_ruled h out =
      inl (
        choose (is_last threads c) refl
            (refused alone (here h) (tokens.Mark marks.Semicolon) out),
        refl,
      )
    where
      choose : (b : Bool) → is_last threads c ≡ b
          → (is_taken (if is_last threads c then at threads 0 Begins else None) ≡ true → ⊥)
          → Can alone (here h) (tokens.Mark marks.Bar)
      choose true e k =
          absurd (k (ap (λ (b : Bool). is_taken (if b then at threads 0 Begins else None)) e))
      choose false e k =
          taken_stands alone (here h) (tokens.Mark marks.Bar) (ap
          (λ (b : Bool). is_taken (if b then None else at threads (c + 1) Begins)) e)

  bar_ruled : (h : CellExpectation) → stands alone (here h) (tokens.Mark marks.Bar) ≡ false
      → Ruled alone (here h) (tokens.Mark marks.Semicolon) rules.Columns (separator_rule h)
  bar_ruled (InInstruction p) out =
      inr (
        cannot alone (here (InInstruction p)) (tokens.Mark marks.Semicolon)
            (in_operands p.opcode p.wants p.registers p.value (tokens.Mark marks.Semicolon)
            (λ w. (no_separator w).1))
            (no_end alone (here (InInstruction p)) (tokens.Mark marks.Semicolon) refl refl),
        refl,
      )
  bar_ruled (WantsLabel condition) out =
      inr (
        cannot alone (here (WantsLabel condition)) (tokens.Mark marks.Semicolon) refl
            (no_end alone (here (WantsLabel condition)) (tokens.Mark marks.Semicolon) refl refl),
        refl,
      )
  bar_ruled h out =
      inl (
        choose (is_last threads c) refl (refused alone (here h) (tokens.Mark marks.Bar) out),
        refl,
      )
    where
      choose : (b : Bool) → is_last threads c ≡ b
          → (is_taken (if is_last threads c then None else at threads (c + 1) Begins) ≡ true → ⊥)
          → Can alone (here h) (tokens.Mark marks.Semicolon)
      choose true e k =
          taken_stands alone (here h) (tokens.Mark marks.Semicolon) (ap
          (λ (b : Bool). is_taken (if b then at threads 0 Begins else None)) e)
      choose false e k =
          absurd (k (ap (λ (b : Bool). is_taken (if b then None else at threads (c + 1) Begins)) e))

  -- ---- offsets

  abbrev zero_token : Token
  zero_token = tokens.Number false []

  abbrev Claim : CellExpectation → Type 0
  Claim g =
      Ruled alone (here g) zero_token rules.Offset (if is_zero (wanted g) && true then rules.Offset
      else rules.Instruction)

  number_ruled : (h : CellExpectation) (negative : Bool) (ds : List ℕ) → is_int negative ds ≡ true
      → stands alone (here h) (tokens.Number negative ds) ≡ false
      → Ruled alone (here h) zero_token rules.Offset (if is_zero (wanted h)
      && is_int negative ds then rules.Offset
      else rules.Instruction)
  number_ruled h negative ds int out =
      subst
      (λ (b : Bool). Ruled alone (here h) zero_token rules.Offset (if is_zero (wanted h)
      && b then rules.Offset
      else rules.Instruction))
      (sym int)
      (by_expectation h out)
    where
      not_here : (g : CellExpectation) → table_step (here g) zero_token 0 ≡ None
          → Can alone (here g) zero_token → ⊥
      not_here g none =
          cannot alone (here g) zero_token none (no_end alone (here g) zero_token refl refl)

      by_want : (op : DataOpcode) (ws : List Want) (rs : List ℕ) (v : ℤ)
          → stands alone (inside op ws rs v) (tokens.Number negative ds) ≡ false
          → Claim (InInstruction (pending op ws rs v))
      by_want op [] rs v k = inr (not_here (InInstruction (pending op [] rs v)) refl, refl)
      by_want op (wants.Zero ∷ ws) rs v k =
          inl (
            taken_stands alone (inside op (wants.Zero ∷ ws) rs v) zero_token
                (fit op wants.Zero ws rs v zero_token refl),
            refl,
          )
      by_want op (wants.Immediate ∷ ws) rs v k =
          absurd (refused alone (inside op (wants.Immediate ∷ ws) rs v) (tokens.Number negative ds)
          k (fit op wants.Immediate ws rs v (tokens.Number negative ds) int))
      by_want op (w ∷ ws) rs v k =
          inr (
            not_here (InInstruction (pending op (w ∷ ws) rs v)) (unfit op w ws rs v zero_token refl),
            refl,
          )

      by_expectation : (g : CellExpectation) → stands alone (here g) (tokens.Number negative ds) ≡ false
          → Claim g
      by_expectation (InInstruction p) k = by_want p.opcode p.wants p.registers p.value k
      by_expectation g k = inr (not_here g refl, refl)

  -- ---- words

  abbrev one : Token
  one = tokens.Word (codes "r1")

  abbrev tail_word : Token
  tail_word = tokens.Word (codes "exists")

  not_one : (g : CellExpectation) → table_step (here g) one 0 ≡ None → Can alone (here g) one → ⊥
  not_one g none = cannot alone (here g) one none (no_end alone (here g) one refl refl)

  zero_want : (op : DataOpcode) (ws : List Want) (rs : List ℕ) (v : ℤ)
      → stands alone (inside op ws rs v) (tokens.Word (codes "r0")) ≡ false
      → Ruled alone (inside op ws rs v) one rules.ZeroBase (if is_base (first_of ws) then rules.ZeroBase
      else rules.Instruction)
  zero_want op [] rs v k = inr (not_one (InInstruction (pending op [] rs v)) refl, refl)
  zero_want op (wants.Base ∷ ws) rs v k =
      inl (
        taken_stands alone (inside op (wants.Base ∷ ws) rs v) one
            (fit op wants.Base ws rs v one refl),
        refl,
      )
  zero_want op (wants.Register ∷ ws) rs v k =
      absurd (refused alone (inside op (wants.Register ∷ ws) rs v) (tokens.Word (codes "r0")) k
      (fit op wants.Register ws rs v (tokens.Word (codes "r0")) refl))
  zero_want op (w ∷ ws) rs v k =
      inr (not_one (InInstruction (pending op (w ∷ ws) rs v)) (unfit op w ws rs v one refl), refl)

  -- `r0`
  zero_ruled : (h : CellExpectation) → stands alone (here h) (tokens.Word (codes "r0")) ≡ false
      → Ruled alone (here h) one rules.ZeroBase (if is_base (wanted h) then rules.ZeroBase
      else rules.Instruction)
  zero_ruled (InInstruction p) k = zero_want p.opcode p.wants p.registers p.value k
  zero_ruled (WantsLabel condition) k =
      absurd (refused alone (here (WantsLabel condition)) (tokens.Word (codes "r0")) k refl)
  zero_ruled Whole k = inr (not_one Whole refl, refl)
  zero_ruled Begins k = inr (not_one Begins (ap (operation threads c 0) no_opcode_r1), refl)
  zero_ruled Labelled k = inr (not_one Labelled (ap (operation threads c 0) no_opcode_r1), refl)

  no_exists : (w : Want) → token_fits w tail_word ≡ false
  no_exists wants.Register = refl
  no_exists wants.Base = refl
  no_exists wants.Immediate = refl
  no_exists wants.Zero = refl
  no_exists wants.Comma = refl
  no_exists wants.Open = refl
  no_exists wants.Close = refl

  exists_refused : (h : CellExpectation) (w : List ℕ) → stands alone (here h) (tokens.Word w) ≡ false
      → table_step (here h) tail_word 0 ≡ None
  exists_refused (InInstruction p) w k =
      in_operands p.opcode p.wants p.registers p.value tail_word no_exists
  exists_refused (WantsLabel condition) w k =
      absurd (refused alone (here (WantsLabel condition)) (tokens.Word w) k refl)
  exists_refused Whole w k = refl
  exists_refused Begins w k = ap (operation threads c 0) no_opcode_exists
  exists_refused Labelled w k = ap (operation threads c 0) no_opcode_exists

  base_taken : (op : DataOpcode) (ws : List Want) (rs : List ℕ) (v : ℤ) (w : List ℕ)
      → bytes_eq w (codes "r0") ≡ false → stands alone (inside op ws rs v) (tokens.Word w) ≡ false
      → (if is_base (first_of ws) && is_register w then rules.ZeroBase else rules.Instruction)
      ≡ rules.Instruction
  base_taken op [] rs v w e k = refl
  base_taken op (wants.Base ∷ ws) rs v w e k = choose (is_register w) refl
    where
      choose : (b : Bool) → is_register w ≡ b
          → (if b then rules.ZeroBase else rules.Instruction) ≡ rules.Instruction
      choose true r =
          absurd (refused alone (inside op (wants.Base ∷ ws) rs v) (tokens.Word w) k
          (fit op wants.Base ws rs v (tokens.Word w) (ap
          (λ (b : Bool). b && not (bytes_eq w (codes "r0"))) r ∙ ap not e)))
      choose false r = refl
  base_taken op (v' ∷ ws) rs v w e k = refl

  -- any other word
  other_ruled : (h : CellExpectation) (w : List ℕ) → bytes_eq w (codes "r0") ≡ false
      → stands alone (here h) (tokens.Word w) ≡ false
      → (if is_base (wanted h) && is_register w then rules.ZeroBase else rules.Instruction)
      ≡ rules.Instruction
  other_ruled (InInstruction p) w e k = base_taken p.opcode p.wants p.registers p.value w e k
  other_ruled h w e k = refl

  -- the word `filter` or `final`
  filter_ruled : (h : CellExpectation) (w : List ℕ) → is_register w ≡ false
      → stands alone (here h) (tokens.Word w) ≡ false
      → Ruled alone (here h) tail_word rules.Filter (if is_row_start (here h) && not alone
      && true then rules.Filter
      else (if is_base (wanted h) && is_register w then rules.ZeroBase
      else rules.Instruction))
  filter_ruled h w e out =
      by_kind alone (exists_refused h w out)
      (if is_base (wanted h) && is_register w then rules.ZeroBase else rules.Instruction) (other e)
    where
      other : is_register w ≡ false
          → (if is_base (wanted h) && is_register w then rules.ZeroBase else rules.Instruction)
          ≡ rules.Instruction
      other r =
          ap (λ (b : Bool). if b then rules.ZeroBase else rules.Instruction)
          (ap (λ (b : Bool). is_base (wanted h) && b) r ∙ and-false (is_base (wanted h)))

      at_start : (b : Bool) → is_row_start (here h) ≡ b → table_step (here h) tail_word 0 ≡ None
          → (k : LitmusRule) → k ≡ rules.Instruction
          → Ruled false (here h) tail_word rules.Filter
          (if b && true && true then rules.Filter else k)
      at_start true r none k i =
          inl (
            ap (λ (o : Option TableState). is_taken o || (is_row_start (here h) && true)) none
                ∙ ap (λ (x : Bool). x && true) r,
            refl,
          )
      at_start false r none k i =
          inr (cannot false (here h) tail_word none (ap (λ (x : Bool). x && true) r), i)

      text_alone : (b : Bool) → table_step (here h) tail_word 0 ≡ None → (k : LitmusRule)
          → k ≡ rules.Instruction
          → Ruled true (here h) tail_word rules.Filter
          (if b && false && true then rules.Filter else k)
      text_alone true none k i =
          inr (cannot true (here h) tail_word none (and-false (can_end h)), i)
      text_alone false none k i =
          inr (cannot true (here h) tail_word none (and-false (can_end h)), i)

      by_kind : (a : Bool) → table_step (here h) tail_word 0 ≡ None → (k : LitmusRule)
          → k ≡ rules.Instruction
          → Ruled a (here h) tail_word rules.Filter (if is_row_start (here h) && not a && true then rules.Filter
          else k)
      by_kind true none k i = text_alone (is_row_start (here h)) none k i
      by_kind false none k i = at_start (is_row_start (here h)) refl none k i

  register_filter : (w : List ℕ) → is_filter w ≡ true → is_register w ≡ false
  register_filter w e =
      choose (or_cases (bytes_eq w (codes "filter")) (bytes_eq w (codes "final")) e)
    where
      choose : (bytes_eq w (codes "filter") ≡ true) ⊎ (bytes_eq w (codes "final") ≡ true)
          → is_register w ≡ false
      choose (inl k) = ap is_register (is_word w (codes "filter") k)
      choose (inr k) = ap is_register (is_word w (codes "final") k)

  abbrev word_rule : CellExpectation → List ℕ → Bool → LitmusRule
  word_rule h w f =
      if is_row_start (here h) && not alone && f then rules.Filter
      else (if is_base (wanted h) && is_register w then rules.ZeroBase else rules.Instruction)

  not_filter : (a b : Bool) → (a && b && false) ≡ false
  not_filter true true = refl
  not_filter true false = refl
  not_filter false b = refl

  is_not_filter : (h : CellExpectation) (w : List ℕ)
      → word_rule h w false
      ≡ (if is_base (wanted h) && is_register w then rules.ZeroBase else rules.Instruction)
  is_not_filter h w =
      ap
      (λ (b : Bool). if b then rules.Filter
      else (if is_base (wanted h) && is_register w then rules.ZeroBase else rules.Instruction))
      (not_filter (is_row_start (here h)) (not alone))

  module _ (stage : Stage) (inner : part_rule stage ≡ rules.Instruction) where
    abbrev Ruling_says : CellExpectation → Ruling → LitmusRule → Type 0
    Ruling_says h r k = RulingSays (λ u. stands alone (here h) u ≡ true) stage r k

    says_where : (h : CellExpectation) (other : Token) (n k : LitmusRule)
        → Ruled alone (here h) other n k → Ruling_says h (Where other n) k
    says_where h other n k (inl r) = inl r
    says_where h other n k (inr r) = inr (r.0, r.1 ∙ sym inner)

    words : (h : CellExpectation) (w : List ℕ) → stands alone (here h) (tokens.Word w) ≡ false
        → Ruling_says h (cell_ruling stage (tokens.Word w)) (word_rule h w (is_filter w))
    words h w out = first (bytes_eq w (codes "r0")) refl
      where
        zero : w ≡ codes "r0"
            → Ruling_says h (Where one rules.ZeroBase) (word_rule h w (is_filter w))
        zero e =
            says_where h one rules.ZeroBase (word_rule h w (is_filter w)) (
            let r = zero_ruled h (subst (λ (x : List ℕ). stands alone (here h) (tokens.Word x) ≡ false) e out) in
            let same : word_rule h (codes "r0") (is_filter (codes "r0")) ≡ (if is_base (wanted h) then rules.ZeroBase else rules.Instruction)
            =
            is_not_filter h (codes "r0")
            ∙ ap (λ (b : Bool). if b then rules.ZeroBase else rules.Instruction)
            (and-true (is_base (wanted h))) in
            subst
            (λ (x : List ℕ).
            Ruled alone (here h) one rules.ZeroBase (word_rule h x (is_filter x)))
            (sym e)
            (subst (Ruled alone (here h) one rules.ZeroBase) (sym same) r))

        second : (f : Bool) → is_filter w ≡ f → bytes_eq w (codes "r0") ≡ false
            → Ruling_says h (if f then Where tail_word rules.Filter else Always (part_rule stage))
            (word_rule h w f)
        second true e k =
            says_where h tail_word rules.Filter (word_rule h w true)
            (filter_ruled h w (register_filter w e) out)
        second false e k = is_not_filter h w ∙ other_ruled h w k out ∙ sym inner

        first : (b : Bool) → bytes_eq w (codes "r0") ≡ b
            → Ruling_says h
            (if b then Where one rules.ZeroBase
            else (if is_filter w then Where tail_word rules.Filter
            else Always (part_rule stage)))
            (word_rule h w (is_filter w))
        first true e = zero (is_word w (codes "r0") e)
        first false e = second (is_filter w) refl e

    numbers : (h : CellExpectation) (negative : Bool) (ds : List ℕ)
        → stands alone (here h) (tokens.Number negative ds) ≡ false
        → Ruling_says h (cell_ruling stage (tokens.Number negative ds))
        (table_rule_at alone (here h) (tokens.Number negative ds))
    numbers h negative ds out = choose (is_int negative ds) refl
      where
        choose : (b : Bool) → is_int negative ds ≡ b
            → Ruling_says h (if b then Where zero_token rules.Offset else Always (part_rule stage))
            (if is_zero (wanted h) && is_int negative ds then rules.Offset
            else rules.Instruction)
        choose true e =
            says_where h zero_token rules.Offset
            (if is_zero (wanted h) && is_int negative ds then rules.Offset else rules.Instruction)
            (number_ruled h negative ds e out)
        choose false e =
            ap (λ (b : Bool). if is_zero (wanted h) && b then rules.Offset else rules.Instruction) e
            ∙ ap (λ (b : Bool). if b then rules.Offset else rules.Instruction)
            (and-false (is_zero (wanted h))) ∙ sym inner

    ruled : (h : CellExpectation) (t : Token) → stands alone (here h) t ≡ false
        → Ruling_says h (cell_ruling stage t) (table_rule_at alone (here h) t)
    ruled h (tokens.Mark marks.Semicolon) out =
        says_where h (tokens.Mark marks.Bar) rules.Columns (separator_rule h)
        (semicolon_ruled h out)
    ruled h (tokens.Mark marks.Bar) out =
        says_where h (tokens.Mark marks.Semicolon) rules.Columns (separator_rule h)
        (bar_ruled h out)
    ruled h (tokens.Word w) out = words h w out
    ruled h (tokens.Number negative ds) out = numbers h negative ds out
    ruled h t out = sym inner

in_a_cell : (stage : Stage) → IsInCell stage → part_rule stage ≡ rules.Instruction
in_a_cell stages.CellBegins i = refl
in_a_cell stages.InCell i = refl
in_a_cell stage i = absurd i

pub rules_given : GivesRules
rules_given alone s stage t i out =
    ruled alone s.threads s.column stage (in_a_cell stage i) s.expected t out
