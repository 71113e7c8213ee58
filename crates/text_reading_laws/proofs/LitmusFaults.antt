-- A text of a test, or of a part of one, has one fault.
use Rattle.std.proofs.Common.{◌≡◌, ℕ, ◌≤◌, List, [], ◌∷◌, ◌++◌, length, Option, Some, None, inl, inr, sym, ap, ◌∙◌, subst, arith, append_assoc}
use Rattle.litmus_tokens.specs.declared.rule.LitmusRule.{LitmusRule}
use Rattle.litmus_tokens.specs.declared.stage.Stage.{Stage}
use Rattle.litmus_tokens.specs.declared.token.Token.{Token}
use Rattle.litmus_tokens.specs.Texts.{TokenAt, test_tokens_of, stage_after, test_lexing, StandsAt}
use Rattle.litmus_tokens.specs.Faults.{Begins, CanFollow, Ruling, Always, Where, ruling, RulingSays, IsFault}
use Rattle.litmus_table.specs.Late.{Late}
use Rattle.litmus_grammar.specs.Texts.{IsStart, IsWhole, BreaksOff, late_of_start, ReadsText, IsLateFault, IsFaultAt, IsTooLong, IsGrammar, IsLater}
use Rattle.litmus_grammar.proofs.Runs.{tokens_of-append}
use Rattle.text_reading_laws.proofs.Lists.{Cut, Same, Before, Behind, cut}

-- ---- the first token that cannot stand

module _ (IsText : List Token → Type 0) where
  begins_prefix : (ts us : List Token) → Begins IsText (ts ++ us) → Begins IsText ts
  begins_prefix ts us b =
      record { rest = us ++ b.rest; text = subst IsText (append_assoc ts us b.rest) b.text }

  -- what stands before a token that can stand can stand itself
  stands_before : (first second middle : List TokenAt) (here : TokenAt)
      → second ≡ first ++ here ∷ middle → Begins IsText (test_tokens_of second)
      → CanFollow IsText (test_tokens_of first) here.token
  stands_before first second middle here e b =
      let are : test_tokens_of second ≡ (test_tokens_of first ++ here.token ∷ []) ++ test_tokens_of middle = ap test_tokens_of e ∙ tokens_of-append first (here ∷ middle) ∙ sym (append_assoc (test_tokens_of first) (here.token ∷ []) (test_tokens_of middle)) in
      begins_prefix (test_tokens_of first ++ here.token ∷ []) (test_tokens_of middle)
      (subst (Begins IsText) are b)

  says_one : (CanStand : Token → Type 0) (s : Stage) (r : Ruling) (k l : LitmusRule)
      → RulingSays CanStand s r k → RulingSays CanStand s r l → k ≡ l
  says_one CanStand s (Always n) k l a b = a ∙ sym b
  says_one CanStand s (Where other n) k l (inl a) (inl b) = a.1 ∙ sym b.1
  says_one CanStand s (Where other n) k l (inl a) (inr b) = absurd (b.0 a.0)
  says_one CanStand s (Where other n) k l (inr a) (inl b) = absurd (a.0 b.0)
  says_one CanStand s (Where other n) k l (inr a) (inr b) = a.1 ∙ sym b.1

  -- the rule that this token breaks after these
  abbrev Breaks : Stage → List TokenAt → TokenAt → LitmusRule → Type 0
  Breaks start before here rule =
      RulingSays (CanFollow IsText (test_tokens_of before)) (stage_after start (test_tokens_of before))
      (ruling (stage_after start (test_tokens_of before)) here.token) rule

  breaks_one : (start : Stage) (before other : List TokenAt) (here there : TokenAt)
      (k l : LitmusRule) → before ≡ other → here ≡ there → Breaks start before here k
      → Breaks start other there l → k ≡ l
  breaks_one start before other here there k l prefixes ends a b =
      let moved : Breaks start before here l = subst (λ (p : TokenAt). Breaks start before p l) (sym ends) (subst (λ (ps : List TokenAt). Breaks start ps there l) (sym prefixes) b) in
      says_one (CanFollow IsText (test_tokens_of before)) (stage_after start (test_tokens_of before))
      (ruling (stage_after start (test_tokens_of before)) here.token) k l a moved

  pub first_one : (start : Stage) (ps : List TokenAt) (rule other : LitmusRule) (offset again : ℕ)
      → IsFault IsText start ps rule offset → IsFault IsText start ps other again
      → (rule ≡ other) × (offset ≡ again)
  first_one start ps rule other offset again f g =
      by_cut (cut f.before g.before f.here g.here f.behind g.behind (sym f.split ∙ g.split))
    where
      by_cut : Cut f.before g.before f.here g.here → (rule ≡ other) × (offset ≡ again)
      by_cut (Same prefixes ends) = (
        breaks_one start f.before g.before f.here g.here rule other prefixes ends f.number
            g.number,
        sym f.at_place ∙ ap (λ (p : TokenAt). p.offset) ends ∙ g.at_place,
      )
      by_cut (Before middle e) =
          absurd (f.ends (stands_before f.before g.before middle f.here e g.begins))
      by_cut (Behind middle e) =
          absurd (g.ends (stands_before g.before f.before middle g.here e f.begins))

  -- each token of a text can stand
  pub stands_all : (start : Stage) (ps : List TokenAt) (rule : LitmusRule) (offset : ℕ)
      → IsText (test_tokens_of ps) → IsFault IsText start ps rule offset → ⊥
  stands_all start ps rule offset text f =
      let are : test_tokens_of ps ≡ (test_tokens_of f.before ++ f.here.token ∷ []) ++ test_tokens_of f.behind = ap test_tokens_of f.split ∙ tokens_of-append f.before (f.here ∷ f.behind) ∙ sym (append_assoc (test_tokens_of f.before) (f.here.token ∷ []) (test_tokens_of f.behind)) in
      f.ends (record { rest = test_tokens_of f.behind; text = subst IsText are text })

-- ---- the later checks

-- two finds of the later checks are one: the same rule, at the same offset
abbrev pub AreAlike : List TokenAt → Option Late → Option Late → Type 0
AreAlike ps None None = Unit {0}
AreAlike ps (Some l) (Some k) =
    (l.rule ≡ k.rule) × (n : ℕ) × StandsAt ps l.before n × StandsAt ps k.before n
AreAlike ps l k = ⊥

same_here : (first second others rest : List TokenAt) (x y : TokenAt)
    → (first ++ x ∷ others) ≡ (second ++ y ∷ rest) → test_tokens_of first ≡ test_tokens_of second → x ≡ y
same_here [] [] others rest x y e t = let h : x ≡ y = cc in h
same_here [] (z ∷ second) others rest x y e t =
    absurd (let h : [] ≡ z.token ∷ test_tokens_of second = t in cc)
same_here (z ∷ first) [] others rest x y e t =
    absurd (let h : z.token ∷ test_tokens_of first ≡ [] = t in cc)
same_here (z ∷ first) (w ∷ second) others rest x y e t =
    let tails : (first ++ x ∷ others) ≡ (second ++ y ∷ rest) = cc in
    let tokens : test_tokens_of first ≡ test_tokens_of second = cc in
    same_here first second others rest x y tails tokens

-- tokens lead to one offset
pub stands_once : (ps : List TokenAt) (ts : List Token) (n m : ℕ) → StandsAt ps ts n
    → StandsAt ps ts m → n ≡ m
stands_once ps ts n m a b =
    sym a.at_place ∙ ap (λ (p : TokenAt). p.offset)
    (same_here a.before b.before a.behind b.behind a.here b.here (sym a.split ∙ b.split)
    (a.same ∙ sym b.same)) ∙ b.at_place

found_one : (ps : List TokenAt) (l k : Late) (rule other : LitmusRule) (offset again : ℕ)
    → AreAlike ps (Some l) (Some k) → l.rule ≡ rule → k.rule ≡ other → StandsAt ps l.before offset
    → StandsAt ps k.before again → (rule ≡ other) × (offset ≡ again)
found_one ps l k rule other offset again a r q x y = (
  sym r ∙ a.0 ∙ q,
  stands_once ps l.before offset a.1 x a.2 ∙ stands_once ps k.before a.1 again a.3 y,
)

-- ---- the fault of bytes

module _ (IsText : List Token → Type 0) (start : Stage)
    (late : (ts : List Token) → IsText ts → Option Late) (bytes : List ℕ) where
  abbrev ps : List TokenAt
  ps = test_lexing start bytes

  -- of the tokens, which may be a text in two ways, the later checks find one thing
  abbrev pub FindsOne : Type 0
  FindsOne =
      length bytes ≤ 65536 → (x y : IsText (test_tokens_of ps))
      → AreAlike ps (late (test_tokens_of ps) x) (late (test_tokens_of ps) y)

  module _ (finds : FindsOne) where
    late_one : (rule other : LitmusRule) (offset again : ℕ) → length bytes ≤ 65536
        → IsLateFault IsText start late bytes rule offset
        → IsLateFault IsText start late bytes other again → (rule ≡ other) × (offset ≡ again)
    late_one rule other offset again le f g =
        let alike = subst (λ (o : Option Late). AreAlike ps (Some f.found) o) g.is_found (subst (λ (o : Option Late). AreAlike ps o (late (test_tokens_of ps) g.text)) f.is_found (finds le f.text g.text)) in
        found_one ps f.found g.found rule other offset again alike f.rule_is g.rule_is f.stands
        g.stands

    pub one_fault : (rule other : LitmusRule) (offset again : ℕ)
        → IsFaultAt IsText start late bytes rule offset
        → IsFaultAt IsText start late bytes other again → (rule ≡ other) × (offset ≡ again)
    one_fault rule other offset again (IsTooLong more r n) (IsTooLong also q m) =
        (r ∙ sym q, n ∙ sym m)
    one_fault rule other offset again (IsTooLong more r n) (IsGrammar le g) = absurd (omega arith)
    one_fault rule other offset again (IsTooLong more r n) (IsLater le g) = absurd (omega arith)
    one_fault rule other offset again (IsGrammar le f) (IsTooLong more r n) = absurd (omega arith)
    one_fault rule other offset again (IsGrammar le f) (IsGrammar also g) =
        first_one IsText start ps rule other offset again f g
    one_fault rule other offset again (IsGrammar le f) (IsLater also g) =
        absurd (stands_all IsText start ps rule offset g.text f)
    one_fault rule other offset again (IsLater le f) (IsTooLong more r n) = absurd (omega arith)
    one_fault rule other offset again (IsLater le f) (IsGrammar also g) =
        absurd (stands_all IsText start ps other again f.text g)
    one_fault rule other offset again (IsLater le f) (IsLater also g) =
        late_one rule other offset again le f g

    late_unread : (l : Option Late) (k : Late) → AreAlike ps l (Some k) → l ≡ None → ⊥
    late_unread l k alike none = subst (λ (o : Option Late). AreAlike ps o (Some k)) none alike

    pub no_meaning : (V : Type 0) (value : (ts : List Token) → IsText ts → V) (v : V)
        (rule : LitmusRule) (offset : ℕ) → ReadsText IsText start late value bytes v
        → IsFaultAt IsText start late bytes rule offset → ⊥
    no_meaning V value v rule offset r (IsTooLong more k n) =
        let short = r.short in absurd (omega arith)
    no_meaning V value v rule offset r (IsGrammar le f) =
        stands_all IsText start ps rule offset r.text f
    no_meaning V value v rule offset r (IsLater le f) =
        late_unread (late (test_tokens_of ps) r.text) f.found
        (subst (λ (o : Option Late). AreAlike ps (late (test_tokens_of ps) r.text) o) f.is_found
        (finds le r.text f.text)) r.in_time

-- ---- where the text may break off within an entry

module _ (IsText : List Token → Type 0) (start : Stage)
    (late : (ts : List Token) → IsText ts → Option Late) (bytes : List ℕ)
    (finds : FindsOne IsText start late bytes) where
  abbrev own : List TokenAt
  own = test_lexing start bytes

  whole_found : (x : IsStart IsText start (test_tokens_of own)) (l : Late)
      → late_of_start late (test_tokens_of own) x ≡ Some l
      → (y : IsText (test_tokens_of own)) × (late (test_tokens_of own) y ≡ Some l)
  whole_found (IsWhole y) l e = (y, e)
  whole_found (BreaksOff b) l e = absurd cc

  whole_fault : (rule : LitmusRule) (offset : ℕ)
      → IsLateFault (IsStart IsText start) start (late_of_start late) bytes rule offset
      → IsLateFault IsText start late bytes rule offset
  whole_fault rule offset f =
      let w = whole_found f.text f.found f.is_found in
      record { text = w.0; found = f.found; is_found = w.1; rule_is = f.rule_is; stands = f.stands }

  pub one_start_fault : (rule other : LitmusRule) (offset again : ℕ)
      → IsFaultAt (IsStart IsText start) start (late_of_start late) bytes rule offset
      → IsFaultAt (IsStart IsText start) start (late_of_start late) bytes other again
      → (rule ≡ other) × (offset ≡ again)
  one_start_fault rule other offset again (IsTooLong more r n) (IsTooLong also q m) =
      (r ∙ sym q, n ∙ sym m)
  one_start_fault rule other offset again (IsTooLong more r n) (IsGrammar le g) =
      absurd (omega arith)
  one_start_fault rule other offset again (IsTooLong more r n) (IsLater le g) = absurd (omega arith)
  one_start_fault rule other offset again (IsGrammar le f) (IsTooLong more r n) =
      absurd (omega arith)
  one_start_fault rule other offset again (IsGrammar le f) (IsGrammar also g) =
      first_one (IsStart IsText start) start own rule other offset again f g
  one_start_fault rule other offset again (IsGrammar le f) (IsLater also g) =
      absurd (stands_all (IsStart IsText start) start own rule offset g.text f)
  one_start_fault rule other offset again (IsLater le f) (IsTooLong more r n) = absurd (omega arith)
  one_start_fault rule other offset again (IsLater le f) (IsGrammar also g) =
      absurd (stands_all (IsStart IsText start) start own other again f.text g)
  one_start_fault rule other offset again (IsLater le f) (IsLater also g) =
      late_one IsText start late bytes finds rule other offset again le (whole_fault rule offset f)
      (whole_fault other again g)

  pub no_start_meaning : (V : Type 0) (value : (ts : List Token) → IsText ts → V) (v : V)
      (rule : LitmusRule) (offset : ℕ) → ReadsText IsText start late value bytes v
      → IsFaultAt (IsStart IsText start) start (late_of_start late) bytes rule offset → ⊥
  no_start_meaning V value v rule offset r (IsTooLong more k n) =
      let short = r.short in absurd (omega arith)
  no_start_meaning V value v rule offset r (IsGrammar le f) =
      stands_all (IsStart IsText start) start own rule offset (IsWhole r.text) f
  no_start_meaning V value v rule offset r (IsLater le f) =
      no_meaning IsText start late bytes finds V value v rule offset r
      (IsLater le (whole_fault rule offset f))
