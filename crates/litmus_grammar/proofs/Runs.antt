-- The machine over lists of tokens.
use Rattle.std.proofs.Common.{◌≡◌, ℕ, zero, suc, ◌+◌, ◌-◌, Bool, List, [], ◌∷◌, ◌++◌, Option, Some, None, Ok, refl, ap, ◌∙◌}
use Rattle.litmus_tokens.specs.declared.stage.Stage.{Stage}
use Rattle.litmus_tokens.specs.declared.token.Token.{Token}
use Rattle.litmus_tokens.specs.declared.token.Token.TheVariants as tokens
use Rattle.litmus_tokens.specs.declared.lexer.NextLexeme.{NextLexeme}
use Rattle.litmus_tokens.specs.declared.lexer.NextLexeme.TheVariants.{Layout, Lexeme}
use Rattle.litmus_tokens.specs.Lexer.{first_lexeme}
use Rattle.litmus_tokens.specs.Stage.{next_stage}
use Rattle.litmus_tokens.specs.Texts.{TokenAt, test_tokens_of, stage_after, ends_line, after_lexeme, tokens_from}
use Rattle.litmus_grammar.specs.TextMachine.{Next, TextState, TextResult, stepped, with_offset, and_then, part_step, run_parts}

abbrev ran : TextState → TextResult
ran s = Ok s

pub same_state : (a b : TextState) → ran a ≡ ran b → a ≡ b
same_state a b e = cc

pub tokens_of-append : (ps qs : List TokenAt) → test_tokens_of (ps ++ qs) ≡ test_tokens_of ps ++ test_tokens_of qs
tokens_of-append [] qs = refl
tokens_of-append (p ∷ ps) qs = ap (λ (ts : List Token). p.token ∷ ts) (tokens_of-append ps qs)

-- tokens at no place in particular
abbrev pub anywhere : List Token → List TokenAt
anywhere [] = []
anywhere (t ∷ ts) = record { token = t; offset = 0 } ∷ anywhere ts

pub tokens_of-anywhere : (ts : List Token) → test_tokens_of (anywhere ts) ≡ ts
tokens_of-anywhere [] = refl
tokens_of-anywhere (t ∷ ts) = ap (λ (us : List Token). t ∷ us) (tokens_of-anywhere ts)

abbrev pub went : TextState → Token → Next → TextState
went s t n =
    record {
      kind = s.kind;
      threads = s.threads;
      stage = next_stage s.stage t;
      part = n.part;
      draft = n.draft;
    }

pub run-split : (s : TextState) (ps qs : List TokenAt)
    → run_parts s (ps ++ qs) ≡ and_then (run_parts s ps) (λ x. run_parts x qs)
run-split s [] qs = refl
run-split s (p ∷ ps) qs =
    by_next (part_step s.kind s.threads s.draft s.part p.token p.offset) (λ x. run-split x ps qs)
  where
    by_next : (o : Option Next)
        → ((x : TextState) → run_parts x (ps ++ qs) ≡ and_then (run_parts x ps) (λ y. run_parts y qs))
        → and_then (with_offset p.offset (stepped s p.token o)) (λ x. run_parts x (ps ++ qs))
        ≡ and_then (and_then (with_offset p.offset (stepped s p.token o)) (λ x. run_parts x ps))
        (λ y. run_parts y qs)
    by_next (Some n) f = f (went s p.token n)
    by_next None f = refl

pub run-append : (s s' : TextState) (ps qs : List TokenAt) → run_parts s ps ≡ Ok s'
    → run_parts s (ps ++ qs) ≡ run_parts s' qs
run-append s s' ps qs e = run-split s ps qs ∙ ap (λ (r : TextResult). and_then r (λ x. run_parts x qs)) e

-- one token more
pub run_one : (s s' : TextState) (ps : List TokenAt) (p : TokenAt) (n : Next) → run_parts s ps ≡ Ok s'
    → part_step s'.kind s'.threads s'.draft s'.part p.token p.offset ≡ Some n
    → run_parts s (ps ++ p ∷ []) ≡ Ok (went s' p.token n)
run_one s s' ps p n e step =
    run-append s s' ps (p ∷ []) e
    ∙ ap (λ (o : Option Next). and_then (with_offset p.offset (stepped s' p.token o)) (λ x. Ok x))
    step

-- what is never changed, and the part of the text
pub record Follows (s s' : TextState) (ts : List Token) : Type 0 where
  pub kind : s'.kind ≡ s.kind
  pub threads : s'.threads ≡ s.threads
  pub stage : s'.stage ≡ stage_after s.stage ts

pub follows : (s s' : TextState) (ps : List TokenAt) → run_parts s ps ≡ Ok s' → Follows s s' (test_tokens_of ps)
follows s s' [] e =
    let same : s' ≡ s = cc in
    record {
      kind = ap (λ (x : TextState). x.kind) same;
      threads = ap (λ (x : TextState). x.threads) same;
      stage = ap (λ (x : TextState). x.stage) same;
    }
follows s s' (p ∷ ps) e =
    by_next (part_step s.kind s.threads s.draft s.part p.token p.offset) e
    (λ x h. follows x s' ps h)
  where
    by_next : (o : Option Next)
        → and_then (with_offset p.offset (stepped s p.token o)) (λ x. run_parts x ps) ≡ Ok s'
        → ((x : TextState) → run_parts x ps ≡ Ok s' → Follows x s' (test_tokens_of ps))
        → Follows s s' (p.token ∷ test_tokens_of ps)
    by_next (Some n) h f =
        let r = f (went s p.token n) h in
        record { kind = r.kind; threads = r.threads; stage = r.stage }
    by_next None h f = absurd cc

-- the last token of a text is its end
pub ends_last : (s : Stage) (fresh : Bool) (skip offset : ℕ) (bytes : List ℕ)
    → (ps : List TokenAt) × (n : ℕ)
    × (tokens_from s fresh skip offset bytes
    ≡ ps ++ record { token = tokens.End; offset = n } ∷ [])
unfolding tokens_from
ends_last s fresh skip offset [] = ([], offset, refl)
ends_last s fresh (suc skip) offset (b ∷ bs) = ends_last s fresh skip (offset + 1) bs
ends_last s fresh zero offset (b ∷ bs) =
    by_lexeme (first_lexeme s fresh (b ∷ bs)) (λ g f skip. ends_last g f skip (offset + 1) bs)
  where
    by_lexeme : (f : NextLexeme)
        → ((g : Stage) (f : Bool) (skip : ℕ)
        → (ps : List TokenAt) × (n : ℕ)
        × (tokens_from g f skip (offset + 1) bs
        ≡ ps ++ record { token = tokens.End; offset = n } ∷ []))
        → (ps : List TokenAt) × (n : ℕ)
        × (after_lexeme s fresh offset b f (λ g f skip. tokens_from g f skip (offset + 1) bs)
        ≡ ps ++ record { token = tokens.End; offset = n } ∷ [])
    by_lexeme (Layout k) r = r _ _ _
    by_lexeme (Lexeme t k) r =
        let q = r (next_stage s t) (ends_line t) (k - 1) in (
          record { token = t; offset = offset } ∷ q.0,
          q.1,
          ap (λ (ps : List TokenAt). record { token = t; offset = offset } ∷ ps) q.2,
        )
