-- The tokens of a text, one after another.
use Rattle.std.proofs.Common.{◌≡◌, ℕ, zero, suc, ◌+◌, ◌-◌, ◌<◌, ◌≤◌, Bool, List, [], ◌∷◌, length, get_or, drop, sym, ap, ◌∙◌, arith, min, inl, inr, ◌⊎◌}
use Rattle.std.specs.Prelude.{max}
use Rattle.std.proofs.lemmas.Bool.{cases_lt}
use Rattle.std.proofs.lemmas.List.{at_drop_more, drop_more, drop_all, length-drop, drop-drop}
use Rattle.litmus_tokens.specs.declared.stage.Stage.{Stage}
use Rattle.litmus_tokens.specs.declared.token.Token.{Token}
use Rattle.litmus_tokens.specs.declared.token.Token.TheVariants as tokens
use Rattle.litmus_tokens.specs.declared.lexer.NextLexeme.{NextLexeme}
use Rattle.litmus_tokens.specs.declared.lexer.NextLexeme.TheVariants.{Layout, Lexeme}
use Rattle.litmus_tokens.specs.Lexer.{first_lexeme}
use Rattle.litmus_tokens.specs.Stage.{next_stage}
use Rattle.litmus_tokens.specs.Texts.{TokenAt, ends_line, fresh_after, after_lexeme, tokens_from}

-- passing over bytes
pub tokens_skip : (s : Stage) (fresh : Bool) (k offset : ℕ) (bs : List ℕ) → k ≤ length bs
    → tokens_from s fresh k offset bs ≡ tokens_from s fresh 0 (offset + k) (drop k bs)
unfolding tokens_from
tokens_skip s fresh zero offset bs h = ap (λ n. tokens_from s fresh 0 n bs) (omega arith)
tokens_skip s fresh (suc k) offset [] h = absurd (omega arith)
tokens_skip s fresh (suc k) offset (b ∷ bs) h =
    tokens_skip s fresh k (offset + 1) bs (omega arith)
    ∙ ap (λ n. tokens_from s fresh 0 n (drop k bs)) (omega arith)

tokens_past : (s : Stage) (fresh : Bool) (k offset : ℕ) (bs : List ℕ) → length bs ≤ k
    → tokens_from s fresh k offset bs ≡ tokens_from s fresh 0 (offset + length bs) []
unfolding tokens_from
tokens_past s fresh zero offset [] h =
    ap (λ n. record { token = tokens.End; offset = n } ∷ []) (omega arith)
tokens_past s fresh zero offset (b ∷ bs) h = absurd (omega arith)
tokens_past s fresh (suc k) offset [] h =
    ap (λ n. record { token = tokens.End; offset = n } ∷ []) (omega arith)
tokens_past s fresh (suc k) offset (b ∷ bs) h =
    tokens_past s fresh k (offset + 1) bs (omega arith)
    ∙ ap (λ n. tokens_from s fresh 0 n []) (omega arith)

-- one token, or what stands between tokens
module _ (bytes : List ℕ) (p n q : ℕ) (lt : p < length bytes)
    (is : q ≡ p + min (max n 1) (length bytes - p)) where
  next : (s : Stage) (fresh : Bool)
      → tokens_from s fresh (n - 1) (p + 1) (drop (p + 1) bytes)
      ≡ tokens_from s fresh 0 q (drop q bytes)
  next s fresh = choose (cases_lt (n - 1) (length (drop (p + 1) bytes)))
    where
      choose : ((n - 1) < length (drop (p + 1) bytes)) ⊎ (length (drop (p + 1) bytes) ≤ (n - 1))
          → tokens_from s fresh (n - 1) (p + 1) (drop (p + 1) bytes)
          ≡ tokens_from s fresh 0 q (drop q bytes)
      choose (inl less) =
          let le : n - 1 ≤ length (drop (p + 1) bytes) = omega arith in
          let l = length-drop (p + 1) bytes in
          let e : p + 1 + (n - 1) ≡ q = omega arith in
          tokens_skip s fresh (n - 1) (p + 1) (drop (p + 1) bytes) le
          ∙ ap (tokens_from s fresh 0 (p + 1 + (n - 1))) (drop-drop (n - 1) (p + 1) bytes)
          ∙ ap (λ k. tokens_from s fresh 0 k (drop k bytes)) e
      choose (inr le) =
          let l = length-drop (p + 1) bytes in
          let e : p + 1 + length (drop (p + 1) bytes) ≡ q = omega arith in
          tokens_past s fresh (n - 1) (p + 1) (drop (p + 1) bytes) le
          ∙ ap (λ k. tokens_from s fresh 0 k []) e
          ∙ ap (tokens_from s fresh 0 q) (sym (drop_all q bytes (omega arith)))

  abbrev then_on : Stage → Bool → NextLexeme → List TokenAt
  then_on s fresh f =
      after_lexeme s fresh p (get_or bytes p 0) f (λ s' fresh' skip.
      tokens_from s' fresh' skip (p + 1) (drop (p + 1) bytes))

  opens_with : (s : Stage) (fresh : Bool) (f : NextLexeme) → f ≡ first_lexeme s fresh (drop p bytes)
      → tokens_from s fresh 0 p (drop p bytes) ≡ then_on s fresh f
  unfolding tokens_from
  opens_with s fresh f e =
      at_drop_more (tokens_from s fresh 0 p) bytes p 0 lt
      ∙ ap (then_on s fresh) (ap (first_lexeme s fresh) (sym (drop_more bytes p 0 lt)) ∙ sym e)

  pub layout_turn : (s : Stage) (fresh : Bool) (f : NextLexeme) → f ≡ first_lexeme s fresh (drop p bytes)
      → f ≡ Layout n
      → tokens_from s fresh 0 p (drop p bytes)
      ≡ tokens_from s (fresh_after fresh (get_or bytes p 0)) 0 q (drop q bytes)
  layout_turn s fresh f e k =
      opens_with s fresh f e ∙ ap (then_on s fresh) k
      ∙ next s (fresh_after fresh (get_or bytes p 0))

  pub lexeme_turn : (s : Stage) (fresh : Bool) (f : NextLexeme) (t : Token)
      → f ≡ first_lexeme s fresh (drop p bytes) → f ≡ Lexeme t n
      → tokens_from s fresh 0 p (drop p bytes)
      ≡ record { token = t; offset = p }
      ∷ tokens_from (next_stage s t) (ends_line t) 0 q (drop q bytes)
  lexeme_turn s fresh f t e k =
      opens_with s fresh f e ∙ ap (then_on s fresh) k
      ∙ ap (λ (ps : List TokenAt). record { token = t; offset = p } ∷ ps)
      (next (next_stage s t) (ends_line t))

pub at_end : (s : Stage) (fresh : Bool) (bytes : List ℕ) (p : ℕ) → length bytes ≤ p
    → tokens_from s fresh 0 p (drop p bytes) ≡ record { token = tokens.End; offset = p } ∷ []
unfolding tokens_from
at_end s fresh bytes p high = ap (tokens_from s fresh 0 p) (drop_all p bytes high)
