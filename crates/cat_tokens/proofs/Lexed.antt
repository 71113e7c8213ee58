-- The tokens of a text, from one to the next.
use Rattle.std.proofs.Common.{◌≡◌, ℕ, zero, suc, ◌+◌, ◌-◌, ◌<◌, ◌≤◌, List, [], ◌∷◌, length, drop, sym, ap, ◌∙◌, arith, min, inl, inr, ◌⊎◌}
use Rattle.std.specs.Prelude.{max}
use Rattle.std.proofs.lemmas.Bool.{cases_lt}
use Rattle.std.proofs.lemmas.List.{at_drop_more, drop_more, drop_all, length-drop, drop-drop}
use Rattle.cat_tokens.specs.declared.token.Token.{Token}
use Rattle.cat_tokens.specs.declared.token.Token.TheVariants as tokens
use Rattle.cat_tokens.specs.declared.lexer.NextLexeme.{NextLexeme}
use Rattle.cat_tokens.specs.declared.lexer.NextLexeme.TheVariants.{Layout, Lexeme}
use Rattle.cat_tokens.specs.Tokens.{TokenAt}
use Rattle.cat_tokens.specs.Lexer.{first_model_lexeme, after_lexeme, tokens_from}

-- passing over bytes
pub tokens_skip : (k offset : ℕ) (bs : List ℕ) → k ≤ length bs
    → tokens_from k offset bs ≡ tokens_from 0 (offset + k) (drop k bs)
unfolding tokens_from
tokens_skip zero offset bs h = ap (λ n. tokens_from 0 n bs) (omega arith)
tokens_skip (suc k) offset [] h = absurd (omega arith)
tokens_skip (suc k) offset (b ∷ bs) h =
    tokens_skip k (offset + 1) bs (omega arith)
    ∙ ap (λ n. tokens_from 0 n (drop k bs)) (omega arith)

pub tokens_past : (k offset : ℕ) (bs : List ℕ) → length bs ≤ k
    → tokens_from k offset bs ≡ tokens_from 0 (offset + length bs) []
unfolding tokens_from
tokens_past zero offset [] h =
    ap (λ n. record { token = tokens.End; offset = n } ∷ []) (omega arith)
tokens_past zero offset (b ∷ bs) h = absurd (omega arith)
tokens_past (suc k) offset [] h =
    ap (λ n. record { token = tokens.End; offset = n } ∷ []) (omega arith)
tokens_past (suc k) offset (b ∷ bs) h =
    tokens_past k (offset + 1) bs (omega arith) ∙ ap (λ n. tokens_from 0 n []) (omega arith)

-- one token, or what stands between tokens
module _ (bytes : List ℕ) (p n q : ℕ) (lt : p < length bytes)
    (is : q ≡ p + min (max n 1) (length bytes - p)) where
  next : tokens_from (n - 1) (p + 1) (drop (p + 1) bytes) ≡ tokens_from 0 q (drop q bytes)
  next = choose (cases_lt (n - 1) (length (drop (p + 1) bytes)))
    where
      choose : ((n - 1) < length (drop (p + 1) bytes)) ⊎ (length (drop (p + 1) bytes) ≤ (n - 1))
          → tokens_from (n - 1) (p + 1) (drop (p + 1) bytes) ≡ tokens_from 0 q (drop q bytes)
      choose (inl less) =
          let le : n - 1 ≤ length (drop (p + 1) bytes) = omega arith in
          let l = length-drop (p + 1) bytes in
          let e : p + 1 + (n - 1) ≡ q = omega arith in
          tokens_skip (n - 1) (p + 1) (drop (p + 1) bytes) le
          ∙ ap (tokens_from 0 (p + 1 + (n - 1))) (drop-drop (n - 1) (p + 1) bytes)
          ∙ ap (λ k. tokens_from 0 k (drop k bytes)) e
      choose (inr le) =
          let l = length-drop (p + 1) bytes in
          let e : p + 1 + length (drop (p + 1) bytes) ≡ q = omega arith in
          tokens_past (n - 1) (p + 1) (drop (p + 1) bytes) le ∙ ap (λ k. tokens_from 0 k []) e
          ∙ ap (tokens_from 0 q) (sym (drop_all q bytes (omega arith)))

  opens_with : (f : NextLexeme) → f ≡ first_model_lexeme (drop p bytes)
      → tokens_from 0 p (drop p bytes)
      ≡ after_lexeme p f (λ skip. tokens_from skip (p + 1) (drop (p + 1) bytes))
  unfolding tokens_from
  opens_with f e =
      at_drop_more (tokens_from 0 p) bytes p 0 lt
      ∙ ap (λ (g : NextLexeme). after_lexeme p g (λ skip. tokens_from skip (p + 1) (drop (p + 1) bytes)))
      (ap first_model_lexeme (sym (drop_more bytes p 0 lt)) ∙ sym e)

  pub layout_turn : (f : NextLexeme) → f ≡ first_model_lexeme (drop p bytes) → f ≡ Layout n
      → tokens_from 0 p (drop p bytes) ≡ tokens_from 0 q (drop q bytes)
  layout_turn f e k =
      opens_with f e
      ∙ ap (λ (g : NextLexeme). after_lexeme p g (λ skip. tokens_from skip (p + 1) (drop (p + 1) bytes)))
      k ∙ next

  pub lexeme_turn : (f : NextLexeme) (t : Token) → f ≡ first_model_lexeme (drop p bytes) → f ≡ Lexeme t n
      → tokens_from 0 p (drop p bytes)
      ≡ record { token = t; offset = p } ∷ tokens_from 0 q (drop q bytes)
  lexeme_turn f t e k =
      opens_with f e
      ∙ ap
      (λ (g : NextLexeme).
      after_lexeme p g (λ skip. tokens_from skip (p + 1) (drop (p + 1) bytes))) k
      ∙ ap (λ (ps : List TokenAt). record { token = t; offset = p } ∷ ps) next

pub at_end : (bytes : List ℕ) (p : ℕ) → p ≤ length bytes → length bytes ≤ p
    → tokens_from 0 p (drop p bytes) ≡ record { token = tokens.End; offset = p } ∷ []
unfolding tokens_from
at_end bytes p low high = ap (tokens_from 0 p) (drop_all p bytes high)
