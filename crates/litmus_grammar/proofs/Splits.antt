-- Lists of tokens with their offsets, cut where their tokens are.
use Rattle.std.proofs.Common.{◌≡◌, ℕ, List, [], ◌∷◌, ◌++◌, refl, ap, ◌∙◌}
use Rattle.litmus_tokens.specs.declared.token.Token.{Token}
use Rattle.litmus_tokens.specs.Texts.{TokenAt, test_tokens_of}

pub record Split (ps : List TokenAt) (us vs : List Token) : Type 0 where
  pub before : List TokenAt
  pub behind : List TokenAt
  pub whole : ps ≡ before ++ behind
  pub are_before : test_tokens_of before ≡ us
  pub are_behind : test_tokens_of behind ≡ vs

pub split : (ps : List TokenAt) (us vs : List Token) → test_tokens_of ps ≡ us ++ vs → Split ps us vs
split ps [] vs e =
    record { before = []; behind = ps; whole = refl; are_before = refl; are_behind = e }
split [] (u ∷ us) vs e = absurd cc
split (p ∷ ps) (u ∷ us) vs e =
    let first : p.token ≡ u = cc in
    let others : test_tokens_of ps ≡ us ++ vs = cc in
    let r = split ps us vs others in
    record {
      before = p ∷ r.before;
      behind = r.behind;
      whole = ap (λ (qs : List TokenAt). p ∷ qs) r.whole;
      are_before =
          ap (λ (t : Token). t ∷ test_tokens_of r.before) first
          ∙ ap (λ (ts : List Token). u ∷ ts) r.are_before;
      are_behind = r.are_behind;
    }

-- one token
pub single : (ps : List TokenAt) (t : Token) → test_tokens_of ps ≡ t ∷ []
    → (n : ℕ) × (ps ≡ record { token = t; offset = n } ∷ [])
single [] t e = absurd cc
single (p ∷ []) t e =
    let first : p.token ≡ t = cc in
    (p.offset, ap (λ (x : Token). record { token = x; offset = p.offset } ∷ []) first)
single (p ∷ q ∷ ps) t e = absurd cc

-- the last token
pub unsnoc : (xs : List Token) (ys : List Token) (t u : Token) → xs ++ t ∷ [] ≡ ys ++ u ∷ []
    → xs ≡ ys
unsnoc [] [] t u e = refl
unsnoc [] (y ∷ ys) t u e = absurd (nothing ys u cc)
  where
    nothing : (zs : List Token) (v : Token) → [] ≡ zs ++ v ∷ [] → ⊥
    nothing [] v k = absurd cc
    nothing (z ∷ zs) v k = absurd cc
unsnoc (x ∷ xs) [] t u e = absurd (nothing xs t cc)
  where
    nothing : (zs : List Token) (v : Token) → zs ++ v ∷ [] ≡ [] → ⊥
    nothing [] v k = absurd cc
    nothing (z ∷ zs) v k = absurd cc
unsnoc (x ∷ xs) (y ∷ ys) t u e =
    let first : x ≡ y = cc in
    let others : xs ++ t ∷ [] ≡ ys ++ u ∷ [] = cc in
    ap (λ (z : Token). z ∷ xs) first ∙ ap (λ (zs : List Token). y ∷ zs) (unsnoc xs ys t u others)

-- what is left of tokens that end so
pub data Rest (xs rest us : List Token) (t : Token) : Type 0 where
  Nothing : xs ≡ us ++ t ∷ [] → Rest xs rest us t
  More : (more : List Token) → rest ≡ more ++ t ∷ [] → xs ++ more ≡ us → Rest xs rest us t

pub rest_of : (xs rest us : List Token) (t : Token) → xs ++ rest ≡ us ++ t ∷ [] → Rest xs rest us t
rest_of [] rest us t e = More us e refl
rest_of (x ∷ xs) rest [] t e =
    let first : x ≡ t = cc in
    let none : xs ++ rest ≡ [] = cc in
    Nothing (ap (λ (y : Token). y ∷ xs) first
    ∙ ap (λ (ys : List Token). t ∷ ys) (empty xs rest none))
  where
    empty : (ys zs : List Token) → ys ++ zs ≡ [] → ys ≡ []
    empty [] zs k = refl
    empty (y ∷ ys) zs k = absurd cc
rest_of (x ∷ xs) rest (u ∷ us) t e =
    let first : x ≡ u = cc in
    let others : xs ++ rest ≡ us ++ t ∷ [] = cc in
    by_rest first (rest_of xs rest us t others)
  where
    by_rest : x ≡ u → Rest xs rest us t → Rest (x ∷ xs) rest (u ∷ us) t
    by_rest first (Nothing k) =
        Nothing (ap (λ (y : Token). y ∷ xs) first ∙ ap (λ (ys : List Token). u ∷ ys) k)
    by_rest first (More more k m) =
        More more k (ap (λ (y : Token). y ∷ (xs ++ more)) first
        ∙ ap (λ (ys : List Token). u ∷ ys) m)

-- the last token with its place
pub unsnoc_placed : (xs ys : List TokenAt) (p q : TokenAt) → xs ++ p ∷ [] ≡ ys ++ q ∷ [] → xs ≡ ys
unsnoc_placed [] [] p q e = refl
unsnoc_placed [] (y ∷ ys) p q e = absurd (nothing ys q cc)
  where
    nothing : (zs : List TokenAt) (v : TokenAt) → [] ≡ zs ++ v ∷ [] → ⊥
    nothing [] v k = absurd cc
    nothing (z ∷ zs) v k = absurd cc
unsnoc_placed (x ∷ xs) [] p q e = absurd (nothing xs p cc)
  where
    nothing : (zs : List TokenAt) (v : TokenAt) → zs ++ v ∷ [] ≡ [] → ⊥
    nothing [] v k = absurd cc
    nothing (z ∷ zs) v k = absurd cc
unsnoc_placed (x ∷ xs) (y ∷ ys) p q e =
    let first : x ≡ y = cc in
    let others : xs ++ p ∷ [] ≡ ys ++ q ∷ [] = cc in
    ap (λ (z : TokenAt). z ∷ xs) first
    ∙ ap (λ (zs : List TokenAt). y ∷ zs) (unsnoc_placed xs ys p q others)
