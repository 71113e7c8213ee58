-- Where a comment ends is where its tree ends.
use Rattle.std.proofs.Common.{◌≡◌, ℕ, zero, suc, ◌+◌, ◌-◌, ◌<◌, ◌≤◌, Bool, true, false, List, [], ◌∷◌, length, drop, refl, sym, ap, ◌∙◌, subst, arith}
use Rattle.std.specs.Prelude.{Option, Some, None, slice_index, ◌==◌, ◌&&◌, ◌||◌, if◌then◌else◌}
use Rattle.std.proofs.lemmas.Bool.Decides.{nat_tests}
use Rattle.text_values.specs.Layout.{comment_from, comment_through, comment_of}
use Rattle.text_laws.specs.Comments.{begins_comment, ends_comment, Inside, Nothing, Byte, Nested, spelled, IsPlain, BeginsWithComment}
use Rattle.std.proofs.lemmas.Bool.{or_parts}

abbrev size : Inside → ℕ
size Nothing = 0
size (Byte b more) = size more + 1
size (Nested inner more) = size inner + size more + 4

spelled_length : (i : Inside) (rest : List ℕ) → length (spelled i rest) ≡ size i + length rest
spelled_length Nothing rest = omega arith
spelled_length (Byte b more) rest =
    let x = spelled_length more rest in
    omega arith
spelled_length (Nested inner more) rest =
    let x = spelled_length inner (42 ∷ 41 ∷ spelled more rest) in
    let y = spelled_length more rest in
    omega arith

-- ---- one turn of the reader

plain_turn : (d n b : ℕ) (bs : List ℕ) → begins_comment (b ∷ bs) ≡ false
    → ends_comment (b ∷ bs) ≡ false → comment_from 0 d n (b ∷ bs) ≡ comment_from 0 d (n + 1) bs
unfolding comment_from
plain_turn d n b bs begins ends =
    ap
    (λ (x : Bool). if x then (if d == 1 then Some (n + 2)
    else comment_from 1 (d - 1) (n + 1) bs)
    else (if b == 40 && slice_index bs 0 == 42 then comment_from 1 (d + 1) (n + 1) bs
    else comment_from 0 d (n + 1) bs)) ends
    ∙ ap
    (λ (x : Bool). if x then comment_from 1 (d + 1) (n + 1) bs else comment_from 0 d (n + 1) bs)
    begins

open_turn : (d n : ℕ) (bs : List ℕ)
    → comment_from 0 d n (40 ∷ 42 ∷ bs) ≡ comment_from 0 (suc d) (n + 2) bs
unfolding comment_from
open_turn d n bs =
    ap (λ (k : ℕ). comment_from 0 k (n + 1 + 1) bs) (omega arith)
    ∙ ap (λ (k : ℕ). comment_from 0 (suc d) k bs) (omega arith)

is_deeper : (d : ℕ) → (suc (suc d) == 1) ≡ false
is_deeper d = grind (arith, nat_tests)

close_turn : (d n : ℕ) (bs : List ℕ)
    → comment_from 0 (suc (suc d)) n (42 ∷ 41 ∷ bs) ≡ comment_from 0 (suc d) (n + 2) bs
unfolding comment_from
close_turn d n bs =
    ap (λ (x : Bool). if x then Some (n + 2) else comment_from 0 (suc (suc d) - 1) (n + 1 + 1) bs)
    (is_deeper d)
    ∙ ap (λ (k : ℕ). comment_from 0 k (n + 1 + 1) bs) (omega arith)
    ∙ ap (λ (k : ℕ). comment_from 0 (suc d) k bs) (omega arith)

last_turn : (n : ℕ) (bs : List ℕ) → comment_from 0 1 n (42 ∷ 41 ∷ bs) ≡ Some (n + 2)
unfolding comment_from
last_turn n bs = refl

no_turn : (d n : ℕ) → comment_from 0 d n [] ≡ None
unfolding comment_from
no_turn d n = refl

-- ---- a comment is read

inside_read : (i : Inside) (d n : ℕ) (rest : List ℕ) → IsPlain i rest
    → comment_from 0 (suc d) n (spelled i rest) ≡ comment_from 0 (suc d) (n + size i) rest
inside_read Nothing d n rest h = ap (λ (k : ℕ). comment_from 0 (suc d) k rest) (omega arith)
inside_read (Byte b more) d n rest h =
    let x = or_parts (begins_comment (b ∷ spelled more rest)) (ends_comment (b ∷ spelled more rest)) h.0 in
    plain_turn (suc d) n b (spelled more rest) x.0 x.1 ∙ inside_read more d (n + 1) rest h.1
    ∙ ap (λ (k : ℕ). comment_from 0 (suc d) k rest) (omega arith)
inside_read (Nested inner more) d n rest h =
    open_turn (suc d) n (spelled inner (42 ∷ 41 ∷ spelled more rest))
    ∙ inside_read inner (suc d) (n + 2) (42 ∷ 41 ∷ spelled more rest) h.0
    ∙ close_turn d (n + 2 + size inner) (spelled more rest)
    ∙ inside_read more d (n + 2 + size inner + 2) rest h.1
    ∙ ap (λ (k : ℕ). comment_from 0 (suc d) k rest) (omega arith)

pub only : (bytes : List ℕ) (n : ℕ) → BeginsWithComment bytes n → comment_of bytes ≡ Some n
only bytes n c =
    let l = spelled_length c.inside (42 ∷ 41 ∷ c.rest) in
    let long = c.long in
    let whole = ap length c.whole in
    let found : comment_from 0 1 0 (spelled c.inside (42 ∷ 41 ∷ c.rest)) ≡ Some (0 + size c.inside + 2) =
    inside_read c.inside 0 0 (42 ∷ 41 ∷ c.rest) c.plain ∙ last_turn (0 + size c.inside) c.rest in
    ap comment_of c.whole ∙ ap comment_through found ∙ ap (λ (k : ℕ). Some k) (omega arith)

pub unended : (bytes : List ℕ) (n : ℕ) → comment_of bytes ≡ None → BeginsWithComment bytes n → ⊥
unended bytes n none c =
    let some = only bytes n c in
    absurd cc

-- ---- what is read is a comment

abbrev Goes : ℕ → ℕ → ℕ → List ℕ → Type 0
Goes zero n m rest = m ≡ n
Goes (suc k) n m rest = comment_from 0 (suc k) n rest ≡ Some m

-- what the innermost open comment holds, and what is read behind it
record Split (k n m : ℕ) (bs : List ℕ) : Type 0 where
  inside : Inside
  rest : List ℕ
  plain : IsPlain inside (42 ∷ 41 ∷ rest)
  whole : bs ≡ spelled inside (42 ∷ 41 ∷ rest)
  goes : Goes k (n + size inside + 2) m rest

pub both : (x y : Bool) → (x && y) ≡ true → (x ≡ true) × (y ≡ true)
both true y h = (refl, h)
both false y h = absurd cc

pub equal : (a b : ℕ) → (a == b) ≡ true → a ≡ b
equal a b h = grind (arith, nat_tests)

-- two bytes, by the tests on them
pub two_bytes : (p q b : ℕ) (bs : List ℕ) → (b == p && slice_index bs 0 == suc q) ≡ true
    → (b ≡ p) × (bs ≡ suc q ∷ drop 1 bs)
two_bytes p q b [] h =
    let x = equal 0 (suc q) (both (b == p) (0 == suc q) h).1 in
    absurd (omega arith)
two_bytes p q b (c ∷ cs) h =
    let x = both (b == p) (c == suc q) h in
    (equal b p x.0, ap (λ (k : ℕ). k ∷ cs) (equal c (suc q) x.1))

abbrev number_in : Option ℕ → ℕ
number_in (Some n) = n
number_in None = 0

plain_split : (k n m b : ℕ) (bs : List ℕ) → begins_comment (b ∷ bs) ≡ false
    → ends_comment (b ∷ bs) ≡ false → Split k (n + 1) m bs → Split k n m (b ∷ bs)
plain_split k n m b bs begins ends s =
    let apart : (begins_comment (b ∷ bs) || ends_comment (b ∷ bs)) ≡ false = ap (λ (x : Bool). x || ends_comment (b ∷ bs)) begins ∙ ends in
    record {
      inside = Byte b s.inside;
      rest = s.rest;
      plain = (
        subst (λ (xs : List ℕ). (begins_comment (b ∷ xs) || ends_comment (b ∷ xs)) ≡ false)
            s.whole apart,
        s.plain,
      );
      whole = ap (λ (xs : List ℕ). b ∷ xs) s.whole;
      goes = subst (λ (j : ℕ). Goes k j m s.rest) (omega arith) s.goes;
    }

end_split : (k n m : ℕ) (rest : List ℕ) → comment_from 0 (suc k) n (42 ∷ 41 ∷ rest) ≡ Some m
    → Split k n m (42 ∷ 41 ∷ rest)
end_split zero n m rest h =
    let same : n + 2 ≡ m = ap number_in (sym (last_turn n rest) ∙ h) in
    record { inside = Nothing; rest = rest; plain = tt; whole = refl; goes = omega arith }
end_split (suc k) n m rest h =
    let later : comment_from 0 (suc k) (n + 2) rest ≡ Some m = sym (close_turn k n rest) ∙ h in
    record { inside = Nothing; rest = rest; plain = tt; whole = refl; goes = subst (λ (j : ℕ). comment_from 0 (suc k) j rest ≡ Some m) (omega arith) later }

begin_split : (k n m : ℕ) (bs : List ℕ) (s : Split (suc k) (n + 2) m bs)
    → Split k (n + 2 + size s.inside + 2) m s.rest → Split k n m (40 ∷ 42 ∷ bs)
begin_split k n m bs s t = record {
  inside = Nested s.inside t.inside;
  rest = t.rest;
  plain = (subst (λ (xs : List ℕ). IsPlain s.inside (42 ∷ 41 ∷ xs)) t.whole s.plain, t.plain);
  whole =
      ap (λ (xs : List ℕ). 40 ∷ 42 ∷ xs) (s.whole
      ∙ ap (λ (xs : List ℕ). spelled s.inside (42 ∷ 41 ∷ xs)) t.whole);
  goes = subst (λ (j : ℕ). Goes k j m t.rest) (omega arith) t.goes;
}

abbrev Splits : ℕ → ℕ → Type 0
Splits most m =
    (k n : ℕ) (bs : List ℕ) → length bs ≤ most → comment_from 0 (suc k) n bs ≡ Some m
    → Split k n m bs

by_begin : (most k n m b : ℕ) (bs : List ℕ) → Splits most m → length bs ≤ most
    → comment_from 0 (suc k) n (b ∷ bs) ≡ Some m → ends_comment (b ∷ bs) ≡ false → (x : Bool)
    → begins_comment (b ∷ bs) ≡ x → Split k n m (b ∷ bs)
by_begin most k n m b bs ih few h ends false begins =
    plain_split k n m b bs begins ends (ih k (n + 1) bs few
    (sym (plain_turn (suc k) n b bs begins ends) ∙ h))
by_begin most k n m b bs ih few h ends true begins =
    let two = two_bytes 40 41 b bs begins in
    let cs = drop 1 bs in
    let are : b ∷ bs ≡ 40 ∷ 42 ∷ cs = ap (λ (x : ℕ). x ∷ bs) two.0 ∙ ap (λ (xs : List ℕ). 40 ∷ xs) two.1 in
    let l = ap length two.1 in
    let s = ih (suc k) (n + 2) cs (omega arith) (sym (open_turn (suc k) n cs) ∙ ap (comment_from 0 (suc k) n) (sym are) ∙ h) in
    let all = spelled_length s.inside (42 ∷ 41 ∷ s.rest) in
    let same = ap length s.whole in
    subst (Split k n m) (sym are) (begin_split k n m cs s (ih k (n + 2 + size s.inside + 2) s.rest
    (omega arith) s.goes))

by_end : (most k n m b : ℕ) (bs : List ℕ) → Splits most m → length bs ≤ most
    → comment_from 0 (suc k) n (b ∷ bs) ≡ Some m → (x : Bool) → ends_comment (b ∷ bs) ≡ x
    → Split k n m (b ∷ bs)
by_end most k n m b bs ih few h false ends =
    by_begin most k n m b bs ih few h ends (begins_comment (b ∷ bs)) refl
by_end most k n m b bs ih few h true ends =
    let two = two_bytes 42 40 b bs ends in
    let cs = drop 1 bs in
    let are : b ∷ bs ≡ 42 ∷ 41 ∷ cs = ap (λ (x : ℕ). x ∷ bs) two.0 ∙ ap (λ (xs : List ℕ). 42 ∷ xs) two.1 in
    subst (Split k n m) (sym are) (end_split k n m cs (ap (comment_from 0 (suc k) n) (sym are) ∙ h))

splits : (most m : ℕ) → Splits most m
splits most m k n [] few h =
    let none = no_turn (suc k) n in
    absurd cc
splits zero m k n (b ∷ bs) few h = absurd (omega arith)
splits (suc most) m k n (b ∷ bs) few h =
    by_end most k n m b bs (splits most m) (omega arith) h (ends_comment (b ∷ bs)) refl

read_back : (n : ℕ) (bs : List ℕ) (o : Option ℕ) → comment_from 0 1 0 bs ≡ o
    → comment_through o ≡ Some n → BeginsWithComment (40 ∷ 42 ∷ bs) n
read_back n bs None is h = absurd cc
read_back n bs (Some m) is h =
    let s = splits (length bs) m 0 0 bs (omega arith) is in
    let end = s.goes in
    let same : m + 2 ≡ n = ap number_in h in
    let all = spelled_length s.inside (42 ∷ 41 ∷ s.rest) in
    let bytes = ap length s.whole in
    record { inside = s.inside; rest = s.rest; plain = s.plain; whole = ap (λ (xs : List ℕ). 40 ∷ 42 ∷ xs) s.whole; long = omega arith }

pub found : (bytes : List ℕ) (n : ℕ) → begins_comment bytes ≡ true → comment_of bytes ≡ Some n
    → BeginsWithComment bytes n
found [] n begins h = absurd cc
found (b ∷ bs) n begins h =
    let two = two_bytes 40 41 b bs begins in
    let cs = drop 1 bs in
    let are : b ∷ bs ≡ 40 ∷ 42 ∷ cs = ap (λ (x : ℕ). x ∷ bs) two.0 ∙ ap (λ (xs : List ℕ). 40 ∷ xs) two.1 in
    subst (λ (xs : List ℕ). BeginsWithComment xs n) (sym are) (read_back n cs
    (comment_from 0 1 0 cs) refl (ap comment_of (sym are) ∙ h))

pub some_bytes : (bytes : List ℕ) (n : ℕ) → BeginsWithComment bytes n → 0 < n
some_bytes bytes n c =
    let l = spelled_length c.inside (42 ∷ 41 ∷ c.rest) in
    let long = c.long in
    let whole = ap length c.whole in
    omega arith
