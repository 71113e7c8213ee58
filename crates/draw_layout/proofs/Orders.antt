-- Ports, upright pieces and lanes rise with the order of the ends.
use Rattle.std.proofs.Common.{◌≡◌, ℕ, ◌<◌, List, Bool, true, false, sym, subst, arith}
use Rattle.std.specs.Prelude.{◌==◌, ◌&&◌, ◌||◌, nat_lt}
use Rattle.std.specs.List.{count_by, Contains}
use Rattle.std.proofs.lemmas.Bool.{and_parts, and_from, and_right}
use Rattle.std.proofs.lemmas.Bool.Decides.{nat_tests}
use Rattle.draw_layout.specs.declared.ends.End.{End}
use Rattle.draw_layout.specs.Ends.{is_at, is_before, is_wire_beside, is_lane, port_of, wire_of, lane_of}
use Rattle.draw_layout.proofs.Counting.{count_lt}

before_trans : (r n s m t k : ℕ) → (nat_lt r s || ((r == s) && nat_lt n m)) ≡ true
    → (nat_lt s t || ((s == t) && nat_lt m k)) ≡ true
    → (nat_lt r t || ((r == t) && nat_lt n k)) ≡ true
before_trans r n s m t k = grind (arith, nat_tests)

pub before_self : (r n : ℕ) → (nat_lt r r || ((r == r) && nat_lt n n)) ≡ false
before_self r n = grind (arith, nat_tests)

pub before_one : (r n s m : ℕ) → (n ≡ m → ⊥)
    → (nat_lt r s || ((r == s) && nat_lt n m)) ≡ false
    → (nat_lt s r || ((s == r) && nat_lt m n)) ≡ true
before_one r n s m = grind (arith, nat_tests)

lt_trans : (n m k : ℕ) → nat_lt n m ≡ true → nat_lt m k ≡ true → nat_lt n k ≡ true
lt_trans n m k = grind (arith, nat_tests)

lt_self : (n : ℕ) → nat_lt n n ≡ false
lt_self n = grind (arith, nat_tests)

-- ends that pass one test, in an order of their own
rise : (ends : List End) (here : End → Bool) (before : End → End → Bool) (e f : End)
    → ((g : End) → before g e ≡ true → before g f ≡ true) → before e e ≡ false → before e f ≡ true
    → Contains ends e → here e ≡ true
    → count_by (λ g. here g && before g e) ends < count_by (λ g. here g && before g f) ends
rise ends here before e f trans self less inside at =
    let (k, lt, is) = inside in
    count_lt (λ g. here g && before g f) (λ g. here g && before g e) ends k e lt
    (λ g both. let (a, b) = and_parts (here g) (before g e) both in and_from (here g) (before g f) a (trans g b))
    (subst (λ (g : End). (here g && before g f) ≡ true) (sym is) (and_from (here e) (before e f) at less))
    (subst (λ (g : End). (here g && before g e) ≡ false) (sym is) (and_right (here e) (before e e) self))

pub ports_rise : (ends : List End) (e f : End) → Contains ends e → is_at f.at f.side e ≡ true
    → is_before e f ≡ true
    → count_by (λ g. is_at f.at f.side g && is_before g e) ends < port_of ends f
ports_rise ends e f inside at less =
    rise ends (is_at f.at f.side) is_before e f
    (λ g b. before_trans g.other_row g.number e.other_row e.number f.other_row f.number b less)
    (before_self e.other_row e.number) less inside at

pub wires_rise : (ends : List End) (e f : End) → Contains ends e
    → is_wire_beside f.at.column f.side e ≡ true → nat_lt e.number f.number ≡ true
    → count_by (λ g. is_wire_beside f.at.column f.side g && nat_lt g.number e.number) ends
    < wire_of ends f
wires_rise ends e f inside at less =
    rise ends (is_wire_beside f.at.column f.side) (λ g h. nat_lt g.number h.number) e f
    (λ g b. lt_trans g.number e.number f.number b less) (lt_self e.number) less inside at

pub lanes_rise : (ends : List End) (above : Bool) (e f : End) → Contains ends e
    → is_lane above e ≡ true → nat_lt e.number f.number ≡ true
    → lane_of ends above e.number < lane_of ends above f.number
lanes_rise ends above e f inside at less =
    rise ends (is_lane above) (λ g h. nat_lt g.number h.number) e f
    (λ g b. lt_trans g.number e.number f.number b less) (lt_self e.number) less inside at
