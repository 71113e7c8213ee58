use Rattle.std.proofs.Common.{ℕ, ◌≡◌, ◌↔◌, Bool, true, false, not, IsTrue, rules}
use Rattle.bit_rows.specs.Relation.{IsMember}
use Rattle.run_combinations.proofs.Members.{some_member}
use Rattle.run_combinations.proofs.reading.meets.Goals as goal

not_empty : (b : Bool) (P : Type 0) → IsTrue b ↔ P
    → (IsTrue (not b) → P → ⊥) × ((P → ⊥) → IsTrue (not b))
not_empty true P h = (λ t p. search rules, λ never. absurd (never (h.0 (search rules))))
not_empty false P h = (λ t p. let e : IsTrue false = h.1 p in search rules, λ never. search rules)

pub returns-then-count : goal.returns-then-count
returns-then-count c =
    let same : c.args.set.now.count ≡ c.args.other.now.count = search rules in
    let b = not_empty c.is_empty.result ((a : ℕ) → IsMember c.inter.result a → ⊥) c.is_empty.ensures in (
      (λ t.
          let m : (a : ℕ) × IsMember c.inter.result a = some_member c.inter.result c.args.set.now.count c.inter.ensures.within (b.0 t) in (
            same,
            (
              m.0,
              ((c.inter.ensures.members m.0).0 m.1).0,
              ((c.inter.ensures.members m.0).0 m.1).1,
            ),
          )),
      (λ h. b.1 (λ none. none h.1.0 ((c.inter.ensures.members h.1.0).1 (h.1.1, h.1.2)))),
    )
