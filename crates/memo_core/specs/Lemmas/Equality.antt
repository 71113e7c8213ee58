-- The test of two nodes is equality, so nodes are keys of a map.
use Rattle.std.proofs.Common.{◌≡◌, ℕ, Bool, true, false, ◌&&◌, ◌==◌, List, ◌++◌, refl, ap, sym, ◌∙◌, eqb-true, eq-eqb, arith}
use Rattle.std.specs.Cmp.{IsEquivalence}
use Rattle.std.specs.Prelude.{IsTrue}
use Rattle.std.specs.Hash.{u8, u64}
use Rattle.memo_core.specs.declared.keys.Kind.{Kind}
use Rattle.memo_core.specs.declared.keys.Kind.TheVariants.{Space, Group, Check, Verdict}
use Rattle.memo_core.specs.declared.keys.Node.{Node}
use Rattle.memo_core.specs.Names.{kind_number, same_node, node_writes}

pub and_true : (a b : Bool) → (a && b) ≡ true → (a ≡ true) × (b ≡ true)
and_true true b h = (refl, h)
and_true false b h = cc

pub kind_exact : (a b : Kind) → kind_number a ≡ kind_number b → a ≡ b
kind_exact Space Space h = refl
kind_exact Group Group h = refl
kind_exact Check Check h = refl
kind_exact Verdict Verdict h = refl
kind_exact Space Group h = absurd (omega arith)
kind_exact Space Check h = absurd (omega arith)
kind_exact Space Verdict h = absurd (omega arith)
kind_exact Group Space h = absurd (omega arith)
kind_exact Group Check h = absurd (omega arith)
kind_exact Group Verdict h = absurd (omega arith)
kind_exact Check Space h = absurd (omega arith)
kind_exact Check Group h = absurd (omega arith)
kind_exact Check Verdict h = absurd (omega arith)
kind_exact Verdict Space h = absurd (omega arith)
kind_exact Verdict Group h = absurd (omega arith)
kind_exact Verdict Check h = absurd (omega arith)

pub same_node_exact : (a b : Node) → same_node a b ≡ true → a ≡ b
same_node_exact a b h =
    let p = and_true ((kind_number a.kind == kind_number b.kind) && (a.test == b.test)) (a.of == b.of) h in
    let q = and_true (kind_number a.kind == kind_number b.kind) (a.test == b.test) p.0 in
    let k = kind_exact a.kind b.kind (eqb-true _ _ q.0) in
    let t = eqb-true a.test b.test q.1 in
    let o = eqb-true a.of b.of p.1 in
    ap (λ (k : Kind). let n : Node = record { kind = k; test = a.test; of = a.of } in n) k
    ∙ ap (λ (t : ℕ). let n : Node = record { kind = b.kind; test = t; of = a.of } in n) t
    ∙ ap (λ (o : ℕ). let n : Node = record { kind = b.kind; test = b.test; of = o } in n) o

eqb_refl : (a : ℕ) → (a == a) ≡ true
eqb_refl a = eq-eqb a a refl

pub same_node_refl : (a : Node) → same_node a a ≡ true
same_node_refl a = rw (eqb_refl (kind_number a.kind), eqb_refl a.test, eqb_refl a.of) refl

both : (a b : Bool) → (a ≡ true → b ≡ true) → (b ≡ true → a ≡ true) → a ≡ b
both true b f g = sym (f refl)
both false true f g = g refl
both false false f g = refl

turned : (a b : Node) → same_node a b ≡ true → same_node b a ≡ true
turned a b h = rw (same_node_exact a b h) (same_node_refl b)

pub same_node_equiv : IsEquivalence same_node
same_node_equiv = record {
  refl = same_node_refl;
  symm = λ a b. both (same_node a b) (same_node b a) (turned a b) (turned b a);
  congr = λ a b c h. ap (λ (n : Node). same_node n c) (same_node_exact a b h);
}

pub one_writing : (a b : Node) → IsTrue (same_node a b) → node_writes a ≡ node_writes b
one_writing a b h = ap node_writes (same_node_exact a b h)
