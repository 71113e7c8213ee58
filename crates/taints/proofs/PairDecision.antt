-- When two pairs, and the dependencies of two runs, are the same.
use Rattle.std.proofs.Common.{ℕ, List, ◌≡◌, ◌&&◌, ap, ◌∙◌}
use Rattle.std.specs.Bool.{Decides}
use Rattle.std.proofs.lemmas.Bool.Decides.{Decides-eqb, Decides-and}
use Rattle.std.proofs.Math.Dec.{eqb}
use Rattle.taints.specs.DependencyLists.{DependencyLists}

pub pair_decides : (p q : ℕ × ℕ) → Decides (eqb p.0 q.0 && eqb p.1 q.1) (p ≡ q)
pair_decides p q =
    ((λ e. joined (both.0 e)), (λ e. both.1 (ap (λ (x : ℕ × ℕ). x.0) e, ap (λ (x : ℕ × ℕ). x.1) e)))
  where
    both : Decides (eqb p.0 q.0 && eqb p.1 q.1) ((p.0 ≡ q.0) × (p.1 ≡ q.1))
    both = Decides-and (eqb p.0 q.0) (eqb p.1 q.1) (Decides-eqb p.0 q.0) (Decides-eqb p.1 q.1)

    joined : (p.0 ≡ q.0) × (p.1 ≡ q.1) → p ≡ q
    joined e =
        ap (λ (n : ℕ). let r : ℕ × ℕ = (n, p.1) in r) e.0
        ∙ ap (λ (n : ℕ). let r : ℕ × ℕ = (q.0, n) in r) e.1

-- list by list
pub dependencies_one : (d e : DependencyLists) → d.addr_pairs ≡ e.addr_pairs
    → d.data_pairs ≡ e.data_pairs → d.ctrl_pairs ≡ e.ctrl_pairs
    → d.ctrlisync_pairs ≡ e.ctrlisync_pairs → d ≡ e
dependencies_one d e addr data_pairs ctrl ctrlisync =
    ap (λ (x : List (ℕ × ℕ)). record d { addr_pairs = x }) addr
    ∙ ap
    (λ (x : List (ℕ × ℕ)). record e {
      data_pairs = x;
      ctrl_pairs = d.ctrl_pairs;
      ctrlisync_pairs = d.ctrlisync_pairs;
    }) data_pairs
    ∙ ap (λ (x : List (ℕ × ℕ)). record e { ctrl_pairs = x; ctrlisync_pairs = d.ctrlisync_pairs })
    ctrl
    ∙ ap (λ (x : List (ℕ × ℕ)). record e { ctrlisync_pairs = x }) ctrlisync
