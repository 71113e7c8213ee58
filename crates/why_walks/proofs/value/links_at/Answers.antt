use Rattle.std.proofs.Common.{ℕ, ◌≡◌, ◌<◌, ◌+◌, inl, inr, List, [], ◌∷◌, ◌++◌, length, get_or, sym, subst, arith}
use Rattle.std.proofs.lemmas.Bool.{cases_lt}
use Rattle.std.proofs.lemmas.List.{get_or_append_left, get_or_at, get_or_read, length-append}
use Rattle.why_walks.specs.declared.run.Link.{Link}
use Rattle.why_walks.specs.declared.value.FactorValues.{FactorValues}
use Rattle.why_walks.specs.Values.{IsLinkAt}
use Rattle.why_walks.proofs.value.links_at.Goals as goal

-- one link more
more_links : (k i : ℕ) (factors : List FactorValues) (links : List Link) (factor : FactorValues)
    (link : Link) → i < length factors → factor ≡ get_or factors i factor
    → IsLinkAt k factor link → length links ≡ i
    → ((j : ℕ) → j < i → (f : FactorValues) (l : Link)
    → IsLinkAt k (get_or factors j f) (get_or links j l)) → (j : ℕ) → j < i + 1
    → (f : FactorValues) (l : Link)
    → IsLinkAt k (get_or factors j f) (get_or (links ++ link ∷ []) j l)
more_links k i factors links factor link within is linked many old j lt f l = elim (cases_lt j i) [
  | inl less ↦ rw (get_or_append_left links (link ∷ []) l j (omega (arith, less, many)))
      (old j less f l)
  | inr le ↦
      let same : i ≡ j = omega (arith, lt, le) in
      let there : get_or factors i f ≡ factor = sym (get_or_read factors i factor within is f) in
      subst (λ (n : ℕ). IsLinkAt k (get_or factors n f) (get_or (links ++ link ∷ []) n l)) same
      (rw there (rw (get_or_at links link [] l i many) linked))
]

pub loop-factor-preserved : goal.loop-factor-preserved
loop-factor-preserved c =
    let many : length c.loop-factor.links.items ≡ c.loop-factor.factor-index = c.loop-factor.invariant.0 in
    let items : c.push.new.self.items ≡ c.loop-factor.links.items ++ c.link_at.result ∷ [] = c.in_ok-push.ensures.items in
    let long : length (c.loop-factor.links.items ++ c.link_at.result ∷ []) ≡ length c.loop-factor.links.items + 1 = length-append c.loop-factor.links.items (c.link_at.result ∷ []) in
    rw items (
      omega (arith, long, many),
      more_links c.args.candidate c.loop-factor.factor-index c.args.factors.now
          c.loop-factor.links.items c.factor-item.result c.link_at.result (omega arith)
          c.factor-item.is c.link_at.ensures many c.loop-factor.invariant.1,
    )
