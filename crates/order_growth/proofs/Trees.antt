-- Expressions change as their growths say, where their names do.
use Rattle.std.proofs.Common.{ℕ, inl, inr}
use Rattle.bit_rows.specs.Pairs.{Union, Inter, Minus, Complement, Composite}
use Rattle.binding_graph.specs.declared.resolved.Blend.{Blend}
use Rattle.binding_graph.specs.declared.resolved.Blend.TheVariants as blends
use Rattle.binding_graph.specs.declared.resolved.Source.{Source}
use Rattle.binding_graph.specs.Trees.{SetTree, SetName, AllEvents, NoEvent, BlendSets, ComplementSet, RelTree, RelName, NoPair, BlendRelations, SequenceRelations, ProductOfSets, IdentityOn, Close, ComplementRelation}
use Rattle.cat_machine.specs.Meaning.{MeansSet, MeansRelation, Blended, Closed}
use Rattle.cat_machine.proofs.Monotone.{closed_wider}
use Rattle.cat_machine.proofs.Same.{Same, SameSet, same_sets, same_others, same_turn, same_cross, same_on}
use Rattle.order_growth.specs.declared.growth.Growth.{Growth}
use Rattle.order_growth.specs.declared.growth.Growth.TheVariants.{Stays, Grows, Unknown}
use Rattle.order_growth.specs.Growth.{growth_of_both, growth_of_complement, growth_of_blend, growth_of}
use Rattle.order_growth.specs.Within.{IsGrowthBetween}

abbrev pub Subset : (ℕ → ℕ → Type 0) → (ℕ → ℕ → Type 0) → Type 0
Subset R S = (a b : ℕ) → R a b → S a b

-- the same pairs are grown in each way
pub same_grown : (g : Growth) (R S : ℕ → ℕ → Type 0) → Same R S → IsGrowthBetween g R S
same_grown Stays R S same = same
same_grown Grows R S same = λ a b x. (same a b).0 x
same_grown Unknown R S same = tt

-- an operator that keeps subsets
one_grown : (F : (ℕ → ℕ → Type 0) → ℕ → ℕ → Type 0)
    → ((R S : ℕ → ℕ → Type 0) → Subset R S → Subset (F R) (F S)) → (g : Growth)
    (R S : ℕ → ℕ → Type 0) → IsGrowthBetween g R S → IsGrowthBetween g (F R) (F S)
one_grown F wider Stays R S r =
    λ a b. (wider R S (λ x y. (r x y).0) a b, wider S R (λ x y. (r x y).1) a b)
one_grown F wider Grows R S r = wider R S r
one_grown F wider Unknown R S r = tt

two_grown : (F : (ℕ → ℕ → Type 0) → (ℕ → ℕ → Type 0) → ℕ → ℕ → Type 0)
    → ((R P S Q : ℕ → ℕ → Type 0) → Subset R P → Subset S Q → Subset (F R S) (F P Q))
    → (g h : Growth) (R P S Q : ℕ → ℕ → Type 0) → IsGrowthBetween g R P → IsGrowthBetween h S Q
    → IsGrowthBetween (growth_of_both g h) (F R S) (F P Q)
two_grown F wider Stays Stays R P S Q r s = λ a b. (
  wider R P S Q (λ x y. (r x y).0) (λ x y. (s x y).0) a b,
  wider P R Q S (λ x y. (r x y).1) (λ x y. (s x y).1) a b,
)
two_grown F wider Stays Grows R P S Q r s = wider R P S Q (λ x y. (r x y).0) s
two_grown F wider Stays Unknown R P S Q r s = tt
two_grown F wider Grows Stays R P S Q r s = wider R P S Q r (λ x y. (s x y).0)
two_grown F wider Grows Grows R P S Q r s = wider R P S Q r s
two_grown F wider Grows Unknown R P S Q r s = tt
two_grown F wider Unknown h R P S Q r s = tt

complement_grown : (n : ℕ) (g : Growth) (R S : ℕ → ℕ → Type 0) → IsGrowthBetween g R S
    → IsGrowthBetween (growth_of_complement g) (Complement n R) (Complement n S)
complement_grown n Stays R S r = same_turn n R S r
complement_grown n Grows R S r = tt
complement_grown n Unknown R S r = tt

minus_grown : (g h : Growth) (R P S Q : ℕ → ℕ → Type 0) → IsGrowthBetween g R P → IsGrowthBetween h S Q
    → IsGrowthBetween (growth_of_both g (growth_of_complement h)) (Minus R S) (Minus P Q)
minus_grown Stays Stays R P S Q r s = λ a b. (
  (λ x. ((r a b).0 x.0, (λ y. x.1 ((s a b).1 y)))),
  (λ x. ((r a b).1 x.0, (λ y. x.1 ((s a b).0 y)))),
)
minus_grown Grows Stays R P S Q r s = λ a b x. (r a b x.0, (λ y. x.1 ((s a b).1 y)))
minus_grown Unknown Stays R P S Q r s = tt
minus_grown Stays Grows R P S Q r s = tt
minus_grown Grows Grows R P S Q r s = tt
minus_grown Unknown Grows R P S Q r s = tt
minus_grown Stays Unknown R P S Q r s = tt
minus_grown Grows Unknown R P S Q r s = tt
minus_grown Unknown Unknown R P S Q r s = tt

union_wider : (R P S Q : ℕ → ℕ → Type 0) → Subset R P → Subset S Q → Subset (Union R S) (Union P Q)
union_wider R P S Q r s a b (inl x) = inl (r a b x)
union_wider R P S Q r s a b (inr y) = inr (s a b y)

inter_wider : (R P S Q : ℕ → ℕ → Type 0) → Subset R P → Subset S Q → Subset (Inter R S) (Inter P Q)
inter_wider R P S Q r s a b x = (r a b x.0, s a b x.1)

pub composite_wider : (R P S Q : ℕ → ℕ → Type 0) → Subset R P → Subset S Q
    → Subset (Composite R S) (Composite P Q)
composite_wider R P S Q r s a b (c, x, y) = (c, r a c x, s c b y)

blended_grown : (how : Blend) (g h : Growth) (R P S Q : ℕ → ℕ → Type 0) → IsGrowthBetween g R P
    → IsGrowthBetween h S Q → IsGrowthBetween (growth_of_blend how g h) (Blended how R S) (Blended how P Q)
blended_grown blends.Union g h R P S Q r s = two_grown Union union_wider g h R P S Q r s
blended_grown blends.Intersection g h R P S Q r s = two_grown Inter inter_wider g h R P S Q r s
blended_grown blends.Difference g h R P S Q r s = minus_grown g h R P S Q r s

module _ (n : ℕ) (sets others : Source → ℕ → Type 0) (rels further : Source → ℕ → ℕ → Type 0)
    (named : Source → Growth) (same : (source : Source) → SameSet (sets source) (others source))
    (grown : (source : Source) → IsGrowthBetween (named source) (rels source) (further source)) where
  pub set_same : (t : SetTree) → SameSet (MeansSet n sets t) (MeansSet n others t)
  set_same (SetName source) = same source
  set_same AllEvents = λ a. ((λ x. x), (λ x. x))
  set_same NoEvent = λ a. ((λ x. x), (λ x. x))
  set_same (BlendSets how s t) = same_sets how _ _ _ _ (set_same s) (set_same t)
  set_same (ComplementSet s) = same_others n _ _ (set_same s)

  pub tree_grown : (e : RelTree)
      → IsGrowthBetween (growth_of named e) (MeansRelation n sets rels e) (MeansRelation n others further e)
  tree_grown (RelName source) = grown source
  tree_grown NoPair = λ a b. ((λ x. x), (λ x. x))
  tree_grown (BlendRelations how e f) =
      blended_grown how (growth_of named e) (growth_of named f) _ _ _ _ (tree_grown e) (tree_grown f)
  tree_grown (SequenceRelations e f) =
      two_grown Composite composite_wider (growth_of named e) (growth_of named f) _ _ _ _
      (tree_grown e) (tree_grown f)
  tree_grown (ProductOfSets s t) = same_cross _ _ _ _ (set_same s) (set_same t)
  tree_grown (IdentityOn s) = same_on _ _ (set_same s)
  tree_grown (Close how e) =
      one_grown (Closed how n) (closed_wider how n) (growth_of named e) _ _ (tree_grown e)
  tree_grown (ComplementRelation e) = complement_grown n (growth_of named e) _ _ (tree_grown e)
