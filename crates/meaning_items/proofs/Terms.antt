-- An expression without fault means what its tree means.
use Rattle.std.proofs.Common.{ℕ, ◌≡◌, ◌<◌, List, [], false, None, sym, subst}
use Rattle.text_values.specs.ModelValue.{Term}
use Rattle.binding_kinds.specs.declared.kinds.Kind.{Kind}
use Rattle.binding_kinds.specs.declared.scope.Used.{Used}
use Rattle.binding_kinds.specs.Value.{Naming}
use Rattle.binding_kinds.specs.Formula.{Formula}
use Rattle.binding_kinds.specs.Fits.{kind_of}
use Rattle.binding_kinds.specs.Functions.{formula_in}
use Rattle.binding_kinds.specs.Senses.{Sense, kind_in, term_fault}
use Rattle.binding_kinds.proofs.Fitted.{fit, fit_typed}
use Rattle.binding_graph.specs.declared.resolved.Source.{Source}
use Rattle.binding_graph.specs.Meaning.{set_tree, rel_tree}
use Rattle.cat_machine.specs.Meaning.{MeansSet, MeansRelation}
use Rattle.meaning.specs.Cat.{Meaning, Names, meaning_of}
use Rattle.meaning_items.specs.Bound.{value_at}
use Rattle.meaning_items.specs.Alike.{IsAs, HasSources}
use Rattle.meaning_items.proofs.Items.{AreSound}
use Rattle.meaning_items.proofs.Putting.{term_means}
use Rattle.meaning_items.proofs.Trees.{tree_as}

pub term_as : (n : ℕ) (ss : List Sense) (names : List Naming) (N : Names ℕ)
    → AreSound (λ a. a < n) ss names N → (from : ℕ) (t : Term)
    → term_fault ss names from false t ≡ None → (sets : Source → ℕ → Type 0)
    (rels : Source → ℕ → ℕ → Type 0) (us : List Used) (base : ℕ)
    → HasSources (value_at N) sets rels us base (formula_in ss names [] t)
    → IsAs (kind_in ss names t) (meaning_of (λ a. a < n) N t)
    (MeansSet n sets (set_tree us base (formula_in ss names [] t)))
    (MeansRelation n sets rels (rel_tree us base (formula_in ss names [] t)))
term_as n ss names N h from t none sets rels us base has =
    let f : Formula = formula_in ss names [] t in
    let typed = fit_typed ss names t h.sound (fit ss names from false t h.known none) in
    subst
    (λ (k : Kind). IsAs k (meaning_of (λ a. a < n) N t) (MeansSet n sets (set_tree us base f))
    (MeansRelation n sets rels (rel_tree us base f))) typed.1
    (subst
    (λ (m : Meaning ℕ). IsAs (kind_of [] f) m (MeansSet n sets (set_tree us base f))
    (MeansRelation n sets rels (rel_tree us base f)))
    (sym (term_means (λ a. a < n) ss names N h from t none))
    (tree_as n (value_at N) sets rels us base f typed.0 has))
