-- Settled cells that are appended.
use Rattle.std.proofs.Common.{◌≡◌, ℕ, List, [], ◌∷◌, ◌++◌, length, Some, IsTrue, MatchResult, ap, sym, ◌∙◌, subst, slice_get, append_assoc}
use Rattle.std.specs.Prelude.{Result, Ok, Err, is_ok, fold}
use Rattle.std.proofs.lemmas.List.{append-nil}
use Rattle.memo_core.specs.Graph.{Net}
use Rattle.memo_core.specs.Run.{Bench}
use Rattle.cells.specs.Cells.{Cells, IsSettledCell}
use Rattle.desk_history.specs.Histories.{Pressed}
use Rattle.desk_history.proofs.Showing.{fold_push}
use Rattle.desk_ledger.specs.Boards.{BoardCell, with_outcome}
use Rattle.desk_ledger.specs.Posts.{IsPosted, Posts}
use Rattle.desk_ledger.proofs.Outcomes.{length_with, settled_here, settled_kept, each_append}

module _ {T O : Type 0} (is_settle : O → Type 0) (are_after : T → List O → Type 0)
    (last_number : List O → ℕ) (count : List O → ℕ) (t : T) where
  pub posts_then : (a b c : Pressed O) → Posts is_settle are_after last_number count t a b
      → Posts is_settle are_after last_number count t b c
      → Posts is_settle are_after last_number count t a c
  posts_then a b c p q = record {
    more = p.more ++ q.more;
    are_settles = each_append is_settle p.more q.more p.are_settles q.are_settles;
    all = q.all ∙ (ap (λ (l : List O). l ++ q.more) p.all ∙ append_assoc a.all p.more q.more);
    published = q.published ∙ p.published;
    after = q.after;
    number = q.number ∙ p.number;
    cells = q.cells ∙ p.cells;
  }

  -- where nothing was appended
  pub posts_none : (a b : Pressed O) → b ≡ a → are_after t a.all
      → Posts is_settle are_after last_number count t a b
  posts_none a b same after = record {
    more = [];
    are_settles = tt;
    all = ap (λ (p : Pressed O). p.all) same ∙ sym (append-nil a.all);
    published = ap (λ (p : Pressed O). p.published) same;
    after = subst (λ (p : Pressed O). are_after t p.all) (sym same) after;
    number = ap (λ (p : Pressed O). last_number p.all) same;
    cells = ap (λ (p : Pressed O). count p.all) same;
  }

  -- where the operation was appended or nothing was
  pub posts_one : {A F : Type 0} (r : Result A F) (a b : Pressed O) (op : O)
      → MatchResult r (λ _. b.all ≡ a.all ++ op ∷ []) (λ _. b.all ≡ a.all)
      → b.published ≡ a.published
      → is_settle op → are_after t a.all → are_after t (a.all ++ op ∷ [])
      → last_number (a.all ++ op ∷ []) ≡ last_number a.all
      → count (a.all ++ op ∷ []) ≡ count a.all
      → Posts is_settle are_after last_number count t a b
  posts_one (Ok x) a b op is published settle old new number cells = record {
    more = op ∷ [];
    are_settles = (settle, tt);
    all = is;
    published = published;
    after = subst (are_after t) (sym is) new;
    number = ap last_number is ∙ number;
    cells = ap count is ∙ cells;
  }
  posts_one (Err x) a b op is published settle old new number cells = record {
    more = [];
    are_settles = tt;
    all = is ∙ sym (append-nil a.all);
    published = published;
    after = subst (are_after t) (sym is) old;
    number = ap last_number is;
    cells = ap count is;
  }

module _ {T E V G O B P : Type 0} (net : T → Net G) (of : Cells T E V O) (bench : Bench T V)
    (cells : B → List (BoardCell O)) (after : B → P → B) (none : B) where
  abbrev shown : List P → List (BoardCell O)
  shown ops = cells (fold after none ops)

  -- what is shown once a cell was settled
  pub shown_one : (ops : List P) (op : P) (i : ℕ) (o : O)
      → cells (after (fold after none ops) op) ≡ with_outcome i o (shown ops)
      → shown (ops ++ op ∷ []) ≡ with_outcome i o (shown ops)
  shown_one ops op i o is = ap cells (fold_push after none ops op) ∙ is

  pub count_one : (ops : List P) (op : P) (i : ℕ) (o : O)
      → cells (after (fold after none ops) op) ≡ with_outcome i o (shown ops)
      → length (shown (ops ++ op ∷ [])) ≡ length (shown ops)
  count_one ops op i o is = ap length (shown_one ops op i o is) ∙ length_with (shown ops) i o

  pub posted_here : {A F : Type 0} (r : Result A F) (old new : List P) (op : P) (i : ℕ) (o : O)
      → MatchResult r (λ _. new ≡ old ++ op ∷ []) (λ _. new ≡ old)
      → cells (after (fold after none old) op) ≡ with_outcome i o (shown old) → IsTrue (is_ok r)
      → IsPosted net of bench (shown new) i
  posted_here (Ok x) old new op i o is made ok c p e s =
      settled_here (shown old) i o c (subst (λ (l : List (BoardCell O)). slice_get l i ≡ Some c)
      (ap shown is ∙ shown_one old op i o made) e)
  posted_here (Err x) old new op i o is made ok c p e s = absurd cc

  pub posted_kept : {A F : Type 0} (r : Result A F) (old new : List P) (op : P) (i : ℕ) (o : O)
      → MatchResult r (λ _. new ≡ old ++ op ∷ []) (λ _. new ≡ old)
      → cells (after (fold after none old) op) ≡ with_outcome i o (shown old) → (k : ℕ)
      → IsPosted net of bench (shown old) k → IsPosted net of bench (shown new) k
  posted_kept (Ok x) old new op i o is made k posted c p e s =
      settled_kept (λ test model. (q : O) × IsSettledCell net of bench test model q) (shown old) i k
      o (λ d f u. posted d u.0 f u.1) c
      (subst (λ (l : List (BoardCell O)). slice_get l k ≡ Some c)
      (ap shown is ∙ shown_one old op i o made) e)
      (p, s)
  posted_kept (Err x) old new op i o is made k posted c p e s =
      subst (λ (l : List P). IsPosted net of bench (shown l) k) (sym is) posted c p e s
