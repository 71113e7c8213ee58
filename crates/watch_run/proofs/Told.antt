-- What is to be told of versions: the index of a path, and the lines of faults.
use Rattle.std.proofs.Common.{◌≡◌, ℕ, zero, suc, ◌+◌, ◌<◌, ◌≤◌, List, [], ◌∷◌, length, map, get_or, set, Bool, true, false, Some, Result, Ok, Err, refl, sym, ap, subst, ◌∙◌, inl, inr, arith}
use Rattle.std.specs.Prelude.{◌≢◌, slice_get, bytes_eq, ◌==◌, Vec, vec_len, IfOk}
use Rattle.std.specs.declared.alloc.Global.{Global}
use Rattle.std.specs.Borrow.{Bor}
use Rattle.std.proofs.lemmas.Bool.{cases_lt, false≢true}
use Rattle.std.proofs.lemmas.Option.{same_Some, slice_get_within}
use Rattle.std.proofs.lemmas.Slice.Eq.{bytes_eq-Decides}
use Rattle.std.specs.declared.alloc.AllocError.{AllocError}
use Rattle.std.proofs.lemmas.Bool.Decides.{Decides-eqb}
use Rattle.command_answers.specs.declared.file.TextFile.{TextFile}
use Rattle.watch_run.proofs.Lists.{nothing_of}
use Rattle.watch_run.proofs.Steps.{line_at}
use Rattle.watch_run.specs.Boards.{lists_of}
use Rattle.command_answers.specs.Reports.{IsModelTold}
use Rattle.command_answers.specs.Told.{IsFaultTold}
use Rattle.watch_run.specs.Telling.{IsPathAt, IsFaultNoted, IsModelTextTold, IsFaultOf, IsVersionTold, IsOfModel}

-- ---- the index of a path

path_got : (paths : List (Bor (List ℕ))) (i : ℕ) (d : Bor (List ℕ)) → i < length paths
    → slice_get (map (λ p. p.now) paths) i ≡ Some (get_or paths i d).now
path_got [] i d lt = absurd (omega (arith, lt))
path_got (p ∷ paths) zero d lt = refl
path_got (p ∷ paths) (suc i) d lt = path_got paths i d (omega (arith, lt))

as_many : (paths : List (Bor (List ℕ))) → length (map (λ p. p.now) paths) ≡ length paths
as_many [] = refl
as_many (p ∷ paths) = ap suc (as_many paths)

pub path_here : (paths : List (Bor (List ℕ))) (path : List ℕ) (i : ℕ) (d : Bor (List ℕ))
    (is : Bool) → i < length paths → is ≡ bytes_eq (get_or paths i d).now path → is ≡ true
    → slice_get (map (λ p. p.now) paths) i ≡ Some path
path_here paths path i d is lt same so =
    path_got paths i d lt
    ∙ ap (λ (p : List ℕ). Some p)
    ((bytes_eq-Decides (get_or paths i d).now path).0 (sym same ∙ so))

-- it is none of those so far, and not the next
pub path_later : (paths : List (Bor (List ℕ))) (path : List ℕ) (i : ℕ) (d : Bor (List ℕ))
    (is : Bool) → i < length paths → is ≡ bytes_eq (get_or paths i d).now path → is ≡ false
    → ((k : ℕ) → k < i → slice_get (map (λ p. p.now) paths) k ≢ Some path)
    → (k : ℕ) → k < i + 1 → slice_get (map (λ p. p.now) paths) k ≢ Some path
path_later paths path i d is lt same not_so before k below there = elim (cases_lt k i) [
  | inl less ↦ before k less there
  | inr more ↦ (let at : k ≡ i = omega (arith, below, more) in
      let here : slice_get (map (λ p. p.now) paths) i ≡ Some path = subst (λ (n : ℕ). slice_get (map (λ p. p.now) paths) n ≡ Some path) at there in
      let equal : (get_or paths i d).now ≡ path = same_Some (get_or paths i d).now path (sym (path_got paths i d lt) ∙ here) in
      false≢true (sym not_so ∙ same ∙ (bytes_eq-Decides (get_or paths i d).now path).1 equal))
]

-- it is none of them
pub path_nowhere : (paths : List (Bor (List ℕ))) (path : List ℕ) (i : ℕ) → length paths ≤ i
    → ((k : ℕ) → k < i → slice_get (map (λ p. p.now) paths) k ≢ Some path)
    → (k : ℕ) → slice_get (map (λ p. p.now) paths) k ≢ Some path
path_nowhere paths path i all before k there =
    let inside : k < length (map (λ (p : Bor (List ℕ)). p.now) paths) = slice_get_within (map (λ p. p.now) paths) k path there in
    before k (omega (arith, inside, all, as_many paths)) there

-- ---- the lines of faults

set_here : (lines : List (Vec ℕ Global)) (i : ℕ) (v : Vec ℕ Global) → i < length lines
    → get_or (lists_of (set lines i v)) i [] ≡ v.items
set_here [] i v lt = absurd (omega (arith, lt))
set_here (x ∷ xs) zero v lt = refl
set_here (x ∷ xs) (suc i) v lt = set_here xs i v (omega (arith, lt))

set_beside : (lines : List (Vec ℕ Global)) (i k : ℕ) (v : Vec ℕ Global) → k ≢ i
    → get_or (lists_of (set lines i v)) k [] ≡ get_or (lists_of lines) k []
set_beside [] i k v apart = refl
set_beside (x ∷ xs) zero zero v apart = absurd (apart refl)
set_beside (x ∷ xs) zero (suc k) v apart = refl
set_beside (x ∷ xs) (suc i) zero v apart = refl
set_beside (x ∷ xs) (suc i) (suc k) v apart = set_beside xs i k v (λ e. apart (ap suc e))

-- the same lines were noted
pub fault_same : (index : ℕ) (fault told : List ℕ) (old : List (List ℕ))
    (now : List (Vec ℕ Global)) (v : Vec ℕ Global) (is : Bool) → index < length now
    → ((k : ℕ) → get_or (lists_of now) k [] ≡ get_or old k [])
    → is ≡ bytes_eq (get_or now index v).items fault → is ≡ true → told ≡ []
    → IsFaultNoted index fault old (lists_of now) told
fault_same index fault told old now v is lt stay same so none =
    let at : get_or (lists_of now) index [] ≡ fault = line_at now index v lt ∙ (bytes_eq-Decides (get_or now index v).items fault).0 (sym same ∙ so) in
    let before : bytes_eq (get_or old index []) fault ≡ true = (bytes_eq-Decides (get_or old index []) fault).1 (sym (stay index) ∙ at) in
    record { is = rw before none; noted = at; others = λ other apart. stay other }

-- others are noted
pub fault_new : (index : ℕ) (fault : List ℕ) (old : List (List ℕ)) (now : List (Vec ℕ Global))
    (v copy : Vec ℕ Global) (is : Bool) → index < length now
    → ((k : ℕ) → get_or (lists_of now) k [] ≡ get_or old k [])
    → is ≡ bytes_eq (get_or now index v).items fault → is ≡ false → copy.items ≡ fault
    → IsFaultNoted index fault old (lists_of (set now index copy)) fault
fault_new index fault old now v copy is lt stay same not_so made =
    let before : bytes_eq (get_or old index []) fault ≡ false =
    ap (λ (l : List ℕ). bytes_eq l fault) (sym (stay index) ∙ line_at now index v lt)
    ∙ sym same ∙ not_so in
    record {
      is = rw before refl;
      noted = set_here now index copy lt ∙ made;
      others = λ other apart. set_beside now index other copy apart ∙ stay other;
    }

-- ---- what is told

none_in : (lines : Vec ℕ Global) → (vec_len lines == 0) ≡ true → lines.items ≡ []
none_in lines e =
    let none : vec_len lines ≡ 0 = (Decides-eqb (vec_len lines) 0).0 e in
    nothing_of lines.items (omega (arith, none, lines.ok.0))

-- the fault of a model that is not refused
pub model_told : (index : ℕ) (file : TextFile) (refusal : Vec ℕ Global) (is : Bool)
    (fault : List ℕ) (old new : List (List ℕ)) (r : Result (Vec ℕ Global) AllocError)
    → IsModelTold file refusal.items → is ≡ (vec_len refusal == 0) → is ≡ true
    → IsFaultTold file fault → IfOk r (λ v. IsFaultNoted index fault old new v.items)
    → IfOk r (λ v. IsModelTextTold index file old new v.items)
model_told index file refusal is fault old new (Ok v) reads empty so told noted =
    IsFaultOf fault
    (subst (λ (l : List ℕ). IsModelTold file l) (none_in refusal (sym empty ∙ so)) reads) told noted
model_told index file refusal is fault old new (Err e) reads empty so told noted = tt

-- and of a file of a model
pub version_told : (models : List (List ℕ)) (tests : Bool) (index : ℕ) (file : TextFile)
    (old new : List (List ℕ)) (r : Result (Vec ℕ Global) AllocError)
    → IsPathAt models file.path.now index
    → IfOk r (λ v. IsModelTextTold index file old new v.items)
    → IfOk r (λ v. IsVersionTold models tests file old new v.items)
version_told models tests index file old new (Ok v) at told = IsOfModel index at told
version_told models tests index file old new (Err e) at told = tt
