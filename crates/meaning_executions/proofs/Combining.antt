-- A test has as many combinations of runs as its program.
use Rattle.std.proofs.Common.{ℕ, zero, suc, ◌≡◌, get_or, ◌<◌, ◌≤◌, ◌+◌, ◌*◌, List, [], ◌∷◌, ◌++◌, map, length, Contains, Some, slice_get, refl, sym, ap, subst, ◌∙◌, arith, vec_len, length-append}
use Rattle.std.specs.List.{AllZip, flat_map}
use Rattle.std.proofs.Math.Nat.{suc-mul, zero-mul}
use Rattle.std.proofs.lemmas.List.{length-map}
use Rattle.std.proofs.lemmas.List.Elements.{All-weaker}
use Rattle.std.proofs.lemmas.Option.{slice_get_within}
use Rattle.text_values.specs.declared.test.Test.{Test}
use Rattle.text_values.specs.TestValue.{Content, content_of}
use Rattle.thread_runs.specs.declared.value.Value.{Value}
use Rattle.thread_runs.specs.declared.instruction.Program.{Program}
use Rattle.thread_runs.specs.Runs as by_number
use Rattle.thread_runs.specs.Runs.{Thread, IsThreadRun, AreThreadRuns, IsLess, IsLexicallyBefore}
use Rattle.ppc_lowering.specs.Domain.{InDomainAt, IsDomainAt, HasCombinations, load_total, threads_of}
use Rattle.ppc_lowering.specs.Lowering.{IsProgram}
use Rattle.candidates.specs.Executions as numbered
use Rattle.candidates.specs.Executions.{product}
use Rattle.candidates.proofs.Elements.{joined, joined_there, mapped, mapped_there}
use Rattle.meaning.specs.Sets.{HasOver}
use Rattle.meaning.specs.Runs.{Run, IsRun}
use Rattle.meaning.specs.Domain.{InDomain}
use Rattle.meaning.specs.Executions.{Execution, AreRuns}
use Rattle.meaning.proofs.Counting.{here}
use Rattle.meaning_executions.specs.Domain.{IsNumberedRun}
use Rattle.meaning_executions.specs.ThreadRuns.{AreSameThreadRuns}
use Rattle.meaning_executions.proofs.Lists.{left_there, right_there, as_long, chosen, turned, each_second, StandsOnce}
use Rattle.meaning_executions.proofs.Ordering.{all_of, once_apart}
use Rattle.meaning_executions.proofs.Sole.{one_named, one_numbered}
use Rattle.meaning_executions.proofs.Threads.{threads_run, runs_of_threads, same_long, many_threads, runs_named, runs_numbered}
use Rattle.meaning_executions.proofs.Once.{rising_once, product_once, not_before}
use Rattle.meaning_executions.proofs.Bounds.{right_once, left_once, few_of}

-- ---- Products

product_long : {X : Type 0} (xs : List X) (rest : List (List X))
    → length (flat_map (λ x. map (λ (ys : List X). x ∷ ys) rest) xs) ≡ length xs * length rest
product_long [] rest = sym (zero-mul (length rest))
product_long {X} (x ∷ xs) rest =
    let first : List (List X) = map (λ (ys : List X). x ∷ ys) rest in
    let others : List (List X) = flat_map (λ z. map (λ (ys : List X). z ∷ ys) rest) xs in
    let parts : length (first ++ others) ≡ length first + length others = length-append first others in
    let long : length first ≡ length rest = length-map rest (λ (ys : List X). x ∷ ys) in
    let before : length others ≡ length xs * length rest = product_long xs rest in
    let more : suc (length xs) * length rest ≡ length xs * length rest + length rest =
    suc-mul (length xs) (length rest) in
    omega (arith, parts, long, before, more)

product_there : {X : Type 0} (xss : List (List X)) (ys : List X) → AllZip Contains xss ys
    → Contains (product xss) ys
product_there [] [] h = here [] []
product_there [] (y ∷ ys) h = absurd h
product_there (xs ∷ xss) [] h = absurd h
product_there {X} (xs ∷ xss) (y ∷ ys) h =
    joined_there (λ (x : X). map (λ (rest : List X). x ∷ rest) (product xss)) xs y (y ∷ ys) h.0
    (mapped_there (λ (rest : List X). y ∷ rest) (product xss) ys (product_there xss ys h.1))

product_from : {X : Type 0} (xss : List (List X)) (ys : List X) → Contains (product xss) ys
    → AllZip Contains xss ys
product_from {X} [] ys (k, lt, eq) = go k lt eq
  where
    go : (j : ℕ) → j < 1 → get_or ([] ∷ []) j ys ≡ ys → AllZip Contains [] ys
    go zero lt e = subst (λ (zs : List X). AllZip Contains [] zs) e tt
    go (suc j) lt e = absurd (omega (arith, lt))
product_from {X} (xs ∷ xss) ys there =
    let found : _ = joined (λ x. map (λ (zs : List X). x ∷ zs) (product xss)) xs ys there in
    let own : _ = mapped (λ (zs : List X). found.0 ∷ zs) (product xss) ys found.2 in
    subst (λ (zs : List X). AllZip Contains (xs ∷ xss) zs) own.2
    (found.1, product_from xss own.0 own.1)

through : {A B C : Type 0} (P : A → B → Type 0) (Q : B → C → Type 0) (R : A → C → Type 0)
    → ((a : A) (b : B) (c : C) → P a b → Q b c → R a c) → (ks : List A) (bs : List B) (cs : List C)
    → AllZip P ks bs → AllZip Q bs cs → AllZip R ks cs
through P Q R to [] [] [] h g = tt
through P Q R to [] [] (c ∷ cs) h g = absurd g
through P Q R to [] (b ∷ bs) cs h g = absurd h
through P Q R to (a ∷ ks) [] cs h g = absurd h
through P Q R to (a ∷ ks) (b ∷ bs) [] h g = absurd g
through P Q R to (a ∷ ks) (b ∷ bs) (c ∷ cs) h g =
    (to a b c h.0 g.0, through P Q R to ks bs cs h.1 g.1)

module _ (V : List Value) where
  abbrev AreAll : Thread → List by_number.Run → Type 0
  AreAll s all = AreThreadRuns s (Contains V) all

  lists : (ss : List Thread) (n : ℕ) → HasCombinations ss V n
      → (rss : List (List by_number.Run)) × AllZip AreAll ss rss × (length (product rss) ≡ n)
  lists [] n h = ([], tt, sym h)
  lists (s ∷ ss) n (here, rest, runs, more, is) =
      let others : _ = lists ss rest more in
      let long : _ = product_long runs.0 (product others.0) in (
        runs.0 ∷ others.0,
        (runs.1, others.1),
        long ∙ ap (λ (k : ℕ). k * length (product others.0)) runs.2
            ∙ ap (λ (k : ℕ). here * k) others.2 ∙ sym is,
      )

  lists_once : (ss : List Thread) (rss : List (List by_number.Run)) → AllZip AreAll ss rss
      → StandsOnce (product rss)
  lists_once ss rss are =
      product_once rss (λ rs there.
      let found : _ = right_there AreAll ss rss are rs there in
      rising_once (λ (r s : by_number.Run). IsLexicallyBefore IsLess r.values s.values)
      (λ r. not_before r.values) rs found.2.rising)

module _ (t : Test) (p : Program) (of : IsProgram t p) (V : List Value)
    (domain : IsDomainAt p (load_total p) V) where
  abbrev content : Content
  content = content_of t

  abbrev IsCombination : List by_number.Run → Type 0
  IsCombination rs = AllZip (λ s r. IsThreadRun s (Contains V) r) (threads_of p) rs

  -- the combinations are the same
  record AreSame (rs : List by_number.Run) (qs : List Run) : Type 0 where
    by_number : IsCombination rs
    by_name : AreRuns content qs
    same : AreSameThreadRuns content 0 rs qs

  numbered_runs : (rs : List by_number.Run) → IsCombination rs → (k : ℕ) (r : by_number.Run)
      → slice_get rs k ≡ Some r → (k < length t.threads.items) × IsNumberedRun p k r
  numbered_runs rs h k r at =
      let threads : _ = threads_run p (Contains V) rs h in
      let within : k < length rs = slice_get_within rs k r at in
      let own : _ = threads.1 k r at in (
        subst (λ (n : ℕ). k < n) (threads.0 ∙ p.threads.ok.0 ∙ of.threads.each_one) within,
        (
          All-weaker (Contains V) (InDomainAt p (load_total p)) (λ v c. (domain.exact v).0 c)
              r.values own.0,
          own.1,
        ),
      )

  combination_named : (rs : List by_number.Run) → IsCombination rs
      → (qs : List Run) × AreSame rs qs
  combination_named rs h =
      let count : length rs ≡ vec_len p.threads = (threads_run p (Contains V) rs h).0 in
      let named : _ = runs_named t p of 0 rs (omega (arith, count)) (λ j k r e at.
      let here : k ≡ j = omega (arith, e) in
      subst (λ (n : ℕ). IsNumberedRun p n r) here (numbered_runs rs h k r at).1) in
      let long : length rs ≡ length named.0 = same_long named.1 in (
        named.0,
        record {
          by_number = h;
          by_name = record {
            threads = sym long ∙ count ∙ many_threads t p of;
            each = λ k q at. named.2 k k q (omega arith) at;
          };
          same = named.1;
        },
      )

  combination_numbered : (qs : List Run) → AreRuns content qs
      → (rs : List by_number.Run) × AreSame rs qs
  combination_numbered qs h =
      let many : _ = many_threads t p of in
      let count : length qs ≡ length content.threads = h.threads in
      let numbers : _ = runs_numbered t p of 0 qs (omega (arith, count, many)) (λ j k q e at.
      let here : k ≡ j = omega (arith, e) in
      subst (λ (n : ℕ). IsRun content (InDomain content) n q) here (h.each k q at)) in
      let long : length numbers.0 ≡ length qs = same_long numbers.1 in (
        numbers.0,
        record {
          by_number =
              runs_of_threads p (Contains V) numbers.0 (long ∙ count ∙ sym many)
              (λ k r at.
              let own : IsNumberedRun p k r = numbers.2 k k r (omega arith) at in (
                All-weaker (InDomainAt p (load_total p)) (Contains V) (λ v c. (domain.exact v).1 c)
                    r.values own.0,
                own.1,
              ));
          by_name = h;
          same = numbers.1;
        },
      )

  -- runs alone, as executions
  abbrev bare : List by_number.Run → numbered.Execution
  bare rs = record { runs = rs; reads_from = []; coherence = [] }

  abbrev bare_named : List Run → Execution
  bare_named qs = record { runs = qs; reads_from = []; coherence = [] }

  one_number : (rs ss : List by_number.Run) (qs : List Run) → AreSame rs qs → AreSame ss qs
      → rs ≡ ss
  one_number rs ss qs h g =
      ap (λ (x : numbered.Execution). x.runs)
      (one_numbered t p of (bare rs) (bare ss) (bare_named qs) (numbered_runs rs h.by_number)
      (numbered_runs ss g.by_number)
      (record { runs = h.same; reads_from = tt; coherence = tt })
      (record { runs = g.same; reads_from = tt; coherence = tt }))

  one_name : (rs : List by_number.Run) (qs us : List Run) → AreSame rs qs → AreSame rs us → qs ≡ us
  one_name rs qs us h g =
      ap (λ (x : Execution). x.runs)
      (one_named content (bare rs) (bare_named qs) (bare_named us) h.by_name.each g.by_name.each
      (record { runs = h.same; reads_from = tt; coherence = tt })
      (record { runs = g.same; reads_from = tt; coherence = tt }))

  module _ (n : ℕ) (has : HasCombinations (threads_of p) V n) where
    abbrev all : List (List by_number.Run)
    all = product (lists V (threads_of p) n has).0

    is_one : (rs : List by_number.Run) → Contains all rs → IsCombination rs
    is_one rs there =
        let own : _ = lists V (threads_of p) n has in
        through (AreAll V) Contains (λ s r. IsThreadRun s (Contains V) r)
        (λ s each r are c. (are.exact r).0 c) (threads_of p) own.0 rs own.1
        (product_from own.0 rs there)

    is_there : (rs : List by_number.Run) → IsCombination rs → Contains all rs
    is_there rs h =
        let own : _ = lists V (threads_of p) n has in
        product_there own.0 rs
        (through (λ each s. AreAll V s each) (λ s r. IsThreadRun s (Contains V) r) Contains
        (λ each s r are is. (are.exact r).1 is) own.0 (threads_of p) rs
        (turned (AreAll V) (threads_of p) own.0 own.1) h)

    pub many_combinations : (bound : ℕ) → bound < n → HasOver bound (AreRuns content)
    many_combinations bound many =
        let lists_are : _ = lists V (threads_of p) n has in
        let own : _ = chosen AreSame IsCombination combination_named all (all_of IsCombination all is_one) in
        let long : length all ≡ length own.0 = as_long AreSame all own.0 own.1 in
        let count : length all ≡ n = lists_are.2 in
        let once : StandsOnce all = lists_once V (threads_of p) lists_are.0 lists_are.1 in (
          own.0,
          once_apart own.0 (right_once AreSame all own.0 own.1 one_number once),
          each_second AreSame (AreRuns content) (λ rs qs h. h.by_name) all own.0 own.1,
          omega (arith, many, long, count),
        )

    pub few_combinations : (bound : ℕ) → n ≤ bound → HasOver bound (AreRuns content) → ⊥
    few_combinations bound few (qss, once, named, many) =
        let lists_are : _ = lists V (threads_of p) n has in
        let own : _ = chosen (λ qs rs. AreSame rs qs) (AreRuns content) combination_numbered qss named in
        let same : AllZip AreSame own.0 qss = turned (λ qs rs. AreSame rs qs) qss own.0 own.1 in
        let long : length own.0 ≡ length qss = as_long AreSame own.0 qss same in
        let count : length all ≡ n = lists_are.2 in
        let fewer : length own.0 ≤ length all =
        few_of own.0 all
        (left_once AreSame own.0 qss same one_name
        (rising_once (λ x y. x ≡ y → ⊥) (λ x other. other refl) qss once))
        (λ rs h.
        let found : _ = left_there AreSame own.0 qss same rs h in
        is_there rs found.2.by_number) in
        omega (arith, few, fewer, long, count, many)
