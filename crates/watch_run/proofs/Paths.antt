-- The files by their index and by their path.
use Rattle.std.proofs.Common.{◌≡◌, ℕ, zero, suc, ◌+◌, ◌-◌, ◌<◌, ◌≤◌, List, [], ◌∷◌, ◌++◌, length, map, drop, get_or, true, false, Some, None, refl, sym, ap, ◌∙◌, arith}
use Rattle.std.specs.Prelude.{bytes_eq, slice_get}
use Rattle.std.specs.Borrow.{Bor}
use Rattle.std.proofs.lemmas.List.{length-append}
use Rattle.std.proofs.lemmas.Option.{same_Some}
use Rattle.watch_run.specs.Holding.{File, ModelFile, TestFile, FilePath, files_from, all_files, first_at}

-- ---- by their index

files_long : (kind : ℕ → File) (n : ℕ) (paths : List (Bor (List ℕ)))
    → length (files_from kind n (map (λ p. p.now) paths)) ≡ length paths
files_long kind n [] = refl
files_long kind n (x ∷ xs) = ap suc (files_long kind (n + 1) xs)

pub all_long : (models tests : List (Bor (List ℕ)))
    → length (all_files (map (λ m. m.now) models) (map (λ t. t.now) tests))
    ≡ length models + length tests
all_long models tests =
    let first = files_from ModelFile 0 (map (λ m. m.now) models) in
    let second = files_from TestFile 0 (map (λ t. t.now) tests) in
    let one : length first ≡ length models = files_long ModelFile 0 models in
    let two : length second ≡ length tests = files_long TestFile 0 tests in
    omega (arith, length-append first second, one, two)

file_there : (kind : ℕ → File) (n i : ℕ) (paths : List (Bor (List ℕ))) (d : Bor (List ℕ))
    → i < length paths
    → slice_get (files_from kind n (map (λ p. p.now) paths)) i
    ≡ Some (record { file = kind (n + i); path = (get_or paths i d).now })
file_there kind n i [] d lt = absurd (omega (arith, lt))
file_there kind n zero (x ∷ xs) d lt =
    let same : n ≡ n + 0 = omega arith in
    ap (λ (k : ℕ). Some (record { file = kind k; path = x.now })) same
file_there kind n (suc i) (x ∷ xs) d lt =
    let same : (n + 1) + i ≡ n + suc i = omega arith in
    file_there kind (n + 1) i xs d (omega (arith, lt))
    ∙ ap (λ (k : ℕ). Some (record { file = kind k; path = (get_or xs i d).now })) same

left_there : (xs ys : List FilePath) (i : ℕ) → i < length xs
    → slice_get (xs ++ ys) i ≡ slice_get xs i
left_there [] ys i lt = absurd (omega (arith, lt))
left_there (x ∷ xs) ys zero lt = refl
left_there (x ∷ xs) ys (suc i) lt = left_there xs ys i (omega (arith, lt))

right_there : (xs ys : List FilePath) (i k : ℕ) → i ≡ length xs + k
    → slice_get (xs ++ ys) i ≡ slice_get ys k
right_there [] ys i k is =
    let same : i ≡ k = omega (arith, is) in
    ap (λ (n : ℕ). slice_get ys n) same
right_there (x ∷ xs) ys zero k is = absurd (omega (arith, is))
right_there (x ∷ xs) ys (suc i) k is = right_there xs ys i k (omega (arith, is))

pub model_at : (models tests : List (Bor (List ℕ))) (i : ℕ) (d : Bor (List ℕ)) → i < length models
    → slice_get (all_files (map (λ m. m.now) models) (map (λ t. t.now) tests)) i
    ≡ Some (record { file = ModelFile i; path = (get_or models i d).now })
model_at models tests i d lt =
    let first = files_from ModelFile 0 (map (λ m. m.now) models) in
    let second = files_from TestFile 0 (map (λ t. t.now) tests) in
    let none : 0 + i ≡ i = omega arith in
    left_there first second i (omega (arith, lt, files_long ModelFile 0 models))
    ∙ file_there ModelFile 0 i models d lt
    ∙ ap (λ (k : ℕ). Some (record { file = ModelFile k; path = (get_or models i d).now })) none

pub test_at : (models tests : List (Bor (List ℕ))) (i k : ℕ) (d : Bor (List ℕ))
    → i ≡ length models + k → k < length tests
    → slice_get (all_files (map (λ m. m.now) models) (map (λ t. t.now) tests)) i
    ≡ Some (record { file = TestFile k; path = (get_or tests k d).now })
test_at models tests i k d is lt =
    let first = files_from ModelFile 0 (map (λ m. m.now) models) in
    let second = files_from TestFile 0 (map (λ t. t.now) tests) in
    let none : 0 + k ≡ k = omega arith in
    right_there first second i k (omega (arith, is, files_long ModelFile 0 models))
    ∙ file_there TestFile 0 k tests d lt
    ∙ ap (λ (n : ℕ). Some (record { file = TestFile n; path = (get_or tests k d).now })) none

-- ---- by their path

at_drop : (files : List FilePath) (i : ℕ) (file : FilePath) → slice_get files i ≡ Some file
    → drop i files ≡ file ∷ drop (suc i) files
at_drop [] i file there = absurd cc
at_drop (x ∷ xs) zero file there = ap (λ (f : FilePath). f ∷ xs) (same_Some x file there)
at_drop (x ∷ xs) (suc i) file there = at_drop xs i file there

-- the file at an index has the path, and none before it
pub found_here : (files : List FilePath) (path : List ℕ) (i : ℕ) (file : FilePath)
    → slice_get files i ≡ Some file → first_at files path ≡ first_at (drop i files) path
    → bytes_eq file.path path ≡ true → Some file.file ≡ first_at files path
found_here files path i file there before is =
    let here : first_at (file ∷ drop (suc i) files) path ≡ Some file.file = rw is refl in
    sym (before ∙ ap (λ (l : List FilePath). first_at l path) (at_drop files i file there) ∙ here)

-- neither has it
pub not_here : (files : List FilePath) (path : List ℕ) (i : ℕ) (file : FilePath)
    → slice_get files i ≡ Some file → first_at files path ≡ first_at (drop i files) path
    → bytes_eq file.path path ≡ false → first_at files path ≡ first_at (drop (i + 1) files) path
not_here files path i file there before other =
    let one : suc i ≡ i + 1 = omega arith in
    let past : first_at (file ∷ drop (suc i) files) path ≡ first_at (drop (suc i) files) path = rw other refl in
    before ∙ ap (λ (l : List FilePath). first_at l path) (at_drop files i file there) ∙ past
    ∙ ap (λ (n : ℕ). first_at (drop n files) path) one

drop_all : (i : ℕ) (files : List FilePath) → length files ≤ i → drop i files ≡ []
drop_all zero [] le = refl
drop_all (suc i) [] le = refl
drop_all zero (x ∷ xs) le = absurd (omega (arith, le))
drop_all (suc i) (x ∷ xs) le = drop_all i xs (omega (arith, le))

-- no file has it
pub found_nowhere : (files : List FilePath) (path : List ℕ) (i : ℕ) → length files ≤ i
    → first_at files path ≡ first_at (drop i files) path → None ≡ first_at files path
found_nowhere files path i end before =
    sym (before ∙ ap (λ (l : List FilePath). first_at l path) (drop_all i files end))
