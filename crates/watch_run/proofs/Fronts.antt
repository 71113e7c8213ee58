-- What was written before a fault.
use Rattle.std.proofs.Common.{◌≡◌, ℕ, zero, suc, ◌+◌, ◌<◌, List, [], ◌∷◌, ◌++◌, length, take, drop, get_or, Option, Some, None, Result, Ok, true, refl, sym, ap, subst, ◌∙◌, append_assoc, arith}
use Rattle.std.specs.Prelude.{Err, OnErr}
use Rattle.std.specs.Io.KnownBytes.{Appends, Consumes}
use Rattle.std.proofs.KnownBytes.{Appends-nil, Appends-trans}
use Rattle.std.proofs.Math.Seq.{take-append-add}
use Rattle.std.proofs.lemmas.List.{take_all, length-append}
use Rattle.std.proofs.lemmas.Option.{same_Some}
use Rattle.session_script.specs.Written.{WritesPrefix}
use Rattle.watch_run.specs.declared.watched.Paths.{Paths}
use Rattle.watch_run.specs.Readings.{FileReading, AreReadBetween, HasReadAtMost}
use Rattle.watch_run.specs.Edits.{model_paths, test_paths}
use Rattle.watch_run.specs.Holding.{file_at, all_files}
use Rattle.watch_run.specs.Runs.{Standing, NoAnswer, OneMore, HasLineAnswers, HasBegunRun, IsLineAnswered, line_before, lines_from, IsLineAlone, AreIn, AreOfTurn, NothingYet, FirstLines, IsCutRun, HasAnswersPrefix, IsPrefixOfLine, ArePrefixIn, ArePrefixOf}
use Rattle.watch_run.proofs.Gaining.{answers_joined, line_first, append_none, read_more}

-- what holds in any case holds where the answer is a fault
pub on_err : {A B : Type 0} (r : Result A B) (P : Type 0) → P → OnErr r P
on_err (Ok v) P p = tt
on_err (Err e) P p = p

-- ---- bytes

nothing_written : (a : Option (List ℕ)) → WritesPrefix a a []
nothing_written a = (0, omega arith, Appends-nil a)

front_joined : (a b c : Option (List ℕ)) (x y : List ℕ) → Appends a b x → WritesPrefix b c y
    → WritesPrefix a c (x ++ y)
front_joined a b c x y first then =
    let (n, within, more) = then in (
      length x + n,
      omega (arith, within, length-append x y),
      subst (λ (l : List ℕ). Appends a c l) (sym (take-append-add x y n))
          (Appends-trans a b c x (take n y) first more),
    )

front_whole : (a b : Option (List ℕ)) (x : List ℕ) → Appends a b x → WritesPrefix a b x
front_whole a b x gained = (
  length x,
  omega arith,
  subst (λ (l : List ℕ). Appends a b l) (sym (take_all (length x) x (omega arith))) gained,
)

-- ---- readings

-- others behind them, and more
read_behind : (a b c : Option (List FileReading)) (xs ys zs : List FileReading) → AreReadBetween a b xs
    → AreReadBetween b c (ys ++ zs) → AreReadBetween a c ((xs ++ ys) ++ zs)
read_behind a b c xs ys zs first more =
    subst (λ (l : List FileReading). AreReadBetween a c l) (sym (append_assoc xs ys zs))
    (read_more a b c xs (ys ++ zs) first more)

and_none : (a b : Option (List FileReading)) (xs : List FileReading) → AreReadBetween a b xs
    → AreReadBetween a b (xs ++ [])
and_none a b xs are = subst (λ (l : List FileReading). AreReadBetween a b l) (sym (append_none xs)) are

-- ---- answers

-- nothing was answered
pub front_none : (models tests : List (List ℕ)) (asks : List (List ℕ) → Type 0)
    (old : Standing) (r s : Option (List FileReading)) (a : Option (List ℕ))
    → asks [] → HasReadAtMost 1 r s → HasAnswersPrefix models tests asks old r s a a
front_none models tests asks old r s a asked one = record {
  lines = [];
  asked = asked;
  new = old;
  read = [];
  more = one.read;
  text = [];
  answers = NoAnswer old;
  few = one.few;
  reads = one.are;
  front = nothing_written a;
}

-- one line was, and a front of it is written
pub front_one : (models tests : List (List ℕ)) (asks : List (List ℕ) → Type 0)
    (line : List ℕ) (old new : Standing) (r s : Option (List FileReading)) (said : List ℕ)
    (a b : Option (List ℕ))
    → asks (line ∷ []) → IsLineAnswered line (file_at models tests line) old new r s said
    → WritesPrefix a b said → HasAnswersPrefix models tests asks old r s a b
front_one models tests asks line old new r s said a b asked answered written = record {
  lines = [] ++ line ∷ [];
  asked = asked;
  new = new;
  read = [] ++ answered.read;
  more = [];
  text = [] ++ said;
  answers = OneMore [] line old old new [] answered.read [] said (NoAnswer old) answered.answer;
  few = omega arith;
  reads = and_none r s answered.read answered.reads;
  front = written;
}

-- the same, asked in another way
pub front_so : (models tests : List (List ℕ)) (asks so : List (List ℕ) → Type 0)
    (old : Standing) (r s : Option (List FileReading)) (a b : Option (List ℕ))
    → ((lines : List (List ℕ)) → asks lines → so lines) → HasAnswersPrefix models tests asks old r s a b
    → HasAnswersPrefix models tests so old r s a b
front_so models tests asks so old r s a b law x = record {
  lines = x.lines;
  asked = law x.lines x.asked;
  new = x.new;
  read = x.read;
  more = x.more;
  text = x.text;
  answers = x.answers;
  few = x.few;
  reads = x.reads;
  front = x.front;
}

-- behind others that are written
pub front_behind : (models tests : List (List ℕ)) (one two all : List (List ℕ) → Type 0)
    (old middle : Standing) (r s t : Option (List FileReading)) (a b c : Option (List ℕ))
    → ((x y : List (List ℕ)) → one x → two y → all (x ++ y))
    → HasLineAnswers models tests one old middle r s a b → HasAnswersPrefix models tests two middle s t b c
    → HasAnswersPrefix models tests all old r t a c
front_behind models tests one two all old middle r s t a b c law x y = record {
  lines = x.lines ++ y.lines;
  asked = law x.lines y.lines x.asked y.asked;
  new = y.new;
  read = x.read ++ y.read;
  more = y.more;
  text = x.text ++ y.text;
  answers =
      answers_joined models tests x.lines y.lines old middle y.new x.read y.read x.text y.text
      x.answers y.answers;
  few = y.few;
  reads = read_behind r s t x.read y.read y.more x.reads y.reads;
  front = front_joined a b c x.text y.text x.gains y.front;
}

-- all of some that are written
pub front_of_all : (models tests : List (List ℕ)) (one all : List (List ℕ) → Type 0)
    (old new : Standing) (r s : Option (List FileReading)) (a b : Option (List ℕ))
    → ((x : List (List ℕ)) → one x → all x) → HasLineAnswers models tests one old new r s a b
    → HasAnswersPrefix models tests all old r s a b
front_of_all models tests one all old new r s a b law x = record {
  lines = x.lines;
  asked = law x.lines x.asked;
  new = new;
  read = x.read;
  more = [];
  text = x.text;
  answers = x.answers;
  few = omega arith;
  reads = and_none r s x.read x.reads;
  front = front_whole a b x.text x.gains;
}

-- over the same paths
pub front_over : (p q : Paths) (asks : List (List ℕ) → Type 0) (old : Standing)
    (r s : Option (List FileReading)) (a b : Option (List ℕ)) → p ≡ q
    → HasAnswersPrefix (model_paths p) (test_paths p) asks old r s a b
    → HasAnswersPrefix (model_paths q) (test_paths q) asks old r s a b
front_over p q asks old r s a b same x =
    subst (λ (k : Paths). HasAnswersPrefix (model_paths k) (test_paths k) asks old r s a b) same x

-- ---- which lines

pub none_of_line : (line : List ℕ) → IsPrefixOfLine line []
none_of_line line = (line_before line [], refl)

pub whole_line : (line : List ℕ) (lines : List (List ℕ)) → IsLineAlone line lines
    → IsPrefixOfLine line lines
whole_line line lines is = ([], sym is ∙ sym (append_none lines))

pub none_in : (front bytes : List ℕ) → ArePrefixIn front bytes []
none_in front bytes = λ rest. (lines_from front (bytes ++ rest), refl)

pub none_of : (front : List ℕ) (source : Option (List ℕ)) → ArePrefixOf front source []
none_of front source = λ bytes is. (lines_from front bytes, refl)

-- a line feed ends the line
pub line_in : (front : List ℕ) (byte : ℕ) → byte ≡ 10 → (x : List (List ℕ)) → IsPrefixOfLine front x
    → ArePrefixIn front (byte ∷ []) x
line_in front byte feed x (more, is) = λ rest.
    let at : lines_from front (10 ∷ rest) ≡ line_before front (lines_from [] rest) = refl in (
      more ++ lines_from [] rest,
      ap (λ (b : ℕ). lines_from front (b ∷ rest)) feed ∙ at ∙ line_first front (lines_from [] rest)
          ∙ ap (λ (ls : List (List ℕ)). ls ++ lines_from [] rest) is
          ∙ append_assoc x more (lines_from [] rest),
    )

split_at : (xs : List ℕ) (i d : ℕ) → i < length xs
    → xs ≡ take i xs ++ get_or xs i d ∷ drop (suc i) xs
split_at [] i d lt = absurd (omega (arith, lt))
split_at (x ∷ xs) zero d lt = refl
split_at (x ∷ xs) (suc i) d lt = ap (λ (l : List ℕ). x ∷ l) (split_at xs i d (omega (arith, lt)))

-- behind the lines that end in the bytes so far
pub next_in : (front middle bytes : List ℕ) (i d : ℕ) (x y : List (List ℕ)) → i < length bytes
    → AreIn front (take i bytes) middle x → ArePrefixIn middle (get_or bytes i d ∷ []) y
    → ArePrefixIn front bytes (x ++ y)
next_in front middle bytes i d x y lt first then = λ rest.
    let behind = drop (suc i) bytes ++ rest in
    let at = then behind in
    let whole : bytes ++ rest ≡ take i bytes ++ (get_or bytes i d ∷ behind) =
    ap (λ (l : List ℕ). l ++ rest) (split_at bytes i d lt)
    ∙ append_assoc (take i bytes) (get_or bytes i d ∷ drop (suc i) bytes) rest in (
      at.0,
      ap (λ (l : List ℕ). lines_from front l) whole ∙ first (get_or bytes i d ∷ behind)
          ∙ ap (λ (ls : List (List ℕ)). x ++ ls) at.1 ∙ sym (append_assoc x y at.0),
    )

-- what a turn takes of the source
pub front_on : (front taken : List ℕ) (before after : Option (List ℕ)) (x : List (List ℕ))
    → Consumes before after taken → ArePrefixIn front taken x → ArePrefixOf front before x
front_on front taken None after x consumes lines = λ bytes is. absurd cc
front_on front taken (Some xs) None x consumes lines = absurd consumes
front_on front taken (Some xs) (Some ys) x consumes lines = λ bytes is.
    let same : xs ≡ bytes = same_Some xs bytes is in
    let at = lines ys in
    (at.0, ap (λ (l : List ℕ). lines_from front l) (sym same ∙ consumes) ∙ at.1)

-- behind the turns so far
pub front_after : (front middle : List ℕ) (a b : Option (List ℕ)) (x y : List (List ℕ))
    → AreOfTurn true front middle a b x → ArePrefixOf middle b y → ArePrefixOf front a (x ++ y)
front_after front middle a b x y first then = λ bytes is.
    let one = first bytes is in
    let two = then one.0 one.1 in
    (two.0, one.2 ∙ ap (λ (ls : List (List ℕ)). x ++ ls) two.1 ∙ sym (append_assoc x y two.0))

pub front_turns : (front middle : List ℕ) (a b : Option (List ℕ)) (x : List (List ℕ))
    → AreOfTurn true front middle a b x → ArePrefixOf front a x
front_turns front middle a b x first =
    λ bytes is. let one = first bytes is in (lines_from middle one.0, one.2)

-- ---- a whole run

pub cut_none : (models tests lasts : List (List ℕ)) (source : Option (List ℕ))
    (r s : Option (List FileReading)) (a : Option (List ℕ))
    → HasReadAtMost (length (all_files models tests)) r s → IsCutRun models tests lasts source r s a a
cut_none models tests lasts source r s a few = record {
  read = [];
  more = few.read;
  most = length (all_files models tests);
  text = [];
  is = NothingYet;
  few = few.few;
  reads = few.are;
  front = nothing_written a;
}

pub cut_first : (models tests lasts : List (List ℕ)) (source : Option (List ℕ))
    (begins : Standing) (r s : Option (List FileReading)) (first : List ℕ) (a b : Option (List ℕ))
    → HasBegunRun models tests lasts begins r s first → WritesPrefix a b first
    → IsCutRun models tests lasts source r s a b
cut_first models tests lasts source begins r s first a b begun written = record {
  read = begun.read ++ [];
  more = [];
  most = 1;
  text = first ++ [];
  is =
      FirstLines begins begins begun.read [] first [] [] begun.begun (NoAnswer begins)
      (none_of [] source);
  few = omega arith;
  reads = and_none r s (begun.read ++ []) (and_none r s begun.read begun.reads);
  front = subst (λ (l : List ℕ). WritesPrefix a b l) (sym (append_none first)) written;
}

pub cut_later : (models tests lasts : List (List ℕ)) (source : Option (List ℕ))
    (begins : Standing) (r s t : Option (List FileReading)) (first : List ℕ) (a b c : Option (List ℕ))
    → HasBegunRun models tests lasts begins r s first → Appends a b first
    → HasAnswersPrefix models tests (ArePrefixOf [] source) begins s t b c
    → IsCutRun models tests lasts source r t a c
cut_later models tests lasts source begins r s t first a b c begun gained more = record {
  read = begun.read ++ more.read;
  more = more.more;
  most = 1;
  text = first ++ more.text;
  is =
      FirstLines begins more.new begun.read more.read first more.text more.lines begun.begun
      more.answers more.asked;
  few = more.few;
  reads = read_behind r s t begun.read more.read more.more begun.reads more.reads;
  front = front_joined a b c first more.text gained more.front;
}
