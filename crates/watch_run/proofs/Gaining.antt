-- Answers that a sink gained, one after another, and what was read for them.
use Rattle.std.proofs.Common.{◌≡◌, Bool, true, false, inl, inr, ℕ, zero, suc, ◌+◌, ◌<◌, ◌≤◌, List, [], ◌∷◌, ◌++◌, length, take, get_or, Option, Some, None, Result, Ok, refl, sym, ap, subst, ◌∙◌, append_assoc, arith}
use Rattle.std.specs.Prelude.{Vec, codes, Err, IfOk, ◌==◌, slice_get}
use Rattle.std.specs.declared.alloc.Global.{Global}
use Rattle.std.proofs.KnownBytes.{Appends-nil, Appends-trans}
use Rattle.std.specs.Io.KnownBytes.{Appends}
use Rattle.std.proofs.lemmas.List.{take_all, length-append, length-take-le}
use Rattle.std.proofs.lemmas.Option.{same_Some, slice_get_within}
use Rattle.std.proofs.lemmas.Bool.{cases_Bool, false≢true}
use Rattle.std.proofs.lemmas.Bool.Decides.{Decides-eqb}
use Rattle.command_line.specs.declared.fault.SessionFault.{SessionFault}
use Rattle.bench_texts.specs.declared.fault.EditFault.{EditFault}
use Rattle.watch_run.specs.declared.versions.Version.{Version}
use Rattle.watch_run.specs.declared.versions.Version.TheVariants.{Text, Unread}
use Rattle.watch_run.specs.Readings.{FileReading, AreReadBetween, HasReadAtMost}
use Rattle.watch_run.specs.Holding.{Holding, bench_model_names, IsVersionRefused, File, FilePath, file_at}
use Rattle.watch_run.specs.Edited.{IsTakenByEdits}
use Rattle.bench_texts.specs.Held.{texts_of}
use Rattle.bench_texts.specs.declared.texts.Texts.{Texts}
use Rattle.watch_run.specs.declared.author.Counts.{Counts}
use Rattle.watch_run.specs.Counts.{with_jobs}
use Rattle.watch_run.specs.declared.watched.Paths.{Paths}
use Rattle.watch_run.specs.Edits.{model_paths, test_paths, holding_of}
use Rattle.watch_run.specs.Lines.{AreLinesOf, AreLinesWritten}
use Rattle.watch_run.specs.Boards.{lists_of, standing_of}
use Rattle.watch_run.specs.Runs.{Standing, AreLinesSettled, IsTextNoted, file_refusal, AreLineAnswers, NoAnswer, OneMore, AreFilesBegun, NoFile, Begun, NotBegun, IsWatchRun, HasLineAnswers, line_before, lines_from, IsLineAlone, AreIn, AreOfTurn, AreAll, IsLineAnswered, HasBegunFiles, BeginsFile, HasBegunRun, NotedTaken, NotedRefused, IsTextAnswer, TextAccepted, TextRefused, IsLineAnswer, Unwatched, NotRead, Refused, Accepted}

pub append_none : {A : Type 0} (xs : List A) → xs ++ [] ≡ xs
append_none [] = refl
append_none (x ∷ xs) = ap (λ ys. x ∷ ys) (append_none xs)

-- ---- readings

pub read_none : (a : Option (List FileReading)) → AreReadBetween a a []
read_none None = refl
read_none (Some xs) = ap (λ (l : List FileReading). Some l) (sym (append_none xs))

pub read_more : (a b c : Option (List FileReading)) (xs ys : List FileReading) → AreReadBetween a b xs
    → AreReadBetween b c ys → AreReadBetween a c (xs ++ ys)
read_more None b c xs ys first more =
    subst (λ (o : Option (List FileReading)). AreReadBetween o c ys) first more
read_more (Some rs) b c xs ys first more =
    let then : AreReadBetween (Some (rs ++ xs)) c ys = subst (λ (o : Option (List FileReading)). AreReadBetween o c ys) first more in
    then ∙ ap (λ (l : List FileReading). Some l) (append_assoc rs xs ys)

-- no reading, one, and as many as may be
pub none_read : (r : Option (List FileReading)) → HasReadAtMost 1 r r
none_read r = record { read = []; few = omega arith; are = read_none r }

pub one_read : (r s : Option (List FileReading)) (reading : FileReading) → AreReadBetween r s (reading ∷ [])
    → HasReadAtMost 1 r s
one_read r s reading are = record { read = reading ∷ []; few = omega arith; are = are }

pub few_read : (n m : ℕ) (r s : Option (List FileReading)) → n ≤ m → HasReadAtMost n r s
    → HasReadAtMost m r s
few_read n m r s within h =
    record { read = h.read; few = omega (arith, within, h.few); are = h.are }

-- ---- answers

-- nothing was answered
pub gains_none : (models tests : List (List ℕ)) (asks : List (List ℕ) → Type 0)
    (standing : Standing) (r : Option (List FileReading)) (a : Option (List ℕ))
    → asks [] → HasLineAnswers models tests asks standing standing r r a a
gains_none models tests asks standing r a asked =
    record { lines = []; asked = asked; read = []; text = []; answers = NoAnswer standing; reads = read_none r; gains = Appends-nil a }

-- one line was
pub gains_one : (models tests : List (List ℕ)) (asks : List (List ℕ) → Type 0)
    (line : List ℕ) (old new : Standing) (r s : Option (List FileReading)) (said : List ℕ)
    (a b : Option (List ℕ))
    → asks (line ∷ []) → IsLineAnswered line (file_at models tests line) old new r s said
    → Appends a b said → HasLineAnswers models tests asks old new r s a b
gains_one models tests asks line old new r s said a b asked answered gained = record {
  lines = [] ++ line ∷ [];
  asked = asked;
  read = [] ++ answered.read;
  text = [] ++ said;
  answers = OneMore [] line old old new [] answered.read [] said (NoAnswer old) answered.answer;
  reads = answered.reads;
  gains = gained;
}

pub answers_joined : (models tests : List (List ℕ)) (before after : List (List ℕ))
    (old middle new : Standing) (read more : List FileReading) (x y : List ℕ)
    → AreLineAnswers models tests before old middle read x
    → AreLineAnswers models tests after middle new more y
    → AreLineAnswers models tests (before ++ after) old new (read ++ more) (x ++ y)
answers_joined models tests before after old middle new read more x y first (NoAnswer standing) =
    subst (λ (ls : List (List ℕ)). AreLineAnswers models tests ls old standing (read ++ []) (x ++ []))
    (sym (append_none before))
    (subst (λ (r : List FileReading). AreLineAnswers models tests before old standing r (x ++ []))
    (sym (append_none read))
    (subst (λ (text : List ℕ). AreLineAnswers models tests before old standing read text)
    (sym (append_none x)) first))
answers_joined models tests before after old middle new read more x y first
    (OneMore lines line from through to readings others text said answered answer) =
    subst
    (λ (ls : List (List ℕ)).
    AreLineAnswers models tests ls old new (read ++ (readings ++ others)) (x ++ (text ++ said)))
    (append_assoc before lines (line ∷ []))
    (subst
    (λ (r : List FileReading).
    AreLineAnswers models tests ((before ++ lines) ++ line ∷ []) old new r (x ++ (text ++ said)))
    (append_assoc read readings others)
    (subst
    (λ (all : List ℕ). AreLineAnswers models tests ((before ++ lines) ++ line ∷ []) old new
    ((read ++ readings) ++ others) all)
    (append_assoc x text said)
    (OneMore (before ++ lines) line old through new (read ++ readings) others (x ++ text) said
    (answers_joined models tests before lines old middle through read readings x text first answered)
    answer)))

pub gains_joined : (models tests : List (List ℕ)) (one two all : List (List ℕ) → Type 0)
    (old middle new : Standing) (r s t : Option (List FileReading)) (a b c : Option (List ℕ))
    → ((x y : List (List ℕ)) → one x → two y → all (x ++ y))
    → HasLineAnswers models tests one old middle r s a b → HasLineAnswers models tests two middle new s t b c
    → HasLineAnswers models tests all old new r t a c
gains_joined models tests one two all old middle new r s t a b c law x y = record {
  lines = x.lines ++ y.lines;
  asked = law x.lines y.lines x.asked y.asked;
  read = x.read ++ y.read;
  text = x.text ++ y.text;
  answers =
      answers_joined models tests x.lines y.lines old middle new x.read y.read x.text y.text
      x.answers y.answers;
  reads = read_more r s t x.read y.read x.reads y.reads;
  gains = Appends-trans a b c x.text y.text x.gains y.gains;
}

-- over the same paths
pub gains_over : (p q : Paths) (asks : List (List ℕ) → Type 0) (old new : Standing)
    (r s : Option (List FileReading)) (a b : Option (List ℕ)) → p ≡ q
    → HasLineAnswers (model_paths p) (test_paths p) asks old new r s a b
    → HasLineAnswers (model_paths q) (test_paths q) asks old new r s a b
gains_over p q asks old new r s a b same x =
    subst (λ (k : Paths). HasLineAnswers (model_paths k) (test_paths k) asks old new r s a b) same x

-- ---- which lines

not_zero : (n : ℕ) → (suc n == 0) ≡ true → ⊥
not_zero n e = absurd (omega (arith, (Decides-eqb (suc n) 0).0 e))

true_not : true ≡ false → ⊥
true_not e = false≢true (sym e)

take_more : (xs : List ℕ) (i d : ℕ) → i < length xs
    → take (suc i) xs ≡ take i xs ++ get_or xs i d ∷ []
take_more [] i d lt = absurd (omega (arith, lt))
take_more (x ∷ xs) zero d lt = refl
take_more (x ∷ xs) (suc i) d lt = ap (λ (l : List ℕ). x ∷ l) (take_more xs i d (omega (arith, lt)))

-- no byte, and one line after another
pub in_none : (front : List ℕ) → AreIn front [] front []
in_none front = λ rest. refl

pub in_both : (front middle left one two : List ℕ) (x y : List (List ℕ)) → AreIn front one middle x
    → AreIn middle two left y → AreIn front (one ++ two) left (x ++ y)
in_both front middle left one two x y first then = λ rest.
    ap (λ (l : List ℕ). lines_from front l) (append_assoc one two rest) ∙ first (two ++ rest)
    ∙ ap (λ (ls : List (List ℕ)). x ++ ls) (then rest)
    ∙ sym (append_assoc x y (lines_from left rest))

pub line_first : (line : List ℕ) (lines : List (List ℕ))
    → line_before line lines ≡ line_before line [] ++ lines
line_first [] lines = refl
line_first (b ∷ line) lines = refl

-- any other byte is kept
pub in_byte : (front left : List ℕ) (byte : ℕ) → (byte ≡ 10 → ⊥) → left ≡ front ++ byte ∷ []
    → AreIn front (byte ∷ []) left []
in_byte front left byte other kept = λ rest. elim (cases_Bool (byte == 10)) [
  | inl t ↦ absurd (other ((Decides-eqb byte 10).0 t))
  | inr f ↦ rw f (ap (λ (l : List ℕ). lines_from l rest) (sym kept))
]

-- an empty line is none, and another is one
pub empty_line : (line : List ℕ) (is : Bool) → is ≡ (length line == 0) → is ≡ true → IsLineAlone line []
empty_line [] is e t = refl
empty_line (b ∷ line) is e t = absurd (not_zero (length line) (sym e ∙ t))

pub full_line : (line : List ℕ) (is : Bool) → is ≡ (length line == 0) → is ≡ false
    → IsLineAlone line (line ∷ [])
full_line [] is e f = absurd (true_not (sym e ∙ f))
full_line (b ∷ line) is e f = refl

-- one byte more
pub in_next : (front middle left bytes : List ℕ) (i d : ℕ) (x y : List (List ℕ)) → i < length bytes
    → AreIn front (take i bytes) middle x → AreIn middle (get_or bytes i d ∷ []) left y
    → AreIn front (take (i + 1) bytes) left (x ++ y)
in_next front middle left bytes i d x y lt first then =
    let one : suc i ≡ i + 1 = omega arith in
    let more : take (i + 1) bytes ≡ take i bytes ++ get_or bytes i d ∷ [] = ap (λ (n : ℕ). take n bytes) (sym one) ∙ take_more bytes i d lt in
    subst (λ (l : List ℕ). AreIn front l left (x ++ y)) (sym more) (in_both front middle left
    (take i bytes) (get_or bytes i d ∷ []) x y first then)

-- ---- turns

pub turns_on : (front middle left : List ℕ) (a b c : Option (List ℕ)) (x y : List (List ℕ))
    → AreOfTurn true front middle a b x → AreOfTurn true middle left b c y
    → AreOfTurn true front left a c (x ++ y)
turns_on front middle left a b c x y first then = λ bytes is.
    let one = first bytes is in
    let two = then one.0 one.1 in (
      two.0,
      two.1,
      one.2 ∙ ap (λ (ls : List (List ℕ)). x ++ ls) two.2
          ∙ sym (append_assoc x y (lines_from left two.0)),
    )

pub turns_end : (front middle left : List ℕ) (a b c : Option (List ℕ)) (x y : List (List ℕ))
    → AreOfTurn true front middle a b x → AreOfTurn false middle left b c y
    → AreOfTurn false front left a c (x ++ y)
turns_end front middle left a b c x y first then = λ bytes is.
    let one = first bytes is in
    ap (λ (ls : List (List ℕ)). x ++ ls) (then one.0 one.1) ∙ sym one.2

pub no_turn : (front : List ℕ) (a : Option (List ℕ)) → AreOfTurn true front front a a []
no_turn front a = λ bytes is. (bytes, is, refl)

pub turns_on_if : (b : Bool) → b ≡ true
    → (front middle left : List ℕ) (r s t : Option (List ℕ)) (x y : List (List ℕ))
    → AreOfTurn true front middle r s x → AreOfTurn b middle left s t y
    → AreOfTurn true front left r t (x ++ y)
turns_on_if true on front middle left r s t x y first then =
    turns_on front middle left r s t x y first then
turns_on_if false on front middle left r s t x y first then = absurd cc

pub turns_end_if : (b : Bool) → b ≡ false
    → (front middle left : List ℕ) (r s t : Option (List ℕ)) (x y : List (List ℕ))
    → AreOfTurn true front middle r s x → AreOfTurn b middle left s t y
    → AreOfTurn false front left r t (x ++ y)
turns_end_if true off front middle left r s t x y first then = absurd cc
turns_end_if false off front middle left r s t x y first then =
    turns_end front middle left r s t x y first then

pub start_turn : (line : List ℕ) (a : Option (List ℕ)) → line ≡ [] → AreOfTurn true [] line a a []
start_turn line a none =
    subst (λ (l : List ℕ). AreOfTurn true [] l a a []) (sym none) (no_turn [] a)

-- ---- the beginning

begun_none : (standing : Standing) (r : Option (List FileReading))
    → HasBegunFiles [] standing standing r r []
begun_none standing r = record { read = []; begun = NoFile standing; reads = read_none r }

pub nothing_told : (standing : Standing) (r : Option (List FileReading)) (told : List ℕ) → told ≡ []
    → HasBegunFiles [] standing standing r r told
nothing_told standing r told none =
    subst (λ (l : List ℕ). HasBegunFiles [] standing standing r r l) (sym none)
    (begun_none standing r)

-- with one file more
pub begun_more : (files : List FilePath) (file : FilePath) (old middle new : Standing)
    (r s t : Option (List FileReading)) (before after : List ℕ)
    → HasBegunFiles files old middle r s before → BeginsFile file middle new s t before after
    → HasBegunFiles (files ++ file ∷ []) old new r t after
begun_more files file old middle new r s t before after h
    (text, reads, true, NotedTaken held taken same is) = record {
      read = h.read ++ record { path = file.path; version = Text text } ∷ [];
      begun =
          subst
          (λ (told : List ℕ). AreFilesBegun (files ++ file ∷ []) old new
          (h.read ++ record { path = file.path; version = Text text } ∷ []) told)
          (sym is)
          (subst
          (λ (n : Standing). AreFilesBegun (files ++ file ∷ []) old n
          (h.read ++ record { path = file.path; version = Text text } ∷ []) before)
          (sym same)
          (Begun files file text old middle held h.read before h.begun taken));
      reads =
          read_more r s t h.read (record { path = file.path; version = Text text } ∷ []) h.reads
          reads;
    }
begun_more files file old middle new r s t before after h
    (text, reads, false, NotedRefused fault refused same is) = record {
      read = h.read ++ record { path = file.path; version = Text text } ∷ [];
      begun =
          subst
          (λ (told : List ℕ). AreFilesBegun (files ++ file ∷ []) old new
          (h.read ++ record { path = file.path; version = Text text } ∷ []) told)
          (sym is)
          (subst
          (λ (n : Standing). AreFilesBegun (files ++ file ∷ []) old n
          (h.read ++ record { path = file.path; version = Text text } ∷ [])
          (before ++ file_refusal file.path fault))
          (sym same)
          (NotBegun files file text old middle h.read before fault h.begun refused));
      reads =
          read_more r s t h.read (record { path = file.path; version = Text text } ∷ []) h.reads
          reads;
    }

-- with the next of some files
one_file : (files : List FilePath) (i : ℕ) (file : FilePath) → slice_get files i ≡ Some file
    → take (suc i) files ≡ take i files ++ file ∷ []
one_file [] i file there = absurd cc
one_file (x ∷ xs) zero file there =
    ap (λ (f : FilePath). f ∷ []) (same_Some x file there)
one_file (x ∷ xs) (suc i) file there =
    ap (λ (l : List FilePath). x ∷ l) (one_file xs i file there)

pub begun_next : (files : List FilePath) (i : ℕ) (file : FilePath) (old middle new : Standing)
    (r s t : Option (List FileReading)) (before after : List ℕ)
    → slice_get files i ≡ Some file → HasBegunFiles (take i files) old middle r s before
    → BeginsFile file middle new s t before after
    → HasBegunFiles (take (i + 1) files) old new r t after
begun_next files i file old middle new r s t before after there begun begins =
    let one : suc i ≡ i + 1 = omega arith in
    let more : (take i files) ++ file ∷ [] ≡ take (i + 1) files = sym (one_file files i file there) ∙ ap (λ (n : ℕ). take n files) one in
    subst (λ (l : List FilePath). HasBegunFiles l old new r t after) more
    (begun_more (take i files) file old middle new r s t before after begun begins)

-- all files were begun
pub begun_all : (files : List FilePath) (i : ℕ) (old new : Standing)
    (r s : Option (List FileReading)) (told : List ℕ) → length files ≤ i
    → HasBegunFiles (take i files) old new r s told → HasBegunFiles files old new r s told
begun_all files i old new r s told end begun =
    subst (λ (l : List FilePath). HasBegunFiles l old new r s told) (take_all i files end) begun

-- for each file that was begun one was read
begun_long : (files : List FilePath) (old new : Standing) (read : List FileReading) (told : List ℕ)
    → AreFilesBegun files old new read told → length read ≡ length files
begun_long files old new read told (NoFile standing) = refl
begun_long files old new read told
    (Begun before file text from middle held readings said begun taken) =
    let reading : FileReading = record { path = file.path; version = Text text } in
    length-append readings (reading ∷ [])
    ∙ ap (λ (n : ℕ). n + 1) (begun_long before from middle readings said begun)
    ∙ sym (length-append before (file ∷ []))
begun_long files old new read told
    (NotBegun before file text from middle readings said fault begun refused) =
    let reading : FileReading = record { path = file.path; version = Text text } in
    length-append readings (reading ∷ [])
    ∙ ap (λ (n : ℕ). n + 1) (begun_long before from middle readings said begun)
    ∙ sym (length-append before (file ∷ []))

pub begun_few : (files : List FilePath) (old new : Standing) (r s : Option (List FileReading))
    (told : List ℕ) → HasBegunFiles files old new r s told → HasReadAtMost (length files) r s
begun_few files old new r s told begun = record {
  read = begun.read;
  few = omega (arith, begun_long files old new begun.read told begun.begun);
  are = begun.reads;
}

-- the files so far, and one more
pub begun_and_one : (files : List FilePath) (i : ℕ) (file : FilePath) (old new : Standing)
    (r s t : Option (List FileReading)) (told : List ℕ) → slice_get files i ≡ Some file
    → HasBegunFiles (take i files) old new r s told → HasReadAtMost 1 s t
    → HasReadAtMost (length files) r t
begun_and_one files i file old new r s t told there begun one =
    let inside : i < length files = slice_get_within files i file there in
    let taken : length (take i files) ≡ i = length-take-le i files (omega (arith, inside)) in
    let first : length begun.read ≡ length (take i files) = begun_long (take i files) old new begun.read told begun.begun in
    record {
      read = begun.read ++ one.read;
      few =
          omega (arith, length-append begun.read one.read, first, taken, inside, one.few);
      are = read_more r s t begun.read one.read begun.reads one.are;
    }

abbrev stands : (models : ℕ) → Holding → Vec (Vec ℕ Global) Global → (refused : Bool) → (jobs : ℕ)
    → Standing
stands models held lines refused jobs = record {
  models = models;
  held = held;
  lines = lists_of lines.items;
  refused = refused;
  jobs = jobs;
}

-- a text is taken
pub noted_taken : (models now : ℕ) (file : File) (path text : List ℕ) (old new : Holding)
    (lines others : Vec (Vec ℕ Global) Global) (was is : Bool) (done jobs : ℕ)
    (before after : List ℕ)
    → IsTakenByEdits file text old new → now ≡ models → others ≡ lines → is ≡ was → jobs ≡ done
    → after ≡ before
    → IsTextNoted file path text
    (stands models old lines was done) (stands now new others is jobs) before after true
noted_taken models now file path text old new lines others was is done jobs before after taken many
    same refused none told =
    NotedTaken new taken
    (ap (λ (n : ℕ). stands n new others is jobs) many
    ∙ ap (λ (v : Vec (Vec ℕ Global) Global). stands models new v is jobs) same
    ∙ ap (λ (b : Bool). stands models new lines b jobs) refused
    ∙ ap (λ (n : ℕ). stands models new lines was n) none)
    told

-- or refused
pub noted_refused : (models now : ℕ) (file : File) (path text : List ℕ) (old new : Holding)
    (lines others : Vec (Vec ℕ Global) Global) (fault : EditFault) (was : Bool) (done jobs : ℕ)
    (before after : List ℕ)
    → IsVersionRefused file text old.texts fault → new ≡ old → now ≡ models → others ≡ lines
    → jobs ≡ done → after ≡ before ++ file_refusal path fault
    → IsTextNoted file path text
    (stands models old lines was done) (stands now new others true jobs) before after false
noted_refused models now file path text old new lines others fault was done jobs before after
    refused same many kept none told =
    NotedRefused fault refused
    (ap (λ (n : ℕ). stands n new others true jobs) many
    ∙ ap (λ (h : Holding). stands models h others true jobs) same
    ∙ ap (λ (v : Vec (Vec ℕ Global) Global). stands models old v true jobs) kept
    ∙ ap (λ (n : ℕ). stands models old lines true n) none)
    told

-- the lines under the models are those of what is held, and were written
pub lines_settled : (models : ℕ) (names : List (List ℕ)) (old now : Texts)
    (held after : Vec (Option (List ℕ)) Global) (lines others : Vec (Vec ℕ Global) Global)
    (lasts nows : List (Vec ℕ Global)) (refused : Bool) (was is : Counts) (jobs : ℕ)
    (text said : List ℕ)
    → names ≡ bench_model_names models → now ≡ old → after ≡ held
    → AreLinesOf names (texts_of now) after.items (lists_of others.items)
    → lasts ≡ lines.items → nows ≡ others.items → is ≡ with_jobs jobs was
    → AreLinesWritten (lists_of lasts) (lists_of nows) jobs text said
    → AreLinesSettled (standing_of models old held lines refused was.jobs)
    (standing_of models now after others refused is.jobs) text said
lines_settled models names old now held after lines others lasts nows refused was is jobs text said
    named same kept are last new counted written = record {
      models = refl;
      held =
          ap (λ (t : Texts). holding_of t after) same
          ∙ ap (λ (v : Vec (Option (List ℕ)) Global). holding_of old v) kept;
      refused = refl;
      right =
          subst
          (λ (l : List (List ℕ)). AreLinesOf l (texts_of now) after.items (lists_of others.items))
          named are;
      jobs = jobs;
      done = ap (λ (k : Counts). k.jobs) counted;
      written =
          subst
          (λ (l : List (Vec ℕ Global)).
          AreLinesWritten (lists_of l) (lists_of others.items) jobs text said)
          last
          (subst
          (λ (l : List (Vec ℕ Global)). AreLinesWritten (lists_of lasts) (lists_of l) jobs text said)
          new written);
    }

-- ---- one answer

-- of a text that is accepted, after which the lines are written
pub text_accepted : (file : File) (path text : List ℕ) (old middle new : Standing)
    (before mid said : List ℕ) (accepted : Bool) → before ≡ [] → accepted ≡ true
    → IsTextNoted file path text old middle before mid accepted → AreLinesSettled middle new mid said
    → IsTextAnswer file path text old new said
text_accepted file path text old middle new before mid said true none is
    (NotedTaken held taken same told) settled =
    TextAccepted (record {
      held = held;
      taken = taken;
      settled =
          subst (λ (x : Standing). AreLinesSettled x new [] said) same (subst
          (λ (l : List ℕ). AreLinesSettled middle new l said) (told ∙ none) settled);
    })
text_accepted file path text old middle new before mid said false none is noted settled =
    absurd (true_not (sym is))

-- and of one that is refused
pub text_refused : (file : File) (path text : List ℕ) (old new : Standing) (before said : List ℕ)
    (accepted : Bool) → before ≡ [] → accepted ≡ false
    → IsTextNoted file path text old new before said accepted → IsTextAnswer file path text old new said
text_refused file path text old new before said false none is
    (NotedRefused fault refused stands told) =
    TextRefused (record {
      fault = fault;
      refused = refused;
      stands = stands;
      is = told ∙ ap (λ (l : List ℕ). l ++ file_refusal path fault) none;
    })
text_refused file path text old new before said true none is noted = absurd (true_not is)

answered_text : (path : List ℕ) (old new : Standing) (file : File) (text : Vec ℕ Global)
    (said : List ℕ)
    → IsTextAnswer file path text.items old new said
    → IsLineAnswer path old new (Some file) (record { path = path; version = Text text } ∷ []) said
answered_text path old new file text said (TextAccepted accepted) = Accepted file text said accepted
answered_text path old new file text said (TextRefused refused) = Refused file text said refused

-- of a text that was read
pub text_answered : (path : List ℕ) (old new : Standing) (file : File) (version : Version)
    (text : Vec ℕ Global) → version ≡ Text text
    → (r : Result (Vec ℕ Global) SessionFault)
    → IfOk r (λ t. IsTextAnswer file path text.items old new t.items)
    → IfOk r (λ t. IsLineAnswer path old new (Some file)
    (record { path = path; version = version } ∷ []) t.items)
text_answered path old new file version text is (Ok t) answer =
    subst
    (λ (v : Version).
    IsLineAnswer path old new (Some file) (record { path = path; version = v } ∷ []) t.items)
    (sym is)
    (answered_text path old new file text t.items answer)
text_answered path old new file version text is (Err fault) answer = tt

-- of a file that cannot be read
pub unread_answered : (path : List ℕ) (standing : Standing) (file : File) (said : List ℕ)
    (version : Version) → version ≡ Unread
    → said ≡ path ++ (codes ": not read" ++ 10 ∷ [])
    → IsLineAnswer path standing standing (Some file)
    (record { path = path; version = version } ∷ []) said
unread_answered path standing file said version is told =
    subst
    (λ (v : Version). IsLineAnswer path standing standing (Some file)
    (record { path = path; version = v } ∷ []) said)
    (sym is)
    (NotRead file said refl told)

-- of a path that is no file's
pub unwatched_answered : (path : List ℕ) (file : Option File) (standing : Standing)
    (r : Option (List FileReading)) (said : List ℕ) → None ≡ file
    → said ≡ path ++ (codes ": not watched" ++ 10 ∷ [])
    → IsLineAnswered path file standing standing r r said
unwatched_answered path file standing r said is told = record {
  read = [];
  answer =
      subst (λ (f : Option File). IsLineAnswer path standing standing f [] said) is
      (Unwatched said refl told);
  reads = read_none r;
}

-- ---- a whole run

pub run_of : (models tests lasts : List (List ℕ)) (source : Option (List ℕ))
    (begins ends : Standing) (r s t : Option (List FileReading)) (first : List ℕ)
    (a b c : Option (List ℕ))
    → HasBegunRun models tests lasts begins r s first → Appends a b first
    → HasLineAnswers models tests (AreAll source) begins ends s t b c
    → IsWatchRun models tests lasts ends.refused source r t a c
run_of models tests lasts source begins ends r s t first a b c begun gained more = record {
  begins = begins;
  ends = ends;
  first_read = begun.read;
  read = more.read;
  first = first;
  text = more.text;
  lines = more.lines;
  begun = begun.begun;
  answers = more.answers;
  told = refl;
  asked = more.asked;
  reads = read_more r s t begun.read more.read begun.reads more.reads;
  gains = Appends-trans a b c first more.text gained more.gains;
}
