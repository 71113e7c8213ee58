-- The rules in words, as `fault_texts::rule_words` tells them.
use Rattle.std.specs.Prelude.{ℕ, ◌==◌, List, [], codes, if◌then◌else◌}

-- of the texts of tests
abbrev pub litmus_words : ℕ → List ℕ
litmus_words number =
    if number == 1 then codes "the first word must be `PPC`"
    else (if number == 2 then codes "a name must follow `PPC`, and the end of the line"
    else (if number == 3 then codes
    "the init block must hold entries as `x=1;` and `0:r2=x;`, one for a location or register"
    else (if number == 4 then codes "an entry of the init block must not begin with a type"
    else (if number == 5 then codes "the header must name the threads in order, from `P0` on"
    else (if number == 6 then codes "a row must have as many cells as the header"
    else (if number == 7 then codes "a cell must hold a known instruction or a label, and a condition must follow the cells"
    else (if number == 8 then codes "`r0` must not be the first address register, where it means 0"
    else (if number == 9 then codes "an offset must be 0"
    else (if number == 10 then codes
    "a label must be defined once in its thread, and a branch must go to one of its thread"
    else (if number == 11 then codes "a branch must go forward"
    else (if number == 12 then codes
    "`locations` and a condition must follow, over threads of the test and within the limits"
    else (if number == 13 then codes "`filter` and `final` are not supported"
    else (if number == 14 then codes "a comment must end"
    else (if number == 15 then codes "a byte outside comments and strings must be ASCII"
    else (if number == 16 then codes "a text must not be over 65,536 bytes"
    else (if number == 17 then codes "a test must not have over 8 threads"
    else []))))))))))))))))

-- of the texts of models
abbrev pub cat_words : ℕ → List ℕ
cat_words number =
    if number == 1 then codes "no token begins with this byte"
    else (if number == 2 then codes "no model goes on so"
    else (if number == 3 then codes "an included file must be `cos.cat` or `stdlib.cat`"
    else (if number == 4 then codes "this part of the language is not supported"
    else (if number == 5 then codes
    "a model must not have over 256 items, a group over 64 names, a function over 8 parameters"
    else (if number == 6 then codes
    "an expression must not have over 64 open `(`, `[` and `~`, nor over 1,024 operators"
    else (if number == 7 then codes "a text must not be over 65,536 bytes"
    else []))))))

-- of models
abbrev pub model_words : ℕ → List ℕ
model_words number =
    if number == 1 then codes "a name must be bound"
    else (if number == 2 then codes
    "an operator and a check must take their operands, which are sets or relations"
    else (if number == 3 then codes
    "a name of a recursive group must not stand under `~` or right of `\\` in that group"
    else (if number == 4 then codes "a group must bind a name once, and a parameter must stand once"
    else (if number == 5 then codes "a body of a recursive group must be a relation"
    else (if number == 6 then codes
    "a function must have its number of arguments, and no other name has any"
    else (if number == 7 then codes "an application must not be of size over 4,096"
    else []))))))

-- of tests
abbrev pub test_words : ℕ → List ℕ
test_words number =
    if number == 1 then codes "a test must not have over 128 events"
    else (if number == 2 then codes "loads must not have over 16 values"
    else (if number == 3 then codes "a thread must not have over 4,096 free runs"
    else (if number == 4 then codes "a test must not have over 16,384 candidates"
    else (if number == 5 then codes "a run must not stop at a fault"
    else (if number == 6 then codes "a test must not have over 1,048,576 combinations of runs"
    else [])))))

-- of the bench
abbrev pub bench_words : ℕ → List ℕ
bench_words number =
    if number == 1 then codes "a test must have this name"
    else (if number == 2 then codes "a model must have this name"
    else (if number == 3 then codes "a thread of the test must have this number"
    else (if number == 4 then codes "an item of the model must have this number"
    else (if number == 5 then codes
    "the bench must not hold over 512 tests, 16 models or 524,288 outputs"
    else (if number == 6 then codes "the numbers of edits and of items must not be spent"
    else [])))))

-- of scripts
abbrev pub script_words : ℕ → List ℕ
script_words number =
    if number == 1 then codes "a line must be a command with its words"
    else (if number == 2 then codes "a text must end in a line `.`"
    else [])

-- the words of the rule of this letter and number, and none where there is no such rule
unfoldable pub rule_words : (letter number : ℕ) → List ℕ
rule_words letter number =
    if letter == 76 then litmus_words number
    else (if letter == 67 then cat_words number
    else (if letter == 77 then model_words number
    else (if letter == 69 then test_words number
    else (if letter == 88 then bench_words number
    else (if letter == 81 then script_words number else [])))))
