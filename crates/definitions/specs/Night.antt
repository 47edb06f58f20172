-- The night run: jobs from standard input, a line for each (01, 'The night run'; 02, E2). Assumes nothing.
use Rattle.std.specs.Prelude.{ℕ, zero, suc, ◌+◌, ◌/◌, ◌%◌, List, [], ◌∷◌, ◌++◌, Bool, true, false, ◌&&◌, length, take, drop, eqb, leb}
use Rattle.definitions.specs.Bytes.{two_at, low_first}
use Rattle.definitions.specs.Problem.Asked.{last_node}
use Rattle.definitions.specs.Operations.Answers.{Answer, refused, given, Verdict, isValid, isFalsified, isStopped, Decided, decide_answer}

-- the decimal digits of a number, before those in hand; n has at most n digits, and 0 has one, so n + 1 is fuel enough
abbrev pub digits : ℕ → ℕ → List ℕ → List ℕ
digits zero n ds = ds
digits (suc fuel) n ds =
    elim (eqb (n / 10) 0) [ true ↦ (48 + n % 10) ∷ ds | false ↦ digits fuel (n / 10) ((48 + n % 10) ∷ ds) ]

abbrev pub decimal : ℕ → List ℕ
decimal n = digits (suc n) n []

-- a space, then a word
abbrev pub word : List ℕ → List ℕ
word w = 32 ∷ w

-- a line ends with one line feed
abbrev pub line : List ℕ → List ℕ
line bytes = bytes ++ (10 ∷ [])

-- the words of the lines, in ASCII: EQP NIGHT 1, JOB, VALID, FALSIFIED, STOPPED, REFUSED, END, CUT
abbrev pub TITLE : List ℕ
TITLE = 69 ∷ 81 ∷ 80 ∷ 32 ∷ 78 ∷ 73 ∷ 71 ∷ 72 ∷ 84 ∷ 32 ∷ 49 ∷ []

abbrev pub JOB : List ℕ
JOB = 74 ∷ 79 ∷ 66 ∷ []

abbrev pub VALID : List ℕ
VALID = 86 ∷ 65 ∷ 76 ∷ 73 ∷ 68 ∷ []

abbrev pub FALSIFIED : List ℕ
FALSIFIED = 70 ∷ 65 ∷ 76 ∷ 83 ∷ 73 ∷ 70 ∷ 73 ∷ 69 ∷ 68 ∷ []

abbrev pub STOPPED : List ℕ
STOPPED = 83 ∷ 84 ∷ 79 ∷ 80 ∷ 80 ∷ 69 ∷ 68 ∷ []

abbrev pub REFUSED : List ℕ
REFUSED = 82 ∷ 69 ∷ 70 ∷ 85 ∷ 83 ∷ 69 ∷ 68 ∷ []

abbrev pub END : List ℕ
END = 69 ∷ 78 ∷ 68 ∷ []

abbrev pub CUT : List ℕ
CUT = 67 ∷ 85 ∷ 84 ∷ []

abbrev pub verdict_word : Verdict → List ℕ
verdict_word isValid = VALID
verdict_word isFalsified = FALSIFIED
verdict_word isStopped = STOPPED

-- a job's answer: verdict, tried, product; or REFUSED, refusal number, place
abbrev pub said : Answer Decided → List ℕ
said (refused r) = word REFUSED ++ word (decimal r.number) ++ word (decimal r.place)
said (given d) = word (verdict_word d.verdict) ++ word (decimal d.tried) ++ word (decimal d.product)

-- the line of job k: its budget, its problem bytes, whose last node is named. The buffers are of the least length that is taken
abbrev pub job_line : ℕ → ℕ → List ℕ → List ℕ
job_line k budget s = line (JOB ++ word (decimal k) ++ said (decide_answer s (last_node s) budget 21056 206))

-- a whole job stands at the start of the input; its budget, its problem bytes, and what comes after it
abbrev pub whole : List ℕ → Bool
whole input = leb 10 (length input) && leb (10 + two_at input 8) (length input)

abbrev pub budget_of : List ℕ → ℕ
budget_of input = low_first (take 8 input)

abbrev pub problem_of : List ℕ → List ℕ
problem_of input = take (two_at input 8) (drop 10 input)

abbrev pub after_job : List ℕ → List ℕ
after_job input = drop (10 + two_at input 8) input

-- the last line: END and the jobs read; where the input ends inside a job, CUT and the count of whole jobs
abbrev pub closing : List ℕ → ℕ → List ℕ
closing w jobs = line (w ++ word (decimal jobs))

-- the lines after so many jobs. Each job takes ten bytes or more, so the length of the input is fuel enough
abbrev pub lines : ℕ → ℕ → List ℕ → List ℕ
lines zero jobs input = closing END jobs
lines (suc fuel) jobs [] = closing END jobs
lines (suc fuel) jobs (b ∷ bs) =
    let input = b ∷ bs in
    elim (whole input) [
      | true ↦ job_line (suc jobs) (budget_of input) (problem_of input) ++ lines fuel (suc jobs) (after_job input)
      | false ↦ closing CUT jobs
    ]

unfoldable pub night_run : List ℕ → List ℕ
night_run input = line TITLE ++ lines (length input) 0 input
