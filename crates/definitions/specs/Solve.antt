-- What the program solve prints for a text and a budget: the verdict as other solvers say it, and what goes with it as comment
-- lines; or one error line (02, E1, 'The host and the program'). `solved`, near the end, is the whole of it. Assumes nothing.
use Rattle.std.specs.Prelude.{ℕ, ◌+◌, ◌*◌, ◌-◌, ◌%◌, List, [], ◌∷◌, ◌++◌, Bool, true, false, ◌&&◌, ◌||◌, length, get_or, take, replicate, eqb, ltb}
use Prim.Native.String.{String}
use Rattle.std.proofs.Math.Option.{Option, none, some}
use Rattle.definitions.specs.Lists.{all, concat_map}
use Rattle.definitions.specs.Bytes.{byte_at}
use Rattle.definitions.specs.Problem.Ops.{is_function}
use Rattle.definitions.specs.Problem.Check.{Refused}
use Rattle.definitions.specs.Problem.Asked.{last_node}
use Rattle.definitions.specs.Witness.{Row, rows_in}
use Rattle.definitions.specs.Operations.Answers.{Answer, refused, given, Verdict, isValid, isFalsified, isStopped, Decided, decide_answer}
use Rattle.definitions.specs.Operations.Buffers.{witness_after}
use Rattle.definitions.specs.Text.Ascii.{ascii}
use Rattle.definitions.specs.Text.Tokens.{Placed, wrong, digit, tokens_of, name_of, same_token}
use Rattle.definitions.specs.Text.Tokens as tokens
use Rattle.definitions.specs.Text.Nodes.{read_answer, read_buffer}
use Rattle.definitions.specs.Night.{decimal, word, line}

-- a place as people count it: lines from 1, each ended by a line feed and by nothing else, and the bytes of a line from 1
pub record Position : Type 0 where
  pub line : ℕ
  pub column : ℕ

abbrev pub position : ℕ → ℕ → Position
position l c = record { line = l; column = c }

-- the position after a byte, and after some bytes
abbrev pub after_byte : Position → ℕ → Position
after_byte p b = elim (eqb b 10) [ true ↦ position (p.line + 1) 1 | false ↦ position p.line (p.column + 1) ]

abbrev pub after_bytes : Position → List ℕ → Position
after_bytes p [] = p
after_bytes p (b ∷ bs) = after_bytes (after_byte p b) bs

unfoldable pub position_of : List ℕ → ℕ → Position
position_of text place = after_bytes (position 1 1) (take place text)

-- what a refusal means, in words. With the program's own buffers 11, 12 and 23 do not come, and of a problem that a text gives
-- none that is not listed
pub record Meaning : Type 0 where
  pub number : ℕ
  pub words : String

abbrev pub means : ℕ → String → Meaning
means number words = record { number = number; words = words }

abbrev pub MEANINGS : List Meaning
MEANINGS =
    means 4 "over 32 symbols, or over 256 nodes"
    ∷ means 9 "over 24 different applications of functions"
    ∷ means 10 "over 16 different applications of predicates"
    ∷ means 11 "the work buffer is too short"
    ∷ means 12 "the witness buffer is too short"
    ∷ means 13 "over 10^18 places to try"
    ∷ means 14 "the text cannot go on so"
    ∷ means 15 "over 64 brackets of a term are open"
    ∷ means 23 "the problem buffer is too short"
    ∷ []

abbrev pub meaning_in : List Meaning → ℕ → List ℕ
meaning_in [] n = ascii "the problem breaks the format"
meaning_in (m ∷ ms) n = elim (eqb n m.number) [ true ↦ ascii m.words | false ↦ meaning_in ms n ]

abbrev pub meaning : ℕ → List ℕ
meaning n = meaning_in MEANINGS n

-- 14 and 15 have a place in the text
abbrev pub has_place : ℕ → Bool
has_place n = eqb n 14 || eqb n 15

abbrev pub standing : Position → List ℕ
standing p = ascii ", line" ++ word (decimal p.line) ++ ascii ", column" ++ word (decimal p.column)

abbrev pub standing_if : Bool → Position → List ℕ
standing_if true p = standing p
standing_if false p = []

-- a refusal: (error "refusal 14: the text cannot go on so, line 2, column 9")
unfoldable pub error_line : List ℕ → Refused → List ℕ
error_line text r =
    line
    (ascii "(error \"refusal"
    ++ word (decimal r.number)
    ++ ascii ": "
    ++ meaning r.number
    ++ standing_if (has_place r.number) (position_of text r.place)
    ++ ascii "\")")

-- a text of over 1 MiB is not read
abbrev pub MOST : ℕ
MOST = 1048576

abbrev pub too_long : List ℕ
too_long = line (ascii "(error \"the text is over 1048576 bytes\")")

-- a verdict; after unknown, how many places were tried, and of how many
abbrev pub verdict_lines : Verdict → ℕ → ℕ → List ℕ
verdict_lines isValid tried product = line (ascii "unsat")
verdict_lines isFalsified tried product = line (ascii "sat")
verdict_lines isStopped tried product =
    line (ascii "unknown") ++ line (ascii "; tried" ++ word (decimal tried) ++ ascii " of" ++ word (decimal product))

unfoldable pub answer_lines : List ℕ → Answer Decided → List ℕ
answer_lines text (refused r) = error_line text r
answer_lines text (given d) = verdict_lines d.verdict d.tried d.product

-- the names that a text declares: each token after a word declare-fun
abbrev pub names_in : List Placed → List Placed
names_in [] = []
names_in (p ∷ ps) =
    elim (same_token p.token (tokens.word (ascii "declare-fun"))) [ true ↦ take 1 ps ++ names_in ps | false ↦ names_in ps ]

-- that of symbol k; an empty one at the end of the text past the last
unfoldable pub name_at : List ℕ → ℕ → Placed
name_at text k = get_or (names_in (tokens_of text)) k (record { token = wrong; place = length text })

-- a name is written in bars where its declaration has them
abbrev pub is_barred : List ℕ → Placed → Bool
is_barred text p = eqb (byte_at text p.place) 124

abbrev pub bar : Bool → List ℕ
bar true = ascii "|"
bar false = []

-- the arguments of a row, (1, 2, 3): as many as the symbol takes
abbrev pub another : Bool → ℕ → List ℕ
another true v = ascii "," ++ word (decimal v)
another false v = []

abbrev pub arguments : ℕ → Row → List ℕ
arguments arity r =
    elim (eqb arity 0) [
      | true ↦ []
      | false ↦ ascii "(" ++ decimal r.x ++ another (ltb 1 arity) r.y ++ another (ltb 2 arity) r.z ++ ascii ")"
    ]

-- a function's value is a number, a predicate's true or false
abbrev pub truth : Bool → List ℕ
truth true = ascii "true"
truth false = ascii "false"

abbrev pub value : Bool → ℕ → List ℕ
value true v = decimal v
value false v = truth (eqb v 1)

-- a row's line before and after the name, by whether there are bars and the symbol's byte: ; f(1) = 2
abbrev pub row_start : Bool → List ℕ
row_start barred = ascii "; " ++ bar barred

abbrev pub row_end : Bool → ℕ → Row → List ℕ
row_end barred byte r = line (bar barred ++ arguments (byte % 16) r ++ ascii " =" ++ word (value (is_function byte) r.value))

abbrev pub row_with : Bool → List ℕ → ℕ → Row → List ℕ
row_with barred name byte r = row_start barred ++ name ++ row_end barred byte r

-- the byte of symbol k in a problem
abbrev pub symbol_byte : List ℕ → ℕ → ℕ
symbol_byte problem k = byte_at problem (8 + k)

unfoldable pub row_line : List ℕ → List ℕ → Row → List ℕ
row_line text problem r =
    let p = name_at text r.symbol in
    row_with (is_barred text p) (name_of p.token) (symbol_byte problem r.symbol) r

-- the tables that a witness lists, a line for each row, after sat alone
abbrev pub table_lines : List ℕ → List ℕ → List ℕ → List ℕ
table_lines text problem witness = concat_map (row_line text problem) (rows_in witness)

abbrev pub tables_after : List ℕ → List ℕ → List ℕ → Verdict → List ℕ
tables_after text problem witness isValid = []
tables_after text problem witness isFalsified = table_lines text problem witness
tables_after text problem witness isStopped = []

-- what is printed of a decision on the problem of a text, and of the read answer, whose problem stands in a buffer; the last node is
-- named (02, E2)
abbrev pub decision_lines : List ℕ → List ℕ → List ℕ → Answer Decided → List ℕ
decision_lines text problem witness (refused r) = error_line text r
decision_lines text problem witness (given d) = answer_lines text (given d) ++ tables_after text problem witness d.verdict

abbrev pub read_lines : List ℕ → ℕ → List ℕ → Answer ℕ → List ℕ
read_lines text budget buffer (refused r) = error_line text r
read_lines text budget buffer (given written) =
    let problem = take written buffer in
    let root = last_node problem in
    decision_lines text problem (witness_after problem root budget 21056 (replicate 206 0)) (decide_answer problem root budget 21056 206)

-- what the program prints. Its buffers are of the least lengths that are taken
unfoldable pub solved : List ℕ → ℕ → List ℕ
solved text budget =
    elim (ltb MOST (length text)) [
      | true ↦ too_long
      | false ↦ read_lines text budget (read_buffer text (replicate 2088 0)) (read_answer text 2088)
    ]

-- the number that decimal digits stand for, the high one first
abbrev pub number_from : ℕ → List ℕ → ℕ
number_from n [] = n
number_from n (b ∷ bs) = number_from (10 * n + (b - 48)) bs

-- the budget that an argument says, at most 19 digits; where none is given, 10^9
unfoldable pub budget_in : List ℕ → Option ℕ
budget_in [] = some 1000000000
budget_in (b ∷ bs) =
    let ds = b ∷ bs in
    elim (ltb (length ds) 20 && all digit ds) [ true ↦ some (number_from 0 ds) | false ↦ none ]

abbrev pub bad_budget : List ℕ
bad_budget = line (ascii "(error \"the budget is not a number of at most 19 digits\")")

-- what is printed where the budget comes as an argument
unfoldable pub solved_with : List ℕ → List ℕ → List ℕ
solved_with text argument = elim (budget_in argument) [ none ↦ bad_budget | some budget ↦ solved text budget ]
