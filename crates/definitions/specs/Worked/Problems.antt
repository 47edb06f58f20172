-- The problems that the paper works: rows 1 to 12, as bytes. Nodes are in order of first mention, arguments first, variables
-- x, y before f. Assumes nothing.
use Rattle.std.specs.Prelude.{ℕ, List, [], ◌∷◌}
use Rattle.definitions.specs.Problem.Node.{Node, plain, problem_bytes}

-- the node of a symbol: a variable, a function of one argument, a truth variable
abbrev pub variable : ℕ → Node
variable k = record { op = 0; sym = k; a = 0; b = 0; c = 0 }

abbrev pub applied : ℕ → ℕ → Node
applied k x = record { op = 0; sym = k; a = x; b = 0; c = 0 }

abbrev pub truth_variable : ℕ → Node
truth_variable k = record { op = 6; sym = k; a = 0; b = 0; c = 0 }

-- choice, equation, not, and, or, true, false
abbrev pub choice : ℕ → ℕ → ℕ → Node
choice p x y = plain 1 p x y

abbrev pub equation : ℕ → ℕ → Node
equation x y = plain 2 x y 0

abbrev pub negation : ℕ → Node
negation x = plain 3 x 0 0

abbrev pub conjunction : ℕ → ℕ → Node
conjunction x y = plain 4 x y 0

abbrev pub disjunction : ℕ → ℕ → Node
disjunction x y = plain 5 x y 0

abbrev pub yes : Node
yes = plain 7 0 0 0

abbrev pub no : Node
no = plain 8 0 0 0

-- the symbol bytes: x; x and y; x, y and f of one argument; p
abbrev x : List ℕ
x = 0 ∷ []

abbrev xy : List ℕ
xy = 0 ∷ 0 ∷ []

abbrev xyf : List ℕ
xyf = 0 ∷ 0 ∷ 1 ∷ []

abbrev p : List ℕ
p = 16 ∷ []

-- x = x
abbrev pub row1 : List ℕ
row1 = problem_bytes x (variable 0 ∷ equation 0 0 ∷ [])

-- x = y
abbrev pub row2 : List ℕ
row2 = problem_bytes xy (variable 0 ∷ variable 1 ∷ equation 0 1 ∷ [])

-- not x = y
abbrev pub row3 : List ℕ
row3 = problem_bytes xy (variable 0 ∷ variable 1 ∷ equation 0 1 ∷ negation 2 ∷ [])

-- not x = y, or f(x) = f(y)
abbrev pub row4 : List ℕ
row4 =
    problem_bytes xyf
    (variable 0 ∷ variable 1 ∷ equation 0 1 ∷ negation 2 ∷ applied 2 0 ∷ applied 2 1 ∷ equation 4 5 ∷ disjunction 3 6 ∷ [])

-- not f(x) = f(y), or x = y
abbrev pub row5 : List ℕ
row5 =
    problem_bytes xyf
    (variable 0 ∷ variable 1 ∷ applied 2 0 ∷ applied 2 1 ∷ equation 2 3 ∷ negation 4 ∷ equation 0 1 ∷ disjunction 5 6 ∷ [])

-- f(x) = f(y)
abbrev pub row6 : List ℕ
row6 = problem_bytes xyf (variable 0 ∷ variable 1 ∷ applied 2 0 ∷ applied 2 1 ∷ equation 2 3 ∷ [])

-- p or not p
abbrev pub row7 : List ℕ
row7 = problem_bytes p (truth_variable 0 ∷ negation 0 ∷ disjunction 0 1 ∷ [])

-- p
abbrev pub row8 : List ℕ
row8 = problem_bytes p (truth_variable 0 ∷ [])

-- choice(p, x, y) = x
abbrev pub row9 : List ℕ
row9 = problem_bytes (16 ∷ 0 ∷ 0 ∷ []) (truth_variable 0 ∷ variable 1 ∷ variable 2 ∷ choice 0 1 2 ∷ equation 3 1 ∷ [])

-- true
abbrev pub row10 : List ℕ
row10 = problem_bytes [] (yes ∷ [])

-- false
abbrev pub row11 : List ℕ
row11 = problem_bytes [] (no ∷ [])

-- not (x = y and f(x) = f(y))
abbrev pub row12 : List ℕ
row12 =
    problem_bytes xyf
    (variable 0 ∷ variable 1 ∷ equation 0 1 ∷ applied 2 0 ∷ applied 2 1 ∷ equation 3 4 ∷ conjunction 2 5 ∷ negation 6 ∷ [])
