-- Function-free tables worked by hand from the paper's rules (01, 'Elimination'). Assumes nothing.
use Rattle.std.specs.Prelude.{◌≡◌, refl, ℕ, List, [], ◌∷◌, length}
use Rattle.definitions.specs.Problem.Node.{Node, plain, problem_bytes}
use Rattle.definitions.specs.Elimination.{eliminated, table_of, root_of}
use Rattle.definitions.specs.Worked.Problems.{variable, applied, truth_variable, choice, equation, negation, conjunction, disjunction, row4}

-- row 4 has 10 function-free nodes
pub row4_nodes : length (table_of row4) ≡ 10
unfolding eliminated
row4_nodes = refl

-- a repeat lays nothing, and takes the image of the earliest: f(x) = f(x)
pub repeat_table : table_of (problem_bytes (0 ∷ 1 ∷ []) (variable 0 ∷ applied 1 0 ∷ applied 1 0 ∷ equation 1 2 ∷ []))
    ≡ variable 0 ∷ variable 1 ∷ equation 1 1 ∷ []
unfolding eliminated
repeat_table = refl

-- three applications of one symbol, document 004's example: not x1 = x2, or F(x1) = F(x2), or not F(x1) = F(x3). The third
-- has a choice for the second, of its own variable node 5 and not of its image 7, and then one for the first
abbrev pub ackermann : List ℕ
ackermann =
    problem_bytes (0 ∷ 0 ∷ 0 ∷ 1 ∷ [])
    (variable 0
    ∷ variable 1
    ∷ equation 0 1
    ∷ negation 2
    ∷ applied 3 0
    ∷ applied 3 1
    ∷ equation 4 5
    ∷ disjunction 3 6
    ∷ variable 2
    ∷ applied 3 8
    ∷ equation 4 9
    ∷ negation 10
    ∷ disjunction 7 11
    ∷ [])

pub ackermann_table : table_of ackermann
    ≡ variable 0
    ∷ variable 1
    ∷ equation 0 1
    ∷ negation 2
    ∷ variable 2
    ∷ variable 3
    ∷ equation 1 0
    ∷ choice 6 4 5
    ∷ equation 4 7
    ∷ disjunction 3 8
    ∷ variable 4
    ∷ variable 5
    ∷ equation 10 1
    ∷ choice 12 5 11
    ∷ equation 10 0
    ∷ choice 14 4 13
    ∷ equation 4 15
    ∷ negation 16
    ∷ disjunction 9 17
    ∷ []
unfolding eliminated
ackermann_table = refl

pub ackermann_root : root_of (eliminated ackermann) ≡ 18
unfolding eliminated
ackermann_root = refl

-- three arguments, two equations and "and"s more: h(x, y, x) = h(y, x, y)
abbrev of3 : ℕ → ℕ → ℕ → ℕ → Node
of3 k x y z = record { op = 0; sym = k; a = x; b = y; c = z }

pub three_arguments_table : table_of (problem_bytes (0 ∷ 0 ∷ 3 ∷ []) (variable 0 ∷ variable 1 ∷ of3 2 0 1 0 ∷ of3 2 1 0 1 ∷ equation 2 3 ∷ []))
    ≡ variable 0
    ∷ variable 1
    ∷ variable 2
    ∷ variable 3
    ∷ equation 1 0
    ∷ equation 0 1
    ∷ conjunction 4 5
    ∷ equation 1 0
    ∷ conjunction 6 7
    ∷ choice 8 2 3
    ∷ equation 2 9
    ∷ []
unfolding eliminated
three_arguments_table = refl

-- predicates are chosen between by op 9, and have truth variables of their own: q(x) or q(y)
abbrev tested : ℕ → ℕ → Node
tested k x = record { op = 6; sym = k; a = x; b = 0; c = 0 }

pub predicate_table : table_of (problem_bytes (0 ∷ 0 ∷ 17 ∷ []) (variable 0 ∷ variable 1 ∷ tested 2 0 ∷ tested 2 1 ∷ disjunction 2 3 ∷ []))
    ≡ variable 0
    ∷ variable 1
    ∷ truth_variable 0
    ∷ truth_variable 1
    ∷ equation 1 0
    ∷ plain 9 4 2 3
    ∷ disjunction 2 5
    ∷ []
unfolding eliminated
predicate_table = refl
