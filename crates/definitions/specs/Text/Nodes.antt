-- From a script to the problem's bytes (02, E1: "The nodes are those of the terms, with longer lists paired as the standard groups
-- them and => written as "not" and "or", then what joins the asserts and the one negation, last; equal nodes stand once").
-- Assumes nothing.
use Rattle.std.specs.Prelude.{ℕ, ◌+◌, List, [], ◌∷◌, map, not, ◌||◌, length, get_or, ltb}
use Rattle.std.proofs.Math.Option.{Option, none, some}
use Rattle.definitions.specs.Lists.{snoc, first_of, first_failing}
use Rattle.definitions.specs.Problem.Node.{Node, plain, same, problem_bytes}
use Rattle.definitions.specs.Problem.Ops.{Sort, term, formula}
use Rattle.definitions.specs.Problem.Check.{functions_in, predicates_in, Refused, refuse_if}
use Rattle.definitions.specs.Operations.Answers.{Answer, refused, given, unless}
use Rattle.definitions.specs.Operations.Buffers.{over}
use Rattle.definitions.specs.Text.Grammar.{Symbol, Head, declared, ite, equals, negation, conjunction, disjunction, implication, verum, falsum, Terms, end, call, Script, symbols_in, asserts_in}
use Rattle.definitions.specs.Text.Reader.{script_read}

-- a term written in pairs, as a tree of nodes: op, symbol, three operands; an unused operand is absent
pub data Tree : Type 0 where
  absent : Tree
  tree : ℕ → ℕ → Tree → Tree → Tree → Tree

abbrev pub operand : List Tree → ℕ → Tree
operand ts k = get_or ts k absent

-- a node with a symbol or an op, over so many operands
abbrev pub over3 : ℕ → ℕ → List Tree → Tree
over3 op k ts = tree op k (operand ts 0) (operand ts 1) (operand ts 2)

abbrev pub pair : ℕ → Tree → Tree → Tree
pair op a b = tree op 0 a b absent

abbrev pub not_tree : Tree → Tree
not_tree a = tree 3 0 a absent absent

-- (and a b c) is ((a and b) and c), or alike
abbrev pub leftward : ℕ → Tree → List Tree → Tree
leftward op t [] = t
leftward op t (u ∷ us) = leftward op (pair op t u) us

abbrev pub grouped : ℕ → List Tree → Tree
grouped op [] = absent
grouped op (t ∷ ts) = leftward op t ts

-- (= a b c d) is (((a = b) and (b = c)) and (c = d))
abbrev pub equations : List Tree → List Tree
equations [] = []
equations (a ∷ []) = []
equations (a ∷ b ∷ ts) = pair 2 a b ∷ equations (b ∷ ts)

-- (=> a b c) is not a or (not b or c)
abbrev pub rightward : List Tree → Tree
rightward [] = absent
rightward (a ∷ []) = a
rightward (a ∷ b ∷ ts) = pair 5 (not_tree a) (rightward (b ∷ ts))

abbrev pub head_tree : Head → List Tree → Tree
head_tree (declared term k) ts = over3 0 k ts
head_tree (declared formula k) ts = over3 6 k ts
head_tree (ite term) ts = over3 1 0 ts
head_tree (ite formula) ts = over3 9 0 ts
head_tree equals ts = grouped 4 (equations ts)
head_tree negation ts = not_tree (operand ts 0)
head_tree conjunction ts = grouped 4 ts
head_tree disjunction ts = grouped 5 ts
head_tree implication ts = rightward ts
head_tree verum ts = tree 7 0 absent absent absent
head_tree falsum ts = tree 8 0 absent absent absent

-- the trees of a row of terms
abbrev pub trees_of : Terms → List Tree
trees_of end = []
trees_of (call h args rest) = head_tree h (trees_of args) ∷ trees_of rest

-- a table, and the number of a node of it
pub record Laid : Type 0 where
  pub number : ℕ
  pub table : List Node

abbrev pub laid : ℕ → List Node → Laid
laid k t = record { number = k; table = t }

-- an equal node of the table, or the node appended
abbrev pub place_of : Node → List Node → Option ℕ
place_of n t = first_failing (λ m. not (same n m)) 0 t

abbrev pub found_or : Node → List Node → Option ℕ → Laid
found_or n t (some k) = laid k t
found_or n t none = laid (length t) (snoc t n)

unfoldable pub ask : Node → List Node → Laid
ask n t = found_or n t (place_of n t)

-- a tree's nodes: operands first, from left to right, then the node itself
abbrev pub lay : Tree → List Node → Laid
lay absent t = laid 0 t
lay (tree op k a b c) t =
    let x = lay a t in
    let y = lay b x.table in
    let z = lay c y.table in
    ask (record { op = op; sym = k; a = x.number; b = y.number; c = z.number }) z.table

abbrev pub lay_all : List Tree → List Node → List Node
lay_all [] t = t
lay_all (x ∷ xs) t = lay_all xs (lay x t).table

-- what joins the asserts; "No assert counts as true"
abbrev pub joined : List Tree → Tree
joined [] = tree 7 0 absent absent absent
joined (t ∷ ts) = leftward 4 t ts

abbrev pub assert_trees : List Terms → List Tree
assert_trees ts = map (λ t. operand (trees_of t) 0) ts

-- the terms of all asserts, then what joins them, where only the joins are new, then the one negation
abbrev pub ended : Laid → List Node
ended l = snoc l.table (plain 3 l.number 0 0)

abbrev pub nodes_of_trees : List Tree → List Node
nodes_of_trees ts = ended (lay (joined ts) (lay_all ts []))

unfoldable pub nodes_of_script : Script → List Node
nodes_of_script s = nodes_of_trees (assert_trees (asserts_in s.commands))

-- the symbol bytes: the arity, plus 16 for Bool; all declared symbols, used or not
abbrev pub byte_of : ℕ → Sort → ℕ
byte_of n term = n
byte_of n formula = 16 + n

abbrev pub symbol_bytes : List Symbol → List ℕ
symbol_bytes sig = map (λ y. byte_of y.arity y.result) sig

unfoldable pub bytes_of_script : Script → List ℕ
bytes_of_script s = symbol_bytes (symbols_in s.commands)

unfoldable pub problem_of_script : Script → List ℕ
problem_of_script s = problem_bytes (bytes_of_script s) (nodes_of_script s)

-- "then 01's 4, 9 and 10 on the result"
abbrev pub limits : List ℕ → List Node → Option Refused
limits symbols t =
    first_of
    (refuse_if (ltb 32 (length symbols) || ltb 256 (length t)) 4
    ∷ refuse_if (ltb 24 (functions_in t)) 9
    ∷ refuse_if (ltb 16 (predicates_in t)) 10
    ∷ [])

unfoldable pub limits_of_script : Script → Option Refused
limits_of_script s = limits (bytes_of_script s) (nodes_of_script s)

abbrev pub within_limits : Answer Script → Answer Script
within_limits (refused r) = refused r
within_limits (given s) = unless (limits_of_script s) s

-- 23 "tried first", on the length of the problem buffer
abbrev pub if_room : Option Refused → Answer Script → Answer Script
if_room (some r) a = refused r
if_room none a = a

unfoldable pub taken : List ℕ → ℕ → Answer Script
taken text room = if_room (refuse_if (ltb room 2088) 23) (within_limits (script_read text))

-- read: the problem's length; and the problem buffer afterwards, the rest as it was; a refusal writes nothing
abbrev pub length_read : Answer Script → Answer ℕ
length_read (refused r) = refused r
length_read (given s) = given (length (problem_of_script s))

abbrev pub buffer_read : Answer Script → List ℕ → List ℕ
buffer_read (refused r) buffer = buffer
buffer_read (given s) buffer = over (problem_of_script s) buffer

unfoldable pub read_answer : List ℕ → ℕ → Answer ℕ
read_answer text room = length_read (taken text room)

unfoldable pub read_buffer : List ℕ → List ℕ → List ℕ
read_buffer text buffer = buffer_read (taken text (length buffer)) buffer
