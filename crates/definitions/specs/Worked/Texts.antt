-- The texts worked by hand, each with its answer. Assumes nothing.
use Rattle.std.specs.Prelude.{ℕ, zero, suc, ◌+◌, ◌≡◌, refl, List, [], ◌∷◌, ◌++◌, length}
use Rattle.definitions.specs.Problem.Node.{Node, plain}
use Rattle.definitions.specs.Problem.Check.{refuse}
use Rattle.definitions.specs.Operations.Answers.{Answer, refused, given}
use Rattle.definitions.specs.Text.Ascii.{ascii}
use Rattle.definitions.specs.Text.Tokens.{tokens_of}
use Rattle.definitions.specs.Text.Grammar.{Script}
use Rattle.definitions.specs.Text.Reader.{step, script_read}
use Rattle.definitions.specs.Text.Nodes.{ask, nodes_of_script, bytes_of_script, problem_of_script, limits_of_script, taken}

abbrev H : List ℕ
H = ascii "(set-logic QF_UF)(declare-sort U 0)"

abbrev C : List ℕ
C = ascii "(check-sat)"

-- the symbol bytes and the nodes of a text that is read
pub record Built : Type 0 where
  pub symbols : List ℕ
  pub nodes : List Node
  pub bytes : ℕ

abbrev built : Answer Script → Answer Built
built (refused r) = refused r
built (given s) =
    given (record { symbols = bytes_of_script s; nodes = nodes_of_script s; bytes = length (problem_of_script s) })

abbrev reads : List ℕ → Answer Built
reads text = built (taken text 2088)

abbrev f : ℕ → ℕ → Node
f k a = record { op = 0; sym = k; a = a; b = 0; c = 0 }

abbrev p : ℕ → Node
p k = record { op = 6; sym = k; a = 0; b = 0; c = 0 }

pub worked-1 :
    reads (H ++ C)
    ≡ given
    (record {
      symbols = [];
      nodes = plain 7 0 0 0 ∷ plain 3 0 0 0 ∷ [];
      bytes = 24;
    })
unfolding taken script_read tokens_of step bytes_of_script nodes_of_script problem_of_script limits_of_script ask
worked-1 = refl

pub worked-2 :
    reads (H ++ ascii "(declare-fun x () U)(declare-fun y () U)(declare-fun f (U) U)(assert (= x y))(assert (not (= (f x) (f y))))" ++ C)
    ≡ given
    (record {
      symbols = 0 ∷ 0 ∷ 1 ∷ [];
      nodes = f 0 0 ∷ f 1 0 ∷ plain 2 0 1 0 ∷ f 2 0 ∷ f 2 1 ∷ plain 2 3 4 0 ∷ plain 3 5 0 0 ∷ plain 4 2 6 0 ∷ plain 3 7 0 0 ∷ [];
      bytes = 83;
    })
unfolding taken script_read tokens_of step bytes_of_script nodes_of_script problem_of_script limits_of_script ask
worked-2 = refl

pub worked-3 :
    reads (H ++ ascii "(declare-fun x()U)(declare-fun y()U)(declare-fun p()Bool)(declare-fun q()Bool)(assert (=> p q (= x y x)))" ++ C)
    ≡ given
    (record {
      symbols = 0 ∷ 0 ∷ 16 ∷ 16 ∷ [];
      nodes = p 2 ∷ plain 3 0 0 0 ∷ p 3 ∷ plain 3 2 0 0 ∷ f 0 0 ∷ f 1 0 ∷ plain 2 4 5 0 ∷ plain 2 5 4 0 ∷ plain 4 6 7 0 ∷ plain 5 3 8 0 ∷ plain 5 1 9 0 ∷ plain 3 10 0 0 ∷ [];
      bytes = 108;
    })
unfolding taken script_read tokens_of step bytes_of_script nodes_of_script problem_of_script limits_of_script ask
worked-3 = refl

pub worked-4 :
    reads (H ++ ascii "(declare-fun p()Bool)(declare-fun q()Bool)(declare-fun r()Bool)(assert p)(assert (or p q r))(assert (not p))" ++ C)
    ≡ given
    (record {
      symbols = 16 ∷ 16 ∷ 16 ∷ [];
      nodes = p 0 ∷ p 1 ∷ plain 5 0 1 0 ∷ p 2 ∷ plain 5 2 3 0 ∷ plain 3 0 0 0 ∷ plain 4 0 4 0 ∷ plain 4 6 5 0 ∷ plain 3 7 0 0 ∷ [];
      bytes = 83;
    })
unfolding taken script_read tokens_of step bytes_of_script nodes_of_script problem_of_script limits_of_script ask
worked-4 = refl

pub worked-5 :
    reads (ascii ";note\n(set-logic |QF_UF|)(declare-sort |a b| 0)(declare-fun |let|()|a b|)(declare-fun y()|a b|)(declare-fun p()|Bool|)(assert(|and|p|true|(=(ite |p||let|y)|y|)))(check-sat);end")
    ≡ given
    (record {
      symbols = 0 ∷ 0 ∷ 16 ∷ [];
      nodes = p 2 ∷ plain 7 0 0 0 ∷ plain 4 0 1 0 ∷ f 0 0 ∷ f 1 0 ∷ plain 1 0 3 4 ∷ plain 2 5 4 0 ∷ plain 4 2 6 0 ∷ plain 3 7 0 0 ∷ [];
      bytes = 83;
    })
unfolding taken script_read tokens_of step bytes_of_script nodes_of_script problem_of_script limits_of_script ask
worked-5 = refl

pub worked_6 : reads (H ++ ascii "(declare-fun f (U U U U) U)" ++ C) ≡ refused (refuse 14 57)
unfolding taken script_read tokens_of step bytes_of_script nodes_of_script problem_of_script limits_of_script ask
worked_6 = refl

pub worked_7 : reads (H ++ ascii "(declare-fun p () Bool)(assert (and p))" ++ C) ≡ refused (refuse 14 72)
unfolding taken script_read tokens_of step bytes_of_script nodes_of_script problem_of_script limits_of_script ask
worked_7 = refl

pub worked_8 : reads (H ++ ascii "(declare-fun x () U)(declare-fun p () Bool)(assert (= (ite p x p) x))" ++ C) ≡ refused (refuse 14 98)
unfolding taken script_read tokens_of step bytes_of_script nodes_of_script problem_of_script limits_of_script ask
worked_8 = refl

pub worked_9 : reads (H ++ ascii "(assert true)" ++ C ++ ascii "(exit)") ≡ refused (refuse 14 59)
unfolding taken script_read tokens_of step bytes_of_script nodes_of_script problem_of_script limits_of_script ask
worked_9 = refl

abbrev repeated : ℕ → List ℕ → List ℕ
repeated zero s = []
repeated (suc n) s = s ++ repeated n s

pub worked_10 : reads (H ++ ascii "(declare-fun p () Bool)(assert " ++ repeated 65 (ascii "(not ")) ≡ refused (refuse 15 386)
unfolding taken script_read tokens_of step bytes_of_script nodes_of_script problem_of_script limits_of_script ask
worked_10 = refl

pub worked_11 : reads (H ++ ascii "(declare-fun p () Bool)(assert p) ; no more\n") ≡ refused (refuse 14 79)
unfolding taken script_read tokens_of step bytes_of_script nodes_of_script problem_of_script limits_of_script ask
worked_11 = refl

-- so many constants, each the letter a and one more byte, in bars
abbrev constants : ℕ → List ℕ
constants zero = []
constants (suc n) = constants n ++ ascii "(declare-fun |a" ++ ((32 + n) ∷ []) ++ ascii "|()U)"

pub worked_12 : reads (H ++ constants 33 ++ C) ≡ refused (refuse 4 0)
unfolding taken script_read tokens_of step bytes_of_script nodes_of_script problem_of_script limits_of_script ask
worked_12 = refl

-- a buffer of 2,087 bytes is refused before anything is read
pub worked_room : taken (ascii "(") 2087 ≡ refused (refuse 23 0)
unfolding taken
worked_room = refl
