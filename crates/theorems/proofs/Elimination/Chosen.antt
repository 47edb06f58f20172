-- The value of what elimination lays for an application: the choices pick among the own variables by the arguments.
-- Assumes nothing.
use mathlib.Core.Path.{◌≡◌, refl, sym, ap, ◌∙◌, subst}
use Prim.Native.Nat.{ℕ, zero, suc, ◌<◌}
use native.Mathlib.Omega.{arith}
use mathlib.Core.Bool.{Bool, true, false, ◌&&◌, cond, and_assoc, and-true}
use mathlib.Core.List.{List, [], ◌∷◌, ◌++◌, append_assoc, append-nil}
use lib.ListN.{length, get_or, length-append, get_or-append}
use lib.Seq.{get_or_at}
use lib.Dec.{eqb}
use Rattle.definitions.specs.Lists.{snoc}
use Rattle.definitions.specs.Problem.Node.{Node, plain}
use Rattle.definitions.specs.Logic.{Interpretation, Value, number, truth, number_of, truth_of, number_at, truth_at, node_value, values}
use Rattle.definitions.specs.Elimination.{App, last, further, condition, choice_op, choices}
use Rattle.theorems.proofs.Laws.Grown.{grown_append, length_grown, grown_prefix}

-- two lists of arguments are equal, member by member
abbrev pub same_list : List ℕ → List ℕ → Bool
same_list [] [] = true
same_list [] (q ∷ qs) = false
same_list (p ∷ ps) [] = false
same_list (p ∷ ps) (q ∷ qs) = eqb p q && same_list ps qs

abbrev pub pick_value : Bool → Value → Value → Value
pick_value true v w = v
pick_value false v w = w

-- the value that the choices pick: what stood before, unless an earlier application has the same arguments
abbrev pub chosen : (App → List ℕ) → (App → Value) → List ℕ → Value → List App → Value
chosen qs own ps v [] = v
chosen qs own ps v (j ∷ js) = chosen qs own ps (pick_value (same_list ps (qs j)) (own j) v) js

-- a value of the sort that an application of an op has
abbrev pub Kind : ℕ → Value → Type 0
Kind zero (number n) = Unit {0}
Kind zero (truth b) = ⊥
Kind (suc op) (number n) = ⊥
Kind (suc op) (truth b) = Unit {0}

pub kind_pick : (op : ℕ) (b : Bool) (v w : Value) → Kind op v → Kind op w → Kind op (pick_value b v w)
kind_pick op true v w kv kw = kv
kind_pick op false v w kv kw = kw

pick_number : (b : Bool) (m n : ℕ) → number (cond b m n) ≡ pick_value b (number m) (number n)
pick_number true m n = refl
pick_number false m n = refl

pick_truth : (b c d : Bool) → truth (cond b c d) ≡ pick_value b (truth c) (truth d)
pick_truth true c d = refl
pick_truth false c d = refl

module _ (A : Interpretation) where
  -- node i of the table has the value v
  pub record At (out : List Node) (i : ℕ) (v : Value) : Type 0 where
    pub within : i < length out
    pub is : get_or (values A [] out) i (number 0) ≡ v

  abbrev pub Ats : List Node → List ℕ → List ℕ → Type 0
  Ats out [] [] = Unit {0}
  Ats out [] (p ∷ ps) = ⊥
  Ats out (x ∷ xs) [] = ⊥
  Ats out (x ∷ xs) (p ∷ ps) = At out x (number p) × Ats out xs ps

  -- a longer table keeps the values
  pub kept : (out r : List Node) (i : ℕ) (v : Value) → At out i v → At (out ++ r) i v
  kept out r i v a =
      let e = grown_prefix (node_value A []) out r in
      let l = length-append out r in
      let w = a.within in
      let lv = length_grown (node_value A []) out in
      record {
        within = omega arith;
        is =
            ap (λ (ws : List Value). get_or ws i (number 0)) e.1
            ∙ get_or-append (values A [] out) e.0 (number 0) i (omega arith)
            ∙ a.is;
      }

  pub kept_all : (out r : List Node) (xs ps : List ℕ) → Ats out xs ps → Ats (out ++ r) xs ps
  kept_all out r [] [] a = tt
  kept_all out r [] (p ∷ ps) a = absurd a
  kept_all out r (x ∷ xs) [] a = absurd a
  kept_all out r (x ∷ xs) (p ∷ ps) a = (kept out r x (number p) a.0, kept_all out r xs ps a.1)

  -- the value of a node just laid
  pub fresh : (out : List Node) (n : Node) (v : Value) → node_value A [] (values A [] out) n ≡ v → At (snoc out n) (length out) v
  fresh out n v e =
      let l = length-append out (n ∷ []) in
      record {
        within = omega arith;
        is =
            ap (λ (ws : List Value). get_or ws (length out) (number 0)) (grown_append (node_value A []) [] out (n ∷ []))
            ∙ get_or_at (values A [] out) (node_value A [] (values A [] out) n) [] (number 0) (length out) (length_grown (node_value A []) out)
            ∙ e;
      }

  pub last_snoc : (out : List Node) (n : Node) → last (snoc out n) ≡ length out
  last_snoc out n = let l = length-append out (n ∷ []) in omega arith

  -- what the values say where they are read
  at_number : (out : List Node) (i p : ℕ) → At out i (number p) → number_at (values A [] out) i ≡ p
  at_number out i p a = ap number_of a.is

  at_truth : (out : List Node) (i : ℕ) (b : Bool) → At out i (truth b) → truth_at (values A [] out) i ≡ b
  at_truth out i b a = ap truth_of a.is

  -- laying an equation, an "and", a choice
  lay_equal : (out : List Node) (x y p q : ℕ) → At out x (number p) → At out y (number q)
      → At (snoc out (plain 2 x y 0)) (length out) (truth (eqb p q))
  lay_equal out x y p q a b =
      fresh out (plain 2 x y 0) (truth (eqb p q)) (cc (at_number out x p a, at_number out y q b))

  lay_and : (out : List Node) (x y : ℕ) (p q : Bool) → At out x (truth p) → At out y (truth q)
      → At (snoc out (plain 4 x y 0)) (length out) (truth (p && q))
  lay_and out x y p q a b = fresh out (plain 4 x y 0) (truth (p && q)) (cc (at_truth out x p a, at_truth out y q b))

  lay_choice : (out : List Node) (op x y z : ℕ) (b : Bool) (v w : Value) → Kind op v → Kind op w → At out x (truth b)
      → At out y v → At out z w → At (snoc out (plain (choice_op op) x y z)) (length out) (pick_value b v w)
  lay_choice out zero x y z b (number m) (number n) kv kw a c d =
      fresh out (plain 1 x y z) (pick_value b (number m) (number n))
      (cc (at_truth out x b a, at_number out y m c, at_number out z n d, pick_number b m n))
  lay_choice out zero x y z b (number m) (truth n) kv kw a c d = absurd kw
  lay_choice out zero x y z b (truth m) w kv kw a c d = absurd kv
  lay_choice out (suc op) x y z b (number m) w kv kw a c d = absurd kv
  lay_choice out (suc op) x y z b (truth m) (number n) kv kw a c d = absurd kw
  lay_choice out (suc op) x y z b (truth m) (truth n) kv kw a c d =
      fresh out (plain 9 x y z) (pick_value b (truth m) (truth n))
      (cc (at_truth out x b a, at_truth out y m c, at_truth out z n d, pick_truth b m n))

  -- a table that is another and more, with a value at its last node
  pub record Laid (out after : List Node) (v : Value) : Type 0 where
    pub more : List Node
    pub whole : after ≡ out ++ more
    pub top : At after (last after) v

  -- two steps, one after the other
  pub join : (out mid after : List Node) (v w : Value) → Laid out mid v → Laid mid after w → Laid out after w
  join out mid after v w a b =
      record {
        more = a.more ++ b.more;
        whole =
            b.whole ∙ ap (λ (t : List Node). t ++ b.more) a.whole ∙ append_assoc out a.more b.more;
        top = b.top;
      }

  pub laid_snoc : (out : List Node) (n : Node) (v : Value) → At (snoc out n) (length out) v → Laid out (snoc out n) v
  laid_snoc out n v a =
      record { more = n ∷ []; whole = refl; top = subst (λ (i : ℕ). At (snoc out n) i v) (sym (last_snoc out n)) a }

  -- what stood keeps its value
  pub stays : (out after : List Node) (v : Value) → Laid out after v → (i : ℕ) (w : Value) → At out i w → At after i w
  stays out after v l i w a = subst (λ (t : List Node). At t i w) (sym l.whole) (kept out l.more i w a)

  pub stays_all : (out after : List Node) (v : Value) → Laid out after v → (xs ps : List ℕ) → Ats out xs ps → Ats after xs ps
  stays_all out after v l xs ps a = subst (λ (t : List Node). Ats t xs ps) (sym l.whole) (kept_all out l.more xs ps a)

  -- the further arguments
  further_laid : (out : List Node) (xs ys ps qs : List ℕ) (b : Bool) → Ats out xs ps → Ats out ys qs → length ps ≡ length qs
      → At out (last out) (truth b) → Laid out (further out xs ys) (truth (b && same_list ps qs))
  further_laid out [] ys (p ∷ ps) qs b a c l h = absurd a
  further_laid out [] [] [] [] b a c l h =
      record { more = []; whole = sym (append-nil out); top = rw (and-true b) h }
  further_laid out [] [] [] (q ∷ qs) b a c l h = absurd c
  further_laid out [] (y ∷ ys) [] [] b a c l h = absurd c
  further_laid out [] (y ∷ ys) [] (q ∷ qs) b a c l h = absurd (omega arith)
  further_laid out (x ∷ xs) ys [] qs b a c l h = absurd a
  further_laid out (x ∷ xs) [] (p ∷ ps) [] b a c l h = absurd (omega arith)
  further_laid out (x ∷ xs) [] (p ∷ ps) (q ∷ qs) b a c l h = absurd c
  further_laid out (x ∷ xs) (y ∷ ys) (p ∷ ps) [] b a c l h = absurd c
  further_laid out (x ∷ xs) (y ∷ ys) (p ∷ ps) (q ∷ qs) b a c l h =
      let mid = snoc out (plain 2 x y 0) in
      let e = lay_equal out x y p q a.0 c.0 in
      let d = lay_and mid (last out) (length out) b (eqb p q) (kept out (plain 2 x y 0 ∷ []) (last out) (truth b) h) e in
      let end = snoc mid (plain 4 (last out) (length out) 0) in
      let two : Laid out end (truth (b && eqb p q)) =
      join out mid end (truth (eqb p q)) (truth (b && eqb p q)) (laid_snoc out (plain 2 x y 0) (truth (eqb p q)) e)
      (laid_snoc mid (plain 4 (last out) (length out) 0) (truth (b && eqb p q)) d)
      in
      let rest =
      further_laid end xs ys ps qs (b && eqb p q) (stays_all out end (truth (b && eqb p q)) two xs ps a.1)
      (stays_all out end (truth (b && eqb p q)) two ys qs c.1) (omega arith) two.top
      in
      subst (λ (t : Bool). Laid out (further end xs ys) (truth t)) (and_assoc b (eqb p q) (same_list ps qs))
      (join out end (further end xs ys) (truth (b && eqb p q)) (truth (b && eqb p q && same_list ps qs)) two rest)

  -- the condition that the arguments are equal
  condition_laid : (out : List Node) (x y p q : ℕ) (xs ys ps qs : List ℕ) → Ats out (x ∷ xs) (p ∷ ps) → Ats out (y ∷ ys) (q ∷ qs)
      → length ps ≡ length qs → Laid out (condition out (x ∷ xs) (y ∷ ys)) (truth (same_list (p ∷ ps) (q ∷ qs)))
  condition_laid out x y p q xs ys ps qs a c l =
      let mid = snoc out (plain 2 x y 0) in
      let one = laid_snoc out (plain 2 x y 0) (truth (eqb p q)) (lay_equal out x y p q a.0 c.0) in
      join out mid (further mid xs ys) (truth (eqb p q)) (truth (eqb p q && same_list ps qs)) one
      (further_laid mid xs ys ps qs (eqb p q) (stays_all out mid (truth (eqb p q)) one xs ps a.1)
      (stays_all out mid (truth (eqb p q)) one ys qs c.1) l one.top)

  condition_value : (out : List Node) (xs ys ps qs : List ℕ) → Ats out xs ps → Ats out ys qs → length ps ≡ length qs → 0 < length ps
      → Laid out (condition out xs ys) (truth (same_list ps qs))
  condition_value out xs ys [] qs a c l h = absurd (omega arith)
  condition_value out xs ys (p ∷ ps) [] a c l h = absurd (omega arith)
  condition_value out [] ys (p ∷ ps) (q ∷ qs) a c l h = absurd a
  condition_value out (x ∷ xs) [] (p ∷ ps) (q ∷ qs) a c l h = absurd c
  condition_value out (x ∷ xs) (y ∷ ys) (p ∷ ps) (q ∷ qs) a c l h =
      condition_laid out x y p q xs ys ps qs a c (omega arith)

  module _ (op : ℕ) (args : Node → List ℕ) (qs : App → List ℕ) (own : App → Value) where
    -- what is known of an application: the values of its arguments and of its own variable
    pub record Knows (out : List Node) (m : ℕ) (j : App) : Type 0 where
      pub arguments : Ats out (args j.of) (qs j)
      pub variable : At out j.own (own j)
      pub kind : Kind op (own j)
      pub many : length (qs j) ≡ m

    abbrev pub KnowsAll : List Node → ℕ → List App → Type 0
    KnowsAll out m [] = Unit {0}
    KnowsAll out m (j ∷ js) = Knows out m j × KnowsAll out m js

    pub knows_stays : (out after : List Node) (v : Value) → Laid out after v → (m : ℕ) (js : List App) → KnowsAll out m js
        → KnowsAll after m js
    knows_stays out after v l m [] k = tt
    knows_stays out after v l m (j ∷ js) k = (
      record {
        arguments = stays_all out after v l (args j.of) (qs j) k.0.arguments;
        variable = stays out after v l j.own (own j) k.0.variable;
        kind = k.0.kind;
        many = k.0.many;
      },
      knows_stays out after v l m js k.1,
    )

    pub choices_laid : (js : List App) (out : List Node) (xs ps : List ℕ) (v : Value) → 0 < length ps → Ats out xs ps
        → KnowsAll out (length ps) js → Kind op v → At out (last out) v → Laid out (choices op args out xs js) (chosen qs own ps v js)
    choices_laid [] out xs ps v h a k kv t = record { more = []; whole = sym (append-nil out); top = t }
    choices_laid (j ∷ js) out xs ps v h a k kv t =
        let mid = condition out xs (args j.of) in
        let b = same_list ps (qs j) in
        let known = k.0 in
        let many = known.many in
        let first = condition_value out xs (args j.of) ps (qs j) a known.arguments (sym many) h in
        let n = plain (choice_op op) (last mid) j.own (last out) in
        let w : Value = pick_value b (own j) v in
        let laid =
        lay_choice mid op (last mid) j.own (last out) b (own j) v known.kind kv first.top
        (stays out mid (truth b) first j.own (own j) known.variable) (stays out mid (truth b) first (last out) v t)
        in
        let both = join out mid (snoc mid n) (truth b) w first (laid_snoc mid n w laid) in
        join out (snoc mid n) (choices op args (snoc mid n) xs js) w (chosen qs own ps w js) both
        (choices_laid js (snoc mid n) xs ps w h (stays_all out (snoc mid n) w both xs ps a)
        (knows_stays out (snoc mid n) w both (length ps) js k.1) (kind_pick op b (own j) v known.kind kv) both.top)
