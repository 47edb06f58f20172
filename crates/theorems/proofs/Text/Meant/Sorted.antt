-- A tree whose operands have the sorts that its ops ask for, laid in a table with no wrong node, leaves none wrong (02, E1; 01, refusal
-- 7). Assumes nothing.
use mathlib.Core.Path.{◌≡◌, refl, sym, ap, ◌∙◌, subst}
use Prim.Native.Nat.{ℕ, ◌+◌, ◌<◌}
use native.Mathlib.Omega.{arith}
use mathlib.Core.Bool.{Bool, true, false, ◌&&◌}
use mathlib.Core.List.{List, [], ◌∷◌, ◌++◌, append_assoc, append-nil}
use mathlib.Core.Option.{Option, none, some}
use lib.ListN.{length, length-append, get_or-append}
use lib.Dec.{eqb, ltb}
use borrow.Author.Tests.{lt-ltb, eq-eqb}
use Rattle.definitions.specs.Lists.{snoc, all}
use Rattle.definitions.specs.Problem.Node.{Node, no_node}
use Rattle.definitions.specs.Problem.Ops.{op_of, Sort, term, formula, sort_of, same_sort, operand_sorts, operands_right, fits, symbol_right, node_right, arity, fields_of}
use Rattle.definitions.specs.Problem.Check.{first_wrong}
use Rattle.theorems.proofs.Laws.Tests.{and_intro, none≢some}
use Rattle.theorems.proofs.Laws.Ops.{sort_at}
use Rattle.definitions.specs.Text.Nodes.{Tree, absent, tree, place_of, found_or, ask, lay, lay_all}
use Rattle.theorems.proofs.Text.Meant.Shared.{ask_given}
use Rattle.theorems.proofs.Text.Meant.Laying.{Present, Absent, AllAbsent}
use Rattle.theorems.proofs.Text.Meant.Again.{lay_extends}

-- the sort of a tree
abbrev pub tree_sort : Tree → Sort
tree_sort absent = formula
tree_sort (tree op k a b c) = sort_of (op_of op)

-- operands of these sorts, and no others
abbrev pub OperandsFit : List Sort → List Tree → Type 0
OperandsFit [] xs = AllAbsent xs
OperandsFit (s ∷ ss) [] = ⊥
OperandsFit (s ∷ ss) (x ∷ xs) = Present x × (tree_sort x ≡ s) × OperandsFit ss xs

abbrev pub FitsSorts : Option (List Sort) → List Tree → Type 0
FitsSorts none xs = ⊥
FitsSorts (some ss) xs = OperandsFit ss xs

abbrev pub WellSorted : List ℕ → Tree → Type 0
WellSorted symbols absent = Unit {0}
WellSorted symbols (tree op k a b c) =
    WellSorted symbols a × WellSorted symbols b × WellSorted symbols c × (symbol_right symbols (op_of op) k ≡ true)
    × FitsSorts (operand_sorts (op_of op) (arity symbols k)) (a ∷ b ∷ c ∷ [])

-- a number where a tree stands in a table; 0 where there is none
pub record Stood (t : List Node) (x : Tree) (k : ℕ) : Type 0 where
  pub there : Present x → (k < length t) × (sort_at t k ≡ tree_sort x)
  pub gone : Absent x → k ≡ 0

pub stood_lay : (x : Tree) (t : List Node) → Stood (lay x t).table x (lay x t).number
stood_lay absent t = record { there = λ p. absurd p; gone = λ p. refl }
stood_lay (tree op k a b c) t =
    let x = lay a t in
    let y = lay b x.table in
    let z = lay c y.table in
    let g = ask_given (record { op = op; sym = k; a = x.number; b = y.number; c = z.number }) z.table in
    record { there = λ p. (g.inside, ap (λ (n : Node). sort_of (op_of n.op)) g.means); gone = λ p. absurd p }

stood_more : (t u more : List Node) (x : Tree) (k : ℕ) → u ≡ t ++ more → Stood t x k → Stood u x k
stood_more t u more x k e s =
    record {
      there =
          λ p.
          let h = (s.there p).0 in
          let l : length u ≡ length t + length more = ap length e ∙ length-append t more in (
            omega arith,
            ap (λ (w : List Node). sort_at w k) e ∙ ap (λ (n : Node). sort_of (op_of n.op)) (get_or-append t more no_node k h) ∙ (s.there p).1,
          );
      gone = s.gone;
    }

-- operands that fit are right
sort_self : (s : Sort) → same_sort s s ≡ true
sort_self term = refl
sort_self formula = refl

module _ (t : List Node) where
  abbrev AllStood : List Tree → List ℕ → Type 0
  AllStood [] [] = Unit {0}
  AllStood [] (k ∷ ks) = ⊥
  AllStood (x ∷ xs) [] = ⊥
  AllStood (x ∷ xs) (k ∷ ks) = Stood t x k × AllStood xs ks

  all_zero : (xs : List Tree) (ks : List ℕ) → AllStood xs ks → AllAbsent xs → all (eqb 0) ks ≡ true
  all_zero [] [] s a = refl
  all_zero [] (k ∷ ks) s a = absurd s
  all_zero (x ∷ xs) [] s a = absurd s
  all_zero (x ∷ xs) (k ∷ ks) s a = and_intro (eqb 0 k) (all (eqb 0) ks) (eq-eqb 0 k (sym (s.0.gone a.0))) (all_zero xs ks s.1 a.1)

  operands_right_lem : (ss : List Sort) (xs : List Tree) (ks : List ℕ) → AllStood xs ks → OperandsFit ss xs → operands_right t ss ks ≡ true
  operands_right_lem [] xs ks s f = all_zero xs ks s f
  operands_right_lem (r ∷ ss) [] ks s f = absurd f
  operands_right_lem (r ∷ ss) (x ∷ xs) [] s f = absurd s
  operands_right_lem (r ∷ ss) (x ∷ xs) (k ∷ ks) s f =
      let here = s.0.there f.0 in
      and_intro (ltb k (length t) && same_sort (sort_at t k) r) (operands_right t ss ks)
      (and_intro (ltb k (length t)) (same_sort (sort_at t k) r) (lt-ltb k (length t) here.0) (ap (λ (q : Sort). same_sort q r) (here.1 ∙ f.1) ∙ sort_self r))
      (operands_right_lem ss xs ks s.1 f.2)

  fits_right : (o : Option (List Sort)) (xs : List Tree) (ks : List ℕ) → AllStood xs ks → FitsSorts o xs → fits t o ks ≡ true
  fits_right none xs ks s f = absurd f
  fits_right (some ss) xs ks s f = operands_right_lem ss xs ks s f

module _ (symbols : List ℕ) where
  -- one more node that is right
  pub wrong_snoc : (earlier ns : List Node) (n : Node) → first_wrong symbols earlier ns ≡ none → node_right symbols (earlier ++ ns) n ≡ true
      → first_wrong symbols earlier (snoc ns n) ≡ none
  wrong_snoc earlier [] n e r = ap pick (subst (λ (l : List Node). node_right symbols l n ≡ true) (append-nil earlier) r)
    where
      pick : Bool → Option ℕ
      pick b = elim b [ true ↦ none | false ↦ some (length earlier) ]
  wrong_snoc earlier (m ∷ ns) n e r =
      go (node_right symbols earlier m) e
      (λ e'. wrong_snoc (snoc earlier m) ns n e' (subst (λ (l : List Node). node_right symbols l n ≡ true) (sym (append_assoc earlier (m ∷ []) ns)) r))
    where
      go : (b : Bool) → ◌≡◌ {A = Option ℕ} (elim b [ true ↦ first_wrong symbols (snoc earlier m) ns | false ↦ some (length earlier) ]) none
          → (first_wrong symbols (snoc earlier m) ns ≡ none → first_wrong symbols (snoc earlier m) (snoc ns n) ≡ none)
          → ◌≡◌ {A = Option ℕ} (elim b [ true ↦ first_wrong symbols (snoc earlier m) (snoc ns n) | false ↦ some (length earlier) ]) none
      go true e' rec = rec e'
      go false e' rec = absurd (none≢some (sym e'))

  ask_wrong : (n : Node) (t : List Node) → first_wrong symbols [] t ≡ none → node_right symbols t n ≡ true → first_wrong symbols [] (ask n t).table ≡ none
  unfolding ask
  ask_wrong n t e r = go (place_of n t)
    where
      go : (o : Option ℕ) → first_wrong symbols [] (found_or n t o).table ≡ none
      go (some k) = e
      go none = wrong_snoc [] t n e r

  pub lay_wrong : (x : Tree) (t : List Node) → WellSorted symbols x → first_wrong symbols [] t ≡ none → first_wrong symbols [] (lay x t).table ≡ none
  lay_wrong absent t w e = e
  lay_wrong (tree op k a b c) t w e =
      let x = lay a t in
      let y = lay b x.table in
      let z = lay c y.table in
      let n : Node = record { op = op; sym = k; a = x.number; b = y.number; c = z.number } in
      let Y = lay_extends b x.table in
      let Z = lay_extends c y.table in
      let sx = stood_more y.table z.table Z.0 a x.number Z.1 (stood_more x.table y.table Y.0 a x.number Y.1 (stood_lay a t)) in
      let sy = stood_more y.table z.table Z.0 b y.number Z.1 (stood_lay b x.table) in
      let sz = stood_lay c y.table in
      ask_wrong n z.table (lay_wrong c y.table w.2 (lay_wrong b x.table w.1 (lay_wrong a t w.0 e)))
      (and_intro (symbol_right symbols (op_of op) k) (fits z.table (operand_sorts (op_of op) (arity symbols k)) (fields_of n)) w.3
      (fits_right z.table (operand_sorts (op_of op) (arity symbols k)) (a ∷ b ∷ c ∷ []) (fields_of n) (sx, (sy, (sz, tt))) w.4))

  abbrev pub AllSorted : List Tree → Type 0
  AllSorted [] = Unit {0}
  AllSorted (x ∷ xs) = WellSorted symbols x × AllSorted xs

  pub all_wrong : (xs : List Tree) (t : List Node) → AllSorted xs → first_wrong symbols [] t ≡ none → first_wrong symbols [] (lay_all xs t) ≡ none
  all_wrong [] t w e = e
  all_wrong (x ∷ xs) t w e = all_wrong xs (lay x t).table w.1 (lay_wrong x t w.0 e)
