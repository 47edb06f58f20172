-- The trees of right terms have the sorts that their ops ask for (02, E1; 01, refusal 7). Assumes nothing.
use mathlib.Core.Path.{◌≡◌, refl, sym, subst}
use Prim.Native.Nat.{ℕ, zero, suc, ◌<◌, ◌≤◌}
use native.Mathlib.Omega.{arith}
use mathlib.Core.Bool.{true, false≢true}
use mathlib.Core.List.{List, [], ◌∷◌}
use mathlib.Core.Option.{Option, none, some}
use lib.ListN.{length, replicate}
use lib.Dec.{ltb}
use borrow.Author.Tests.{ltb-true}
use Rattle.definitions.specs.Problem.Ops.{Sort, term, formula, same_sort, arity, symbol_right, op_of}
use Rattle.theorems.proofs.Laws.Tests.{and_left, and_right}
use Rattle.theorems.proofs.Laws.Ops.{same_sort_lem}
use Rattle.definitions.specs.Text.Grammar.{Symbol, Head, declared, ite, equals, negation, conjunction, disjunction, implication, verum, falsum, Terms, end, call, symbol_at, wanted_by, sort_of_head, head_right, terms_right}
use Rattle.definitions.specs.Text.Nodes.{Tree, operand, pair, not_tree, leftward, grouped, equations, rightward, head_tree, trees_of}
use Rattle.theorems.proofs.Text.Meant.Laying.{Present}
use Rattle.theorems.proofs.Text.Meant.Reading.{parts}
use Rattle.theorems.proofs.Text.Meant.Sorted.{tree_sort, OperandsFit, WellSorted}

module _ (symbols : List ℕ) where
  -- a tree of this sort
  abbrev pub One : Sort → Tree → Type 0
  One s x = WellSorted symbols x × Present x × (tree_sort x ≡ s)

  -- a row of trees where such arguments are wanted
  abbrev pub Row : List Sort → Option Sort → List Tree → Type 0
  Row [] none [] = Unit {0}
  Row [] none (x ∷ xs) = ⊥
  Row [] (some r) [] = Unit {0}
  Row [] (some r) (x ∷ xs) = One r x × Row [] (some r) xs
  Row (s ∷ ss) more [] = ⊥
  Row (s ∷ ss) more (x ∷ xs) = One s x × Row ss more xs

  abbrev pub AllOne : Sort → List Tree → Type 0
  AllOne s [] = Unit {0}
  AllOne s (x ∷ xs) = One s x × AllOne s xs

  more_one : (s : Sort) (xs : List Tree) → Row [] (some s) xs → AllOne s xs
  more_one s [] r = tt
  more_one s (x ∷ xs) r = (r.0, more_one s xs r.1)

  one_pair2 : (a b : Tree) → One term a → One term b → One formula (pair 2 a b)
  one_pair2 a b p q = ((p.0, q.0, tt, refl, (p.1, p.2, (q.1, q.2, (tt, tt)))), tt, refl)

  one_pair4 : (a b : Tree) → One formula a → One formula b → One formula (pair 4 a b)
  one_pair4 a b p q = ((p.0, q.0, tt, refl, (p.1, p.2, (q.1, q.2, (tt, tt)))), tt, refl)

  one_pair5 : (a b : Tree) → One formula a → One formula b → One formula (pair 5 a b)
  one_pair5 a b p q = ((p.0, q.0, tt, refl, (p.1, p.2, (q.1, q.2, (tt, tt)))), tt, refl)

  one_not : (a : Tree) → One formula a → One formula (not_tree a)
  one_not a p = ((p.0, tt, tt, refl, (p.1, p.2, (tt, (tt, tt)))), tt, refl)

  pub one_left4 : (t : Tree) (us : List Tree) → One formula t → AllOne formula us → One formula (leftward 4 t us)
  one_left4 t [] p q = p
  one_left4 t (u ∷ us) p q = one_left4 (pair 4 t u) us (one_pair4 t u p q.0) q.1

  one_left5 : (t : Tree) (us : List Tree) → One formula t → AllOne formula us → One formula (leftward 5 t us)
  one_left5 t [] p q = p
  one_left5 t (u ∷ us) p q = one_left5 (pair 5 t u) us (one_pair5 t u p q.0) q.1

  one_equations : (b : Tree) (ts : List Tree) → One term b → AllOne term ts → AllOne formula (equations (b ∷ ts))
  one_equations b [] p q = tt
  one_equations b (c ∷ ts) p q = (one_pair2 b c p q.0, one_equations c ts q.0 q.1)

  one_right : (a : Tree) (ts : List Tree) → One formula a → AllOne formula ts → One formula (rightward (a ∷ ts))
  one_right a [] p q = p
  one_right a (b ∷ ts) p q = one_pair5 (not_tree a) (rightward (b ∷ ts)) (one_not a p) (one_right b ts q.0 q.1)

  -- an application
  app_fits : (n : ℕ) (ts : List Tree) → n ≤ 3 → Row (replicate n term) none ts
      → (WellSorted symbols (operand ts 0) × WellSorted symbols (operand ts 1) × WellSorted symbols (operand ts 2)
      × OperandsFit (replicate n term) (operand ts 0 ∷ operand ts 1 ∷ operand ts 2 ∷ []))
  app_fits zero [] h r = (tt, tt, tt, (tt, (tt, (tt, tt))))
  app_fits zero (x ∷ xs) h r = absurd r
  app_fits (suc n) [] h r = absurd r
  app_fits (suc zero) (x ∷ []) h r = (r.0.0, tt, tt, (r.0.1, r.0.2, (tt, (tt, tt))))
  app_fits (suc zero) (x ∷ y ∷ ys) h r = absurd r.1
  app_fits (suc (suc n)) (x ∷ []) h r = absurd r.1
  app_fits (suc (suc zero)) (x ∷ y ∷ []) h r = (r.0.0, r.1.0.0, tt, (r.0.1, r.0.2, (r.1.0.1, r.1.0.2, (tt, tt))))
  app_fits (suc (suc zero)) (x ∷ y ∷ z ∷ zs) h r = absurd r.1.1
  app_fits (suc (suc (suc n))) (x ∷ y ∷ []) h r = absurd r.1.1
  app_fits (suc (suc (suc zero))) (x ∷ y ∷ z ∷ []) h r =
      (r.0.0, r.1.0.0, r.1.1.0.0, (r.0.1, r.0.2, (r.1.0.1, r.1.0.2, (r.1.1.0.1, r.1.1.0.2, tt))))
  app_fits (suc (suc (suc zero))) (x ∷ y ∷ z ∷ w ∷ ws) h r = absurd r.1.1.1
  app_fits (suc (suc (suc (suc n)))) (x ∷ y ∷ z ∷ zs) h r = absurd (omega arith)

  three : (s : Sort) (ts : List Tree) → Row (formula ∷ s ∷ s ∷ []) none ts
      → (WellSorted symbols (operand ts 0) × WellSorted symbols (operand ts 1) × WellSorted symbols (operand ts 2)
      × OperandsFit (formula ∷ s ∷ s ∷ []) (operand ts 0 ∷ operand ts 1 ∷ operand ts 2 ∷ []))
  three s [] r = absurd r
  three s (x ∷ []) r = absurd r.1
  three s (x ∷ y ∷ []) r = absurd r.1.1
  three s (x ∷ y ∷ z ∷ []) r = (r.0.0, r.1.0.0, r.1.1.0.0, (r.0.1, r.0.2, (r.1.0.1, r.1.0.2, (r.1.1.0.1, r.1.1.0.2, tt))))
  three s (x ∷ y ∷ z ∷ w ∷ ws) r = absurd r.1.1.1

  -- two or more
  two : (s : Sort) (P : List Tree → Type 0) → ((a b : Tree) (ts : List Tree) → One s a → One s b → AllOne s ts → P (a ∷ b ∷ ts))
      → (ts : List Tree) → Row (s ∷ s ∷ []) (some s) ts → P ts
  two s P f [] r = absurd r
  two s P f (a ∷ []) r = absurd r.1
  two s P f (a ∷ b ∷ ts) r = f a b ts r.0 r.1.0 (more_one s ts r.1.1)

  module _ (sig : List Symbol)
      (agrees : (k : ℕ) → k < length sig → (arity symbols k ≡ (symbol_at sig k).arity) × ((symbol_at sig k).arity ≤ 3))
      (rightly : (k : ℕ) → k < length sig → ((symbol_at sig k).result ≡ term → symbol_right symbols (op_of 0) k ≡ true) × ((symbol_at sig k).result ≡ formula → symbol_right symbols (op_of 6) k ≡ true)) where
    head_one : (h : Head) (ts : List Tree) → head_right sig h ≡ true → Row (wanted_by sig h).must (wanted_by sig h).more ts → One (sort_of_head h) (head_tree h ts)
    head_one (declared term k) ts p r =
        let l = ltb-true k (length sig) (and_left (ltb k (length sig)) (same_sort (symbol_at sig k).result term) p) in
        let f = app_fits (symbol_at sig k).arity ts (agrees k l).1 r in
        ((f.0, f.1, f.2, (rightly k l).0 (same_sort_lem (symbol_at sig k).result term (and_right (ltb k (length sig)) (same_sort (symbol_at sig k).result term) p)), rw (agrees k l).0 f.3), tt, refl)
    head_one (declared formula k) ts p r =
        let l = ltb-true k (length sig) (and_left (ltb k (length sig)) (same_sort (symbol_at sig k).result formula) p) in
        let f = app_fits (symbol_at sig k).arity ts (agrees k l).1 r in
        ((f.0, f.1, f.2, (rightly k l).1 (same_sort_lem (symbol_at sig k).result formula (and_right (ltb k (length sig)) (same_sort (symbol_at sig k).result formula) p)), rw (agrees k l).0 f.3), tt, refl)
    head_one (ite term) ts p r = let f = three term ts r in ((f.0, f.1, f.2, refl, f.3), tt, refl)
    head_one (ite formula) ts p r = let f = three formula ts r in ((f.0, f.1, f.2, refl, f.3), tt, refl)
    head_one equals ts p r =
        two term (λ xs. One formula (grouped 4 (equations xs))) (λ a b xs x y zs. one_left4 (pair 2 a b) (equations (b ∷ xs)) (one_pair2 a b x y) (one_equations b xs y zs)) ts r
    head_one negation ts p r = by ts r
      where
        by : (ts : List Tree) → Row (formula ∷ []) none ts → One formula (not_tree (operand ts 0))
        by [] r = absurd r
        by (a ∷ ts) r = one_not a r.0
    head_one conjunction ts p r = two formula (λ xs. One formula (grouped 4 xs)) (λ a b xs x y zs. one_left4 a (b ∷ xs) x (y, zs)) ts r
    head_one disjunction ts p r = two formula (λ xs. One formula (grouped 5 xs)) (λ a b xs x y zs. one_left5 a (b ∷ xs) x (y, zs)) ts r
    head_one implication ts p r = two formula (λ xs. One formula (rightward xs)) (λ a b xs x y zs. one_right a (b ∷ xs) x (y, zs)) ts r
    head_one verum ts p r = ((tt, tt, tt, refl, (tt, (tt, (tt, tt)))), tt, refl)
    head_one falsum ts p r = ((tt, tt, tt, refl, (tt, (tt, (tt, tt)))), tt, refl)

    -- the trees of right terms have the sorts wanted
    pub row_one : (row : Terms) (must : List Sort) (more : Option Sort) → terms_right sig (record { must = must; more = more }) row ≡ true → Row must more (trees_of row)
    row_one end must more e = none_left must more e
      where
        none_left : (must : List Sort) (more : Option Sort) → terms_right sig (record { must = must; more = more }) end ≡ true → Row must more []
        none_left [] none e = tt
        none_left [] (some r) e = tt
        none_left (s ∷ ss) more e = absurd (false≢true e)
    row_one (call h args rest) must more e =
        here must more e (row_one args (wanted_by sig h).must (wanted_by sig h).more) (λ ss r. row_one rest ss r)
      where
        here : (must : List Sort) (more : Option Sort) → terms_right sig (record { must = must; more = more }) (call h args rest) ≡ true
            → (terms_right sig (wanted_by sig h) args ≡ true → Row (wanted_by sig h).must (wanted_by sig h).more (trees_of args))
            → ((ss : List Sort) (r : Option Sort) → terms_right sig (record { must = ss; more = r }) rest ≡ true → Row ss r (trees_of rest))
            → Row must more (trees_of (call h args rest))
        here [] none e inner after = absurd (false≢true (parts sig (record { must = []; more = none }) h args rest e).asked)
        here [] (some r) e inner after =
            let p = parts sig (record { must = []; more = some r }) h args rest e in
            (subst (λ (s : Sort). One s (head_tree h (trees_of args))) (sym (same_sort_lem r (sort_of_head h) p.asked)) (head_one h (trees_of args) p.known (inner p.inner)), after [] (some r) p.after)
        here (s ∷ ss) more e inner after =
            let p = parts sig (record { must = s ∷ ss; more = more }) h args rest e in
            (subst (λ (r : Sort). One r (head_tree h (trees_of args))) (sym (same_sort_lem s (sort_of_head h) p.asked)) (head_one h (trees_of args) p.known (inner p.inner)), after ss more p.after)
