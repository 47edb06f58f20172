-- Elimination only adds: the table and the images of a state start those of every later state. Assumes nothing.
use mathlib.Core.Path.{◌≡◌, refl, sym, ap, ◌∙◌}
use Prim.Native.Nat.{ℕ}
use mathlib.Core.List.{List, [], ◌∷◌, ◌++◌, append-nil, append_assoc}
use lib.ListN.{length}
use Rattle.definitions.specs.Lists.{snoc, keep}
use Rattle.definitions.specs.Problem.Node.{Node, plain}
use Rattle.definitions.specs.Elimination.{
  App,
  State,
  images_of,
  last,
  further,
  condition,
  choice_op,
  choices,
  same_symbol,
  next_var,
  variable_node,
  applied,
  node_on,
  step,
  steps,
}
use Rattle.theorems.proofs.Elimination.Steps.{step_cases}

-- one list starts another
abbrev pub Starts : {A : Type 0} → List A → List A → Type 0
Starts {A} xs ys = (r : List A) × (ys ≡ xs ++ r)

starts_self : {A : Type 0} (xs : List A) → Starts xs xs
starts_self xs = ([], sym (append-nil xs))

starts_trans : {A : Type 0} (xs ys zs : List A) → Starts xs ys → Starts ys zs → Starts xs zs
starts_trans {A} xs ys zs p q =
    (p.0 ++ q.0, q.1 ∙ ap (λ (l : List A). l ++ q.0) p.1 ∙ append_assoc xs p.0 q.0)

starts_snoc : {A : Type 0} (xs : List A) (x : A) → Starts xs (snoc xs x)
starts_snoc xs x = (x ∷ [], refl)

further_starts : (out : List Node) (xs ys : List ℕ) → Starts out (further out xs ys)
further_starts out [] ys = starts_self out
further_starts out (x ∷ xs) [] = starts_self out
further_starts out (x ∷ xs) (y ∷ ys) =
    let mid = snoc out (plain 2 x y 0) in
    let end = snoc mid (plain 4 (last out) (length out) 0) in
    starts_trans out mid (further end xs ys) (starts_snoc out (plain 2 x y 0))
    (starts_trans mid end (further end xs ys) (starts_snoc mid (plain 4 (last out) (length out) 0)) (further_starts end xs ys))

condition_starts : (out : List Node) (xs ys : List ℕ) → Starts out (condition out xs ys)
condition_starts out [] ys = starts_self out
condition_starts out (x ∷ xs) [] = starts_self out
condition_starts out (x ∷ xs) (y ∷ ys) =
    let mid = snoc out (plain 2 x y 0) in
    starts_trans out mid (further mid xs ys) (starts_snoc out (plain 2 x y 0)) (further_starts mid xs ys)

choices_starts : (op : ℕ) (args : Node → List ℕ) (js : List App) (out : List Node) (xs : List ℕ) → Starts out (choices op args out xs js)
choices_starts op args [] out xs = starts_self out
choices_starts op args (j ∷ js) out xs =
    let mid = condition out xs (args j.of) in
    let n = plain (choice_op op) (last mid) j.own (last out) in
    starts_trans out mid (choices op args (snoc mid n) xs js) (condition_starts out xs (args j.of))
    (starts_trans mid (snoc mid n) (choices op args (snoc mid n) xs js) (starts_snoc mid n) (choices_starts op args js (snoc mid n) xs))

pub record Ext (st F : State) : Type 0 where
  pub nodes : Starts st.out F.out
  pub numbers : Starts st.images F.images

step_ext : (symbols : List ℕ) (st : State) (n : Node) → Ext st (step symbols st n)
step_ext symbols st n =
    let var = variable_node n.op (next_var st n) in
    let args = images_of symbols st.images in
    let copied = node_on n.op (args n) in
    step_cases symbols st n (Ext st)
    (λ p. record { nodes = starts_snoc st.out copied; numbers = starts_snoc st.images (last (snoc st.out copied)) })
    (λ i e. record { nodes = starts_self st.out; numbers = starts_snoc st.images i })
    (λ p e.
    record {
      nodes =
          starts_trans st.out (snoc st.out var) (applied symbols st n) (starts_snoc st.out var)
          (choices_starts n.op args (keep (same_symbol n) st.apps) (snoc st.out var) (args n));
      numbers = starts_snoc st.images (last (applied symbols st n));
    })

pub steps_ext : (symbols : List ℕ) (ns : List Node) (st : State) → Ext st (steps symbols st ns)
steps_ext symbols [] st = record { nodes = starts_self st.out; numbers = starts_self st.images }
steps_ext symbols (n ∷ ns) st =
    let a = step_ext symbols st n in
    let mid = step symbols st n in
    let F = steps symbols mid ns in
    let b = steps_ext symbols ns mid in
    record {
      nodes = starts_trans st.out mid.out F.out a.nodes b.nodes;
      numbers = starts_trans st.images mid.images F.images a.numbers b.numbers;
    }
