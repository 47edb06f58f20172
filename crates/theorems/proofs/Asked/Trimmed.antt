-- The trimmed table (02, E2): every node of it is right, has the value of the node that it stands for, and is the root or an operand in use
-- of a later one. Assumes nothing.
use mathlib.Core.Path.{◌≡◌, refl, sym, ap, ap₂, ◌∙◌, subst}
use Prim.Native.Nat.{ℕ, zero, suc, ◌-◌, ◌<◌, ◌≤◌}
use native.Mathlib.Omega.{arith}
use mathlib.Core.Bool.{Bool, true, false, ◌&&◌, false≢true}
use mathlib.Core.Logic.{◌⊎◌, inl, inr}
use mathlib.Core.List.{List, [], ◌∷◌, ◌++◌, map, append-nil, append_assoc}
use mathlib.Core.Option.{Option, none, some}
use lib.ListN.{length, get_or, take, length-append, length-map}
use lib.Seq.{get_or-take, length-take-le, take-take, get_or_at}
use lib.Dec.{eqb, ltb}
use borrow.Author.Tests.{lt-ltb}
use Rattle.definitions.specs.Lists.{any, snoc}
use Rattle.definitions.specs.Problem.Node.{Node, node, no_node}
use Rattle.definitions.specs.Problem.Ops.{op_of, arity, Sort, sort_of, same_sort, symbol_right, operands_right, fits, node_right, sorts_of, count_of, fields_of, operands_of, is_app}
use Rattle.definitions.specs.Problem.Check.{first_wrong}
use Rattle.definitions.specs.Logic.{Interpretation, Value, number_of, value_at, number_at, op_value, node_value, values}
use Rattle.theorems.proofs.Laws.Tests.{and_intro, and_left, and_right}
use Rattle.theorems.proofs.Laws.Ops.{Alike, AllBelow, sort_at, op_alike, app_alike, operands_rest, fields_node_on}
use Rattle.theorems.proofs.Tables.Fixed.{right_at_lem, right_below, right_fits, fixed}
use Rattle.definitions.specs.Problem.Asked.{wanted_below, reached, number_in, renumbered, trimmed}
use Rattle.theorems.proofs.Asked.Reach.{In, in_here, in_later, in_split, in_one, below_in, get_d_in, Reaches, reaches, root_last}
use Rattle.theorems.proofs.Asked.Numbers.{number_of_lem, number_in_lem, number_less}

-- a table whose every node is right after those before it has no wrong node
pub wrong_all : (symbols : List ℕ) (earlier ns : List Node)
    → ((k : ℕ) → k < length ns → node_right symbols (earlier ++ take k ns) (node ns k) ≡ true) → first_wrong symbols earlier ns ≡ none
wrong_all symbols earlier [] f = refl
wrong_all symbols earlier (n ∷ ns) f =
    ap pick (subst (λ (l : List Node). node_right symbols l n ≡ true) (append-nil earlier) (f 0 (omega arith)))
    ∙ wrong_all symbols (snoc earlier n) ns
    (λ k h. subst (λ (l : List Node). node_right symbols l (node ns k) ≡ true) (sym (append_assoc earlier (n ∷ []) (take k ns))) (f (suc k) (omega arith)))
  where
    pick : Bool → Option ℕ
    pick b = elim b [ true ↦ first_wrong symbols (snoc earlier n) ns | false ↦ some (length earlier) ]

-- the first nodes of a table with no wrong node have none
pub wrong_take : (symbols : List ℕ) (m : ℕ) (t : List Node) → m ≤ length t → first_wrong symbols [] t ≡ none → first_wrong symbols [] (take m t) ≡ none
wrong_take symbols m t l e =
    wrong_all symbols [] (take m t)
    (λ k h.
    let q = length-take-le m t l in
    let i : k < m = omega arith in
    subst (λ (n : Node). node_right symbols (take k (take m t)) n ≡ true) (sym (get_or-take m t k no_node i))
    (subst (λ (w : List Node). node_right symbols w (node t k) ≡ true) (sym (take-take k m t (omega arith))) (right_at_lem symbols t k e (omega arith))))

map_at : (f : ℕ → Node) (xs : List ℕ) (i : ℕ) → i < length xs → node (map f xs) i ≡ f (get_or xs i 0)
map_at f [] i h = absurd (omega arith)
map_at f (x ∷ xs) zero h = refl
map_at f (x ∷ xs) (suc i) h = map_at f xs i (omega arith)

in_map : (f : ℕ → ℕ) (xs : List ℕ) (k : ℕ) → In k xs → In (f k) (map f xs)
in_map f [] k e = absurd (false≢true e)
in_map f (x ∷ xs) k e =
    elim (in_split k x xs e) [
      | inl p ↦ subst (λ (y : ℕ). In (f k) (y ∷ map f xs)) (ap f p) (in_here (f k) (map f xs))
      | inr p ↦ in_later (f k) (f x) (map f xs) (in_map f xs k p)
    ]

-- operands that move to nodes of the same sorts still fit
module _ (E E' : List Node) (img : ℕ → ℕ) where
  abbrev pub Moves : ℕ → Type 0
  Moves o = (img o < length E') × (sort_at E' (img o) ≡ sort_at E o)

  abbrev moved : Option (List Sort) → Node → Node
  moved o n =
      let ks = map img (take (count_of o) (fields_of n)) in
      record { op = n.op; sym = n.sym; a = get_or ks 0 0; b = get_or ks 1 0; c = get_or ks 2 0 }

  abbrev good : List Node → Sort → ℕ → Bool
  good e s k = ltb k (length e) && same_sort (sort_at e k) s

  one : (s : Sort) (k : ℕ) → Moves k → good E s k ≡ true → good E' s (img k) ≡ true
  one s k m e =
      and_intro (ltb (img k) (length E')) (same_sort (sort_at E' (img k)) s) (lt-ltb (img k) (length E') m.0)
      (ap (λ (x : Sort). same_sort x s) m.1 ∙ and_right (ltb k (length E)) (same_sort (sort_at E k) s) e)

  first : (s : Sort) (ss : List Sort) (k : ℕ) (ks : List ℕ) → operands_right E (s ∷ ss) (k ∷ ks) ≡ true → good E s k ≡ true
  first s ss k ks e = and_left (good E s k) (operands_right E ss ks) e

  refit : (o : Option (List Sort)) (n : Node) → ((x : ℕ) → In x (take (count_of o) (fields_of n)) → Moves x) → fits E o (fields_of n) ≡ true
      → fits E' o (fields_of (moved o n)) ≡ true
  refit none n m e = absurd (false≢true e)
  refit (some []) n m e = refl
  refit (some (s ∷ [])) n m e =
      and_intro (good E' s (img n.a)) true
      (one s n.a (m n.a (in_here n.a [])) (first s [] n.a (n.b ∷ n.c ∷ []) e)) refl
  refit (some (s ∷ s' ∷ [])) n m e =
      let e' = operands_rest E s (s' ∷ []) n.a (n.b ∷ n.c ∷ []) e in
      and_intro (good E' s (img n.a)) (good E' s' (img n.b) && true)
      (one s n.a (m n.a (in_here n.a (n.b ∷ []))) (first s (s' ∷ []) n.a (n.b ∷ n.c ∷ []) e))
      (and_intro (good E' s' (img n.b)) true
      (one s' n.b (m n.b (in_later n.b n.a (n.b ∷ []) (in_here n.b []))) (first s' [] n.b (n.c ∷ []) e')) refl)
  refit (some (s ∷ s' ∷ s'' ∷ [])) n m e =
      let e' = operands_rest E s (s' ∷ s'' ∷ []) n.a (n.b ∷ n.c ∷ []) e in
      let e'' = operands_rest E s' (s'' ∷ []) n.b (n.c ∷ []) e' in
      and_intro (good E' s (img n.a)) (good E' s' (img n.b) && (good E' s'' (img n.c) && true))
      (one s n.a (m n.a (in_here n.a (n.b ∷ n.c ∷ []))) (first s (s' ∷ s'' ∷ []) n.a (n.b ∷ n.c ∷ []) e))
      (and_intro (good E' s' (img n.b)) (good E' s'' (img n.c) && true)
      (one s' n.b (m n.b (in_later n.b n.a (n.b ∷ n.c ∷ []) (in_here n.b (n.c ∷ [])))) (first s' (s'' ∷ []) n.b (n.c ∷ []) e'))
      (and_intro (good E' s'' (img n.c)) true
      (one s'' n.c (m n.c (in_later n.c n.a (n.b ∷ n.c ∷ []) (in_later n.c n.b (n.c ∷ []) (in_here n.c [])))) (first s'' [] n.c [] e'')) refl))
  refit (some (s ∷ s' ∷ s'' ∷ s''' ∷ ss)) n m e =
      absurd
      (false≢true
      (operands_rest E s'' (s''' ∷ ss) n.c []
      (operands_rest E s' (s'' ∷ s''' ∷ ss) n.b (n.c ∷ []) (operands_rest E s (s' ∷ s'' ∷ s''' ∷ ss) n.a (n.b ∷ n.c ∷ []) e))))

-- the operands in use of a node renumbered
pub operands_renumbered : (symbols numbers : List ℕ) (n : Node) → operands_of symbols (renumbered symbols numbers n) ≡ map (number_in numbers) (operands_of symbols n)
operands_renumbered symbols numbers n = fields_node_on n.op (number_in numbers) (count_of (sorts_of symbols n)) n

-- where its operands have the same values, a node renumbered has the same value
module _ (ws vs : List Value) (img : ℕ → ℕ) where
  alike_in : (ks : List ℕ) → ((k : ℕ) → In k ks → value_at ws (img k) ≡ value_at vs k) → Alike ws vs (map img ks) ks
  alike_in [] f = tt
  alike_in (k ∷ ks) f = (f k (in_here k ks), alike_in ks (λ j i. f j (in_later j k ks i)))

  numbers_in : (ks : List ℕ) → ((k : ℕ) → In k ks → value_at ws (img k) ≡ value_at vs k) → map (number_at ws) (map img ks) ≡ map (number_at vs) ks
  numbers_in [] f = refl
  numbers_in (k ∷ ks) f = ap₂ {C = List ℕ} (λ x xs. x ∷ xs) (ap number_of (f k (in_here k ks))) (numbers_in ks (λ j i. f j (in_later j k ks i)))

pub renumbered_value : (ws vs : List Value) (I : Interpretation) (symbols numbers : List ℕ) (n : Node)
    → ((k : ℕ) → In k (operands_of symbols n) → value_at ws (number_in numbers k) ≡ value_at vs k)
    → node_value I symbols ws (renumbered symbols numbers n) ≡ node_value I symbols vs n
renumbered_value ws vs I symbols numbers n f = go (is_app (op_of n.op)) refl
  where
    given : map (number_at ws) (operands_of symbols (renumbered symbols numbers n)) ≡ map (number_at vs) (operands_of symbols n)
    given =
        ap (map (number_at ws)) (operands_renumbered symbols numbers n)
        ∙ numbers_in ws vs (number_in numbers) (operands_of symbols n) f

    go : (c : Bool) → is_app (op_of n.op) ≡ c → node_value I symbols ws (renumbered symbols numbers n) ≡ node_value I symbols vs n
    go true p =
        ap (op_value I ws (op_of n.op) (renumbered symbols numbers n)) given
        ∙ app_alike I ws vs n.op (renumbered symbols numbers n) n (map (number_at vs) (operands_of symbols n)) p refl
    go false p =
        op_alike I I ws vs (op_of n.op) (arity symbols n.sym) (renumbered symbols numbers n) n _ _ p
        (subst (λ (is : List ℕ). Alike ws vs is (operands_of symbols n)) (sym (operands_renumbered symbols numbers n))
        (alike_in ws vs (number_in numbers) (operands_of symbols n) f))

-- every node is the root, or an operand in use of a later node
abbrev pub AllUsed : List ℕ → List Node → ℕ → Type 0
AllUsed symbols t root =
    (k : ℕ) → k < length t → (k ≡ root) ⊎ ((j : ℕ) × (k < j) × (j < length t) × (any (eqb k) (operands_of symbols (node t j)) ≡ true))

module _ (symbols : List ℕ) (t : List Node) (right : first_wrong symbols [] t ≡ none) where
  pub earlier : (k : ℕ) → k < length t → AllBelow k (operands_of symbols (node t k))
  earlier k h =
      subst (λ (m : ℕ). AllBelow m (operands_of symbols (node t k))) (length-take-le k t (omega arith))
      (right_below symbols (take k t) (node t k) (right_at_lem symbols t k right h))

  abbrev r : List ℕ
  r = reached symbols t

  abbrev u : List Node
  u = trimmed symbols t

  pub scan : Reaches symbols t (length t) ((length t - 1) ∷ []) r
  scan = reaches symbols t earlier (length t) (omega arith) ((length t - 1) ∷ [])

  pub length_trimmed : length u ≡ length r
  length_trimmed = length-map r (λ k. renumbered symbols r (node t k))

  -- what stands at a number of the trimmed table
  pub trimmed_at : (i : ℕ) → i < length r → node u i ≡ renumbered symbols r (node t (get_or r i 0))
  trimmed_at i h = map_at (λ k. renumbered symbols r (node t k)) r i h

  pub reached_below : (i : ℕ) → i < length r → get_or r i 0 < length t
  reached_below i h = scan.below (get_or r i 0) (get_d_in r i h)

  pub reached_number : (k : ℕ) → In k r → (number_in r k < length r) × (get_or r (number_in r k) 0 ≡ k)
  reached_number k e = number_in_lem 0 r scan.rising k e

  -- what stands at the number of a reached node
  pub trimmed_of : (k : ℕ) → In k r → node u (number_in r k) ≡ renumbered symbols r (node t k)
  trimmed_of k e = let q = reached_number k e in trimmed_at (number_in r k) q.0 ∙ ap (λ (j : ℕ). renumbered symbols r (node t j)) q.1

  -- an operand in use of the node that i stands for: reached, and its number is below i
  pub operand_in : (i o : ℕ) → i < length r → In o (operands_of symbols (node t (get_or r i 0))) → In o r
  operand_in i o h e = scan.closed (get_or r i 0) o (get_d_in r i h) e

  pub operand_less : (i o : ℕ) → i < length r → In o (operands_of symbols (node t (get_or r i 0))) → number_in r o < i
  operand_less i o h e =
      let k : ℕ = get_or r i 0 in
      let l = below_in k (operands_of symbols (node t k)) o (earlier k (reached_below i h)) e in
      let a = number_less 0 r scan.rising o k (operand_in i o h e) l in
      let b = number_of_lem 0 r scan.rising i h in
      omega arith

  -- each is right
  right_one : (i : ℕ) → i < length r → node_right symbols (take i u) (renumbered symbols r (node t (get_or r i 0))) ≡ true
  right_one i h =
      let k : ℕ = get_or r i 0 in
      let n : Node = node t k in
      let kl = reached_below i h in
      let was = right_at_lem symbols t k right kl in
      let lu = length_trimmed in
      let li : length (take i u) ≡ i = length-take-le i u (omega arith) in
      and_intro (symbol_right symbols (op_of n.op) n.sym) (fits (take i u) (sorts_of symbols n) (fields_of (renumbered symbols r n)))
      (and_left (symbol_right symbols (op_of n.op) n.sym) (fits (take k t) (sorts_of symbols n) (fields_of n)) was)
      (refit (take k t) (take i u) (number_in r) (sorts_of symbols n) n
      (λ o e.
      let less = operand_less i o h e in
      let low = below_in k (operands_of symbols n) o (earlier k kl) e in (
        omega arith,
        ap (λ (m : Node). sort_of (op_of m.op))
            (get_or-take i u (number_in r o) no_node less ∙ trimmed_of o (operand_in i o h e))
            ∙ ap (λ (m : Node). sort_of (op_of m.op)) (sym (get_or-take k t o no_node low)),
      ))
      (right_fits symbols (take k t) n was))

  pub trimmed_right : first_wrong symbols [] u ≡ none
  trimmed_right =
      wrong_all symbols [] u
      (λ i h.
      let lu = length_trimmed in
      let l : i < length r = omega arith in
      subst (λ (m : Node). node_right symbols (take i u) m ≡ true) (sym (trimmed_at i l)) (right_one i l))

  -- each has the value of the node that it stands for
  values_from : (I : Interpretation) (d i : ℕ) → i < d → i < length r → value_at (values I symbols u) i ≡ value_at (values I symbols t) (get_or r i 0)
  values_from I zero i b h = absurd (omega arith)
  values_from I (suc d) i b h =
      let k : ℕ = get_or r i 0 in
      let lu = length_trimmed in
      fixed I symbols u trimmed_right i (omega arith)
      ∙ ap (node_value I symbols (values I symbols u)) (trimmed_at i h)
      ∙ renumbered_value (values I symbols u) (values I symbols t) I symbols r (node t k)
      (λ o e.
      let q = reached_number o (operand_in i o h e) in
      let less = operand_less i o h e in
      values_from I d (number_in r o) (omega arith) q.0 ∙ ap (value_at (values I symbols t)) q.1)
      ∙ sym (fixed I symbols t right k (reached_below i h))

  pub trimmed_value : (I : Interpretation) (i : ℕ) → i < length r → value_at (values I symbols u) i ≡ value_at (values I symbols t) (get_or r i 0)
  trimmed_value I i h = values_from I (suc i) i (omega arith) h

  -- the root is the last
  module _ (root : ℕ) (ends : length t ≡ suc root) where
    reached_snoc : (xs : List ℕ) × (r ≡ snoc xs root)
    reached_snoc =
        let q : length t - 1 ≡ root = omega arith in (
          wanted_below symbols t root (operands_of symbols (node t root) ++ root ∷ []),
          ap₂ {C = List ℕ} (λ (m k : ℕ). wanted_below symbols t m (k ∷ [])) ends q ∙ root_last symbols t root,
        )

    pub reached_some : 0 < length r
    reached_some =
        let s = reached_snoc in
        let e = ap length s.1 in
        let l = length-append s.0 (root ∷ []) in
        omega arith

    pub reached_few : length r ≤ suc root
    reached_few = let l = scan.short in omega arith

    pub last_reached : get_or r (length r - 1) 0 ≡ root
    last_reached =
        let s = reached_snoc in
        let e = ap length s.1 in
        let l = length-append s.0 (root ∷ []) in
        ap (λ (xs : List ℕ). get_or xs (length r - 1) 0) s.1 ∙ get_or_at s.0 root [] 0 (length r - 1) (omega arith)

    pub trimmed_last : node u (length u - 1) ≡ renumbered symbols r (node t root)
    trimmed_last =
        let p = reached_some in
        ap (λ (m : ℕ). node u (m - 1)) length_trimmed ∙ trimmed_at (length r - 1) (omega arith)
        ∙ ap (λ (k : ℕ). renumbered symbols r (node t k)) last_reached

    pub trimmed_root : (I : Interpretation) → value_at (values I symbols u) (length u - 1) ≡ value_at (values I symbols t) root
    trimmed_root I =
        let p = reached_some in
        ap (λ (m : ℕ). value_at (values I symbols u) (m - 1)) length_trimmed ∙ trimmed_value I (length r - 1) (omega arith)
        ∙ ap (value_at (values I symbols t)) last_reached

    -- every node of the trimmed table is used
    pub trimmed_used : AllUsed symbols u (length u - 1)
    trimmed_used i h =
        let lu = length_trimmed in
        let p = reached_some in
        let l : i < length r = omega arith in
        let k : ℕ = get_or r i 0 in
        let own = number_of_lem 0 r scan.rising i l in
        elim (scan.used k (get_d_in r i l)) [
          | inl w ↦
              let q : k ≡ root = in_one k (length t - 1) w ∙ (let z : length t - 1 ≡ root = omega arith in z) in
              let a = number_of_lem 0 r scan.rising (length r - 1) (omega arith) in
              let b : number_in r k ≡ number_in r (get_or r (length r - 1) 0) = ap (number_in r) (q ∙ sym last_reached) in
              inl (omega arith)
          | inr w ↦
              let j : ℕ = w.0 in
              let n = reached_number j w.2 in
              let nl = n.0 in
              let less = number_less 0 r scan.rising k j (get_d_in r i l) w.1 in
              inr (
                number_in r j,
                omega arith,
                omega arith,
                subst (λ (m : Node). In i (operands_of symbols m)) (sym (trimmed_of j w.2))
                    (subst (λ (xs : List ℕ). In i xs) (sym (operands_renumbered symbols r (node t j)))
                    (subst (λ (x : ℕ). In x (map (number_in r) (operands_of symbols (node t j)))) own
                    (in_map (number_in r) (operands_of symbols (node t j)) k w.3))),
              )
        ]
