-- Two checks on the definition of `asked` (02, E2). The scan finds exactly what the root reaches, where reaching is said without a scan. And
-- where the root reaches every node, trimming changes nothing: the problem asked has the same symbols and nodes. Assumes nothing.
use mathlib.Core.Path.{◌≡◌, refl, sym, ap, ap₂, ◌∙◌, subst}
use Prim.Native.Nat.{ℕ, zero, suc, ◌+◌, ◌-◌, ◌<◌, ◌≤◌}
use native.Mathlib.Omega.{arith}
use mathlib.Core.Bool.{true, false≢true}
use mathlib.Core.Logic.{◌↔◌, inl, inr}
use mathlib.Core.List.{List, [], ◌∷◌, map}
use mathlib.Core.Option.{Option, none, some}
use lib.ListN.{length, get_or, take}
use lib.Seq.{take_all, get_or-take, length-take-le, ext_get_or}
use lib.Dec.{eqb}
use borrow.Author.Tests.{eqb-true}
use Rattle.definitions.specs.Lists.{any, all, count_from}
use Rattle.definitions.specs.Problem.Node.{Node, node, no_node}
use Rattle.definitions.specs.Problem.Ops.{Sort, fits, sorts_of, count_of, fields_of, operands_of}
use Rattle.definitions.specs.Problem.Check.{symbols_of, nodes_of, first_wrong}
use Rattle.theorems.proofs.Laws.Tests.{and_left, and_right, split}
use Rattle.theorems.proofs.Laws.Ops.{operands_rest}
use Rattle.theorems.proofs.Tables.Fixed.{right_at_lem, right_fits}
use Rattle.definitions.specs.Problem.Asked.{reached, number_in, renumbered, trimmed}
use Rattle.theorems.proofs.Asked.Reach.{In, in_here, in_later, in_split, in_one, below_in, Rising, rising_above, Reaches, reaches}
use Rattle.theorems.proofs.Asked.Numbers.{number_of_lem}
use Rattle.theorems.proofs.Asked.Trimmed.{AllUsed, earlier, length_trimmed, trimmed_at, reached_few}
use Rattle.theorems.proofs.Asked.Formed.{Named, cut_right}

-- the root, and the operands in use of what is reached
pub data From (symbols : List ℕ) (t : List Node) (root : ℕ) : ℕ → Type 0 where
  start : From symbols t root root
  step : {j o : ℕ} → From symbols t root j → any (eqb o) (operands_of symbols (node t j)) ≡ true → From symbols t root o

module _ (symbols : List ℕ) (t : List Node) (right : first_wrong symbols [] t ≡ none) (some_nodes : 0 < length t) where
  abbrev last : ℕ
  last = length t - 1

  abbrev r : List ℕ
  r = reached symbols t

  scan : Reaches symbols t (length t) (last ∷ []) r
  scan = reaches symbols t (earlier symbols t right) (length t) (omega arith) (last ∷ [])

  from_in : {k : ℕ} → From symbols t last k → In k r
  from_in start = scan.has last (omega arith) (in_here last [])
  from_in (step {j} {o} f u) = scan.closed j o (from_in f) u

  in_from : (d k : ℕ) → length t ≤ k + d → In k r → From symbols t last k
  in_from zero k h i = absurd (let l = scan.below k i in omega arith)
  in_from (suc d) k h i =
      elim (scan.used k i) [
        | inl w ↦ subst (From symbols t last) (sym (in_one k last w)) start
        | inr w ↦
            let l = w.1 in
            step (in_from d w.0 (omega arith) w.2) w.3
      ]

  pub reached_exactly : (k : ℕ) → In k r ↔ From symbols t last k
  reached_exactly k = (in_from (length t) k (omega arith), λ f. from_in f)

  -- where every node is used, all are reached
  used_in : AllUsed symbols t last → (d k : ℕ) → length t ≤ k + d → k < length t → In k r
  used_in used zero k h l = absurd (omega arith)
  used_in used (suc d) k h l =
      elim (used k l) [
        | inl q ↦ subst (λ (x : ℕ). In x r) (sym q) (scan.has last (omega arith) (in_here last []))
        | inr w ↦
            let less = w.1 in
            scan.closed w.0 k (used_in used d w.0 (omega arith) w.2) w.3
      ]

-- a list that rises and has every number from lo to lo + d is that run of numbers
run_of : (d lo : ℕ) (xs : List ℕ) → Rising lo xs → ((j : ℕ) → In j xs → j < lo + d) → ((j : ℕ) → lo ≤ j → j < lo + d → In j xs) → xs ≡ count_from lo d
run_of zero lo [] r b f = refl
run_of zero lo (x ∷ xs) r b f = absurd (let l = r.0 in let h = b x (in_here x xs) in omega arith)
run_of (suc d) lo [] r b f = absurd (false≢true (f lo (omega arith) (omega arith)))
run_of (suc d) lo (x ∷ xs) r b f = go first (run_of d (suc lo) xs)
  where
    first : x ≡ lo
    first =
        let l = r.0 in
        elim (in_split lo x xs (f lo (omega arith) (omega arith))) [
          | inl q ↦ sym q
          | inr p ↦ (let h = rising_above (suc x) xs r.1 lo p in absurd (omega arith))
        ]

    go : x ≡ lo
        → (Rising (suc lo) xs → ((j : ℕ) → In j xs → j < suc lo + d) → ((j : ℕ) → suc lo ≤ j → j < suc lo + d → In j xs) → xs ≡ count_from (suc lo) d)
        → x ∷ xs ≡ lo ∷ count_from (suc lo) d
    go q rec =
        ap₂ {C = List ℕ} (λ y ys. y ∷ ys) q
        (rec (subst (λ (y : ℕ). Rising (suc y) xs) q r.1) (λ j i. (let h = b j (in_later j x xs i) in omega arith))
        (λ j l h.
        elim (in_split j x xs (f j (omega arith) (omega arith))) [
          | inl p ↦ absurd (omega arith)
          | inr p ↦ p
        ]))

get_d_run : (d lo i : ℕ) → i < d → get_or (count_from lo d) i 0 ≡ lo + i
get_d_run zero lo i h = absurd (omega arith)
get_d_run (suc d) lo zero h = omega arith
get_d_run (suc d) lo (suc i) h = let e = get_d_run d (suc lo) i (omega arith) in omega arith

length_run : (d lo : ℕ) → length (count_from lo d) ≡ d
length_run zero lo = refl
length_run (suc d) lo = ap suc (length_run d (suc lo))

-- a node that fits, with its operands in use renamed to themselves, is the node
module _ (E : List Node) (img : ℕ → ℕ) where
  abbrev renamed : Option (List Sort) → Node → Node
  renamed o n =
      let ks = map img (take (count_of o) (fields_of n)) in
      record { op = n.op; sym = n.sym; a = get_or ks 0 0; b = get_or ks 1 0; c = get_or ks 2 0 }

  alike : (n : Node) (a b c : ℕ) → a ≡ n.a → b ≡ n.b → c ≡ n.c → ◌≡◌ {A = Node} (record { op = n.op; sym = n.sym; a = a; b = b; c = c }) n
  alike n a b c p q r = λ i. record { op = n.op; sym = n.sym; a = p i; b = q i; c = r i }

  zero_first : (k : ℕ) (ks : List ℕ) → all (eqb 0) (k ∷ ks) ≡ true → 0 ≡ k
  zero_first k ks e = eqb-true 0 k (and_left (eqb 0 k) (all (eqb 0) ks) e)

  zero_rest : (k : ℕ) (ks : List ℕ) → all (eqb 0) (k ∷ ks) ≡ true → all (eqb 0) ks ≡ true
  zero_rest k ks e = and_right (eqb 0 k) (all (eqb 0) ks) e

  itself : (o : Option (List Sort)) (n : Node) → ((x : ℕ) → In x (take (count_of o) (fields_of n)) → img x ≡ x) → fits E o (fields_of n) ≡ true → renamed o n ≡ n
  itself none n f e = absurd (false≢true e)
  itself (some []) n f e =
      let e' = zero_rest n.a (n.b ∷ n.c ∷ []) e in
      alike n 0 0 0 (zero_first n.a (n.b ∷ n.c ∷ []) e) (zero_first n.b (n.c ∷ []) e') (zero_first n.c [] (zero_rest n.b (n.c ∷ []) e'))
  itself (some (s ∷ [])) n f e =
      let e' = operands_rest E s [] n.a (n.b ∷ n.c ∷ []) e in
      alike n (img n.a) 0 0 (f n.a (in_here n.a [])) (zero_first n.b (n.c ∷ []) e') (zero_first n.c [] (zero_rest n.b (n.c ∷ []) e'))
  itself (some (s ∷ s' ∷ [])) n f e =
      let e'' = operands_rest E s' [] n.b (n.c ∷ []) (operands_rest E s (s' ∷ []) n.a (n.b ∷ n.c ∷ []) e) in
      alike n (img n.a) (img n.b) 0 (f n.a (in_here n.a (n.b ∷ []))) (f n.b (in_later n.b n.a (n.b ∷ []) (in_here n.b [])))
      (zero_first n.c [] e'')
  itself (some (s ∷ s' ∷ s'' ∷ [])) n f e =
      alike n (img n.a) (img n.b) (img n.c) (f n.a (in_here n.a (n.b ∷ n.c ∷ [])))
      (f n.b (in_later n.b n.a (n.b ∷ n.c ∷ []) (in_here n.b (n.c ∷ []))))
      (f n.c (in_later n.c n.a (n.b ∷ n.c ∷ []) (in_later n.c n.b (n.c ∷ []) (in_here n.c []))))
  itself (some (s ∷ s' ∷ s'' ∷ s''' ∷ ss)) n f e =
      absurd
      (false≢true
      (operands_rest E s'' (s''' ∷ ss) n.c []
      (operands_rest E s' (s'' ∷ s''' ∷ ss) n.b (n.c ∷ []) (operands_rest E s (s' ∷ s'' ∷ s''' ∷ ss) n.a (n.b ∷ n.c ∷ []) e))))

module _ (symbols : List ℕ) (t : List Node) (right : first_wrong symbols [] t ≡ none) (some_nodes : 0 < length t) (used : AllUsed symbols t (length t - 1)) where
  abbrev rs : List ℕ
  rs = reached symbols t

  all_reached : rs ≡ count_from 0 (length t)
  all_reached =
      let sc = scan symbols t right some_nodes in
      run_of (length t) 0 rs sc.rising (λ j i. (let l = sc.below j i in omega arith))
      (λ j l h. used_in symbols t right some_nodes used (length t) j (omega arith) (omega arith))

  reached_at : (i : ℕ) → i < length t → get_or rs i 0 ≡ i
  reached_at i h =
      let e = get_d_run (length t) 0 i h in
      ap (λ (xs : List ℕ). get_or xs i 0) all_reached ∙ (let q : get_or (count_from 0 (length t)) i 0 ≡ i = omega arith in q)

  reached_length : length rs ≡ length t
  reached_length = ap length all_reached ∙ length_run (length t) 0

  own_number : (k : ℕ) → k < length t → number_in rs k ≡ k
  own_number k h =
      let l = reached_length in
      ap (number_in rs) (sym (reached_at k h)) ∙ number_of_lem 0 rs (scan symbols t right some_nodes).rising k (omega arith)

  pub trimmed_whole : trimmed symbols t ≡ t
  trimmed_whole =
      let lt = length_trimmed symbols t right in
      let lr = reached_length in
      ext_get_or no_node (trimmed symbols t) t (omega arith)
      (λ i h.
      let l : i < length t = omega arith in
      trimmed_at symbols t right i (omega arith)
      ∙ ap (λ (k : ℕ). renumbered symbols rs (node t k)) (reached_at i l)
      ∙ itself (take i t) (number_in rs) (sorts_of symbols (node t i)) (node t i)
      (λ x e.
      own_number x
      (let b = below_in i (operands_of symbols (node t i)) x (earlier symbols t right i l) e in omega arith))
      (right_fits symbols (take i t) (node t i) (right_at_lem symbols t i right l)))

-- a rising list of as many numbers as there are below n has them all
rising_room : (n lo : ℕ) (xs : List ℕ) → Rising lo xs → ((j : ℕ) → In j xs → j < n) → lo ≤ n → lo + length xs ≤ n
rising_room n lo [] r b h = omega arith
rising_room n lo (x ∷ xs) r b h =
    let l = r.0 in
    let here = b x (in_here x xs) in
    let rest = rising_room n (suc x) xs r.1 (λ j i. b j (in_later j x xs i)) (omega arith) in
    omega arith

rising_full : (n lo : ℕ) (xs : List ℕ) → Rising lo xs → ((j : ℕ) → In j xs → j < n) → lo + length xs ≡ n → (k : ℕ) → lo ≤ k → k < n → In k xs
rising_full n lo [] r b e k l h = absurd (omega arith)
rising_full n lo (x ∷ xs) r b e k l h =
    let low = r.0 in
    let here = b x (in_here x xs) in
    let later : (j : ℕ) → In j xs → j < n = λ j i. b j (in_later j x xs i) in
    let rest = rising_room n (suc x) xs r.1 later (omega arith) in
    elim (split k (suc x)) [
      | inl p ↦ subst (λ (y : ℕ). In k (y ∷ xs)) (let q : k ≡ x = omega arith in q) (in_here k xs)
      | inr p ↦ in_later k x xs (rising_full n (suc x) xs r.1 later (omega arith) k p h)
    ]

-- so where a root reaches as many nodes as there are, it is the last, and all the others are used
pub reached_all : (s : List ℕ) (root : ℕ) → Named s root → length (reached (symbols_of s) (take (suc root) (nodes_of s))) ≡ length (nodes_of s)
    → (length (nodes_of s) ≡ suc root) × AllUsed (symbols_of s) (nodes_of s) root
reached_all s root ok counts =
    let symbols = symbols_of s in
    let t : List Node = nodes_of s in
    let cut : List Node = take (suc root) t in
    let inside = ok.is_node in
    let cut_length : length cut ≡ suc root = length-take-le (suc root) t (omega arith) in
    let few = reached_few symbols cut (cut_right s root ok) root cut_length in
    let ends : length t ≡ suc root = omega arith in
    let last : length t - 1 ≡ root = omega arith in
    let same : cut ≡ t = take_all (suc root) t (omega arith) in
    let sc = scan symbols t ok.table.nodes_right (omega arith) in
    let long : length (reached symbols t) ≡ length t = ap (λ (u : List Node). length (reached symbols u)) (sym same) ∙ counts in
    let all : (k : ℕ) → k < length t → In k (reached symbols t) =
    λ k h.
    rising_full (length t) 0 (reached symbols t) sc.rising sc.below (let z : 0 + length (reached symbols t) ≡ length t = omega arith in z) k
    (omega arith) h
    in (
      ends,
      λ k h.
          elim (sc.used k (all k h)) [
            | inl w ↦ inl (in_one k (length t - 1) w ∙ last)
            | inr w ↦ inr (w.0, w.1, sc.below w.0 w.2, w.3)
          ],
    )

-- the nodes of the problem asked are those that the root reaches in the ORIGINAL table
module _ (s : List ℕ) (root : ℕ) (ok : Named s root) where
  abbrev y : List ℕ
  y = symbols_of s

  abbrev cut : List Node
  cut = take (suc root) (nodes_of s)

  same_node : (j : ℕ) → j ≤ root → node cut j ≡ node (nodes_of s) j
  same_node j h = get_or-take (suc root) (nodes_of s) j no_node (omega arith)

  lower : (j o : ℕ) → j ≤ root → any (eqb o) (operands_of y (node (nodes_of s) j)) ≡ true → o ≤ root
  lower j o h u =
      let l = ok.is_node in
      let b = below_in j (operands_of y (node (nodes_of s) j)) o (earlier y (nodes_of s) ok.table.nodes_right j (omega arith)) u in
      omega arith

  out_of : {k : ℕ} → From y cut root k → (k ≤ root) × From y (nodes_of s) root k
  out_of start = (omega arith, start)
  out_of (step {j} {o} f u) =
      let r = out_of f in
      let v = subst (λ (n : Node). any (eqb o) (operands_of y n) ≡ true) (same_node j r.0) u in
      (lower j o r.0 v, step r.1 v)

  into : {k : ℕ} → From y (nodes_of s) root k → (k ≤ root) × From y cut root k
  into start = (omega arith, start)
  into (step {j} {o} f u) =
      let r = into f in
      (lower j o r.0 u, step r.1 (subst (λ (n : Node). any (eqb o) (operands_of y n) ≡ true) (sym (same_node j r.0)) u))

  pub asked_exactly : (k : ℕ) → In k (reached y cut) ↔ From y (nodes_of s) root k
  asked_exactly k =
      let l = ok.is_node in
      let c : length cut ≡ suc root = length-take-le (suc root) (nodes_of s) (omega arith) in
      let last : length cut - 1 ≡ root = omega arith in
      let e = reached_exactly y cut (cut_right s root ok) (omega arith) k in (
        λ i. (out_of (subst (λ (r : ℕ). From y cut r k) last (e.0 i))).1,
        λ f. e.1 (subst (λ (r : ℕ). From y cut r k) (sym last) (into f).1),
      )
