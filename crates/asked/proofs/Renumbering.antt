-- A node renumbered, field by field; and the reached nodes laid in order, each with the numbers of those before it. Assumes nothing.
use mathlib.Core.Path.{◌≡◌, refl, sym, ap, ap₂, ◌∙◌, subst}
use Prim.Native.Nat.{ℕ, zero, suc, ◌+◌, ◌≤◌, ◌<◌}
use native.Mathlib.Omega.{arith}
use mathlib.Core.Bool.{Bool, true, false, cond}
use mathlib.Core.Logic.{inl, inr}
use mathlib.Core.Option.{none}
use mathlib.Core.List.{List, [], ◌∷◌, map}
use lib.ListN.{length, get_or, set, take, length-map, length-set, get_or-eq_default}
use lib.Seq.{take_all, take-suc, get_or-take, length-take-le, get_or-set_same, get_or-set_other}
use lib.Dec.{ltb}
use borrow.Author.Tests.{ltb-true, ltb-false}
use Rattle.definitions.specs.Lists.{snoc}
use Rattle.definitions.specs.Problem.Node.{Node, node, no_node, table_bytes}
use Rattle.definitions.specs.Problem.Ops.{operands_of, sorts_of, count_of, fields_of}
use Rattle.definitions.specs.Problem.Check.{symbol_count, node_count, symbols_of, nodes_of, first_wrong}
use Rattle.definitions.specs.Problem.Asked.{number_in, renumbered}
use Rattle.definitions.specs.Operations.Buffers.{over}
use Rattle.theorems.proofs.Accepted.{Layout, length_nodes_at}
use Rattle.theorems.proofs.Laws.Tests.{split}
use Rattle.theorems.proofs.Laws.Ops.{AllBelow}
use Rattle.theorems.proofs.Asked.Reach.{In, in_here, in_later}
use Rattle.theorems.proofs.Asked.Numbers.{none_below, count}
use Rattle.theorems.proofs.Asked.Trimmed.{earlier, scan, length_trimmed, reached_few, reached_number, trimmed_of}
use Rattle.theorems.proofs.Asked.Marks.{mark, one, number_next}
use Rattle.theorems.proofs.Asked.Formed.{Named, cut_right}
use Rattle.problem.specs.Lays.{Lays}
use Rattle.asked.specs.Reached.{operands_at, reached_of}
use Rattle.asked.specs.Trimming.{renamed, trim_of}
use Rattle.asked.proofs.Operands.{uses_length, operand_earlier}

map_at : (f : ℕ → ℕ) (xs : List ℕ) (j : ℕ) → j < length xs → get_or (map f xs) j 0 ≡ f (get_or xs j 0)
map_at f [] j h = absurd (omega arith)
map_at f (x ∷ xs) zero h = refl
map_at f (x ∷ xs) (suc j) h = map_at f xs j (omega arith)

module _ {s : List ℕ} (l : Layout s) (k : ℕ) (here : k < node_count s) where
  abbrev n : Node
  n = node (nodes_of s) k

  abbrev ops : List ℕ
  ops = operands_at s k

  abbrev used : ℕ
  used = count_of (sorts_of (symbols_of s) n)

  -- operand j is a number of one byte
  pub operand_small : (j : ℕ) → ltb j used ≡ true → get_or (fields_of n) j 0 < 256
  operand_small j t =
      let long = uses_length l k here in
      let i : j < length ops = (let b = ltb-true j used t in omega arith) in
      let few = l.few_nodes in
      let x = operand_earlier l k here j i in
      let y = get_or-take used (fields_of n) j 0 (ltb-true j used t) in
      omega arith

  -- its number, where the field is in use
  pub operand_renamed : (numbers : List ℕ) (j : ℕ)
      → cond (ltb j used) (get_or numbers (get_or (fields_of n) j 0) 0) 0 ≡ get_or (map (λ o. get_or numbers o 0) ops) j 0
  operand_renamed numbers j = go (ltb j used) refl
    where
      go : (b : Bool) → ltb j used ≡ b → cond b (get_or numbers (get_or (fields_of n) j 0) 0) 0 ≡ get_or (map (λ o. get_or numbers o 0) ops) j 0
      go true t =
          let long = uses_length l k here in
          let i : j < length ops = (let b = ltb-true j used t in omega arith) in
          ap (λ (o : ℕ). get_or numbers o 0) (sym (get_or-take used (fields_of n) j 0 (ltb-true j used t)))
          ∙ sym (map_at (λ o. get_or numbers o 0) ops j i)
      go false t =
          let long = uses_length l k here in
          let past : length (map (λ o. get_or numbers o 0) ops) ≤ j =
          (let b = ltb-false j used t in let m = length-map ops (λ o. get_or numbers o 0) in omega arith)
          in
          sym (get_or-eq_default (map (λ o. get_or numbers o 0) ops) 0 past)

  -- of the node as it is read
  module _ (m : Node) (e : m ≡ n) (u : ℕ) (is : u ≡ count_of (sorts_of (symbols_of s) m)) where
    counted : u ≡ used
    counted = is ∙ ap (λ (x : Node). count_of (sorts_of (symbols_of s) x)) e

    pub read_small : (j : ℕ) → ltb j u ≡ true → get_or (fields_of m) j 0 < 256
    read_small j t =
        subst (λ (x : Node). get_or (fields_of x) j 0 < 256) (sym e) (operand_small j (sym (ap (ltb j) counted) ∙ t))

    read_renamed : (numbers : List ℕ) (j x : ℕ) → x ≡ cond (ltb j u) (get_or numbers (get_or (fields_of m) j 0) 0) 0
        → x ≡ get_or (map (λ o. get_or numbers o 0) ops) j 0
    read_renamed numbers j x p =
        p ∙ ap₂ (λ (v : ℕ) (y : Node). cond (ltb j v) (get_or numbers (get_or (fields_of y) j 0) 0) 0) counted e ∙ operand_renamed numbers j

    pub node_renamed : (numbers : List ℕ) (a b c : ℕ) → a ≡ cond (ltb 0 u) (get_or numbers m.a 0) 0
        → b ≡ cond (ltb 1 u) (get_or numbers m.b 0) 0 → c ≡ cond (ltb 2 u) (get_or numbers m.c 0) 0
        → ◌≡◌ {A = Node} (record { op = m.op; sym = m.sym; a = a; b = b; c = c }) (renamed numbers s k)
    node_renamed numbers a b c p q r =
        λ i. record {
          op = (e i).op;
          sym = (e i).sym;
          a = read_renamed numbers 0 a p i;
          b = read_renamed numbers 1 b q i;
          c = read_renamed numbers 2 c r i;
        }

-- before node k is looked at: each node below k has its number, and those of them that are reached are laid
pub record Laying (s : List ℕ) (root : ℕ) (nodes₀ nodes numbers : List ℕ) (count k : ℕ) : Type 0 where
  pub within : k ≤ suc root
  pub few : count ≤ k
  pub counted : count ≡ number_in (reached_of s root) k
  pub numbered : (j : ℕ) → j < k → get_or numbers j 0 ≡ number_in (reached_of s root) j
  pub long : length numbers ≡ 256
  pub kept : length nodes ≡ length nodes₀
  pub laid : nodes ≡ over (table_bytes (take count (trim_of s root))) nodes₀

-- two ways to number that agree below m
map_same : (f g : ℕ → ℕ) (m : ℕ) → ((o : ℕ) → o < m → f o ≡ g o) → (xs : List ℕ) → AllBelow m xs → map f xs ≡ map g xs
map_same f g m e [] b = refl
map_same f g m e (x ∷ xs) b = ap₂ {C = List ℕ} (λ (y : ℕ) (ys : List ℕ). y ∷ ys) (e x b.0) (map_same f g m e xs b.1)

-- all are below k
number_all : (xs : List ℕ) (k : ℕ) → ((j : ℕ) → In j xs → j < k) → number_in xs k ≡ length xs
number_all [] k f = refl
number_all (x ∷ xs) k f = count x xs k (f x (in_here x xs)) ∙ ap suc (number_all xs k (λ j i. f j (in_later j x xs i)))

pub marked_true : (b : Bool) (x : ℕ) → x ≡ cond b 1 0 → x ≡ 1 → b ≡ true
marked_true true x e o = refl
marked_true false x e o = absurd (omega arith)

pub marked_false : (b : Bool) (x : ℕ) → x ≡ cond b 1 0 → (x ≡ 1 → ⊥) → b ≡ false
marked_false true x e o = absurd (o e)
marked_false false x e o = refl

module _ {s : List ℕ} {root : ℕ} (ok : Named s root) where
  abbrev symbols : List ℕ
  symbols = symbols_of s

  abbrev cut : List Node
  cut = take (suc root) (nodes_of s)

  abbrev r : List ℕ
  r = reached_of s root

  right : first_wrong symbols [] cut ≡ none
  right = cut_right s root ok

  cut_length : length cut ≡ suc root
  cut_length = let h = ok.is_node in length-take-le (suc root) (nodes_of s) (omega arith)

  root_small : root < 256
  root_small =
      let h = ok.is_node in
      let n = ok.table.few_nodes in
      let e = length_nodes_at s (8 + symbol_count s) (node_count s) in
      omega arith

  pub laying_begins : (nodes numbers : List ℕ) → length numbers ≡ 256 → Laying s root nodes nodes numbers 0 0
  laying_begins nodes numbers l =
      record {
        within = omega arith;
        few = omega arith;
        counted = sym (none_below 0 r 0 (scan symbols cut right).rising (omega arith));
        numbered = λ j h. absurd (omega arith);
        long = l;
        kept = refl;
        laid = refl;
      }

  -- one number more
  numbers_next : (numbers : List ℕ) (count k : ℕ) → k < length numbers → count ≡ number_in r k
      → ((j : ℕ) → j < k → get_or numbers j 0 ≡ number_in r j) → (j : ℕ) → j < k + 1 → get_or (set numbers k count) j 0 ≡ number_in r j
  numbers_next numbers count k l e f j h =
      elim (split j k) [
        | inl p ↦ get_or-set_other numbers k j count 0 (λ q. omega arith) ∙ f j p
        | inr p ↦
            let q : j ≡ k = omega arith in
            ap (λ (i : ℕ). get_or (set numbers k count) i 0) q ∙ get_or-set_same numbers k count 0 l ∙ e ∙ ap (number_in r) (sym q)
      ]

  -- what stands at the number of a reached node
  node_next : (numbers : List ℕ) (k : ℕ) → k ≤ root → In k r → ((j : ℕ) → j < k → get_or numbers j 0 ≡ number_in r j)
      → node (trim_of s root) (number_in r k) ≡ renamed numbers s k
  node_next numbers k h i f =
      let n = node (nodes_of s) k in
      let is : node cut k ≡ n = get_or-take (suc root) (nodes_of s) k no_node (omega arith) in
      let lower = earlier symbols cut right k (let c = cut_length in omega arith) in
      let low : AllBelow k (operands_at s k) = subst (λ (m : Node). AllBelow k (operands_of symbols m)) is lower in
      trimmed_of symbols cut right k i ∙ ap (renumbered symbols r) is
      ∙ ap (λ (ks : List ℕ). record { op = n.op; sym = n.sym; a = get_or ks 0 0; b = get_or ks 1 0; c = get_or ks 2 0 })
      (map_same (number_in r) (λ o. get_or numbers o 0) k (λ o b. sym (f o b)) (operands_at s k) low)

  module _ {nodes₀ nodes numbers : List ℕ} {count k : ℕ} (v : Laying s root nodes₀ nodes numbers count k) (h : k ≤ root) where
    next : number_in r (k + 1) ≡ number_in r k + one (mark r k)
    next =
        ap (number_in r) (let e : k + 1 ≡ suc k = omega arith in e) ∙ number_next 0 r (scan symbols cut right).rising k

    more : (j : ℕ) → j < k + 1 → get_or (set numbers k count) j 0 ≡ number_in r j
    more = numbers_next numbers count k (let l = v.long in let b = root_small in omega arith) v.counted v.numbered

    -- node k is reached: it is laid with its operands renumbered
    pub laying_marked : (nodes' : List ℕ) → In k r → Lays nodes nodes' count (count + 1) (λ t. snoc t (renamed (set numbers k count) s k))
        → length nodes' ≡ length nodes → Laying s root nodes₀ nodes' (set numbers k count) (count + 1) (k + 1)
    laying_marked nodes' i laid same =
        let t = trim_of s root in
        let step = next in
        let one_more_lem = ap one i in
        let f = v.few in
        let c = v.counted in
        let fits : count < length t =
        (let a = length_trimmed symbols cut right in let b = (reached_number symbols cut right k i).0 in omega arith)
        in
        let is : node t count ≡ renamed (set numbers k count) s k =
        ap (node t) c ∙ node_next (set numbers k count) k h i (λ j b. more j (omega arith))
        in
        let whole : snoc (take count t) (renamed (set numbers k count) s k) ≡ take (count + 1) t =
        sym
        (ap (λ (m : ℕ). take m t) (let e : count + 1 ≡ suc count = omega arith in e)
        ∙ take-suc t count no_node fits
        ∙ ap (snoc (take count t)) is)
        in
        record {
          within = omega arith;
          few = omega arith;
          counted = omega arith;
          numbered = more;
          long = length-set numbers k count ∙ v.long;
          kept = same ∙ v.kept;
          laid =
              laid.lays (take count t) nodes₀ (length-take-le count t (omega arith)) v.laid
              ∙ ap (λ (u : List Node). over (table_bytes u) nodes₀) whole;
        }

    -- node k is not reached
    pub laying_passed : mark r k ≡ false → Laying s root nodes₀ nodes (set numbers k count) count (k + 1)
    laying_passed away =
        let step = next in
        let None-more = ap one away in
        let f = v.few in
        let c = v.counted in
        record {
          within = omega arith;
          few = omega arith;
          counted = omega arith;
          numbered = more;
          long = length-set numbers k count ∙ v.long;
          kept = v.kept;
          laid = v.laid;
        }

  pub laying_ends : {nodes₀ nodes numbers : List ℕ} {count k : ℕ} → Laying s root nodes₀ nodes numbers count k → root < k
      → nodes ≡ over (table_bytes (trim_of s root)) nodes₀
  laying_ends {nodes₀} {count = count} {k} v h =
      let t = trim_of s root in
      let w = v.within in
      let e = cut_length in
      let all = number_all r k (λ j i. let b = (scan symbols cut right).below j i in omega arith) in
      let l = length_trimmed symbols cut right in
      let c = v.counted in
      v.laid ∙ ap (λ (u : List Node). over (table_bytes u) nodes₀) (take_all count t (omega arith))

  pub reached_few_of : length r ≤ 256
  reached_few_of = let a = reached_few symbols cut right root cut_length in let b = root_small in omega arith
