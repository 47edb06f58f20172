-- Each of the thirteen refusals comes exactly on its condition, in the order tried (01, demand 1; 02, E2): what decide's definition
-- refuses, against the conditions as facts of the input. Assumes nothing.
use mathlib.Core.Path.{◌≡◌, refl, sym, ap, ◌∙◌, subst}
use Prim.Native.Nat.{ℕ, zero, suc, pred, ◌+◌, ◌*◌, ◌^◌, ◌≤◌, ◌<◌}
use native.Mathlib.Omega.{arith}
use native.Mathlib.Nat.{min-le_left}
use mathlib.Core.Bool.{Bool, true, false, not, ◌||◌}
use mathlib.Core.List.{List, [], ◌∷◌, ◌++◌}
use mathlib.Core.Logic.{◌↔◌, inl, inr}
use mathlib.Core.Option.{Option, none, some}
use lib.ListN.{length, get_or, take, drop, length-take}
use lib.Seq.{get_or-take}
use lib.Dec.{eqb, leb, ltb}
use borrow.Author.Tests.{ltb-true, leb-true, le-leb, eqb-true, eqb-false, not-true, lt-ltb, eq-eqb, ne_eqb}
use Rattle.definitions.specs.Lists.{first_of, first_failing}
use Rattle.definitions.specs.Bytes.{two_at, EQP}
use Rattle.definitions.specs.Problem.Node.{node}
use Rattle.definitions.specs.Problem.Check.{
  symbol_count,
  node_count,
  symbols_of,
  nodes_of,
  stands,
  symbol_byte_right,
  first_wrong,
  is_term,
  functions_in,
  predicates_in,
  Refused,
  refuse,
  refuse_if,
  refuse_at,
}
use Rattle.definitions.specs.Problem.Asked.{asked, root_wrong, check_conditions, refusal_of}
use Rattle.definitions.specs.Ranges.{product}
use Rattle.definitions.specs.Operations.Answers.{short_work, short_witness, big_product, eliminate_refusal, buffers_refusal, decide_refusal}
use Rattle.definitions.specs.Operations.Readings.{refusal_read}
use Rattle.definitions.specs.declared.Refusal.{Refusal}
use Rattle.definitions.specs.declared.Refusal.TheVariants.{
  TooShort,
  NotEqp,
  BadVersion,
  BadCounts,
  BadLength,
  BadSymbol,
  BadNode,
  ManyFunctions,
  ManyPredicates,
  ShortWork,
  ShortWitness,
  BigProduct,
  WrongToken,
  TooDeep,
  WrongRoot,
  ShortProblem,
}
use Rattle.theorems.specs.Conditions.{Meets, number, place, turn, Refuses, PassesTwelve, Passes}
use Rattle.theorems.proofs.Laws.Tests.{or_cases, or_left, or_right, none≢some, some_same}
use Rattle.theorems.proofs.Laws.First.{AllNone, all_none, first_where, none_at, there_below, first_append}
use Rattle.theorems.proofs.Laws.Scans.{failing_first, wrong_first}
use Rattle.theorems.proofs.Accepted.{length_nodes_at}
use Rattle.theorems.proofs.Unique.{refusal_apart}

-- the conditions that lay the table, and all of them, in the order tried
abbrev twelve : List ℕ → ℕ → ℕ → ℕ → List (Option Refused)
twelve s root work room = check_conditions s root ++ (short_work work ∷ short_witness room ∷ [])

abbrev thirteen : List ℕ → ℕ → ℕ → ℕ → List (Option Refused)
thirteen s root work room = twelve s root work room ++ (big_product (asked s root) ∷ [])

if_some : (b : Bool) (n : ℕ) (q : Refused) → refuse_if b n ≡ some q → (b ≡ true) × (refuse n 0 ≡ q)
if_some true n q e = (refl, some_same (refuse n 0) q e)
if_some false n q e = absurd (none≢some e)

at_some : (o : Option ℕ) (n : ℕ) (q : Refused) → refuse_at o n ≡ some q → (k : ℕ) × (o ≡ some k) × (refuse n k ≡ q)
at_some (some k) n q e = (k, refl, some_same (refuse n k) q e)
at_some none n q e = absurd (none≢some e)

module _ (s : List ℕ) (root work room : ℕ) where
  abbrev symbols : Bool
  symbols = ltb 32 (symbol_count s)

  abbrev none_there : Bool
  none_there = eqb (node_count s) 0

  abbrev wanted : ℕ
  wanted = 8 + symbol_count s + 8 * node_count s

  -- condition 4 is three tests in one
  met_counts : Meets s root work room BadCounts → symbols || none_there || ltb 256 (node_count s) ≡ true
  met_counts (inl h) = or_left (symbols || none_there) (ltb 256 (node_count s)) (or_left symbols none_there (lt-ltb 32 (symbol_count s) h))
  met_counts (inr (inl h)) =
      or_left (symbols || none_there) (ltb 256 (node_count s)) (or_right symbols none_there (eq-eqb (node_count s) 0 h))
  met_counts (inr (inr h)) = or_right (symbols || none_there) (ltb 256 (node_count s)) (lt-ltb 256 (node_count s) h)

  counts : symbols || none_there || ltb 256 (node_count s) ≡ true → Meets s root work room BadCounts
  counts e =
      elim (or_cases (symbols || none_there) (ltb 256 (node_count s)) e) [
        | inl l ↦
            elim (or_cases symbols none_there l) [
              | inl h ↦ inl (ltb-true 32 (symbol_count s) h)
              | inr h ↦ inr (inl (eqb-true (node_count s) 0 h))
            ]
        | inr h ↦ inr (inr (ltb-true 256 (node_count s) h))
      ]

  -- and 16 is two
  met_root : Meets s root work room WrongRoot → root_wrong (nodes_of s) root ≡ true
  met_root (inl h) = or_left (leb (length (nodes_of s)) root) (is_term (node (nodes_of s) root)) (le-leb (length (nodes_of s)) root h)
  met_root (inr h) = or_right (leb (length (nodes_of s)) root) (is_term (node (nodes_of s) root)) h

  root_wrong_lem : root_wrong (nodes_of s) root ≡ true → Meets s root work room WrongRoot
  root_wrong_lem e =
      elim (or_cases (leb (length (nodes_of s)) root) (is_term (node (nodes_of s) root)) e) [
        | inl h ↦ inl (leb-true (length (nodes_of s)) root h)
        | inr h ↦ inr h
      ]

  -- what is met refuses, in its place of the order
  met_refuses : (x : Refusal) → Meets s root work room x → get_or (thirteen s root work room) (pred (turn x)) none ≡ some (refusal_read x)
  met_refuses TooShort m = ap (λ b. refuse_if b 1) (lt-ltb (length s) 8 m)
  met_refuses NotEqp m = ap (λ b. refuse_if (not b) 2) m
  met_refuses BadVersion m = ap (λ b. refuse_if (not b) 3) (ne_eqb (two_at s 3) 1 m)
  met_refuses BadCounts m = ap (λ b. refuse_if b 4) (met_counts m)
  met_refuses BadLength m = ap (λ b. refuse_if (not b) 5) (ne_eqb (length s) wanted m)
  met_refuses (BadSymbol k) m = ap (λ o. refuse_at o 6) ((failing_first symbol_byte_right (symbols_of s) 0 k).1 m)
  met_refuses (BadNode k) m = ap (λ o. refuse_at o 7) ((wrong_first (symbols_of s) (nodes_of s) k).1 m)
  met_refuses WrongRoot m = ap (λ b. refuse_if b 16) (met_root m)
  met_refuses ManyFunctions m = ap (λ b. refuse_if b 9) (lt-ltb 24 (functions_in (nodes_of (asked s root))) m)
  met_refuses ManyPredicates m = ap (λ b. refuse_if b 10) (lt-ltb 16 (predicates_in (nodes_of (asked s root))) m)
  met_refuses ShortWork m = ap (λ b. refuse_if b 11) (lt-ltb work 21056 m)
  met_refuses ShortWitness m = ap (λ b. refuse_if b 12) (lt-ltb room 206 m)
  met_refuses BigProduct m = ap (λ b. refuse_if b 13) (lt-ltb (10 ^ 18) (product (asked s root)) m)
  met_refuses (WrongToken k) m = absurd m
  met_refuses (TooDeep k) m = absurd m
  met_refuses ShortProblem m = absurd m

  -- what refuses with a number is a refusal of that number whose condition is met
  abbrev Named : ℕ → Option Refused → Type 0
  Named n o = (q : Refused) → o ≡ some q → (x : Refusal) × (refusal_read x ≡ q) × (turn x ≡ n) × Meets s root work room x

  infixr 5 ◌then◌
  data AllNamed : ℕ → List (Option Refused) → Type 0 where
    end : {n : ℕ} → AllNamed n []
    ◌then◌ : {n : ℕ} {o : Option Refused} {os : List (Option Refused)} → Named n o → AllNamed (suc n) os → AllNamed n (o ∷ os)

  -- a test that refuses at place 0
  tested : (x : Refusal) (b : Bool) → refusal_read x ≡ refuse (number x) 0 → (b ≡ true → Meets s root work room x)
      → Named (turn x) (refuse_if b (number x))
  tested x b r met q e = let h = if_some b (number x) q e in (x, r ∙ h.1, refl, met h.0)

  -- a scan that refuses at the place found
  scanned : (n : ℕ) (x : ℕ → Refusal) (o : Option ℕ) → ((k : ℕ) → refusal_read (x k) ≡ refuse n k) → ((k : ℕ) → turn (x k) ≡ n)
      → ((k : ℕ) → o ≡ some k → Meets s root work room (x k)) → Named n (refuse_at o n)
  scanned n x o r at met q e =
      let h = at_some o n q e in
      (x h.0, r h.0 ∙ h.2, at h.0, met h.0 h.1)

  all_named : AllNamed 1 (thirteen s root work room)
  all_named =
      tested TooShort (ltb (length s) 8) refl (ltb-true (length s) 8)
      then tested NotEqp (not (stands s 0 EQP)) refl (not-true (stands s 0 EQP))
      then tested BadVersion (not (eqb (two_at s 3) 1)) refl (λ e. eqb-false (two_at s 3) 1 (not-true (eqb (two_at s 3) 1) e))
      then tested BadCounts (symbols || none_there || ltb 256 (node_count s)) refl counts
      then tested BadLength (not (eqb (length s) wanted)) refl (λ e. eqb-false (length s) wanted (not-true (eqb (length s) wanted) e))
      then scanned 6 BadSymbol (first_failing symbol_byte_right 0 (symbols_of s)) (λ k. refl) (λ k. refl)
      (λ k. (failing_first symbol_byte_right (symbols_of s) 0 k).0)
      then scanned 7 BadNode (first_wrong (symbols_of s) [] (nodes_of s)) (λ k. refl) (λ k. refl) (λ k. (wrong_first (symbols_of s) (nodes_of s) k).0)
      then tested WrongRoot (root_wrong (nodes_of s) root) refl root_wrong_lem
      then tested ManyFunctions (ltb 24 (functions_in (nodes_of (asked s root)))) refl (ltb-true 24 (functions_in (nodes_of (asked s root))))
      then tested ManyPredicates (ltb 16 (predicates_in (nodes_of (asked s root)))) refl (ltb-true 16 (predicates_in (nodes_of (asked s root))))
      then tested ShortWork (ltb work 21056) refl (ltb-true work 21056)
      then tested ShortWitness (ltb room 206) refl (ltb-true room 206)
      then tested BigProduct (ltb (10 ^ 18) (product (asked s root))) refl (ltb-true (10 ^ 18) (product (asked s root)))
      then end

  named_at : (n : ℕ) (os : List (Option Refused)) → AllNamed n os → (k : ℕ) → Named (n + k) (get_or os k none)
  named_at n [] end k q e = absurd (none≢some e)
  named_at n (o ∷ os) (x then xs) zero q e = let r = x q e in (r.0, r.1, omega arith, r.3)
  named_at n (o ∷ os) (x then xs) (suc k) q e = let r = named_at (suc n) os xs k q e in (r.0, r.1, omega arith, r.3)

  -- decide's refusal is the first of the thirteen, and the table is laid where the first twelve pass
  buffers_twelve : buffers_refusal s root work room ≡ first_of (twelve s root work room)
  unfolding buffers_refusal eliminate_refusal refusal_of
  buffers_twelve =
      ap (λ (o : Option Refused). first_of (o ∷ short_witness room ∷ [])) (first_append (check_conditions s root) (short_work work ∷ []))
      ∙ first_append (check_conditions s root ++ (short_work work ∷ [])) (short_witness room ∷ [])

  decide_thirteen : decide_refusal s root work room ≡ first_of (thirteen s root work room)
  unfolding decide_refusal
  decide_thirteen =
      ap (λ (o : Option Refused). first_of (o ∷ big_product (asked s root) ∷ [])) buffers_twelve
      ∙ first_append (twelve s root work room) (big_product (asked s root) ∷ [])

  -- what is first is a refusal whose condition is met, and no condition before it refuses
  first_met : (q : Refused) → first_of (thirteen s root work room) ≡ some q
      → (x : Refusal) × (refusal_read x ≡ q) × Meets s root work room x × AllNone (take (pred (turn x)) (thirteen s root work room))
  first_met q e =
      let w = first_where (thirteen s root work room) q e in
      let r = named_at 1 (thirteen s root work room) all_named w.0 q w.1 in
      let k : w.0 ≡ pred (turn r.0) = omega (arith, r.2) in
      (r.0, r.1, r.3, subst (λ (j : ℕ). AllNone (take j (thirteen s root work room))) k w.2)

  -- numbers start from 1
  from_one : (x : Refusal) → Meets s root work room x → 1 ≤ turn x
  from_one x m =
      let r = named_at 1 (thirteen s root work room) all_named (pred (turn x)) (refusal_read x) (met_refuses x m) in
      let e : turn r.0 ≡ turn x = ap turn (refusal_apart r.0 x r.1) in
      omega (arith, r.2)

  -- a condition that is met is not among those that do not refuse
  not_missing : (k : ℕ) (x : Refusal) → pred (turn x) < k → Meets s root work room x → AllNone (take k (thirteen s root work room)) → ⊥
  not_missing k x h m a =
      none≢some
      (sym (none_at (take k (thirteen s root work room)) a (pred (turn x)))
      ∙ get_or-take k (thirteen s root work room) (pred (turn x)) none h
      ∙ met_refuses x m)

  -- no refusal, exactly where the input passes all conditions
  pub passes : (decide_refusal s root work room ≡ none) ↔ Passes s root work room
  passes = (
    λ e x m.
        none≢some
        (sym (none_at (thirteen s root work room) (all_none (thirteen s root work room) (sym decide_thirteen ∙ e)) (pred (turn x)))
        ∙ met_refuses x m),
    λ p. decide_thirteen ∙ go p (first_of (thirteen s root work room)) refl,
  )
    where
      go : Passes s root work room → (o : Option Refused) → first_of (thirteen s root work room) ≡ o → o ≡ none
      go p none e = refl
      go p (some q) e = let r = first_met q e in absurd (p r.0 r.2)

  -- the table is laid exactly where it passes the first twelve
  pub passes_twelve : (buffers_refusal s root work room ≡ none) ↔ PassesTwelve s root work room
  passes_twelve = (
    λ e x l m. not_missing 12 x (omega arith) m (all_none (twelve s root work room) (sym buffers_twelve ∙ e)),
    λ p. buffers_twelve ∙ go p (first_of (twelve s root work room)) refl,
  )
    where
      go : PassesTwelve s root work room → (o : Option Refused) → first_of (twelve s root work room) ≡ o → o ≡ none
      go p none e = refl
      go p (some q) e =
          let w = first_where (twelve s root work room) q e in
          let h = there_below (twelve s root work room) w.0 q w.1 in
          let g = sym (get_or-take 12 (thirteen s root work room) w.0 none h) ∙ w.1 in
          let r = named_at 1 (thirteen s root work room) all_named w.0 q g in
          absurd (p r.0 (omega (arith, r.2)) r.3)

  -- a refusal is one of the thirteen
  pub refusal_named_lem : (q : Refused) → decide_refusal s root work room ≡ some q → (x : Refusal) × (refusal_read x ≡ q)
  refusal_named_lem q e = let r = first_met q (sym decide_thirteen ∙ e) in (r.0, r.1)

  -- and it comes exactly where its condition is the first that is met
  pub refuses : (x : Refusal) → (decide_refusal s root work room ≡ some (refusal_read x)) ↔ Refuses s root work room x
  refuses x = (there, λ r. decide_thirteen ∙ back r (first_of (thirteen s root work room)) refl)
    where
      there : decide_refusal s root work room ≡ some (refusal_read x) → Refuses s root work room x
      there e =
          let r = first_met (refusal_read x) (sym decide_thirteen ∙ e) in
          let same = refusal_apart r.0 x r.1 in
          let before = subst (λ (z : Refusal). AllNone (take (pred (turn z)) (thirteen s root work room))) same r.3 in (
            subst (Meets s root work room) same r.2,
            λ y l m. not_missing (pred (turn x)) y (omega (arith, from_one y m)) m before,
          )

      back : Refuses s root work room x → (o : Option Refused) → first_of (thirteen s root work room) ≡ o → o ≡ some (refusal_read x)
      back r none e = absurd (passes.0 (decide_thirteen ∙ e) x r.0)
      back r (some q) e =
          let z = first_met q e in
          let not_before : turn z.0 < turn x → ⊥ = λ h. r.1 z.0 h z.2 in
          let not_after : turn x < turn z.0 → ⊥ =
          λ h. not_missing (pred (turn z.0)) x (omega (arith, from_one x r.0)) r.0 z.3
          in
          let same : turn z.0 ≡ turn x = omega arith in
          ap some (sym z.1)
          ∙ sym (met_refuses z.0 z.2)
          ∙ ap (λ (n : ℕ). get_or (thirteen s root work room) (pred n) none) same
          ∙ met_refuses x r.0

-- a place is a symbol's number or a node's, of which there are few where 6 and 7 refuse
module _ (s : List ℕ) (root work room : ℕ) where
  pub place_small : (x : Refusal) → Refuses s root work room x → place x < 256
  place_small TooShort r = omega arith
  place_small NotEqp r = omega arith
  place_small BadVersion r = omega arith
  place_small BadCounts r = omega arith
  place_small BadLength r = omega arith
  place_small (BadSymbol k) r =
      let few : 32 < symbol_count s → ⊥ = λ h. r.1 BadCounts (omega arith) (inl h) in
      let within = r.0.within in
      omega (arith, length-take (symbol_count s) (drop 8 s), min-le_left (symbol_count s) (length (drop 8 s)))
  place_small (BadNode k) r =
      let few : 256 < node_count s → ⊥ = λ h. r.1 BadCounts (omega arith) (inr (inr h)) in
      let within = r.0.within in
      omega (arith, length_nodes_at s (8 + symbol_count s) (node_count s))
  place_small ManyFunctions r = omega arith
  place_small ManyPredicates r = omega arith
  place_small ShortWork r = omega arith
  place_small ShortWitness r = omega arith
  place_small BigProduct r = omega arith
  place_small (WrongToken k) r = absurd r.0
  place_small (TooDeep k) r = absurd r.0
  place_small WrongRoot r = omega arith
  place_small ShortProblem r = absurd r.0
