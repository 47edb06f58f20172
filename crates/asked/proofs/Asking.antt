-- What the stages answer: 9 and 10 on the problem asked, 16 on the root, and whether everything is reached. Assumes nothing.
use mathlib.Core.Path.{◌≡◌, refl, sym, ap, ap₂, ◌∙◌}
use Prim.Native.Nat.{ℕ, ◌-◌, ◌≤◌, ◌<◌}
use native.Mathlib.Omega.{arith}
use mathlib.Core.Bool.{Bool, true, false, ◌||◌}
use mathlib.Core.List.{List, [], ◌∷◌}
use mathlib.Core.Option.{Option, some}
use lib.ListN.{length}
use lib.Dec.{ltb, leb}
use borrow.Author.Tests.{lt-ltb, le-ltb, le-leb, lt-leb}
use Rattle.definitions.specs.Lists.{first_of}
use Rattle.definitions.specs.Problem.Node.{node}
use Rattle.definitions.specs.Problem.Check.{node_count, nodes_of, is_term, functions_in, predicates_in, Refused, refuse, refuse_if, layout_conditions, layout_refusal}
use Rattle.definitions.specs.Problem.Asked.{asked, root_wrong, limit_conditions, limit_refusal, ask_conditions, ask_refusal, refusal_of}
use Rattle.definitions.specs.Operations.Answers.{Answer, refused, given, unless, Counts, counts, check_answer}
use Rattle.definitions.specs.Operations.Readings.{refusal_read}
use Rattle.definitions.specs.Operations.Promises.{CheckPromise}
use Rattle.std.specs.Prelude.{Result, Err}
use Rattle.definitions.specs.declared.Counts as declared
use Rattle.definitions.specs.declared.Refusal.{Refusal}
use Rattle.theorems.proofs.Laws.First.{first_none, first_append}
use Rattle.theorems.proofs.Accepted.{Layout, layout_none, Formed}
use Rattle.theorems.specs.Asking.{Asks}
use Rattle.theorems.proofs.Asked.Formed.{Named, named_none, ask_by}
use Rattle.theorems.proofs.Asked.Whole.{reached_all}
use Rattle.theorems.proofs.Asked.SameBytes.{AllBytes, asked_same}
use Rattle.theorems.proofs.Asked.Asks.{asks_check}
use Rattle.problem.specs.Stages.{RefusedBy}
use Rattle.problem.proofs.NodeLaws.{length_nodes_of}
use Rattle.asked.specs.Reached.{Reaching}
use Rattle.asked.specs.Asking.{Counted}

-- 9 and 10, on counts that have been made
module _ (a : List ℕ) {f : ℕ} (functions : f ≡ functions_in (nodes_of a)) where
  by_counts : (x y : Bool) → ltb 24 f ≡ x → ltb 16 (predicates_in (nodes_of a)) ≡ y
      → limit_refusal a ≡ first_of (refuse_if x 9 ∷ refuse_if y 10 ∷ [])
  unfolding limit_refusal
  by_counts x y p q = ap₂ (λ (b c : Bool). first_of (refuse_if b 9 ∷ refuse_if c 10 ∷ [])) (ap (ltb 24) (sym functions) ∙ p) q

  abbrev Says : Answer Counts → Type 0
  Says r = r ≡ unless (limit_refusal a) (counts a)

  pub many_functions : 24 < f → Says (refused (refuse 9 0))
  many_functions h = sym (ap (λ o. unless o (counts a)) (by_counts true (ltb 16 (predicates_in (nodes_of a))) (lt-ltb 24 f h) refl))

  module _ (few : f ≤ 24) {p : ℕ} (predicates : p ≡ predicates_in (nodes_of a)) where
    pub many_predicates : 16 < p → Says (refused (refuse 10 0))
    many_predicates h =
        sym (ap (λ o. unless o (counts a)) (by_counts false true (le-ltb 24 f few) (ap (ltb 16) (sym predicates) ∙ lt-ltb 16 p h)))

    pub within_limits_lem : p ≤ 16 → Says (given (record { functions = f; predicates = p }))
    within_limits_lem h =
        sym
        (ap (λ o. unless o (counts a)) (by_counts false false (le-ltb 24 f few) (ap (ltb 16) (sym predicates) ∙ le-ltb 16 p h))
        ∙ ap₂ (λ (m n : ℕ). given (record { functions = m; predicates = n })) (sym functions) (sym predicates))

-- the table is refused
pub table_refused : (root : ℕ) (s : List ℕ) (r : Refusal) → RefusedBy s r → ask_refusal s root ≡ some (refusal_read r)
table_refused root s r e =
    ask_by s root ∙ ap (λ (o : Option Refused). first_of (o ∷ refuse_if (root_wrong (nodes_of s) root) 16 ∷ [])) e

-- the table is not, and the root is
module _ (root : ℕ) {s : List ℕ} (l : Layout s) where
  wrong : root_wrong (nodes_of s) root ≡ true → ask_refusal s root ≡ some (refuse 16 0)
  unfolding layout_refusal
  wrong e =
      ask_by s root
      ∙ ap₂ {C = Option Refused} (λ (o : Option Refused) (b : Bool). first_of (o ∷ refuse_if b 16 ∷ []))
      (first_none (layout_conditions s) (layout_none s l)) e

  pub no_node : node_count s ≤ root → ask_refusal s root ≡ some (refuse 16 0)
  no_node b = wrong (ap (λ (x : Bool). x || is_term (node (nodes_of s) root)) (le-leb (length (nodes_of s)) root (omega (arith, length_nodes_of s))))

  module _ (inside : root < node_count s) where
    among : leb (length (nodes_of s)) root ≡ false
    among = lt-leb (length (nodes_of s)) root (omega (arith, length_nodes_of s))

    pub no_formula : is_term (node (nodes_of s) root) ≡ true → ask_refusal s root ≡ some (refuse 16 0)
    no_formula e = wrong (ap₂ (λ (x y : Bool). x || y) among e)

    pub is_named : is_term (node (nodes_of s) root) ≡ false → Named s root
    is_named e = record { table = l; is_node = omega (arith, length_nodes_of s); is_formula = e }

-- a root that reaches as many nodes as there are
pub whole_asked : {root : ℕ} {s : List ℕ} → Named s root → {marks : List ℕ} {count : ℕ} → AllBytes s → Reaching s root marks count
    → count ≡ node_count s → Asks s root s × Formed s
whole_asked {root} {s} ok bytes r e =
    let all = reached_all s root ok (sym r.counted ∙ e ∙ sym (length_nodes_of s)) in
    let ends = all.0 in
    let last : length (nodes_of s) - 1 ≡ root = omega arith in (
      record { names = named_none s root ok; problem = asked_same s bytes root ok all.0 all.1 },
      record {
        layout = ok.table;
        formula_asked = ap (λ (k : ℕ). is_term (node (nodes_of s) k)) last ∙ ok.is_formula;
      },
    )

pub itself : (s : List ℕ) (root : ℕ) (a : List ℕ) → Named s root → a ≡ asked s root → Asks s root a
itself s root a ok e = record { names = named_none s root ok; problem = sym e }

-- a refusal of the root is check's
pub root_refused : (s : List ℕ) (root : ℕ) (x : Refused) → ask_refusal s root ≡ some x → refusal_of s root ≡ some x
unfolding refusal_of ask_refusal
root_refused s root x e =
    sym (first_append (ask_conditions s root) (limit_conditions (asked s root)))
    ∙ ap (λ (o : Option Refused). first_of (o ∷ limit_conditions (asked s root))) e

pub check_refused : (s : List ℕ) (root : ℕ) (x : Refusal) → ask_refusal s root ≡ some (refusal_read x) → CheckPromise root s (Err x)
unfolding check_answer
check_refused s root x e =
    record { answers = sym (ap (λ (o : Option Refused). unless o (counts (asked s root))) (root_refused s root (refusal_read x) e)) }

pub check_counted : {s : List ℕ} {root : ℕ} {a : List ℕ} {r : Result declared.Counts Refusal} → Asks s root a → Counted a r → CheckPromise root s r
check_counted A c = record { answers = c.answers ∙ sym (asks_check A) }
