-- Taking a distinct application: there is room for what is laid, and a place where it is noted. Assumes nothing.
use Rattle.std.proofs.Common.{◌≡◌, ℕ, ◌+◌, ◌-◌, ◌*◌, ◌≤◌, ◌<◌, List, true, false, length, take, set, refl, sym, ap, ◌∙◌, subst, ⊎_elim, arith}
use Rattle.std.proofs.Math.Seq.{length-take-le}
use Rattle.definitions.specs.Lists.{keep, snoc}
use Rattle.definitions.specs.Problem.Node.{Node, node, plain}
use Rattle.definitions.specs.Problem.Ops.{op_of, is_app, arity}
use Rattle.definitions.specs.Problem.Check.{symbols_of, nodes_of}
use Rattle.definitions.specs.Elimination.{App, State, variable_node, last, condition, choice_op, same_symbol, add_app, next_var}
use Rattle.theorems.proofs.Laws.Ops.{app_op}
use Rattle.problem.specs.Lays.{Lays}
use Rattle.problem.specs.Stages.{one_symbol}
use Rattle.problem.proofs.Laying.{lays_on, lays_as}
use Rattle.elimination.specs.State.{state_at, app_at, noted, LaidAt, Taking, NewAt, StepLays, ImagesRead, next_of, counted, three}
use Rattle.elimination.specs.declared.laid.Laid.{Laid}
use Rattle.elimination.proofs.Prefix.{state_short, room}
use Rattle.elimination.proofs.Stepping.{step_lays, next_app}
use Rattle.elimination.proofs.Arguments.{few_arguments, arguments_read, arguments_given}
use Rattle.elimination.proofs.Choosing.{Choosing, args, chosen, chosen_one_lem, op_same, symbol_same, choosing_first, choosing_room, choosing_same, choosing_other}
use Rattle.elimination.proofs.Counting.{place_left, count_small, variable_small, next_number, function_added, predicate_added}

module _ {s : List ℕ} {k : ℕ} {l : Laid} {work : List ℕ} (t : Taking s k l work) (a : NewAt s k) where
  abbrev n : Node
  n = node (nodes_of s) k

  pub added : state_at s (k + 1) ≡ add_app (symbols_of s) (state_at s k) n
  added = next_app s t.accepted k t.among a.application a.fresh

  pub choices_fit : l.nodes + 1 + 6 * length (keep (same_symbol n) (state_at s k).apps) ≤ 2632
  choices_fit = omega (arith, t.laid.nodes_are, room s t.accepted k t.among n a.application added)

  pub own_fits : l.nodes + 1 ≤ 2632
  own_fits = omega (arith, choices_fit)

  pub next_fits : length (state_at s (k + 1)).out ≤ 2632
  next_fits = let h = t.among in state_short s t.accepted (k + 1) (omega arith)

  pub place_there : l.count < 40
  place_there = omega (arith, t.laid.count_is, place_left s t.accepted k t.among a.application a.fresh)

  pub number_is : next_of l n.op ≡ next_var (state_at s k) n
  number_is = next_number s t.accepted k t.among a.application a.fresh t.laid

  pub number_fits : next_of l n.op ≤ 40
  number_fits = omega (arith, number_is, variable_small s t.accepted k t.among)

  -- its own variable node, and then all the choices
  pub application_lays : {between after : List ℕ} {at number : ℕ} {m : Node} → m ≡ n → number ≡ next_of l m.op
      → Lays work between l.nodes (l.nodes + 1) (λ u. snoc u (variable_node m.op number))
      → Lays between after (l.nodes + 1) at (λ u. chosen s k u (keep (same_symbol n) (state_at s k).apps))
      → StepLays s k work after × (at ≡ length (state_at s (k + 1)).out)
  application_lays {m = m} e f p q =
      let out = (state_at s k).out in
      let laid = lays_on p refl q in
      let own =
      ap (variable_node m.op) (f ∙ ap (λ (m : Node). next_of l m.op) e ∙ number_is)
      ∙ ap (λ (m : Node). variable_node m.op (next_var (state_at s k) n)) e
      in
      let is =
      ap (λ v. chosen s k (snoc out v) (keep (same_symbol n) (state_at s k).apps)) own ∙ sym (ap (λ (F : State). F.out) added)
      in (
        step_lays s k _ (sym t.laid.nodes_are) is laid,
        sym (laid.counts out (sym t.laid.nodes_are)) ∙ ap (length {A = Node}) is,
      )

  -- it is noted with its own variable node and its image, and counted by its op
  pub kinds_few : (l.functions ≤ 40) × (l.predicates ≤ 40)
  kinds_few = (
    omega (arith, t.laid.functions_are, count_small s t.accepted k t.among 0),
    omega (arith, t.laid.predicates_are, count_small s t.accepted k t.among 6),
  )

  pub application_noted : (op at : ℕ) → op ≡ n.op → at ≡ length (state_at s (k + 1)).out
      → LaidAt s (k + 1)
      (counted
      (record l {
        images = set l.images k (at - 1);
        applications = set l.applications l.count (record { node = k; own = l.nodes });
        nodes = at;
      })
      op)
  application_noted op at o e =
      let noted : ℕ → Type 0 =
      λ op.
      LaidAt s (k + 1)
      (counted
      (record l {
        images = set l.images k (at - 1);
        applications = set l.applications l.count (record { node = k; own = l.nodes });
        nodes = at;
      })
      op)
      in
      subst noted (sym o)
      (⊎_elim
      (λ z. subst noted (sym z) (function_added s t.accepted k t.among a.application a.fresh t.laid z at e))
      (λ z. subst noted (sym z) (predicate_added s t.accepted k t.among a.application a.fresh t.laid z at e))
      (app_op n.op a.application))

  -- of the applications at hand, as many as there are in the definition's state, the choices for all are to be laid
  pub choices_begin : Choosing s k work (l.nodes + 1) work (l.nodes + 1) l.count
  choices_begin = choosing_first s k work (l.nodes + 1) l.count t.laid.count_is choices_fit

  -- in a turn, where j applications are still to come, the last of them is looked at
  module _ {before now : List ℕ} {start at j : ℕ} (c : Choosing s k before start now at j) (h : 0 < j) where
    abbrev i : ℕ
    i = j - 1

    abbrev app : App
    app = app_at s k i

    at_hand : i < l.count
    at_hand = let few = c.few in omega (arith, t.laid.count_is)

    pub place_small : i < 40
    place_small = let p = place_there in let h = at_hand in omega arith

    -- it is that of node q
    module _ {q : ℕ} (is_q : q ≡ (noted l i).node) where
      pub earlier : q < k
      earlier = let b = t.laid.app_before i at_hand in omega arith

      its_node : node (nodes_of s) q ≡ app.of
      its_node = ap (node (nodes_of s)) is_q ∙ t.laid.app_of i at_hand

      looked : one_symbol (node (nodes_of s) q) n ≡ same_symbol n app
      looked = ap (λ (m : Node). one_symbol m n) its_node

      pub choices_pass : one_symbol (node (nodes_of s) q) n ≡ false → Choosing s k before start now at i
      choices_pass other = choosing_other s k before start now at j c h (sym looked ∙ other)

      -- it is of the symbol
      module _ (same : one_symbol (node (nodes_of s) q) n ≡ true) where
        pub choice_fits : at + 6 ≤ 2632
        choice_fits = choosing_room s k before start now at j c h (sym looked ∙ same)

        -- and the arguments of both are at hand
        module _ {m : Node} (is_node : m ≡ n) {ar : ℕ} (read : ar ≡ arity (symbols_of s) m.sym) {xs ys : List ℕ} (x : ImagesRead s l k xs) (y : ImagesRead s l q ys) where
          is_arity : ar ≡ arity (symbols_of s) n.sym
          is_arity = read ∙ ap (λ (m : Node). arity (symbols_of s) m.sym) is_node

          few : ar ≤ 3
          few = few_arguments s t.accepted k t.among a.application ar is_arity

          given : 1 ≤ ar
          given =
              subst (λ m. 1 ≤ m) (sym is_arity)
              (arguments_given s t.accepted k t.among q earlier a.application (op_same (node (nodes_of s) q) n same)
              (symbol_same (node (nodes_of s) q) n same) a.fresh)

          -- those of node k
          xs_are : xs ≡ three (args s k n)
          xs_are = (x k (omega arith) (let h = t.among in omega arith) t.laid.images_are).0

          xs_long : length xs ≡ 3
          xs_long = ap length xs_are

          xs_whole : take ar xs ≡ args s k n
          xs_whole = arguments_read s t.accepted k t.among a.application ar is_arity k xs xs_are

          -- and those of the application
          ys_are : ys ≡ three (args s k (node (nodes_of s) q))
          ys_are = let e = earlier in (y k (omega arith) (let h = t.among in omega arith) t.laid.images_are).0

          ys_long : length ys ≡ 3
          ys_long = ap length ys_are

          ys_whole : take ar ys ≡ args s k app.of
          ys_whole =
              arguments_read s t.accepted q (let e = earlier in let h = t.among in omega arith)
              (ap (λ op. is_app (op_of op)) (op_same (node (nodes_of s) q) n same) ∙ a.application) ar
              (is_arity ∙ ap (arity (symbols_of s)) (sym (symbol_same (node (nodes_of s) q) n same))) k ys ys_are
              ∙ ap (args s k) its_node

          pub arguments_fit : (1 ≤ ar) × (ar ≤ 3) × (length (take ar xs) ≡ ar) × (length (take ar ys) ≡ ar)
          arguments_fit =
              let f = few in (
                given,
                few,
                length-take-le ar xs (let e = xs_long in omega arith),
                length-take-le ar ys (let e = ys_long in omega arith),
              )

          pub choices_next : {after : List ℕ} {at' : ℕ} (op own : ℕ) → op ≡ choice_op m.op → own ≡ (noted l i).own
              → Lays now after at at' (λ u. snoc (condition u (take ar xs) (take ar ys)) (plain op (last (condition u (take ar xs) (take ar ys))) own (last u)))
              → at < at' → at' ≤ at + 6 → length after ≡ length now → Choosing s k before start after at' i
          choices_next op own e f p g r o =
              choosing_same s k before start now at j c h (sym looked ∙ same) _ _
              (lays_as (λ u q. chosen_one_lem s k app op own (take ar xs) (take ar ys) (e ∙ ap (λ (m : Node). choice_op m.op) is_node) (f ∙ t.laid.app_own i at_hand) xs_whole ys_whole u) refl p)
              g r o
