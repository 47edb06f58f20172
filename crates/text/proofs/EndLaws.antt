-- Laws of a text's end: what joins the asserts, the one negation behind it, the limits, and what is answered then (02, E1).
-- Assumes nothing.
use mathlib.Core.Path.{◌≡◌, refl, sym, ap, ap₂, ◌∙◌, subst}
use Prim.Native.Nat.{zero, suc, ℕ, ◌+◌, ◌*◌, ◌≤◌, ◌<◌}
use native.Mathlib.Numerals.{add-one}
use native.Mathlib.Omega.{arith}
use mathlib.Core.Bool.{Bool, true, false, true≢false}
use mathlib.Core.List.{List, [], ◌∷◌, ◌++◌}
use mathlib.Core.Option.{Option, none, some}
use lib.ListN.{length, take, get_or, length-append, length-map}
use lib.Seq.{take-suc, take_at}
use borrow.Author.Tests.{le-ltb}
use Rattle.std.specs.Prelude.{Result, Ok, Err}
use Rattle.std.specs.Prelude as code
use Rattle.std.specs.Option.{option_map}
use Rattle.definitions.specs.Lists.{first_of, snoc}
use Rattle.definitions.specs.Problem.Node.{Node, plain, problem_bytes}
use Rattle.definitions.specs.Problem.Check.{nodes_of, Refused, refuse, refuse_if}
use Rattle.definitions.specs.Problem.Asked.{limit_refusal}
use Rattle.definitions.specs.Operations.Answers.{Answer, unless}
use Rattle.definitions.specs.Operations.Answers as paper
use Rattle.definitions.specs.Operations.Buffers.{unless_refused}
use Rattle.definitions.specs.Operations.Buffers as buffers
use Rattle.definitions.specs.Operations.Readings.{refusal_read, reading_read}
use Rattle.definitions.specs.Operations.Promises.{ReadPromise}
use Rattle.definitions.specs.Text.Grammar.{Script, symbols_in, script_right}
use Rattle.definitions.specs.Text.Reader.{script_read}
use Rattle.definitions.specs.Text.Nodes.{
  Laid,
  laid,
  ask,
  ended,
  nodes_of_script,
  bytes_of_script,
  problem_of_script,
  limits_of_script,
  within_limits,
  if_room,
  taken,
  length_read,
  buffer_read,
  read_answer,
  read_buffer,
}
use Rattle.definitions.specs.declared.Counts.{Counts}
use Rattle.definitions.specs.declared.Refusal.{Refusal}
use Rattle.asked.specs.Asking.{Counted}
use Rattle.theorems.proofs.Tables.Back.{nodes_read, problem_length}
use Rattle.theorems.proofs.Text.Taken.Exactly.{read_means}
use Rattle.theorems.proofs.Text.Meant.Bytes.{low}
use Rattle.terms.specs.Symbols.{symbol_byte}
use Rattle.terms.specs.declared.declared.Shelved.{Shelved}
use Rattle.terms.specs.Laying.{over, standing, appended, Performs}
use Rattle.terms.specs.Scripts.{joined_on, joined_roots}
use Rattle.terms.proofs.ListSteps.{ask_grows}
use Rattle.terms.proofs.RowLaws.{performs_as, one_after_another}
use Rattle.terms.proofs.ScriptLaws.{after_four, nodes_are, limits_many, limits_fine, much_now}
use Rattle.text.specs.declared.scripts.Script as scripts
use Rattle.text.specs.Scripted.{ReadOut}
use Rattle.text.specs.Ending.{Delivered}

-- one root more is joined
joined_snoc : (rs : List ℕ) (r : ℕ) (l : Laid) → joined_on (snoc rs r) l ≡ ask (plain 4 (joined_on rs l).number r 0) (joined_on rs l).table
joined_snoc [] r l = refl
joined_snoc (x ∷ rs) r l = joined_snoc rs r (ask (plain 4 l.number x 0) l.table)

pub joins_one : (roots : List ℕ) (i : ℕ) {t between after : code.Option (List Node)} {a r : ℕ} → 1 ≤ i → i < length roots
    → Performs (joined_roots (take i roots)) t a between → Performs (ask (plain 4 a (get_or roots i 0) 0)) between r after
    → Performs (joined_roots (take (i + 1) roots)) t r after
joins_one [] i l h one next = absurd (omega arith)
joins_one (first ∷ others) zero l h one next = absurd (omega arith)
joins_one (first ∷ others) (suc i) {t} {between} {after} {a} {r} l h one next =
    subst (λ (rs : List ℕ). Performs (joined_roots rs) t r after) (sym later)
    (performs_as (λ k u. (sym (joined_snoc (take i others) x (laid first u))) k)
    (one_after_another (joined_roots (first ∷ take i others)) (λ n. ask (plain 4 n x 0)) (λ n u. ask_grows (plain 4 n x 0) u) one next))
  where
    x : ℕ
    x = get_or others i 0

    later : take (suc i + 1) (first ∷ others) ≡ first ∷ snoc (take i others) x
    later =
        ap (λ (n : ℕ). take n (first ∷ others)) (add-one (suc i))
        ∙ ap (λ (rs : List ℕ). first ∷ rs) (take-suc others i 0 (omega arith))

-- what joins the asserts, and then the negation
module _ (f : List Node → Laid) {t between after : code.Option (List Node)} {joined number : ℕ} (one : Performs f t joined between)
    (next : Performs (appended (plain 3 joined 0 0)) between number after) where
  had_room : (u v : code.Option (List Node)) → (over u ≡ true → over v ≡ true) → over v ≡ false → over u ≡ false
  had_room u v h q = by (over u) refl
    where
      by : (b : Bool) → over u ≡ b → over u ≡ false
      by true e = absurd (true≢false (sym (h e) ∙ q))
      by false e = e

  room_between : over after ≡ false → over between ≡ false
  room_between = had_room between after next.stays

  pub room_before : over after ≡ false → over t ≡ false
  room_before q = had_room t between one.stays (room_between q)

  ended_as : over t ≡ false → over between ≡ false → snoc (standing between) (plain 3 joined 0 0) ≡ ended (f (standing t))
  ended_as p q = sym (ap ended (one.done p q))

  negated_is : over after ≡ false → snoc (standing between) (plain 3 joined 0 0) ≡ standing after
  negated_is q = ap (λ (l : Laid). l.table) (next.done (room_between q) q)

  pub some_laid : over after ≡ false → 1 ≤ length (standing after)
  some_laid q = omega (arith, ap length (negated_is q), length-append (standing between) (plain 3 joined 0 0 ∷ []))

  pub ended_done : over after ≡ false → standing after ≡ ended (f (standing t))
  ended_done q = sym (negated_is q) ∙ ended_as (room_before q) (room_between q)

  pub ended_more : over t ≡ false → over after ≡ true → 256 < length (ended (f (standing t)))
  ended_more p q = by (over between) refl
    where
      l : Laid
      l = f (standing t)

      by : (b : Bool) → over between ≡ b → 256 < length (ended l)
      by true e = let h = one.more p e in omega (arith, length-append l.table (plain 3 l.number 0 0 ∷ []))
      by false e = let h = next.more e q in omega (arith, ap length (ended_as p e))

-- a count tells that there is room for all nodes, and how many they are
pub counted_room : (t : code.Option (List Node)) {count : ℕ} → code.Some count ≡ option_map length t → over t ≡ false
counted_room code.None e = absurd cc
counted_room (code.Some ns) e = refl

counted_is : (t : code.Option (List Node)) {count : ℕ} → code.Some count ≡ option_map length t → length (standing t) ≡ count
counted_is code.None e = absurd cc
counted_is (code.Some ns) e = cc

-- 9 and 10
some_limit : (a : List ℕ) (x : Refusal) → Counted a (Err x) → first_of (after_four (nodes_of a)) ≡ some (refusal_read x)
unfolding limit_refusal
some_limit a x c = go (first_of (after_four (nodes_of a))) c.answers
  where
    go : (o : Option Refused) → paper.refused (refusal_read x) ≡ unless o (paper.counts a) → o ≡ some (refusal_read x)
    go none e = absurd cc
    go (some r) e = cc

no_limit : (a : List ℕ) (k : Counts) → Counted a (Ok k) → first_of (after_four (nodes_of a)) ≡ none
unfolding limit_refusal
no_limit a k c = go (first_of (after_four (nodes_of a))) c.answers
  where
    go : (o : Option Refused) → paper.given (record { functions = k.functions; predicates = k.predicates }) ≡ unless o (paper.counts a) → o ≡ none
    go none e = refl
    go (some r) e = absurd cc

-- the problem's bytes, laid at the start of a buffer, and then delivered
module _ (symbols : List ℕ) (t : code.Option (List Node)) {count : ℕ} (whole rest : List ℕ) (put : whole ≡ problem_bytes symbols (standing t) ++ rest)
    (counts : code.Some count ≡ option_map length t) (few : count ≤ 256) where
  room : over t ≡ false
  room = counted_room t counts

  counted : length (standing t) ≡ count
  counted = counted_is t counts

  abbrev bytes : List ℕ
  bytes = problem_bytes symbols (standing t)

  abbrev front : List ℕ
  front = take (8 + length symbols + 8 * count) whole

  bytes_long : length bytes ≡ 8 + length symbols + 8 * count
  bytes_long = problem_length symbols (standing t) ∙ ap (λ (n : ℕ). 8 + length symbols + 8 * n) counted

  front_is : front ≡ bytes
  front_is = ap (take (8 + length symbols + 8 * count)) put ∙ take_at bytes rest (8 + length symbols + 8 * count) bytes_long

  limits_of : first_of (after_four (nodes_of front)) ≡ first_of (after_four (nodes_of bytes))
  limits_of = ap (λ (l : List ℕ). first_of (after_four (nodes_of l))) front_is

  pub refused_delivered : (problem : List ℕ) (x : Refusal) → Counted front (Err x)
      → Delivered symbols t problem (Err x) problem
  refused_delivered problem x c =
      let e = some_limit front x c in
      record {
        few = λ _. omega (arith, counted);
        four = λ q. absurd (true≢false (sym q ∙ room));
        answers = λ _. ap (λ (o : Option Refused). unless o (length bytes)) (sym e ∙ limits_of);
        problem_after = λ _. ap (λ (o : Option Refused). unless_refused o problem (buffers.over bytes problem)) (sym e ∙ limits_of);
      }

  pub fine_delivered : (problem problem' : List ℕ) (k : Counts) → Counted front (Ok k) → problem' ≡ buffers.over front problem
      → Delivered symbols t problem (Ok (8 + length symbols + 8 * count)) problem'
  fine_delivered problem problem' k c p =
      let e = no_limit front k c in
      record {
        few = λ _. omega (arith, counted);
        four = λ q. absurd (true≢false (sym q ∙ room));
        answers = λ _. ap paper.given (sym bytes_long) ∙ ap (λ (o : Option Refused). unless o (length bytes)) (sym e ∙ limits_of);
        problem_after = λ _. p ∙ ap (λ (l : List ℕ). buffers.over l problem) front_is
            ∙ ap (λ (o : Option Refused). unless_refused o problem (buffers.over bytes problem)) (sym e ∙ limits_of);
      }

-- what is answered, and what the problem buffer holds then, by the limits of the script that is read
module _ (text problem : List ℕ) (s : Script) (reads : script_read text ≡ paper.given s) (room : 2088 ≤ length problem) where
  taken_by : (o : Option Refused) → limits_of_script s ≡ o → taken text (length problem) ≡ unless o s
  unfolding taken
  taken_by o e =
      ap (λ (b : Bool). if_room (refuse_if b 23) (within_limits (script_read text))) (le-ltb (length problem) 2088 room)
      ∙ ap within_limits reads
      ∙ ap (λ (o : Option Refused). unless o s) e

  promised : {r : Result ℕ Refusal} {problem' : List ℕ} (o : Option Refused) → limits_of_script s ≡ o → reading_read r ≡ unless o (length (problem_of_script s))
      → problem' ≡ unless_refused o problem (buffers.over (problem_of_script s) problem) → ReadPromise text problem r problem'
  unfolding read_answer read_buffer
  promised o e a p =
      record {
        answers = a ∙ length_of o ∙ ap length_read (sym (taken_by o e));
        problem_after = p ∙ buffer_of o ∙ ap (λ (x : Answer Script). buffer_read x problem) (sym (taken_by o e));
      }
    where
      length_of : (o : Option Refused) → unless o (length (problem_of_script s)) ≡ length_read (unless o s)
      length_of none = refl
      length_of (some x) = refl

      buffer_of : (o : Option Refused) → unless_refused o problem (buffers.over (problem_of_script s) problem) ≡ buffer_read (unless o s) problem
      buffer_of none = refl
      buffer_of (some x) = refl

  four_promised : {r : Result ℕ Refusal} {problem' : List ℕ} → limits_of_script s ≡ some (refuse 4 0) → r ≡ Err Refusal.BadCounts → problem' ≡ problem
      → ReadPromise text problem r problem'
  four_promised e a p = promised (some (refuse 4 0)) e (ap reading_read a) p

  delivered_promised : {r : Result ℕ Refusal} {problem' : List ℕ} → length (symbols_in s.commands) ≤ 32 → length (nodes_of_script s) ≤ 256
      → reading_read r ≡ unless (first_of (after_four (nodes_of (problem_bytes (bytes_of_script s) (nodes_of_script s))))) (length (problem_bytes (bytes_of_script s) (nodes_of_script s)))
      → problem' ≡ unless_refused (first_of (after_four (nodes_of (problem_bytes (bytes_of_script s) (nodes_of_script s))))) problem (buffers.over (problem_bytes (bytes_of_script s) (nodes_of_script s)) problem)
      → ReadPromise text problem r problem'
  unfolding problem_of_script
  delivered_promised h g a p =
      let back = nodes_read (bytes_of_script s) (nodes_of_script s) (omega arith) (low s g) in
      promised (first_of (after_four (nodes_of (problem_bytes (bytes_of_script s) (nodes_of_script s)))))
      (limits_fine s h g ∙ sym (ap (λ (t : List Node). first_of (after_four t)) back))
      a
      p

-- a text that is read out, with what joins its asserts and the negation laid
module _ (text problem : List ℕ) (shelf : List Shelved) (script : scripts.Script) {between after : code.Option (List Node)} {joined number : ℕ}
    (one : Performs (joined_roots script.roots) script.table joined between) (next : Performs (appended (plain 3 joined 0 0)) between number after)
    (room : 2088 ≤ length problem) (out : ReadOut text shelf script) where
  abbrev joins : List Node → Laid
  joins = joined_roots script.roots

  abbrev whole_script : Script
  whole_script = record { sort_name = script.declared.sort.now; commands = out.scripted.commands }

  right : script_right whole_script ≡ true
  right = ((read_means text whole_script).0 out.whole).right

  nodes_so : over script.table ≡ false → ended (joins (standing script.table)) ≡ nodes_of_script whole_script
  nodes_so p =
      ap₂ {C = List Node} (λ (rs : List ℕ) (t : List Node). ended (joined_roots rs t)) (out.scripted.so.roots_so p) (out.scripted.so.table_so p)
      ∙ sym (nodes_are whole_script)

  many : over after ≡ true → limits_of_script whole_script ≡ some (refuse 4 0)
  many q = by (over script.table) refl
    where
      by : (b : Bool) → over script.table ≡ b → limits_of_script whole_script ≡ some (refuse 4 0)
      by true e = much_now whole_script.sort_name whole_script.commands (out.scripted.so.over_so e) right
      by false e = let h = ended_more joins one next e q in limits_many whole_script (omega (arith, ap length (nodes_so e)))

  pub out_promised : {r : Result ℕ Refusal} {problem' : List ℕ} → Delivered script.symbols after problem r problem' → ReadPromise text problem r problem'
  unfolding bytes_of_script
  out_promised {r} {problem'} d = by (over after) refl
    where
      by : (b : Bool) → over after ≡ b → ReadPromise text problem r problem'
      by true q = let f = d.four q in four_promised text problem whole_script out.whole room (many q) f.0 f.1
      by false q =
          let p = room_before joins one next q in
          let bytes_so = out.scripted.so.bytes_so p in
          let nodes = ended_done joins one next q ∙ nodes_so p in
          let same = ap₂ {C = List ℕ} problem_bytes bytes_so nodes in
          delivered_promised text problem whole_script out.whole room
          (omega (arith, ap length bytes_so, length-map (symbols_in whole_script.commands) symbol_byte, out.scripted.so.few_so p))
          (omega (arith, ap length nodes, d.few q))
          (d.answers q ∙ ap (λ (bs : List ℕ). unless (first_of (after_four (nodes_of bs))) (length bs)) same)
          (d.problem_after q ∙ ap (λ (bs : List ℕ). unless_refused (first_of (after_four (nodes_of bs))) problem (buffers.over bs problem)) same)
