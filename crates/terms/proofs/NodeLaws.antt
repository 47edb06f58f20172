-- Laws of the table: a search in it, and what the search says of a node that is asked for. Assumes nothing.
use mathlib.Core.Path.{◌≡◌, refl, sym, ap, ◌∙◌, subst}
use Prim.Native.Nat.{ℕ, suc, ◌+◌, ◌-◌, ◌*◌, ◌≤◌, ◌<◌}
use native.Mathlib.Numerals.{add-one}
use native.Mathlib.Omega.{arith}
use mathlib.Core.Bool.{Bool, true, false, false≢true, not, cond}
use mathlib.Core.List.{List, [], ◌∷◌, map, map-append}
use mathlib.Core.Option.{none, some}
use borrow.Rule.Slice.PartMut.{put_mid, mid_of}
use lib.ListN.{length, take, get_or, length-map, length-take}
use lib.Seq.{length-take-le, take-suc, take_all}
use lib.Dec.{ltb}
use Rattle.std.specs.Prelude.{Option, None, Some}
use Rattle.std.specs.Option.{option_map, unwrap_or}
use Rattle.std.specs.List.{position_or_len, position_from}
use Rattle.std.proofs.lemmas.Iterator.Adapters.{position_from-zero}
use Rattle.definitions.specs.Lists.{snoc, first_failing}
use Rattle.definitions.specs.Problem.Node.{same, node_bytes, table_bytes}
use Rattle.definitions.specs.Operations.Buffers.{over}
use Rattle.problem.proofs.Laying.{laid_tail}
use Rattle.definitions.specs.Problem.Node as table
use Rattle.definitions.specs.Text.Nodes.{Laid, laid, place_of, found_or, ask}
use Rattle.theorems.proofs.Text.Meant.Shared.{scan_some}
use Rattle.problem.specs.Nodes.{node_read}
use Rattle.problem.specs.Stages.{found_of}
use Rattle.terms.specs.Laying.{table_of, FewCounted, standing, appended, Performs}
use Rattle.problem.specs.declared.put.Node.{Node}

-- the first node that is the same
module _ (n : table.Node) where
  abbrev pub equals : Node → Bool
  equals m = same n (node_read m)

  scan_found : (ms : List Node) (k : ℕ) → found_of (position_from equals k ms) ≡ first_failing (λ m. not (same n m)) k (map node_read ms)
  scan_found [] k = refl
  scan_found (m ∷ ms) k = rw (add-one k) (by (equals m) (scan_found ms (suc k)))
    where
      by : (b : Bool) → found_of (position_from equals (suc k) ms) ≡ first_failing (λ m. not (same n m)) (suc k) (map node_read ms)
          → found_of (cond b (Some k) (position_from equals (suc k) ms))
          ≡ elim (not b) [ true ↦ first_failing (λ m. not (same n m)) (suc k) (map node_read ms) | false ↦ some k ]
      by true later = refl
      by false later = later

  pub place_found : (ms : List Node) {r : Option ℕ}
      → r ≡ cond (ltb (position_or_len equals ms) (length ms)) (Some (position_or_len equals ms)) None
      → found_of r ≡ place_of n (map node_read ms)
  place_found ms e = ap found_of (e ∙ position_from-zero equals ms) ∙ scan_found ms 0

-- what does the same to the table that stands there
pub performs_at : {f g : List table.Node → Laid} {t t' : Option (List table.Node)} {k : ℕ} → f (standing t) ≡ g (standing t)
    → Performs f t k t' → Performs g t k t'
performs_at e p =
    record {
      stays = p.stays;
      done = λ q r. sym e ∙ p.done q r;
      more = λ q r. subst (λ (l : Laid). 256 < length l.table) e (p.more q r);
    }

module _ (n : table.Node) (ns : List table.Node) where
  found_laid : (k : ℕ) → place_of n ns ≡ some k → ask n ns ≡ laid k ns
  unfolding ask
  found_laid k e = ap (found_or n ns) e

  place_inside : (k : ℕ) → some k ≡ place_of n ns → k < length ns
  place_inside k e =
      let s = scan_some n 0 k ns (sym e) in
      let i = s.inside in
      let p = s.place in
      omega arith

  one_found : (k : ℕ) → some k ≡ place_of n ns → Performs (ask n) (Some ns) k (Some ns)
  one_found k e =
      record {
        stays = λ p. p;
        done = λ p q. found_laid k (sym e);
        more = λ p q. absurd (false≢true q);
      }

  -- a node that is not there is appended
  none_found : none ≡ place_of n ns → {k : ℕ} {t' : Option (List table.Node)} → Performs (appended n) (Some ns) k t' → Performs (ask n) (Some ns) k t'
  unfolding ask
  none_found e = performs_at (ap (found_or n ns) e)

-- the nodes of a table that has room
module _ (nodes : List Node) {count : ℕ} {o : Option ℕ} {t : Option (List table.Node)} (view : table_of nodes o ≡ t) (is : o ≡ Some count) where
  abbrev held : List table.Node
  held = map node_read (take count nodes)

  holds : Some held ≡ t
  holds = sym (ap (table_of nodes) is) ∙ view

  module _ (n : table.Node) where
    pub number_small : {k : ℕ} → some k ≡ place_of n held → FewCounted o → k < 256
    number_small {k} e few =
        let inside = place_inside n held k e in
        let f = subst FewCounted is few in
        let long = length-map (take count nodes) node_read in
        let short = length-take count nodes in
        omega arith

    pub found_there : {k : ℕ} → some k ≡ place_of n held → Performs (ask n) t k t
    found_there {k} e = subst (λ (t : Option (List table.Node)). Performs (ask n) t k t) holds (one_found n held k e)

    pub appended_there : {k : ℕ} {t' : Option (List table.Node)} → none ≡ place_of n held → Performs (appended n) t k t' → Performs (ask n) t k t'
    appended_there {k} {t'} e p =
        subst (λ (t : Option (List table.Node)). Performs (ask n) t k t') holds
        (none_found n held e (subst (λ (t : Option (List table.Node)). Performs (appended n) t k t') (sym holds) p))

-- the count of a table's nodes
pub counted_by : (nodes : List Node) (o : Option ℕ) {t : Option (List table.Node)} → table_of nodes o ≡ t → length nodes ≡ 256 → FewCounted o
    → o ≡ option_map length t
counted_by nodes None view long few = ap (option_map length) view
counted_by nodes (Some n) view long few =
    ap Some (sym (length-map (take n nodes) node_read ∙ length-take-le n nodes (omega arith))) ∙ ap (option_map length) view

-- one node more is put behind the others
pub put_one : (items : List Node) (k : ℕ) (d : Node) (buffer : List ℕ) {tail ys : List ℕ} → k < length items
    → tail ≡ over (table_bytes (map node_read (take k items))) buffer
    → ys ≡ over (node_bytes (node_read (get_or items k d))) (mid_of (8 * k) (length tail - 8 * k) tail)
    → put_mid (8 * k) (length tail - 8 * k) tail ys ≡ over (table_bytes (map node_read (take (k + 1) items))) buffer
put_one items k d buffer {tail} {ys} h before put =
    laid_tail (map node_read (take k items)) (node_read (get_or items k d)) tail buffer ys k
    (length-map (take k items) node_read ∙ length-take-le k items (omega arith)) before put
    ∙ ap (λ (t : List table.Node). over (table_bytes t) buffer) (sym one_more)
  where
    one_more : map node_read (take (k + 1) items) ≡ snoc (map node_read (take k items)) (node_read (get_or items k d))
    one_more =
        ap (λ (n : ℕ). map node_read (take n items)) (add-one k)
        ∙ ap (map node_read) (take-suc items k d h)
        ∙ map-append node_read (take k items) (get_or items k d ∷ [])

pub all_put : (nodes : List Node) (o : Option ℕ) (buffer : List ℕ) {t : Option (List table.Node)} {n k : ℕ} {tail : List ℕ} → table_of nodes o ≡ t → n ≡ unwrap_or o 0
    → length (take n nodes) ≤ k → tail ≡ over (table_bytes (map node_read (take k (take n nodes)))) buffer → tail ≡ over (table_bytes (standing t)) buffer
all_put nodes o buffer {t} {n} {k} {tail} view e h put =
    put ∙ ap (λ (ms : List table.Node). over (table_bytes ms) buffer)
    (ap (map node_read) (take_all k (take n nodes) h) ∙ ap (λ (m : ℕ). map node_read (take m nodes)) e ∙ all o ∙ ap standing view)
  where
    all : (o : Option ℕ) → map node_read (take (unwrap_or o 0) nodes) ≡ standing (table_of nodes o)
    all None = refl
    all (Some m) = refl

pub standing_counted : (t : Option (List table.Node)) {o : Option ℕ} {n : ℕ} → o ≡ option_map length t → n ≡ unwrap_or o 0 → n ≡ length (standing t)
standing_counted t e u = u ∙ ap (λ (o : Option ℕ). unwrap_or o 0) e ∙ all t
  where
    all : (t : Option (List table.Node)) → unwrap_or (option_map length t) 0 ≡ length (standing t)
    all None = refl
    all (Some ns) = refl
