-- Laying one node, and laying one thing after another. Assumes nothing.
use mathlib.Core.Path.{◌≡◌, refl, sym, ap, ◌∙◌}
use Prim.Native.Nat.{ℕ, ◌+◌, ◌*◌, ◌-◌}
use native.Mathlib.Omega.{arith}
use mathlib.Core.List.{List, [], ◌∷◌, ◌++◌, append_assoc, append-nil}
use lib.ListN.{length, length-append}
use borrow.Rule.Slice.PartMut.{put_mid, mid_of}
use Rattle.definitions.specs.Lists.{concat_map, snoc}
use Rattle.definitions.specs.Problem.Node.{Node, node_bytes, table_bytes}
use Rattle.definitions.specs.Operations.Buffers.{over}
use Rattle.theorems.proofs.Fits.{length_table_bytes}
use Rattle.problem.proofs.Putting.{put_more}
use Rattle.problem.specs.Lays.{Lays}

pub concat_map_append : {A B : Type 0} (f : A → List B) (xs ys : List A) → concat_map f (xs ++ ys) ≡ concat_map f xs ++ concat_map f ys
concat_map_append f [] ys = refl
concat_map_append f (x ∷ xs) ys =
    ap (λ l. f x ++ l) (concat_map_append f xs ys) ∙ sym (append_assoc (f x) (concat_map f xs) (concat_map f ys))

-- the bytes of a table with one node more
pub table_snoc : (t : List Node) (n : Node) → table_bytes (snoc t n) ≡ table_bytes t ++ node_bytes n
table_snoc t n = concat_map_append node_bytes t (n ∷ []) ∙ ap (λ l. table_bytes t ++ l) (append-nil (node_bytes n))

-- a node put at the start of the tail is laid straight after the table
pub laid_tail : (t : List Node) (n : Node) (work w ys : List ℕ) (count : ℕ) → length t ≡ count → work ≡ over (table_bytes t) w
    → ys ≡ over (node_bytes n) (mid_of (8 * count) (length work - 8 * count) work)
    → put_mid (8 * count) (length work - 8 * count) work ys ≡ over (table_bytes (snoc t n)) w
laid_tail t n work w ys count l e y =
    put_more work (table_bytes t) w (node_bytes n) ys (8 * count) (length_table_bytes t ∙ ap (λ k. 8 * k) l) e y
    ∙ ap (λ bytes. over bytes w) (sym (table_snoc t n))

pub snoc_count : (t : List Node) (n : Node) (count : ℕ) → length t ≡ count → length (snoc t n) ≡ count + 1
snoc_count t n count l = omega (arith, length-append t (n ∷ []))

-- one thing laid, and then another
pub lays_on : {a b c : List ℕ} {i j j' k : ℕ} {f g : List Node → List Node} → Lays a b i j f → j ≡ j' → Lays b c j' k g
    → Lays a c i k (λ t. g (f t))
lays_on {f = f} p q r =
    record {
      lays = λ t w l e. r.lays (f t) w (p.counts t l ∙ q) (p.lays t w l e);
      counts = λ t l. r.counts (f t) (p.counts t l ∙ q);
    }

-- what is laid, said another way
pub lays_as : {a b : List ℕ} {i j j' : ℕ} {f g : List Node → List Node} → ((t : List Node) → length t ≡ i → f t ≡ g t) → j ≡ j'
    → Lays a b i j f → Lays a b i j' g
lays_as h q p =
    record {
      lays = λ t w l e. p.lays t w l e ∙ ap (λ u. over (table_bytes u) w) (h t l);
      counts = λ t l. sym (ap length (h t l)) ∙ p.counts t l ∙ q;
    }

-- something laid, and then one node that goes by how much was laid
pub lays_node : {a b c : List ℕ} {i j k : ℕ} {f : List Node → List Node} {n : Node} (n' : List Node → Node) → Lays a b i j f
    → ((t : List Node) → length t ≡ i → length (f t) ≡ j → n ≡ n' t) → Lays b c j k (λ u. snoc u n) → Lays a c i k (λ t. snoc (f t) (n' t))
lays_node {f = f} n' p h q = lays_as (λ t l. ap (snoc (f t)) (h t l (p.counts t l))) refl (lays_on p refl q)
