-- The images of a node's operands: of those in use, which are earlier nodes, and 0 after them. Assumes nothing.
use Rattle.std.proofs.Common.{◌≡◌, ℕ, zero, suc, ◌≤◌, ◌<◌, List, [], ◌∷◌, map, get_or, take, cond, ltb, refl, sym, ap, ap₂, ◌∙◌, subst, arith, get_or-take}
use Rattle.std.proofs.Math.Seq.{length-take-le}
use Rattle.definitions.specs.Problem.Node.{Node, node}
use Rattle.definitions.specs.Problem.Ops.{sorts_of, count_of}
use Rattle.definitions.specs.Problem.Check.{node_count, symbols_of, nodes_of}
use Rattle.theorems.proofs.Accepted.{Accepted}
use Rattle.theorems.proofs.Laws.Ops.{AllBelow}
use Rattle.theorems.proofs.Tables.Fixed.{right_at_lem, right_below}
use Rattle.asked.specs.Reached.{operands_at}
use Rattle.asked.proofs.Renumbering.{node_renamed}
use Rattle.elimination.specs.State.{state_at, ImagesRead}
use Rattle.elimination.specs.declared.laid.Laid.{Laid}
use Rattle.elimination.proofs.Prefix.{nodes_length, image_small}

-- the images of numbers below q are among the first k
images_first : (images : List ℕ) (q k : ℕ) (xs : List ℕ) → q ≤ k → AllBelow q xs
    → map (λ x. get_or images x 0) xs ≡ map (λ x. get_or (take k images) x 0) xs
images_first images q k [] h b = refl
images_first images q k (x ∷ xs) h b =
    ap₂ {C = List ℕ} (λ y ys. y ∷ ys) (sym (get_or-take k images x 0 (omega (arith, b.0)))) (images_first images q k xs h b.1)

-- and small where these are
images_small : (images : List ℕ) (q : ℕ) (xs : List ℕ) (j : ℕ) → AllBelow q xs → ((i : ℕ) → i < q → get_or images i 0 < 2632)
    → get_or (map (λ x. get_or images x 0) xs) j 0 < 2632
images_small images q [] j b h = omega arith
images_small images q (x ∷ xs) zero b h = h x b.0
images_small images q (x ∷ xs) (suc j) b h = images_small images q xs j b.1 h

-- node q as the code reads it, and how many of its fields are in use
module _ {s : List ℕ} (ok : Accepted s) {q : ℕ} (inside : q < node_count s) {m : Node} (e : m ≡ node (nodes_of s) q) {u : ℕ}
    (is : u ≡ count_of (sorts_of (symbols_of s) m)) where
  abbrev ops : List ℕ
  ops = operands_at s q

  -- the operands in use are earlier nodes
  below : AllBelow q ops
  below =
      let l = nodes_length s ok in
      subst (λ k. AllBelow k ops) (length-take-le q (nodes_of s) (omega arith))
      (right_below (symbols_of s) (take q (nodes_of s)) (node (nodes_of s) q)
      (right_at_lem (symbols_of s) (nodes_of s) q ok.layout.nodes_right (omega arith)))

  pub images_are_read : (l : Laid) {x y z : ℕ} → x ≡ cond (ltb 0 u) (get_or l.images m.a 0) 0
      → y ≡ cond (ltb 1 u) (get_or l.images m.b 0) 0 → z ≡ cond (ltb 2 u) (get_or l.images m.c 0) 0
      → ImagesRead s l q (x ∷ y ∷ z ∷ [])
  images_are_read l {x} {y} {z} ex ey ez k h w are =
      let images = (state_at s k).images in
      let taken : map (λ o. get_or l.images o 0) ops ≡ map (λ o. get_or images o 0) ops =
      images_first l.images q k ops h below ∙ ap (λ (is : List ℕ). map (λ o. get_or is o 0) ops) are
      in
      let field = λ (j i : ℕ) (r : i ≡ get_or (map (λ o. get_or l.images o 0) ops) j 0).
      r ∙ ap (λ is. get_or is j 0) taken
      in
      let small = λ (j i : ℕ) (r : i ≡ get_or (map (λ o. get_or images o 0) ops) j 0).
      subst (λ i. i < 2632) (sym r) (images_small images q ops j below (λ i b. image_small s ok k w i (omega arith)))
      in
      -- as the operands of a node are renumbered, so they are by their images
      let renamed = node_renamed ok.layout q inside m e u is l.images x y z ex ey ez in
      let fx = field 0 x (ap (λ (n : Node). n.a) renamed) in
      let fy = field 1 y (ap (λ (n : Node). n.b) renamed) in
      let fz = field 2 z (ap (λ (n : Node). n.c) renamed) in
      (rw (fx, fy, fz), small 0 x fx, small 1 y fy, small 2 z fz)
