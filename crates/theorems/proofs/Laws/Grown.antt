-- What a table grows, node by node: the thing of node k comes from those of the nodes before it. Assumes nothing.
use mathlib.Core.Path.{◌≡◌, refl, sym, ap, ◌∙◌, subst}
use Prim.Native.Nat.{ℕ, suc, ◌<◌}
use native.Mathlib.Omega.{arith}
use mathlib.Core.List.{List, [], ◌∷◌, ◌++◌, append_assoc, append-nil}
use lib.ListN.{length, get_or, take, drop}
use lib.Seq.{split_at, get_or_at, take_at, length-take-le}
use Rattle.definitions.specs.Problem.Node.{Node, node, no_node, grown}

module _ {X : Type 0} (f : List X → Node → X) where
  pub grown_append : (xs : List X) (t u : List Node) → grown f xs (t ++ u) ≡ grown f (grown f xs t) u
  grown_append xs [] u = refl
  grown_append xs (n ∷ t) u = grown_append (xs ++ (f xs n ∷ [])) t u

  pub grown_extends : (xs : List X) (t : List Node) → (r : List X) × (grown f xs t ≡ xs ++ r) × (length r ≡ length t)
  grown_extends xs [] = ([], sym (append-nil xs), refl)
  grown_extends xs (n ∷ t) =
      let v = f xs n in
      let e = grown_extends (xs ++ (v ∷ [])) t in
      (v ∷ e.0, e.1 ∙ append_assoc xs (v ∷ []) e.0, ap suc e.2)

  pub length_grown : (t : List Node) → length (grown f [] t) ≡ length t
  length_grown t = let e = grown_extends [] t in ap length e.1 ∙ e.2

  -- a longer table keeps what its first part has
  pub grown_prefix : (t u : List Node) → (r : List X) × (grown f [] (t ++ u) ≡ grown f [] t ++ r)
  grown_prefix t u = let e = grown_extends (grown f [] t) u in (e.0, grown_append [] t u ∙ e.1)

  grown_split : (p : List Node) (n : Node) (u : List Node) → (r : List X) × (grown f [] (p ++ n ∷ u) ≡ grown f [] p ++ f (grown f [] p) n ∷ r)
  grown_split p n u =
      let v = f (grown f [] p) n in
      let e = grown_extends (grown f [] p ++ (v ∷ [])) u in
      (e.0, grown_append [] p (n ∷ u) ∙ e.1 ∙ append_assoc (grown f [] p) (v ∷ []) e.0)

  grown_seam : (p : List Node) (n : Node) (u : List Node) (d : X)
      → get_or (grown f [] (p ++ n ∷ u)) (length p) d ≡ f (take (length p) (grown f [] (p ++ n ∷ u))) n
  grown_seam p n u d =
      let s = grown_split p n u in
      let v = f (grown f [] p) n in
      ap (λ (ws : List X). get_or ws (length p) d) s.1
      ∙ get_or_at (grown f [] p) v s.0 d (length p) (length_grown p)
      ∙ ap (λ (ws : List X). f ws n)
      (sym (ap (take (length p)) s.1 ∙ take_at (grown f [] p) (v ∷ s.0) (length p) (length_grown p)))

  pub grown_at : (t : List Node) (k : ℕ) (d : X) → k < length t → get_or (grown f [] t) k d ≡ f (take k (grown f [] t)) (node t k)
  grown_at t k d h =
      let q = split_at t k no_node h in
      let l = length-take-le k t (omega arith) in
      let n : Node = node t k in
      let w : List Node = take k t ++ n ∷ drop (suc k) t in
      subst (λ (x : List Node). get_or (grown f [] x) k d ≡ f (take k (grown f [] x)) n) (sym q)
      (subst (λ (m : ℕ). get_or (grown f [] w) m d ≡ f (take m (grown f [] w)) n) l (grown_seam (take k t) n (drop (suc k) t) d))
