-- Classes of variables as sets, with links between variables: they stay the classes that the links join as they are merged at
-- an equation, which links each of some variables with each of others. Assumes nothing.
use mathlib.Core.Path.{◌≡◌, refl, sym, ap, ◌∙◌, subst}
use Prim.Native.Nat.{ℕ, ◌≤◌, ◌<◌}
use native.Mathlib.Omega.{arith}
use mathlib.Core.Bool.{Bool, true, false, ◌&&◌, ◌||◌, cond, false≢true}
use mathlib.Core.Logic.{inl, inr}
use mathlib.Core.List.{List}
use lib.ListN.{get_or}
use borrow.Author.Tests.{eq-eqb, eqb-true}
use Rattle.definitions.specs.Problem.Node.{Node}
use Rattle.definitions.specs.Ranges.{Variables, linked, joined}
use Rattle.theorems.proofs.Laws.Tests.{or_cases, or_left, or_right, and_intro, and_left, and_right, same_test}
use Rattle.theorems.proofs.Ranges.Components.{Joined, self, one_link, back, on, components}
use Rattle.ranges.specs.Sets.{in_set, ClassesAre, Apart, Merged}

-- v is in the class of u
abbrev pub Class : List ℕ → ℕ → ℕ → Type 0
Class sets u v = in_set (get_or sets u 0) v ≡ true

-- the classes are those that links between variables below N join; each variable past them is alone
pub record Partition (link : ℕ → ℕ → Bool) (N : ℕ) (sets : List ℕ) : Type 0 where
  pub own : (u : ℕ) → u < 24 → Class sets u u
  pub uniform : (u v : ℕ) → u < 24 → v < 24 → Class sets u v → get_or sets v 0 ≡ get_or sets u 0
  pub sound : (u v : ℕ) → u < N → Class sets u v → (v < N) × Joined link N u v
  pub complete : (u v : ℕ) → u < N → v < N → link u v ≡ true → Class sets u v

joined_more : (link more : ℕ → ℕ → Bool) (N : ℕ) → ((u v : ℕ) → link u v ≡ true → more u v ≡ true) → {u v : ℕ} → Joined link N u v
    → Joined more N u v
joined_more link more N f (self u h) = self u h
joined_more link more N f (one_link u v h l e) = one_link u v h l (f u v e)
joined_more link more N f (back u v j) = back u v (joined_more link more N f j)
joined_more link more N f (on u v w i j) = on u v w (joined_more link more N f i) (joined_more link more N f j)

-- with no links every variable is alone
pub partition_apart : (link : ℕ → ℕ → Bool) → ((u v : ℕ) → link u v ≡ false) → (N : ℕ) → N ≤ 24 → (sets : List ℕ) → Apart sets
    → Partition link N sets
partition_apart link none N few sets apart =
    record {
      own = λ u h. apart u h u ∙ eq-eqb u u refl;
      uniform = λ u v h l c. ap (λ (i : ℕ). get_or sets i 0) (sym (same u v h c));
      sound =
          λ u v h c.
          let e = same u v (omega arith) c in
          (subst (λ (i : ℕ). i < N) e h, subst (Joined link N u) e (self u h));
      complete = λ u v h l e. absurd (false≢true (sym (none u v) ∙ e));
    }
  where
    same : (u v : ℕ) → u < 24 → Class sets u v → u ≡ v
    same u v h c = eqb-true u v (sym (apart u h v) ∙ c)

-- the same links, said otherwise
pub partition_same : (link more : ℕ → ℕ → Bool) → ((u v : ℕ) → more u v ≡ link u v) → (N : ℕ) (sets : List ℕ)
    → Partition link N sets → Partition more N sets
partition_same link more e N sets p =
    record {
      own = p.own;
      uniform = p.uniform;
      sound =
          λ u v h c.
          let s = p.sound u v h c in
          (s.0, joined_more link more N (λ x y q. e x y ∙ q) s.1);
      complete = λ u v h l q. p.complete u v h l (sym (e u v) ∙ q);
    }

-- an equation with left leaves L and right leaves R, at least one of each
module _
    (link more : ℕ → ℕ → Bool)
    (N : ℕ)
    (few : N ≤ 24)
    (sets merged : List ℕ)
    (these : ℕ)
    (p : Partition link N sets)
    (m : Merged sets these merged)
    (L R : Variables)
    (ends : (u : ℕ) → in_set these u ≡ L u || R u)
    (adds : (u v : ℕ) → more u v ≡ link u v || (L u && R v || L v && R u))
    (low : (u : ℕ) → in_set these u ≡ true → u < N)
    (l r : ℕ)
    (left : L l ≡ true)
    (right : R r ≡ true) where
  abbrev all : ℕ
  all = m.all

  -- the class of a variable in the union, and of another
  inside : (u : ℕ) → u < 24 → in_set all u ≡ true → get_or merged u 0 ≡ all
  inside u h e = m.at u h ∙ ap (λ (b : Bool). cond b all (get_or sets u 0)) e

  outside : (u : ℕ) → u < 24 → in_set all u ≡ false → get_or merged u 0 ≡ get_or sets u 0
  outside u h e = m.at u h ∙ ap (λ (b : Bool). cond b all (get_or sets u 0)) e

  in_class : (u v : ℕ) → u < 24 → in_set all u ≡ true → in_set (get_or merged u 0) v ≡ in_set all v
  in_class u v h e = ap (λ (set : ℕ). in_set set v) (inside u h e)

  old_class : (u v : ℕ) → u < 24 → in_set all u ≡ false → in_set (get_or merged u 0) v ≡ in_set (get_or sets u 0) v
  old_class u v h e = ap (λ (set : ℕ). in_set set v) (outside u h e)

  -- of a class all are in the union, or none
  union_class : (u v : ℕ) → u < 24 → v < 24 → Class sets u v → in_set all v ≡ in_set all u
  union_class u v h k c =
      same_test (in_set all v) (in_set all u) (λ e. with_class u v h k (p.uniform u v h k c) e)
      (λ e. with_class v u k h (sym (p.uniform u v h k c)) e)
    where
      with_class : (x y : ℕ) → x < 24 → y < 24 → get_or sets y 0 ≡ get_or sets x 0 → in_set all y ≡ true → in_set all x ≡ true
      with_class x y h k q e =
          let w = m.union.in_union y e in
          let same : get_or sets w.0 0 ≡ get_or sets x 0 = sym (p.uniform w.0 y w.1 k w.3) ∙ q in
          m.union.has_union x (w.0, w.1, w.2, ap (λ (set : ℕ). in_set set x) same ∙ p.own x h)

  merged_own : (u : ℕ) → u < 24 → Class merged u u
  merged_own u h = go (in_set all u) refl
    where
      go : (b : Bool) → in_set all u ≡ b → Class merged u u
      go true e = in_class u u h e ∙ e
      go false e = old_class u u h e ∙ p.own u h

  merged_uniform : (u v : ℕ) → u < 24 → v < 24 → Class merged u v → get_or merged v 0 ≡ get_or merged u 0
  merged_uniform u v h k c = go (in_set all u) refl
    where
      go : (b : Bool) → in_set all u ≡ b → get_or merged v 0 ≡ get_or merged u 0
      go true e = inside v k (sym (in_class u v h e) ∙ c) ∙ sym (inside u h e)
      go false e =
          let old = sym (old_class u v h e) ∙ c in
          outside v k (union_class u v h k old ∙ e) ∙ p.uniform u v h k old ∙ sym (outside u h e)

  more_links : (u v : ℕ) → link u v ≡ true → more u v ≡ true
  more_links u v e = adds u v ∙ or_left (link u v) (L u && R v || L v && R u) e

  -- the right end r is joined with every end
  linked_ends : (u v : ℕ) → L u ≡ true → R v ≡ true → Joined more N u v
  linked_ends u v x y =
      one_link u v (low u (ends u ∙ or_left (L u) (R u) x)) (low v (ends v ∙ or_right (L v) (R v) y))
      (adds u v ∙ or_right (link u v) (L u && R v || L v && R u) (or_left (L u && R v) (L v && R u) (and_intro (L u) (R v) x y)))

  joined_ends : (u : ℕ) → in_set these u ≡ true → Joined more N u r
  joined_ends u e =
      elim (or_cases (L u) (R u) (sym (ends u) ∙ e)) [
        | inl x ↦ linked_ends u r x right
        | inr x ↦ on u l r (back l u (linked_ends l u left x)) (linked_ends l r left right)
      ]

  -- a variable in the union is joined with r
  joined_union : (u : ℕ) → in_set all u ≡ true → (u < N) × Joined more N u r
  joined_union u e =
      let w = m.union.in_union u e in
      let s = p.sound w.0 u (low w.0 w.2) w.3 in
      (s.0, on u w.0 r (back w.0 u (joined_more link more N more_links s.1)) (joined_ends w.0 w.2))

  merged_sound : (u v : ℕ) → u < N → Class merged u v → (v < N) × Joined more N u v
  merged_sound u v h c = go (in_set all u) refl
    where
      k : u < 24
      k = omega arith

      go : (b : Bool) → in_set all u ≡ b → (v < N) × Joined more N u v
      go true e =
          let j = joined_union v (sym (in_class u v k e) ∙ c) in
          (j.0, on u r v (joined_union u e).1 (back v r j.1))
      go false e =
          let s = p.sound u v h (sym (old_class u v k e) ∙ c) in
          (s.0, joined_more link more N more_links s.1)

  kept_class : (u v : ℕ) → u < 24 → v < 24 → Class sets u v → Class merged u v
  kept_class u v h k c = go (in_set all u) refl
    where
      go : (b : Bool) → in_set all u ≡ b → Class merged u v
      go true e = in_class u v h e ∙ union_class u v h k c ∙ e
      go false e = old_class u v h e ∙ c

  in_all : (u : ℕ) → u < 24 → L u || R u ≡ true → in_set all u ≡ true
  in_all u h e = m.union.has_union u (u, h, ends u ∙ e, p.own u h)

  merged_complete : (u v : ℕ) → u < N → v < N → more u v ≡ true → Class merged u v
  merged_complete u v h k e =
      elim (or_cases (link u v) (L u && R v || L v && R u) (sym (adds u v) ∙ e)) [
        | inl q ↦ kept_class u v hu hv (p.complete u v h k q)
        | inr q ↦
            elim (or_cases (L u && R v) (L v && R u) q) [
              | inl x ↦
                  both (or_left (L u) (R u) (and_left (L u) (R v) x)) (or_right (L v) (R v) (and_right (L u) (R v) x))
              | inr x ↦
                  both (or_right (L u) (R u) (and_right (L v) (R u) x)) (or_left (L v) (R v) (and_left (L v) (R u) x))
            ]
      ]
    where
      hu : u < 24
      hu = omega arith

      hv : v < 24
      hv = omega arith

      both : L u || R u ≡ true → L v || R v ≡ true → Class merged u v
      both x y = in_class u v hu (in_all u hu x) ∙ in_all v hv y

  pub partition_merge : Partition more N merged
  partition_merge =
      record { own = merged_own; uniform = merged_uniform; sound = merged_sound; complete = merged_complete }

-- joined variables are in one class
class_joined : (link : ℕ → ℕ → Bool) (N : ℕ) → N ≤ 24 → (sets : List ℕ) → Partition link N sets → {u v : ℕ} → Joined link N u v
    → (u < N) × (v < N) × Class sets u v
class_joined link N few sets p (self u h) = (h, h, p.own u (omega arith))
class_joined link N few sets p (one_link u v h l e) = (h, l, p.complete u v h l e)
class_joined link N few sets p (back u v j) =
    let r = class_joined link N few sets p j in
    let hu = r.0 in
    let hv = r.1 in
    (hv, hu, ap (λ (set : ℕ). in_set set u) (p.uniform u v (omega arith) (omega arith) r.2) ∙ p.own u (omega arith))
class_joined link N few sets p (on u v w i j) =
    let r = class_joined link N few sets p i in
    let q = class_joined link N few sets p j in
    let hu = r.0 in
    let hv = r.1 in
    (hu, q.1, sym (ap (λ (set : ℕ). in_set set w) (p.uniform u v (omega arith) (omega arith) r.2)) ∙ q.2)

-- the classes of all links of a table are its components
pub classes_are : (t : List Node) (N : ℕ) → N ≤ 24 → (sets : List ℕ) → Partition (linked t) N sets → ClassesAre t N sets
classes_are t N few sets p u v hu hv =
    let c = components t N u v hu hv in
    same_test (in_set (get_or sets u 0) v) (joined t N u v) (λ e. c.1 (p.sound u v hu e).1)
    (λ e. (class_joined (linked t) N few sets p (c.0 e)).2)
