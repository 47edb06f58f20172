-- The fast digits: digit v of the lanes goes on by one after each run, which is the product of the sizes before it. Assumes nothing.
use mathlib.Core.Path.{◌≡◌, refl, sym, ap, ◌∙◌, subst}
use Prim.Native.Nat.{ℕ, zero, suc, ◌+◌, ◌*◌, ◌/◌, ◌%◌, ◌≤◌, ◌<◌}
use native.Mathlib.Omega.{arith}
use native.Mathlib.Numerals.{add-one}
use native.Mathlib.Nat.{mul-le-mul_left, mod-lt, mod_self, div-one, div-add-mod', div-div-eq-div-mul, mul-mod_right, one-le-mul, le-mul_of_pos_right}
use mathlib.Core.List.{List, [], ◌∷◌}
use mathlib.Core.Logic.{◌⊎◌, inl, inr}
use lib.ListN.{length, get_or, take, drop, take-append-drop}
use lib.Seq.{take-suc, take-take, length-take-le, drop-cons}
use Rattle.definitions.specs.Lists.{product_of}
use Rattle.definitions.specs.Places.{digits_after}
use Rattle.theorems.proofs.Search.Places.{Positive, split_digits, product_positive, product_of_append}
use Rattle.theorems.proofs.Laws.Tests.{split}
use Rattle.walk.specs.Cells.{Filled, FastHeld, least_of}
use Rattle.walk.specs.Turning.{Turning}
use Rattle.walk.specs.Digits.{Parted, sizes_in, fast_of}
use Rattle.walk.specs.Laid.{DigitLaid, FastLaid, LanesReady}
use Rattle.walk.specs.declared.odometer.Odometer.{Odometer}
use Rattle.walk.specs.declared.split.Parts.{Parts}
use Rattle.walk.proofs.Slowing.{positive_drop}
use Rattle.walk.proofs.Turns.{positive}

positive_take : (n : ℕ) (xs : List ℕ) → Positive xs → Positive (take n xs)
positive_take zero xs p = tt
positive_take (suc n) [] p = tt
positive_take (suc n) (x ∷ xs) p = (p.0, positive_take n xs p.1)

divided : (s : ℕ) (ss : List ℕ) → 1 ≤ s → (p : ℕ) → digits_after (s ∷ ss) p ≡ p % s ∷ digits_after ss (p / s)
divided s ss h p = ap (digits_after (s ∷ ss)) (sym (div-add-mod' p s)) ∙ split_digits s ss (p / s) (p % s) (mod-lt p h)

-- digit v after so many steps
pub digit_after : (sizes : List ℕ) → Positive sizes → (v l : ℕ) → v < length sizes
    → l / product_of (take v sizes) % get_or sizes v 0 ≡ get_or (digits_after sizes l) v 0
digit_after [] p v l h = absurd (omega arith)
digit_after (s ∷ ss) p zero l h = ap (λ x. x % s) (div-one l) ∙ sym (ap (λ xs. get_or xs 0 0) (divided s ss p.0 l))
digit_after (s ∷ ss) p (suc v) l h =
    ap (λ x. x % get_or ss v 0) (sym (div-div-eq-div-mul l s (product_of (take v ss))))
    ∙ digit_after ss p.1 v (l / s) (omega arith)
    ∙ sym (ap (λ xs. get_or xs (suc v) 0) (divided s ss p.0 l))

module _ (fast : List ℕ) (good : Positive fast) (v : ℕ) (h : v < length fast) where
  abbrev run : ℕ
  run = product_of (take v fast)

  abbrev size : ℕ
  size = get_or fast v 0

  abbrev rest : ℕ
  rest = product_of (drop (suc v) fast)

  cons : drop v fast ≡ size ∷ drop (suc v) fast
  cons = drop-cons fast v 0 h

  parts : product_of fast ≡ run * (size * rest)
  parts =
      ap product_of (sym (take-append-drop v fast)) ∙ product_of_append (take v fast) (drop v fast) ∙ ap (λ xs. run * product_of xs) cons

  pub run_some : 1 ≤ run
  run_some = product_positive (take v fast) (positive_take v fast good)

  late : Positive (size ∷ drop (suc v) fast)
  late = subst Positive cons (positive_drop v fast good)

  pub size_some : 1 ≤ size
  size_some = late.0

  rest_some : 1 ≤ rest
  rest_some = product_positive (drop (suc v) fast) late.1

  pub run_whole : product_of fast % run ≡ 0
  run_whole = ap (λ x. x % run) parts ∙ mul-mod_right run (size * rest)

  pub run_small : run ≤ product_of fast
  run_small = subst (λ x. run ≤ x) (sym parts) (le-mul_of_pos_right run (one-le-mul size_some rest_some))

  pub run_next : run * size ≡ product_of (take (v + 1) fast)
  run_next =
      let o : size * 1 ≡ size = omega arith in
      ap (λ x. run * x) (sym o)
      ∙ sym (product_of_append (take v fast) (size ∷ []))
      ∙ ap product_of (sym (take-suc fast v 0 h))
      ∙ ap (λ n. product_of (take n fast)) (sym (add-one v))

module _ (S N : ℕ) (fast : List ℕ) (good : Positive fast) (v : ℕ) (h : v < length fast) (fits : product_of fast ≤ S) (before cells after : List ℕ)
    (f : FastLaid S N fast v before cells) (lanes run size least : ℕ) (lanes_are : lanes ≡ product_of fast)
    (run_is : run ≡ product_of (take v fast)) (size_is : size ≡ get_or fast v 0) (least_is : least ≡ least_of N v)
    (d : DigitLaid (S * (2 + v)) lanes run size least cells after) where
  digit_is : (l : ℕ) → l / run % size + least ≡ get_or (digits_after fast l) v 0 + least_of N v
  digit_is l =
      ap (λ x. l / x % size + least) run_is
      ∙ ap (λ x. l / product_of (take v fast) % x + least) size_is
      ∙ ap (λ x. l / product_of (take v fast) % get_or fast v 0 + x) least_is
      ∙ ap (λ x. x + least_of N v) (digit_after fast good v l h)

  held : FastHeld S N fast v after
  held l g = d.inside l (omega arith) ∙ digit_is l

  earlier : (i l : ℕ) → i < v → l < S → S * (2 + i) + l < S * (2 + v)
  earlier i l u g =
      let m : S * (3 + i) ≤ S * (2 + v) = mul-le-mul_left S (omega arith) in
      let q : S * (3 + i) ≡ S * (2 + i) + S = omega arith in
      omega arith

  pub fast_more : FastLaid S N fast (v + 1) before after
  fast_more =
      record {
        laid =
            λ i u.
            elim (split i v) [
              | inl w ↦ (λ l g. d.outside (S * (2 + i) + l) (earlier i l w (omega arith)) ∙ f.laid i w l g)
              | inr w ↦ subst (λ k. FastHeld S N fast k after) (let q : v ≡ i = omega arith in q) held
            ];
        outside =
            λ i u.
            (let m : S * 2 ≤ S * (2 + v) = mul-le-mul_left S (omega arith) in
            d.outside i (omega arith) ∙ f.outside i u);
      }

-- false, true and all fast digits
pub lanes_ready : (S N : ℕ) (fast : List ℕ) (k : ℕ) → length fast ≡ k → (c₀ c₁ c₂ c₃ : List ℕ) → Filled S 0 0 c₀ c₁ → Filled S S 1 c₁ c₂
    → FastLaid S N fast k c₂ c₃ → LanesReady S N fast c₃
lanes_ready S N fast k e c₀ c₁ c₂ c₃ a b f =
    record {
      constant =
          record {
            no =
                λ l h.
                (let q : S * 0 + l ≡ 0 + l = omega arith in
                ap (λ i. get_or c₃ i 0) q ∙ f.outside (0 + l) (omega arith) ∙ b.outside (0 + l) (inl (omega arith)) ∙ a.inside l h);
            yes =
                λ l h.
                (let q : S * 1 + l ≡ S + l = omega arith in
                ap (λ i. get_or c₃ i 0) q ∙ f.outside (S + l) (omega arith) ∙ b.inside l h);
          };
      fast_held = λ v h. f.laid v (omega arith);
    }

-- a digit of a single value is the same whatever its runs
other_run : (at lanes same run size least : ℕ) (before after : List ℕ) → (size ≡ 1) ⊎ (same ≡ run) → DigitLaid at lanes same size least before after
    → DigitLaid at lanes run size least before after
other_run at lanes same run size least before after (inr e) d = subst (λ r. DigitLaid at lanes r size least before after) e d
other_run at lanes same run size least before after (inl e) d =
    record {
      inside =
          λ l h.
          d.inside l h
          ∙ (let a = mod-lt (l / same) {m = size} (omega arith) in
          let b = mod-lt (l / run) {m = size} (omega arith) in
          let q : l / same % size + least ≡ l / run % size + least = omega arith in
          q);
      outside = d.outside;
    }

-- the sizes of the fast digits, as the code has them
module _ (o : Odometer) (p : Parts) (q : Parted o p) where
  abbrev t : Turning o.digits o.sizes o.count
  t = o.turning

  pub fast_are : take p.fast o.sizes ≡ fast_of o p
  fast_are = sym (take-take p.fast o.count o.sizes q.fast_few)

  pub fast_positive : Positive (take p.fast o.sizes)
  fast_positive = subst Positive (sym fast_are) (positive_take p.fast (sizes_in o) (positive o))

  pub fast_length : length (take p.fast o.sizes) ≡ p.fast
  fast_length =
      let a = t.sizes_long in
      let b = t.few in
      let c = q.fast_few in
      length-take-le p.fast o.sizes (omega arith)

  pub fast_many : length (fast_of o p) ≡ p.fast
  fast_many = ap length (sym fast_are) ∙ fast_length

  pub fast_product : p.lanes ≡ product_of (take p.fast o.sizes)
  fast_product = q.lanes_are ∙ ap product_of (sym fast_are)

  -- digit v: its run, which is whole in the lanes, and its size
  module _ (v : ℕ) (h : v < p.fast) (run : ℕ) (run_is : run ≡ product_of (take v (take p.fast o.sizes))) where
    abbrev fast : List ℕ
    fast = take p.fast o.sizes

    below : v < length fast
    below = let e = fast_length in omega arith

    pub digit_fits : (1 ≤ run) × (run ≤ 128) × (p.lanes ≤ 128) × (p.lanes % run ≡ 0) × (1 ≤ get_or fast v 0)
    digit_fits =
        let lanes = fast_product in
        let a = q.lanes_fit in
        let b = q.chunks_few in
        let some = run_some fast fast_positive v below in
        let small = run_small fast fast_positive v below in (
          omega arith,
          omega arith,
          omega arith,
          ap (λ x. x % run) lanes ∙ ap (λ x. product_of fast % x) run_is ∙ run_whole fast fast_positive v below,
          size_some fast fast_positive v below,
        )

    -- it may be laid in runs of all lanes, too
    pub laid_fits : (same : ℕ) → (same ≡ p.lanes) ⊎ (same ≡ run) → (1 ≤ same) × (same ≤ 128) × (p.lanes % same ≡ 0)
    laid_fits same h =
        let some = q.lanes_some in
        let f = digit_fits in
        elim h [
          | inl e ↦ (omega arith, omega arith, ap (λ x. p.lanes % x) e ∙ mod_self p.lanes)
          | inr e ↦ (omega arith, omega arith, ap (λ x. p.lanes % x) e ∙ f.3)
        ]

    pub digit_room : 16 * p.chunks * (2 + v) + p.lanes + 15 ≤ 16 * p.chunks * 43
    digit_room =
        let S = 16 * p.chunks in
        let a = q.lanes_fit in
        let b = q.lanes_some in
        let c = t.few in
        let d = q.fast_few in
        let m : S * (4 + v) ≤ S * 43 = mul-le-mul_left S (omega arith) in
        let e : S * (4 + v) ≡ S * (2 + v) + S + S = omega arith in
        omega arith

    pub run_after : (size : ℕ) → size ≡ get_or fast v 0 → run * size ≡ product_of (take (v + 1) fast)
    run_after size e = ap (λ x. x * size) run_is ∙ ap (λ x. product_of (take v fast) * x) e ∙ run_next fast fast_positive v below

    pub digit_more : (N : ℕ) (before cells after : List ℕ) → FastLaid (16 * p.chunks) N fast v before cells → (least : ℕ) → least ≡ least_of N v
        → (same : ℕ) → (get_or fast v 0 ≡ 1) ⊎ (same ≡ run) → DigitLaid (16 * p.chunks * (2 + v)) p.lanes same (get_or fast v 0) least cells after
        → FastLaid (16 * p.chunks) N fast (v + 1) before after
    digit_more N before cells after f least e same h d =
        let lanes = fast_product in
        let a = q.lanes_fit in
        fast_more (16 * p.chunks) N fast fast_positive v below (omega arith) before cells after f p.lanes run (get_or fast v 0) least
        lanes run_is refl e (other_run _ _ _ _ _ _ _ _ h d)
