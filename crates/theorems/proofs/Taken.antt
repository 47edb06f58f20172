-- What an answer of decide says of the input: which refusals did not apply. Assumes nothing.
use mathlib.Core.Path.{◌≡◌, refl}
use Prim.Native.Nat.{ℕ, ◌^◌, ◌≤◌}
use native.Mathlib.Omega.{arith}
use mathlib.Core.List.{List, [], ◌∷◌}
use mathlib.Core.Option.{Option, none, some}
use lib.Dec.{ltb}
use borrow.Author.Tests.{ltb-false}
use Rattle.definitions.specs.Problem.Check.{Refused}
use Rattle.definitions.specs.Problem.Asked.{asked, refusal_of}
use Rattle.definitions.specs.Ranges.{product}
use Rattle.definitions.specs.Operations.Answers.{short_work, short_witness, big_product, eliminate_refusal, buffers_refusal, decide_refusal, refused, given, unless}
use Rattle.theorems.proofs.Laws.First.{all_none}
use Rattle.theorems.proofs.Accepted.{Accepted, if_none}
use Rattle.theorems.proofs.Asked.Formed.{Named, accepted}

-- the input is taken: no refusal applies
pub record Taken (s : List ℕ) (root work room : ℕ) : Type 0 where
  pub names : Named s root
  pub problem : Accepted (asked s root)
  pub work_long : 21056 ≤ work
  pub room_long : 206 ≤ room
  pub product_small : product (asked s root) ≤ 10 ^ 18

-- where the table is laid, the root is a formula node and the problem asked is accepted
pub laid_accepted : (s : List ℕ) (root work room : ℕ) → buffers_refusal s root work room ≡ none → Named s root × Accepted (asked s root)
unfolding buffers_refusal eliminate_refusal
laid_accepted s root work room e =
    accepted s root
    (all_none (refusal_of s root ∷ short_work work ∷ [])
    (all_none (eliminate_refusal s root work ∷ short_witness room ∷ []) e).0).0

pub taken : (s : List ℕ) (root work room : ℕ) → decide_refusal s root work room ≡ none → Taken s root work room
unfolding decide_refusal buffers_refusal eliminate_refusal
taken s root work room e =
    let big = product (asked s root) in
    let c = all_none (buffers_refusal s root work room ∷ big_product (asked s root) ∷ []) e in
    let b = all_none (eliminate_refusal s root work ∷ short_witness room ∷ []) c.0 in
    let a = all_none (refusal_of s root ∷ short_work work ∷ []) b.0 in
    let ok = accepted s root a.0 in
    record {
      names = ok.0;
      problem = ok.1;
      work_long = ltb-false work 21056 (if_none (ltb work 21056) 11 a.1.0);
      room_long = ltb-false room 206 (if_none (ltb room 206) 12 b.1.0);
      product_small = ltb-false (10 ^ 18) big (if_none (ltb (10 ^ 18) big) 13 c.1.0);
    }

-- values are answered only where nothing refuses
pub given_taken : {A : Type 0} (o : Option Refused) (v w : A) → given w ≡ unless o v → (o ≡ none) × (w ≡ v)
given_taken none v w e = (refl, cc)
given_taken (some r) v w e = absurd (let z : ◌≡◌ {A = ℕ} 0 1 = cc in omega arith)

-- and a refusal only where it refuses
pub refused_taken : {A : Type 0} (o : Option Refused) (v : A) (q : Refused) → refused q ≡ unless o v → o ≡ some q
refused_taken none v q e = absurd (let z : ◌≡◌ {A = ℕ} 0 1 = cc in omega arith)
refused_taken (some r) v q e = cc
