use Rattle.std.proofs.Common.{arith, ◌≡◌, ℕ, ◌<◌, ◌⊎◌, inl, inr, sym, subst}
use Rattle.std.proofs.lemmas.List.{length-replicate}
use Rattle.std.proofs.Math.Option.{some}
use Rattle.definitions.specs.Problem.Ops.{term, operand_sorts, count_of}
use Rattle.problem.specs.declared.ops.Op.{Op}
use Rattle.problem.specs.declared.ops.Op.TheVariants.{Apply, Test, Equal}
use Rattle.problem.specs.Ops.{op_read}
use Rattle.problem.specs.Wanted.{sort_wanted}
use Rattle.problem.proofs.NodeLaws.{wants_term}
use Rattle.problem.proofs.ops.Op.wants.Goals as goal

-- an op wants a term where it uses field j and is one that takes terms alone
abbrev Terms : ℕ → ℕ → Op → Type 0
Terms arity j op = j < count_of (operand_sorts (op_read op) arity) → some term ≡ sort_wanted (operand_sorts (op_read op) arity) j

wants : (arity j : ℕ) (op : Op) → (op ≡ Apply) ⊎ (op ≡ Test) ⊎ (op ≡ Equal) → Terms arity j op
wants arity j op (inl e) = subst (Terms arity j) (sym e) (λ h. sym (wants_term arity j (omega (arith, length-replicate arity term, h))))
wants arity j op (inr (inl e)) = subst (Terms arity j) (sym e) (λ h. sym (wants_term arity j (omega (arith, length-replicate arity term, h))))
wants arity j op (inr (inr e)) = subst (Terms arity j) (sym e) (λ h. sym (wants_term 2 j h))

pub returns-in-Apply : goal.returns-in-Apply
returns-in-Apply c = wants _ _ c.args.self c.in-Apply.is (subst (λ n. c.args.j < n) c.in_use.ensures c.if-in_use-j.false)
