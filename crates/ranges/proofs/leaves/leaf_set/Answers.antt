use Rattle.std.proofs.Common.{ℕ, ◌^◌, ◌∙◌, ap, subst, sym, arith, get_or}
use Rattle.std.proofs.lemmas.Nat.{one_shl}
use Rattle.definitions.specs.Problem.Node.{node}
use Rattle.problem.specs.declared.ops.Op.TheVariants.{Apply, Choose}
use Rattle.ranges.specs.Sets.{in_set, LeafSet}
use Rattle.ranges.specs.Table.{table_in}
use Rattle.ranges.proofs.NodeLaws.{symbol_is, b_is, c_is, op_is, op_is_not}
use Rattle.ranges.proofs.TableLaws.{variable_in, variable_set, choice_in, choice_set, other_set}
use Rattle.ranges.proofs.leaves.leaf_set.Goals as goal

pub overflow_shl-result : goal.overflow_shl-result
overflow_shl-result c =
    let n = c.node-node.ensures in
    omega (arith, symbol_is n, variable_in c.args.table.well_formed c.args.k c.requires.within (op_is n c.from.ensures Apply c.in-Apply.is))

pub returns-in-Apply : goal.returns-in-Apply
returns-in-Apply c v =
    let n = c.node-node.ensures in
    let q = op_is n c.from.ensures Apply c.in-Apply.is in
    let low = variable_in c.args.table.well_formed c.args.k c.requires.within q in
    ap (λ (x : ℕ). in_set x v) (one_shl _ 32 (omega (arith, symbol_is n, low)))
    ∙ ap (λ (x : ℕ). in_set (2 ^ x) v) (symbol_is n)
    ∙ variable_set c.args.table.well_formed c.args.k c.requires.within q v

pub bounds-sets-b : goal.bounds-sets-b
bounds-sets-b c =
    let n = c.node-node.ensures in
    let o = choice_in c.args.table.well_formed c.args.k c.requires.within (op_is n c.from.ensures Choose c.in-Choose.is) in
    omega (arith, b_is n, c.from-b.ensures, o.2.0)

pub bounds-sets-c : goal.bounds-sets-c
bounds-sets-c c =
    let n = c.node-node.ensures in
    let o = choice_in c.args.table.well_formed c.args.k c.requires.within (op_is n c.from.ensures Choose c.in-Choose.is) in
    omega (arith, c_is n, c.from-c.ensures, o.2.2.0)

pub returns-in-Choose : goal.returns-in-Choose
returns-in-Choose c =
    let n = c.node-node.ensures in
    let q = op_is n c.from.ensures Choose c.in-Choose.is in
    let w = c.args.table.well_formed in
    let sets = c.args.sets.now in
    let t = table_in c.args.table.bytes.now c.args.table.shape.nodes in
    let m = node t c.args.k in
    let o = choice_in w c.args.k c.requires.within q in
    choice_set w c.args.k c.requires.within q _ _
    (subst (λ (i : ℕ). LeafSet t m.b (get_or sets i 0)) (sym (c.from-b.ensures ∙ b_is n)) (c.requires.before m.b o.2.0))
    (subst (λ (i : ℕ). LeafSet t m.c (get_or sets i 0)) (sym (c.from-c.ensures ∙ c_is n)) (c.requires.before m.c o.2.2.0))

pub returns-in_default : goal.returns-in_default
returns-in_default c =
    let n = c.node-node.ensures in
    other_set c.args.table.well_formed c.args.k c.requires.within (op_is_not n c.from.ensures Apply c.in_default.not-Apply)
    (op_is_not n c.from.ensures Choose c.in_default.not-Choose)
