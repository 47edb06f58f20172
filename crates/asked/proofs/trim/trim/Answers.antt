use Rattle.std.proofs.Common.{◌∙◌, length, refl, sym, ap, arith}
use Rattle.definitions.specs.Problem.Check.{symbol_count}
use Rattle.problem.proofs.NodeLaws.{length_nodes_of}
use Rattle.asked.proofs.Renumbering.{reached_few_of}
use Rattle.asked.proofs.Trimming.{symbols_length, asked_shape, trims_after}
use Rattle.asked.proofs.trim.trim.Goals as goal

pub reach-count-requires : goal.reach-count-requires
reach-count-requires c =
    let ok = c.requires.0 in
    (ok.table, omega (arith, length_nodes_of c.args.problem.now, ok.is_node), refl)

pub put_front-requires : goal.put_front-requires
put_front-requires c =
    let ok = c.requires.0 in (
      omega arith,
      omega (arith, ap length c.symbol_bytes.ensures, symbols_length ok.table, ok.table.few_symbols),
      omega (arith, c.reach-count.ensures.counted, reached_few_of ok),
    )

pub overflow_add-result : goal.overflow_add-result
overflow_add-result c = omega (arith, c.problem.invariant.few_symbols)

pub overflow_mul-result : goal.overflow_mul-result
overflow_mul-result c = omega (arith, c.reach-count.ensures.counted, reached_few_of c.requires.0)

pub overflow_add-result-2 : goal.overflow_add-result-2
overflow_add-result-2 c = omega (arith, c.reach-count.ensures.counted, reached_few_of c.requires.0, c.problem.invariant.few_symbols)

-- the front and the nodes are the problem asked
pub returns : goal.returns
returns c =
    trims_after c.requires.0 c.reach-count.result c.reach-count.ensures.counted c.problem.inside.symbols
    (c.problem.invariant.symbols_are ∙ ap symbol_count c.problem.view_is) _ _ _ _ c.symbol_bytes.ensures c.put_front.ensures c.put_front.auto.whole
    c.requires.1 c.lay_reached.ensures

pub invariant_of-result : goal.invariant_of-result
invariant_of-result c =
    asked_shape c.requires.0 c.reach-count.result c.reach-count.ensures.counted _ (returns c)
    (c.problem.invariant.symbols_are ∙ ap symbol_count c.problem.view_is) refl

pub slice_bounds-result-end : goal.slice_bounds-result-end
slice_bounds-result-end c = sym (invariant_of-result c).whole
