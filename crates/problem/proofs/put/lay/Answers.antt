use Rattle.problem.proofs.Laying.{laid_tail, snoc_count}
use Rattle.problem.proofs.put.lay.Goals as goal

pub returns : goal.returns
returns c =
    record {
      lays = λ t w l e. laid_tail t _ _ w _ _ l e c.put_node.ensures;
      counts = λ t l. snoc_count t _ _ l;
    }
