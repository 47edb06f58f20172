-- What the header has settled when the nodes are read: the counts, and that the bytes are all there. Assumes nothing.
use Rattle.std.specs.Prelude.{◌≡◌, ◌+◌, ◌*◌, ◌≤◌, length}
use Rattle.definitions.specs.Problem.Check.{symbol_count, node_count}
use Rattle.problem.specs.declared.head.Problem.TheInside.{Inside}

pub record Shaped (p : Inside) : Type 0 where
  pub symbols_are : p.symbols ≡ symbol_count p.bytes.now
  pub nodes_are : p.nodes ≡ node_count p.bytes.now
  pub few_symbols : p.symbols ≤ 32
  pub some_nodes : 1 ≤ p.nodes
  pub few_nodes : p.nodes ≤ 256
  pub whole : length p.bytes.now ≡ 8 + p.symbols + 8 * p.nodes
