-- The bytes that a reply stands for. Assumes nothing.
use Rattle.std.specs.Prelude.{ℕ, List}
use Rattle.definitions.specs.Operations.Host.{thirty_two}
use Rattle.host.specs.declared.Reply.{Reply}

abbrev pub reply_bytes : Reply → List ℕ
reply_bytes r = thirty_two r.verdict r.refusal r.written r.place r.tried r.product
