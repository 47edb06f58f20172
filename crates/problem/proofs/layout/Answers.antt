use Rattle.std.specs.Prelude as std
use Rattle.std.proofs.Common.{◌≡◌, ℕ, List, [], not, refl, ap, ◌∙◌}
use Rattle.std.specs.List.{position}
use Rattle.definitions.specs.Lists.{first_failing}
use Rattle.definitions.specs.Problem.Check.{symbols_of, nodes_of, symbol_byte_right, first_wrong}
use Rattle.problem.specs.Stages.{found_of, Passed}
use Rattle.problem.proofs.Finding.{position_failing}
use Rattle.problem.proofs.Stages.{refused_found, passed_nothing}
use Rattle.theorems.proofs.Accepted.{layout_of}
use Rattle.problem.proofs.layout.Goals as goal

-- the searches of conditions 6 and 7 are the definition's
searched : {found : std.Option ℕ} {bytes p s : List ℕ} → found ≡ position (λ byte. not (symbol_byte_right byte)) bytes → bytes ≡ symbols_of p → p ≡ s
    → found_of found ≡ first_failing symbol_byte_right 0 (symbols_of s)
searched {bytes = bytes} e b p = ap found_of e ∙ position_failing symbol_byte_right bytes ∙ ap (first_failing symbol_byte_right 0) (b ∙ ap symbols_of p)

wrong : (found : std.Option ℕ) {p s : List ℕ} → found_of found ≡ first_wrong (symbols_of p) [] (nodes_of p) → p ≡ s
    → found_of found ≡ first_wrong (symbols_of s) [] (nodes_of s)
wrong found e p = e ∙ ap (λ s. first_wrong (symbols_of s) [] (nodes_of s)) p

pub returns-in-Some : goal.returns-in-Some
returns-in-Some c =
    refused_found c.args.bytes.now 5 _ refl c.in_ok-problem.ensures.1 (searched c.first_bad.ensures c.symbol_bytes.ensures c.in_ok-problem.ensures.0) c.in-Some.is

pub returns-in-Some-first_wrong : goal.returns-in-Some-first_wrong
returns-in-Some-first_wrong c =
    let passed : Passed 6 c.args.bytes.now =
    passed_nothing c.args.bytes.now 5 _ refl c.in_ok-problem.ensures.1 (searched c.first_bad.ensures c.symbol_bytes.ensures c.in_ok-problem.ensures.0) c.in_default.is in
    refused_found c.args.bytes.now 6 _ refl passed (wrong c.first_wrong.result c.first_wrong.ensures c.in_ok-problem.ensures.0) c.in-Some-first_wrong.is

pub returns : goal.returns
returns c =
    let passed : Passed 6 c.args.bytes.now =
    passed_nothing c.args.bytes.now 5 _ refl c.in_ok-problem.ensures.1 (searched c.first_bad.ensures c.symbol_bytes.ensures c.in_ok-problem.ensures.0) c.in_default.is in
    (c.in_ok-problem.ensures.0, layout_of c.args.bytes.now (passed_nothing c.args.bytes.now 6 _ refl passed (wrong c.first_wrong.result c.first_wrong.ensures c.in_ok-problem.ensures.0) c.in_default-first_wrong.is))
