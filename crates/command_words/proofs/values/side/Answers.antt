use Rattle.std.proofs.Common.{◌≤◌, arith}
use Rattle.command_words.proofs.OptionNumbers.{read_within, wider}
use Rattle.command_words.proofs.values.side.Goals as goal

pub number-requires : goal.number-requires
number-requires c = wider _ _ _ _ _ c.requires (omega arith)

pub overflow_cast-result : goal.overflow_cast-result
overflow_cast-result c =
    let within : (1 ≤ c.number.result) × (c.number.result ≤ 8) = read_within _ _ _ _ _ c.number.ensures c.requires in
    omega arith

pub returns-clause-some : goal.returns-clause-some
returns-clause-some c = (read_within _ _ _ _ _ c.number.ensures c.requires).0

pub returns-clause-few : goal.returns-clause-few
returns-clause-few c = (read_within _ _ _ _ _ c.number.ensures c.requires).1
