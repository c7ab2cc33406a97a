use Rattle.std.proofs.Common.{◌-◌, length, take, drop, map, string_bytes}
use Rattle.vdo_words.specs.Given.{given}
use Rattle.vdo_words.proofs.ReadingLaws.{within-by}
use Rattle.vdo_words.proofs.command_reader.read_command.Goals as goal

pub returns-clause-within : goal.returns-clause-within
returns-clause-within c =
    let words = c.args.words.now in
    let rest = take (length words - 1) (drop 1 words) in
    within-by c.as_str.result.now (given (map string_bytes rest)) c.named.result c.ok_or.result c.named.ensures c.ok_or.ensures.value
