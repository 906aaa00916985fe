use Rattle.std.proofs.Common.{Some, arith}
use Rattle.std.proofs.lemmas.Str.Pattern.{split_parts}
use Rattle.bz_words.proofs.Commands.{host_word}
use Rattle.bz_words.proofs.words.command.Goals as goal

pub returns-clause-some : goal.returns-clause-some
returns-clause-some c =
    let parts = split_parts 58 c.args.word.now (Some (c.in-Some.head, c.in-Some.rest)) c.in-Some.ensures.cases (omega arith) in
    let made = rw c.in-Some-2.is at c.in_ok-command.ensures.some in
    let verb = c.in-Some-verb.ensures.some in
    host_word c.args.word.now _ _ c.in-Some-verb.verb _ _ _ parts.0 verb made.0 made.1
