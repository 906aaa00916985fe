use Rattle.std.proofs.Common.{rules}
use Rattle.bz_trace_text.proofs.Kept.{two_words}
use Rattle.bz_trace_text.proofs.line.set_words.Goals as goal

pub returns : goal.returns
returns c =
    let a = c.args in two_words a.at a.bytes.now c.set_word.new.bytes _ a.first a.second c.requires (search rules) (search rules) c.set_word.ensures c.set_word-2.ensures
