use Rattle.std.proofs.Common.{◌≡◌, ◌-◌, ◌∙◌, arith, length, drop, take}
use Rattle.std.proofs.lemmas.List.{length-drop, take_all, get_or-drop}
use Rattle.bz_bits.proofs.Firsts.{zeros_on}
use Rattle.bz_bits.proofs.bits.count_zeros.Goals as goal

pub returns-clause-zeros : goal.returns-clause-zeros
returns-clause-zeros c k lt =
    let ws = c.args.words.now in let b = c.pass_fours-before.result in let rest = drop b ws in
    let whole : take (length ws - b) rest ≡ rest = take_all (length ws - b) rest (omega (arith, length-drop b ws)) in
    let zeros = rw whole at c.count_singly.ensures.zeros in
    let within = rw whole at c.count_singly.ensures.within in
    zeros_on ws b c.count_singly.result c.pass_fours-before.ensures.zeros within zeros k lt

pub returns-clause-stops : goal.returns-clause-stops
returns-clause-stops c lt z =
    let ws = c.args.words.now in let b = c.pass_fours-before.result in let rest = drop b ws in
    let whole : take (length ws - b) rest ≡ rest = take_all (length ws - b) rest (omega (arith, length-drop b ws)) in
    let stops = rw whole at c.count_singly.ensures.stops in
    stops (omega (arith, lt, length-drop b ws)) (get_or-drop b ws c.count_singly.result 0 ∙ z)
