use Rattle.std.proofs.Common.{◌++◌, [], ◌∷◌, length, ap, ◌∙◌, arith}
use Rattle.bz_explore_net.specs.Stepping.{Played}
use Rattle.bz_explore_net.proofs.stepping.Stepping.run.Goals as goal

pub returns-then-journal-mark-clause-marked : goal.returns-then-journal-mark-clause-marked
returns-then-journal-mark-clause-marked c =
    let mark = c.in_ok-mark.mark in let is = c.in_ok-mark.ensures in
    let long = c.if-journal-mark.true in let same = ap length c.journal-2.ensures.entries in let was = is.entries in
    record {
      mark = mark;
      is = is;
      grew = λ lt. rw (c.push.ensures.items, c.unwrap.ensures) (ap (λ xs. xs ++ mark ∷ []) c.reserve.ensures.items ∙ ap (λ (v : Played). v.marks ++ mark ∷ []) c.self.view_is);
      stayed = λ le. absurd (omega (arith, long, same, was, le));
    }

pub returns-else-journal-mark-clause-marked : goal.returns-else-journal-mark-clause-marked
returns-else-journal-mark-clause-marked c =
    let mark = c.in_ok-mark.mark in let is = c.in_ok-mark.ensures in
    let short = c.if-journal-mark.false in let same = ap length c.journal-2.ensures.entries in let was = is.entries in
    record {
      mark = mark;
      is = is;
      grew = λ lt. absurd (omega (arith, short, same, was, lt));
      stayed = λ le. c.reserve.ensures.items ∙ ap (λ (v : Played). v.marks) c.self.view_is;
    }
