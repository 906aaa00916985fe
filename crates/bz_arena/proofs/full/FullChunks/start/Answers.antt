use Rattle.std.proofs.Common.{◌++◌, ◌∷◌, [], List, ap, ◌∙◌}
use Rattle.bz_arena.specs.Chunks.{joined}
use Rattle.bz_arena.proofs.Joined.{joined_more}
use Rattle.bz_arena.proofs.full.FullChunks.start.Goals as goal

pub returns-clause-appended : goal.returns-clause-appended
returns-clause-appended g c =
    let fs = c.self.inside.list.items in let full = c.into_full.result in let new = c.replace-before.new.dest in
    ap (λ l. joined l ++ new) (c.in-Ok.ensures.items ∙ ap (λ l. l ++ full ∷ []) c.reserve.ensures.items)
    ∙ ap (λ (l : List g.row.T.Denot). l ++ new) (joined_more fs full ∙ ap (λ (l : List g.row.T.Denot). joined fs ++ l) (c.into_full.ensures ∙ c.replace-before.ensures.value))
    ∙ ap (λ (l : List g.row.T.Denot). (l ++ c.args.last.now) ++ new) c.self.view_is
    ∙ ap (λ (l : List g.row.T.Denot). (c.args.self.now ++ c.args.last.now) ++ l) (c.replace-before.ensures.after ∙ c.in_ok-chunk.ensures.made)
