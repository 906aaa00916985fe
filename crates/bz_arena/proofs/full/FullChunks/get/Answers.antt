use Rattle.std.proofs.Common.{◌<◌, ◌%◌, List, length, get_or, sym, ap, ◌∙◌, arith}
use Rattle.bz_arena.specs.Chunks.{joined}
use Rattle.bz_arena.proofs.Joined.{chunk_in, node_get}
use Rattle.bz_arena.proofs.full.FullChunks.get.Goals as goal

pub index-requires : goal.index-requires
index-requires g c =
    let fs = c.self.inside.list.items in
    let lt : c.args.index < length (joined fs) = omega (arith, ap length c.self.view_is) in
    omega (arith, chunk_in fs c.args.index lt, c.self.inside.list.ok)

pub returns : goal.returns
returns g c =
    let i = c.args.index in let fs = c.self.inside.list.items in let d = c.index.result.now in let x = c.get.result.now in
    let lt : i < length (joined fs) = omega (arith, ap length c.self.view_is) in
    c.get.ensures ∙ ap (λ f. get_or f.chunk (i % 256) x) c.index.ensures ∙ sym (node_get fs i lt d x) ∙ ap (λ (l : List g.row.T.Denot). get_or l i x) c.self.view_is
