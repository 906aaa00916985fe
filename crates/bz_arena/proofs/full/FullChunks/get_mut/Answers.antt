use Rattle.std.proofs.Common.{◌<◌, ◌%◌, List, length, get_or, set, refl, sym, ap, ◌∙◌, arith}
use Rattle.bz_arena.specs.Chunks.{joined}
use Rattle.bz_arena.specs.Lends.{with_node}
use Rattle.bz_arena.proofs.Joined.{chunk_in, node_get, node_set}
use Rattle.bz_arena.proofs.full.FullChunks.get_mut.Goals as goal

pub index_mut-chunk-requires : goal.index_mut-chunk-requires
index_mut-chunk-requires g c =
    let fs = c.self.inside.list.items in
    let lt : c.args.index < length (joined fs) = omega (arith, ap length c.self.view_is) in
    omega (arith, chunk_in fs c.args.index lt, c.self.inside.list.ok)

pub returns : goal.returns
returns g c =
    let i = c.args.index in let fs = c.self.inside.list.items in let d = c.index_mut-chunk.result.now in let x = c.get_mut.result.now in
    let lt : i < length (joined fs) = omega (arith, ap length c.self.view_is) in let at = c.index_mut-chunk.ensures.value in (
      (
        refl,
        λ w. node_set fs i lt d (with_node d (i % 256) w) w (ap (λ f. set f.chunk (i % 256) w) at) ∙ ap (λ (l : List g.row.T.Denot). set l i w) c.self.view_is,
      ),
      record {
        writes_back = tt;
        value = c.get_mut.ensures.value ∙ ap (λ f. get_or f.chunk (i % 256) x) at ∙ sym (node_get fs i lt d x) ∙ ap (λ (l : List g.row.T.Denot). get_or l i x) c.self.view_is;
      },
    )
