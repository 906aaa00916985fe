use Rattle.std.proofs.Common.{◌<◌, ◌/◌, ◌%◌, ℕ, List, length, get_or, sym, ap, ◌∙◌, arith}
use Rattle.bz_arena.specs.Chunks.{joined}
use Rattle.bz_arena.proofs.Joined.{chunk_in, node_get}
use Rattle.bz_arena.proofs.full.FullChunks.pair_mut.Goals as goal

pub index_mut-chunk-requires : goal.index_mut-chunk-requires
index_mut-chunk-requires g c =
    let fs = c.self.inside.list.items in
    let lt : c.args.a < length (joined fs) = omega (arith, ap length c.self.view_is) in
    omega (arith, chunk_in fs c.args.a lt, c.self.inside.list.ok)

pub returns-then-i-j-clause-first : goal.returns-then-i-j-clause-first
returns-then-i-j-clause-first g c =
    let i = c.args.a in let fs = c.self.inside.list.items in let d = c.index_mut-chunk.result.now in let x = c.pair_mut.result.0.now in
    let lt : i < length (joined fs) = omega (arith, ap length c.self.view_is) in
    c.pair_mut.ensures.first ∙ ap (λ f. get_or f.chunk (i % 256) x) c.index_mut-chunk.ensures.value ∙ sym (node_get fs i lt d x) ∙ ap (λ (l : List g.row.T.Denot). get_or l i x) c.self.view_is

pub returns-then-i-j-clause-second : goal.returns-then-i-j-clause-second
returns-then-i-j-clause-second g c =
    let i = c.args.b in let fs = c.self.inside.list.items in let d = c.index_mut-chunk.result.now in let x = c.pair_mut.result.1.now in
    let lt : i < length (joined fs) = omega (arith, ap length c.self.view_is) in
    c.pair_mut.ensures.second ∙ ap (λ f. get_or f.chunk (i % 256) x) (c.index_mut-chunk.ensures.value ∙ ap (λ (k : ℕ). get_or fs k d) c.if-i-j.true) ∙ sym (node_get fs i lt d x)
    ∙ ap (λ (l : List g.row.T.Denot). get_or l i x) c.self.view_is

pub pair_of-first-requires-clause-first_held : goal.pair_of-first-requires-clause-first_held
pair_of-first-requires-clause-first_held g c =
    let fs = c.self.inside.list.items in
    let lt : c.args.a < length (joined fs) = omega (arith, ap length c.self.view_is) in
    omega (arith, chunk_in fs c.args.a lt, ap length c.as_mut_slice.ensures.value)

pub pair_of-first-requires-clause-second_held : goal.pair_of-first-requires-clause-second_held
pair_of-first-requires-clause-second_held g c =
    let fs = c.self.inside.list.items in
    let lt : c.args.b < length (joined fs) = omega (arith, ap length c.self.view_is) in
    omega (arith, chunk_in fs c.args.b lt, ap length c.as_mut_slice.ensures.value)

pub returns-clause-first : goal.returns-clause-first
returns-clause-first g c =
    let i = c.args.a in let fs = c.self.inside.list.items in let d = c.pair_of-first.result.0.now in let x = c.get_mut.result.now in
    let lt : i < length (joined fs) = omega (arith, ap length c.self.view_is) in
    c.get_mut.ensures.value ∙ ap (λ f. get_or f.chunk (i % 256) x) (c.pair_of-first.ensures.first ∙ ap (λ l. get_or l (i / 256) d) c.as_mut_slice.ensures.value) ∙ sym (node_get fs i lt d x)
    ∙ ap (λ (l : List g.row.T.Denot). get_or l i x) c.self.view_is

pub returns-clause-second : goal.returns-clause-second
returns-clause-second g c =
    let i = c.args.b in let fs = c.self.inside.list.items in let d = c.pair_of-first.result.1.now in let x = c.get_mut-2.result.now in
    let lt : i < length (joined fs) = omega (arith, ap length c.self.view_is) in
    c.get_mut-2.ensures.value ∙ ap (λ f. get_or f.chunk (i % 256) x) (c.pair_of-first.ensures.second ∙ ap (λ l. get_or l (i / 256) d) c.as_mut_slice.ensures.value) ∙ sym (node_get fs i lt d x)
    ∙ ap (λ (l : List g.row.T.Denot). get_or l i x) c.self.view_is
