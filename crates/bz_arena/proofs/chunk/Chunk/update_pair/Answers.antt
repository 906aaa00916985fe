use Rattle.std.proofs.Common.{List, length, get_or, set, ap, ◌∙◌}
use lib.ListN.{drop}
use lib.Seq.{take_at}
use Rattle.bz_arena.proofs.Pairs.{updated_length}
use Rattle.bz_arena.proofs.chunk.Chunk.update_pair.Goals as goal

pub returns : goal.returns
returns g c =
    let i = c.args.a in let j = c.args.b in let u = c.update_both.ensures in let xs = c.self.inside.nodes.items in let ys = c.update_both.new.items in
    let is = c.as_mut_slice-nodes.ensures.value ∙ c.self.view_is in
    record {
      first = u.first;
      second = u.second;
      first_left = u.first_left;
      second_left = u.second_left;
      first_shown = u.first_shown ∙ ap (λ (l : List g.row.T.Denot). get_or l i u.first.now) is;
      second_shown = u.second_shown ∙ ap (λ (l : List g.row.T.Denot). get_or l j u.second.now) is;
      called = u.called;
      left = take_at ys (drop (length ys) xs) (length xs) (updated_length u ∙ ap length c.as_mut_slice-nodes.ensures.value) ∙ u.left
          ∙ ap (λ (l : List g.row.T.Denot). set (set l i u.first_left.now) j u.second_left.now) is;
    }
