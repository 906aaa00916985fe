use Rattle.std.proofs.Common.{◌≡◌, ◌<◌, ◌%◌, ℕ, List, length, get_or, set, sym, ap, ◌∙◌, arith}
use Rattle.bz_arena.specs.Chunks.{joined}
use Rattle.std.proofs.lemmas.List.{with_items_is}
use Rattle.bz_arena.proofs.Joined.{chunk_in, node_get, pair_set_one}
use Rattle.bz_arena.proofs.full.FullChunks.update_pair.Goals as goal

pub index_mut-chunk-requires : goal.index_mut-chunk-requires
index_mut-chunk-requires g c =
    let fs = c.self.inside.list.items in
    let lt : c.args.a < length (joined fs) = omega (arith, ap length c.self.view_is) in
    omega (arith, chunk_in fs c.args.a lt, c.self.inside.list.ok)

pub returns-then-i-j : goal.returns-then-i-j
returns-then-i-j g c =
    let a = c.args.a in let b = c.args.b in let fs = c.self.inside.list.items in let d = c.index_mut-chunk.result.now in let u = c.update_pair.ensures in
    let x = u.first_left.now in let y = u.second_left.now in
    let al : a < length (joined fs) = omega (arith, ap length c.self.view_is) in let bl : b < length (joined fs) = omega (arith, ap length c.self.view_is) in
    let at = c.index_mut-chunk.ensures.value in
    record {
      first = u.first;
      second = u.second;
      first_left = u.first_left;
      second_left = u.second_left;
      first_shown =
          u.first_shown ∙ ap (λ f. get_or f.chunk (a % 256) u.first.now) at ∙ sym (node_get fs a al d u.first.now) ∙ ap (λ (l : List g.row.T.Denot). get_or l a u.first.now) c.self.view_is;
      second_shown =
          u.second_shown ∙ ap (λ f. get_or f.chunk (b % 256) u.second.now) (at ∙ ap (λ (k : ℕ). get_or fs k d) c.if-i-j.true) ∙ sym (node_get fs b bl d u.second.now)
          ∙ ap (λ (l : List g.row.T.Denot). get_or l b u.second.now) c.self.view_is;
      called = u.called;
      left =
          pair_set_one fs a b al bl d c.update_pair.new.self x y c.if-i-j.true (u.left ∙ ap (λ f. set (set f.chunk (a % 256) x) (b % 256) y) at)
          ∙ ap (λ (l : List g.row.T.Denot). set (set l a x) b y) c.self.view_is;
    }

pub update_two-requires-clause-first_held : goal.update_two-requires-clause-first_held
update_two-requires-clause-first_held g c =
    let fs = c.self.inside.list.items in
    let lt : c.args.a < length (joined fs) = omega (arith, ap length c.self.view_is) in
    omega (arith, chunk_in fs c.args.a lt, ap length c.as_mut_slice.ensures.value)

pub update_two-requires-clause-second_held : goal.update_two-requires-clause-second_held
update_two-requires-clause-second_held g c =
    let fs = c.self.inside.list.items in
    let lt : c.args.b < length (joined fs) = omega (arith, ap length c.self.view_is) in
    omega (arith, chunk_in fs c.args.b lt, ap length c.as_mut_slice.ensures.value)

pub returns : goal.returns
returns g c =
    let a = c.args.a in let b = c.args.b in let u = c.update_two.ensures in
    let is = ap joined c.as_mut_slice.ensures.value ∙ c.self.view_is in
    let long : length c.update_two.new.list ≡ c.self.inside.list.len = c.update_two.auto.list ∙ c.as_mut_slice.ensures.len in
    record {
      first = u.first;
      second = u.second;
      first_left = u.first_left;
      second_left = u.second_left;
      first_shown = u.first_shown ∙ ap (λ (l : List g.row.T.Denot). get_or l a u.first.now) is;
      second_shown = u.second_shown ∙ ap (λ (l : List g.row.T.Denot). get_or l b u.second.now) is;
      called = u.called;
      left = ap joined (with_items_is c.self.inside.list c.update_two.new.list long) ∙ u.left ∙ ap (λ (l : List g.row.T.Denot). set (set l a u.first_left.now) b u.second_left.now) is;
    }
