use Rattle.std.proofs.Common.{◌++◌, ℕ, List, get_or, ap, ◌∙◌}
use Rattle.bz_arena.proofs.Ends.{get_front, get_back, set_fronts, set_backs, set_front_back, set_back_front, at_ids}
use Rattle.bz_arena.proofs.Pairs.{updated_length}
use Rattle.bz_arena.proofs.arena.Arena.update_pair.Goals as goal

pub returns-then-b-start-clause-updated : goal.returns-then-b-start-clause-updated
returns-then-b-start-clause-updated g c =
    let i = c.index-a.result in let j = c.index-b.result in let xs = c.self.inside.full in let ys = c.self.inside.last in let all = c.args.self.now in
    let n = c.len-start.result in let len = c.len-start.ensures.nodes in let whole = c.self.view_is in
    let u = c.update_pair.ensures in
    record {
      first = u.first;
      second = u.second;
      first_left = u.first_left;
      second_left = u.second_left;
      first_shown = u.first_shown ∙ get_front xs ys all whole n len i u.first.now c.if-a-start.true ∙ ap (λ (k : ℕ). get_or all k u.first.now) c.index-a.ensures;
      second_shown = u.second_shown ∙ get_front xs ys all whole n len j u.second.now c.if-b-start.true ∙ ap (λ (k : ℕ). get_or all k u.second.now) c.index-b.ensures;
      called = u.called;
      left =
          ap (λ (l : List g.row.T.Denot). l ++ ys) u.left ∙ set_fronts xs ys all whole n len i j u.first_left.now u.second_left.now c.if-a-start.true c.if-b-start.true
          ∙ at_ids all i j c.args.a c.args.b u.first_left.now u.second_left.now c.index-a.ensures c.index-b.ensures;
    }

pub returns-then-a-start-clause-updated : goal.returns-then-a-start-clause-updated
returns-then-a-start-clause-updated g c =
    let i = c.index-a.result in let j = c.index-b.result in let xs = c.self.inside.full in let ys = c.self.inside.last in let all = c.args.self.now in
    let n = c.len-start.result in let len = c.len-start.ensures.nodes in let whole = c.self.view_is in
    let x = c.get_mut.result.now in let y = c.get_mut-then-a-start.result.now in let v = c.f.new.arg2 in let w = c.f.new.arg3 in
    record {
      first = _;
      second = _;
      first_left = _;
      second_left = _;
      first_shown = c.get_mut.ensures.value ∙ get_front xs ys all whole n len i x c.if-a-start.true ∙ ap (λ (k : ℕ). get_or all k x) c.index-a.ensures;
      second_shown = c.get_mut-then-a-start.ensures.value ∙ get_back xs ys all whole n len j y c.if-b-start.false ∙ ap (λ (k : ℕ). get_or all k y) c.index-b.ensures;
      called = c.f.ensures;
      left = set_front_back xs ys all whole n len i j v w c.if-a-start.true c.if-b-start.false ∙ at_ids all i j c.args.a c.args.b v w c.index-a.ensures c.index-b.ensures;
    }

pub returns-then-b-start-2-clause-updated : goal.returns-then-b-start-2-clause-updated
returns-then-b-start-2-clause-updated g c =
    let i = c.index-a.result in let j = c.index-b.result in let xs = c.self.inside.full in let ys = c.self.inside.last in let all = c.args.self.now in
    let n = c.len-start.result in let len = c.len-start.ensures.nodes in let whole = c.self.view_is in
    let x = c.get_mut-then-b-start-2.result.now in let y = c.get_mut-then-b-start-2-2.result.now in let v = c.f-then-b-start-2.new.arg2 in let w = c.f-then-b-start-2.new.arg3 in
    record {
      first = _;
      second = _;
      first_left = _;
      second_left = _;
      first_shown = c.get_mut-then-b-start-2.ensures.value ∙ get_back xs ys all whole n len i x c.if-a-start.false ∙ ap (λ (k : ℕ). get_or all k x) c.index-a.ensures;
      second_shown = c.get_mut-then-b-start-2-2.ensures.value ∙ get_front xs ys all whole n len j y c.if-b-start-2.true ∙ ap (λ (k : ℕ). get_or all k y) c.index-b.ensures;
      called = c.f-then-b-start-2.ensures;
      left = set_back_front xs ys all whole n len i j v w c.if-a-start.false c.if-b-start-2.true ∙ at_ids all i j c.args.a c.args.b v w c.index-a.ensures c.index-b.ensures;
    }

pub returns-clause-updated : goal.returns-clause-updated
returns-clause-updated g c =
    let i = c.index-a.result in let j = c.index-b.result in let xs = c.self.inside.full in let ys = c.self.inside.last in let all = c.args.self.now in
    let n = c.len-start.result in let len = c.len-start.ensures.nodes in let whole = c.self.view_is in
    let u = c.update_pair-2.ensures in
    record {
      first = u.first;
      second = u.second;
      first_left = u.first_left;
      second_left = u.second_left;
      first_shown = u.first_shown ∙ get_back xs ys all whole n len i u.first.now c.if-a-start.false ∙ ap (λ (k : ℕ). get_or all k u.first.now) c.index-a.ensures;
      second_shown = u.second_shown ∙ get_back xs ys all whole n len j u.second.now c.if-b-start-2.false ∙ ap (λ (k : ℕ). get_or all k u.second.now) c.index-b.ensures;
      called = u.called;
      left =
          ap (λ (l : List g.row.T.Denot). xs ++ l) u.left ∙ set_backs xs ys all whole n len i j u.first_left.now u.second_left.now c.if-a-start.false c.if-b-start-2.false
          ∙ at_ids all i j c.args.a c.args.b u.first_left.now u.second_left.now c.index-a.ensures c.index-b.ensures;
    }

pub returns-then-b-start-clause-count : goal.returns-then-b-start-clause-count
returns-then-b-start-clause-count g c = updated_length (returns-then-b-start-clause-updated g c)

pub returns-then-a-start-clause-count : goal.returns-then-a-start-clause-count
returns-then-a-start-clause-count g c = updated_length (returns-then-a-start-clause-updated g c)

pub returns-then-b-start-2-clause-count : goal.returns-then-b-start-2-clause-count
returns-then-b-start-2-clause-count g c = updated_length (returns-then-b-start-2-clause-updated g c)

pub returns-clause-count : goal.returns-clause-count
returns-clause-count g c = updated_length (returns-clause-updated g c)
