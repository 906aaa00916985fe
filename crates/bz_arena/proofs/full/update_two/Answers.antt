use Rattle.std.proofs.Common.{◌<◌, ◌/◌, ◌%◌, length, get_or, sym, ap, ◌∙◌, arith}
use Rattle.bz_arena.specs.Chunks.{joined}
use Rattle.std.proofs.lemmas.List.{set_comm}
use Rattle.bz_arena.proofs.Joined.{length-joined, node_get, first_of, second_of, set_two}
use Rattle.bz_arena.proofs.full.update_two.Goals as goal

pub returns-then-i-j : goal.returns-then-i-j
returns-then-i-j g c =
    let a = c.args.a in let b = c.args.b in let fs = c.args.list.now in let cut = c.split_at_mut-front.ensures in
    let front = c.split_at_mut-front.result.0.now in let back = c.split_at_mut-front.result.1.now in
    let d = c.index-front-i.result in let e = c.index-back-0.result in let u = c.get_mut-x.result.now in let v = c.get_mut-y.result.now in
    let x = c.f.new.arg2 in let y = c.f.new.arg3 in
    let al : a < length (joined fs) = omega (arith, length-joined fs) in let bl : b < length (joined fs) = omega (arith, length-joined fs) in
    let lt : a / 256 < b / 256 = omega arith in
    record {
      first = _;
      second = _;
      first_left = _;
      second_left = _;
      first_shown =
          c.get_mut-x.ensures.value ∙ ap (λ f. get_or f.chunk (a % 256) u) (first_of fs front back cut.value a b al bl d e x y cut.front_len lt c.index-front-i.is c.index-back-0.is)
          ∙ sym (node_get fs a al d u);
      second_shown =
          c.get_mut-y.ensures.value ∙ ap (λ f. get_or f.chunk (b % 256) v) (second_of fs front back cut.value a b al bl d e x y cut.front_len lt c.index-front-i.is c.index-back-0.is)
          ∙ sym (node_get fs b bl e v);
      called = c.f.ensures;
      left = set_two fs front back cut.value a b al bl d e x y cut.front_len lt c.index-front-i.is c.index-back-0.is;
    }

pub returns : goal.returns
returns g c =
    let a = c.args.a in let b = c.args.b in let fs = c.args.list.now in let cut = c.split_at_mut-front-2.ensures in
    let front = c.split_at_mut-front-2.result.0.now in let back = c.split_at_mut-front-2.result.1.now in
    let d = c.index-back-0-2.result in let e = c.index-front-j.result in let u = c.get_mut-x-2.result.now in let v = c.get_mut-y-2.result.now in
    let x = c.f-2.new.arg2 in let y = c.f-2.new.arg3 in
    let al : a < length (joined fs) = omega (arith, length-joined fs) in let bl : b < length (joined fs) = omega (arith, length-joined fs) in
    let lt : b / 256 < a / 256 = omega arith in
    record {
      first = _;
      second = _;
      first_left = _;
      second_left = _;
      first_shown =
          c.get_mut-x-2.ensures.value ∙ ap (λ f. get_or f.chunk (a % 256) u) (second_of fs front back cut.value b a bl al e d y x cut.front_len lt c.index-front-j.is c.index-back-0-2.is)
          ∙ sym (node_get fs a al d u);
      second_shown =
          c.get_mut-y-2.ensures.value ∙ ap (λ f. get_or f.chunk (b % 256) v) (first_of fs front back cut.value b a bl al e d y x cut.front_len lt c.index-front-j.is c.index-back-0-2.is)
          ∙ sym (node_get fs b bl e v);
      called = c.f-2.ensures;
      left = set_two fs front back cut.value b a bl al e d y x cut.front_len lt c.index-front-j.is c.index-back-0-2.is ∙ set_comm (joined fs) b a y x (omega arith);
    }
