use Rattle.std.proofs.Common.{◌≡◌, ◌+◌, length, sym, ap, ◌∙◌, arith}
use Rattle.bz_sexpr.specs.Nodes.{forest}
use Rattle.bz_sexpr.specs.Rows.{nodes_seen}
use Rattle.bz_sexpr.proofs.Laid.{first_of}
use Rattle.bz_sexpr.proofs.form.NodeForms.split_first.Goals as goal

pub invariant_of-result : goal.invariant_of-result
invariant_of-result c =
    let f = first_of _ _ _ _ c.args.self.laid c.in_ok-node.ensures.some in
    record { laid = rw c.split_at.ensures.front f.inner; counted = rw c.split_at.ensures.front f.counted }

pub invariant_of-result-2 : goal.invariant_of-result-2
invariant_of-result-2 c =
    let f = first_of _ _ _ _ c.args.self.laid c.in_ok-node.ensures.some in
    let fewer : length (forest c.args.self.text.now (nodes_seen c.args.self.nodes)) ≡ length (forest c.args.self.text.now (nodes_seen c.split_at.result.1)) + 1 =
    ap (λ ns. length (forest c.args.self.text.now ns)) c.in_ok-node.ensures.some ∙ omega (arith, f.longer, ap (λ ns. length (forest c.args.self.text.now ns)) c.split_at.ensures.back) in
    record { laid = rw c.split_at.ensures.back f.behind; counted = omega (arith, c.args.self.counted, fewer) }

pub returns : goal.returns
returns c =
    let f = first_of _ _ _ _ c.args.self.laid c.in_ok-node.ensures.some in
    rw (c.split_at.ensures.front, c.split_at.ensures.back) f.first ∙ ap (forest c.args.self.text.now) (sym c.in_ok-node.ensures.some)
