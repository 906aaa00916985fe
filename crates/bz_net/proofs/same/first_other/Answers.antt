use Rattle.std.proofs.Common.{rules, ◌≡◌, ◌<◌, ◌∙◌, ℕ, List, length, get_or, sym, ap, IsTrue, arith}
use Rattle.std.proofs.lemmas.List.{length-map, take_more_same}
use Rattle.std.proofs.Math.ListN.{get_or-map}
use Rattle.bz_model.specs.Heads.{Proc}
use Rattle.bz_net.specs.Keeping.{proc_of}
use Rattle.bz_net.specs.Nodes.{comp_of, comps_of, procs_of}
use Rattle.bz_net.specs.declared.node.Node.{Node}
use Rattle.bz_net.proofs.same.first_other.Goals as goal

proc_read : (nodes : List Node) (i : ℕ) (x : Node) → x ≡ get_or nodes i x → get_or (procs_of nodes) i x.comp.proc ≡ x.comp.proc
proc_read nodes i x is =
    get_or-map proc_of (comps_of nodes) i x.comp ∙ ap proc_of (get_or-map comp_of nodes i x) ∙ ap (λ (y : Node). y.comp.proc) (sym is)

same_read : (nodes others : List Node) (i : ℕ) (x y : Node) → x ≡ get_or nodes i x → y ≡ get_or others i y → x.comp.proc ≡ y.comp.proc → get_or (procs_of nodes) i x.comp.proc ≡ get_or (procs_of others) i x.comp.proc
same_read nodes others i x y is_x is_y same =
    proc_read nodes i x is_x ∙ same ∙ sym (proc_read others i y is_y) ∙ ap (λ (d : Proc). get_or (procs_of others) i d) (sym same)

procs_len : (nodes : List Node) → length (procs_of nodes) ≡ length nodes
procs_len nodes = length-map (comps_of nodes) proc_of ∙ length-map nodes comp_of

pub loop-place-preserved : goal.loop-place-preserved
loop-place-preserved c =
    let nodes = c.args.nodes.now in
    let others = c.args.others.now in
    let x = c.get-node.result.now in
    let y = c.get-other.result.now in
    let is : IsTrue c.is_same.result = search rules in
    let here : c.loop-place.place < length (procs_of nodes) = omega (arith, procs_len nodes) in
    let there : c.loop-place.place < length (procs_of others) = omega (arith, procs_len others) in
    take_more_same (procs_of nodes) (procs_of others) c.loop-place.place x.comp.proc here there c.loop-place.invariant
    (same_read nodes others c.loop-place.place x y (rw c.at.ensures at c.get-node.ensures) (rw c.at-in-loop-place.ensures at c.get-other.ensures) (c.is_same.ensures is))
