use Rattle.std.proofs.Common.{[], ◌∷◌, ◌++◌, length, refl, sym, ap, ap₂, ◌∙◌, arith, length-append}
use Rattle.bz_sexpr.proofs.Readings.{place_here, leaf_ends_behind, piece_not_empty}
use Rattle.bz_sexpr.proofs.Steps.{adds_leaf, opened_less, closed_node, length-laid, few_pushed}
use Rattle.bz_sexpr.proofs.reader.Reader.add_leaf.Goals as goal

pub overflow_add-self : goal.overflow_add-self
overflow_add-self c =
    let r = c.requires.reading in
    let whole = c.args.self.now.whole.now in
    omega (arith, r.counted, length-laid r.lists r.ds, ap length r.nodes, r.few, leaf_ends_behind whole c.args.self.now.at c.args.end r.within c.requires.first c.requires.within, c.requires.within, r.short)

pub returns-clause-ok : goal.returns-clause-ok
returns-clause-ok c =
    let r = c.requires.reading in
    let at = c.args.self.now.at in
    let end = c.args.end in
    let more = adds_leaf _ _ _ r.lists r.ds at end r.read r.told c.requires.first (place_here c.args.self.now.whole.now at r.within) (place_here c.args.self.now.whole.now end c.requires.within) in
    record {
      reading = record {
        short = r.short;
        lists = r.lists;
        ds = r.ds ++ more.d ∷ [];
        within = c.requires.within;
        few = few_pushed _ _ _ at _ c.in_ok-add_node.ensures r.few (leaf_ends_behind _ at end r.within c.requires.first c.requires.within);
        read = more.read;
        opened = opened_less _ _ _ r.lists r.opened (omega (arith, piece_not_empty c.requires.first));
        told = more.told;
        nodes = c.in_ok-add_node.ensures ∙ ap₂ (λ ns n. ns ++ n ∷ []) r.nodes (closed_node _ _ _ _ _ _ _ _ c.place-from.ensures c.place-to.ensures refl refl) ∙ sym more.nodes;
        depth = r.depth;
        shallow = r.shallow;
        inner = r.inner;
        counted = omega (arith, r.counted, length-append r.ds (more.d ∷ []));
      };
      same = refl;
      further = leaf_ends_behind _ at end r.within c.requires.first c.requires.within;
    }
