use Rattle.std.proofs.Common.{refl, sym, ap, ◌∙◌, length, arith}
use Rattle.bz_sexpr.specs.Pieces.{blank}
use Rattle.bz_sexpr.proofs.Readings.{read_gap, place_here}
use Rattle.bz_sexpr.proofs.Steps.{opened_less}
use Rattle.bz_sexpr.proofs.reader.Reader.read_piece.Goals as goal

pub returns-then-is_blank-clause-ok : goal.returns-then-is_blank-clause-ok
returns-then-is_blank-clause-ok c =
    let r = c.requires.reading in
    let at = c.args.self.now.at in
    let is = sym c.is_blank.ensures ∙ c.if-is_blank.true in
    record {
      reading = record {
        short = r.short;
        lists = r.lists;
        ds = r.ds;
        within = omega (arith, c.requires.within);
        few = omega (arith, r.few);
        read = read_gap _ _ _ _ _ (blank c.args.first) at r.read c.requires.first (place_here c.args.self.now.whole.now at r.within) is refl;
        opened = opened_less _ _ _ r.lists r.opened (omega (arith, ap length c.requires.first));
        told = r.told;
        nodes = r.nodes;
        depth = r.depth;
        shallow = r.shallow;
        inner = r.inner;
        counted = r.counted;
      };
      same = refl;
      further = omega arith;
    }
