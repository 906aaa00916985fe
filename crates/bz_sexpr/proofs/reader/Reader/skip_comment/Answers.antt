use Rattle.std.proofs.Common.{◌≡◌, ◌+◌, ◌∷◌, ◌++◌, length, drop, refl, sym, ap, ◌∙◌, subst, arith, length-append}
use Rattle.bz_sexpr.specs.Bytes.{semicolon}
use Rattle.bz_sexpr.specs.Pieces.{comment}
use Rattle.bz_sexpr.specs.Reading.{ReadTo}
use Rattle.bz_sexpr.proofs.Readings.{read_gap, place_here, behind_front, front_within}
use Rattle.bz_sexpr.proofs.Steps.{opened_less}
use Rattle.bz_sexpr.proofs.reader.Reader.skip_comment.Goals as goal

pub returns-clause-ok : goal.returns-clause-ok
returns-clause-ok c = λ nodes r.
    let whole = c.args.self.now.whole.now in
    let at = c.args.self.now.at in
    let line = c.split_line.result.0.now in
    let rest = c.split_line.result.1.now in
    let cut : drop (at + 1) whole ≡ line ++ rest = sym (c.split_line.ensures.whole ∙ c.behind.ensures) in
    let next : drop at whole ≡ semicolon ∷ (line ++ rest) = c.requires.first ∙ ap (λ s. semicolon ∷ s) cut in
    let end : drop (at + (length line + 1)) whole ≡ rest = behind_front whole line rest (at + 1) _ cut (omega arith) in
    let read : ReadTo whole rest r.lists r.ds = read_gap _ _ _ _ _ (comment line) at r.read next (place_here whole at r.within) c.split_line.ensures.longest refl in
    record {
      reading = record {
        short = r.short;
        lists = r.lists;
        ds = r.ds;
        within = omega (arith, front_within whole line rest (at + 1) (omega (arith, c.requires.within)) cut);
        few = omega (arith, r.few);
        read = subst (λ s. ReadTo whole s r.lists r.ds) (sym end) read;
        opened = opened_less _ _ _ r.lists r.opened (omega (arith, ap length end, ap length next, length-append line rest));
        told = r.told;
        nodes = r.nodes;
        depth = r.depth;
        shallow = r.shallow;
        inner = r.inner;
        counted = r.counted;
      };
      same = refl;
      further = omega arith;
    }
