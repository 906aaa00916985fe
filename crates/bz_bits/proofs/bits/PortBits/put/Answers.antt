use Rattle.std.proofs.Common.{◌≡◌, ◌∷◌, ◌/◌, ◌%◌, ℕ, List, length, drop, get_or, set, sym, ap, ◌∙◌, arith}
use Rattle.std.specs.Int.{from_bool}
use Rattle.bz_bits.specs.Row.{bit_of}
use Rattle.bz_bits.proofs.Words.{put_here, put_other, mask_with}
use Rattle.bz_bits.proofs.bits.PortBits.put.Goals as goal

pub returns-then-port-lt64-clause-here : goal.returns-then-port-lt64-clause-here
returns-then-port-lt64-clause-here g c =
    let f = c.self.inside.first in let rest = drop 1 c.self.inside.more.items in let ws = f ∷ rest in let port = c.args.port in
    let w = c.with-self-inside.result in let z : port / 64 ≡ 0 = omega (arith, c.if-port-lt64.true) in
    put_here ws (w ∷ rest) port w (from_bool c.args.bit) (ap (λ (at : ℕ). set ws at w) (sym z))
    (let view = ap length c.self.view_is in let r = c.requires in omega (arith, view, r))
    (mask_with w f c.one_place.result (from_bool c.args.bit) (port % 64) c.with-self-inside.ensures c.one_place.ensures (get_or ws (port / 64) 0)
    (sym (ap (λ (at : ℕ). get_or ws at 0) z)))

pub returns-then-port-lt64-clause-others : goal.returns-then-port-lt64-clause-others
returns-then-port-lt64-clause-others g c k ne =
    let f = c.self.inside.first in let rest = drop 1 c.self.inside.more.items in let ws = f ∷ rest in let port = c.args.port in
    let w = c.with-self-inside.result in let z : port / 64 ≡ 0 = omega (arith, c.if-port-lt64.true) in
    put_other ws (w ∷ rest) port w (from_bool c.args.bit) (ap (λ (at : ℕ). set ws at w) (sym z))
    (let view = ap length c.self.view_is in let r = c.requires in omega (arith, view, r))
    (mask_with w f c.one_place.result (from_bool c.args.bit) (port % 64) c.with-self-inside.ensures c.one_place.ensures (get_or ws (port / 64) 0)
    (sym (ap (λ (at : ℕ). get_or ws at 0) z))) k ne
    ∙ ap (λ (l : List ℕ). bit_of l k) c.self.view_is
