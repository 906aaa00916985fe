use Rattle.std.proofs.Common.{◌≡◌, ◌∷◌, ◌+◌, ◌/◌, ◌%◌, ℕ, List, ap, ◌∙◌, arith}
use Rattle.std.specs.Prelude.{if◌then◌else◌}
use Rattle.bz_bits.specs.declared.word.PortWord.{PortWord}
use Rattle.bz_bits.specs.PortWords.{between, no_ports, number_in, number_at}
use Rattle.bz_bits.proofs.Words.{get_tail, one_changed, set_tail}
use Rattle.bz_bits.proofs.numbers.turn_one.Goals as goal

pub returns-clause-turned : goal.returns-clause-turned
returns-clause-turned c first p =
    let more = c.args.more.now in let port = c.args.port in let old = first ∷ more in let g = λ (x : ℕ). (x + 2) % 4 in let m = port % 64 in
    let behind : port / 64 ≡ 0 → ⊥ = λ e. omega (arith, e, c.requires.far) in
    ap (λ (l : List PortWord). number_at (first ∷ l) p) c.store_far.ensures ∙ ap (λ (l : List PortWord). number_at l p) (set_tail first c.turned-word.result more (port / 64) behind)
    ∙ one_changed g old c.turned-word.result port (omega (arith, c.requires.fits))
    (λ i lt. c.turned-word.ensures.turned i lt ∙ ap (λ (v : PortWord). if between m (m + 1) i then g (number_in v i) else number_in v i) (get_tail first no_ports more (port / 64) behind)) p
