use Rattle.std.proofs.Common.{◌≡◌, ◌≢◌, ◌<◌, ◌≤◌, ℕ, length, map, sym, subst, ◌∙◌, arith}
use Rattle.bz_flat.specs.Flats.{site_of}
use Rattle.bz_model.specs.declared.channel.Phase.TheVariants.{Idle}
use Rattle.bz_model.specs.Clashes.{phase_of}
use Rattle.bz_net.specs.Noted.{Notes, NotedAt, asked_last}
use Rattle.bz_net.proofs.Asking.{noted_idle, noted_first, noted_again, noted_next, noted_met}
use Rattle.bz_net.proofs.moves.note_request.Goals as goal
use Rattle.bz_net.proofs.moves.note_request.Goals.{then-last-eq0-via-then-last-eq0, then-last-eq0-via-else-last-eq0+then-last-chan}

pub returns-then-not-is_busy : goal.returns-then-not-is_busy
returns-then-not-is_busy c =
    noted_idle (map site_of c.args.sites.now) c.args.phases.now c.args.chan c.args.noted.now c.requires.ends c.requires.watches c.if-not-is_busy.ensures

pub returns-then-last-eq0 : goal.returns-then-last-eq0
returns-then-last-eq0 c =
    let sites = map site_of c.args.sites.now in let phases = c.args.phases.now in let old = c.args.noted.now in
    let last_is : c.asked_last-last.result ≡ asked_last old.asked c.args.comp = c.asked_last-last.ensures.last in
    let long = c.asked_last-last.ensures.long in let most = c.requires.most in let comp_to = c.requires.comp_to in
    let to : c.args.comp ≤ length old.asked = omega (arith, long, most, comp_to) in
    subst (λ (n : Notes). NotedAt sites phases old n c.args.chan) (sym c.ask.ensures) (elim c.then-last-eq0.branch [
      | then-last-eq0-via-then-last-eq0 w ↦
          noted_first sites phases c.args.chan old c.requires.ends c.requires.watches c.args.comp c.requires.holder c.requires.comp_from to c.requires.reads (sym last_is ∙ w.if-last-eq0.true)
      | then-last-eq0-via-else-last-eq0+then-last-chan w ↦
          noted_again sites phases c.args.chan old c.requires.ends c.requires.watches c.args.comp c.requires.holder c.requires.comp_from to (sym last_is ∙ w.if-last-chan.true)
    ])

pub returns-then-is_busy : goal.returns-then-is_busy
returns-then-is_busy c =
    let sites = map site_of c.args.sites.now in let phases = c.args.phases.now in let old = c.args.noted.now in
    let last_is : c.asked_last-last.result ≡ asked_last old.asked c.args.comp = c.asked_last-last.ensures.last in
    let some = c.if-last-eq0.false in
    let has : 0 < asked_last old.asked c.args.comp = omega (arith, some, last_is) in
    let other : phase_of phases (asked_last old.asked c.args.comp) ≢ Idle = subst (λ (j : ℕ). phase_of phases j ≢ Idle) last_is c.if-is_busy.ensures in
    noted_met sites phases c.args.chan old c.requires.ends c.requires.watches c.args.comp c.requires.holder c.note.new.self c.requires.comp_from c.requires.mixes has
    (λ e. c.if-last-chan.false (last_is ∙ sym e)) c.if-not-is_busy.ensures other c.note.ensures.most c.note.ensures.listed c.note.ensures.asked c.note.ensures.adds

pub returns-else-is_busy : goal.returns-else-is_busy
returns-else-is_busy c =
    let sites = map site_of c.args.sites.now in let phases = c.args.phases.now in let old = c.args.noted.now in
    let last_is : c.asked_last-last.result ≡ asked_last old.asked c.args.comp = c.asked_last-last.ensures.last in
    let long = c.asked_last-last.ensures.long in let most = c.requires.most in let comp_to = c.requires.comp_to in
    let to : c.args.comp ≤ length old.asked = omega (arith, long, most, comp_to) in
    let idle : phase_of phases (asked_last old.asked c.args.comp) ≡ Idle = subst (λ (j : ℕ). phase_of phases j ≡ Idle) last_is c.if-is_busy.ensures in
    subst (λ (n : Notes). NotedAt sites phases old n c.args.chan) (sym c.ask-else-is_busy.ensures)
    (noted_next sites phases c.args.chan old c.requires.ends c.requires.watches c.args.comp c.requires.holder c.requires.comp_from to idle)
