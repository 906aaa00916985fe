use Rattle.std.proofs.Common.{◌+◌, [], ◌∷◌, ◌++◌, length-append, sym, ◌∙◌, ap, map, length, arith}
use Rattle.std.specs.Cmp.Lexicographic.{other_text, same_text}
use Rattle.bz_words.specs.Words.{none}
use Rattle.bz_words.proofs.Commands.{no_separator}
use Rattle.bz_words.specs.Words as words
use Rattle.bz_words.proofs.HostSessions.{separated, commanded, first_unfit, all_spelt}
use Rattle.bz_words.proofs.host_words.parse_host_words.Goals as goal
use Rattle.bz_words.proofs.host_words.parse_host_words.Goals.{then-eq+else-len-eq-MAX_SESSIONS+in_ok-push, else-eq+in_ok-command+in-Some+in_ok-push-2}

pub loop-place-init : goal.loop-place-init
loop-place-init c = record {
  spelt = rw (c.new-sessions.ensures.items, c.new-session.ensures.items) none;
  few = rw c.new-sessions.ensures.items (omega arith);
}

pub returns-then-len-eq-MAX_SESSIONS-clause-right : goal.returns-then-len-eq-MAX_SESSIONS-clause-right
returns-then-len-eq-MAX_SESSIONS-clause-right c =
    let before = c.loop-place.invariant in
    let is = same_text _ _ (sym c.if-eq.true ∙ c.eq.ensures) in
    first_unfit c.args.words.now c.loop-place.place _ c.loop-place.sessions.items c.loop-place.session (omega arith) before.spelt before.few (λ verb name value spelt. no_separator _ is (words.host verb name value) spelt) (λ same. omega (arith, c.loop-place.sessions.ok.0, c.len.ensures, c.if-len-eq-MAX_SESSIONS.true))

pub returns-in_default-clause-right : goal.returns-in_default-clause-right
returns-in_default-clause-right c =
    let before = c.loop-place.invariant in
    let other = other_text _ _ (sym c.if-eq.false ∙ c.eq.ensures) in
    let none = rw c.in_default.is at c.in_ok-command.ensures.none in
    first_unfit c.args.words.now c.loop-place.place _ c.loop-place.sessions.items c.loop-place.session (omega arith) before.spelt before.few none (λ is. absurd (other is))

pub loop-place-preserved : goal.loop-place-preserved
loop-place-preserved c =
    let before = c.loop-place.invariant in
    elim c.if-eq.branch [
      | then-eq+else-len-eq-MAX_SESSIONS+in_ok-push w ↦
          let is = same_text _ _ (sym w.if-eq.true ∙ c.eq.ensures) in
          let grown = ap (λ v. v.items) w.sessions-is ∙ w.in_ok-push.ensures.items ∙ ap (λ s. c.loop-place.sessions.items ++ s ∷ []) w.replace-full.ensures.value in
          let empty = ap (λ v. v.items) (w.session-is ∙ w.replace-full.ensures.after) ∙ w.new.ensures.items in
          record {
            spelt = separated c.args.words.now c.loop-place.place _ c.loop-place.sessions.items _ c.loop-place.session c.if-eq.session (omega arith) before.spelt is grown empty;
            few = omega (arith, before.few, ap length grown, length-append c.loop-place.sessions.items (c.loop-place.session ∷ []), c.loop-place.sessions.ok.0, w.len.ensures, w.if-len-eq-MAX_SESSIONS.false);
          }
      | else-eq+in_ok-command+in-Some+in_ok-push-2 w ↦
          let spelt = rw w.in-Some.is at w.in_ok-command.ensures.some in
          let grown = ap (λ v. v.items) w.session-is ∙ w.in_ok-push-2.ensures.items in
          let same = ap (λ v. v.items) w.sessions-is in
          record {
            spelt = rw same (commanded c.args.words.now c.loop-place.place _ c.loop-place.sessions.items c.loop-place.session c.if-eq.session w.in-Some.command (omega arith) before.spelt spelt grown);
            few = rw same before.few;
          }
    ]

pub returns-clause-right : goal.returns-clause-right
returns-clause-right c =
    all_spelt c.args.words.now c.loop-place.place c.loop-place.sessions.items _ c.loop-place.session (omega arith) c.loop-place.invariant.spelt c.loop-place.invariant.few c.in_ok-push-3.ensures.items
