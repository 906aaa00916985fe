-- In each state that a run leads to, a component makes the moves of its end of a channel.
use Rattle.std.proofs.Common.{◌≡◌, inl, inr, ℕ, zero, suc, ◌-◌, ◌<◌, ◌≤◌, Option, List, [], ◌∷◌, length, map, get_or, replicate, refl, sym, ap, subst, ◌∙◌, arith, length-set}
use Rattle.std.proofs.lemmas.Bool.{cases_eq}
use Rattle.std.proofs.lemmas.List.{length-map, length-replicate}
use Rattle.bz_model.specs.declared.channel.Move.{Move}
use Rattle.bz_model.specs.declared.channel.Phase.TheVariants.{Idle}
use Rattle.bz_model.specs.declared.event.Entry.{Entry}
use Rattle.bz_model.specs.declared.event.Entry.TheVariants.{Fired, Host, Rested}
use Rattle.bz_model.specs.Heads.{Proc}
use Rattle.bz_model.specs.Hosts.{host_after}
use Rattle.bz_model.specs.Nets.{State, Step, Wiring, chan_in, no_proc, no_site, opening, passive_at, phase_at, proc_at, site_at, start_at}
use Rattle.bz_model.specs.Phases.{incoming, phase_after}
use Rattle.bz_model.specs.Processes.{process, slots}
use Rattle.bz_model.specs.Runs.{Follows, Run}
use Rattle.bz_model.specs.Terms.{stored}
use Rattle.bz_flat.specs.Wires.{IsEnd, WellWired}
use Rattle.bz_net.specs.Sides.{Sided, answers}
use Rattle.bz_net.proofs.Sides.{sided-head, sided-tidy, starts}
use Rattle.bz_net.proofs.Ties.{at_other, at_same}

pub record Reached (w : Wiring) (s : State) : Type 0 where
  pub phases : length s.phases ≡ length w.chans
  pub procs : length s.procs ≡ length w.sites
  pub sided : (c : ℕ) → 0 < c → c ≤ length w.sites → Sided (passive_at w.sites c) (proc_at s c).todo

pub get-map : {A B : Type 0} (f : A → B) (xs : List A) (i : ℕ) (d : A) (e : B) → i < length xs → get_or (map f xs) i e ≡ f (get_or xs i d)
get-map f [] i d e lt = absurd (omega arith)
get-map f (x ∷ xs) zero d e lt = refl
get-map f (x ∷ xs) (suc i) d e lt = get-map f xs i d e (omega arith)

module _ (w : Wiring) (wired : WellWired w) where
  pub at_opening : Reached w (opening w)
  at_opening = record {
    phases = length-replicate (length w.chans) Idle;
    procs = length-map w.sites (start_at w.chans);
    sided = λ c from to.
        let site = site_at w.sites c in
        let is : proc_at (opening w) c ≡ start_at w.chans site = get-map (start_at w.chans) w.sites (c - 1) no_site no_proc (omega arith) in
        let begun : Sided (passive_at w.sites c) (start_at w.chans site).todo =
        sided-tidy (passive_at w.sites c) (replicate (slots site.kind site.sizes) 0) (process site.kind site.sizes (map (chan_in w.chans) site.chans)) (starts site.kind site.sizes (map (chan_in w.chans) site.chans)) in
        subst (λ (q : Proc). Sided (passive_at w.sites c) q.todo) (sym is) begun;
  }

  module _ (s next : State) (c p k : ℕ) (mv : Move) (v : Option ℕ) (reached : Reached w s) (step : Step w.sites s c p k mv v next) where
    head-sided : (answers step.moves.head.move ≡ passive_at w.sites c step.moves.head.port) × Sided (passive_at w.sites c) step.moves.head.rest
    head-sided = sided-head (passive_at w.sites c) (proc_at s c).todo step.moves.head step.moves.on.0 (reached.sided c step.steps_at.is_port.comp_from step.steps_at.is_port.comp_to)

    pub end : IsEnd w.sites k (answers mv) c p
    end = record {
      is_port = step.steps_at.is_port;
      on = sym step.chan_is;
      sense = ap (passive_at w.sites c) (sym step.moves.on.1) ∙ sym head-sided.0 ∙ ap answers (sym step.moves.move_is);
    }

    pub here : proc_at next c ≡ step.rest
    here =
        let to = step.steps_at.is_port.comp_to in
        let len = reached.procs in
        ap (λ t. proc_at t c) step.next_is ∙ at_same s.procs c step.rest no_proc step.steps_at.is_port.comp_from (omega (arith, to, len))

    rest-sided : Sided (passive_at w.sites c) step.rest.todo
    rest-sided =
        subst (λ (q : Proc). Sided (passive_at w.sites c) q.todo) (sym step.moves.leaves)
        (sided-tidy (passive_at w.sites c) (stored step.moves.head.into (incoming (phase_at s k) step.moves.head.move) (proc_at s c).store) step.moves.head.rest head-sided.1)

    by_step : Reached w next
    by_step = record {
      phases = ap (λ (t : State). length t.phases) step.next_is ∙ length-set s.phases (k - 1) (phase_after (phase_at s k) mv v) ∙ reached.phases;
      procs = ap (λ (t : State). length t.procs) step.next_is ∙ length-set s.procs (c - 1) step.rest ∙ reached.procs;
      sided = λ d from to. elim (cases_eq d c) [
        | inl e ↦ subst (λ (o : ℕ). Sided (passive_at w.sites o) (proc_at next o).todo) (sym e) (subst (λ (q : Proc). Sided (passive_at w.sites c) q.todo) (sym here) rest-sided)
        | inr ne ↦
            let same : proc_at next d ≡ proc_at s d = ap (λ t. proc_at t d) step.next_is ∙ at_other s.procs c d step.rest no_proc step.steps_at.is_port.comp_from from ne in
            subst (λ (q : Proc). Sided (passive_at w.sites d) q.todo) (sym same) (reached.sided d from to)
      ];
    }

  pub follows : (s next : State) (e : Entry) → Reached w s → Follows w s e next → Reached w next
  follows s next (Fired who c p k mv v) reached step = by_step s next c p k mv v reached step
  follows s next (Host who verb port v reply) reached step = record {
    phases = ap (λ (t : State). length t.phases) step.next_is ∙ length-set s.phases (port - 1) (host_after verb v (phase_at s port)) ∙ reached.phases;
    procs = ap (λ (t : State). length t.procs) step.next_is ∙ reached.procs;
    sided = λ d from to. subst (λ (t : State). Sided (passive_at w.sites d) (proc_at t d).todo) (sym step.next_is) (reached.sided d from to);
  }
  follows s next (Rested who) reached (rest, same) = subst (Reached w) (sym same) reached

  pub run : (s last : State) (es : List Entry) → Reached w s → Run w s es last → Reached w last
  run s last [] reached is = subst (Reached w) (sym is) reached
  run s last (e ∷ es) reached (next, by, rest) = run next last es (follows s next e reached by) rest
