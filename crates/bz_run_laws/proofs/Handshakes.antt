-- What a component of any kind has made at a port are handshakes, one after another.
use Rattle.std.proofs.Common.{◌≡◌, ℕ, List, [], ◌∷◌, replicate, sym, ap, subst, ◌∙◌}
use Rattle.std.specs.Prelude.{not}
use Rattle.bz_model.specs.declared.channel.Chan.{Chan}
use Rattle.bz_model.specs.declared.kind.Kind.{Kind}
use Rattle.bz_model.specs.Phases.{incoming}
use Rattle.bz_model.specs.Terms.{stored}
use Rattle.bz_model.specs.Heads.{Proc, opens}
use Rattle.bz_model.specs.Rows.{MeetsRow, is_passive}
use Rattle.bz_model.specs.Processes.{process, slots}
use Rattle.bz_net.specs.Sides.{Sided, answers}
use Rattle.bz_net.proofs.Sides as sides
use Rattle.bz_laws.specs.Deeds.{Deed, Made, is_open, start}
use Rattle.bz_laws.proofs.Past.{open_elsewhere, open_here}
use Rattle.bz_run_laws.proofs.Lively.{Turning, begins, goes-on, in-turn}

module _ (kind : Kind) (sizes : List ℕ) (chans : List Chan) where
  turning : MeetsRow kind sizes chans → (p : ℕ) (past : List Deed) (here : Proc) → Made (start kind sizes chans) past here → Turning p here (is_open p past)
  turning meets p [] here made = subst (λ (c : Proc). Turning p c (is_open p [])) (sym made) (begins kind sizes chans meets p)
  turning meets p (d ∷ past) here (b, made, (phase, m)) =
      goes-on b here d.port phase d.move d.value m p (is_open p past) (is_open p (d ∷ past)) (λ e. open_here p past d e) (λ ne. open_elsewhere p past d ne) (turning meets p past b made)

  pub in_turn : (d : Deed) (past : List Deed) (here : Proc) → MeetsRow kind sizes chans → Made (start kind sizes chans) (d ∷ past) here → opens d.move ≡ not (is_open d.port past)
  in_turn d past here meets (b, made, (phase, m)) = in-turn b here d.port phase d.move d.value m (is_open d.port past) (turning meets d.port past b made)

  sided : (past : List Deed) (here : Proc) → Made (start kind sizes chans) past here → Sided (is_passive kind sizes) here.todo
  sided [] here made =
      subst (λ (c : Proc). Sided (is_passive kind sizes) c.todo) (sym made) (sides.sided-tidy (is_passive kind sizes) (replicate (slots kind sizes) 0) (process kind sizes chans) (sides.starts kind sizes chans))
  sided (d ∷ past) here (b, made, (phase, m)) =
      let rest = (sides.sided-head (is_passive kind sizes) b.todo m.head m.on.0 (sided past b made)).1 in
      subst (λ (c : Proc). Sided (is_passive kind sizes) c.todo) (sym m.leaves)
      (sides.sided-tidy (is_passive kind sizes) (stored m.head.into (incoming phase m.head.move) b.store) m.head.rest rest)

  pub on_side : (d : Deed) (past : List Deed) (here : Proc) → Made (start kind sizes chans) (d ∷ past) here → answers d.move ≡ is_passive kind sizes d.port
  on_side d past here (b, made, (phase, m)) =
      ap answers m.move_is ∙ (sides.sided-head (is_passive kind sizes) b.todo m.head m.on.0 (sided past b made)).0 ∙ ap (is_passive kind sizes) m.on.1
