-- A look at each port of each member.
use Rattle.std.proofs.Common.{◌≡◌, ℕ, ◌+◌, ◌<◌, ◌≤◌, ◌⊎◌, inl, inr, Bool, true, false, not, Option, Some, None, List, [], ◌∷◌, length, get_or, refl, sym, subst, ◌∙◌, arith}
use Rattle.std.specs.Prelude.{◌↔◌, IsTrue, MatchBool}
use Rattle.std.proofs.lemmas.Bool.{cases_lt, false≢true}
use Rattle.bz_model.specs.declared.channel.Move.{Move}
use Rattle.bz_model.specs.Nets.{Wiring, State, IsPort, StepsAt, chan_at, passive_at, proc_at}
use Rattle.bz_flat.specs.Wires.{WellWired}
use Rattle.bz_net.specs.Due.{HasMove}
use Rattle.bz_net.specs.Ends.{StandsAt, TellsEnds}
use Rattle.bz_waits.specs.Holding.{AllIn, CompsHold, IsIn, IsLoose, PortHolds, PortsHold}
use Rattle.bz_waits.specs.Stuck.{AreStuck, StuckAt, is_member}

lt_or_is : (a b : ℕ) → a < b + 1 → (a < b) ⊎ (a ≡ b)
lt_or_is a b to = elim (cases_lt a b) [
  | inl less ↦ inl less
  | inr least ↦ inr (omega (arith, to, least))
]

-- whoever has a port on a channel stands at the end of that side
stands : (w : Wiring) (row : List Bool) (k : ℕ) (side : Bool) (end : Option ℕ) → WellWired w → StandsAt w.sites k side end → IsIn row end
    → (d q : ℕ) → IsPort w.sites d q → chan_at w.sites d q ≡ k → passive_at w.sites d q ≡ side → is_member row d ≡ true
stands w row k side None wired none is_in d q port on sense = absurd (none (d, q, record { is_port = port; on = on; sense = sense }))
stands w row k side (Some c) wired (p, is_end) is_in d q port on sense =
    let same = (wired.one_end d q c p port is_end.is_port (on ∙ sym is_end.on) (sense ∙ sym is_end.sense)).0 in
    subst (λ e. is_member row e ≡ true) (sym same) is_in

of_side : (P : Bool → Type 0) (b : Bool) → P true → P false → P b
of_side P true is_true is_false = is_true
of_side P false is_true is_false = is_false

-- nobody but members stands at the two ends
pub all_in : (w : Wiring) (row : List Bool) (k : ℕ) (ends : List (Option ℕ)) → WellWired w → TellsEnds w.sites k ends → IsIn row (get_or ends 0 None) → IsIn row (get_or ends 1 None) → AllIn w.sites row k
all_in w row k [] wired tells active_in passive_in = absurd tells
all_in w row k (a ∷ []) wired tells active_in passive_in = absurd tells
all_in w row k (a ∷ b ∷ x ∷ xs) wired tells active_in passive_in = absurd tells
all_in w row k (a ∷ b ∷ []) wired tells active_in passive_in = λ d q port on.
    of_side (λ side. passive_at w.sites d q ≡ side → is_member row d ≡ true) (passive_at w.sites d q)
    (stands w row k true b wired tells.1 passive_in d q port on)
    (stands w row k false a wired tells.0 active_in d q port on)
    refl

-- and who stands at an end has a port there
in_all : (w : Wiring) (row : List Bool) (k : ℕ) (side : Bool) (end : Option ℕ) → StandsAt w.sites k side end → AllIn w.sites row k → IsIn row end
in_all w row k side None none all = tt
in_all w row k side (Some c) (p, is_end) all = all c p is_end.is_port is_end.on

pub active_in : (w : Wiring) (row : List Bool) (k : ℕ) (ends : List (Option ℕ)) → TellsEnds w.sites k ends → AllIn w.sites row k → IsIn row (get_or ends 0 None)
active_in w row k [] tells all = absurd tells
active_in w row k (a ∷ []) tells all = absurd tells
active_in w row k (a ∷ b ∷ x ∷ xs) tells all = absurd tells
active_in w row k (a ∷ b ∷ []) tells all = in_all w row k false a tells.0 all

pub passive_in : (w : Wiring) (row : List Bool) (k : ℕ) (ends : List (Option ℕ)) → TellsEnds w.sites k ends → AllIn w.sites row k → IsIn row (get_or ends 1 None)
passive_in w row k [] tells all = absurd tells
passive_in w row k (a ∷ []) tells all = absurd tells
passive_in w row k (a ∷ b ∷ x ∷ xs) tells all = absurd tells
passive_in w row k (a ∷ b ∷ []) tells all = in_all w row k true b tells.1 all

-- what a port that holds says of the others at its channel
pub all_at : (w : Wiring) (s : State) (row : List Bool) (c p k : ℕ) (mv : Move) → k ≡ chan_at w.sites c p → IsPort w.sites c p → HasMove (proc_at s c) p mv → PortHolds w s (is_member row) c p → AllIn w.sites row k
all_at w s row c p k mv chan port has holds = λ d q there on. holds.among mv port has d q there (on ∙ chan)

pub port_kept : (w : Wiring) (s : State) (row : List Bool) (c p k : ℕ) → (StepsAt w.sites s c p → ⊥) → k ≡ chan_at w.sites c p → length w.ports < k → AllIn w.sites row k → PortHolds w s (is_member row) c p
port_kept w s row c p k none chan far all = record {
  still = none;
  inner = λ mv port has. subst (λ j. length w.ports < j) chan far;
  among = λ mv port has d q there on. all d q there (on ∙ sym chan);
}

-- what a look at a member tells
pub loose_told : (w : Wiring) (s : State) (row : List Bool) (c : ℕ) (holds : Bool) → 0 < c → c ≤ length w.sites → is_member row c ≡ true
    → (IsTrue holds ↔ StuckAt w s (is_member row) c)
    → MatchBool (not holds) (IsLoose w s row c) (is_member row c ≡ true → StuckAt w s (is_member row) c)
loose_told w s row c true from to is told = λ yes. told.0 refl
loose_told w s row c false from to is told = (from, to, is, λ stuck. false≢true (told.1 stuck))

module _ (w : Wiring) (s : State) (member : ℕ → Bool) where
  -- nothing is due there
  pub port_rests : (c p : ℕ) → (StepsAt w.sites s c p → ⊥) → ((mv : Move) → IsPort w.sites c p → HasMove (proc_at s c) p mv → ⊥) → PortHolds w s member c p
  port_rests c p none no_move = record {
    still = none;
    inner = λ mv port has. absurd (no_move mv port has);
    among = λ mv port has d q there on. absurd (no_move mv port has);
  }

  pub at_port : (c p : ℕ) → StuckAt w s member c → PortHolds w s member c p
  at_port c p stuck = record {
    still = stuck.still p;
    inner = stuck.inner p;
    among = stuck.among p;
  }

  pub ports_start : (c : ℕ) → PortsHold w s member c 0
  ports_start c p lt = port_rests c p (λ steps. let from = steps.is_port.port_from in absurd (omega (arith, from, lt)))
      (λ mv port has. let from = port.port_from in absurd (omega (arith, from, lt)))

  pub ports_more : (c n : ℕ) → PortsHold w s member c n → PortHolds w s member c (n + 1) → PortsHold w s member c (n + 1)
  ports_more c n before here p lt = elim (lt_or_is p (n + 1) lt) [
    | inl less ↦ before p less
    | inr same ↦ subst (λ q. PortHolds w s member c q) (sym same) here
  ]

  pub ports_all : (c n : ℕ) → ((p : ℕ) → IsPort w.sites c p → p ≤ n) → PortsHold w s member c n → StuckAt w s member c
  ports_all c n within hold = record {
    still = λ p steps. (at p steps.is_port).still steps;
    inner = λ p mv port has. (at p port).inner mv port has;
    among = λ p mv port has. (at p port).among mv port has;
  }
    where
      at : (p : ℕ) → IsPort w.sites c p → PortHolds w s member c p
      at p port = hold p (let to = within p port in omega (arith, to))

  pub comps_more : (n : ℕ) → CompsHold w s member n → (member (n + 1) ≡ true → StuckAt w s member (n + 1)) → CompsHold w s member (n + 1)
  comps_more n before here c from lt is = elim (lt_or_is c (n + 1) lt) [
    | inl less ↦ before c from less is
    | inr same ↦ subst (λ d. StuckAt w s member d) (sym same) (here (subst (λ d. member d ≡ true) same is))
  ]

  pub comps_all : (n : ℕ) → n ≡ length w.sites → CompsHold w s member n → AreStuck w s member
  comps_all n is hold c in_it = record {
    still = λ p steps. (at steps.is_port.comp_from steps.is_port.comp_to).still p steps;
    inner = λ p mv port has. (at port.comp_from port.comp_to).inner p mv port has;
    among = λ p mv port has. (at port.comp_from port.comp_to).among p mv port has;
  }
    where
      at : 0 < c → c ≤ length w.sites → StuckAt w s member c
      at from to = hold c from (omega (arith, is, to)) in_it
