-- What components are told is kept, and tells where they can move.
use Rattle.std.proofs.Common.{◌≡◌, ◌≢◌, ℕ, zero, suc, ◌+◌, ◌-◌, ◌*◌, ◌/◌, ◌%◌, ◌^◌, ◌<◌, ◌≤◌, ◌==◌, inl, inr, Bool, true, false, Option, Some, None, List, [], length, get_or, set, replicate, IsTrue, ◌↔◌, refl, sym, ap, subst, ◌∙◌, arith}
use Rattle.std.specs.Prelude.{not, IfNone, MatchOption, MatchBool, is_some}
use Rattle.std.specs.Int.{bit_at, from_bool, trailing_zeros, w64}
use Rattle.std.proofs.lemmas.List.{get_or-set_same, get_or-set_other, length-set, get_or_read}
use Rattle.std.proofs.lemmas.Bool.{cases_eq, cases_lt, false≢true}
use Rattle.std.proofs.lemmas.Nat.Bits.{bit_at-zero, bit_at-trailing_zeros}
use Rattle.bz_bits.specs.Row.{bit_of}
use Rattle.bz_model.specs.declared.channel.Move.{Move}
use Rattle.bz_model.specs.declared.channel.Move.TheVariants.{Ask, Take, Reply, Got}
use Rattle.bz_model.specs.declared.channel.Phase.{Phase}
use Rattle.bz_model.specs.declared.channel.Phase.TheVariants.{Idle, Asked, Taken, Replied, Broken}
use Rattle.bz_model.specs.Phases.{allows, phase_after}
use Rattle.bz_model.specs.Heads.{Proc, Component, Head, IsHeadOn, CanMove, HasOneHead, Moves, Turns, opens}
use Rattle.bz_model.specs.Nets.{Site, State, Wiring, IsPort, StepsAt, site_at, chan_at, passive_at}
use Rattle.bz_model.specs.Runs.{CanStep, IsLowest}
use Rattle.bz_kinds.specs.Ready.{CanGo, AreReady, NoneDue, is_free}
use Rattle.bz_net.specs.Sides.{answers}
use Rattle.bz_net.proofs.Sides.{sided-head}
use Rattle.bz_net.specs.Keeping.{Tied, is_open, comp_at, no_comp, phase_in, state_of}
use Rattle.bz_net.proofs.Ties.{at_other, at_same, proc_is, tied_step}
use Rattle.bz_net.proofs.Hosts.{tied_command, side_from}
use Rattle.bz_model.specs.declared.event.Verb.{Verb}
use Rattle.bz_model.specs.Hosts.{host_after, refusal_at}
use Rattle.bz_net.specs.Told.{is_here, here_at, flag_of, Told, Retold, Goes, NoneGoes, GoesAt, GoesFirst, MayMove, MovesAt, IsTurning, HasChans, Sighted, AreEnds, AllAreEnds, PutAt, PutEnd, HasBit, Turned, StaysSighted, HostSighted}
use Rattle.bz_flat.specs.declared.flat.Ends.{Ends}
use Rattle.bz_flat.specs.Wires.{WellWired, EndsOf, IsEnd, at_side, port_of_side, end_at, ends_in}

-- a move of a port's side, that turns its port, is allowed exactly where it waits for nothing or what it waits for is here
pub allowed : (phase : Phase) (mv : Move) (passive : Bool) → phase ≢ Broken → answers mv ≡ passive → opens mv ≡ not (is_open phase passive) → allows phase mv ≡ is_free mv (is_here phase passive)
allowed Idle Ask true u e f = absurd (cc)
allowed Idle Ask false u e f = refl
allowed (Asked v) Ask true u e f = absurd (cc)
allowed (Asked v) Ask false u e f = absurd (cc)
allowed Taken Ask true u e f = absurd (cc)
allowed Taken Ask false u e f = absurd (cc)
allowed (Replied v) Ask true u e f = absurd (cc)
allowed (Replied v) Ask false u e f = absurd (cc)
allowed Broken mv passive u e f = absurd (u refl)
allowed Idle Take true u e f = refl
allowed Idle Take false u e f = absurd (cc)
allowed (Asked v) Take true u e f = refl
allowed (Asked v) Take false u e f = absurd (cc)
allowed Taken Take true u e f = refl
allowed Taken Take false u e f = absurd (cc)
allowed (Replied v) Take true u e f = refl
allowed (Replied v) Take false u e f = absurd (cc)
allowed Idle Reply true u e f = absurd (cc)
allowed Idle Reply false u e f = absurd (cc)
allowed (Asked v) Reply true u e f = absurd (cc)
allowed (Asked v) Reply false u e f = absurd (cc)
allowed Taken Reply true u e f = refl
allowed Taken Reply false u e f = absurd (cc)
allowed (Replied v) Reply true u e f = absurd (cc)
allowed (Replied v) Reply false u e f = absurd (cc)
allowed Idle Got true u e f = absurd (cc)
allowed Idle Got false u e f = refl
allowed (Asked v) Got true u e f = absurd (cc)
allowed (Asked v) Got false u e f = refl
allowed Taken Got true u e f = absurd (cc)
allowed Taken Got false u e f = refl
allowed (Replied v) Got true u e f = absurd (cc)
allowed (Replied v) Got false u e f = refl

-- at the ports of words at which nothing can go, whatever is here, it can't
pub none_pass : (c : Component) (here : List ℕ) (from to : ℕ) → ((k : ℕ) → from ≤ k → k < to → NoneDue c.proc k) → (q : ℕ) → 64 * from ≤ q → q < 64 * to → CanGo c.proc q (flag_of here q) → ⊥
none_pass c here from to none q le lt can =
    let k = q / 64 in let i = q % 64 in let back : 64 * k + i ≡ q = omega arith in
    let both = none k (omega (arith, le)) (omega (arith, lt)) (get_or here k 0) i (omega arith) in
    false≢true (sym (ap (λ (x : ℕ). x == 1) (bit_at-zero i)) ∙ both.1 (subst (λ (r : ℕ). CanGo c.proc r (flag_of here q)) (sym back) can))

-- nor where nothing is here, if it waits at each port there where a move is due
pub zeros_pass : (c : Component) (here : List ℕ) (from to end : ℕ) → to ≤ end → ((p : ℕ) (flag : Bool) → 64 * from ≤ p → p < 64 * end → CanGo c.proc p flag → flag ≡ true)
    → ((k : ℕ) → from ≤ k → k < to → get_or here k 0 ≡ 0) → (q : ℕ) → 64 * from ≤ q → q < 64 * to → CanGo c.proc q (flag_of here q) → ⊥
zeros_pass c here from to end within waits zeros q le lt can =
    let none : flag_of here q ≡ false =
    ap (λ (w : ℕ). bit_at w (q % 64) == 1) (zeros (q / 64) (omega (arith, le)) (omega (arith, lt))) ∙ ap (λ (x : ℕ). x == 1) (bit_at-zero (q % 64)) in
    false≢true (sym none ∙ waits q (flag_of here q) le (omega (arith, lt, within)) can)

-- so at none before, if at none before the first of these words
pub pass_on : (c : Component) (here : List ℕ) (from to : ℕ) → ((q : ℕ) → 64 * from ≤ q → q < 64 * to → CanGo c.proc q (flag_of here q) → ⊥)
    → ((q : ℕ) → q < 64 * from → CanGo c.proc q (flag_of here q) → ⊥) → (q : ℕ) → q < 64 * to → CanGo c.proc q (flag_of here q) → ⊥
pass_on c here from to passed before q lt can =
    elim (cases_lt q (64 * from)) [
      | inl low ↦ before q low can
      | inr high ↦ passed q high lt can
    ]

pub words_pass : (c : Component) (here : List ℕ) (from to : ℕ) → ((k : ℕ) → from ≤ k → k < to → NoneDue c.proc k)
    → ((q : ℕ) → q < 64 * from → CanGo c.proc q (flag_of here q) → ⊥) → (q : ℕ) → q < 64 * to → CanGo c.proc q (flag_of here q) → ⊥
words_pass c here from to none = pass_on c here from to (none_pass c here from to none)

-- so a component that is told rightly can move where its bits say
module _ (sites : List Site) (phases : List Phase) (comps : List Component) (heres : List (List ℕ)) (sighted : Sighted sites phases comps heres) (c : ℕ) (turning : IsTurning (comp_at comps c)) where
  may : (p : ℕ) (port : IsPort sites c p) (h : Head) → IsHeadOn (comp_at comps c).proc p h → allows (phase_in phases (chan_at sites c p)) h.move ≡ is_free h.move (flag_of (here_at heres c) p)
  may p port h on =
      let k = chan_at sites c p in let phase = phase_in phases k in let passive = passive_at sites c p in
      let side : answers h.move ≡ passive = (sided-head (passive_at sites c) (comp_at comps c).proc.todo h on.0 (sighted.sides c port.comp_from port.comp_to)).0 ∙ ap (passive_at sites c) on.1 in
      allowed phase h.move passive (sighted.kept k) side (turning p h on ∙ ap not (sighted.opened c p port)) ∙ ap (is_free h.move) (sym (sighted.told c p port))

  pub steps_where : (p : ℕ) → IsPort sites c p → CanGo (comp_at comps c).proc p (flag_of (here_at heres c) p) → StepsAt sites (state_of phases comps) c p
  steps_where p port (h, on, free) = record {
    is_port = port;
    can = subst (λ (q : Proc). CanMove q p (phase_in phases (chan_at sites c p))) (sym (proc_is phases comps c)) (h, on, subst IsTrue (sym (may p port h on)) free);
  }

  pub goes_where : (p : ℕ) → StepsAt sites (state_of phases comps) c p → CanGo (comp_at comps c).proc p (flag_of (here_at heres c) p)
  goes_where p at =
      let (h, on, ok) = subst (λ (q : Proc). CanMove q p (phase_in phases (chan_at sites c p))) (proc_is phases comps c) at.can in
      (h, on, subst IsTrue (may p at.is_port h on) ok)

  -- the lowest by the bits is the lowest
  pub lowest_is : 0 < c → c ≤ length sites → (o : Option ℕ) → MatchOption o (NoneGoes (comp_at comps c) (here_at heres c)) (GoesFirst (comp_at comps c) (here_at heres c)) → MatchOption o (CanStep sites (state_of phases comps) c → ⊥) (IsLowest sites (state_of phases comps) c)
  lowest_is from to None none = λ (p, at). none p (let q = at.is_port.port_to in let len = sighted.chans_of c from to in omega (arith, q, len)) (goes_where p at)
  lowest_is from to (Some p) first = record {
    steps_at = steps_where p (record { comp_from = from; comp_to = to; port_from = first.from; port_to = (let q = first.to in let len = sighted.chans_of c from to in omega (arith, q, len)) }) first.goes;
    lowest = λ q lt at. first.before q lt (goes_where q at);
  }

  -- and one that can move by the bits can move
  pub moves_are : 0 < c → c ≤ length sites → (b : Bool) → MatchBool b (Goes (comp_at comps c) (here_at heres c)) (NoneGoes (comp_at comps c) (here_at heres c)) → MatchBool b (CanStep sites (state_of phases comps) c) (CanStep sites (state_of phases comps) c → ⊥)
  moves_are from to true (p, above, last, goes) =
      (p, steps_where p (record { comp_from = from; comp_to = to; port_from = above; port_to = (let len = sighted.chans_of c from to in omega (arith, last, len)) }) goes)
  moves_are from to false none = λ (p, at). none p (let q = at.is_port.port_to in let len = sighted.chans_of c from to in omega (arith, q, len)) (goes_where p at)

-- the first by the bits is one
pub is_one : (c : Component) (here : List ℕ) (o : Option ℕ) → MatchOption o (NoneGoes c here) (GoesFirst c here) → MatchBool (is_some o) (Goes c here) (NoneGoes c here)
is_one c here None none = none
is_one c here (Some p) first = (p, first.from, first.to, first.goes)

-- one word of a component's ports
module _ (c : Component) (here : List ℕ) (at word bits : ℕ) (fits : word < 2 ^ 64) (ready : AreReady c.proc at bits word) (is : bits ≡ get_or here at 0) where
  bit_is : (q : ℕ) → q / 64 ≡ at → IsTrue (bit_at word (q % 64) == 1) ↔ CanGo c.proc q (flag_of here q)
  bit_is q e =
      let i = q % 64 in let back : 64 * at + i ≡ q = omega (arith, e) in
      let same : (bit_at bits i == 1) ≡ flag_of here q = ap (λ (x : ℕ). bit_at x i == 1) (is ∙ ap (λ (m : ℕ). get_or here m 0) (sym e)) in
      let both = ready i (omega arith) in (
        λ t. subst (λ (r : ℕ). CanGo c.proc r (flag_of here q)) back (subst (CanGo c.proc (64 * at + i)) same (both.0 t)),
        λ can. both.1 (subst (CanGo c.proc (64 * at + i)) (sym same) (subst (λ (r : ℕ). CanGo c.proc r (flag_of here q)) (sym back) can)),
      )

  none_there : (q : ℕ) → q / 64 ≡ at → bit_at word (q % 64) ≡ 0 → CanGo c.proc q (flag_of here q) → ⊥
  none_there q e z can = absurd (false≢true (sym (ap (λ (x : ℕ). x == 1) z) ∙ (bit_is q e).1 can))

  pub word_passes : word ≡ 0 → ((q : ℕ) → q < 64 * at → CanGo c.proc q (flag_of here q) → ⊥) → (q : ℕ) → q < 64 * (at + 1) → CanGo c.proc q (flag_of here q) → ⊥
  word_passes none inv q lt =
      elim (cases_lt q (64 * at)) [
        | inl low ↦ inv q low
        | inr high ↦ none_there q (omega (arith, high, lt)) (ap (λ (x : ℕ). bit_at x (q % 64)) none ∙ bit_at-zero (q % 64))
      ]

  pub word_goes : 0 < word → ((p : ℕ) (h : Head) → IsHeadOn c.proc p h → (0 < p) × (p ≤ length c.chans)) → Goes c here
  word_goes pos held =
      let t = trailing_zeros w64 word in let f = bit_at-trailing_zeros w64 word pos fits in let tl : t < 64 = f.0 in
      let p = 64 * at + t in let e : p / 64 ≡ at = omega (arith, tl) in let m : p % 64 ≡ t = omega (arith, tl) in
      let can = (bit_is p e).0 (ap (λ (i : ℕ). bit_at word i == 1) m ∙ ap (λ (x : ℕ). x == 1) f.1) in
      let (h, on, free) = can in let within = held p h on in (p, within.0, within.1, can)

  pub word_hits : 0 < word → ((q : ℕ) → q < 64 * at → CanGo c.proc q (flag_of here q) → ⊥) → ((p : ℕ) (h : Head) → IsHeadOn c.proc p h → (0 < p) × (p ≤ length c.chans)) → GoesFirst c here (64 * at + trailing_zeros w64 word)
  word_hits pos inv held =
      let t = trailing_zeros w64 word in let f = bit_at-trailing_zeros w64 word pos fits in let tl : t < 64 = f.0 in
      let p = 64 * at + t in let e : p / 64 ≡ at = omega (arith, tl) in let m : p % 64 ≡ t = omega (arith, tl) in
      let can = (bit_is p e).0 (ap (λ (i : ℕ). bit_at word i == 1) m ∙ ap (λ (x : ℕ). x == 1) f.1) in
      let (h, on, free) = can in let within = held p h on in
      record {
        from = within.0;
        to = within.1;
        goes = can;
        before = λ q lt. elim (cases_lt q (64 * at)) [
          | inl low ↦ inv q low
          | inr high ↦ none_there q (omega (arith, high, lt, tl)) (f.2 (q % 64) (omega (arith, high, lt, tl)))
        ];
      }

-- what was told is kept where both ends of the channel are told of its new phase
pub told_kept : (w : Wiring) (phases : List Phase) (heres heres' : List (List ℕ)) (k : ℕ) (phase : Phase) → WellWired w → length phases ≡ length w.chans → Told w phases heres → Retold w.sites heres heres' k phase → 0 < k → k ≤ length phases → Told w (set phases (k - 1) phase) heres'
told_kept w phases heres heres' k phase wired len told again from to = record {
  heres_len = again.len ∙ told.heres_len;
  room = λ c above below. subst (λ (n : ℕ). length (site_at w.sites c).chans < 64 * n) (sym (again.room c)) (told.room c above below);
  told = λ c p port. elim (cases_eq (chan_at w.sites c p) k) [
    | inl same ↦ again.at_ends c p port same
        ∙ ap (λ (f : Phase). is_here f (passive_at w.sites c p)) (sym (get_or-set_same phases (k - 1) phase Idle (omega (arith, from, to))) ∙ ap (λ (j : ℕ). phase_in (set phases (k - 1) phase) j) (sym same))
    | inr differ ↦ again.others c p port differ ∙ told.told c p port
        ∙ ap (λ (f : Phase). is_here f (passive_at w.sites c p)) (sym (get_or-set_other phases (k - 1) (chan_at w.sites c p - 1) phase Idle (let a = wired.chan_from c p port in λ e. differ (omega (arith, a, from, e)))))
  ];
}

not_both : true ≡ false → ⊥
not_both e = false≢true (sym e)

-- both ends are told
module _ (sites : List Site) (h h1 h2 : List (List ℕ)) (k : ℕ) (pair : Ends) (phase : Phase) (ends : AreEnds sites k pair) where
  pub put_len : (a b : List (List ℕ)) (o : Option ℕ) (p : ℕ) (bit : Bool) → PutEnd a b o p bit → length b ≡ length a
  put_len a b None p bit same = ap length same
  put_len a b (Some c) p bit put = put.len

  pub put_room : (a b : List (List ℕ)) (o : Option ℕ) (p : ℕ) (bit : Bool) → PutEnd a b o p bit → (d : ℕ) → length (here_at b d) ≡ length (here_at a d)
  put_room a b None p bit same d = ap (λ (l : List (List ℕ)). length (here_at l d)) same
  put_room a b (Some c) p bit put d = put.room d

  -- a port that is not at that end stays
  pub put_off : (a b : List (List ℕ)) (side : Bool) (o : Option ℕ) → o ≡ at_side pair side → (bit : Bool) → PutEnd a b o (port_of_side pair side) bit → (d q : ℕ) → 0 < d → (IsEnd sites k side d q → ⊥) → flag_of (here_at b d) q ≡ flag_of (here_at a d) q
  put_off a b side None is bit same d q from off = ap (λ (l : List (List ℕ)). flag_of (here_at l d) q) same
  put_off a b side (Some c) is bit put d q from off = put.others d q from (λ e. off (subst (λ (x : ℕ). IsEnd sites k side x q) (sym e.0) (subst (λ (y : ℕ). IsEnd sites k side c y) (sym e.1) (ends.holds side c (sym is)))))

  pub put_on : (a b : List (List ℕ)) (o : Option ℕ) (p : ℕ) (bit : Bool) (c : ℕ) → o ≡ Some c → PutEnd a b o p bit → flag_of (here_at b c) p ≡ bit
  put_on a b None p bit c is put = absurd (cc)
  put_on a b (Some d) p bit c is put = let e : d ≡ c = cc in subst (λ (x : ℕ). flag_of (here_at b x) p ≡ bit) e put.at_port

  told_at : PutEnd h h1 pair.active pair.active_port (is_here phase false) → PutEnd h1 h2 pair.passive pair.passive_port (is_here phase true) → (side : Bool) (c p : ℕ) → IsPort sites c p → chan_at sites c p ≡ k → passive_at sites c p ≡ side → flag_of (here_at h2 c) p ≡ is_here phase side
  told_at first second true c p port on sense =
      let found = ends.finds c p port on in
      let at : at_side pair true ≡ Some c = subst (λ (b : Bool). at_side pair b ≡ Some c) sense found.0 in
      let spot : port_of_side pair true ≡ p = subst (λ (b : Bool). port_of_side pair b ≡ p) sense found.1 in
      subst (λ (q : ℕ). flag_of (here_at h2 c) q ≡ is_here phase true) spot (put_on h1 h2 pair.passive pair.passive_port (is_here phase true) c at second)
  told_at first second false c p port on sense =
      let found = ends.finds c p port on in
      let at : at_side pair false ≡ Some c = subst (λ (b : Bool). at_side pair b ≡ Some c) sense found.0 in
      let spot : port_of_side pair false ≡ p = subst (λ (b : Bool). port_of_side pair b ≡ p) sense found.1 in
      put_off h1 h2 true pair.passive refl (is_here phase true) second c p port.comp_from (λ e. not_both (sym e.sense ∙ sense))
      ∙ subst (λ (q : ℕ). flag_of (here_at h1 c) q ≡ is_here phase false) spot (put_on h h1 pair.active pair.active_port (is_here phase false) c at first)

  pub retold : PutEnd h h1 pair.active pair.active_port (is_here phase false) → PutEnd h1 h2 pair.passive pair.passive_port (is_here phase true) → Retold sites h h2 k phase
  retold first second = record {
    len = put_len h1 h2 pair.passive pair.passive_port (is_here phase true) second ∙ put_len h h1 pair.active pair.active_port (is_here phase false) first;
    room = λ d. put_room h1 h2 pair.passive pair.passive_port (is_here phase true) second d ∙ put_room h h1 pair.active pair.active_port (is_here phase false) first d;
    at_ends = λ c p port on. told_at first second (passive_at sites c p) c p port on refl;
    others = λ c p port off.
        put_off h1 h2 true pair.passive refl (is_here phase true) second c p port.comp_from (λ e. off e.on)
        ∙ put_off h h1 false pair.active refl (is_here phase false) first c p port.comp_from (λ e. off e.on);
  }

  pub still_bit : (o : Option ℕ) (p : ℕ) → PutEnd h h1 pair.active pair.active_port (is_here phase false) → HasBit h o p → HasBit h1 o p
  still_bit None p first has = tt
  still_bit (Some c) p first has =
      let len = put_len h h1 pair.active pair.active_port (is_here phase false) first in let room = put_room h h1 pair.active pair.active_port (is_here phase false) first c in
      (has.0, subst (λ (n : ℕ). c ≤ n) (sym len) has.1, subst (λ (n : ℕ). p < 64 * n) (sym room) has.2)

-- one element is written
pub put_at : (heres : List (List ℕ)) (c p : ℕ) (words : List ℕ) (bit : Bool) → 0 < c → c ≤ length heres → length words ≡ length (here_at heres c) → flag_of words p ≡ bit → ((q : ℕ) → q ≢ p → flag_of words q ≡ flag_of (here_at heres c) q) → PutAt heres (set heres (c - 1) words) c p bit
put_at heres c p words bit from to long at others = record {
  len = length-set heres (c - 1) words;
  room = λ d. elim (cases_eq (d - 1) (c - 1)) [
    | inl e ↦ ap (λ (i : ℕ). length (get_or (set heres (c - 1) words) i [])) e ∙ ap length (here_is) ∙ long ∙ ap (λ (i : ℕ). length (get_or heres i [])) (sym e)
    | inr f ↦ ap length (get_or-set_other heres (c - 1) (d - 1) words [] f)
  ];
  at_port = ap (λ (l : List ℕ). flag_of l p) here_is ∙ at;
  others = λ d q above ne. elim (cases_eq (d - 1) (c - 1)) [
    | inl e ↦ let same : d ≡ c = omega (arith, e, above, from) in
        ap (λ (i : ℕ). flag_of (get_or (set heres (c - 1) words) i []) q) e ∙ ap (λ (l : List ℕ). flag_of l q) here_is ∙ others q (λ f. ne (same, f)) ∙ ap (λ (i : ℕ). flag_of (get_or heres i []) q) (sym e)
    | inr f ↦ ap (λ (l : List ℕ). flag_of l q) (get_or-set_other heres (c - 1) (d - 1) words [] f)
  ];
}
  where
    here_is : get_or (set heres (c - 1) words) (c - 1) [] ≡ words
    here_is = get_or-set_same heres (c - 1) words [] (omega (arith, from, to))

bit_flag : (b : Bool) → (from_bool b == 1) ≡ b
bit_flag true = refl
bit_flag false = refl

-- one end is told; x is what was read there
pub put_end : (heres : List (List ℕ)) (end : Option ℕ) (c p : ℕ) (bit : Bool) (x words : List ℕ) → end ≡ Some c → HasBit heres end p → x ≡ get_or heres (c - 1) x → length words ≡ length x → bit_of words p ≡ from_bool bit → ((q : ℕ) → q ≢ p → bit_of words q ≡ bit_of x q) → PutEnd heres (set heres (c - 1) words) end p bit
put_end heres None c p bit x words is has read long here others = absurd (cc)
put_end heres (Some d) c p bit x words is has read long here others =
    let e : d ≡ c = cc in
    let (from, to, room) = subst (λ (n : ℕ). (0 < n) × (n ≤ length heres) × (p < 64 * length (here_at heres n))) e has in
    let same : x ≡ here_at heres c = get_or_read heres (c - 1) x (omega (arith, from, to)) read [] in
    subst (λ (n : ℕ). PutAt heres (set heres (c - 1) words) n p bit) (sym e)
    (put_at heres c p words bit from to (long ∙ ap length same) (ap (λ (n : ℕ). n == 1) here ∙ bit_flag bit) (λ q ne. ap (λ (n : ℕ). n == 1) (others q ne) ∙ ap (λ (l : List ℕ). flag_of l q) same))

-- a net that keeps its ties and its bits is sighted
pub sighted_from : (w : Wiring) (phases : List Phase) (comps : List Component) (heres : List (List ℕ)) → Tied w phases comps → HasChans w.sites comps → Told w phases heres → ((c : ℕ) → length (here_at heres c) ≤ 2 ^ 26) → Sighted w.sites phases comps heres
sighted_from w phases comps heres tied chans_of told few = record {
  comps_len = tied.comps_len;
  sides = tied.sides;
  opened = tied.opened;
  kept = tied.kept;
  chans_of = chans_of;
  heres_len = told.heres_len;
  room = told.room;
  few = few;
  told = told.told;
}

idle_here : (passive : Bool) → is_here Idle passive ≡ false
idle_here passive = refl

idle_in : (n i : ℕ) → get_or (replicate n Idle) i Idle ≡ Idle
idle_in zero i = refl
idle_in (suc n) zero = refl
idle_in (suc n) (suc i) = idle_in n i

-- at the opening nothing is here
pub told_opening : (w : Wiring) (heres : List (List ℕ)) → length heres ≡ length w.sites → ((c : ℕ) → 0 < c → c ≤ length w.sites → (length (site_at w.sites c).chans < 64 * length (here_at heres c)) × ((p : ℕ) → bit_of (here_at heres c) p ≡ 0)) → Told w (replicate (length w.chans) Idle) heres
told_opening w heres len each = record {
  heres_len = len;
  room = λ c from to. (each c from to).0;
  told = λ c p port. ap (λ (n : ℕ). n == 1) ((each c port.comp_from port.comp_to).1 p)
      ∙ sym (ap (λ (f : Phase). is_here f (passive_at w.sites c p)) (idle_in (length w.chans) (chan_at w.sites c p - 1)) ∙ idle_here (passive_at w.sites c p));
}

-- a component that can move stands in the net
pub may_stands : (sites : List Site) (state : State) (c : ℕ) (at : Option ℕ) → MayMove sites state c at → (0 < c) × (c ≤ length sites)
may_stands sites state c None (p, steps) = (steps.is_port.comp_from, steps.is_port.comp_to)
may_stands sites state c (Some p) steps = (steps.is_port.comp_from, steps.is_port.comp_to)

-- the same of a component and its bits as they were read
module _ (sites : List Site) (phases : List Phase) (comps : List Component) (heres : List (List ℕ)) (sighted : Sighted sites phases comps heres) (c : ℕ) (from : 0 < c) (to : c ≤ length sites) (x : Component) (h : List ℕ) (x_is : x ≡ get_or comps (c - 1) x) (h_is : h ≡ get_or heres (c - 1) h) where
  x_at : x ≡ comp_at comps c
  x_at = let n = sighted.comps_len in get_or_read comps (c - 1) x (omega (arith, from, to, n)) x_is no_comp

  h_at : h ≡ here_at heres c
  h_at = let n = sighted.heres_len in get_or_read heres (c - 1) h (omega (arith, from, to, n)) h_is []

  pub lowest_read : (o : Option ℕ) → MatchOption o (NoneGoes x h) (GoesFirst x h) → IsTurning x → MatchOption o (CanStep sites (state_of phases comps) c → ⊥) (IsLowest sites (state_of phases comps) c)
  lowest_read o found turning =
      lowest_is sites phases comps heres sighted c (subst IsTurning x_at turning) from to o
      (subst (λ (l : List ℕ). MatchOption o (NoneGoes (comp_at comps c) l) (GoesFirst (comp_at comps c) l)) h_at (subst (λ (y : Component). MatchOption o (NoneGoes y h) (GoesFirst y h)) x_at found))

  pub moves_read : (b : Bool) → MatchBool b (Goes x h) (NoneGoes x h) → IsTurning x → MatchBool b (CanStep sites (state_of phases comps) c) (CanStep sites (state_of phases comps) c → ⊥)
  moves_read b found turning =
      moves_are sites phases comps heres sighted c (subst IsTurning x_at turning) from to b
      (subst (λ (l : List ℕ). MatchBool b (Goes (comp_at comps c) l) (NoneGoes (comp_at comps c) l)) h_at (subst (λ (y : Component). MatchBool b (Goes y h) (NoneGoes y h)) x_at found))

  -- by its bits it can move at some port, and at the one that is given or at the lowest
  pub goes_read : (at : Option ℕ) → MayMove sites (state_of phases comps) c at → IfNone at (IsTurning x → NoneGoes x h → ⊥)
  goes_read None can = λ turning none. lowest_read None none turning can
  goes_read (Some p) can = tt

  pub port_read : (at : Option ℕ) (p : ℕ) → MayMove sites (state_of phases comps) c at → GoesAt x h at p → StepsAt sites (state_of phases comps) c p × MovesAt sites (state_of phases comps) c at p
  port_read None p can goes = let lowest = lowest_read (Some p) goes.0 goes.1 in (lowest.steps_at, lowest)
  port_read (Some q) p can goes = (subst (λ (n : ℕ). StepsAt sites (state_of phases comps) c n) (sym goes) can, goes)

  -- by its bits it can move at a port, or can't
  pub step_read : (p : ℕ) (b : Bool) → IsTrue b ↔ CanGo x.proc p (flag_of h p) → ((q : ℕ) (head : Head) → IsHeadOn x.proc q head → (0 < q) × (q ≤ length x.chans)) → IsTurning x → MatchBool b (StepsAt sites (state_of phases comps) c p) (StepsAt sites (state_of phases comps) c p → ⊥)
  step_read p true can held turning =
      let (head, on, free) = can.0 refl in let within = held p head on in let same = ap (λ (y : Component). length y.chans) x_at in let n = sighted.chans_of c from to in
      steps_where sites phases comps heres sighted c (subst IsTurning x_at turning) p
      (record { comp_from = from; comp_to = to; port_from = within.0; port_to = (let last = within.1 in omega (arith, last, same, n)) })
      (subst (λ (y : Component). CanGo y.proc p (flag_of (here_at heres c) p)) x_at (subst (λ (l : List ℕ). CanGo x.proc p (flag_of l p)) h_at (can.0 refl)))
  step_read p false can held turning = λ at.
      absurd (false≢true (can.1 (subst (λ (l : List ℕ). CanGo x.proc p (flag_of l p)) (sym h_at) (subst (λ (y : Component). CanGo y.proc p (flag_of (here_at heres c) p)) (sym x_at)
      (goes_where sites phases comps heres sighted c (subst IsTurning x_at turning) p at)))))

  pub room_read : length x.chans < 64 * length h
  room_read = let a = ap (λ (y : Component). length y.chans) x_at in let b = ap (λ (l : List ℕ). length l) h_at in let n = sighted.chans_of c from to in let r = sighted.room c from to in omega (arith, a, b, n, r)

  pub few_read : length h ≤ 2 ^ 26
  few_read = let b = ap (λ (l : List ℕ). length l) h_at in let r = sighted.few c in omega (arith, b, r)

-- the ports at the ends of a channel have bits
pub has_bit : (sites : List Site) (phases : List Phase) (comps : List Component) (heres : List (List ℕ)) (k : ℕ) (pair : Ends) → Sighted sites phases comps heres → AreEnds sites k pair → (side : Bool) (o : Option ℕ) → o ≡ at_side pair side → HasBit heres o (port_of_side pair side)
has_bit sites phases comps heres k pair sighted ends side None is = tt
has_bit sites phases comps heres k pair sighted ends side (Some c) is =
    let at = ends.holds side c (sym is) in let port = at.is_port in
    let from = port.comp_from in let to = port.comp_to in let last = port.port_to in
    let len = sighted.heres_len in let room = sighted.room c from to in
    (from, omega (arith, to, len), omega (arith, last, room))

-- the table of ends has them with their ports
pub all_are_ends : (w : Wiring) (ends : List Ends) → EndsOf w ends → AllAreEnds w.sites ends
all_are_ends w ends of k from = record {
  finds = λ c p port on.
      let found = of.finds c p port in
      subst (λ (j : ℕ). (end_at ends j (passive_at w.sites c p) ≡ Some c) × (port_of_side (ends_in ends j) (passive_at w.sites c p) ≡ p)) on found;
  holds = λ side c at. of.holds k c side from at;
}

-- a component keeps its channels
pub chans_kept : (sites : List Site) (comps : List Component) (c : ℕ) (rest : Component) → HasChans sites comps → rest.chans ≡ (comp_at comps c).chans → 0 < c → c ≤ length comps → HasChans sites (set comps (c - 1) rest)
chans_kept sites comps c rest before same from to d above below = elim (cases_eq d c) [
  | inl e ↦
      let here : comp_at (set comps (c - 1) rest) d ≡ rest = ap (λ (j : ℕ). comp_at (set comps (c - 1) rest) j) e ∙ at_same comps c rest no_comp from to in
      ap (λ (x : Component). length x.chans) here ∙ ap length same ∙ ap (λ (j : ℕ). length (comp_at comps j).chans) (sym e) ∙ before d above below
  | inr ne ↦ ap (λ (x : Component). length x.chans) (at_other comps c d rest no_comp from above ne) ∙ before d above below
]

-- so is a net after each of its moves
pub stays_sighted : (w : Wiring) (phases : List Phase) (comps : List Component) (heres : List (List ℕ)) (c p : ℕ) → WellWired w → Tied w phases comps → HasChans w.sites comps → Told w phases heres → ((d : ℕ) → length (here_at heres d) ≤ 2 ^ 26) → StaysSighted w.sites phases comps heres c p
stays_sighted w phases comps heres c p wired tied chans_of told few phases' comps' heres' k mv value does =
    let port = does.steps_at.is_port in
    let k_from : 0 < k = subst (λ j. 0 < j) (sym does.chan_is) (wired.chan_from c p port) in
    let k_to : k ≤ length phases = let to = wired.chan_to c p port in let len = tied.phases_len in let is = does.chan_is in omega (arith, to, len, is) in
    let c_to : c ≤ length comps = let to = port.comp_to in let len = tied.comps_len in omega (arith, to, len) in
    let next = phase_after (phase_in phases k) mv value in
    rw (does.phases_is, does.comps_is) (sighted_from w (set phases (k - 1) next) (set comps (c - 1) does.rest) heres'
    (tied_step w phases comps c p k mv value does.rest wired tied port does.chan_is does.moves does.turns)
    (chans_kept w.sites comps c does.rest chans_of does.same_chans port.comp_from c_to)
    (told_kept w phases heres heres' k next wired tied.phases_len told does.retold k_from k_to)
    (λ d. subst (λ (n : ℕ). n ≤ 2 ^ 26) (sym (does.retold.room d)) (few d)))

-- a move by what was read; x is the component before it
module _ (sites : List Site) (phases : List Phase) (comps : List Component) (heres heres' : List (List ℕ)) (c p k : ℕ) (mv : Move) (value : Option ℕ) (x rest : Component) (next : Phase) (steps : StepsAt sites (state_of phases comps) c p) (len : length comps ≡ length sites) (chan_is : k ≡ chan_at sites c p) (x_is : x ≡ get_or comps (c - 1) x) (moves : Moves x.proc p (phase_in phases k) mv value rest.proc) (turns : Turns x p mv rest) (one : HasOneHead x.proc.todo) (chans : rest.chans ≡ x.chans) (next_is : next ≡ phase_after (phase_in phases k) mv value) where
  read_at : x ≡ comp_at comps c
  read_at = let from = steps.is_port.comp_from in let to = steps.is_port.comp_to in get_or_read comps (c - 1) x (omega (arith, from, to, len)) x_is no_comp

  pub turned_by : Retold sites heres heres' k next → Turned sites phases comps heres (set phases (k - 1) next) (set comps (c - 1) rest) heres' c p k mv value
  turned_by again = record {
    steps_at = steps;
    chan_is = chan_is;
    rest = rest;
    moves = subst (λ (y : Component). Moves y.proc p (phase_in phases k) mv value rest.proc) read_at moves;
    turns = subst (λ (y : Component). Turns y p mv rest) read_at turns;
    one = subst (λ (y : Component). HasOneHead y.proc.todo) read_at one;
    same_chans = subst (λ (y : Component). rest.chans ≡ y.chans) read_at chans;
    phases_is = ap (λ (f : Phase). set phases (k - 1) f) next_is;
    comps_is = refl;
    retold = subst (λ (f : Phase). Retold sites heres heres' k f) next_is again;
  }

-- and after each host command that is not refused
pub host_sighted : (w : Wiring) (phases : List Phase) (comps : List Component) (heres : List (List ℕ)) (verb : Verb) (port : ℕ) (value : Option ℕ) → WellWired w → Tied w phases comps → HasChans w.sites comps → Told w phases heres → ((d : ℕ) → length (here_at heres d) ≤ 2 ^ 26) → 0 < port → port ≤ length w.ports → refusal_at w verb port value ≡ None → HostSighted w.sites phases comps heres port (host_after verb value (phase_in phases port))
host_sighted w phases comps heres verb port value wired tied chans_of told few from to agreed heres' again =
    let k_to : port ≤ length phases = let len = tied.phases_len in let ports = wired.ports_to in omega (arith, to, len, ports) in
    sighted_from w (set phases (port - 1) (host_after verb value (phase_in phases port))) comps heres'
    (tied_command w phases comps verb port value wired tied from to (side_from w verb port value agreed))
    chans_of
    (told_kept w phases heres heres' port (host_after verb value (phase_in phases port)) wired tied.phases_len told again from k_to)
    (λ d. subst (λ (n : ℕ). n ≤ 2 ^ 26) (sym (again.room d)) (few d))
