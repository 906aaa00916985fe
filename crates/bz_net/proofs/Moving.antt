-- What a move changes: one bit at one end of its channel, and whether the components at its ends can move.
use Rattle.std.proofs.Common.{◌≡◌, ◌≢◌, ℕ, suc, ◌-◌, ◌<◌, ◌≤◌, inl, inr, Bool, true, false, Option, Some, None, List, [], length, get_or, set, IsTrue, ◌↔◌, refl, sym, ap, subst, ◌∙◌, arith}
use Rattle.std.specs.Prelude.{not, if◌then◌else◌, MatchBool, MatchOption, IfSome}
use Rattle.std.proofs.lemmas.List.{get_or-set_same, get_or-set_other, length-map, length-set, get_or_read, set-get_or}
use Rattle.std.proofs.lemmas.Bool.{cases_eq, false≢true}
use Rattle.bz_model.specs.declared.channel.Move.{Move}
use Rattle.bz_model.specs.declared.channel.Move.TheVariants.{Ask, Take, Reply, Got}
use Rattle.bz_model.specs.declared.channel.Phase.{Phase}
use Rattle.bz_model.specs.declared.channel.Phase.TheVariants.{Idle, Asked, Taken, Replied, Broken}
use Rattle.bz_model.specs.Phases.{allows, phase_after}
use Rattle.bz_model.specs.Heads.{Component, HasOneHead, Moves, Turns, open_at, opens}
use Rattle.bz_model.specs.Nets.{Site, IsPort, StepsAt, chan_at, passive_at}
use Rattle.bz_kinds.specs.Ready.{CanGo, is_free}
use Rattle.bz_flat.specs.declared.flat.Ends.{Ends}
use Rattle.bz_flat.specs.Wires.{IsEnd, at_side, port_of_side}
use Rattle.bz_kinds.specs.Riding.{riding}
use Rattle.bz_net.specs.Sides.{answers, sends}
use Rattle.bz_net.specs.Keeping.{Exact, Refreshed, RefreshedEnds, comp_at, flag_at, is_open, no_comp, phase_in, state_of}
use Rattle.bz_net.specs.declared.node.Node.{Node}
use Rattle.bz_net.specs.Nodes.{comp_of, comps_of, here_of, heres_of}
use Rattle.bz_net.specs.Told.{AreEnds, Came, Goes, HasBit, IsTurning, Left, MarkedDue, NoneGoes, PutAt, PutEnd, Retold, Sighted, ToldOther, Turned, flag_of, here_at, is_here}
use Rattle.bz_net.specs.Due.{next_of}
use Rattle.bz_net.proofs.Hints as hints
use Rattle.bz_net.proofs.Nodes.{bits_read, comp_read}
use Rattle.bz_net.proofs.Sides.{sided-head}
use Rattle.bz_net.proofs.Ties.{at_other, either_of, not_same}
use Rattle.bz_net.proofs.Telling.{goes_where, put_at, put_len, put_off, put_on, put_room, steps_where, turned_by}

-- what port p of component c waited for was taken from there, and nothing came to the component at the other end
pub record Went (comps : List Component) (heres heres' : List (List ℕ)) (old new : List Bool) (c p : ℕ) (other : Option ℕ) : Type 0 where
  pub put : PutAt heres heres' c p false
  pub turning : IfSome other (λ d. IsTurning (comp_at comps d))
  pub row : new ≡ old

-- the ends of a channel were told of a move at port p of component c, which is there
abbrev pub ToldMove : List Component → List (List ℕ) → List (List ℕ) → List Bool → List Bool → Ends → ℕ → ℕ → Move → Type 0
ToldMove comps heres heres' old new pair c p Ask = Came comps heres heres' old new pair.passive pair.passive_port
ToldMove comps heres heres' old new pair c p Take = Went comps heres heres' old new c p pair.active
ToldMove comps heres heres' old new pair c p Reply = Came comps heres heres' old new pair.active pair.active_port
ToldMove comps heres heres' old new pair c p Got = Went comps heres heres' old new c p pair.passive

-- whether a move brings what the other end waits for
abbrev comes : Move → Bool
comes Ask = true
comes Take = false
comes Reply = true
comes Got = false

-- what is there for the end that moves and for the other end, before the move and after it
record Around (phase next : Phase) (mv : Move) (passive : Bool) : Type 0 where
  after : is_here next passive ≡ false
  before : is_here phase passive ≡ not (comes mv)
  other_after : is_here next (not passive) ≡ comes mv
  other_before : is_here phase (not passive) ≡ false

-- a move of its end that turns its port and is allowed
around : (phase : Phase) (mv : Move) (value : Option ℕ) (passive : Bool) → phase ≢ Broken → answers mv ≡ passive → opens mv ≡ not (is_open phase passive) → IsTrue (allows phase mv) → Around phase (phase_after phase mv value) mv passive
around Broken mv value passive u e f ok = absurd (u refl)
around Idle Ask value false u e f ok = record { after = refl; before = refl; other_after = refl; other_before = refl }
around Idle Ask value true u e f ok = absurd (cc)
around Idle Take value passive u e f ok = absurd (false≢true ok)
around Idle Reply value true u e f ok = absurd (cc)
around Idle Reply value false u e f ok = absurd (cc)
around Idle Got value passive u e f ok = absurd (false≢true ok)
around (Asked v) Ask value true u e f ok = absurd (cc)
around (Asked v) Ask value false u e f ok = absurd (cc)
around (Asked v) Take value true u e f ok = record { after = refl; before = refl; other_after = refl; other_before = refl }
around (Asked v) Take value false u e f ok = absurd (cc)
around (Asked v) Reply value true u e f ok = absurd (cc)
around (Asked v) Reply value false u e f ok = absurd (cc)
around (Asked v) Got value passive u e f ok = absurd (false≢true ok)
around Taken Ask value true u e f ok = absurd (cc)
around Taken Ask value false u e f ok = absurd (cc)
around Taken Take value passive u e f ok = absurd (false≢true ok)
around Taken Reply value true u e f ok = record { after = refl; before = refl; other_after = refl; other_before = refl }
around Taken Reply value false u e f ok = absurd (cc)
around Taken Got value passive u e f ok = absurd (false≢true ok)
around (Replied v) Ask value true u e f ok = absurd (cc)
around (Replied v) Ask value false u e f ok = absurd (cc)
around (Replied v) Take value passive u e f ok = absurd (false≢true ok)
around (Replied v) Reply value true u e f ok = absurd (cc)
around (Replied v) Reply value false u e f ok = absurd (cc)
around (Replied v) Got value false u e f ok = record { after = refl; before = refl; other_after = refl; other_before = refl }
around (Replied v) Got value true u e f ok = absurd (cc)

-- a move that turns its port breaks no handshake
pub whole_after : (phase : Phase) (mv : Move) (value : Option ℕ) → opens mv ≡ not (is_open phase (answers mv)) → phase_after phase mv value ≢ Broken
whole_after Idle Ask value f = λ e. absurd (cc)
whole_after (Asked v) Ask value f = absurd (cc)
whole_after Taken Ask value f = absurd (cc)
whole_after (Replied v) Ask value f = absurd (cc)
whole_after Broken Ask value f = absurd (cc)
whole_after phase Take value f = λ e. absurd (cc)
whole_after Idle Reply value f = absurd (cc)
whole_after (Asked v) Reply value f = absurd (cc)
whole_after Taken Reply value f = λ e. absurd (cc)
whole_after (Replied v) Reply value f = absurd (cc)
whole_after Broken Reply value f = absurd (cc)
whole_after phase Got value f = λ e. absurd (cc)

-- and what is sent rides then
pub rides_after : (phase : Phase) (mv : Move) (value : Option ℕ) → phase_after phase mv value ≢ Broken → sends mv ≡ true → riding (phase_after phase mv value) ≡ value
rides_after Idle Ask value u s = refl
rides_after (Asked v) Ask value u s = absurd (u refl)
rides_after Taken Ask value u s = absurd (u refl)
rides_after (Replied v) Ask value u s = absurd (u refl)
rides_after Broken Ask value u s = absurd (u refl)
rides_after phase Take value u s = absurd (false≢true s)
rides_after Idle Reply value u s = absurd (u refl)
rides_after (Asked v) Reply value u s = absurd (u refl)
rides_after Taken Reply value u s = refl
rides_after (Replied v) Reply value u s = absurd (u refl)
rides_after Broken Reply value u s = absurd (u refl)
rides_after phase Got value u s = absurd (false≢true s)

-- on an idle channel a request alone is made
asks_alone : (phase : Phase) (mv : Move) → phase ≡ Idle → opens mv ≡ not (is_open phase (answers mv)) → IsTrue (allows phase mv) → mv ≡ Ask
asks_alone phase Ask e f ok = refl
asks_alone phase Take e f ok = absurd (false≢true (subst (λ (x : Phase). IsTrue (allows x Take)) e ok))
asks_alone phase Reply e f ok = absurd (false≢true (subst (λ (x : Phase). opens Reply ≡ not (is_open x true)) e f))
asks_alone phase Got e f ok = absurd (false≢true (subst (λ (x : Phase). IsTrue (allows x Got)) e ok))

-- one end of a channel is told of its new phase, and nothing new is there for the other end
module _ (sites : List Site) (phases : List Phase) (heres heres' : List (List ℕ)) (k : ℕ) (pair : Ends) (next : Phase) (ends : AreEnds sites k pair) (told : (c p : ℕ) → IsPort sites c p → flag_of (here_at heres c) p ≡ is_here (phase_in phases (chan_at sites c p)) (passive_at sites c p)) (side bit : Bool) (put : PutEnd heres heres' (at_side pair side) (port_of_side pair side) bit) (is : is_here next side ≡ bit) (still : is_here next (not side) ≡ is_here (phase_in phases k) (not side)) where
  off : (d q : ℕ) → 0 < d → (IsEnd sites k side d q → ⊥) → flag_of (here_at heres' d) q ≡ flag_of (here_at heres d) q
  off = put_off sites heres heres' heres' k pair next ends heres heres' side (at_side pair side) refl bit put

  on_it : (d q : ℕ) → IsPort sites d q → chan_at sites d q ≡ k → passive_at sites d q ≡ side → flag_of (here_at heres' d) q ≡ is_here next (passive_at sites d q)
  on_it d q port on sense =
      let found = ends.finds d q port on in
      let at : at_side pair side ≡ Some d = subst (λ (b : Bool). at_side pair b ≡ Some d) sense found.0 in
      let spot : port_of_side pair side ≡ q = subst (λ (b : Bool). port_of_side pair b ≡ q) sense found.1 in
      subst (λ (r : ℕ). flag_of (here_at heres' d) r ≡ bit) spot (put_on sites heres heres' heres' k pair next ends heres heres' (at_side pair side) (port_of_side pair side) bit d at put)
      ∙ sym is ∙ ap (is_here next) (sym sense)

  across : (d q : ℕ) → IsPort sites d q → chan_at sites d q ≡ k → passive_at sites d q ≡ not side → flag_of (here_at heres' d) q ≡ is_here next (passive_at sites d q)
  across d q port on sense =
      off d q port.comp_from (λ e. not_same side (sym e.sense ∙ sense))
      ∙ told d q port
      ∙ ap (λ (j : ℕ). is_here (phase_in phases j) (passive_at sites d q)) on
      ∙ ap (is_here (phase_in phases k)) sense
      ∙ sym still
      ∙ ap (is_here next) (sym sense)

  told_one : Retold sites heres heres' k next
  told_one = record {
    len = put_len sites heres heres' heres' k pair next ends heres heres' (at_side pair side) (port_of_side pair side) bit put;
    room = put_room sites heres heres' heres' k pair next ends heres heres' (at_side pair side) (port_of_side pair side) bit put;
    at_ends = λ d q port on. elim (either_of (passive_at sites d q) side) [
      | inl same ↦ on_it d q port on same
      | inr other ↦ across d q port on other
    ];
    others = λ d q port apart. off d q port.comp_from (λ e. apart e.on);
  }

-- a move of component c at port p, which stands at its end of channel k
module _ (sites : List Site) (phases : List Phase) (comps : List Component) (heres : List (List ℕ)) (c p k : ℕ) (mv : Move) (value : Option ℕ) (rest : Component) (sighted : Sighted sites phases comps heres) (port : IsPort sites c p) (chan_is : k ≡ chan_at sites c p) (moves : Moves (comp_at comps c).proc p (phase_in phases k) mv value rest.proc) (turns : Turns (comp_at comps c) p mv rest) where
  pub of_its_side : answers mv ≡ passive_at sites c p
  of_its_side = ap answers moves.move_is ∙ (sided-head (passive_at sites c) (comp_at comps c).proc.todo moves.head moves.on.0 (sighted.sides c port.comp_from port.comp_to)).0 ∙ ap (passive_at sites c) moves.on.1

  opens_shut : opens mv ≡ not (is_open (phase_in phases k) (passive_at sites c p))
  opens_shut = turns.before ∙ ap not (sighted.opened c p port ∙ ap (λ (j : ℕ). is_open (phase_in phases j) (passive_at sites c p)) (sym chan_is))

  around_it : Around (phase_in phases k) (phase_after (phase_in phases k) mv value) mv (passive_at sites c p)
  around_it = around (phase_in phases k) mv value (passive_at sites c p) (sighted.kept k) of_its_side opens_shut moves.allowed

  pub busy_before : (mv ≡ Ask → ⊥) → phase_in phases k ≢ Idle
  busy_before no_ask idle =
      no_ask (asks_alone (phase_in phases k) mv idle (subst (λ (b : Bool). opens mv ≡ not (is_open (phase_in phases k) b)) (sym of_its_side) opens_shut) moves.allowed)

  module _ (pair : Ends) (heres' : List (List ℕ)) (ends : AreEnds sites k pair) where
    mover_is : (at_side pair (answers mv) ≡ Some c) × (port_of_side pair (answers mv) ≡ p)
    mover_is = subst (λ (b : Bool). (at_side pair b ≡ Some c) × (port_of_side pair b ≡ p)) (sym of_its_side) (ends.finds c p port (sym chan_is))

    about : Around (phase_in phases k) (phase_after (phase_in phases k) mv value) mv (answers mv)
    about = subst (Around (phase_in phases k) (phase_after (phase_in phases k) mv value) mv) (sym of_its_side) around_it

    -- what it waited for went
    retold_went : comes mv ≡ false → PutAt heres heres' c p false → Retold sites heres heres' k (phase_after (phase_in phases k) mv value)
    retold_went none put =
        told_one sites phases heres heres' k pair (phase_after (phase_in phases k) mv value) ends sighted.told (answers mv) false
        (subst (λ (o : Option ℕ). PutEnd heres heres' o (port_of_side pair (answers mv)) false) (sym mover_is.0) (subst (λ (r : ℕ). PutAt heres heres' c r false) (sym mover_is.1) put))
        about.after
        (about.other_after ∙ none ∙ sym about.other_before)

    -- what the other end waits for came
    retold_came : comes mv ≡ true → (side : Bool) → side ≡ not (answers mv) → PutEnd heres heres' (at_side pair side) (port_of_side pair side) true → Retold sites heres heres' k (phase_after (phase_in phases k) mv value)
    retold_came some side is put =
        let back : not side ≡ answers mv = ap not is ∙ twice (answers mv) in
        told_one sites phases heres heres' k pair (phase_after (phase_in phases k) mv value) ends sighted.told side true put
        (ap (is_here (phase_after (phase_in phases k) mv value)) is ∙ about.other_after ∙ some)
        (ap (is_here (phase_after (phase_in phases k) mv value)) back ∙ about.after ∙ sym (ap (is_here (phase_in phases k)) back ∙ about.before ∙ ap not some))
      where
        twice : (b : Bool) → not (not b) ≡ b
        twice true = refl
        twice false = refl

retold_by : (sites : List Site) (phases : List Phase) (comps comps' : List Component) (heres heres' : List (List ℕ)) (c p k : ℕ) (mv : Move) (value : Option ℕ) (rest : Component) (pair : Ends) (old new : List Bool) → Sighted sites phases comps heres → IsPort sites c p → k ≡ chan_at sites c p → Moves (comp_at comps c).proc p (phase_in phases k) mv value rest.proc → Turns (comp_at comps c) p mv rest → AreEnds sites k pair → ToldMove comps' heres heres' old new pair c p mv → Retold sites heres heres' k (phase_after (phase_in phases k) mv value)
retold_by sites phases comps comps' heres heres' c p k Ask value rest pair old new sighted port chan_is moves turns ends told =
    retold_came sites phases comps heres c p k Ask value rest sighted port chan_is moves turns pair heres' ends refl true refl told.put
retold_by sites phases comps comps' heres heres' c p k Take value rest pair old new sighted port chan_is moves turns ends told =
    retold_went sites phases comps heres c p k Take value rest sighted port chan_is moves turns pair heres' ends refl told.put
retold_by sites phases comps comps' heres heres' c p k Reply value rest pair old new sighted port chan_is moves turns ends told =
    retold_came sites phases comps heres c p k Reply value rest sighted port chan_is moves turns pair heres' ends refl false refl told.put
retold_by sites phases comps comps' heres heres' c p k Got value rest pair old new sighted port chan_is moves turns ends told =
    retold_went sites phases comps heres c p k Got value rest sighted port chan_is moves turns pair heres' ends refl told.put

-- the same of the component as it was read
pub retold_read : (sites : List Site) (phases : List Phase) (comps comps' : List Component) (heres heres' : List (List ℕ)) (c p k : ℕ) (mv : Move) (value : Option ℕ) (x rest : Component) (next : Phase) (pair : Ends) (old new : List Bool) → Sighted sites phases comps heres → IsPort sites c p → k ≡ chan_at sites c p → x ≡ get_or comps (c - 1) x → Moves x.proc p (phase_in phases k) mv value rest.proc → Turns x p mv rest → next ≡ phase_after (phase_in phases k) mv value → AreEnds sites k pair → ToldMove comps' heres heres' old new pair c p mv → Retold sites heres heres' k next
retold_read sites phases comps comps' heres heres' c p k mv value x rest next pair old new sighted port chan_is x_is moves turns next_is ends told =
    let from = port.comp_from in let to = port.comp_to in let len = sighted.comps_len in
    let at : x ≡ comp_at comps c = get_or_read comps (c - 1) x (omega (arith, from, to, len)) x_is no_comp in
    subst (Retold sites heres heres' k) (sym next_is)
    (retold_by sites phases comps comps' heres heres' c p k mv value rest pair old new sighted port chan_is
    (subst (λ (y : Component). Moves y.proc p (phase_in phases k) mv value rest.proc) at moves)
    (subst (λ (y : Component). Turns y p mv rest) at turns) ends told)

-- what was read of a component is what stands there
pub comp_is : (nodes : List Node) (c i : ℕ) (x : Node) → 0 < c → c ≤ length nodes → i ≡ c - 1 → x ≡ get_or nodes i x → x.comp ≡ comp_at (comps_of nodes) c
comp_is nodes c i x from to at is =
    get_or_read (comps_of nodes) (c - 1) x.comp (let len = length-map nodes comp_of in omega (arith, from, to, len)) (comp_read nodes c i x at is) no_comp

pub bits_at : (nodes : List Node) (c i : ℕ) (x : Node) → 0 < c → c ≤ length nodes → i ≡ c - 1 → x ≡ get_or nodes i x → x.here ≡ here_at (heres_of nodes) c
bits_at nodes c i x from to at is =
    get_or_read (heres_of nodes) (c - 1) x.here (let len = length-map nodes here_of in omega (arith, from, to, len)) (bits_read nodes c i x at is) []

-- a move leaves as many bits
pub left_long : (mv : Move) (here here' : List ℕ) (p : ℕ) → Left mv here here' p → length here' ≡ length here
left_long Ask here here' p left = ap length left
left_long Take here here' p left = left.long
left_long Reply here here' p left = ap length left
left_long Got here here' p left = left.long

-- so an end's port has its bit still
pub bit_stays : (heres heres' : List (List ℕ)) (c : ℕ) (h : List ℕ) → 0 < c → c ≤ length heres → heres' ≡ set heres (c - 1) h → length h ≡ length (here_at heres c) → (o : Option ℕ) (p : ℕ) → HasBit heres o p → HasBit heres' o p
bit_stays heres heres' c h from to is long None p has = tt
bit_stays heres heres' c h from to is long (Some d) p (above, below, room) =
    let count : length heres' ≡ length heres = ap length is ∙ length-set heres (c - 1) h in
    let words : length (here_at heres' d) ≡ length (here_at heres d) = ap (λ (l : List (List ℕ)). length (here_at l d)) is ∙ elim (cases_eq (d - 1) (c - 1)) [
      | inl e ↦ ap (λ (j : ℕ). length (get_or (set heres (c - 1) h) j [])) e ∙ ap length (get_or-set_same heres (c - 1) h [] (omega (arith, from, to))) ∙ long ∙ ap (λ (j : ℕ). length (get_or heres j [])) (sym e)
      | inr f ↦ ap length (get_or-set_other heres (c - 1) (d - 1) h [] f)
    ] in
    (above, omega (arith, below, count), omega (arith, room, words))

-- where there is a bit there is a component
pub end_there : (nodes : List Node) (end : Option ℕ) (p : ℕ) → HasBit (heres_of nodes) end p → IfSome end (λ c. (0 < c) × (c ≤ length nodes))
end_there nodes None p has = tt
end_there nodes (Some c) p has = (has.0, subst (λ n. c ≤ n) (length-map nodes here_of) has.1)

-- it was marked by what was read of it
pub marked_due : (comps : List Component) (old new : List Bool) (c p : ℕ) (x : Component) (due : Bool) → x ≡ comp_at comps c → IsTurning x → IsTrue due ↔ CanGo x.proc p true → new ≡ (if due then set old c true else old) → MarkedDue comps old new c p
marked_due comps old new c p x due at turning tells row = record {
  turning = subst IsTurning at turning;
  due = due;
  tells = subst (λ (y : Component). IsTrue due ↔ CanGo y.proc p true) at tells;
  row = row;
}

-- what can be made with something there or not can be made with it there
freer : (mv : Move) (here : Bool) → IsTrue (is_free mv here) → IsTrue (is_free mv true)
freer Ask here t = refl
freer Take here t = refl
freer Reply here t = refl
freer Got here t = refl

-- component d, which turns its ports, was not moved
module _ (sites : List Site) (phases : List Phase) (comps : List Component) (heres : List (List ℕ)) (phases' : List Phase) (comps' : List Component) (heres' : List (List ℕ)) (before : Sighted sites phases comps heres) (after : Sighted sites phases' comps' heres') (d : ℕ) (same : comp_at comps' d ≡ comp_at comps d) (turning : IsTurning (comp_at comps' d)) where
  turned : IsTurning (comp_at comps d)
  turned = subst IsTurning same turning

  -- where the bit at a port is as it was, so are its steps there
  step_stays : (q : ℕ) → flag_of (here_at heres' d) q ≡ flag_of (here_at heres d) q → StepsAt sites (state_of phases comps) d q → StepsAt sites (state_of phases' comps') d q
  step_stays q bit at =
      steps_where sites phases' comps' heres' after d turning q at.is_port
      (subst (λ (b : Bool). CanGo (comp_at comps' d).proc q b) (sym bit) (subst (λ (x : Component). CanGo x.proc q (flag_of (here_at heres d) q)) (sym same) (goes_where sites phases comps heres before d turned q at)))

  step_was : (q : ℕ) → flag_of (here_at heres' d) q ≡ flag_of (here_at heres d) q → StepsAt sites (state_of phases' comps') d q → StepsAt sites (state_of phases comps) d q
  step_was q bit at =
      steps_where sites phases comps heres before d turned q at.is_port
      (subst (λ (b : Bool). CanGo (comp_at comps d).proc q b) bit (subst (λ (x : Component). CanGo x.proc q (flag_of (here_at heres' d) q)) same (goes_where sites phases' comps' heres' after d turning q at)))

  -- nothing came to it
  pub exact_still : (old new : List Bool) → ((q : ℕ) → flag_of (here_at heres' d) q ≡ flag_of (here_at heres d) q) → flag_at new d ≡ flag_at old d → Exact sites (state_of phases comps) old d → Exact sites (state_of phases' comps') new d
  exact_still old new bits flag exact = record {
    marked = λ e. let (q, at) = exact.marked (sym flag ∙ e) in (q, step_stays q (bits q) at);
    marks = λ (q, at). flag ∙ exact.marks (q, step_was q (bits q) at);
  }

  -- something came to its port r
  module _ (r : ℕ) (port : IsPort sites d r) (here : flag_of (here_at heres' d) r ≡ true) (others : (q : ℕ) → q ≢ r → flag_of (here_at heres' d) q ≡ flag_of (here_at heres d) q) where
    steps_now : CanGo (comp_at comps' d).proc r true → StepsAt sites (state_of phases' comps') d r
    steps_now can = steps_where sites phases' comps' heres' after d turning r port (subst (λ (b : Bool). CanGo (comp_at comps' d).proc r b) (sym here) can)

    -- it could go there, before or now
    goes_then : StepsAt sites (state_of phases comps) d r → CanGo (comp_at comps' d).proc r true
    goes_then at =
        let (h, on, free) = goes_where sites phases comps heres before d turned r at in
        subst (λ (x : Component). CanGo x.proc r true) (sym same) (h, on, freer h.move (flag_of (here_at heres d) r) free)

    goes_now : StepsAt sites (state_of phases' comps') d r → CanGo (comp_at comps' d).proc r true
    goes_now at =
        let (h, on, free) = goes_where sites phases' comps' heres' after d turning r at in
        (h, on, freer h.move (flag_of (here_at heres' d) r) free)

    pub exact_came : (old new : List Bool) (due : Bool) → IsTrue due ↔ CanGo (comp_at comps' d).proc r true → flag_at new d ≡ (if due then true else flag_at old d) → Exact sites (state_of phases comps) old d → Exact sites (state_of phases' comps') new d
    exact_came old new true tells flag exact = record {
      marked = λ e. (r, steps_now (tells.0 refl));
      marks = λ can. flag;
    }
    exact_came old new false tells flag exact = record {
      marked = λ e. let (q, at) = exact.marked (sym flag ∙ e) in elim (cases_eq q r) [
        | inl is ↦ absurd (false≢true (tells.1 (goes_then (subst (λ (n : ℕ). StepsAt sites (state_of phases comps) d n) is at))))
        | inr apart ↦ (q, step_stays q (others q apart) at)
      ];
      marks = λ (q, at). elim (cases_eq q r) [
        | inl is ↦ absurd (false≢true (tells.1 (goes_now (subst (λ (n : ℕ). StepsAt sites (state_of phases' comps') d n) is at))))
        | inr apart ↦ flag ∙ exact.marks (q, step_was q (others q apart) at)
      ];
    }

-- a row in which one was marked where a move is due
due_flag : (old new : List Bool) (d : ℕ) (due : Bool) → d < length old → new ≡ (if due then set old d true else old) → flag_at new d ≡ (if due then true else flag_at old d)
due_flag old new d true lt is = ap (λ (l : List Bool). flag_at l d) is ∙ get_or-set_same old d true false lt
due_flag old new d false lt is = ap (λ (l : List Bool). flag_at l d) is

due_apart : (old new : List Bool) (d e : ℕ) (due : Bool) → e ≢ d → new ≡ (if due then set old d true else old) → flag_at new e ≡ flag_at old e
due_apart old new d e true apart is = ap (λ (l : List Bool). flag_at l e) is ∙ get_or-set_other old d e true false apart
due_apart old new d e false apart is = ap (λ (l : List Bool). flag_at l e) is

due_long : (old new : List Bool) (d : ℕ) (due : Bool) → new ≡ (if due then set old d true else old) → length new ≡ length old
due_long old new d true is = ap length is ∙ length-set old d true
due_long old new d false is = ap length is

unwrap : {a b : ℕ} → Some a ≡ Some b → a ≡ b
unwrap e = cc

-- so after a move the row tells of both ends rightly
module _ (sites : List Site) (phases : List Phase) (comps : List Component) (heres : List (List ℕ)) (phases' : List Phase) (comps' : List Component) (heres' : List (List ℕ)) (c p k : ℕ) (mv : Move) (value : Option ℕ) (pair : Ends) (old mid new : List Bool) (before : Sighted sites phases comps heres) (did : Turned sites phases comps heres phases' comps' heres' c p k mv value) (after : Sighted sites phases' comps' heres') (ends : AreEnds sites k pair) (long : length old ≡ suc (length sites)) (exact : (d : ℕ) → Exact sites (state_of phases comps) old d) (refreshed : Refreshed sites (state_of phases' comps') mid new c) where
  its_port : IsPort sites c p
  its_port = did.steps_at.is_port

  its_side : at_side pair (answers mv) ≡ Some c
  its_side =
      (mover_is sites phases comps heres c p k mv value did.rest before did.steps_at.is_port did.chan_is did.moves did.turns pair heres' ends).0

  unmoved : (d : ℕ) → 0 < d → d ≢ c → comp_at comps' d ≡ comp_at comps d
  unmoved d from apart = ap (λ (l : List Component). comp_at l d) did.comps_is ∙ at_other comps c d did.rest no_comp its_port.comp_from from apart

  went : (other : Option ℕ) (side : Bool) → at_side pair side ≡ other → Went comps' heres heres' old mid c p other → (d : ℕ) → d ≢ c → at_side pair side ≡ Some d → Exact sites (state_of phases' comps') new d
  went other side is told d apart at =
      let port = (ends.holds side d at).is_port in
      let turning : IsTurning (comp_at comps' d) = subst (λ (o : Option ℕ). IfSome o (λ x. IsTurning (comp_at comps' x))) (sym is ∙ at) told.turning in
      exact_still sites phases comps heres phases' comps' heres' before after d (unmoved d port.comp_from apart) turning old new
      (λ q. told.put.others d q port.comp_from (λ e. apart e.0))
      (refreshed.others d apart ∙ ap (λ (l : List Bool). flag_at l d) told.row)
      (exact d)

  came : (side : Bool) → Came comps' heres heres' old mid (at_side pair side) (port_of_side pair side) → (d : ℕ) → d ≢ c → at_side pair side ≡ Some d → Exact sites (state_of phases' comps') new d
  came side told d apart at =
      let r = port_of_side pair side in
      let port = (ends.holds side d at).is_port in
      let put : PutAt heres heres' d r true = subst (λ (o : Option ℕ). PutEnd heres heres' o r true) at told.put in
      let marked : MarkedDue comps' old mid d r = subst (λ (o : Option ℕ). MatchOption o (mid ≡ old) (λ x. MarkedDue comps' old mid x r)) at told.marked in
      let from = port.comp_from in let to = port.comp_to in
      exact_came sites phases comps heres phases' comps' heres' before after d (unmoved d from apart) marked.turning r port put.at_port
      (λ q ne. put.others d q from (λ e. ne e.1))
      old new marked.due marked.tells
      (refreshed.others d apart ∙ due_flag old mid d marked.due (omega (arith, to, long)) marked.row)
      (exact d)

  -- the other end is the one at which the mover doesn't stand
  its_other : (d : ℕ) (side : Bool) → d ≢ c → at_side pair side ≡ Some d → side ≡ not (answers mv)
  its_other d side apart at = elim (either_of side (answers mv)) [
    | inl own ↦ absurd (apart (unwrap (sym at ∙ ap (at_side pair) own ∙ its_side)))
    | inr other ↦ other
  ]

came_long : (comps : List Component) (heres heres' : List (List ℕ)) (old new : List Bool) (o : Option ℕ) (r : ℕ) → Came comps heres heres' old new o r → length new ≡ length old
came_long comps heres heres' old new None r told = ap length told.marked
came_long comps heres heres' old new (Some d) r told = due_long old new d told.marked.due told.marked.row

came_apart : (comps : List Component) (heres heres' : List (List ℕ)) (old new : List Bool) (o : Option ℕ) (r : ℕ) → Came comps heres heres' old new o r → (e : ℕ) → o ≢ Some e → flag_at new e ≡ flag_at old e
came_apart comps heres heres' old new None r told e apart = ap (λ (l : List Bool). flag_at l e) told.marked
came_apart comps heres heres' old new (Some d) r told e apart = due_apart old new d e told.marked.due (λ is. apart (ap Some (sym is))) told.marked.row

-- by the four moves
module _ (sites : List Site) (phases : List Phase) (comps : List Component) (heres : List (List ℕ)) (phases' : List Phase) (comps' : List Component) (heres' : List (List ℕ)) (c p k : ℕ) (value : Option ℕ) (pair : Ends) (old mid new : List Bool) (before : Sighted sites phases comps heres) (after : Sighted sites phases' comps' heres') (ends : AreEnds sites k pair) (long : length old ≡ suc (length sites)) (exact : (d : ℕ) → Exact sites (state_of phases comps) old d) (refreshed : Refreshed sites (state_of phases' comps') mid new c) where
  other_exact : (mv : Move) → Turned sites phases comps heres phases' comps' heres' c p k mv value → ToldMove comps' heres heres' old mid pair c p mv → (d : ℕ) → d ≢ c → at_side pair (not (answers mv)) ≡ Some d → Exact sites (state_of phases' comps') new d
  other_exact Ask turned told = came sites phases comps heres phases' comps' heres' c p k Ask value pair old mid new before turned after ends long exact refreshed true told
  other_exact Take turned told = went sites phases comps heres phases' comps' heres' c p k Take value pair old mid new before turned after ends long exact refreshed pair.active false refl told
  other_exact Reply turned told = came sites phases comps heres phases' comps' heres' c p k Reply value pair old mid new before turned after ends long exact refreshed false told
  other_exact Got turned told = went sites phases comps heres phases' comps' heres' c p k Got value pair old mid new before turned after ends long exact refreshed pair.passive true refl told

  mid_long : (mv : Move) → ToldMove comps' heres heres' old mid pair c p mv → length mid ≡ length old
  mid_long Ask told = came_long comps' heres heres' old mid pair.passive pair.passive_port told
  mid_long Take told = ap length told.row
  mid_long Reply told = came_long comps' heres heres' old mid pair.active pair.active_port told
  mid_long Got told = ap length told.row

  mid_apart : (mv : Move) → ToldMove comps' heres heres' old mid pair c p mv → (e : ℕ) → pair.passive ≢ Some e → pair.active ≢ Some e → flag_at mid e ≡ flag_at old e
  mid_apart Ask told e passive active = came_apart comps' heres heres' old mid pair.passive pair.passive_port told e passive
  mid_apart Take told e passive active = ap (λ (l : List Bool). flag_at l e) told.row
  mid_apart Reply told e passive active = came_apart comps' heres heres' old mid pair.active pair.active_port told e active
  mid_apart Got told e passive active = ap (λ (l : List Bool). flag_at l e) told.row

  at_neither : (mv : Move) → at_side pair (answers mv) ≡ Some c → (e : ℕ) → pair.passive ≢ Some e → pair.active ≢ Some e → e ≢ c
  at_neither Ask is e passive active same = active (is ∙ ap Some (sym same))
  at_neither Take is e passive active same = passive (is ∙ ap Some (sym same))
  at_neither Reply is e passive active same = passive (is ∙ ap Some (sym same))
  at_neither Got is e passive active same = active (is ∙ ap Some (sym same))

  pub refreshed_by_move : (mv : Move) → Turned sites phases comps heres phases' comps' heres' c p k mv value → ToldMove comps' heres heres' old mid pair c p mv → RefreshedEnds sites (state_of phases' comps') old new pair
  refreshed_by_move mv turned told =
      let own = its_side sites phases comps heres phases' comps' heres' c p k mv value pair old mid new before turned after ends long exact refreshed in
      record {
        len = refreshed.len ∙ mid_long mv told;
        at_end = λ d side at. elim (cases_eq d c) [
          | inl same ↦ subst (Exact sites (state_of phases' comps') new) (sym same) refreshed.here
          | inr apart ↦
              let is = its_other sites phases comps heres phases' comps' heres' c p k mv value pair old mid new before turned after ends long exact refreshed d side apart at in
              other_exact mv turned told d apart (subst (λ (b : Bool). at_side pair b ≡ Some d) is at)
        ];
        others = λ e passive active. refreshed.others e (at_neither mv own e passive active) ∙ mid_apart mv told e passive active;
      }

-- The component c that moved, whose own flag was kept by its node alone, before the other end was told: h is what its move left
-- there, and goes tells whether it can go by that.
module _ (comps' : List Component) (heres heres1 heres' : List (List ℕ)) (c p : ℕ) (pair : Ends) (old row new : List Bool) (h : List ℕ) (goes : Bool) (from : 0 < c) (to : c ≤ length heres) (heres_is : heres1 ≡ set heres (c - 1) h) (row_is : row ≡ (if goes then old else set old c false)) where
  -- the row, had the other end alone been told
  abbrev came_row : (end : Option ℕ) (r : ℕ) → Came comps' heres1 heres' row new end r → List Bool
  came_row None r told = old
  came_row (Some d) r told = if told.marked.due then set old d true else old

  abbrev pub other_row : (mv : Move) → ToldOther comps' heres1 heres' row new pair mv → List Bool
  other_row Ask told = came_row pair.passive pair.passive_port told
  other_row Take told = old
  other_row Reply told = came_row pair.active pair.active_port told
  other_row Got told = old

  heres_same : h ≡ here_at heres c → heres1 ≡ heres
  heres_same same = heres_is ∙ ap (set heres (c - 1)) same ∙ set-get_or heres (c - 1) []

  came_told : (end : Option ℕ) (r : ℕ) (told : Came comps' heres1 heres' row new end r) → heres1 ≡ heres → Came comps' heres heres' old (came_row end r told) end r
  came_told None r told same = record { put = told.put ∙ same; marked = refl }
  came_told (Some d) r told same = record {
    put = subst (λ (l : List (List ℕ)). PutAt l heres' d r true) same told.put;
    marked = record { turning = told.marked.turning; due = told.marked.due; tells = told.marked.tells; row = refl };
  }

  went_told : (other : Option ℕ) (bits : heres' ≡ heres1) → IfSome other (λ d. IsTurning (comp_at comps' d)) → length h ≡ length (here_at heres c) → flag_of h p ≡ false → ((q : ℕ) → q ≢ p → flag_of h q ≡ flag_of (here_at heres c) q) → Went comps' heres heres' old old c p other
  went_told other bits turning long at others = record {
    put = subst (λ (l : List (List ℕ)). PutAt heres l c p false) (sym (bits ∙ heres_is)) (put_at heres c p h false from to long at others);
    turning = turning;
    row = refl;
  }

  pub told_move : (mv : Move) → Left mv (here_at heres c) h p → (told : ToldOther comps' heres1 heres' row new pair mv) → ToldMove comps' heres heres' old (other_row mv told) pair c p mv
  told_move Ask left told = came_told pair.passive pair.passive_port told (heres_same left)
  told_move Take left told = went_told pair.active told.bits told.turning left.long left.at_port left.others
  told_move Reply left told = came_told pair.active pair.active_port told (heres_same left)
  told_move Got left told = went_told pair.passive told.bits told.turning left.long left.at_port left.others

  -- its flag tells whether it can move, once the other end was told
  module _ (sites : List Site) (phases' : List Phase) (k : ℕ) (after : Sighted sites phases' comps' heres') (ends : AreEnds sites k pair) (within : c ≤ length sites) (long : length old ≡ suc (length sites)) (was : flag_at old c ≡ true) (turning : IsTurning (comp_at comps' c)) (tells : MatchBool goes (Goes (comp_at comps' c) h) (NoneGoes (comp_at comps' c) h)) where
    abbrev x : Component
    x = comp_at comps' c

    bits_are : here_at heres1 c ≡ h
    bits_are = ap (λ (l : List (List ℕ)). here_at l c) heres_is ∙ get_or-set_same heres (c - 1) h [] (omega (arith, from, to))

    row_flag : flag_at row c ≡ goes
    row_flag = ap (λ (l : List Bool). flag_at l c) row_is ∙ by_goes goes
      where
        by_goes : (b : Bool) → flag_at (if b then old else set old c false) c ≡ b
        by_goes true = was
        by_goes false = get_or-set_same old c false false (omega (arith, within, long))

    row_apart : (e : ℕ) → e ≢ c → flag_at row e ≡ flag_at old e
    row_apart e apart = ap (λ (l : List Bool). flag_at l e) row_is ∙ by_goes goes
      where
        by_goes : (b : Bool) → flag_at (if b then old else set old c false) e ≡ flag_at old e
        by_goes true = refl
        by_goes false = get_or-set_other old c e false false apart

    row_long : length row ≡ length old
    row_long = ap length row_is ∙ by_goes goes
      where
        by_goes : (b : Bool) → length (if b then old else set old c false) ≡ length old
        by_goes true = refl
        by_goes false = length-set old c false

    port_at : (q : ℕ) → 0 < q → q ≤ length x.chans → IsPort sites c q
    port_at q above last = record { comp_from = from; comp_to = within; port_from = above; port_to = (let len = after.chans_of c from within in omega (arith, last, len)) }

    below : (q : ℕ) → IsPort sites c q → q ≤ length x.chans
    below q port = let last = port.port_to in let len = after.chans_of c from within in omega (arith, last, len)

    -- by what its move left it can go at a port, or at none
    go_at : goes ≡ true → Goes x h
    go_at is = by_goes goes tells is
      where
        by_goes : (b : Bool) → MatchBool b (Goes x h) (NoneGoes x h) → b ≡ true → Goes x h
        by_goes true go e = go
        by_goes false none e = absurd (false≢true e)

    gone_at : (q : ℕ) → q ≤ length x.chans → CanGo x.proc q (flag_of h q) → goes ≡ true
    gone_at q le can = by_goes goes tells
      where
        by_goes : (b : Bool) → MatchBool b (Goes x h) (NoneGoes x h) → b ≡ true
        by_goes true go = refl
        by_goes false none = absurd (none q le can)

    -- nothing came to it
    own_still : ((q : ℕ) → flag_of (here_at heres' c) q ≡ flag_of h q) → flag_at new c ≡ goes → Exact sites (state_of phases' comps') new c
    own_still bits flag = record {
      marked = λ e.
          let (q, above, last, can) = go_at (sym flag ∙ e) in
          (q, steps_where sites phases' comps' heres' after c turning q (port_at q above last) (subst (λ (b : Bool). CanGo x.proc q b) (sym (bits q)) can));
      marks = λ (q, at).
          flag ∙ gone_at q (below q at.is_port) (subst (λ (b : Bool). CanGo x.proc q b) (bits q) (goes_where sites phases' comps' heres' after c turning q at));
    }

    -- it stands at both ends, and something came to its port r
    module _ (r : ℕ) (port : IsPort sites c r) (here : flag_of (here_at heres' c) r ≡ true) (others : (q : ℕ) → q ≢ r → flag_of (here_at heres' c) q ≡ flag_of h q) where
      goes_there : (q : ℕ) → q ≡ r → (b : Bool) → CanGo x.proc q b → CanGo x.proc r true
      goes_there q is b can = subst (λ (n : ℕ). CanGo x.proc n true) is (let (m, on, free) = can in (m, on, freer m.move b free))

      own_came : (due : Bool) → IsTrue due ↔ CanGo x.proc r true → flag_at new c ≡ (if due then true else goes) → Exact sites (state_of phases' comps') new c
      own_came true can flag = record {
        marked = λ e. (r, steps_where sites phases' comps' heres' after c turning r port (subst (λ (b : Bool). CanGo x.proc r b) (sym here) (can.0 refl)));
        marks = λ step. flag;
      }
      own_came false can flag = record {
        marked = λ e. let (q, above, last, go) = go_at (sym flag ∙ e) in elim (cases_eq q r) [
          | inl is ↦ absurd (false≢true (can.1 (goes_there q is (flag_of h q) go)))
          | inr apart ↦ (q, steps_where sites phases' comps' heres' after c turning q (port_at q above last) (subst (λ (b : Bool). CanGo x.proc q b) (sym (others q apart)) go))
        ];
        marks = λ (q, at). let go = goes_where sites phases' comps' heres' after c turning q at in elim (cases_eq q r) [
          | inl is ↦ absurd (false≢true (can.1 (goes_there q is (flag_of (here_at heres' c) q) go)))
          | inr apart ↦ flag ∙ gone_at q (below q at.is_port) (subst (λ (b : Bool). CanGo x.proc q b) (others q apart) go)
        ];
      }

    own_unchanged : heres' ≡ heres1 → new ≡ row → Refreshed sites (state_of phases' comps') old new c
    own_unchanged bits same = record {
      len = ap length same ∙ row_long;
      here = own_still (λ q. ap (λ (l : List (List ℕ)). flag_of (here_at l c) q) bits ∙ ap (λ (l : List ℕ). flag_of l q) bits_are) (ap (λ (l : List Bool). flag_at l c) same ∙ row_flag);
      others = λ e apart. ap (λ (l : List Bool). flag_at l e) same ∙ row_apart e apart;
    }

    came_here : (side : Bool) (d : ℕ) → at_side pair side ≡ Some d → (told : Came comps' heres1 heres' row new (Some d) (port_of_side pair side)) → Exact sites (state_of phases' comps') new c
    came_here side d at told = elim (cases_eq d c) [
      | inl same ↦
          let port = (ends.holds side d at).is_port in
          let put : PutAt heres1 heres' c (port_of_side pair side) true = subst (λ (n : ℕ). PutAt heres1 heres' n (port_of_side pair side) true) same told.put in
          own_came (port_of_side pair side) (subst (λ (n : ℕ). IsPort sites n (port_of_side pair side)) same port) put.at_port
          (λ q ne. put.others c q from (λ e. ne e.1) ∙ ap (λ (l : List ℕ). flag_of l q) bits_are)
          told.marked.due (subst (λ (n : ℕ). IsTrue told.marked.due ↔ CanGo (comp_at comps' n).proc (port_of_side pair side) true) same told.marked.tells)
          (subst (λ (n : ℕ). flag_at new n ≡ (if told.marked.due then true else flag_at row n)) same (due_flag row new d told.marked.due (let n = row_long in omega (arith, same, within, long, n)) told.marked.row)
          ∙ ap (λ (b : Bool). if told.marked.due then true else b) row_flag)
      | inr apart ↦
          own_still (λ q. told.put.others c q from (λ e. apart (sym e.0)) ∙ ap (λ (l : List ℕ). flag_of l q) bits_are)
          (due_apart row new d c told.marked.due (λ e. apart (sym e)) told.marked.row ∙ row_flag)
    ]

    came_refreshed : (side : Bool) (end : Option ℕ) → at_side pair side ≡ end → (told : Came comps' heres1 heres' row new end (port_of_side pair side)) → Refreshed sites (state_of phases' comps') (came_row end (port_of_side pair side) told) new c
    came_refreshed side None at told = own_unchanged told.put told.marked
    came_refreshed side (Some d) at told =
        let due = told.marked.due in
        let mid : List Bool = if due then set old d true else old in
        let from_end = (ends.holds side d at).is_port.comp_to in
        record {
          len = due_long row new d due told.marked.row ∙ row_long ∙ sym (due_long old mid d due refl);
          here = came_here side d at told;
          others = λ e apart. elim (cases_eq e d) [
            | inl is ↦
                subst (λ (n : ℕ). flag_at new n ≡ flag_at mid n) (sym is)
                (due_flag row new d due (let n = row_long in omega (arith, from_end, long, n)) told.marked.row
                ∙ ap (λ (b : Bool). if due then true else b) (row_apart d (λ z. apart (is ∙ z)))
                ∙ sym (due_flag old mid d due (omega (arith, from_end, long)) refl))
            | inr ne ↦ due_apart row new d e due ne told.marked.row ∙ row_apart e apart ∙ sym (due_apart old mid d e due ne refl)
          ];
        }

    pub own_refreshed : (mv : Move) (told : ToldOther comps' heres1 heres' row new pair mv) → Refreshed sites (state_of phases' comps') (other_row mv told) new c
    own_refreshed Ask told = came_refreshed true pair.passive refl told
    own_refreshed Take told = own_unchanged told.bits told.row
    own_refreshed Reply told = came_refreshed false pair.active refl told
    own_refreshed Got told = own_unchanged told.bits told.row

-- a move by what was read and written: x is the component before it, and the ends were told when it had been moved
module _ (sites : List Site) (phases : List Phase) (comps moved told_comps : List Component) (heres same_heres heres' : List (List ℕ)) (c p k : ℕ) (mv : Move) (value : Option ℕ) (x rest : Component) (next : Phase) (pair : Ends) (old mid : List Bool) (sighted : Sighted sites phases comps heres) (steps : StepsAt sites (state_of phases comps) c p) (chan_is : k ≡ chan_at sites c p) (x_is : x ≡ get_or comps (c - 1) x) (moves : Moves x.proc p (phase_in phases k) mv value rest.proc) (turns : Turns x p mv rest) (one : HasOneHead x.proc.todo) (chans : rest.chans ≡ x.chans) (next_is : next ≡ phase_after (phase_in phases k) mv value) (ends : AreEnds sites k pair) (moved_is : moved ≡ set comps (c - 1) rest) (heres_is : same_heres ≡ heres) (comps_stay : told_comps ≡ moved) (told : ToldMove moved same_heres heres' old mid pair c p mv) where
  pub told_here : ToldMove told_comps heres heres' old mid pair c p mv
  told_here = subst (λ (l : List Component). ToldMove l heres heres' old mid pair c p mv) (sym comps_stay) (subst (λ (h : List (List ℕ)). ToldMove moved h heres' old mid pair c p mv) heres_is told)

  pub moved_turned : Turned sites phases comps heres (set phases (k - 1) next) told_comps heres' c p k mv value
  moved_turned =
      subst (λ (l : List Component). Turned sites phases comps heres (set phases (k - 1) next) l heres' c p k mv value) (sym (comps_stay ∙ moved_is))
      (turned_by sites phases comps heres heres' c p k mv value x rest next steps sighted.comps_len chan_is x_is moves turns one chans next_is
      (retold_read sites phases comps told_comps heres heres' c p k mv value x rest next pair old mid sighted steps.is_port chan_is x_is moves turns next_is ends told_here))

  pub moved_refreshed : Sighted sites (set phases (k - 1) next) told_comps heres' → (new : List Bool) → length old ≡ suc (length sites) → ((d : ℕ) → Exact sites (state_of phases comps) old d) → Refreshed sites (state_of (set phases (k - 1) next) told_comps) mid new c → RefreshedEnds sites (state_of (set phases (k - 1) next) told_comps) old new pair
  moved_refreshed after new long exact refreshed =
      refreshed_by_move sites phases comps heres (set phases (k - 1) next) told_comps heres' c p k value pair old mid new sighted after ends long exact refreshed mv moved_turned told_here

-- a move by its node, which holds the component as rest and the bits h after it, and then at the other end
module _ (sites : List Site) (phases : List Phase) (comps comps' : List Component) (heres heres1 heres' : List (List ℕ)) (c p k : ℕ) (mv : Move) (value : Option ℕ) (x rest : Component) (pair : Ends) (old row new : List Bool) (h : List ℕ) (goes : Bool) (sighted : Sighted sites phases comps heres) (steps : StepsAt sites (state_of phases comps) c p) (chan_is : k ≡ chan_at sites c p) (x_is : x ≡ get_or comps (c - 1) x) (moves : Moves x.proc p (phase_in phases k) mv value rest.proc) (turns : Turns x p mv rest) (one : HasOneHead x.proc.todo) (chans : rest.chans ≡ x.chans) (ends : AreEnds sites k pair) (comps_is : comps' ≡ set comps (c - 1) rest) (heres_is : heres1 ≡ set heres (c - 1) h) (row_is : row ≡ (if goes then old else set old c false)) (left : Left mv (here_at heres c) h p) (told : ToldOther comps' heres1 heres' row new pair mv) where
  from : 0 < c
  from = steps.is_port.comp_from

  stands : c ≤ length heres
  stands = let to = steps.is_port.comp_to in let len = sighted.heres_len in omega (arith, to, len)

  abbrev next : Phase
  next = phase_after (phase_in phases k) mv value

  abbrev mid : List Bool
  mid = other_row comps' heres heres1 heres' c p pair old row new h goes from stands heres_is row_is mv told

  both : ToldMove comps' heres heres' old mid pair c p mv
  both = told_move comps' heres heres1 heres' c p pair old row new h goes from stands heres_is row_is mv left told

  pub node_turned : Turned sites phases comps heres (set phases (k - 1) next) comps' heres' c p k mv value
  node_turned = moved_turned sites phases comps comps' comps' heres heres heres' c p k mv value x rest next pair old mid sighted steps chan_is x_is moves turns one chans refl ends comps_is refl refl both

  rest_at : rest ≡ comp_at comps' c
  rest_at = let to = steps.is_port.comp_to in let len = sighted.comps_len in sym (ap (λ (l : List Component). comp_at l c) comps_is ∙ get_or-set_same comps (c - 1) rest no_comp (omega (arith, from, to, len)))

  pub node_refreshed : Sighted sites (set phases (k - 1) next) comps' heres' → length old ≡ suc (length sites) → ((d : ℕ) → Exact sites (state_of phases comps) old d) → IsTurning rest → MatchBool goes (Goes rest h) (NoneGoes rest h) → RefreshedEnds sites (state_of (set phases (k - 1) next) comps') old new pair
  node_refreshed after long exact turning tells =
      moved_refreshed sites phases comps comps' comps' heres heres heres' c p k mv value x rest next pair old mid sighted steps chan_is x_is moves turns one chans refl ends comps_is refl refl both after new long exact
      (own_refreshed comps' heres heres1 heres' c p pair old row new h goes from stands heres_is row_is sites (set phases (k - 1) next) k after ends steps.is_port.comp_to long ((exact c).marks (p, steps))
      (subst IsTurning rest_at turning) (subst (λ (y : Component). MatchBool goes (Goes y h) (NoneGoes y h)) rest_at tells) mv told)

-- a move of what was read breaks no handshake
pub whole_by : (sites : List Site) (phases : List Phase) (comps : List Component) (heres : List (List ℕ)) → Sighted sites phases comps heres → (c p k : ℕ) → IsTurning (comp_at comps c) → StepsAt sites (state_of phases comps) c p → k ≡ chan_at sites c p → (mv : Move) (value : Option ℕ) (x rest : Component) → x ≡ get_or comps (c - 1) x → next_of (phase_in phases k) ≡ Some mv → Turns x p mv rest → phase_after (phase_in phases k) mv value ≢ Broken
whole_by sites phases comps heres sighted c p k turning steps on mv value x rest x_is next turns =
    let port = steps.is_port in let from = port.comp_from in let to = port.comp_to in let len = sighted.comps_len in
    let x_at : x ≡ comp_at comps c = get_or_read comps (c - 1) x (omega (arith, from, to, len)) x_is no_comp in
    let side : answers mv ≡ passive_at sites c p = hints.side sites phases comps heres sighted c p k turning steps on mv next in
    whole_after (phase_in phases k) mv value
    (turns.before ∙ ap not (ap (λ (y : Component). open_at y p) x_at ∙ sighted.opened c p port ∙ ap (λ (j : ℕ). is_open (phase_in phases j) (passive_at sites c p)) (sym on) ∙ ap (is_open (phase_in phases k)) (sym side)))
