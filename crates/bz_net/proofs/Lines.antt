-- Each entry of a run has a line.
use Rattle.std.proofs.Common.{◌≡◌, ℕ, zero, suc, ◌+◌, ◌-◌, ◌<◌, ◌≤◌, ◌^◌, Bool, true, false, cond, Option, Some, None, List, [], ◌∷◌, length, map, get_or, bytes_eq, unwrap_or, refl, sym, ap, subst, ◌∙◌, arith}
use Rattle.std.specs.Prelude.{IfSome}
use Rattle.std.specs.List.{AllByRecursion, IsDistinct, list_all}
use Rattle.std.specs.Option.{option_map}
use Rattle.std.proofs.lemmas.Option.{slice_get-get_or}
use Rattle.std.proofs.lemmas.Slice.Eq.{bytes_eq-Decides}
use Rattle.std.proofs.Math.Nat.{pow-le-pow_right}
use Rattle.bz_model.specs.declared.channel.Chan.{Chan}
use Rattle.bz_model.specs.declared.channel.ChanKind.{ChanKind}
use Rattle.bz_model.specs.declared.channel.ChanKind.TheVariants.{Sync}
use Rattle.bz_model.specs.declared.channel.Move.{Move}
use Rattle.bz_model.specs.declared.channel.Move.TheVariants as move
use Rattle.bz_model.specs.declared.channel.Phase.{Phase}
use Rattle.bz_model.specs.declared.channel.Phase.TheVariants.{Idle, Asked, Taken, Replied, Broken}
use Rattle.bz_model.specs.declared.channel.TheConstants.{MAX_WIDTH}
use Rattle.bz_model.specs.declared.event.Entry.{Entry}
use Rattle.bz_model.specs.declared.event.Entry.TheVariants.{Fired, Host, Rested}
use Rattle.bz_model.specs.declared.event.Verb.{Verb}
use Rattle.bz_model.specs.declared.event.Verb.TheVariants.{Offer, Collect, Accept, Answer, Watch}
use Rattle.bz_model.specs.Phases.{carries}
use Rattle.bz_model.specs.Rows.{asks_widths, is_wide}
use Rattle.bz_model.specs.Names.{External, NamesDiffer, number_from, port_name, port_number}
use Rattle.bz_model.specs.Nets.{Wiring, State, Step, chan_in, opening, outside, phase_at, site_at}
use Rattle.bz_model.specs.Hosts.{reply_to, wants_value}
use Rattle.bz_model.specs.Runs.{Follows, Run}
use Rattle.bz_model.specs.Widths.{Carries, FitsChan, Holds}
use Rattle.bz_model.specs.Entries.{HasLine, HasWho, IsCarried, IsGiven, IsPhase, IsReply, IsValue, carries_at}
use Rattle.bz_model.proofs.Fitting.{small-here}
use Rattle.bz_model.proofs.Ruled.{both-true}
use Rattle.bz_model.proofs.Starts.{widest}
use Rattle.bz_flat.specs.Wires.{WellWired}
use Rattle.bz_net.proofs.Fitting.{Fits, carries_step, command_fits, fits_follows, fits_in, fits_opening, own_at, own_chans}

-- ---- a port is the one of its name

abbrev no_external : External
no_external = record { name = []; passive = false }

other_name : (q : List ℕ) (ps : List External) (i : ℕ) (d : External) → AllByRecursion (λ y. bytes_eq q y ≡ false) (map (λ p. p.name) ps) → i < length ps → bytes_eq q (get_or ps i d).name ≡ false
other_name q [] i d all lt = absurd (omega arith)
other_name q (p ∷ ps) zero d all lt = all.0
other_name q (p ∷ ps) (suc i) d all lt = other_name q ps i d all.1 (omega arith)

number_is : (k i : ℕ) (ps : List External) (d : External) → NamesDiffer ps → i < length ps → number_from k ps (get_or ps i d).name ≡ Some (k + i)
unfolding IsDistinct
number_is k i [] d differ lt = absurd (omega arith)
number_is k zero (p ∷ ps) d differ lt =
    let yes : bytes_eq p.name p.name ≡ true = (bytes_eq-Decides p.name p.name).1 refl in
    let at : k ≡ k + 0 = omega arith in
    ap (λ b. cond b (Some k) (number_from (suc k) ps p.name)) yes ∙ ap Some at
number_is k (suc i) (p ∷ ps) d differ lt =
    let name = (get_or ps i d).name in
    let no : bytes_eq p.name name ≡ false = other_name p.name ps i d differ.0 (omega arith) in
    let at : suc k + i ≡ k + suc i = omega arith in
    ap (λ b. cond b (Some k) (number_from (suc k) ps name)) no ∙ (number_is (suc k) i ps d differ.1 (omega arith) ∙ ap Some at)

pub port_of_name : (ports : List External) (port : ℕ) → NamesDiffer ports → 0 < port → port ≤ length ports → port_number ports (unwrap_or (port_name ports port) []) ≡ Some port
port_of_name ports zero differ from to = absurd (omega arith)
port_of_name ports (suc i) differ from to =
    let here = slice_get-get_or ports i no_external (omega arith) in
    let name : unwrap_or (port_name ports (suc i)) [] ≡ (get_or ports i no_external).name = ap (λ o. unwrap_or (option_map (λ p. p.name) o) []) here in
    let at : 1 + i ≡ suc i = omega arith in
    ap (number_from 1 ports) name ∙ (number_is 1 i ports no_external differ (omega arith) ∙ ap Some at)

-- ---- a value stands where one is carried, and in range

carries_is : (chans : List Chan) (k : ℕ) (mv : Move) → 0 < k → k ≤ length chans → carries_at chans k mv ≡ carries (chan_in chans k).kind mv
carries_is chans zero mv from to = absurd (omega arith)
carries_is chans (suc i) mv from to =
    let none : Chan = record { kind = Sync; width = 0 } in
    let here = slice_get-get_or chans i none (omega arith) in
    let at : i ≡ suc i - 1 = omega arith in
    ap (λ o. unwrap_or (option_map (λ (c : Chan). carries c.kind mv) o) false) here ∙ ap (λ j. carries (get_or chans j none).kind mv) at

value_in : (b : Bool) (w v : ℕ) → w ≤ MAX_WIDTH → Carries b w (Some v) → IsValue v
value_in b w v le c =
    let most : 2 ^ w ≤ 2 ^ MAX_WIDTH = pow-le-pow_right (omega arith) le in
    let small : v < 2 ^ w = small-here b w v c in
    omega (arith, most, small)

carried_in : (b : Bool) (w : ℕ) (value : Option ℕ) → w ≤ MAX_WIDTH → Carries b w value → IsCarried b value
carried_in true w (Some v) le c = value_in true w v le c
carried_in true w None le c = absurd c
carried_in false w (Some v) le c = absurd c
carried_in false w None le c = tt

some_in : (b : Bool) (w : ℕ) (value : Option ℕ) → w ≤ MAX_WIDTH → Carries b w value → IfSome value IsValue
some_in b w (Some v) le c = value_in b w v le c
some_in b w None le c = tt

given_in : (verb : Verb) (kind : ChanKind) (w : ℕ) (value : Option ℕ) → w ≤ MAX_WIDTH → Carries (wants_value verb kind) w value → IsGiven verb value
given_in Offer kind w value le c = some_in (wants_value Offer kind) w value le c
given_in Answer kind w value le c = some_in (wants_value Answer kind) w value le c
given_in Collect kind w None le c = tt
given_in Collect kind w (Some v) le c = absurd c
given_in Accept kind w None le c = tt
given_in Accept kind w (Some v) le c = absurd c
given_in Watch kind w None le c = tt
given_in Watch kind w (Some v) le c = absurd c

phase_in_range : (kind : ChanKind) (w : ℕ) (phase : Phase) → w ≤ MAX_WIDTH → Holds kind w phase → IsPhase phase
phase_in_range kind w Idle le h = tt
phase_in_range kind w (Asked v) le h = some_in (carries kind move.Ask) w v le h
phase_in_range kind w Taken le h = tt
phase_in_range kind w (Replied v) le h = some_in (carries kind move.Reply) w v le h
phase_in_range kind w Broken le h = tt

reply_in_range : (verb : Verb) (phase : Phase) → IsPhase phase → IsReply (reply_to verb phase)
reply_in_range Offer Idle p = tt
reply_in_range Offer (Asked v) p = p
reply_in_range Offer Taken p = tt
reply_in_range Offer (Replied v) p = p
reply_in_range Offer Broken p = tt
reply_in_range Collect Idle p = tt
reply_in_range Collect (Asked v) p = tt
reply_in_range Collect Taken p = tt
reply_in_range Collect (Replied None) p = tt
reply_in_range Collect (Replied (Some v)) p = p
reply_in_range Collect Broken p = tt
reply_in_range Accept Idle p = tt
reply_in_range Accept (Asked None) p = tt
reply_in_range Accept (Asked (Some v)) p = p
reply_in_range Accept Taken p = tt
reply_in_range Accept (Replied v) p = tt
reply_in_range Accept Broken p = tt
reply_in_range Answer Idle p = tt
reply_in_range Answer (Asked v) p = p
reply_in_range Answer Taken p = tt
reply_in_range Answer (Replied v) p = p
reply_in_range Answer Broken p = tt
reply_in_range Watch phase p = p

-- ---- entries

-- a component's channel is not too wide
step_narrow : (w : Wiring) (s : State) (c p k : ℕ) (mv : Move) (value : Option ℕ) (next : State) → WellWired w → Step w.sites s c p k mv value next → (chan_in w.chans k).width ≤ MAX_WIDTH
step_narrow w s c p k mv value next wired step =
    let port = step.steps_at.is_port in
    let meets = wired.rows c port.comp_from port.comp_to in
    let wide = (both-true (list_all is_wide (own_chans w c)) (asks_widths (site_at w.sites c).kind (site_at w.sites c).sizes (own_chans w c)) meets.widths_fit).0 in
    subst (λ n. n ≤ MAX_WIDTH) (own_at w c p k port step.chan_is).1 (widest (own_chans w c) p wide)

pub has_line : (w : Wiring) (s : State) (e : Entry) (next : State) → WellWired w → Fits w s → Follows w s e next → HasWho e → HasLine (outside w) e
has_line w s (Fired who c p k mv value) next wired fits step by =
    let port = step.steps_at.is_port in
    let sites_to = port.comp_to in
    let few = wired.comps_few in
    let from : 0 < k = subst (λ j. 0 < j) (sym step.chan_is) (wired.chan_from c p port) in
    let to : k ≤ length w.chans = subst (λ j. j ≤ length w.chans) (sym step.chan_is) (wired.chan_to c p port) in
    let chans_few = wired.chans_few in
    let narrow = step_narrow w s c p k mv value next wired step in
    let carried = carries_step w s c p k mv value next wired fits step in
    (by, omega (arith, sites_to, few), omega (arith, to, chans_few), subst (λ b. IsCarried b value) (sym (carries_is w.chans k mv from to)) (carried_in (carries (chan_in w.chans k).kind mv) (chan_in w.chans k).width value narrow carried))
has_line w s (Host who verb port value answer) next wired fits does by =
    let narrow = wired.ports_narrow port does.port_from does.port_to in
    let given = given_in verb (chan_in w.chans port).kind (chan_in w.chans port).width value narrow (command_fits w verb port value does.agreed) in
    let phase = phase_in_range (chan_in w.chans port).kind (chan_in w.chans port).width (phase_at s port) narrow (fits.on_chans port) in
    (by, port_of_name w.ports port wired.names_differ does.port_from does.port_to, given, subst IsReply (sym does.reply_is) (reply_in_range verb (phase_at s port) phase))
has_line w s (Rested who) next wired fits rests by = by

have_lines : (w : Wiring) (s : State) (es : List Entry) (last : State) → WellWired w → Fits w s → Run w s es last → AllByRecursion HasWho es → AllByRecursion (HasLine (outside w)) es
have_lines w s [] last wired fits run by = tt
have_lines w s (e ∷ es) last wired fits (next, step, run) by =
    (has_line w s e next wired fits step by.0, have_lines w next es last wired (fits_follows w s e next wired fits step) run by.1)

pub run_has_lines : (w : Wiring) (es : List Entry) (last : State) → WellWired w → Run w (opening w) es last → AllByRecursion HasWho es → AllByRecursion (HasLine (outside w)) es
run_has_lines w es last wired run by = have_lines w (opening w) es last wired (fits_opening w wired) run by

pub states_fit : (w : Wiring) (es : List Entry) (last : State) → WellWired w → Run w (opening w) es last → (k : ℕ) → FitsChan (chan_in w.chans k) (phase_at last k)
states_fit w es last wired run k = (fits_in w es last wired run).on_chans k
