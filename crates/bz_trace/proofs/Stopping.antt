-- What becomes of a line: where its event was made it is the only one, and where it was refused, or would be told another
-- reply, no entry that the line tells can follow.
use Rattle.std.proofs.Common.{◌≡◌, ◌≢◌, ◌⊎◌, inl, inr, ℕ, ◌<◌, Bool, true, false, Option, Some, None, List, [], refl, sym, ap, subst, ◌∙◌, arith}
use Rattle.std.specs.Prelude.{is_some}
use Rattle.bz_model.specs.declared.channel.Move.{Move}
use Rattle.bz_model.specs.declared.event.Who.{Who}
use Rattle.bz_model.specs.declared.event.Verb.{Verb}
use Rattle.bz_model.specs.declared.event.Reply.{Reply}
use Rattle.bz_model.specs.declared.event.Entry.{Entry}
use Rattle.bz_model.specs.declared.event.Entry.TheVariants.{Fired, Host, Rested}
use Rattle.bz_model.specs.declared.event.NetError.{NetError}
use Rattle.bz_model.specs.declared.event.NetError.TheVariants.{UnknownPort, WrongSide, ValueMissing, ValueUnwanted, TooLarge, NotEnabled, JournalFull, Memory}
use Rattle.bz_model.specs.Nets.{State, outside, phase_at}
use Rattle.bz_model.specs.Hosts.{HostStep, refusal_at, reply_to}
use Rattle.bz_model.specs.Runs.{CanStep, Follows}
use Rattle.bz_model.specs.Entries.{HasLine, IsCarried, carries_at, told}
use Rattle.bz_net.specs.Due.{GivesAsSteps, HasStep, LeadsOnlyTo}
use Rattle.bz_net.specs.Progress.{Progress, Enters, RefusesAt, with_journal}
use Rattle.bz_net.specs.Replies.{RefusesEntry}
use Rattle.bz_net.proofs.Fitting.{fits_in}
use Rattle.bz_net.proofs.Lines.{has_line}
use Rattle.bz_trace.specs.Following.{Goes, IsLed, PlaysOn, Stops}

-- the entry that a line tells, but for the port of a firing
told_fired : (other : Entry) (who : Who) (c k : ℕ) (mv : Move) (value : Option ℕ) → told other ≡ Fired who c 0 k mv value → (p : ℕ) × (other ≡ Fired who c p k mv value)
told_fired (Fired who' c' p k' mv' value') who c k mv value e = (p, cc)
told_fired (Host who' verb port value' reply) who c k mv value e = cc
told_fired (Rested who') who c k mv value e = cc

told_host : (other : Entry) (who : Who) (verb : Verb) (port : ℕ) (value : Option ℕ) (reply : Reply) → told other ≡ Host who verb port value reply → other ≡ Host who verb port value reply
told_host (Fired who' c p k mv value') who verb port value reply e = cc
told_host (Host who' verb' port' value' reply') who verb port value reply e = e
told_host (Rested who') who verb port value reply e = cc

told_rested : (other : Entry) (who : Who) → told other ≡ Rested who → other ≡ Rested who
told_rested (Fired who' c p k mv value) who e = cc
told_rested (Host who' verb port value reply) who e = cc
told_rested (Rested who') who e = e

-- ---- where one more entry is let in, none is refused for itself

let_in : (net : Progress) (e : NetError) → 0 < net.left → ((journal : List Entry) → RefusesEntry (with_journal net journal) e) → ⊥
let_in net JournalFull place r = let full = r [] in absurd (omega (arith, full, place))
let_in net Memory place r = let none = (r []).1 in absurd (omega (arith, none, place))
let_in net NotEnabled place r = r []
let_in net UnknownPort place r = r []
let_in net WrongSide place r = r []
let_in net ValueMissing place r = r []
let_in net ValueUnwanted place r = r []
let_in net TooLarge place r = r []

not_agreed : (net : Progress) (verb : Verb) (port : ℕ) (value : Option ℕ) (e : NetError) → 0 < net.left → RefusesAt net verb port value e → refusal_at net.wiring verb port value ≡ None → ⊥
not_agreed net verb port value JournalFull place r agreed = let full = r.1 in absurd (omega (arith, full, place))
not_agreed net verb port value Memory place r agreed = cc
not_agreed net verb port value NotEnabled place r agreed = cc
not_agreed net verb port value UnknownPort place r agreed = cc
not_agreed net verb port value WrongSide place r agreed = cc
not_agreed net verb port value ValueMissing place r agreed = cc
not_agreed net verb port value ValueUnwanted place r agreed = cc
not_agreed net verb port value TooLarge place r agreed = cc

-- ---- firings

same_carried : (carries : Bool) (a b : Option ℕ) → IsCarried carries a → IsCarried carries b → is_some a ≡ is_some b
same_carried true (Some a) (Some b) p q = refl
same_carried true (Some a) None p q = absurd q
same_carried true None b p q = absurd p
same_carried false None None p q = refl
same_carried false None (Some b) p q = absurd q
same_carried false (Some a) b p q = absurd p

-- a line that the net has gives a value where the steps that it may tell carry one
pub gives : (net : Progress) (who : Who) (c k : ℕ) (mv : Move) (value : Option ℕ) → IsLed net → HasLine (outside net.wiring) (Fired who c 0 k mv value) → GivesAsSteps net.wiring.sites net.state c k mv value
gives net who c k mv value (wired, (journal, led)) has p other next step =
    let w = net.wiring in
    let own : HasLine (outside w) (Fired who c p k mv other) = has_line w net.state (Fired who c p k mv other) next wired (fits_in w journal net.state wired led.run) step has.0 in
    same_carried (carries_at w.chans k mv) other value own.3 has.3

pub firing_goes : (old new : Progress) (who : Who) (c k : ℕ) (mv : Move) (value : Option ℕ) (entry : Entry) → ((p : ℕ) × (entry ≡ Fired who c p k mv value)) → Enters old entry new → LeadsOnlyTo old.wiring.sites old.state c k mv new.state
    → Goes old new (Fired who c 0 k mv value)
firing_goes old new who c k mv value entry fired enters sole = record {
  entry = entry;
  tells = ap told fired.1;
  enters = enters;
  sole = λ other next tells follows.
      let (p, is) = told_fired other who c k mv value tells in
      sole p value next (subst (λ o. Follows old.wiring old.state o next) is follows);
}

pub firing_stops : (net : Progress) (who : Who) (c k : ℕ) (mv : Move) (value : Option ℕ) → 0 < net.left → (net.left ≡ 0) ⊎ ((p : ℕ) → HasStep net.wiring.sites net.state c p k mv value → ⊥) → Stops net (Fired who c 0 k mv value)
firing_stops net who c k mv value place (inl full) other next tells follows = absurd (omega (arith, full, place))
firing_stops net who c k mv value place (inr none) other next tells follows =
    let (p, is) = told_fired other who c k mv value tells in
    none p (next, subst (λ o. Follows net.wiring net.state o next) is follows)

-- ---- host commands

module _ (old new : Progress) (who : Who) (verb : Verb) (port : ℕ) (value : Option ℕ) (reply : Reply) where
  host_step : (other : Entry) (next : State) → told other ≡ Host who verb port value reply → Follows old.wiring old.state other next → HostStep old.wiring old.state verb port value reply next
  host_step other next tells follows = subst (λ o. Follows old.wiring old.state o next) (told_host other who verb port value reply tells) follows

  replied : Enters old (Host who verb port value reply) new → Goes old new (Host who verb port value reply)
  replied enters = record {
    entry = Host who verb port value reply;
    tells = refl;
    enters = enters;
    sole = λ other next tells follows. (host_step other next tells follows).next_is ∙ sym (enters.adds []).follows.next_is;
  }

  pub replied_otherwise : reply_to verb (phase_at old.state port) ≢ reply → Stops old (Host who verb port value reply)
  replied_otherwise differ other next tells follows = differ (sym (host_step other next tells follows).reply_is)

  -- what was replied is what was looked for
  pub replied_so : (found : Reply) → reply_to verb (phase_at old.state port) ≡ reply → Enters old (Host who verb port value found) new → Goes old new (Host who verb port value reply)
  replied_so found same enters = replied (subst (λ (r : Reply). Enters old (Host who verb port value r) new) ((enters.adds []).follows.reply_is ∙ same) enters)

  pub command_refused : (e : NetError) → 0 < old.left → RefusesAt old verb port value e → Stops old (Host who verb port value reply)
  command_refused e place refused other next tells follows = not_agreed old verb port value e place refused (host_step other next tells follows).agreed

-- ---- rests

pub rested : (old new : Progress) (who : Who) → Enters old (Rested who) new → Goes old new (Rested who)
rested old new who enters = record {
  entry = Rested who;
  tells = refl;
  enters = enters;
  sole = λ other next tells follows. (subst (λ o. Follows old.wiring old.state o next) (told_rested other who tells) follows).1 ∙ sym (enters.adds []).follows.1;
}

pub no_rest : (net : Progress) (who : Who) (c : ℕ) → CanStep net.wiring.sites net.state c → Stops net (Rested who)
no_rest net who c can other next tells follows = (subst (λ o. Follows net.wiring net.state o next) (told_rested other who tells) follows).0 c can

pub rest_refused : (net : Progress) (who : Who) (e : NetError) → 0 < net.left → ((journal : List Entry) → RefusesEntry (with_journal net journal) e) → Stops net (Rested who)
rest_refused net who e place refused other next tells follows = let_in net e place refused

-- the net went on by a line where none had stopped
pub plays_first : (old new : Progress) (line : Entry) (number : ℕ) (from to : Option ℕ) → from ≡ None → to ≡ from → Goes old new line → PlaysOn old new line number from to
plays_first old new line number None None is same goes = goes
plays_first old new line number None (Some k) is same goes = absurd (cc)
plays_first old new line number (Some k) to is same goes = absurd (cc)

pub none_of : (o : Option ℕ) → is_some o ≡ false → o ≡ None
none_of None is = refl
none_of (Some k) is = absurd (cc)
