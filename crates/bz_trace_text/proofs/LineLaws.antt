-- A line that stands at the front is read back, and what is read is a line.
use Rattle.std.proofs.Common.{◌≡◌, ℕ, zero, suc, ◌+◌, ◌<◌, ◌≤◌, ◌^◌, Bool, true, false, List, [], ◌∷◌, ◌++◌, Option, Some, None, refl, ap, ◌∙◌, arith, ◌==◌, append_assoc}
use Rattle.std.specs.Prelude.{IfSome}
use Rattle.std.specs.Fmt.{decimal}
use Rattle.std.proofs.Math.Dec.{eqb-suc-zero}
use Rattle.bz_model.specs.declared.channel.Move.{Move}
use Rattle.bz_model.specs.declared.channel.Move.TheVariants as move
use Rattle.bz_model.specs.declared.channel.Phase.{Phase}
use Rattle.bz_model.specs.declared.channel.Phase.TheVariants as phase
use Rattle.bz_model.specs.declared.event.Who.{Who}
use Rattle.bz_model.specs.declared.event.Who.TheVariants as who
use Rattle.bz_model.specs.declared.event.Verb.{Verb}
use Rattle.bz_model.specs.declared.event.Verb.TheVariants as verb
use Rattle.bz_model.specs.declared.event.Reply.{Reply}
use Rattle.bz_model.specs.declared.event.Reply.TheVariants as reply
use Rattle.bz_model.specs.Traces.{who_text, move_text, verb_text, value_text, phase_text, reply_text}
use Rattle.bz_model.specs.Entries.{IsWho, IsValue, IsPhase, IsReply, IsCarried, IsGiven}
use Rattle.bz_trace_text.specs.Reading.{strip, who_number, who_at, move_at, verb_at, carried_at, value_end, phase_end, reply_end, given_at, begins_digit, most_value}
use Rattle.std.proofs.lemmas.Fmt.{decimal_by_steps_wide}
use Rattle.std.proofs.Common.{◌%◌}
use Rattle.bz_trace_text.proofs.Numbers.{number_again, digit_of}

-- who, before a space
who_number_again : (most n : ℕ) (t : List ℕ) → most < 10 ^ 64 → 0 < n → n ≤ most → who_number most (decimal n ++ 32 ∷ t) ≡ Some (n, 32 ∷ t)
unfolding who_number
who_number_again most zero t big some within = absurd (omega arith)
who_number_again most (suc n) t big some within = let no : (suc n == 0) ≡ false = eqb-suc-zero n in rw (number_again most (suc n) (32 ∷ t) big within refl, no) refl

pub who_again : (w : Who) (t : List ℕ) → IsWho w → who_at (who_text w ++ 32 ∷ t) ≡ Some (w, 32 ∷ t)
unfolding who_at
who_again (who.Host n) t is = rw (who_number_again 16 n t (omega arith) is.0 is.1) refl
who_again (who.Worker n) t is = rw (who_number_again 8 n t (omega arith) is.0 is.1) refl

pub move_again : (mv : Move) (t : List ℕ) → move_at (move_text mv ++ 32 ∷ t) ≡ Some (mv, t)
unfolding move_at strip
move_again move.Ask t = refl
move_again move.Take t = refl
move_again move.Reply t = refl
move_again move.Got t = refl

pub verb_again : (v : Verb) (t : List ℕ) → verb_at (verb_text v ++ 32 ∷ t) ≡ Some (v, t)
unfolding verb_at strip
verb_again verb.Offer t = refl
verb_again verb.Collect t = refl
verb_again verb.Accept t = refl
verb_again verb.Answer t = refl
verb_again verb.Watch t = refl

pub value_again : (v : Option ℕ) (t : List ℕ) → IfSome v IsValue → value_end (value_text v ++ 10 ∷ t) ≡ Some (v, t)
unfolding value_end strip
value_again None t is = refl
value_again (Some v) t is = rw (number_again most_value v (10 ∷ t) (omega arith) (omega arith) refl) refl

pub phase_again : (p : Phase) (t : List ℕ) → IsPhase p → phase_end (phase_text p ++ 10 ∷ t) ≡ Some (p, t)
unfolding phase_end strip
phase_again phase.Idle t is = refl
phase_again (phase.Asked v) t is = rw (value_again v t is) refl
phase_again phase.Taken t is = refl
phase_again (phase.Replied v) t is = rw (value_again v t is) refl
phase_again phase.Broken t is = refl

-- no reply begins with a digit
pub reply_again : (r : Reply) (t : List ℕ) → IsReply r → reply_end (reply_text r ++ 10 ∷ t) ≡ Some (r, t)
unfolding reply_end strip
reply_again reply.Done t is = refl
reply_again (reply.Value v) t is = rw (number_again most_value v (10 ∷ t) (omega arith) (omega arith) refl) refl
reply_again reply.NotYet t is = refl
reply_again (reply.Busy p) t is = rw (phase_again p t is) refl
reply_again (reply.NotTaken p) t is = rw (phase_again p t is) refl
reply_again (reply.Watched phase.Idle) t is = rw (phase_again phase.Idle t is) refl
reply_again (reply.Watched (phase.Asked v)) t is = rw (phase_again (phase.Asked v) t is) refl
reply_again (reply.Watched phase.Taken) t is = rw (phase_again phase.Taken t is) refl
reply_again (reply.Watched (phase.Replied v)) t is = rw (phase_again (phase.Replied v) t is) refl
reply_again (reply.Watched phase.Broken) t is = rw (phase_again phase.Broken t is) refl

pub carried_again : (b : Bool) (v : Option ℕ) (t : List ℕ) → IsCarried b v → carried_at b (value_text v ++ 10 ∷ t) ≡ Some (v, 10 ∷ t)
unfolding carried_at strip
carried_again true (Some v) t is = rw (number_again most_value v (10 ∷ t) (omega arith) (omega arith) refl) refl
carried_again true None t is = absurd is
carried_again false None t is = refl
carried_again false (Some v) t is = absurd is

starts_digit : (n : ℕ) → n < 10 ^ 64 → (t : List ℕ) → begins_digit (decimal n ++ t) ≡ true
starts_digit n big = decimal_by_steps_wide (λ k ds. (t : List ℕ) → begins_digit (ds ++ t) ≡ true)
    (λ k h t. digit_of (48 + k) (omega arith) (omega arith))
    (λ k ds h before t. ap begins_digit (append_assoc ds ((48 + k % 10) ∷ []) t) ∙ before ((48 + k % 10) ∷ t)) n big

-- behind a name a value is given, or none
pub none_again : (v : Verb) (t : List ℕ) → begins_digit t ≡ false → given_at v t ≡ Some (None, t)
unfolding given_at
none_again verb.Offer t ends = rw ends refl
none_again verb.Answer t ends = rw ends refl
none_again verb.Collect t ends = refl
none_again verb.Accept t ends = refl
none_again verb.Watch t ends = refl

some_again : (n : ℕ) (t : List ℕ) → IsValue n → begins_digit (decimal n ++ 32 ∷ t) ≡ true
some_again n t is = starts_digit n (omega arith) (32 ∷ t)

pub given_again : (v : Verb) (n : ℕ) (t : List ℕ) → IsGiven v (Some n) → given_at v (decimal n ++ 32 ∷ t) ≡ Some (Some n, t)
unfolding given_at strip
given_again verb.Offer n t is = rw (some_again n t is, number_again most_value n (32 ∷ t) (omega arith) (omega arith) refl) refl
given_again verb.Answer n t is = rw (some_again n t is, number_again most_value n (32 ∷ t) (omega arith) (omega arith) refl) refl
given_again verb.Collect n t is = absurd is
given_again verb.Accept n t is = absurd is
given_again verb.Watch n t is = absurd is

pub no_digit : (r : Reply) (t : List ℕ) → begins_digit (reply_text r ++ 10 ∷ t) ≡ false
no_digit reply.Done t = refl
no_digit (reply.Value v) t = refl
no_digit reply.NotYet t = refl
no_digit (reply.Busy p) t = refl
no_digit (reply.NotTaken p) t = refl
no_digit (reply.Watched phase.Idle) t = refl
no_digit (reply.Watched (phase.Asked v)) t = refl
no_digit (reply.Watched phase.Taken) t = refl
no_digit (reply.Watched (phase.Replied v)) t = refl
no_digit (reply.Watched phase.Broken) t = refl
