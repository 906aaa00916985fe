-- A line ends once, with its last byte. So what stands at the front of a text in which a line ends is the same, whatever stands behind.
use Rattle.std.proofs.Common.{◌≡◌, ℕ, ◌+◌, ◌/◌, ◌%◌, ◌<◌, ◌≤◌, ◌^◌, ◌==◌, Bool, true, false, ◌||◌, List, [], ◌∷◌, ◌++◌, Option, Some, None, refl, sym, ap, ap₂, ◌∙◌, arith, append_assoc, codes}
use Rattle.std.specs.Prelude.{IfSome, unwrap_or}
use Rattle.std.specs.Fmt.{decimal}
use Rattle.std.specs.List.{flat_map, list_any}
use Rattle.std.proofs.lemmas.Bool.Decides.{nat_tests}
use Rattle.std.proofs.lemmas.Fmt.{decimal_by_steps_wide}
use Rattle.std.proofs.lemmas.List.Folds.{list_any-append}
use Rattle.bz_model.specs.declared.channel.Move.{Move}
use Rattle.bz_model.specs.declared.channel.Move.TheVariants as move
use Rattle.bz_model.specs.declared.channel.Phase.{Phase}
use Rattle.bz_model.specs.declared.channel.Phase.TheVariants as phase
use Rattle.bz_model.specs.declared.event.Who.{Who}
use Rattle.bz_model.specs.declared.event.Who.TheVariants as who
use Rattle.bz_model.specs.declared.event.Verb.{Verb}
use Rattle.bz_model.specs.declared.event.Verb.TheVariants as verb
use Rattle.bz_model.specs.declared.event.Reply.{Reply}
use Rattle.bz_model.specs.declared.event.Reply.TheVariants as reply
use Rattle.bz_model.specs.declared.event.Entry.{Entry}
use Rattle.bz_model.specs.declared.event.Entry.TheVariants as entry
use Rattle.bz_model.specs.Names.{Outside, port_name}
use Rattle.bz_model.specs.Traces.{who_text, move_text, verb_text, value_text, phase_text, reply_text, byte_form, name_form, line_text, clash_text, hex_digit}
use Rattle.bz_model.specs.Entries.{HasLine, IsCarried, IsGiven, IsHost, IsNumber32, IsPhase, IsReply, IsValue, IsWho, carries_at}
use Rattle.bz_text.proofs.NameLaws.{HasForm, itself, by_number, has_form, hex_from, cons_same}
use Rattle.bz_trace_text.specs.declared.text.Version.{Version}
use Rattle.bz_trace_text.specs.Reading.{line_at, clash_at}
use Rattle.bz_trace_text.specs.Texts.{NoClash, NoEntry}
use Rattle.bz_trace_text.proofs.Lines.{line_again}
use Rattle.bz_trace_text.proofs.Strips.{none-some}
use Rattle.bz_trace_text.proofs.Texts.{clash_again}
use Rattle.bz_trace.specs.Reading.{HasEnd}

abbrev NoEnd : List ℕ → Type 0
NoEnd text = list_any (λ b. b == 10) text ≡ false

pub record IsLine (text : List ℕ) : Type 0 where
  pub body : List ℕ
  pub clear : NoEnd body
  pub text_is : text ≡ body ++ 10 ∷ []

both : (a b : List ℕ) → NoEnd a → NoEnd b → NoEnd (a ++ b)
both a b n m = rw (list_any-append (λ c. c == 10) a b, n) m

above : (b : ℕ) (t : List ℕ) → 11 ≤ b → NoEnd t → NoEnd (b ∷ t)
above b t h n = let no : (b == 10) ≡ false = grind (arith, nat_tests) in rw no n

abbrev IsClear : ℕ → List ℕ → Type 0
IsClear n ds = NoEnd ds

decimal_clear : (n : ℕ) → n < 10 ^ 64 → NoEnd (decimal n)
decimal_clear n fits = decimal_by_steps_wide IsClear (λ m h. above (48 + m) [] (omega arith) refl) (λ m ds h n. both ds ((48 + m % 10) ∷ []) n (above (48 + m % 10) [] (omega arith) refl)) n fits

form_clear : (b : ℕ) (f : List ℕ) → HasForm b f → NoEnd f
form_clear b _ (itself p q) = above b [] (omega (arith, p)) refl
form_clear b _ by_number =
    let high = hex_from (b / 16) in
    let low = hex_from (b % 16) in
    above (hex_digit (b / 16)) (hex_digit (b % 16) ∷ []) (omega (arith, high)) (above (hex_digit (b % 16)) [] (omega (arith, low)) refl)

bytes_clear : (name : List ℕ) → NoEnd (flat_map byte_form name)
bytes_clear [] = refl
bytes_clear (b ∷ bs) = both (byte_form b) (flat_map byte_form bs) (form_clear b (byte_form b) (has_form b)) (bytes_clear bs)

name_clear : (name : List ℕ) → NoEnd (name_form name)
name_clear [] = refl
name_clear (b ∷ bs) = bytes_clear (b ∷ bs)

who_clear : (w : Who) → IsWho w → NoEnd (who_text w)
who_clear (who.Host n) is = decimal_clear n (omega arith)
who_clear (who.Worker n) is = decimal_clear n (omega arith)

of_host : (w : Who) → IsHost w → IsWho w
of_host (who.Host n) is = is
of_host (who.Worker n) is = absurd is

move_clear : (mv : Move) → NoEnd (move_text mv)
move_clear move.Ask = refl
move_clear move.Take = refl
move_clear move.Reply = refl
move_clear move.Got = refl

verb_clear : (v : Verb) → NoEnd (verb_text v)
verb_clear verb.Offer = refl
verb_clear verb.Collect = refl
verb_clear verb.Accept = refl
verb_clear verb.Answer = refl
verb_clear verb.Watch = refl

value_clear : (value : Option ℕ) → IfSome value IsValue → NoEnd (value_text value)
value_clear None is = refl
value_clear (Some v) is = decimal_clear v (omega arith)

carried : (b : Bool) (value : Option ℕ) → IsCarried b value → IfSome value IsValue
carried true (Some v) is = is
carried true None is = tt
carried false None is = tt
carried false (Some v) is = absurd is

given : (v : Verb) (value : Option ℕ) → IsGiven v value → IfSome value IsValue
given v None is = tt
given verb.Offer (Some n) is = is
given verb.Answer (Some n) is = is
given verb.Collect (Some n) is = absurd is
given verb.Accept (Some n) is = absurd is
given verb.Watch (Some n) is = absurd is

phase_clear : (p : Phase) → IsPhase p → NoEnd (phase_text p)
phase_clear phase.Idle is = refl
phase_clear (phase.Asked v) is = value_clear v is
phase_clear phase.Taken is = refl
phase_clear (phase.Replied v) is = value_clear v is
phase_clear phase.Broken is = refl

reply_clear : (r : Reply) → IsReply r → NoEnd (reply_text r)
reply_clear reply.Done is = refl
reply_clear (reply.Value v) is = decimal_clear v (omega arith)
reply_clear reply.NotYet is = refl
reply_clear (reply.Busy p) is = phase_clear p is
reply_clear (reply.NotTaken p) is = phase_clear p is
reply_clear (reply.Watched p) is = phase_clear p is

line_ends : (net : Outside) (e : Entry) → HasLine net e → IsLine (line_text net.ports e)
line_ends net (entry.Fired w comp port chan mv value) has = record {
  body = who_text w ++ (codes " fire " ++ (decimal comp ++ (codes " " ++ (move_text mv ++ (codes " " ++ (decimal chan ++ value_text value))))));
  clear =
      both (who_text w) _ (who_clear w has.0)
      (both (decimal comp) _ (decimal_clear comp (let is = has.1 in omega (arith, is)))
      (both (move_text mv) _ (move_clear mv)
      (both (decimal chan) _ (decimal_clear chan (let is = has.2 in omega (arith, is))) (value_clear value (carried (carries_at net.chans chan mv) value has.3)))));
  text_is = simp append_assoc;
}
line_ends net (entry.Host w v port value r) has =
    let name = unwrap_or (port_name net.ports port) [] in
    record {
      body = who_text w ++ (codes " " ++ (verb_text v ++ (codes " " ++ (name_form name ++ (value_text value ++ (codes " " ++ reply_text r))))));
      clear =
          both (who_text w) _ (who_clear w (of_host w has.0))
          (both (verb_text v) _ (verb_clear v)
          (both (name_form name) _ (name_clear name) (both (value_text value) _ (value_clear value (given v value has.2)) (reply_clear r has.3))));
      text_is = simp append_assoc;
    }
line_ends net (entry.Rested w) has = record {
  body = who_text w ++ codes " rest";
  clear = both (who_text w) (codes " rest") (who_clear w has) refl;
  text_is = sym (append_assoc (who_text w) (codes " rest") (10 ∷ []));
}

clash_ends : (comp : ℕ) → IsNumber32 comp → IsLine (clash_text comp)
clash_ends comp is = record {
  body = codes "clash " ++ decimal comp;
  clear = decimal_clear comp (omega (arith, is));
  text_is = refl;
}

no_end : HasEnd [] → ⊥
no_end e = cc

neither : (x y : Bool) → (x || y) ≡ false → (x ≡ false) × (y ≡ false)
neither true y e = cc
neither false y e = (refl, e)

other_byte : (b : ℕ) (t : List ℕ) → NoEnd (b ∷ t) → ((b == 10) ≡ false) × NoEnd t
other_byte b t n = neither (b == 10) (list_any (λ c. c == 10) t) n

-- where a line ends in the text, a line at the front of it and more lies within it
cut : (body text more after : List ℕ) → NoEnd body → HasEnd text → text ++ more ≡ body ++ 10 ∷ after → (rest : List ℕ) × (text ≡ body ++ 10 ∷ rest)
cut body [] more after n h e = absurd (no_end h)
cut [] (b ∷ text) more after n h e = (text, ap (λ c. c ∷ text) (cons_same e).0)
cut (c ∷ body) (b ∷ text) more after n h e =
    let same = cons_same e in
    let rest = other_byte c body n in
    let no : (b == 10) ≡ false = ap (λ d. d == 10) same.0 ∙ rest.0 in
    let later : HasEnd text = rw no at h in
    let (r, is) = cut body text more after rest.1 later same.1 in
    (r, ap₂ (λ d ds. d ∷ ds) same.0 is)

within : (line text more after : List ℕ) → IsLine line → HasEnd text → text ++ more ≡ line ++ after → (rest : List ℕ) × (text ≡ line ++ rest)
within line text more after l h e =
    let (r, is) = cut l.body text more after l.clear h (e ∙ ap (λ s. s ++ after) l.text_is ∙ append_assoc l.body (10 ∷ []) after) in
    (r, is ∙ sym (append_assoc l.body (10 ∷ []) r) ∙ ap (λ s. s ++ r) (sym l.text_is))

pub no_entry_on : (net : Outside) (n : ℕ) (text more : List ℕ) → HasEnd text → line_at net text ≡ None → NoEntry net n (text ++ more)
no_entry_on net n text more h none e after has is =
    let (r, here) = within (line_text net.ports e) text more after (line_ends net e has) h is in
    absurd (none-some _ (sym none ∙ ap (line_at net) here ∙ line_again net e r has))

pub no_clash_on : (v : Version) (text more : List ℕ) → HasEnd text → clash_at text ≡ None → NoClash v (text ++ more)
no_clash_on v text more h none comp after small is =
    let (r, here) = within (clash_text comp) text more after (clash_ends comp small) h is in
    absurd (none-some _ (sym none ∙ ap clash_at here ∙ clash_again comp r small))
