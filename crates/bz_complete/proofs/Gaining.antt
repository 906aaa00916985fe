-- What a net gains, one step after another.
use Rattle.std.proofs.Common.{◌≡◌, ℕ, Bool, true, false, Option, Some, None, List, [], ◌∷◌, ◌++◌, ◌+◌, ◌<◌, length, take, get_or, refl, sym, ap, subst, ◌∙◌, append_assoc, arith}
use Rattle.std.specs.Prelude.{if◌then◌else◌, Result, Ok, Err, IfOk}
use Rattle.std.specs.List.{AllByRecursion}
use Rattle.std.proofs.lemmas.List.{append-nil, flat_map_more, take_more}
use Rattle.bz_model.specs.declared.channel.Move.{Move}
use Rattle.bz_model.specs.declared.event.Entry.{Entry}
use Rattle.bz_model.specs.declared.event.Entry.TheVariants.{Fired, Host}
use Rattle.bz_model.specs.declared.event.NetError.{NetError}
use Rattle.bz_model.specs.declared.event.Reply.{Reply}
use Rattle.bz_model.specs.declared.event.Reply.TheVariants.{Done, Value, NotYet, Busy, NotTaken, Watched}
use Rattle.bz_model.specs.declared.event.Verb.{Verb}
use Rattle.bz_model.specs.declared.event.Verb.TheVariants.{Offer, Collect, Accept, Answer, Watch}
use Rattle.bz_model.specs.declared.event.Who.TheVariants as who
use Rattle.bz_model.specs.Entries.{HasWho}
use Rattle.bz_model.specs.Limits.{max_entries}
use Rattle.bz_model.specs.Nets.{State, Step, Wiring}
use Rattle.bz_net.specs.Replies.{IsSoleStep}
use Rattle.bz_net.specs.Simulation.{Adds, IsOpened, Simulation}
use Rattle.bz_trace_text.proofs.Texts.{all_more}
use Rattle.bz_complete.specs.Completing.{Gains, GainsUpTo, IsCompleted, IsMade}
use Rattle.bz_complete.specs.Shown.{is_done, shown, shown_move, shown_of, shown_word}
use Rattle.bz_complete.specs.declared.short.ShortMove.{ShortMove}

pub gains_none : (net : Simulation) → Gains net net []
gains_none net = record { wiring = refl; limit = refl; by = λ b. b; shows = sym (append-nil (shown net.journal)) }

pub gains_on : (old mid new : Simulation) (xs ys : List ShortMove) → Gains old mid xs → Gains mid new ys → Gains old new (xs ++ ys)
gains_on old mid new xs ys a b = record {
  wiring = b.wiring ∙ a.wiring;
  limit = b.limit ∙ a.limit;
  by = λ all. b.by (a.by all);
  shows = b.shows ∙ ap (λ s. s ++ ys) a.shows ∙ append_assoc (shown old.journal) xs ys;
}

-- one entry more
gains_entry : (old new : Simulation) (entry : Entry) → Adds old entry new → HasWho entry → Gains old new (shown_of entry)
gains_entry old new entry adds by = record {
  wiring = adds.wiring;
  limit = adds.limit;
  by = λ all. subst (AllByRecursion HasWho) (sym adds.journal) (all_more HasWho old.journal entry all by);
  shows = ap shown adds.journal ∙ sym (flat_map_more shown_of [] old.journal entry);
}

-- the one move that a component has at a port
pub gains_fired : (old new : Simulation) (c p k : ℕ) (mv : Move) (v : Option ℕ) (entry : Entry) (next : State)
    → Step old.wiring.sites old.state c p k mv v next → IsSoleStep old new (who.Worker 1) c p entry → Adds old entry new → Gains old new (shown_move k mv v)
gains_fired old new c p k mv v entry next step sole adds =
    gains_entry old new (Fired (who.Worker 1) c p k mv v) (subst (λ e. Adds old e new) (sole k mv v next step).0 adds) (omega arith, omega arith)

abbrev nothing : List ShortMove
nothing = []

none_either : (b : Bool) → nothing ≡ (if b then nothing else nothing)
none_either true = refl
none_either false = refl

-- a word that is not done shows nothing
word_shows : (verb : Verb) (k : ℕ) (v : Option ℕ) (reply : Reply) → shown_word verb k v reply ≡ (if is_done reply then shown_word verb k v Done else [])
word_shows Offer k v Done = refl
word_shows Offer k v (Value x) = refl
word_shows Offer k v NotYet = refl
word_shows Offer k v (Busy phase) = refl
word_shows Offer k v (NotTaken phase) = refl
word_shows Offer k v (Watched phase) = refl
word_shows Answer k v Done = refl
word_shows Answer k v (Value x) = refl
word_shows Answer k v NotYet = refl
word_shows Answer k v (Busy phase) = refl
word_shows Answer k v (NotTaken phase) = refl
word_shows Answer k v (Watched phase) = refl
word_shows Collect k v reply = none_either (is_done reply)
word_shows Accept k v reply = none_either (is_done reply)
word_shows Watch k v reply = none_either (is_done reply)

-- a word of the host
pub gains_word : (old new : Simulation) (verb : Verb) (port : ℕ) (value : Option ℕ) (reply : Reply) → Adds old (Host (who.Host 1) verb port value reply) new
    → Gains old new (if is_done reply then shown_word verb port value Done else [])
gains_word old new verb port value reply adds =
    subst (Gains old new) (word_shows verb port value reply) (gains_entry old new (Host (who.Host 1) verb port value reply) adds (omega arith, omega arith))

-- what shows nothing, whether it was done or not
pub gains_silent : (old new : Simulation) (is : Bool) (xs : List ShortMove) → xs ≡ [] → Gains old new (if is then xs else []) → Gains old new []
gains_silent old new true xs none gains = subst (Gains old new) none gains
gains_silent old new false xs none gains = gains

-- a net that was just opened, and what it gained
pub made_of : (w : Wiring) (opened net : Simulation) (moves : List ShortMove) → IsOpened w max_entries opened → Gains opened net moves → IsMade w moves net
made_of w opened net moves is gains = record {
  wiring = gains.wiring ∙ is.wiring;
  limit = gains.limit ∙ is.limit_is;
  by = gains.by (subst (AllByRecursion HasWho) (sym is.journal) tt);
  shows = gains.shows ∙ ap (λ es. shown es ++ moves) is.journal;
}

pub completed_of : (w : Wiring) (opened net : Simulation) (moves : List ShortMove) (stop : Option ℕ) → IsOpened w max_entries opened → GainsUpTo opened net moves stop
    → IsCompleted w moves (record { net = net; stop = stop })
completed_of w opened net moves None is gains = made_of w opened net moves is gains
completed_of w opened net moves (Some line) is gains = (gains.0, gains.1, gains.2, made_of w opened net (take gains.0 moves) is gains.3)

-- one move more is made, or it stops there
pub gains_more : (old now new : Simulation) (moves : List ShortMove) (place : ℕ) (due : ShortMove) → place < length moves → due ≡ get_or moves place due
    → Gains old now (take place moves) → Gains now new (due ∷ []) → Gains old new (take (place + 1) moves)
gains_more old now new moves place due lt is before gains =
    subst (Gains old new) (ap (λ d. take place moves ++ d ∷ []) is ∙ sym (take_more moves place due lt)) (gains_on old now new (take place moves) (due ∷ []) before gains)

pub gains_still : (old now new : Simulation) (xs : List ShortMove) → Gains old now xs → Gains now new [] → Gains old new xs
gains_still old now new xs before gains = subst (Gains old new) (append-nil xs) (gains_on old now new xs [] before gains)

-- a word that is not given
pub not_given : (old new : Simulation) (xs : List ShortMove) (r : Result Bool NetError) → new ≡ old → IfOk r (λ is. is ≡ false) → IfOk r (λ is. Gains old new (if is then xs else []))
not_given old new xs (Ok true) same is = cc
not_given old new xs (Ok false) same is = subst (λ n. Gains old n []) (sym same) (gains_none old)
not_given old new xs (Err e) same is = tt

-- a word that is given once nothing is shown
pub then_gives : (old mid new : Simulation) (due : ShortMove) (xs : List ShortMove) (r : Result Bool NetError) → xs ≡ due ∷ [] → Gains old mid [] → IfOk r (λ is. Gains mid new (if is then xs else []))
    → IfOk r (λ is. Gains old new (if is then due ∷ [] else []))
then_gives old mid new due xs (Ok is) same before gains = gains_on old mid new [] _ before (subst (λ ys. Gains mid new (if is then ys else [])) same gains)
then_gives old mid new due xs (Err e) same before gains = tt

-- what shows nothing, and what comes then
pub gains_then : (old mid new : Simulation) (ys : List ShortMove) → Gains old mid [] → Gains mid new ys → Gains old new ys
gains_then old mid new ys before gains = gains_on old mid new [] ys before gains

-- moves that were made, and what shows nothing after them
pub made_still : (w : Wiring) (old new : Simulation) (moves : List ShortMove) → IsMade w moves old → Gains old new [] → IsMade w moves new
made_still w old new moves made gains = record {
  wiring = gains.wiring ∙ made.wiring;
  limit = gains.limit ∙ made.limit;
  by = gains.by made.by;
  shows = gains.shows ∙ ap (λ s. s ++ []) made.shows ∙ append-nil moves;
}
