-- What takes and gots leave as it was: what has been sent on each channel, and what a component that makes none can send.
use Rattle.std.proofs.Common.{◌≡◌, ◌⊎◌, inl, inr, ℕ, true, false, Option, List, [], ◌∷◌, IsTrue, refl, sym, ap, subst}
use Rattle.bz_model.specs.declared.channel.Move.{Move}
use Rattle.bz_model.specs.declared.channel.Move.TheVariants.{Ask, Take, Reply, Got}
use Rattle.bz_model.specs.declared.channel.Phase.{Phase}
use Rattle.bz_model.specs.declared.channel.Phase.TheVariants.{Idle, Asked, Taken, Replied, Broken}
use Rattle.bz_model.specs.declared.event.Entry.{Entry}
use Rattle.bz_model.specs.declared.event.Entry.TheVariants.{Fired, Host, Rested}
use Rattle.bz_model.specs.declared.event.Reply.{Reply as Answered}
use Rattle.bz_model.specs.declared.event.Reply.TheVariants as said
use Rattle.bz_model.specs.declared.event.Verb.{Verb}
use Rattle.bz_model.specs.declared.event.Verb.TheVariants.{Offer, Collect, Accept, Answer, Watch}
use Rattle.bz_model.specs.declared.expr.Expr.{Expr}
use Rattle.bz_model.specs.Heads.{carried}
use Rattle.bz_model.specs.Hosts.{host_after, reply_to}
use Rattle.bz_model.specs.Phases.{allows, phase_after}
use Rattle.bz_model.specs.Terms.{Store, value_of}
use Rattle.bz_net.specs.Sides.{answers, sends}
use Rattle.bz_complete.specs.Shown.{short, shown_move, shown_of, shown_word}
use Rattle.bz_complete.specs.Stopping.{replies}
use Rattle.bz_complete.specs.declared.short.Sent.TheVariants as sent
use Rattle.bz_complete.specs.declared.short.ShortMove.{ShortMove}

-- ---- an entry shows one move or none

abbrev pub ShowsOneOrNone : List ShortMove → Type 0
ShowsOneOrNone xs = (xs ≡ []) ⊎ ((m : ShortMove) × (xs ≡ m ∷ []))

move_shows : (k : ℕ) (mv : Move) (v : Option ℕ) → ShowsOneOrNone (shown_move k mv v)
move_shows k Ask v = inr (short sent.Ask k v, refl)
move_shows k Take v = inl refl
move_shows k Reply v = inr (short sent.Reply k v, refl)
move_shows k Got v = inl refl

word_shows : (verb : Verb) (k : ℕ) (v : Option ℕ) (reply : Answered) → ShowsOneOrNone (shown_word verb k v reply)
word_shows Offer k v said.Done = inr (short sent.Ask k v, refl)
word_shows Offer k v (said.Value x) = inl refl
word_shows Offer k v said.NotYet = inl refl
word_shows Offer k v (said.Busy phase) = inl refl
word_shows Offer k v (said.NotTaken phase) = inl refl
word_shows Offer k v (said.Watched phase) = inl refl
word_shows Answer k v said.Done = inr (short sent.Reply k v, refl)
word_shows Answer k v (said.Value x) = inl refl
word_shows Answer k v said.NotYet = inl refl
word_shows Answer k v (said.Busy phase) = inl refl
word_shows Answer k v (said.NotTaken phase) = inl refl
word_shows Answer k v (said.Watched phase) = inl refl
word_shows Collect k v reply = inl refl
word_shows Accept k v reply = inl refl
word_shows Watch k v reply = inl refl

pub entry_shows : (e : Entry) → ShowsOneOrNone (shown_of e)
entry_shows (Fired who c p k mv v) = move_shows k mv v
entry_shows (Host who verb port v reply) = word_shows verb port v reply
entry_shows (Rested who) = inl refl

-- ---- what a move that is shown tells of who made it

pub record Told (k : ℕ) (mv : Move) (v : Option ℕ) (m : ShortMove) : Type 0 where
  pub chan : k ≡ m.chan
  pub side : answers mv ≡ replies m.sent
  pub value : v ≡ m.value
  pub sent_is : sends mv ≡ true

pub same_move : (a m : ShortMove) → a ∷ [] ≡ m ∷ [] → a ≡ m
same_move a m e = cc

pub told : (k : ℕ) (mv : Move) (v : Option ℕ) (m : ShortMove) → shown_move k mv v ≡ m ∷ [] → Told k mv v m
told k Ask v m e =
    let is = same_move (short sent.Ask k v) m e in
    record { chan = ap (λ (x : ShortMove). x.chan) is; side = ap (λ (x : ShortMove). replies x.sent) is; value = ap (λ (x : ShortMove). x.value) is; sent_is = refl }
told k Take v m e = absurd (cc)
told k Reply v m e =
    let is = same_move (short sent.Reply k v) m e in
    record { chan = ap (λ (x : ShortMove). x.chan) is; side = ap (λ (x : ShortMove). replies x.sent) is; value = ap (λ (x : ShortMove). x.value) is; sent_is = refl }
told k Got v m e = absurd (cc)

pub silent : (k : ℕ) (mv : Move) (v : Option ℕ) → shown_move k mv v ≡ [] → sends mv ≡ false
silent k Ask v e = absurd (cc)
silent k Take v e = refl
silent k Reply v e = absurd (cc)
silent k Got v e = refl

pub carried_sent : (mv : Move) (e : Expr) (s : Store) (v : Option ℕ) → sends mv ≡ true → carried mv e s v ≡ value_of e s
carried_sent Ask e s v is = refl
carried_sent Take e s v is = absurd (cc)
carried_sent Reply e s v is = refl
carried_sent Got e s v is = absurd (cc)

pub allows_sent : (phase : Phase) (mv : Move) → sends mv ≡ true → IsTrue (allows phase mv)
allows_sent Idle Ask is = refl
allows_sent (Asked v) Ask is = refl
allows_sent Taken Ask is = refl
allows_sent (Replied v) Ask is = refl
allows_sent Broken Ask is = refl
allows_sent phase Take is = absurd (cc)
allows_sent Idle Reply is = refl
allows_sent (Asked v) Reply is = refl
allows_sent Taken Reply is = refl
allows_sent (Replied v) Reply is = refl
allows_sent Broken Reply is = refl
allows_sent phase Got is = absurd (cc)

-- ---- one channel

-- the phase lets nothing be noticed
abbrev pub Calm : Phase → Type 0
Calm phase = (mv : Move) → sends mv ≡ false → IsTrue (allows phase mv) → ⊥

calm_idle : Calm Idle
calm_idle Ask is a = cc
calm_idle Take is a = cc
calm_idle Reply is a = cc
calm_idle Got is a = cc

calm_taken : Calm Taken
calm_taken Ask is a = cc
calm_taken Take is a = cc
calm_taken Reply is a = cc
calm_taken Got is a = cc

after_take : (phase : Phase) (v : Option ℕ) → phase_after phase Take v ≡ Taken
after_take Idle v = refl
after_take (Asked x) v = refl
after_take Taken v = refl
after_take (Replied x) v = refl
after_take Broken v = refl

after_got : (phase : Phase) (v : Option ℕ) → phase_after phase Got v ≡ Idle
after_got Idle v = refl
after_got (Asked x) v = refl
after_got Taken v = refl
after_got (Replied x) v = refl
after_got Broken v = refl

pub noticed : (phase : Phase) (mv : Move) (v : Option ℕ) → sends mv ≡ false → Calm (phase_after phase mv v)
noticed phase Ask v is = absurd (cc)
noticed phase Take v is = subst Calm (sym (after_take phase v)) calm_taken
noticed phase Reply v is = absurd (cc)
noticed phase Got v is = subst Calm (sym (after_got phase v)) calm_idle

-- the same of a host's word
abbrev pub SameOrCalm : Phase → Phase → Type 0
SameOrCalm old new = (new ≡ old) ⊎ Calm new

pub word_calm : (verb : Verb) (k : ℕ) (v : Option ℕ) (phase : Phase) → shown_word verb k v (reply_to verb phase) ≡ [] → SameOrCalm phase (host_after verb v phase)
word_calm Offer k v Idle none = absurd (cc)
word_calm Offer k v (Asked x) none = inl refl
word_calm Offer k v Taken none = inl refl
word_calm Offer k v (Replied x) none = inl refl
word_calm Offer k v Broken none = inl refl
word_calm Collect k v Idle none = inl refl
word_calm Collect k v (Asked x) none = inl refl
word_calm Collect k v Taken none = inl refl
word_calm Collect k v (Replied x) none = inr calm_idle
word_calm Collect k v Broken none = inl refl
word_calm Accept k v Idle none = inl refl
word_calm Accept k v (Asked x) none = inr calm_taken
word_calm Accept k v Taken none = inl refl
word_calm Accept k v (Replied x) none = inl refl
word_calm Accept k v Broken none = inl refl
word_calm Answer k v Idle none = inl refl
word_calm Answer k v (Asked x) none = inl refl
word_calm Answer k v Taken none = absurd (cc)
word_calm Answer k v (Replied x) none = inl refl
word_calm Answer k v Broken none = inl refl
word_calm Watch k v Idle none = inl refl
word_calm Watch k v (Asked x) none = inl refl
word_calm Watch k v Taken none = inl refl
word_calm Watch k v (Replied x) none = inl refl
word_calm Watch k v Broken none = inl refl
