-- What a member of a list has the shape of, against what is read of it.
use Rattle.std.proofs.Common.{◌≡◌, ℕ, List, [], ◌∷◌, Bool, true, false, cond, Option, None, Some, Result, Ok, Err, ◌⊎◌, inl, inr, refl, sym, ap, ◌∙◌, nat_lt, ◌==◌, bytes_eq, codes}
use Rattle.std.specs.Option.{option_and_then}
use Rattle.std.proofs.lemmas.Slice.Eq.{bytes_eq-Decides}
use Rattle.bz_model.specs.Names.{External}
use Rattle.bz_model.specs.declared.channel.Chan.{Chan}
use Rattle.bz_model.specs.declared.channel.ChanKind.{ChanKind}
use Rattle.bz_model.specs.declared.channel.ChanKind.TheVariants.{Sync, Push, Pull}
use Rattle.bz_model.specs.declared.channel.TheConstants.{MAX_WIDTH}
use Rattle.bz_sexpr.specs.Data.{Datum, leaf, items, num, truth, text, symbol}
use Rattle.bz_sexpr.specs.declared.datum.Span.{Span}
use Rattle.bz_sexpr.specs.Views.{list_of}
use Rattle.bz_breeze.specs.Turns.{inside}
use Rattle.bz_breeze.specs.Forms.{named_port, listed_port, port, wide_channel, listed_channel, channel}
use Rattle.bz_breeze.specs.Shapes.{after_symbol, headed, IsSense, GivesPort, IsPort, IsArrayed, arrayed_port, arrayed_sync_port, sync_port, IsSync, IsWide, IsChannel}
use Rattle.bz_breeze.specs.Shapes as shape
use Rattle.bz_breeze.specs.declared.error.Code.{Code}
use Rattle.bz_breeze.specs.declared.error.Code.TheVariants.{BadForm, ArrayedPort, TooWide}

-- ---- words and heads

word_by : (xs ys : List ℕ) (b : Bool) → bytes_eq xs ys ≡ b → (xs ≡ ys) ⊎ (bytes_eq xs ys ≡ false)
word_by xs ys true e = inl ((bytes_eq-Decides xs ys).0 e)
word_by xs ys false e = inr e

-- bytes are this word or not
pub word : (xs ys : List ℕ) → (xs ≡ ys) ⊎ (bytes_eq xs ys ≡ false)
word xs ys = word_by xs ys (bytes_eq xs ys) refl

abbrev Opens : List ℕ → List Datum → List Datum → Type 0
Opens head ds rest = (span : Span) × (ds ≡ leaf (symbol head) span ∷ rest)

opens_by : (head name : List ℕ) (span : Span) (rest found : List Datum) (b : Bool) → bytes_eq name head ≡ b → cond b (Some rest) None ≡ Some found → Opens head (leaf (symbol name) span ∷ rest) found
opens_by head name span rest found true is h =
    let same : name ≡ head = (bytes_eq-Decides name head).0 is in
    let others : rest ≡ found = cc in
    (span, rw (same, others) refl)
opens_by head name span rest found false is h = absurd cc

opens : (head : List ℕ) (ds found : List Datum) → after_symbol head ds ≡ Some found → Opens head ds found
opens head [] found h = absurd cc
opens head (leaf (symbol name) span ∷ rest) found h = opens_by head name span rest found (bytes_eq name head) refl h
opens head (leaf (num n) span ∷ rest) found h = absurd cc
opens head (leaf (truth b) span ∷ rest) found h = absurd cc
opens head (leaf (text t) span ∷ rest) found h = absurd cc
opens head (items es span ∷ rest) found h = absurd cc

-- in a list headed so stands first that symbol
pub headed_is : (head : List ℕ) (d : Datum) (rest : List Datum) → headed head d ≡ Some rest → (span : Span) × (inside d ≡ Some (leaf (symbol head) span ∷ rest))
headed_is head (leaf l span) rest h = absurd cc
headed_is head (items ds span) rest h = let o = opens head (list_of ds) rest h in (o.0, ap Some o.1)

-- and a list in which that symbol stands first is headed so
pub headed_by : (head : List ℕ) (d : Datum) (span : Span) (rest : List Datum) → inside d ≡ Some (leaf (symbol head) span ∷ rest) → headed head d ≡ Some rest
headed_by head d span rest h =
    let same : bytes_eq head head ≡ true = (bytes_eq-Decides head head).1 refl in
    ap (option_and_then (after_symbol head)) h ∙ ap (λ b. cond b (Some rest) None) same

pub headed_not : (head name : List ℕ) (d : Datum) (span : Span) (rest : List Datum) → inside d ≡ Some (leaf (symbol name) span ∷ rest) → bytes_eq name head ≡ false → headed head d ≡ None
headed_not head name d span rest h not = ap (option_and_then (after_symbol head)) h ∙ ap (λ b. cond b (Some rest) None) not

pub some_same : {X : Type 0} {x y : X} → Some x ≡ Some y → x ≡ y
some_same e = cc

-- ---- ports

port_inside : (d : Datum) (ds : List Datum) → inside d ≡ Some ds → port d ≡ listed_port ds
port_inside (leaf l span) ds h = absurd cc
port_inside (items es span) ds h = ap listed_port (some_same h)

named_sense : (name sense : List ℕ) (at sense_at : Span) (rest : List Datum) (p : External) (passive : Bool) → p.passive ≡ passive → p.name ≡ name → IsSense sense passive
    → named_port (leaf (text name) at ∷ leaf (symbol sense) sense_at ∷ rest) ≡ Ok p
named_sense name sense at sense_at rest p true e f g =
    let made : External = record { name = name; passive = true } in
    let same : made ≡ p = rw (← e, ← f) refl in
    rw g (ap Ok same)
named_sense name sense at sense_at rest p false e f g =
    let made : External = record { name = name; passive = false } in
    let same : made ≡ p = rw (← e, ← f) refl in
    rw g (ap Ok same)

named_is : (ds : List Datum) (p : External) → GivesPort ds p → named_port ds ≡ Ok p
named_is (leaf (text name) at ∷ leaf (symbol sense) sense_at ∷ rest) p g = named_sense name sense at sense_at rest p p.passive refl g.0 g.1
named_is ds p g = absurd g

pub port_is : (d : Datum) (p : External) → IsPort d p → port d ≡ Ok p
port_is d p (shape.port rest h g) = let i = headed_is (codes "port") d rest h in port_inside d _ i.1 ∙ named_is rest p g
port_is d p (sync_port rest h g) = let i = headed_is (codes "sync-port") d rest h in port_inside d _ i.1 ∙ named_is rest p g

pub arrayed_is : (d : Datum) → IsArrayed d → port d ≡ Err ArrayedPort
arrayed_is d (arrayed_port rest h) = let i = headed_is (codes "arrayed-port") d rest h in port_inside d _ i.1
arrayed_is d (arrayed_sync_port rest h) = let i = headed_is (codes "arrayed-sync-port") d rest h in port_inside d _ i.1

abbrev NamedView : List Datum → Type 0
NamedView ds = ((p : External) × GivesPort ds p × (named_port ds ≡ Ok p)) ⊎ (named_port ds ≡ Err BadForm)

sense_view : (name sense : List ℕ) (at sense_at : Span) (rest : List Datum) → (sense ≡ codes "passive") ⊎ (bytes_eq sense (codes "passive") ≡ false) → (sense ≡ codes "active") ⊎ (bytes_eq sense (codes "active") ≡ false)
    → NamedView (leaf (text name) at ∷ leaf (symbol sense) sense_at ∷ rest)
sense_view name sense at sense_at rest (inl e) any =
    let p : External = record { name = name; passive = true } in
    inl (p, (refl, e), named_sense name sense at sense_at rest p true refl refl e)
sense_view name sense at sense_at rest (inr n) (inl e) =
    let p : External = record { name = name; passive = false } in
    inl (p, (refl, e), named_sense name sense at sense_at rest p false refl refl e)
sense_view name sense at sense_at rest (inr n) (inr m) = inr (rw (n, m) refl)

named_view : (ds : List Datum) → NamedView ds
named_view (leaf (text name) at ∷ leaf (symbol sense) sense_at ∷ rest) = sense_view name sense at sense_at rest (word sense (codes "passive")) (word sense (codes "active"))
named_view ds = inr refl

-- A member of `ports` has one of the shapes, or is an array, or is told as a bad form.
abbrev pub PortView : Datum → Type 0
PortView d = ((p : External) × IsPort d p × (port d ≡ Ok p)) ⊎ ((IsArrayed d × (port d ≡ Err ArrayedPort)) ⊎ (port d ≡ Err BadForm))

from_named : (d : Datum) (rest : List Datum) → ((p : External) → GivesPort rest p → IsPort d p) → port d ≡ named_port rest → NamedView rest → PortView d
from_named d rest makes same (inl v) = inl (v.0, makes v.0 v.1, same ∙ v.2)
from_named d rest makes same (inr e) = inr (inr (same ∙ e))

abbrev Word : List ℕ → List ℕ → Type 0
Word xs ys = (xs ≡ ys) ⊎ (bytes_eq xs ys ≡ false)

head_view : (d : Datum) (head : List ℕ) (span : Span) (rest : List Datum) → inside d ≡ Some (leaf (symbol head) span ∷ rest)
    → Word head (codes "port") → Word head (codes "sync-port") → Word head (codes "arrayed-port") → Word head (codes "arrayed-sync-port") → PortView d
head_view d head span rest h (inl e) sync array array_sync =
    let here : inside d ≡ Some (leaf (symbol (codes "port")) span ∷ rest) = h ∙ ap (λ name. Some (leaf (symbol name) span ∷ rest)) e in
    from_named d rest (λ p g. shape.port rest (headed_by (codes "port") d span rest here) g) (port_inside d _ here) (named_view rest)
head_view d head span rest h (inr n) (inl e) array array_sync =
    let here : inside d ≡ Some (leaf (symbol (codes "sync-port")) span ∷ rest) = h ∙ ap (λ name. Some (leaf (symbol name) span ∷ rest)) e in
    from_named d rest (λ p g. sync_port rest (headed_by (codes "sync-port") d span rest here) g) (port_inside d _ here) (named_view rest)
head_view d head span rest h (inr n) (inr m) (inl e) array_sync =
    let here : inside d ≡ Some (leaf (symbol (codes "arrayed-port")) span ∷ rest) = h ∙ ap (λ name. Some (leaf (symbol name) span ∷ rest)) e in
    inr (inl (arrayed_port rest (headed_by (codes "arrayed-port") d span rest here), port_inside d _ here))
head_view d head span rest h (inr n) (inr m) (inr k) (inl e) =
    let here : inside d ≡ Some (leaf (symbol (codes "arrayed-sync-port")) span ∷ rest) = h ∙ ap (λ name. Some (leaf (symbol name) span ∷ rest)) e in
    inr (inl (arrayed_sync_port rest (headed_by (codes "arrayed-sync-port") d span rest here), port_inside d _ here))
head_view d head span rest h (inr n) (inr m) (inr k) (inr l) = inr (inr (port_inside d _ h ∙ rw (n, m, k, l) refl))

list_view : (d : Datum) (ds : List Datum) → inside d ≡ Some ds → PortView d
list_view d (leaf (symbol head) span ∷ rest) h = head_view d head span rest h (word head (codes "port")) (word head (codes "sync-port")) (word head (codes "arrayed-port")) (word head (codes "arrayed-sync-port"))
list_view d ds h = inr (inr (port_inside d _ h))

pub port_view : (d : Datum) → PortView d
port_view (leaf l span) = inr (inr refl)
port_view (items ds span) = list_view (items ds span) (list_of ds) refl

-- ---- channels

channel_inside : (d : Datum) (ds : List Datum) → inside d ≡ Some ds → channel d ≡ listed_channel ds
channel_inside (leaf l span) ds h = absurd cc
channel_inside (items es span) ds h = ap listed_channel (some_same h)

pub sync_is : (d : Datum) → IsSync d → channel d ≡ Ok (record { kind = Sync; width = 0 })
sync_is d s = let i = headed_is (codes "sync") d s.0 s.1 in channel_inside d _ i.1

-- what is read of a channel of this kind and width
abbrev pub of_width : ChanKind → ℕ → Result Chan Code
of_width kind w = cond (w == 0) (Err BadForm) (cond (nat_lt MAX_WIDTH w) (Err TooWide) (Ok (record { kind = kind; width = w })))

pub wide_is : (d : Datum) (kind : ChanKind) (w : ℕ) → IsWide d kind w → channel d ≡ of_width kind w
wide_is d Sync w h = absurd h
wide_is d Push w h = let i = headed_is (codes "push") d _ h.2 in channel_inside d _ i.1
wide_is d Pull w h = let i = headed_is (codes "pull") d _ h.2 in channel_inside d _ i.1

-- no width stands behind this head
abbrev Unwide : List ℕ → Datum → Type 0
Unwide head d = (w : ℕ) (at : Span) (more : List Datum) → headed head d ≡ Some (leaf (num w) at ∷ more) → ⊥

unwide_none : (head : List ℕ) (d : Datum) → headed head d ≡ None → Unwide head d
unwide_none head d h w at more is = absurd cc

-- what has none of the shapes of a channel
pub record NoChannel (d : Datum) : Type 0 where
  pub no_sync : IsSync d → ⊥
  pub no_push : Unwide (codes "push") d
  pub no_pull : Unwide (codes "pull") d
  pub told : channel d ≡ Err BadForm

pub not_wide : (d : Datum) (kind : ChanKind) (w : ℕ) → NoChannel d → IsWide d kind w → ⊥
not_wide d Sync w n h = h
not_wide d Push w n h = n.no_push w h.0 h.1 h.2
not_wide d Pull w n h = n.no_pull w h.0 h.1 h.2

-- A member of `channels` is a sync channel, or one of a width, or has none of the shapes.
abbrev pub ChannelView : Datum → Type 0
ChannelView d = IsSync d ⊎ (((kind : ChanKind) × (w : ℕ) × IsWide d kind w) ⊎ NoChannel d)

no_channel : (d : Datum) → headed (codes "sync") d ≡ None → Unwide (codes "push") d → Unwide (codes "pull") d → channel d ≡ Err BadForm → ChannelView d
no_channel d sync push pull told = inr (inr (record { no_sync = λ s. absurd (some_or_none sync s.1); no_push = push; no_pull = pull; told = told }))
  where
    some_or_none : {o : Option (List Datum)} {rest : List Datum} → o ≡ None → o ≡ Some rest → ⊥
    some_or_none e f = cc

-- behind this head, a width or something else
abbrev WidthView : List Datum → Type 0
WidthView rest = ((w : ℕ) × (at : Span) × (more : List Datum) × (rest ≡ leaf (num w) at ∷ more))
    ⊎ (((w : ℕ) (at : Span) (more : List Datum) → rest ≡ leaf (num w) at ∷ more → ⊥) × ((kind : ChanKind) → wide_channel kind rest ≡ Err BadForm))

width_view : (rest : List Datum) → WidthView rest
width_view [] = inr (λ w at more e. absurd cc, λ kind. refl)
width_view (leaf (num w) at ∷ more) = inl (w, at, more, refl)
width_view (leaf (truth b) at ∷ more) = inr (λ w at more e. absurd cc, λ kind. refl)
width_view (leaf (text t) at ∷ more) = inr (λ w at more e. absurd cc, λ kind. refl)
width_view (leaf (symbol t) at ∷ more) = inr (λ w at more e. absurd cc, λ kind. refl)
width_view (items es at ∷ more) = inr (λ w at more e. absurd cc, λ kind. refl)

pushes : (d : Datum) (span : Span) (rest : List Datum) → inside d ≡ Some (leaf (symbol (codes "push")) span ∷ rest) → WidthView rest → ChannelView d
pushes d span rest h (inl v) = inr (inl (Push, v.0, (v.1, v.2, headed_by (codes "push") d span rest h ∙ ap Some v.3)))
pushes d span rest h (inr v) =
    no_channel d (headed_not (codes "sync") (codes "push") d span rest h refl) (λ w at more is. v.0 w at more (some_same (sym (headed_by (codes "push") d span rest h) ∙ is)))
    (unwide_none (codes "pull") d (headed_not (codes "pull") (codes "push") d span rest h refl)) (channel_inside d _ h ∙ v.1 Push)

pulls : (d : Datum) (span : Span) (rest : List Datum) → inside d ≡ Some (leaf (symbol (codes "pull")) span ∷ rest) → WidthView rest → ChannelView d
pulls d span rest h (inl v) = inr (inl (Pull, v.0, (v.1, v.2, headed_by (codes "pull") d span rest h ∙ ap Some v.3)))
pulls d span rest h (inr v) =
    no_channel d (headed_not (codes "sync") (codes "pull") d span rest h refl) (unwide_none (codes "push") d (headed_not (codes "push") (codes "pull") d span rest h refl))
    (λ w at more is. v.0 w at more (some_same (sym (headed_by (codes "pull") d span rest h) ∙ is))) (channel_inside d _ h ∙ v.1 Pull)

channel_head : (d : Datum) (head : List ℕ) (span : Span) (rest : List Datum) → inside d ≡ Some (leaf (symbol head) span ∷ rest) → Word head (codes "sync") → Word head (codes "push") → Word head (codes "pull") → ChannelView d
channel_head d head span rest h (inl e) push pull =
    let here : inside d ≡ Some (leaf (symbol (codes "sync")) span ∷ rest) = h ∙ ap (λ name. Some (leaf (symbol name) span ∷ rest)) e in
    inl (rest, headed_by (codes "sync") d span rest here)
channel_head d head span rest h (inr n) (inl e) pull =
    let here : inside d ≡ Some (leaf (symbol (codes "push")) span ∷ rest) = h ∙ ap (λ name. Some (leaf (symbol name) span ∷ rest)) e in
    pushes d span rest here (width_view rest)
channel_head d head span rest h (inr n) (inr m) (inl e) =
    let here : inside d ≡ Some (leaf (symbol (codes "pull")) span ∷ rest) = h ∙ ap (λ name. Some (leaf (symbol name) span ∷ rest)) e in
    pulls d span rest here (width_view rest)
channel_head d head span rest h (inr n) (inr m) (inr k) =
    no_channel d (headed_not (codes "sync") head d span rest h n) (unwide_none (codes "push") d (headed_not (codes "push") head d span rest h m))
    (unwide_none (codes "pull") d (headed_not (codes "pull") head d span rest h k)) (channel_inside d _ h ∙ rw (n, m, k) refl)

headless : (d : Datum) (ds : List Datum) → inside d ≡ Some ds → ((head : List ℕ) → after_symbol head ds ≡ None) → listed_channel ds ≡ Err BadForm → ChannelView d
headless d ds h none told =
    let not : (head : List ℕ) → headed head d ≡ None = λ head. ap (option_and_then (after_symbol head)) h ∙ none head in
    no_channel d (not (codes "sync")) (unwide_none (codes "push") d (not (codes "push"))) (unwide_none (codes "pull") d (not (codes "pull"))) (channel_inside d ds h ∙ told)

channel_list : (d : Datum) (ds : List Datum) → inside d ≡ Some ds → ChannelView d
channel_list d (leaf (symbol head) span ∷ rest) h = channel_head d head span rest h (word head (codes "sync")) (word head (codes "push")) (word head (codes "pull"))
channel_list d ds h = headless d ds h (λ head. refl) refl

pub channel_view : (d : Datum) → ChannelView d
channel_view (leaf l span) = no_channel (leaf l span) refl (unwide_none (codes "push") (leaf l span) refl) (unwide_none (codes "pull") (leaf l span) refl) refl
channel_view (items ds span) = channel_list (items ds span) (list_of ds) refl
