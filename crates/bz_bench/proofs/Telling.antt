-- What one entry more tells of ports.
use Rattle.std.proofs.Common.{◌≡◌, ◌≢◌, ◌⊎◌, ℕ, zero, suc, ◌<◌, Bool, true, false, nat_eq, Option, Some, List, [], ◌∷◌, ◌++◌, length, get_or, set, refl, sym, ap, subst, ◌∙◌, arith, inl, inr}
use Rattle.std.specs.Prelude.{if◌then◌else◌, slice_get}
use Rattle.std.specs.List.{All, flat_map}
use Rattle.std.proofs.lemmas.List.Elements.{All-get_or, All-push}
use Rattle.std.proofs.lemmas.Bool.{ne_eqb}
use Rattle.std.proofs.lemmas.Bool.Decides.{eqb_tells}
use Rattle.std.proofs.lemmas.List.{append-nil, flat_map_more, get_or-set_same, get_or-set_other, length-set}
use Rattle.std.proofs.lemmas.Option.{get_or_from_slice_get, slice_get-get_or, slice_get_within}
use Rattle.bz_model.specs.declared.event.Entry.{Entry}
use Rattle.bz_model.specs.declared.event.Entry.TheVariants.{Host}
use Rattle.bz_model.specs.declared.event.Reply.{Reply}
use Rattle.bz_model.specs.declared.event.Verb.{Verb}
use Rattle.bz_model.specs.declared.event.Who.{Who}
use Rattle.bz_bench.specs.Streams.{begins, begun, carried, ended, ends, shown}
use Rattle.bz_bench.specs.Tallies.{IsTally, Tells}
use Rattle.bz_bench.specs.declared.tally.Tally.{Tally}

one_more : (of : Verb → Bool) (port : ℕ) (es : List Entry) (e : Entry) → flat_map (shown of port) (es ++ e ∷ []) ≡ flat_map (shown of port) es ++ shown of port e
one_more of port es e = sym (flat_map_more (shown of port) [] es e)

-- an entry that shows nothing
nothing_more : (of : Verb → Bool) (port : ℕ) (es : List Entry) (e : Entry) → shown of port e ≡ [] → flat_map (shown of port) (es ++ e ∷ []) ≡ flat_map (shown of port) es
nothing_more of port es e none = one_more of port es e ∙ ap (λ xs. flat_map (shown of port) es ++ xs) none ∙ append-nil (flat_map (shown of port) es)

pub tally_stays : (port : ℕ) (es : List Entry) (e : Entry) (t : Tally) → shown begins port e ≡ [] → shown ends port e ≡ [] → IsTally port es t → IsTally port (es ++ e ∷ []) t
tally_stays port es e t b n is = record {
  begun_is = is.begun_is ∙ sym (nothing_more begins port es e b);
  ended_is = is.ended_is ∙ sym (nothing_more ends port es e n);
}

pub told_nothing : (es : List Entry) (e : Entry) (ts : List Tally) → ((of : Verb → Bool) (port : ℕ) → shown of port e ≡ []) → Tells es ts → Tells (es ++ e ∷ []) ts
told_nothing es e ts none told port t is = tally_stays port es e t (none begins port) (none ends port) (told port t is)

-- a word that was not done shows nothing, nor does one at another port
shown_undone : (of : Verb → Bool) (port q : ℕ) (who : Who) (verb : Verb) (given : Option ℕ) (reply : Reply) → carried given reply ≡ [] → shown of q (Host who verb port given reply) ≡ []
shown_undone of port q who verb given reply none = by (nat_eq port q) (of verb)
  where
    by : (same is : Bool) → (if same then (if is then carried given reply else []) else []) ≡ []
    by true true = none
    by true false = refl
    by false is = refl

pub told_undone : (es : List Entry) (ts : List Tally) (who : Who) (verb : Verb) (port : ℕ) (given : Option ℕ) (reply : Reply) → carried given reply ≡ [] → Tells es ts → Tells (es ++ Host who verb port given reply ∷ []) ts
told_undone es ts who verb port given reply none told =
    told_nothing es (Host who verb port given reply) ts (λ of q. shown_undone of port q who verb given reply none) told

shown_other : (of : Verb → Bool) (port q : ℕ) (who : Who) (verb : Verb) (given : Option ℕ) (reply : Reply) → port ≢ q → shown of q (Host who verb port given reply) ≡ []
shown_other of port q who verb given reply ne = ap (λ (b : Bool). if b then (if of verb then carried given reply else []) else []) (ne_eqb port q ne)

shown_here : (of : Verb → Bool) (port : ℕ) (who : Who) (verb : Verb) (given : Option ℕ) (reply : Reply) → shown of port (Host who verb port given reply) ≡ (if of verb then carried given reply else [])
shown_here of port who verb given reply = elim (eqb_tells port port) [
  | inl is ↦ ap (λ (b : Bool). if b then (if of verb then carried given reply else []) else []) is.0
  | inr other ↦ absurd (other.1 refl)
]

-- a word outside of the ports that are told of
pub told_outside : (es : List Entry) (ts : List Tally) (who : Who) (verb : Verb) (port : ℕ) (given : Option ℕ) (reply : Reply) → ((port ≡ 0) ⊎ (length ts < port)) → Tells es ts → Tells (es ++ Host who verb port given reply ∷ []) ts
told_outside es ts who verb port given reply out told zero t is = cc
told_outside es ts who verb port given reply out told (suc k) t is =
    let lt = slice_get_within ts k t is in
    let ne : port ≢ suc k = λ e. elim out [ inl z ↦ omega (arith, z, e) | inr past ↦ omega (arith, past, e, lt) ] in
    tally_stays (suc k) es (Host who verb port given reply) t (shown_other begins port (suc k) who verb given reply ne) (shown_other ends port (suc k) who verb given reply ne) (told (suc k) t is)

-- a word that was done at port i + 1
pub told_more : (es : List Entry) (ts : List Tally) (who : Who) (verb : Verb) (port i : ℕ) (given : Option ℕ) (reply : Reply) (old t : Tally)
    → port ≡ suc i → i < length ts → old ≡ get_or ts i old
    → t.begun.items ≡ old.begun.items ++ (if begins verb then carried given reply else [])
    → t.ended.items ≡ old.ended.items ++ (if ends verb then carried given reply else [])
    → Tells es ts → Tells (es ++ Host who verb port given reply ∷ []) (set ts i t)
told_more es ts who verb port i given reply old t at lt was begun_is ended_is told zero x is = cc
told_more es ts who verb port i given reply old t at lt was begun_is ended_is told (suc k) x is = elim (eqb_tells k i) [
  | inl same ↦
      let e : port ≡ suc k = at ∙ ap suc (sym same.1) in
      let there : t ≡ x = sym (get_or-set_same ts i t t lt) ∙ ap (λ n. get_or (set ts i t) n t) (sym same.1) ∙ get_or_from_slice_get (set ts i t) k x t is in
      let before : IsTally (suc k) es old = told (suc k) old (ap (λ n. slice_get ts n) same.1 ∙ slice_get-get_or ts i old lt ∙ ap Some (sym was)) in
      subst (IsTally (suc k) (es ++ Host who verb port given reply ∷ [])) there
      (subst (λ n. IsTally (suc k) (es ++ Host who verb n given reply ∷ []) t) (sym e) (record {
        begun_is = begun_is ∙ ap (λ xs. xs ++ (if begins verb then carried given reply else [])) before.begun_is
            ∙ ap (λ xs. begun (suc k) es ++ xs) (sym (shown_here begins (suc k) who verb given reply)) ∙ sym (one_more begins (suc k) es (Host who verb (suc k) given reply));
        ended_is = ended_is ∙ ap (λ xs. xs ++ (if ends verb then carried given reply else [])) before.ended_is
            ∙ ap (λ xs. ended (suc k) es ++ xs) (sym (shown_here ends (suc k) who verb given reply)) ∙ sym (one_more ends (suc k) es (Host who verb (suc k) given reply));
      }))
  | inr other ↦
      let ne : port ≢ suc k = λ e. other.1 (omega (arith, e, at)) in
      let here = slice_get_within (set ts i t) k x is in
      let same : slice_get ts k ≡ Some x = slice_get-get_or ts k x (let n = length-set ts i t in omega (arith, here, n)) ∙ ap Some (sym (get_or-set_other ts i k t x other.1) ∙ get_or_from_slice_get (set ts i t) k x x is) in
      tally_stays (suc k) es (Host who verb port given reply) x (shown_other begins port (suc k) who verb given reply ne) (shown_other ends port (suc k) who verb given reply ne) (told (suc k) x same)
]

-- before all entries nothing has passed
pub record IsEmpty (t : Tally) : Type 0 where
  pub begun : t.begun.items ≡ []
  pub ended : t.ended.items ≡ []

pub empty_push : (ts : List Tally) (t : Tally) → All IsEmpty ts → t.begun.items ≡ [] → t.ended.items ≡ [] → All IsEmpty (ts ++ t ∷ [])
empty_push ts t all b e = All-push IsEmpty ts t all (record { begun = b; ended = e })

pub told_none : (ts : List Tally) → All IsEmpty ts → Tells [] ts
told_none ts all zero x is = cc
told_none ts all (suc k) x is =
    let empty : IsEmpty x = subst IsEmpty (get_or_from_slice_get ts k x x is) (All-get_or IsEmpty ts k x (slice_get_within ts k x is) all) in
    record { begun_is = empty.begun; ended_is = empty.ended }
