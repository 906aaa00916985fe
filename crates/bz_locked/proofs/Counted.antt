-- Records and firings counted entry by entry.
use Rattle.std.proofs.Common.{cond, ◌≡◌, ◌≢◌, inl, inr, ℕ, ◌+◌, ◌-◌, ◌<◌, ◌≤◌, ◌&&◌, true, false, List, [], ◌∷◌, ◌++◌, length, take, get_or, set, slice_get, Some, refl, sym, ap, subst, ◌∙◌, arith}
use Rattle.std.proofs.lemmas.Bool.{cases_eq, eq-eqb, ne_eqb, and_left, and_right}
use Rattle.std.proofs.lemmas.Option.{slice_get_within, get_or_from_slice_get}
use Rattle.std.proofs.lemmas.List.{take_more, append-nil, get_or-set_same, get_or-set_other, length-set}
use Rattle.std.proofs.lemmas.List.Elements.{filter-append}
use Rattle.std.proofs.lemmas.List.Sums.{sum_by-append, count_by-le-length}
use Rattle.bz_model.specs.declared.event.Who.{Who}
use Rattle.bz_model.specs.declared.event.Who.TheVariants.{Host, Worker}
use Rattle.bz_model.specs.declared.event.Entry.{Entry}
use Rattle.bz_locked.specs.Journal.{who_of, same_who, is_fired, part_of, firings}
use Rattle.bz_locked.specs.Parts.{SessionView}
use Rattle.bz_locked.specs.Counting.{HaveMet, HaveFired}

-- an entry more, of this one or of another
part_more : (who : Who) (read : List Entry) (e : Entry) → same_who (who_of e) who ≡ true → part_of who (read ++ e ∷ []) ≡ part_of who read ++ e ∷ []
part_more who read e is = filter-append (λ x. same_who (who_of x) who) read (e ∷ []) ∙ ap (λ b. part_of who read ++ cond b (e ∷ []) []) is

part_still : (who : Who) (read : List Entry) (e : Entry) → same_who (who_of e) who ≡ false → part_of who (read ++ e ∷ []) ≡ part_of who read
part_still who read e is = filter-append (λ x. same_who (who_of x) who) read (e ∷ []) ∙ ap (λ b. part_of who read ++ cond b (e ∷ []) []) is ∙ append-nil (part_of who read)

-- whose it isn't
pub not_host : (e : Entry) (j k : ℕ) → who_of e ≡ Host j → j ≢ k → same_who (who_of e) (Host k) ≡ false
not_host e j k of differs = ap (λ w. same_who w (Host k)) of ∙ ne_eqb j k differs

pub no_host : (e : Entry) (j k : ℕ) → who_of e ≡ Worker j → same_who (who_of e) (Host k) ≡ false
no_host e j k of = ap (λ w. same_who w (Host k)) of

-- an entry of no session that has a place
pub met_still : (sessions : List SessionView) (read : List Entry) (met : List ℕ) (e : Entry) → ((k : ℕ) → k < length sessions → same_who (who_of e) (Host (k + 1)) ≡ false)
    → HaveMet sessions read met → HaveMet sessions (read ++ e ∷ []) met
met_still sessions read met e others have k s within is =
    let h = have k s within is in (
      h.0 ∙ sym (part_still (Host (k + 1)) read e (others k (slice_get_within sessions k s is))),
      h.1,
    )

-- an entry of the session at place n, whose record has it next
pub met_more : (sessions : List SessionView) (read : List Entry) (met : List ℕ) (e : Entry) (n : ℕ) (s : SessionView) → who_of e ≡ Host (n + 1) → slice_get sessions n ≡ Some s → n + 1 < length met
    → slice_get s.own (get_or met (n + 1) 0) ≡ Some e → HaveMet sessions read met → HaveMet sessions (read ++ e ∷ []) (set met (n + 1) (get_or met (n + 1) 0 + 1))
met_more sessions read met e n s of here inside has have k t within is =
    let at = get_or met (n + 1) 0 in
    let Fits : List Entry → ℕ → ℕ → Type 0 = λ own j m. (take m own ≡ part_of (Host (j + 1)) (read ++ e ∷ [])) × (m ≤ length own) in
    elim (cases_eq k n) [
      | inl same ↦
          let mine : same_who (who_of e) (Host (n + 1)) ≡ true = ap (λ w. same_who w (Host (n + 1))) of ∙ eq-eqb (n + 1) (n + 1) refl in
          let h = have n s inside here in
          let more = slice_get_within s.own at e has in
          let fits : Fits s.own n (at + 1) = (
            take_more s.own at e more ∙ ap (λ y. take at s.own ++ y ∷ []) (get_or_from_slice_get s.own at e e has) ∙ ap (λ l. l ++ e ∷ []) h.0 ∙ sym (part_more (Host (n + 1)) read e mine),
            omega (arith, more),
          ) in
          let counted : get_or (set met (n + 1) (at + 1)) (n + 1) 0 ≡ at + 1 = get_or-set_same met (n + 1) (at + 1) 0 inside in
          let one : slice_get sessions n ≡ Some t = ap (λ j. slice_get sessions j) (sym same) ∙ is in
          let who : Some s ≡ Some t = sym here ∙ one in
          let equal : s ≡ t = cc who in
          let fits2 : Fits s.own n (get_or (set met (n + 1) (at + 1)) (n + 1) 0) = subst (λ m. Fits s.own n m) (sym counted) fits in
          let fits3 : Fits t.own n (get_or (set met (n + 1) (at + 1)) (n + 1) 0) = subst (λ (x : SessionView). Fits x.own n (get_or (set met (n + 1) (at + 1)) (n + 1) 0)) equal fits2 in
          subst (λ j. Fits t.own j (get_or (set met (n + 1) (at + 1)) (j + 1) 0)) (sym same) fits3
      | inr differs ↦
          let h = have k t (omega (arith, within, length-set met (n + 1) (at + 1))) is in
          let other : get_or (set met (n + 1) (at + 1)) (k + 1) 0 ≡ get_or met (k + 1) 0 = get_or-set_other met (n + 1) (k + 1) (at + 1) 0 (λ e2. differs (omega (arith, e2))) in
          let fits : Fits t.own k (get_or met (k + 1) 0) = (h.0 ∙ sym (part_still (Host (k + 1)) read e (not_host e (n + 1) (k + 1) of (λ e2. differs (omega (arith, e2))))), h.1) in
          subst (λ m. Fits t.own k m) (sym other) fits
    ]

-- the same, by the session's number
pub met_next : (sessions : List SessionView) (read : List Entry) (met : List ℕ) (e : Entry) (m : ℕ) (s : SessionView) → 0 < m → who_of e ≡ Host m → slice_get sessions (m - 1) ≡ Some s → m < length met
    → slice_get s.own (get_or met m 0) ≡ Some e → HaveMet sessions read met → HaveMet sessions (read ++ e ∷ []) (set met m (get_or met m 0 + 1))
met_next sessions read met e m s more of here inside has have =
    let same : (m - 1) + 1 ≡ m = omega (arith, more) in
    let Next : ℕ → Type 0 = λ j. who_of e ≡ Host j → j < length met → slice_get s.own (get_or met j 0) ≡ Some e → HaveMet sessions (read ++ e ∷ []) (set met j (get_or met j 0 + 1)) in
    subst Next same (λ of2 inside2 has2. met_more sessions read met e (m - 1) s of2 here inside2 has2 have) of inside has

-- a firing more of this one, or of another
firings_more : (who : Who) (read : List Entry) (e : Entry) → firings who (read ++ e ∷ []) ≡ firings who read + cond (same_who (who_of e) who && is_fired e) 1 0
firings_more who read e =
    let f : Entry → ℕ = λ x. cond (same_who (who_of x) who && is_fired x) 1 0 in
    let both = sum_by-append f read (e ∷ []) in
    omega (arith, both)

-- an entry that is no firing of a worker
pub fired_still : (read : List Entry) (fired : List ℕ) (e : Entry) → ((k : ℕ) → same_who (who_of e) (Worker k) && is_fired e ≡ false) → HaveFired read fired → HaveFired (read ++ e ∷ []) fired
fired_still read fired e others have k within =
    let more = firings_more (Worker k) read e ∙ ap (λ b. firings (Worker k) read + cond b 1 0) (others k) in
    let h = have k within in
    omega (arith, more, h)

pub no_worker : (e : Entry) (j k : ℕ) → who_of e ≡ Host j → same_who (who_of e) (Worker k) && is_fired e ≡ false
no_worker e j k of = ap (λ w. same_who w (Worker k) && is_fired e) of

pub no_firing : (e : Entry) (k : ℕ) → is_fired e ≡ false → same_who (who_of e) (Worker k) && is_fired e ≡ false
no_firing e k lacks = and_right (same_who (who_of e) (Worker k)) (is_fired e) lacks

-- a firing of worker n
pub fired_more : (read : List Entry) (fired : List ℕ) (e : Entry) (n m : ℕ) → who_of e ≡ Worker n → is_fired e ≡ true → n < length fired → m ≡ get_or fired n 0 + 1
    → HaveFired read fired → HaveFired (read ++ e ∷ []) (set fired n m)
fired_more read fired e n m of is inside one have k within =
    elim (cases_eq k n) [
      | inl same ↦
          let mine : same_who (who_of e) (Worker n) && is_fired e ≡ true = ap (λ w. same_who w (Worker n) && is_fired e) of ∙ ap (λ b. b && is_fired e) (eq-eqb n n refl) ∙ is in
          let more = firings_more (Worker n) read e ∙ ap (λ b. firings (Worker n) read + cond b 1 0) mine in
          let h = have n inside in
          let counted = get_or-set_same fired n m 0 inside in
          let here : get_or (set fired n m) n 0 ≡ firings (Worker n) (read ++ e ∷ []) = omega (arith, more, h, counted, one) in
          subst (λ j. get_or (set fired n m) j 0 ≡ firings (Worker j) (read ++ e ∷ [])) (sym same) here
      | inr differs ↦
          let other = get_or-set_other fired n k m 0 differs in
          let apart : same_who (who_of e) (Worker k) && is_fired e ≡ false = and_left (same_who (who_of e) (Worker k)) (is_fired e) (ap (λ w. same_who w (Worker k)) of ∙ ne_eqb n k (λ x. differs (sym x))) in
          let more = firings_more (Worker k) read e ∙ ap (λ b. firings (Worker k) read + cond b 1 0) apart in
          let h = have k (omega (arith, within, length-set fired n m)) in
          omega (arith, other, more, h)
    ]

-- no more firings than entries
pub fired_within : (read : List Entry) (fired : List ℕ) (n : ℕ) → n < length fired → HaveFired read fired → get_or fired n 0 ≤ length read
fired_within read fired n inside have =
    let h = have n inside in
    let few = count_by-le-length (λ x. same_who (who_of x) (Worker n) && is_fired x) read in
    omega (arith, h, few)

-- nothing was read, and nothing is counted
pub met_none : (sessions : List SessionView) (met : List ℕ) → ((k : ℕ) → k < length met → get_or met k 0 ≡ 0) → HaveMet sessions [] met
met_none sessions met none k s within is =
    let zero_is = none (k + 1) within in (
      ap (λ m. take m s.own) zero_is,
      omega (arith, zero_is),
    )

pub fired_none : (fired : List ℕ) → ((k : ℕ) → k < length fired → get_or fired k 0 ≡ 0) → HaveFired [] fired
fired_none fired none k within = none k within
