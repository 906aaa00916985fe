-- A component at which requests may meet is noted, or no channel to it is busy but the one on which it was asked last.
use Rattle.std.proofs.Common.{◌≡◌, ◌≢◌, ◌⊎◌, ◌↔◌, inl, inr, ℕ, zero, suc, ◌-◌, ◌<◌, ◌≤◌, true, false, List, length, get_or, set, replicate, Contains, Some, None, sym, ap, subst, ◌∙◌, arith, refl, get_or-set_same, get_or-set_other}
use Rattle.std.proofs.lemmas.Bool.{cases_eq, false≢true}
use Rattle.bz_model.specs.declared.channel.Move.{Move}
use Rattle.bz_model.specs.declared.channel.Move.TheVariants as move
use Rattle.bz_model.specs.declared.channel.Phase.{Phase}
use Rattle.bz_model.specs.declared.channel.Phase.TheVariants.{Idle}
use Rattle.bz_model.specs.Nets.{Site, chan_at, site_at}
use Rattle.bz_model.specs.Clashes.{IsAsked, Clashes, is_mixer, phase_of}
use Rattle.bz_net.specs.Keeping.{ReadsChans}
use Rattle.bz_net.specs.Noted.{Notes, HoldsPassive, IsHolder, HasSoleEnds, NoneMixes, Watches, WatchesBut, NotedAt, NotedMove, AskedBefore, asked_last}

unwrap : {a b : ℕ} → Some a ≡ Some b → a ≡ b
unwrap e = cc

-- a passive port that is asked holds the passive end of its channel
holding : (sites : List Site) (phases : List Phase) (c p k : ℕ) → IsAsked sites phases c p → chan_at sites c p ≡ k → HoldsPassive sites k c
holding sites phases c p k asked on = (p, record { is_port = asked.is_port; on = on; sense = asked.passive })

module _ (sites : List Site) (phases : List Phase) where
  -- then all at which requests meet are noted
  all_noted : (notes : Notes) → HasSoleEnds sites → Watches sites phases notes → (c : ℕ) → Clashes sites phases c → Contains notes.numbers c
  all_noted notes ends watches c x = elim (watches.sole c x.one x.mixes x.first) [
    | inl has ↦ has
    | inr one ↦ elim (watches.sole c x.other x.mixes x.second) [
      | inl has ↦ has
      | inr other ↦ absurd (x.apart (ends c x.one x.other x.first.is_port x.second.is_port (one ∙ sym other) (x.first.passive ∙ sym x.second.passive)))
    ]
  ]

  notes_at : (old new : Notes) (k : ℕ) → HasSoleEnds sites → new.most ≡ old.most → new.listed ≡ old.listed → ((c : ℕ) → Contains old.numbers c → Contains new.numbers c) → ((c : ℕ) → Contains new.numbers c → Contains old.numbers c ⊎ (HoldsPassive sites k c × Clashes sites phases c)) → Watches sites phases new → NotedAt sites phases old new k
  notes_at old new k ends most listed keeps adds watches = record {
    most = most;
    listed = listed;
    adds = λ c. (
      λ has. adds c has,
      λ either. elim either [
        | inl was ↦ keeps c was
        | inr met ↦ all_noted new ends watches c met.1
      ],
    );
    watches = watches;
  }

  -- no number was added
  notes_same : (old new : Notes) (k : ℕ) → HasSoleEnds sites → new.most ≡ old.most → new.listed ≡ old.listed → new.numbers ≡ old.numbers → Watches sites phases new → NotedAt sites phases old new k
  notes_same old new k ends most listed same watches =
      notes_at old new k ends most listed (λ c was. subst (λ (l : List ℕ). Contains l c) (sym same) was) (λ c has. inl (subst (λ (l : List ℕ). Contains l c) same has)) watches

  module _ (k : ℕ) (old : Notes) (ends : HasSoleEnds sites) (but : WatchesBut k sites phases old) where
    -- no component at which requests may meet is at the passive end of channel k
    pub noted_none : ((c : ℕ) → HoldsPassive sites k c → is_mixer (site_at sites c).kind ≡ true → ⊥) → NotedAt sites phases old old k
    noted_none none = notes_same old old k ends refl refl refl (record {
      held = but.held;
      sole = λ c p mixes asked. elim (cases_eq (chan_at sites c p) k) [
        | inl on ↦ absurd (none c (holding sites phases c p k asked on) mixes)
        | inr off ↦ but.sole c p mixes asked off
      ];
    })

    pub noted_nobody : IsHolder sites k None → NotedAt sites phases old old k
    noted_nobody holder = noted_none (λ c holds mixes. absurd (nobody c (holder.finds c holds)))
      where
        nobody : (c : ℕ) → None ≡ Some c → ⊥
        nobody c e = cc

    pub noted_plain : (comp : ℕ) → IsHolder sites k (Some comp) → is_mixer (site_at sites comp).kind ≡ false → NotedAt sites phases old old k
    noted_plain comp holder plain =
        noted_none (λ c holds mixes. false≢true (sym plain ∙ ap (λ d. is_mixer (site_at sites d).kind) (unwrap (holder.finds c holds)) ∙ mixes))

    -- it isn't busy
    pub noted_idle : phase_of phases k ≡ Idle → NotedAt sites phases old old k
    noted_idle idle = notes_same old old k ends refl refl refl (record {
      held = but.held;
      sole = λ c p mixes asked. but.sole c p mixes asked (λ on. asked.busy (ap (phase_of phases) on ∙ idle));
    })

    module _ (comp : ℕ) (holder : IsHolder sites k (Some comp)) where
      only : (c : ℕ) → HoldsPassive sites k c → c ≡ comp
      only c holds = sym (unwrap (holder.finds c holds))

      -- two channels to it are busy
      meets : (j : ℕ) → is_mixer (site_at sites comp).kind ≡ true → HoldsPassive sites k comp → HoldsPassive sites j comp → k ≢ j → phase_of phases k ≢ Idle → phase_of phases j ≢ Idle → Clashes sites phases comp
      meets j mixes (p, here) (q, there) apart busy other = record {
        mixes = mixes;
        one = p;
        other = q;
        apart = λ e. apart (sym here.on ∙ ap (chan_at sites comp) e ∙ there.on);
        first = record { is_port = here.is_port; passive = here.sense; busy = λ idle. busy (ap (phase_of phases) (sym here.on) ∙ idle) };
        second = record { is_port = there.is_port; passive = there.sense; busy = λ idle. other (ap (phase_of phases) (sym there.on) ∙ idle) };
      }

      -- the one asked last is busy too: the component is noted
      pub noted_met : (new : Notes) → 0 < comp → is_mixer (site_at sites comp).kind ≡ true → 0 < asked_last old.asked comp → k ≢ asked_last old.asked comp → phase_of phases k ≢ Idle → phase_of phases (asked_last old.asked comp) ≢ Idle → new.most ≡ old.most → new.listed ≡ old.listed → new.asked ≡ old.asked → ((c : ℕ) → Contains new.numbers c ↔ (Contains old.numbers c ⊎ (c ≡ comp))) → NotedAt sites phases old new k
      noted_met new from mixes has apart busy other most listed same adds =
          notes_at old new k ends most listed (λ c was. (adds c).1 (inl was))
          (λ c now. elim ((adds c).0 now) [
            | inl was ↦ inl was
            | inr is ↦ inr (subst (λ d. HoldsPassive sites k d × Clashes sites phases d) (sym is) (here, meets (asked_last old.asked comp) mixes here (but.held comp from has) apart busy other))
          ])
          (record {
            held = λ c up some. subst (λ (a : List ℕ). HoldsPassive sites (asked_last a c) c) (sym same) (but.held c up (subst (λ (a : List ℕ). 0 < asked_last a c) same some));
            sole = λ c p mixer asked. elim (cases_eq (chan_at sites c p) k) [
              | inl on ↦ inl ((adds c).1 (inr (only c (holding sites phases c p k asked on))))
              | inr off ↦ elim (but.sole c p mixer asked off) [
                | inl was ↦ inl ((adds c).1 (inl was))
                | inr is ↦ inr (is ∙ ap (λ (a : List ℕ). asked_last a c) (sym same))
              ]
            ];
          })
        where
          here : HoldsPassive sites k comp
          here = holder.holds comp refl

      module _ (from : 0 < comp) (to : comp ≤ length old.asked) where
        own : (c : ℕ) → c ≡ comp → asked_last (set old.asked (comp - 1) k) c ≡ k
        own c is = ap (asked_last (set old.asked (comp - 1) k)) is ∙ get_or-set_same old.asked (comp - 1) k 0 (omega arith)

        others : (c : ℕ) → 0 < c → c ≢ comp → asked_last (set old.asked (comp - 1) k) c ≡ asked_last old.asked c
        others c up apart = get_or-set_other old.asked (comp - 1) (c - 1) k 0 (λ e. apart (omega arith))

        -- no other than k is busy, where the one asked last isn't: k is the one asked last
        put : ((p : ℕ) → IsAsked sites phases comp p → chan_at sites comp p ≢ k → chan_at sites comp p ≡ asked_last old.asked comp → ⊥) → NotedAt sites phases old (record old { asked = set old.asked (comp - 1) k }) k
        put free = notes_same old (record old { asked = set old.asked (comp - 1) k }) k ends refl refl refl (record {
          held = λ c up some. elim (cases_eq c comp) [
            | inl is ↦ subst (λ j. HoldsPassive sites j c) (sym (own c is)) (subst (HoldsPassive sites k) (sym is) (holder.holds comp refl))
            | inr apart ↦ subst (λ j. HoldsPassive sites j c) (sym (others c up apart)) (but.held c up (subst (λ j. 0 < j) (others c up apart) some))
          ];
          sole = λ c p mixer asked. elim (cases_eq (chan_at sites c p) k) [
            | inl on ↦ inr (on ∙ sym (own c (only c (holding sites phases c p k asked on))))
            | inr off ↦ elim (but.sole c p mixer asked off) [
              | inl was ↦ inl was
              | inr last ↦ elim (cases_eq c comp) [
                | inl is ↦ absurd (subst (λ d. (q : ℕ) → IsAsked sites phases d q → chan_at sites d q ≢ k → chan_at sites d q ≡ asked_last old.asked d → ⊥) (sym is) free p asked off last)
                | inr apart ↦ inr (last ∙ sym (others c asked.is_port.comp_from apart))
              ]
            ]
          ];
        })

        pub noted_first : ReadsChans sites phases → asked_last old.asked comp ≡ 0 → NotedAt sites phases old (record old { asked = set old.asked (comp - 1) k }) k
        noted_first reads never = put (λ p asked off last. let up = reads.chan_from comp p asked.is_port in omega (arith, up, last, never))

        pub noted_again : asked_last old.asked comp ≡ k → NotedAt sites phases old (record old { asked = set old.asked (comp - 1) k }) k
        noted_again same = put (λ p asked off last. off (last ∙ same))

        pub noted_next : phase_of phases (asked_last old.asked comp) ≡ Idle → NotedAt sites phases old (record old { asked = set old.asked (comp - 1) k }) k
        noted_next idle = put (λ p asked off last. asked.busy (ap (phase_of phases) last ∙ idle))

-- after a move too
pub watches_after : (sites : List Site) (phases phases' : List Phase) (old new : Notes) (k : ℕ) (mv : Move) → Watches sites phases old → AskedBefore sites phases phases' mv → NotedMove sites phases' old new k mv → Watches sites phases' new
watches_after sites phases phases' old new k mv watches before noted = by mv before noted
  where
    later : ((c p : ℕ) → IsAsked sites phases' c p → IsAsked sites phases c p) → new ≡ old → Watches sites phases' new
    later was same = subst (Watches sites phases') (sym same) (record { held = watches.held; sole = λ c p mixes asked. watches.sole c p mixes (was c p asked) })

    by : (m : Move) → AskedBefore sites phases phases' m → NotedMove sites phases' old new k m → Watches sites phases' new
    by move.Ask was is = is.watches
    by move.Take was is = later was is
    by move.Reply was is = later was is
    by move.Got was is = later was is

-- where requests meet nowhere there is nothing to watch
pub noted_nowhere : (sites : List Site) (phases : List Phase) (notes : Notes) (k : ℕ) → NoneMixes sites → WatchesBut k sites phases notes → NotedAt sites phases notes notes k
noted_nowhere sites phases notes k none but = record {
  most = refl;
  listed = refl;
  adds = λ c. (
    λ has. inl has,
    λ either. elim either [
      | inl was ↦ was
      | inr met ↦ absurd (plain c met.1.one met.1.first met.1.mixes)
    ],
  );
  watches = record { held = but.held; sole = λ c p mixes asked. absurd (plain c p asked mixes) };
}
  where
    plain : (c p : ℕ) → IsAsked sites phases c p → is_mixer (site_at sites c).kind ≡ true → ⊥
    plain c p asked mixes = false≢true (sym (none c asked.is_port.comp_from asked.is_port.comp_to) ∙ mixes)

-- at the opening no component was asked
abbrev zeros : ℕ → List ℕ
zeros n = replicate n 0

none_asked : (n i : ℕ) → get_or (zeros n) i 0 ≡ 0
none_asked zero i = refl
none_asked (suc n) zero = refl
none_asked (suc n) (suc i) = none_asked n i

pub watches_first : (sites : List Site) (phases : List Phase) (notes : Notes) (n : ℕ) → notes.asked ≡ zeros n → ((k : ℕ) → phase_of phases k ≡ Idle) → Watches sites phases notes
watches_first sites phases notes n none idle = record {
  held = λ c from has.
      let never : asked_last notes.asked c ≡ 0 = ap (λ (a : List ℕ). asked_last a c) none ∙ none_asked n (c - 1) in
      absurd (omega (arith, never, has));
  sole = λ c p mixes asked. absurd (asked.busy (idle (chan_at sites c p)));
}
