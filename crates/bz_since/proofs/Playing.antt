-- Entries that are played, and where they lead.
use Rattle.std.proofs.Common.{◌≡◌, ℕ, ◌+◌, ◌<◌, List, [], ◌∷◌, ◌++◌, length, map, take, get_or, refl, sym, subst, ◌∙◌}
use Rattle.std.proofs.lemmas.List.{take_more}
use Rattle.bz_model.specs.declared.event.Entry.{Entry}
use Rattle.bz_model.specs.Entries.{told}
use Rattle.bz_model.specs.Nets.{Wiring, State, opening}
use Rattle.bz_model.specs.Runs.{Follows, Run}
use Rattle.bz_net.specs.Simulation.{Simulation}
use Rattle.bz_trace.proofs.Along.{last_of, no_nil, run_pop}
use Rattle.bz_since.specs.Halving.{EndsIn, Goes, LeadsOn}

told_nil : (es : List Entry) → map told es ≡ [] → es ≡ []
told_nil [] e = refl
told_nil (x ∷ es) e = absurd (no_nil _ _ (sym e))

pub ends_start : (w : Wiring) (s : State) → s ≡ opening w → EndsIn w [] s
ends_start w s at es t alike run = subst (λ xs. Run w (opening w) xs t) (told_nil es alike) run ∙ sym at

pub ends_more : (w : Wiring) (old new : Simulation) (before : List Entry) (entry : Entry) → old.wiring ≡ w → EndsIn w before old.state → Goes old entry new → EndsIn w (before ++ entry ∷ []) new.state
ends_more w old new before entry is ends goes es t alike run =
    let l = last_of es before entry alike in
    let (m, front, after) = run_pop w (opening w) l.front l.last t (subst (λ xs. Run w (opening w) xs t) l.is run) in
    let same = ends l.front m l.alike front in
    goes.sole l.last t l.last_alike (subst (λ (v : Wiring). Follows v old.state l.last t) (sym is) (subst (λ (o : State). Follows w o l.last t) same after))

pub leads_start : (entries : List Entry) (from : ℕ) (net : Simulation) → LeadsOn entries from from net net
leads_start entries from net = record { wiring = refl; limit = refl; ends = λ ends. ends }

pub leads_more : (entries : List Entry) (from place : ℕ) (d : Entry) (old mid new : Simulation) → place < length entries → LeadsOn entries from place old mid → Goes mid (get_or entries place d) new → LeadsOn entries from (place + 1) old new
leads_more entries from place d old mid new in_range led goes = record {
  wiring = goes.wiring ∙ led.wiring;
  limit = goes.limit ∙ led.limit;
  ends = λ before.
      subst (λ (es : List Entry). EndsIn old.wiring es new.state) (sym (take_more entries place d in_range))
      (ends_more old.wiring mid new (take place entries) (get_or entries place d) led.wiring (led.ends before) goes);
}
