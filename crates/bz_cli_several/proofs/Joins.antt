-- Pieces that go on one after another.
use Rattle.std.specs.Bool.{⊤}
use Rattle.std.proofs.Common.{◌≡◌, ◌≢◌, ◌⊎◌, ℕ, suc, ◌<◌, ◌≤◌, Bor, Bool, true, false, if◌then◌else◌, List, [], ◌∷◌, ◌++◌, Option, Some, None, Result, Ok, Err, inl, inr, refl, sym, ap, subst, ◌∙◌, append_assoc, arith, drop, get_or, length, take}
use Rattle.std.proofs.lemmas.List.{map-append, take_all}
use Rattle.std.specs.Prelude.{IfSome, IfOk, IfErr, OnOk}
use Rattle.std.proofs.KnownBytes.{Keeps-refl}
use Rattle.bz_words.specs.Words.{texts}
use Rattle.bz_model.specs.declared.event.Entry.{Entry}
use Rattle.bz_model.specs.Nets.{Wiring}
use Rattle.bz_net.specs.Progress.{IsToldBy, Progress}
use Rattle.bz_trace_text.specs.declared.tally.Counts.{Counts}
use Rattle.bz_trace.specs.Pieces.{IsBehind, StandsSomewhere}
use Rattle.bz_trace.proofs.Along.{behind_start}
use Rattle.bz_trace.specs.declared.checking.Verdict.TheVariants as verdict
use Rattle.bz_cli_input.specs.Stopping.{IsOfInput}
use Rattle.bz_cli_input.specs.declared.fault.Fault.{Fault}
use Rattle.bz_cli_input.specs.declared.fault.Fault.TheVariants as fault
use Rattle.bz_cli_trace.specs.Judging.{is_passed}
use Rattle.bz_cli_trace.specs.Telling.{TellsVerdict, verdict_text}
use Rattle.bz_cli_trace.specs.declared.finding.Finding.{Finding}
use Rattle.bz_cli_several.specs.declared.joining.Next.{Next}
use Rattle.bz_cli_several.specs.declared.joining.Next.TheVariants.{Ends}
use Rattle.bz_cli_several.specs.Fates.{front_text, unread_text}
use Rattle.bz_cli_several.specs.Holding.{Asked, IsOf}
use Rattle.bz_cli_several.specs.Joined.{ChecksJoined, ChecksNext, EndsAmong, EndsAt, FollowsOn, GoesFrom, IsNextFound, IsUnreadPiece, TellsJoined, TellsLine, TellsRun, none, sum}
use Rattle.bz_cli_several.specs.Sending.{IsLate, SendsText}
use Rattle.bz_cli_several.proofs.Lines.{named_at}
use Rattle.bz_cli_several.proofs.Told.{input_cause, late_cause, verdict_cut, verdict_sent}

-- one piece more
pub follows_more : (w : Wiring) (read : List ℕ → Option (List ℕ)) (past : List Entry) (counts : Counts) (names : List (List ℕ)) (all : List Entry) (total : Counts) (name : List ℕ) (next : List Entry) (more : Counts) → FollowsOn w read past counts names all total
    → IfSome (read name) (GoesFrom w all next more) → FollowsOn w read past counts (names ++ name ∷ []) next (sum total more)
follows_more w read past counts [] all total name next more (same, so) goes =
    (next, more, subst (λ es. IfSome (read name) (GoesFrom w es next more)) same goes, (refl, ap (λ c. sum c more) so))
follows_more w read past counts (n ∷ names) all total name next more (mid, few, first, rest) goes =
    (mid, few, first, follows_more w read mid (sum counts few) names all total name next more rest goes)

-- the net stands behind it
pub goes_next : (asked : Asked) (w : Wiring) (past : List Entry) (text : Option (List ℕ)) (net : Progress) (found : Finding) → found.verdict ≡ verdict.Run → IsNextFound asked w past text false net found → net.wiring ≡ w → StandsSomewhere net
    → (next : List Entry) × IfSome text (GoesFrom w past next found.counts) × IsBehind w net next
goes_next asked w past None net found run is same (next, behind) = (next, tt, subst (λ v. IsBehind v net next) same behind)
goes_next asked w past (Some text) net found run is same stands =
    let over = is.goes_on run in
    (past ++ over.piece.trace.entries, record { piece = over.piece; tells = over.tells; next_is = refl }, over.behind)

-- the pieces of these names go on one after another, and the net stands behind them
pub record GoneSo (asked : Asked) (read : List ℕ → Option (List ℕ)) (names : List (List ℕ)) (net : Progress) (counts : Counts) : Type 0 where
  pub is : IsOf asked net.wiring
  pub past : List Entry
  pub behind : IsBehind net.wiring net past
  pub follows : FollowsOn net.wiring read [] none names past counts

pub gone_none : (asked : Asked) (read : List ℕ → Option (List ℕ)) (net : Progress) → IsOf asked net.wiring → IsToldBy net [] → GoneSo asked read [] net none
gone_none asked read net is opened = record { is = is; past = []; behind = behind_start net opened; follows = (refl, refl) }

pub gone_more : (asked : Asked) (read : List ℕ → Option (List ℕ)) (names : List (List ℕ)) (old new : Progress) (counts : Counts) (name : List ℕ) (found : Finding) (so : GoneSo asked read names old counts) → found.verdict ≡ verdict.Run → IsNextFound asked old.wiring so.past (read name) false new found
    → new.wiring ≡ old.wiring → StandsSomewhere new → GoneSo asked read (names ++ name ∷ []) new (sum counts found.counts)
gone_more asked read names old new counts name found so run is same stands =
    let (next, goes, behind) = goes_next asked old.wiring so.past (read name) new found run is same stands in record {
      is = subst (IsOf asked) (sym same) so.is;
      past = next;
      behind = subst (λ (w : Wiring). IsBehind w new next) (sym same) behind;
      follows = subst (λ (w : Wiring). FollowsOn w read [] none (names ++ name ∷ []) next (sum counts found.counts)) (sym same) (follows_more old.wiring read [] none names so.past counts name next found.counts so.follows goes);
    }

-- at one of them it ends
pub ends_front : (asked : Asked) (read : List ℕ → Option (List ℕ)) (w : Wiring) (front : List (List ℕ)) (name other : List ℕ) (rest : List (List ℕ)) (past : List Entry) (total : Counts) (status : ℕ) (line : List ℕ) → IsOf asked w → FollowsOn w read [] none front past total
    → EndsAt asked w past (read name) name false status line → EndsAmong asked read (front ++ name ∷ other ∷ rest) status line
ends_front asked read w front name other rest past total status line is follows ends = record {
  wiring = w;
  net = is;
  front = front;
  name = name;
  rest = other ∷ rest;
  names_are = refl;
  past = past;
  total = total;
  follows = follows;
  ends = inl ends;
}

-- at the last one
pub ends_last : (asked : Asked) (read : List ℕ → Option (List ℕ)) (w : Wiring) (front : List (List ℕ)) (name : List ℕ) (past : List Entry) (total : Counts) (status : ℕ) (line : List ℕ) → IsOf asked w → FollowsOn w read [] none front past total
    → EndsAt asked w past (read name) name true status line ⊎ TellsRun asked w past total (read name) status line → EndsAmong asked read (front ++ name ∷ []) status line
ends_last asked read w front name past total status line is follows ends = record {
  wiring = w;
  net = is;
  front = front;
  name = name;
  rest = [];
  names_are = refl;
  past = past;
  total = total;
  follows = follows;
  ends = elim ends [ inl at ↦ inl at | inr run ↦ inr (refl, run) ];
}

joined_told : (asked : Asked) (read : List ℕ → Option (List ℕ)) (names : List (List ℕ)) (status : ℕ) (line : List ℕ) → EndsAmong asked read names status line → TellsJoined asked read names status line
joined_told asked read [] status line ends = absurd (some ends.front ends.names_are)
  where
    some : (front : List (List ℕ)) → [] ≡ front ++ ends.name ∷ ends.rest → ⊥
    some [] is = cc
    some (name ∷ front) is = cc
joined_told asked read (name ∷ names) status line ends = ends

module _ (asked : Asked) (json : Bool) (old new : Option (List ℕ)) where
  line_as : (Says Tells : ℕ → List ℕ → Type 0) (result : Result ℕ Fault) → ((status : ℕ) (line : List ℕ) → Says status line → Tells status line) → TellsLine asked Says json old new result → TellsLine asked Tells json old new result
  line_as Says Tells (Ok status) to (line, says, sent) = (line, to status line says, sent)
  line_as Says Tells (Err f) to (cause, sends) = (cause, λ plain. elim (sends plain) [ inl kept ↦ inl kept | inr (status, line, says, some) ↦ inr (status, line, to status line says, some) ])

  -- A piece ends it, or what the run has is told.
  module _ (read : List ℕ → Option (List ℕ)) (w : Wiring) (is : IsOf asked w) (names front : List (List ℕ)) (name : List ℕ) (past : List Entry) (total : Counts) (result : Result ℕ Fault) (follows : FollowsOn w read [] none front past total) where
    front_ends : (more : List (List ℕ)) (last : List ℕ) (status : ℕ) (line : List ℕ) → EndsAt asked w past (read name) name false status line → EndsAmong asked read (front ++ name ∷ (more ++ last ∷ [])) status line
    front_ends [] last status line ends = ends_front asked read w front name last [] past total status line is follows ends
    front_ends (m ∷ more) last status line ends = ends_front asked read w front name m (more ++ last ∷ []) past total status line is follows ends

    pub stops_front : (more : List (List ℕ)) (last : List ℕ) → names ≡ front ++ name ∷ (more ++ last ∷ []) → TellsLine asked (EndsAt asked w past (read name) name false) json old new result → ChecksJoined asked read names json old new result
    stops_front more last are tells =
        line_as _ (TellsJoined asked read names) result (λ status line ends. joined_told asked read names status line (subst (λ ns. EndsAmong asked read ns status line) (sym are) (front_ends more last status line ends))) tells

    last_ends : names ≡ front ++ name ∷ [] → (status : ℕ) (line : List ℕ) → EndsAt asked w past (read name) name true status line ⊎ TellsRun asked w past total (read name) status line → TellsJoined asked read names status line
    last_ends are status line ends = joined_told asked read names status line (subst (λ ns. EndsAmong asked read ns status line) (sym are) (ends_last asked read w front name past total status line is follows ends))

    pub stops_end : names ≡ front ++ name ∷ [] → TellsLine asked (EndsAt asked w past (read name) name true) json old new result → ChecksJoined asked read names json old new result
    stops_end are tells = line_as _ (TellsJoined asked read names) result (λ status line ends. last_ends are status line (inl ends)) tells

    pub runs_end : names ≡ front ++ name ∷ [] → TellsLine asked (TellsRun asked w past total (read name)) json old new result → ChecksJoined asked read names json old new result
    runs_end are tells = line_as _ (TellsJoined asked read names) result (λ status line run. last_ends are status line (inr run)) tells

  -- A line of this verdict with this status.
  module _ (Says : ℕ → List ℕ → Type 0) (front : List ℕ) (found : Finding) (status : ℕ) (says : found.verdict ≢ verdict.Memory → Says status (front ++ verdict_text found)) where
    line_sent : {A : Type 0} (a : A) → found.verdict ≢ verdict.Memory → (json ≡ false → TellsVerdict {A = A} front found old new (Ok a)) → TellsLine asked Says json old new (Ok status)
    line_sent a told tells = (front ++ verdict_text found, says told, λ plain. verdict_sent front found old new a (tells plain))

    line_cut : {A : Type 0} (f : Fault) → (json ≡ false → TellsVerdict {A = A} front found old new (Err f)) → IsLate f → TellsLine asked Says json old new (Err f)
    line_cut {A = A} f tells late = (
      late_cause asked f late,
      λ plain. elim (verdict_cut {A = A} front found old new f (tells plain)) [
        | inl kept ↦ inl kept
        | inr (line, is, some) ↦ inr (status, line, subst (λ (l : List ℕ). Says status l) (sym is.1) (says is.0), some)
      ],
    )

  -- what the run has was told
  pub run_told : (w : Wiring) (past : List Entry) (total : Counts) (text : Option (List ℕ)) (net : Progress) (found : Finding) (result : Result ℕ Fault) → IsNextFound asked w past text true net found → found.verdict ≡ verdict.Run
      → IfOk result (λ status. status ≡ (if is_passed found then 0 else 1)) → OnOk result (found.verdict ≢ verdict.Memory) → (json ≡ false → TellsVerdict [] (record found { counts = sum total found.counts }) old new result) → IfErr result IsLate
      → TellsLine asked (TellsRun asked w past total text) json old new result
  run_told w past total text net found (Ok status) is run so told tells late =
      line_sent (TellsRun asked w past total text) [] (record found { counts = sum total found.counts }) status (λ not. (net, found, is, run, (not, refl), so)) status told tells
  run_told w past total text net found (Err f) is run so told tells late =
      line_cut (TellsRun asked w past total text) [] (record found { counts = sum total found.counts }) (if is_passed found then 0 else 1) (λ not. (net, found, is, run, (not, refl), refl)) {A = ℕ} f tells late

  -- Of the next piece.
  module _ (w : Wiring) (past : List Entry) (text : Option (List ℕ)) (name : List ℕ) (last : Bool) where
    -- that it is none
    pub stop_told : (net : Progress) (found : Finding) (result : Result Next Fault) → IsNextFound asked w past text last net found → found.verdict ≢ verdict.Run → IfOk result (λ next. next ≡ Ends 1) → OnOk result (found.verdict ≢ verdict.Memory)
        → (json ≡ false → TellsVerdict (front_text name) found old new result) → IfErr result IsLate → ChecksNext asked w past text name last json old new result
    stop_told net found (Ok next) is none ends told tells late =
        subst (λ n. ChecksNext asked w past text name last json old new (Ok n)) (sym ends) (line_sent (EndsAt asked w past text name last) (front_text name) found 1 (λ not. inr (refl, (net, found, is, none, (not, refl)))) next told tells)
    stop_told net found (Err f) is none ends told tells late = line_cut (EndsAt asked w past text name last) (front_text name) found 1 (λ not. inr (refl, (net, found, is, none, (not, refl)))) {A = Next} f tells late

    -- that it can't be read
    pub unread_piece : (told : Result ⊤ Fault) (result : Result Next Fault) → IsUnreadPiece told result → (json ≡ false → SendsText (unread_text name) old new told) → IfErr told IsLate → ChecksNext asked w past text name last json old new result
    unread_piece (Ok u) result is sends late = subst (λ r. ChecksNext asked w past text name last json old new r) (sym is) (unread_text name, inl (refl, refl), sends)
    unread_piece (Err f) result is sends late =
        subst (λ r. ChecksNext asked w past text name last json old new r) (sym is) (late_cause asked f late, λ plain. inr (2, unread_text name, inl (refl, refl), (sends plain).1))

-- nothing was told of it
pub stops_piece : (asked : Asked) (w : Wiring) (past : List Entry) (text : Option (List ℕ)) (name : List ℕ) (last json : Bool) (old : Option (List ℕ)) (f : Fault) → IsOfInput f → f ≢ fault.Read → ChecksNext asked w past text name last json old old (Err f)
stops_piece asked w past text name last json old f is other = (input_cause asked f is other, λ plain. inl (Keeps-refl old))

-- Of pieces by their names, of which these are in front of the last one.
module _ (asked : Asked) (read : List ℕ → Option (List ℕ)) (json : Bool) (old mid new : Option (List ℕ)) (kept : mid ≡ old) (names fronts : List (Bor (List ℕ))) (last : Bor (List ℕ)) (are : texts names ≡ texts fronts ++ last.now ∷ []) (net : Progress) (counts : Counts) (result : Result ℕ Fault) where
  -- one of them ends it
  pub stops_among : (i : ℕ) (d : Bor (List ℕ)) → i < length fronts → (so : GoneSo asked read (texts (take i fronts)) net counts)
      → TellsLine asked (EndsAt asked net.wiring so.past (read (get_or fronts i d).now) (get_or fronts i d).now false) json mid new result → ChecksJoined asked read (texts names) json old new result
  stops_among i d lt so tells =
      let name = (get_or fronts i d).now in
      stops_front asked json old new read net.wiring so.is (texts names) (texts (take i fronts)) name so.past counts result so.follows (texts (drop (suc i) fronts)) last.now
      (are ∙ (ap (λ ns. ns ++ last.now ∷ []) (named_at fronts i d lt) ∙ append_assoc (texts (take i fronts)) (name ∷ texts (drop (suc i) fronts)) (last.now ∷ [])))
      (subst (λ o. TellsLine asked (EndsAt asked net.wiring so.past (read name) name false) json o new result) kept tells)

  -- the last one does
  pub stops_behind : (so : GoneSo asked read (texts fronts) net counts) → TellsLine asked (EndsAt asked net.wiring so.past (read last.now) last.now true) json mid new result → ChecksJoined asked read (texts names) json old new result
  stops_behind so tells =
      stops_end asked json old new read net.wiring so.is (texts names) (texts fronts) last.now so.past counts result so.follows are
      (subst (λ o. TellsLine asked (EndsAt asked net.wiring so.past (read last.now) last.now true) json o new result) kept tells)

  -- what the run has is told
  pub runs_behind : (so : GoneSo asked read (texts fronts) net counts) → TellsLine asked (TellsRun asked net.wiring so.past counts (read last.now)) json mid new result → ChecksJoined asked read (texts names) json old new result
  runs_behind so tells =
      runs_end asked json old new read net.wiring so.is (texts names) (texts fronts) last.now so.past counts result so.follows are
      (subst (λ o. TellsLine asked (TellsRun asked net.wiring so.past counts (read last.now)) json o new result) kept tells)

pub fronts_gone : (asked : Asked) (read : List ℕ → Option (List ℕ)) (fronts : List (Bor (List ℕ))) (net : Progress) (counts : Counts) (i : ℕ) → length fronts ≤ i → GoneSo asked read (texts (take i fronts)) net counts → GoneSo asked read (texts fronts) net counts
fronts_gone asked read fronts net counts i le so = subst (λ (ns : List (Bor (List ℕ))). GoneSo asked read (texts ns) net counts) (take_all i fronts le) so

-- no name
pub joined_none : (asked : Asked) (read : List ℕ → Option (List ℕ)) (names : List (Bor (List ℕ))) → length names ≡ 0 → TellsJoined asked read (texts names) 2 []
joined_none asked read [] none = (refl, refl)
joined_none asked read (name ∷ names) none = absurd (omega (arith, none))

pub names_split : (names fronts : List (Bor (List ℕ))) (last : Bor (List ℕ)) → names ≡ fronts ++ last ∷ [] → texts names ≡ texts fronts ++ last.now ∷ []
names_split names fronts last are = ap texts are ∙ map-append (λ name. name.now) fronts (last ∷ [])
