-- What the command `page` answers.
use Rattle.std.proofs.Common.{◌≡◌, ◌≤◌, ◌∙◌, ◌++◌, ℕ, false, List, Option, length, ap, sym, subst}
use Rattle.std.specs.declared.alloc.Global.{Global}
use Rattle.std.specs.declared.vec.Vec.{Vec}
use Rattle.std.specs.Prelude.{Result, Ok, Err}
use Rattle.std.proofs.lemmas.List.{length-map}
use Rattle.bz_model.specs.Nets.{Wiring}
use Rattle.bz_flat.specs.Flats.{site_of}
use Rattle.bz_flat.specs.declared.flat.Pieces.{Pieces}
use Rattle.bz_source.specs.Found.{Locates}
use Rattle.bz_source.specs.Net.{FindsNamed}
use Rattle.bz_source.specs.declared.source.Source.{Source}
use Rattle.bz_source.specs.declared.survey.Survey.{Survey}
use Rattle.bz_source.specs.declared.file.SourceFile.{SourceFile}
use Rattle.bz_cli_input.specs.declared.fault.Fault.{Fault}
use Rattle.bz_cli_input.specs.declared.fault.Fault.TheVariants as fault
use Rattle.bz_cli_input.proofs.Answered.{failed_as, sent_as}
use Rattle.bz_cli_source.specs.Surveys.{IsRead, wiring_in}
use Rattle.bz_cli_trace.specs.declared.case.Case.{Case}
use Rattle.bz_cli_trace.specs.declared.unmade.Unmade.TheVariants.{Command}
use Rattle.bz_cli_trace.specs.Judging.{IsCase}
use Rattle.bz_page.specs.Pages.{Blank, page_text}
use Rattle.bz_page.specs.Sources.{files_rows}
use Rattle.bz_page.specs.Paging.{IsInPieces, IsPage, IsPageOf, IsPlacedOf, PagesCase, PagesNet, RefusesPage, net_page}

-- a page of texts that are known to be these
pub page_is : (b : Blank) (list listed rows told trace : List ℕ) → list ≡ listed → rows ≡ told → page_text b list rows trace ≡ page_text b listed told trace
page_is b list listed rows told trace is are = ap (λ l. page_text b l rows trace) is ∙ ap (λ r. page_text b listed r trace) are

-- a net in its pieces, and the places in it
pub placed_of : (c : Case) (w : Wiring) (source : Source) (part : Vec ℕ Global) (called : List ℕ) (net : Pieces) (s : Survey) → w ≡ c.judged.net.wiring → source ≡ c.source → part ≡ c.part → called ≡ part.items → IsInPieces w net
    → s.parts ≡ source.parts → s.lines ≡ source.lines → Locates source.parts called s.places → FindsNamed source.parts called s.places → length w.sites ≤ 100000 → IsPlacedOf c part.items net s
placed_of c w source part called net s same of named_is so is parts lines places named few = record {
  pieces = record { wiring = sym same ∙ is.wiring; wired = is.wired; ends = is.ends };
  named_is = ap (λ p. p.items) named_is;
  parts = parts ∙ ap (λ o. o.parts) of;
  lines = lines ∙ ap (λ o. o.lines) of;
  places = subst (λ p. Locates p part.items s.places) (sym parts) (subst (λ n. Locates source.parts n s.places) so places);
  named = subst (λ p. FindsNamed p part.items s.places) (sym parts) (subst (λ n. FindsNamed source.parts n s.places) so named);
  few = subst (λ n. n ≤ 100000) (ap (λ v. length v.sites) is.wiring ∙ length-map net.comps site_of) few;
}

-- what went out of the page of a case that has one, and what was answered
module _ (b : Blank) (c : Case) (trace : List ℕ) (name : List ℕ) (net : Pieces) (s : Survey) (files : List SourceFile) (ends : List ℕ) (has : IsPlacedOf c name net s) (old new : Option (List ℕ)) where
  pub paged : PagesNet {A = Unit {0}} b name net s trace (files_rows files ++ ends) old new (Ok tt) → PagesCase {A = Unit {0}} b c trace files old new (Ok tt)
  paged out = sent_as Command fault.Write (λ (u : Unit {0}) page. page ≡ net_page b name net s trace (files_rows files ++ ends)) (λ f. f ≡ fault.Memory) (λ (u : Unit {0}) page. IsPageOf b c trace files page) (RefusesPage c) old new tt tt
      (λ page is. (name, net, s, ends, has, is)) out

  pub paged_short : (f : Fault) → PagesNet {A = Unit {0}} b name net s trace (files_rows files ++ ends) old new (Err f) → PagesCase {A = Unit {0}} b c trace files old new (Err (Command f))
  paged_short f out = failed_as Command fault.Write (λ (u : Unit {0}) page. page ≡ net_page b name net s trace (files_rows files ++ ends)) (λ f. f ≡ fault.Memory) (λ (u : Unit {0}) page. IsPageOf b c trace files page) (RefusesPage c) old new f tt
      (λ u page is. (name, net, s, ends, has, is)) (λ is. is) out

-- a page of the net of a case is one of the net that its netlist denotes
pub page_of : (b : Blank) (netlist trace : List ℕ) (asked : Option (List ℕ)) (c : Case) (files : List SourceFile) (page : List ℕ) → IsCase false false netlist trace asked c → IsPageOf b c trace files page → IsPage b netlist c.judged.net.wiring asked trace files page
page_of b netlist trace asked c files page is (name, net, s, ends, placed, so) =
    let read-wired : IsRead netlist asked c.part.items (wiring_in net) c.source.parts c.source.lines.items = subst (λ w. IsRead netlist asked c.part.items w c.source.parts c.source.lines.items) placed.pieces.wiring is.read in
    let read-here : IsRead netlist asked name (wiring_in net) s.parts s.lines.items =
    subst (λ n. IsRead netlist asked n (wiring_in net) s.parts s.lines.items) (sym placed.named_is)
    (subst (λ l. IsRead netlist asked c.part.items (wiring_in net) s.parts l.items) (sym placed.lines) (subst (λ p. IsRead netlist asked c.part.items (wiring_in net) p c.source.lines.items) (sym placed.parts) read-wired)) in
    (name, net, s, ends, record { survey = record { source = read-here; places = placed.places; named = placed.named }; wired = placed.pieces.wired; ends = placed.pieces.ends }, placed.pieces.wiring, placed.few, so)
