-- What the command `page` reads and writes: a netlist, a trace, and a page.
use Rattle.std.specs.Prelude.{◌≡◌, ◌<◌, ◌≤◌, ◌++◌, ℕ, List, length, map, Option, Result, Ok, Err}
use Rattle.std.specs.declared.alloc.Global.{Global}
use Rattle.std.specs.declared.vec.Vec.{Vec}
use Rattle.bz_model.specs.Nets.{Wiring}
use Rattle.bz_flat.specs.Flats.{site_of}
use Rattle.bz_flat.specs.Wires.{EndsOf, WellWired}
use Rattle.bz_flat.specs.declared.flat.Pieces.{Pieces}
use Rattle.bz_source.specs.Found.{Locates}
use Rattle.bz_source.specs.Net.{FindsNamed}
use Rattle.bz_source.specs.declared.survey.Survey.{Survey}
use Rattle.bz_source.specs.declared.file.SourceFile.{SourceFile}
use Rattle.bz_cli_input.specs.declared.fault.Fault.{Fault}
use Rattle.bz_cli_input.specs.declared.fault.Fault.TheVariants.{Write, Memory}
use Rattle.bz_cli_input.specs.Answering.{Answers}
use Rattle.bz_cli_source.specs.Surveys.{IsPlaced, wiring_in}
use Rattle.bz_cli_source.specs.Listing.{paths_text}
use Rattle.bz_cli_trace.specs.declared.unmade.Unmade.{Unmade}
use Rattle.bz_cli_trace.specs.declared.unmade.Unmade.TheVariants.{Command}
use Rattle.bz_cli_trace.specs.declared.case.Case.{Case}
use Rattle.bz_cli_trace.specs.Making.{RefusesMaking}
use Rattle.bz_page.specs.declared.fault.TooLarge.{TooLarge}
use Rattle.bz_page.specs.Pages.{Blank, page_text}
use Rattle.bz_page.specs.Rows.{rows_text}
use Rattle.bz_page.specs.Sources.{files_rows}

-- a net has so many components, and that is more than a page holds
abbrev pub IsTooLarge : Wiring → TooLarge → Type 0
IsTooLarge w large = (large.comps ≡ length w.sites) × (100000 < large.comps)

-- These are the pieces of a net of this wiring.
pub record IsInPieces (w : Wiring) (net : Pieces) : Type 0 where
  pub wiring : w ≡ wiring_in net
  pub wired : WellWired (wiring_in net)
  pub ends : EndsOf (wiring_in net) net.ends.items

-- These are the pieces of the net that a trace was judged on, and the places in it, by the name of its part.
pub record IsPlacedOf (c : Case) (name : List ℕ) (net : Pieces) (s : Survey) : Type 0 where
  pub pieces : IsInPieces c.judged.net.wiring net
  pub named_is : name ≡ c.part.items
  pub parts : s.parts ≡ c.source.parts
  pub lines : s.lines ≡ c.source.lines
  pub places : Locates s.parts name s.places
  pub named : FindsNamed s.parts name s.places
  pub few : length net.comps ≤ 100000

-- There are such pieces and places, or the net has more components than a page holds, or memory was refused.
abbrev pub Places : Case → Result (Pieces × Survey × Vec ℕ Global × Vec ℕ Global) (Unmade TooLarge) → Type 0
Places c (Ok found) = IsPlacedOf c found.2.items found.0 found.1
Places c (Err fault) = RefusesMaking (IsTooLarge c.judged.net.wiring) fault

-- the page of a net and a trace: its list is what `list --paths` writes of the net
abbrev pub net_page : Blank → List ℕ → Pieces → Survey → List ℕ → List ℕ → List ℕ
net_page b part net s trace ends = page_text b (paths_text net s part) (rows_text s (map site_of net.comps) ends) trace

-- It goes out, or memory was refused.
abbrev pub PagesNet : {A : Type 0} → Blank → List ℕ → Pieces → Survey → List ℕ → List ℕ → Option (List ℕ) → Option (List ℕ) → Result A Fault → Type 0
PagesNet b part net s trace ends old new answer = Answers Write (λ u page. page ≡ net_page b part net s trace ends) (λ fault. fault ≡ Memory) old new answer

-- the page of the net of a case, with the trace that was judged on it, which is that of a run, and with these files of the source; which
-- lines tell how the run ended is not said
abbrev pub IsPageOf : Blank → Case → List ℕ → List SourceFile → List ℕ → Type 0
IsPageOf b c trace files page =
    (name : List ℕ) × (net : Pieces) × (s : Survey) × (ends : List ℕ) × IsPlacedOf c name net s
    × (page ≡ net_page b name net s trace (files_rows files ++ ends))

-- Why there is none: memory was refused, or the net has more components than a page holds.
abbrev pub RefusesPage : Case → Unmade TooLarge → Type 0
RefusesPage c fault = RefusesMaking (IsTooLarge c.judged.net.wiring) fault

-- It goes out, or there is none.
abbrev pub PagesCase : {A : Type 0} → Blank → Case → List ℕ → List SourceFile → Option (List ℕ) → Option (List ℕ) → Result A (Unmade TooLarge) → Type 0
PagesCase b c trace files old new answer = Answers (Command Write) (λ u page. IsPageOf b c trace files page) (RefusesPage c) old new answer

-- the page of the net that a netlist denotes, with a trace, and with these files of the source
abbrev pub IsPage : Blank → List ℕ → Wiring → Option (List ℕ) → List ℕ → List SourceFile → List ℕ → Type 0
IsPage b netlist w asked trace files page =
    (name : List ℕ) × (net : Pieces) × (s : Survey) × (ends : List ℕ) × IsPlaced netlist asked name net s × (w ≡ wiring_in net) × (length net.comps ≤ 100000)
    × (page ≡ net_page b name net s trace (files_rows files ++ ends))
