-- The text of the command `list`: a net's ports and components, a line for each.
use Rattle.std.specs.Prelude.{ℕ, suc, Bool, true, false, List, [], ◌∷◌, ◌++◌, length, codes, decimal}
use Rattle.std.specs.List.{flat_map}
use Rattle.bz_model.specs.declared.channel.Chan.{Chan}
use Rattle.bz_model.specs.Names.{External}
use Rattle.bz_model.specs.Nets.{Site, Wiring, chan_in}
use Rattle.bz_model.specs.Traces.{name_form}
use Rattle.bz_model.specs.Words.{carried_text, spaced}
use Rattle.bz_model.specs.Rows.{kind_word}

abbrev pub sense_text : Bool → List ℕ
sense_text true = codes "passive"
sense_text false = codes "active"

-- port k, and its channel
abbrev pub port_line : ℕ → External → Chan → List ℕ
port_line k port chan =
    codes "port " ++ (decimal k ++ (codes " " ++ (name_form port.name ++ (codes " " ++ (sense_text port.passive ++ (codes " " ++ (carried_text chan.kind chan.width ++ codes "\n")))))))

-- component k: its kind, and its channels in the order of its ports
abbrev pub comp_line : ℕ → Site → List ℕ
comp_line k site = codes "component " ++ (decimal k ++ (codes " " ++ (kind_word site.kind ++ (flat_map spaced site.chans ++ codes "\n"))))

-- a line for each of the list, numbered from k on
abbrev pub lines : {X : Type 0} → (ℕ → X → List ℕ) → ℕ → List X → List ℕ
lines line k [] = []
lines line k (x ∷ xs) = line k x ++ lines line (suc k) xs

abbrev pub head_text : List ℕ → List ℕ
head_text name = codes "part " ++ (name_form name ++ codes "\n")

abbrev pub counts_text : ℕ → ℕ → List ℕ
counts_text chans comps = codes "channels " ++ (decimal chans ++ (codes "\ncomponents " ++ (decimal comps ++ codes "\n")))

-- port k is channel k
abbrev pub ports_text : List Chan → List External → List ℕ
ports_text chans ports = lines (λ k port. port_line k port (chan_in chans k)) 1 ports

abbrev pub list_text : List ℕ → Wiring → List ℕ
list_text name w = head_text name ++ (ports_text w.chans w.ports ++ (counts_text (length w.chans) (length w.sites) ++ lines comp_line 1 w.sites))
