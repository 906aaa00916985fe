-- What a flat net is, as callers see it.
use Rattle.std.specs.Prelude.{List, map}
use Rattle.bz_model.specs.declared.channel.Chan.{Chan}
use Rattle.bz_model.specs.declared.names.Port.{Port}
use Rattle.bz_model.specs.Names.{external}
use Rattle.bz_model.specs.Nets.{Site, Wiring}
use Rattle.bz_flat.specs.declared.flat.FlatComp.{FlatComp}
use Rattle.bz_flat.specs.declared.flat.Ends.{Ends}

-- the wiring, and the components with their ports at the two ends of each channel
pub record Plan : Type 0 where
  pub wiring : Wiring
  pub ends : List Ends

abbrev pub site_of : FlatComp → Site
site_of f = record { kind = f.kind; sizes = f.sizes; chans = f.chans.items }

abbrev pub sites_of : List FlatComp → List Site
sites_of comps = map site_of comps

abbrev pub wiring_of : List Chan → List FlatComp → List Port → Wiring
wiring_of chans comps ports = record { chans = chans; sites = sites_of comps; ports = map external ports }
