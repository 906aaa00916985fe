-- The records of parts, as contracts see them.
use Rattle.std.specs.Prelude.{ℕ, Bool, List, map}
use Rattle.bz_model.specs.Names.{External, external}
use Rattle.bz_model.specs.declared.channel.Chan.{Chan}
use Rattle.bz_model.specs.declared.kind.Param.{Param}
use Rattle.bz_model.specs.declared.kind.Param.TheVariants.{Num, Flag, Word}
use Rattle.bz_breeze_records.specs.declared.part.Part.{Part}
use Rattle.bz_breeze_records.specs.declared.part.Component.{Component}
use Rattle.bz_breeze_records.specs.declared.part.Slot.{Slot}
use Rattle.bz_breeze_records.specs.declared.part.Slot.TheVariants.{One, Many}

pub data ParamRecord : Type 0 where
  num : ℕ → ParamRecord
  flag : Bool → ParamRecord
  word : List ℕ → ParamRecord

pub data SlotRecord : Type 0 where
  one : ℕ → SlotRecord
  many : List ℕ → SlotRecord

pub record ComponentRecord : Type 0 where
  pub name : List ℕ
  pub params : List ParamRecord
  pub entries : List SlotRecord

pub record PartRecord : Type 0 where
  pub name : List ℕ
  pub ports : List External
  pub channels : List Chan
  pub components : List ComponentRecord

abbrev pub param_record : Param → ParamRecord
param_record (Num n) = num n
param_record (Flag b) = flag b
param_record (Word v) = word v.items

abbrev pub slot_record : Slot → SlotRecord
slot_record (One n) = one n
slot_record (Many v) = many v.items

abbrev pub component_record : Component → ComponentRecord
component_record c = record { name = c.name.items; params = map param_record c.params.items; entries = map slot_record c.entries.items }

abbrev pub part_record : Part → PartRecord
part_record p = record { name = p.name.items; ports = map external p.ports.items; channels = p.channels.items; components = map component_record p.components.items }
