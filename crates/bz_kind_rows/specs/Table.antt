-- Rows of kinds and of ports, as the code has them.
use Rattle.std.specs.Prelude.{ℕ, zero, suc, ◌-◌, nat_le, nat_lt, if◌then◌else◌, Option, None, Some, List, [], ◌∷◌, map}
use Rattle.bz_model.specs.Rows as model
use Rattle.bz_kind_rows.specs.declared.ports.PortRow.{PortRow}
use Rattle.bz_kind_rows.specs.declared.rows.WidthRule.{WidthRule}
use Rattle.bz_kind_rows.specs.declared.rows.WidthRule.TheVariants.{Equal, One, Sum, Within}
use Rattle.bz_kind_rows.specs.declared.rows.KindRow.{KindRow}
use Rattle.bz_kind_rows.specs.declared.table.PortAt.{PortAt}

-- the row of a port
abbrev pub seen : PortRow → model.PortRow
seen row = record { name = row.name.now; kind = row.kind; passive = row.passive; array = row.array }

-- a rule for widths
abbrev pub seen_rule : WidthRule → model.WidthRule
seen_rule (Equal places) = model.equal places.now
seen_rule (One places) = model.one_bit places.now
seen_rule (Sum whole places) = model.sum_of whole places.now
seen_rule (Within part whole) = model.within part whole

-- the row of a kind
abbrev pub seen_row : KindRow → model.KindRow
seen_row row = record {
  kind = row.kind;
  name = row.name.now;
  sign = row.sign.now;
  ports = map seen row.ports.now;
  lengths = row.lengths;
  widths = map seen_rule row.widths.now;
  parameters = row.parameters.now;
  detail = row.detail;
  entries = row.entries;
  callers = row.callers;
  activation = row.activation;
  branches = row.branches;
  is_variable = row.is_variable;
  has_ordered_ports = row.has_ordered_ports;
  is_hub = row.is_hub;
}

-- the row of a port, with the port's place in its array
abbrev pub seen_at : PortAt → model.PortRow × Option ℕ
seen_at at = (seen at.row.now, at.member)

-- the port at a place, counted from 0; its place in its array is counted from 1, and there is none in a row that is no array
abbrev pub port_in : List model.PortRow → List ℕ → ℕ → Option (model.PortRow × Option ℕ)
port_in [] sizes i = None
port_in (row ∷ rows) sizes i =
    if nat_lt i (model.count_of row sizes)
    then Some (row, (if row.array then Some (suc i) else None))
    else port_in rows (model.others_of row sizes) (i - model.count_of row sizes)

-- the port of a number, counted from 1
abbrev pub numbered_port : List model.PortRow → List ℕ → ℕ → Option (model.PortRow × Option ℕ)
numbered_port rows sizes zero = None
numbered_port rows sizes (suc i) = port_in rows sizes i

-- what is left of a width once these are taken from it
abbrev pub left_of : ℕ → List ℕ → Option ℕ
left_of whole [] = Some whole
left_of whole (w ∷ ws) = if nat_le w whole then left_of (whole - w) ws else None
