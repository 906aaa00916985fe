use Rattle.std.proofs.Common.{◌≡◌, ℕ, Bool, ◌&&◌, List, arith, ap, ap₂, map, ◌∙◌, sym}
use Rattle.std.specs.List.{list_all}
use Rattle.std.proofs.lemmas.List.{take_all}
use Rattle.std.proofs.lemmas.List.Folds.{list_all-map, list_all_at, list_all_more}
use Rattle.bz_model.specs.declared.channel.Chan.{Chan}
use Rattle.bz_model.specs.declared.kind.Kind.{Kind}
use Rattle.bz_model.specs.Rows as model
use Rattle.bz_model.specs.Rows.{rows, kind_name, chans_at, is_met, number_of, asks_widths}
use Rattle.bz_kind_rows.specs.declared.rows.KindRow.{KindRow}
use Rattle.bz_kind_rows.specs.declared.rows.WidthRule.{WidthRule}
use Rattle.bz_kind_rows.specs.Table.{seen, seen_rule, seen_row}
use Rattle.bz_kind_rows.proofs.table.are_asked.Goals as goal

-- each rule of the row as the code has it is one of the row's
module _ (kind : Kind) (sizes : List ℕ) (chans : List Chan) (row : KindRow) where
  abbrev met : WidthRule → Bool
  met rule = is_met (chans_at (map seen row.ports.now) sizes chans) (number_of kind) (seen_rule rule)

  abbrev asks : model.KindRow → Bool
  asks r = list_all (is_met (chans_at r.ports sizes chans) (number_of kind)) r.widths

  all_met : seen_row row ≡ rows (kind_name kind) → list_all met row.widths.now ≡ asks_widths kind sizes chans
  all_met same = sym (list_all-map (is_met (chans_at (map seen row.ports.now) sizes chans) (number_of kind)) seen_rule row.widths.now) ∙ ap asks same

pub loop-rule-preserved : goal.loop-rule-preserved
loop-rule-preserved c =
    let met = met c.args.kind.now c.args.sizes c.args.chans.now c.row_of-row.result.now in
    list_all_more met c.row_of-row.result.now.widths.now c.loop-rule.rule-index _ (omega arith) ∙ ap₂ (λ a b. a && b) c.loop-rule.invariant (sym c.is_met.ensures ∙ c.if-not-is_met.false)

pub returns-then-not-is_met : goal.returns-then-not-is_met
returns-then-not-is_met c =
    let met = met c.args.kind.now c.args.sizes c.args.chans.now c.row_of-row.result.now in
    sym (list_all_at met c.row_of-row.result.now.widths.now c.loop-rule.rule-index _ (omega arith) (sym c.is_met.ensures ∙ c.if-not-is_met.true)) ∙ all_met c.args.kind.now c.args.sizes c.args.chans.now c.row_of-row.result.now c.row_of-row.ensures

pub returns : goal.returns
returns c =
    let row = c.row_of-row.result.now in
    let met = met c.args.kind.now c.args.sizes c.args.chans.now row in
    sym c.loop-rule.invariant ∙ ap (list_all met) (take_all c.loop-rule.rule-index row.widths.now (omega arith)) ∙ all_met c.args.kind.now c.args.sizes c.args.chans.now row c.row_of-row.ensures
