-- The texts of a page, as they grow.
use Rattle.std.proofs.Common.{codes, ◌≡◌, ℕ, Option, Some, None, List, [], ◌++◌, map, refl, sym, ap, ◌∙◌, subst, append_assoc}
use Rattle.std.specs.Prelude.{IfSome}
use Rattle.std.specs.List.{flat_map}
use Rattle.std.specs.Option.{option_and_then}
use Rattle.std.proofs.lemmas.List.{append-nil}
use Rattle.std.proofs.lemmas.List.Folds.{flat_map-map}
use Rattle.bz_model.specs.Names.{numbered}
use Rattle.bz_model.specs.Nets.{Site}
use Rattle.bz_text.specs.Growing.{Grows}
pub use Rattle.bz_text.proofs.Grown.{grows_nothing, grows_then, grows_all}
use Rattle.bz_model.specs.Clashes.{may_meet}
use Rattle.bz_model.specs.Rows.{KindRow as Row, rows, all_names, word_of}
use Rattle.bz_kind_rows.specs.Table.{seen_row}
use Rattle.bz_kind_rows.specs.declared.rows.KindRow.{KindRow}
use Rattle.bz_source.specs.Details.{Detail}
use Rattle.bz_source.specs.Views.{detail_of_comp}
use Rattle.bz_source.specs.declared.survey.Survey.{Survey}
use Rattle.bz_cli_input.specs.Listing.{lines}
pub use Rattle.bz_cli_input.proofs.Lines.{grown_line}
use Rattle.bz_page.specs.Rows.{detail_line, kind_line, kind_lines, line_of, mark, marks_and_sign, port_word, rows_text, told_detail}

pub kinds_grown : (sites : List Site) (table : List KindRow) (a b : Option (List ℕ)) → map rows all_names ≡ map seen_row table → Grows a b (flat_map (λ row. line_of sites (seen_row row)) table) → Grows a b (kind_lines sites)
unfolding kind_lines
kinds_grown sites table a b is grown =
    let line = line_of sites in
    subst (Grows a b) (sym (sym (flat_map-map line rows all_names) ∙ ap (flat_map line) is ∙ flat_map-map line seen_row table)) grown

-- the pieces behind a kind's ports
pub marks_grown : (row : Row) (variable ordered hub meet sign : List ℕ) (a b : Option (List ℕ))
    → variable ≡ mark row.is_variable (codes " variable") → ordered ≡ mark row.has_ordered_ports (codes " ordered") → hub ≡ mark row.is_hub (codes " hub") → meet ≡ mark (may_meet row.callers) (codes " meet") → sign ≡ row.sign
    → Grows a b (variable ++ (ordered ++ (hub ++ (meet ++ (codes " s:" ++ (sign ++ codes "\n")))))) → Grows a b (marks_and_sign row)
marks_grown row variable ordered hub meet sign a b v o h m s grown = rw (v, o, h, m, s) at grown

-- the pieces of a kind's line
pub kind_grown : (row : KindRow) (word : List ℕ) (a b c d : Option (List ℕ)) → word ≡ word_of (seen_row row)
    → Grows a b (codes "row " ++ (word ++ [])) → Grows b c (flat_map port_word (seen_row row).ports) → Grows c d (marks_and_sign (seen_row row)) → Grows a d (kind_line (seen_row row))
kind_grown row word a b c d named p q r =
    let words = flat_map port_word (seen_row row).ports in let rest = marks_and_sign (seen_row row) in
    let whole : ((codes "row " ++ (word ++ [])) ++ words) ++ rest ≡ codes "row " ++ (word ++ (words ++ rest)) =
    ap (λ s. ((codes "row " ++ s) ++ words) ++ rest) (append-nil word) ∙ append_assoc (codes "row " ++ word) words rest ∙ append_assoc (codes "row ") word (words ++ rest) in
    subst (Grows a d) (whole ∙ ap (λ s. codes "row " ++ (s ++ (words ++ rest))) named) (grows_then a c d _ rest (grows_then a b c _ words p q) r)

pub detail_line_is : (s : Survey) (k : ℕ) (site : Site) (detail : Detail) → option_and_then (detail_of_comp s.parts site.kind) (numbered s.places.comps k) ≡ Some detail → detail_line s k site ≡ told_detail k detail
detail_line_is s k site detail e = rw (e, detail_line) refl

pub detail_line_none : (s : Survey) (k : ℕ) (site : Site) → option_and_then (detail_of_comp s.parts site.kind) (numbered s.places.comps k) ≡ None → detail_line s k site ≡ []
detail_line_none s k site e = rw (e, detail_line) refl

-- a text that began with nothing
pub rows_grown : (s : Survey) (sites : List Site) (ends : List ℕ) (a b c : Option (List ℕ)) → Grows (Some []) a (kind_lines sites) → Grows a b (lines (detail_line s) 1 sites) → Grows b c ends → IfSome c (λ rows. rows ≡ rows_text s sites ends)
rows_grown s sites ends a b None kinds details end = tt
rows_grown s sites ends a b (Some rows) kinds details end =
    let told = lines (detail_line s) 1 sites in
    grows_then (Some []) b (Some rows) (kind_lines sites ++ told) ends (grows_then (Some []) a b (kind_lines sites) told kinds details) end ∙ append_assoc (kind_lines sites) told ends

-- a text of which no part is lost
pub rows_found : (o : Option (List ℕ)) (rows : List ℕ) (P : List ℕ → Type 0) → o ≡ Some rows → IfSome o P → P rows
rows_found o rows P is has = subst (λ x. IfSome x P) is has
