-- Where everything stands on a chart, in pixels: rows of 16, columns of 64, letters of 7.
use Rattle.std.specs.Prelude.{ℕ, zero, suc, ◌+◌, ◌*◌, ◌-◌, ◌/◌, ◌%◌, ◌^◌, ◌≤◌, ◌<◌, min, max}
use Rattle.std.specs.Int.{div_ceil}
use Rattle.bz_chart_layout.specs.declared.layout.Layout.{Layout}

-- so many pixels are before it, and it is within the numbers of a machine
abbrev pub HasRoom : ℕ → ℕ → Type 0
HasRoom low n = (low ≤ n) × (n < 2 ^ 60)

-- a sign of 24 pixels can stand round it
abbrev pub IsClear : ℕ → Type 0
IsClear n = (12 ≤ n) × (n < 2 ^ 61)

-- where the numbers of the lines end, behind a margin of 8
abbrev pub numbers : Layout → ℕ
numbers l = 8 + 7 * l.digits

-- behind them their texts, with a gap of 8 before and one of 12 after
abbrev pub gutter : Layout → ℕ
gutter l = numbers l + 8 + 7 * l.letters + 12

-- the middle of a column
abbrev pub column : Layout → ℕ → ℕ
column l place = gutter l + 32 + 64 * place

abbrev pub right : Layout → ℕ
right l = gutter l + 64 * l.columns

-- names stand again after each 40 rows, while more than 8 are left
abbrev pub bands : Layout → ℕ → ℕ
bands l place = min (place / 40) ((l.rows - 9) / 40)

-- the middle of a row: a head of 116, and 60 for each band
abbrev pub row : Layout → ℕ → ℕ
row l place = 124 + 16 * place + 60 * bands l place

abbrev pub bottom_of : Layout → ℕ → ℕ
bottom_of l zero = 116
bottom_of l (suc last) = row l last + 8

abbrev pub bottom : Layout → ℕ
bottom l = bottom_of l l.rows

-- room for the last column's words, for the title, and for two columns of the legend
abbrev pub width : Layout → ℕ
width l = max (max (right l + 44) (20 + 8 * l.title)) 456

abbrev pub legend_columns : Layout → ℕ
legend_columns l = max ((width l - 16) / 220) 1

-- the legend stands below the names, in rows of 18
abbrev pub sign_column : Layout → ℕ → ℕ
sign_column l place = 12 + 220 * (place % legend_columns l)

abbrev pub sign_row : Layout → ℕ → ℕ
sign_row l place = bottom l + 80 + 18 * (place / legend_columns l)

abbrev pub height : Layout → ℕ
height l = bottom l + 80 + 18 * div_ceil l.signs (legend_columns l)
