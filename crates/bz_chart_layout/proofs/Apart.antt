-- What is drawn in different rows and columns lies apart, and all of it within the chart.
use Rattle.std.proofs.Common.{◌≡◌, ℕ, zero, suc, ◌+◌, ◌≤◌, ◌<◌, arith}
use Rattle.bz_chart_layout.specs.declared.layout.Layout.{Layout}
use Rattle.bz_chart_layout.specs.Layout.{bottom, bottom_of, column, gutter, height, right, row, width}

-- rows are 16 apart or more
pub rows_apart : (l : Layout) (place : ℕ) → row l place + 16 ≤ row l (suc place)
rows_apart l place = omega arith

rows_rise : (l : Layout) (one other : ℕ) → one ≤ other → row l one ≤ row l other
rows_rise l one other e = omega (arith, e)

-- columns are 64 apart, from the texts of the lines on
pub columns_apart : (l : Layout) (place : ℕ) → column l (suc place) ≡ column l place + 64
columns_apart l place = omega arith

pub behind_texts : (l : Layout) (place : ℕ) → gutter l + 32 ≤ column l place
behind_texts l place = omega arith

-- a column that there is has 32 to the right end, and the words behind it 44 more
pub column_within : (l : Layout) (place : ℕ) → place < l.columns → column l place + 32 ≤ right l
column_within l place e = omega (arith, e)

pub right_within : (l : Layout) → right l + 44 ≤ width l
right_within l = omega arith

-- a row that there is ends above the bottom, and the names below it are within the height
above_end : (l : Layout) (place rows : ℕ) → place < rows → row l place + 8 ≤ bottom_of l rows
above_end l place zero e = absurd (omega (arith, e))
above_end l place (suc last) e = omega (arith, rows_rise l place last (omega (arith, e)))

pub row_within : (l : Layout) (place : ℕ) → place < l.rows → row l place + 8 ≤ bottom l
row_within l place e = above_end l place l.rows e

pub names_within : (l : Layout) → bottom l + 60 ≤ height l
names_within l = omega arith
