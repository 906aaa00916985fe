-- Texts as XML 1.0 has them.
use Rattle.std.specs.Prelude.{ℕ, Bool, ◌==◌, ◌&&◌, ◌||◌, nat_le}

-- it has a place for a tab, a line feed, a carriage return, and for all from the blank on but U+FFFE and U+FFFF
unfoldable pub has_place : ℕ → Bool
has_place c = (((c == 9 || c == 10) || c == 13) || (nat_le 32 c && nat_le c 0xFFFD)) || nat_le 0x10000 c
