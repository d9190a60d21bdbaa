-- A number that a text spells, as a word of 32 bits.
use Rattle.std.specs.Prelude.{cond, ℕ, ltb}

-- a number that does not fit counts as the largest word
abbrev pub in_word : ℕ → ℕ
in_word y = cond (ltb y 4294967296) y 4294967295
