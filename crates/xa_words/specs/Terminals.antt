-- Whether somebody types what a command reads, and sees what it asks.
use Rattle.std.specs.Prelude.{Bool, ◌&&◌}
use Rattle.xa_words.specs.declared.terminals.Terminals.{Terminals}

abbrev pub are_both : Terminals → Bool
are_both terminals = terminals.input && terminals.errors
