use Rattle.std.proofs.Common.{◌≡◌, ◌++◌, take}
use Rattle.xa_script.specs.Texts.{spelled}
use Rattle.xa_script.proofs.text.push_spelled.Given as goal

abbrev pub invariant-loop-byte : goal.invariant-loop-byte
invariant-loop-byte l = l.text.items ≡ l.initial.text.items ++ spelled (take l.byte-index l.bytes)
