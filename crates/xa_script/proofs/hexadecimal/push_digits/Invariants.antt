use Rattle.std.proofs.Common.{◌≡◌, ◌++◌, take}
use Rattle.xa_xid.specs.Spelling.{hex}
use Rattle.xa_script.proofs.hexadecimal.push_digits.Given as goal

abbrev pub invariant-loop-byte : goal.invariant-loop-byte
invariant-loop-byte l = l.text.items ≡ l.initial.text.items ++ hex (take l.byte-index l.bytes)
