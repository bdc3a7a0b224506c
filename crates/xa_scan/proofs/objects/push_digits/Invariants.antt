use Rattle.std.proofs.Common.{◌≡◌, ◌++◌, take}
use Rattle.xa_xid.specs.Spelling.{hex}
use Rattle.xa_scan.proofs.objects.push_digits.Given as goal

abbrev pub invariant-loop-byte : goal.invariant-loop-byte
invariant-loop-byte l = l.line.items ≡ l.initial.line.items ++ hex (take l.byte-index l.bytes)
